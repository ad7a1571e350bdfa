-- A measurement with the event and the mark of its place is passed, and the walk goes on under it.
use Rattle.std.proofs.Common.{◌&&◌, sym, ap, ◌∙◌, nat_eq}
use Rattle.evidence_types.specs.Evidence.{evidence}
use Rattle.evidence_types.specs.Shape.{form}
use Rattle.appraiser.specs.Fit.{is_mark}
use Rattle.appraiser.proofs.WalkLemmas.{walked_usm, walked_kim}
use Rattle.appraiser.proofs.fitting.+walk.Goals as goal

pub returns-else-not-is_measured : goal.returns-else-not-is_measured
returns-else-not-is_measured t c =
    let at = c.in-Usm-Usm in
    rw (at.is-0, at.is-1)
    (walked_usm
    c.args.places.now c.args.number at.event at.own at.field-1-0 (evidence at.under.value) c.args.marks.now at.place at.field-2-1 (form at.below.value) c.walk.result
    (ap (λ mark. nat_eq at.event at.own && is_mark c.args.places.now mark at.place) (sym c.first_of.ensures) ∙ sym c.is_measured.ensures ∙ c.if-not-is_measured.false)
    (rw (c.deref-in-Usm-Usm.ensures, c.deref.ensures, c.behind_first.ensures) at c.walk.ensures))

pub returns-else-not-is_measured-2 : goal.returns-else-not-is_measured-2
returns-else-not-is_measured-2 t c =
    let at = c.in-Kim-Kim in
    rw (at.is-0, at.is-1)
    (walked_kim
    c.args.places.now c.args.number at.event at.own at.field-1-0 (evidence at.under.value) c.args.marks.now at.place at.field-2-1 at.field-3-1 (form at.below.value) c.walk-in-Kim-Kim.result
    (ap (λ mark. nat_eq at.event at.own && is_mark c.args.places.now mark at.place) (sym c.first_of-in-Kim-Kim.ensures) ∙ sym c.is_measured-in-Kim-Kim.ensures ∙ c.if-not-is_measured-2.false)
    (rw (c.deref-in-Kim-Kim-2.ensures, c.deref-in-Kim-Kim.ensures, c.behind_first-in-Kim-Kim.ensures) at c.walk-in-Kim-Kim.ensures))
