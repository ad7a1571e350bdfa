-- The reference at the index is the answer, or it is not.
use Rattle.std.proofs.Common.{◌∙◌, sym, ap}
use Rattle.reference_book.specs.References.{answers_for}
use Rattle.appraiser.specs.Verdicts.{same}
use Rattle.appraiser.proofs.ListLemmas.{any_here, any_later}
use Rattle.appraiser.proofs.judging.is_expected.Goals as goal

pub returns-then-eq : goal.returns-then-eq
returns-then-eq c =
    any_here
    (λ other. same other c.args.answer.now)
    (answers_for c.args.references.now c.args.place c.args.kind.now c.args.asp.now)
    c.loop-index.index c.in-Some.other.now c.in-Some.ensures
    (ap (λ bytes. same bytes c.args.answer.now) (sym c.bytes.ensures.bytes) ∙ sym c.eq.ensures ∙ c.if-eq.true)
    c.loop-index.invariant

pub loop-index-preserved : goal.loop-index-preserved
loop-index-preserved c =
    any_later
    (λ other. same other c.args.answer.now)
    (answers_for c.args.references.now c.args.place c.args.kind.now c.args.asp.now)
    c.loop-index.index c.in-Some.other.now c.in-Some.ensures
    (ap (λ bytes. same bytes c.args.answer.now) (sym c.bytes.ensures.bytes) ∙ sym c.eq.ensures ∙ c.if-eq.false)
    c.loop-index.invariant
