use Rattle.std.proofs.Common.{◌≡◌, ℕ, ◌<◌, sym, ap, ◌∙◌, refl, length, List, subst}
use Rattle.std.specs.Prelude.{Option, Some, None, slice_get}
use Rattle.session_agenda.specs.declared.moves.Move.{Move as Listed}
use Rattle.session_agenda.specs.declared.moves.Move.TheVariants as listed
use Rattle.session_agenda.specs.Kept as kept
use Rattle.session_agenda.specs.Placed.{placed}
use Rattle.session_runs.specs.Standing.{Move}
use Rattle.session_core.specs.Reading.{IsWithin}
use Rattle.session_core.proofs.ReadingFacts.{open_too, nth_is, delivery_within}
use Rattle.session_core.proofs.steps.Core.nth_now.Goals as goal

within : (count : ℕ) (places : List (List ℕ)) (x : Listed) → length places ≡ count → ((index : ℕ) → x ≡ listed.Deliver index → index < length places) → IsWithin count x
within count places (listed.Run name) e f = tt
within count places (listed.Ask name) e f = tt
within count places (listed.Deliver index) e f = subst (λ n. index < n) e (f index refl)

abbrev some_move : Move → Option Move
some_move m = Some m

pub move_at-requires : goal.move_at-requires
move_at-requires c =
    let r = c.requires in
    within (length c.args.self.now.world.places.items) r.places c.in-Some.listed (sym (ap (λ xs. length xs) r.is.played.names))
    (λ index e. delivery_within r.session r.keys r.places r.standing c.args.self.now r.is r.opened (c.moves_law.ensures r.session r.keys r.places r.standing c.args.self.now r.is r.opened) c.args.index index (sym c.nth.ensures ∙ c.in-Some.is ∙ ap (λ (x : Listed). Some x) e))

pub returns-in-Some : goal.returns-in-Some
returns-in-Some c session keys places standing i =
    let r = c.requires in
    let still = open_too r.session session r.keys keys r.places places r.standing standing c.args.self.now r.is i r.opened in
    ap (λ (m : Move). some_move m) (c.move_at.ensures ∙ ap (λ p. placed p c.in-Some.listed) i.played.names)
    ∙ sym (nth_is session keys places standing c.args.self.now i still (c.moves_law.ensures session keys places standing c.args.self.now i still) c.args.index (Some c.in-Some.listed) (sym c.in-Some.is ∙ c.nth.ensures))

pub returns-in-None : goal.returns-in-None
returns-in-None c session keys places standing i =
    let r = c.requires in
    let still = open_too r.session session r.keys keys r.places places r.standing standing c.args.self.now r.is i r.opened in
    sym (nth_is session keys places standing c.args.self.now i still (c.moves_law.ensures session keys places standing c.args.self.now i still) c.args.index None (sym c.in-None.is ∙ c.nth.ensures))
