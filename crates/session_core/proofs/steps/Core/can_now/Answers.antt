use Rattle.std.proofs.Common.{◌≡◌, List, sym, ◌∙◌, subst}
use Rattle.std.specs.Prelude.{Bool, false, IsTrue, Contains, ◌↔◌}
use Rattle.session_runs.specs.Standing.{Move as SessionMove}
use Rattle.session_book.specs.declared.entry.Move.{Move}
use Rattle.session_book.specs.declared.entry.Move.TheVariants.{Deliver}
use Rattle.machine_world.specs.Seen.{IsPlace}
use Rattle.session_book.specs.Entries.{move_of}
use Rattle.session_core.proofs.ReadingFacts.{open_too, runs_so, asks_so, delivers_so, no_delivery}
use Rattle.session_core.proofs.steps.Core.can_now.Goals as goal

both : {A B C : Type 0} → A ↔ B → B ↔ C → A ↔ C
both f g = (λ a. g.0 (f.0 a), λ z. f.1 (g.1 z))

-- the same for the move that it is
for_move : (b : Bool) (moves : List SessionMove) (one step : Move) → step ≡ one → IsTrue b ↔ Contains moves (move_of one) → IsTrue b ↔ Contains moves (move_of step)
for_move b moves one step e h = subst (λ m. IsTrue b ↔ Contains moves (move_of m)) (sym e) h

pub returns-in-Run : goal.returns-in-Run
returns-in-Run c session keys places standing i =
    let r = c.requires in
    let still = open_too r.session session r.keys keys r.places places r.standing standing c.args.self.now r.is i r.opened in
    for_move _ _ _ _ c.in-Run.is (both c.can.ensures (runs_so session keys places standing c.args.self.now i still (c.moves_law.ensures session keys places standing c.args.self.now i still) c.in-Run.name))

pub returns-in-Ask : goal.returns-in-Ask
returns-in-Ask c session keys places standing i =
    let r = c.requires in
    let still = open_too r.session session r.keys keys r.places places r.standing standing c.args.self.now r.is i r.opened in
    for_move _ _ _ _ c.in-Ask.is (both c.can-in-Ask.ensures (asks_so session keys places standing c.args.self.now i still (c.moves_law.ensures session keys places standing c.args.self.now i still) c.in-Ask.name))

pub returns-in-Some : goal.returns-in-Some
returns-in-Some c session keys places standing i =
    let r = c.requires in
    let still = open_too r.session session r.keys keys r.places places r.standing standing c.args.self.now r.is i r.opened in
    let at : IsPlace places c.in-Deliver.place c.in-Some.index = subst (λ ps. IsPlace ps c.in-Deliver.place c.in-Some.index) (c.places.ensures ∙ i.played.names) c.in-Some.ensures in
    for_move _ _ _ _ c.in-Deliver.is (both c.can-in-Some.ensures (delivers_so session keys places standing c.args.self.now i still (c.moves_law.ensures session keys places standing c.args.self.now i still) c.in-Deliver.place c.in-Some.index at))

no_move : (moves : List SessionMove) (one : Move) → (Contains moves (move_of one) → ⊥) → IsTrue false ↔ Contains moves (move_of one)
no_move moves one gone = (λ t. absurd (cc), λ h. absurd (gone h))

pub returns-in-None : goal.returns-in-None
returns-in-None c session keys places standing i =
    let r = c.requires in
    let still = open_too r.session session r.keys keys r.places places r.standing standing c.args.self.now r.is i r.opened in
    let gone : Contains places c.in-Deliver.place → ⊥ = λ h. c.in-None.ensures (subst (λ ps. Contains ps c.in-Deliver.place) (sym (c.places.ensures ∙ i.played.names)) h) in
    for_move _ _ _ _ c.in-Deliver.is (no_move _ (Deliver c.in-Deliver.place) (no_delivery session keys places standing c.args.self.now i still (c.moves_law.ensures session keys places standing c.args.self.now i still) c.in-Deliver.place gone))
