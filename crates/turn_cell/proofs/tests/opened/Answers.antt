use Rattle.std.proofs.Common.{ap, ◌∷◌}
use Rattle.turn_cell.specs.History.{entries}
use Rattle.turn_cell.specs.declared.chronicle.Entry.TheVariants.{Opened}
use Rattle.turn_cell.proofs.Opens.{three_passes, ready}
use Rattle.turn_cell.proofs.Diaries.{one_each}
use Rattle.turn_cell.proofs.tests.opened.Goals as goal

pub open-requires-clause-opening : goal.open-requires-clause-opening
open-requires-clause-opening g c = record { opening = record { text = c.new-diary.result.text }; is = ap (λ l. Opened record { text = c.new-diary.result.text } ∷ entries (one_each l)) c.new-diary.ensures.numbers }

pub returns : goal.returns
returns g c =
    let new = c.in-Ok.ensures.ok in
    let all = three_passes _ _ _ _ _ _ _ new.count c.in_ok-third.ensures.items c.in_ok-second.ensures.items c.in_ok-first.ensures.items in
    (ready _ _ _ _ _ _ _ 0 _ new all.0, ready _ _ _ _ _ _ _ 1 _ new all.1, ready _ _ _ _ _ _ _ 2 _ new all.2)
