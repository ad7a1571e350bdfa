-- What was copied is what the loop has passed.
use Rattle.std.proofs.Common.{◌≡◌, ◌≤◌, length, take}
use Rattle.phrase_tree.proofs.measurement.Args.copy.Given as goal

abbrev pub invariant-loop-arg : goal.invariant-loop-arg
invariant-loop-arg l = (l.items.items ≡ take l.arg-index l.arg-items) × (length l.arg-items ≤ 4) × (l.arg-items ≡ l.self)
