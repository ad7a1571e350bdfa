-- No place so far repeats an earlier one.
use Rattle.std.proofs.Common.{◌≡◌, ◌<◌, ℕ, None}
use Rattle.place_check.specs.Places.{repeats}
use Rattle.place_check.proofs.repeat.first_repeat.Given as goal

abbrev pub invariant-loop-entry : goal.invariant-loop-entry
invariant-loop-entry l = record {
  counted : l.second ≡ l.entry-index;
  distinct : (index : ℕ) → index < l.second → repeats l.entries index ≡ None;
}
