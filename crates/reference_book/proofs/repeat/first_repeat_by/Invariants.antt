-- No reference so far repeats an earlier one.
use Rattle.std.proofs.Common.{◌≡◌, ◌<◌, ℕ, None}
use Rattle.reference_book.specs.References.{repeats}
use Rattle.reference_book.proofs.repeat.first_repeat_by.Given as goal

abbrev pub invariant-loop-reference : goal.invariant-loop-reference
invariant-loop-reference l = record {
  counted : l.second ≡ l.reference-index;
  distinct : (index : ℕ) → index < l.second → repeats l.references index ≡ None;
}
