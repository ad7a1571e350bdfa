-- So many references for the measurement are passed, and the one at the index is not among them.
use Rattle.std.proofs.Common.{◌≡◌, ◌≤◌, ◌-◌, drop, slice_get}
use Rattle.reference_book.specs.References.{answers_for}
use Rattle.reference_book.proofs.walk.nth.Given as goal

abbrev pub invariant-loop-reference : goal.invariant-loop-reference
invariant-loop-reference l = record {
  passed : l.passed ≤ l.index;
  left : slice_get (answers_for (drop l.reference-index l.references) l.sought.place l.sought.kind.now l.sought.asp.now) (l.index - l.passed) ≡ slice_get (answers_for l.references l.sought.place l.sought.kind.now l.sought.asp.now) l.index;
}
