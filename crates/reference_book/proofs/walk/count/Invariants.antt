-- The references for the measurement so far are counted.
use Rattle.std.proofs.Common.{◌≡◌, ◌≤◌, ◌+◌, drop, length}
use Rattle.reference_book.specs.References.{answers_for}
use Rattle.reference_book.proofs.walk.count.Given as goal

abbrev pub invariant-loop-reference : goal.invariant-loop-reference
invariant-loop-reference l = record {
  few : l.count ≤ l.reference-index;
  counted : l.count + length (answers_for (drop l.reference-index l.references) l.sought.place l.sought.kind.now l.sought.asp.now) ≡ length (answers_for l.references l.sought.place l.sought.kind.now l.sought.asp.now);
}
