-- The references passed so far are others.
use Rattle.std.proofs.Common.{◌≡◌, drop}
use Rattle.phrase_tree.specs.Repeats.{index_from}
use Rattle.reference_book.specs.References.{same_reference}
use Rattle.reference_book.proofs.repeat.index_of.Given as goal

abbrev pub invariant-loop-reference : goal.invariant-loop-reference
invariant-loop-reference l = record {
  counted : l.index ≡ l.reference-index;
  passed : index_from 0 (same_reference l.sought) l.references ≡ index_from l.index (same_reference l.sought) (drop l.reference-index l.references);
}
