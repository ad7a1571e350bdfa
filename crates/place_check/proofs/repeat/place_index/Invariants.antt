-- The places passed so far have other names.
use Rattle.std.proofs.Common.{◌≡◌, drop}
use Rattle.phrase_tree.specs.Repeats.{index_from}
use Rattle.place_check.specs.Places.{is_named}
use Rattle.place_check.proofs.repeat.place_index.Given as goal

abbrev pub invariant-loop-entry : goal.invariant-loop-entry
invariant-loop-entry l = record {
  counted : l.index ≡ l.entry-index;
  passed : index_from 0 (is_named l.name) l.entries ≡ index_from l.index (is_named l.name) (drop l.entry-index l.entries);
}
