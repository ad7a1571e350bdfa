-- The references before the index were read.
use Rattle.std.proofs.Common.{◌≡◌, length}
use Rattle.job_reader.specs.Form.{reference_in}
use Rattle.job_reader.specs.Reading.{IsReadTo}
use Rattle.job_reader.proofs.references.references_in.Given as goal

abbrev pub invariant-loop-index : goal.invariant-loop-index
invariant-loop-index l = record {
  counted : length l.references.items ≡ l.index;
  reading : IsReadTo reference_in l.items l.index l.references.items;
}
