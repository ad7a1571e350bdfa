-- The artefacts before the index were read.
use Rattle.std.proofs.Common.{◌≡◌, length}
use Rattle.job_reader.specs.Form.{artefact_in}
use Rattle.job_reader.specs.Reading.{IsReadTo}
use Rattle.job_reader.proofs.artefacts.artefacts_in.Given as goal

abbrev pub invariant-loop-index : goal.invariant-loop-index
invariant-loop-index l = record {
  counted : length l.artefacts.items ≡ l.index;
  reading : IsReadTo artefact_in l.items l.index l.artefacts.items;
}
