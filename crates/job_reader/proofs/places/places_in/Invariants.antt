-- The places before the index were read.
use Rattle.std.proofs.Common.{◌≡◌, length}
use Rattle.job_reader.specs.Form.{place_in}
use Rattle.job_reader.specs.Reading.{IsReadTo}
use Rattle.job_reader.proofs.places.places_in.Given as goal

abbrev pub invariant-loop-index : goal.invariant-loop-index
invariant-loop-index l = record {
  counted : length l.places.items ≡ l.index;
  reading : IsReadTo place_in l.items l.index l.places.items;
}
