-- The text was read up to the offset.
use Rattle.std.proofs.Common.{◌≡◌, ◌≤◌, ◌-◌, length}
use Rattle.phrase_reader.specs.declared.reader.TheConstants.{TEXT_BYTES}
use Rattle.phrase_reader.specs.Machine.{state_of, finished, unfit}
use Rattle.phrase_reader.proofs.Progress.{Progress}
use Rattle.phrase_reader.proofs.reader.read_bytes.Given as goal

abbrev pub invariant-tokens : goal.invariant-tokens
invariant-tokens l = record {
  small : length l.text ≤ TEXT_BYTES;
  inside : l.offset ≤ length l.text;
  ready : l.reader.unfit ≡ unfit (finished (state_of l.reader.state));
  progress : Progress l.text l.offset (state_of l.reader.state) l.reader.events;
}

abbrev pub decreases-tokens : goal.decreases-tokens
decreases-tokens l = length l.text - l.offset
