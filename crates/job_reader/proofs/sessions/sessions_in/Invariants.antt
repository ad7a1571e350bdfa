-- The sessions before the index were read.
use Rattle.std.proofs.Common.{◌≡◌, length}
use Rattle.job_reader.specs.Form.{session_in}
use Rattle.job_reader.specs.Reading.{IsReadTo}
use Rattle.job_reader.specs.Texts.{written_sessions}
use Rattle.job_reader.proofs.sessions.sessions_in.Given as goal

abbrev pub invariant-loop-index : goal.invariant-loop-index
invariant-loop-index l = record {
  counted : length l.sessions.items ≡ l.index;
  reading : IsReadTo session_in l.items l.index (written_sessions l.sessions.items);
}
