-- The sessions so far were read.
use Rattle.std.proofs.Common.{take}
use Rattle.job_reader.specs.Texts.{written_sessions}
use Rattle.job_reader.specs.Testing.{AreReadFrom, read_sessions}
use Rattle.job_reader.proofs.phrases.read_all_sessions.Given as goal

abbrev pub invariant-loop-index : goal.invariant-loop-index
invariant-loop-index l = AreReadFrom (take l.index (written_sessions l.sessions)) (read_sessions l.list.items)
