-- The roots so far are places.
use Rattle.job_reader.specs.Testing.{HoldsBefore, IsRooted}
use Rattle.job_reader.specs.Texts.{written_sessions}
use Rattle.job_reader.proofs.roots.check_roots.Given as goal

abbrev pub invariant-loop-index : goal.invariant-loop-index
invariant-loop-index l = HoldsBefore (IsRooted l.places) (written_sessions l.sessions) l.index
