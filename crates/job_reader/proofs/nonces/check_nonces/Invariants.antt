-- The index has the nonces of the sessions so far.
use Rattle.std.proofs.Common.{take}
use Rattle.job_reader.specs.Texts.{written_sessions}
use Rattle.job_reader.specs.Testing.{IsNonceIndex}
use Rattle.job_reader.proofs.nonces.check_nonces.Given as goal

abbrev pub invariant-loop-index : goal.invariant-loop-index
invariant-loop-index l = IsNonceIndex (take l.index (written_sessions l.sessions)) l.nonces
