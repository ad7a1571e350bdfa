use Rattle.std.specs.Io.KnownBytes.{Keeps}
use Rattle.retrying_io.proofs.reader.RetryingReaderRead.read.Given as goal

-- Each try so far read nothing.
abbrev pub invariant-loop : goal.invariant-loop
invariant-loop g l = Keeps (g.R.Read.remaining l.fn.self.reader) (g.R.Read.remaining l.self.reader)
