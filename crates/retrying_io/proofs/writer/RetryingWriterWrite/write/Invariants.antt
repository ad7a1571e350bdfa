use Rattle.std.specs.Io.KnownBytes.{Keeps}
use Rattle.retrying_io.proofs.writer.RetryingWriterWrite.write.Given as goal

-- Each try so far wrote nothing.
abbrev pub invariant-loop : goal.invariant-loop
invariant-loop g l = Keeps (g.W.Write.contents l.fn.self.writer) (g.W.Write.contents l.self.writer)
