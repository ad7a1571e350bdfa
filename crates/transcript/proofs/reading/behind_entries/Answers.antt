use Rattle.std.proofs.Common.{sym, ◌∙◌, arith}
use Rattle.transcript.proofs.ReadingLemmas.{entries_step, entries_fail, entries_over}
use Rattle.transcript.proofs.reading.behind_entries.Goals as goal

pub loop-left-preserved : goal.loop-left-preserved
loop-left-preserved c =
    entries_step c.loop-left.left c.loop-left.rest.now c.in-Ok.behind.now (omega (arith, c.loop-left-test.true)) c.in-Ok.ensures ∙ c.loop-left.invariant

pub returns-in-Err : goal.returns-in-Err
returns-in-Err c =
    sym c.loop-left.invariant ∙ entries_fail c.loop-left.left c.loop-left.rest.now c.in-Err.first (omega (arith, c.loop-left-test.true)) c.in-Err.ensures

pub returns : goal.returns
returns c =
    sym c.loop-left.invariant ∙ entries_over c.loop-left.left c.loop-left.rest.now (omega (arith, c.loop-left-test.false))
