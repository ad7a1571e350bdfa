use Rattle.std.proofs.Common.{sym, ◌∙◌, arith}
use Rattle.transcript.proofs.ReadingLemmas.{head_step, head_fails, head_done}
use Rattle.transcript.proofs.reading.behind_bytes.Goals as goal

pub loop-byte-preserved : goal.loop-byte-preserved
loop-byte-preserved c =
    head_step c.args.wanted.now c.loop-byte.byte-index c.loop-byte.rest.now c.in-Ok.behind.now (omega (arith, c.loop-byte-test.true)) c.in-Ok.ensures ∙ c.loop-byte.invariant

pub returns-in-Err : goal.returns-in-Err
returns-in-Err c =
    sym c.loop-byte.invariant ∙ head_fails c.args.wanted.now c.loop-byte.byte-index c.loop-byte.rest.now c.in-Err.first (omega (arith, c.loop-byte-test.true)) c.in-Err.ensures

pub returns : goal.returns
returns c =
    sym c.loop-byte.invariant ∙ head_done c.args.wanted.now c.loop-byte.byte-index c.loop-byte.rest.now (omega (arith, c.loop-byte-test.false))
