use Rattle.std.proofs.Common.{arith, length-drop}
use Rattle.byte_ports.proofs.PortLemmas.{Took-front, Took-more, take-drop-rest}
use Rattle.byte_ports.proofs.writing.write_all_of.Goals as goal

pub loop-written-preserved : goal.loop-written-preserved
loop-written-preserved g c =
    let rest = take-drop-rest c.loop-written.written c.args.bytes.now in
    let count = rw rest at c.in-Ok.ensures.count in (
      omega (arith, count, length-drop c.loop-written.written c.args.bytes.now),
      Took-more _ _ _ c.args.bytes.now c.loop-written.written c.in-Ok.count c.loop-written.invariant.1 (rw rest at c.in-Ok.ensures.bytes),
      omega arith,
    )

pub returns-in-Err-clause-bytes : goal.returns-in-Err-clause-bytes
returns-in-Err-clause-bytes g c =
    Took-front _ _ _ c.args.bytes.now c.loop-written.written c.loop-written.invariant.1 c.in-Err.ensures.bytes
