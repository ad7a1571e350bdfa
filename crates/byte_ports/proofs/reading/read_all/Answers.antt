use Rattle.std.proofs.Common.{arith, ◌∙◌}
use Rattle.byte_ports.proofs.PortLemmas.{Gave-more}
use Rattle.byte_ports.proofs.reading.read_all.Goals as goal

pub loop-filled-preserved : goal.loop-filled-preserved
loop-filled-preserved g c = (
  c.in-Ok.ensures.count,
  Gave-more _ _ _ _ c.read_more.new.buffer.items c.loop-filled.filled c.in-Ok.count c.loop-filled.invariant.1 (c.in-Ok.ensures.kept ∙ c.make_room.ensures.kept) c.in-Ok.ensures.bytes.0,
  omega arith,
)
