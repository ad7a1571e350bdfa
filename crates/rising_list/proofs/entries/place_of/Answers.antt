use Rattle.std.proofs.Common.{◌+◌, ◌-◌, ◌/◌, arith}
use Rattle.rising_list.proofs.RisingLemmas.{place-within, ahead, behind}
use Rattle.rising_list.proofs.entries.place_of.Goals as goal

pub loop-low-init : goal.loop-low-init
loop-low-init g c = (omega arith, place-within c.args.number c.args.entries.now, omega arith)

pub loop-low-preserved-then-entries-middle : goal.loop-low-preserved-then-entries-middle
loop-low-preserved-then-entries-middle g c =
    let middle = c.loop-low.low + (c.loop-low.high - c.loop-low.low) / 2 in
    let here = ahead 0 c.args.number c.args.entries.now middle c.index-entries-middle.result c.requires (omega arith) c.if-entries-middle.true in
    (omega (arith, here), c.loop-low.invariant.1, c.loop-low.invariant.2)

pub loop-low-preserved : goal.loop-low-preserved
loop-low-preserved g c =
    let middle = c.loop-low.low + (c.loop-low.high - c.loop-low.low) / 2 in
    let here = behind c.args.number c.args.entries.now middle c.index-entries-middle.result (omega arith) (omega (arith, c.if-entries-middle.false)) in
    (c.loop-low.invariant.0, here, omega arith)
