use Rattle.std.proofs.Common.{◌≡◌, ◌++◌, false, List, refl, subst, sym, arith}
use Rattle.std.specs.List.{AllByRecursion}
use Rattle.avm_code.specs.Order.{HasBlock}
use Rattle.machine_world.specs.declared.runner.Runner.{Runner}
use Rattle.machine_world.specs.World.{RunTogether, Starts}
use Rattle.machine_world.proofs.OpenLemmas.{together-push, together-all, all-push}
use Rattle.machine_world.proofs.runner.idle.Goals as goal

pub loop-block-preserved : goal.loop-block-preserved
loop-block-preserved c =
    let blocks = c.args.blocks.now in
    let i = c.loop-block.block-index in
    let runner : Runner = record { machine = c.start.result; remote = false } in
    let inv = c.loop-block.invariant in
    let did = c.push_reserved.ensures in
    let starts : Starts c.args.first c.start.result = record {
      evidence = c.start.ensures.evidence;
      begins = c.start.ensures.begins;
      stands = λ program keys count runs has below. c.start.ensures.stands program keys count runs (subst (HasBlock program) c.start.ensures.name has) below;
    } in (
      λ rest t.
          subst (λ (items : List Runner). RunTogether (Starts c.args.first) blocks (items ++ rest)) (sym did.items)
          (together-push (Starts c.args.first) blocks i c.block-item.result c.loop-block.runners.items runner c.loop-block-test.true c.block-item.is c.start.ensures.name starts inv.0 rest t),
      subst (AllByRecursion (λ (r : Runner). r.remote ≡ false)) (sym did.items) (all-push (λ (r : Runner). r.remote ≡ false) c.loop-block.runners.items runner inv.1 refl),
      omega (arith, did.len, inv.2),
      omega (arith, did.capacity, inv.3),
    )

pub returns-clause-together : goal.returns-clause-together
returns-clause-together c =
    together-all (Starts c.args.first) c.args.blocks.now c.loop-block.block-index c.loop-block.runners.items c.loop-block-test.false c.loop-block.invariant.0
