use Rattle.std.proofs.Common.{length, sym, ◌∙◌, subst}
use Rattle.avm_core.specs.Machine.{Stands}
use Rattle.machine_world.specs.declared.runner.Runner.{Runner}
use Rattle.machine_world.specs.Cells.{nobody}
use Rattle.machine_world.proofs.KeptLemmas.{set-read}
use Rattle.machine_world.proofs.Runners.{any-default}
use Rattle.machine_world.proofs.world.World.answer_at.Goals as goal

pub returns-clause-stands : goal.returns-clause-stands
returns-clause-stands c = λ keys stands.
    let world = c.args.self.now in
    let is = c.index_mut.ensures.value ∙ any-default world.runners.items c.args.index c.index_mut.result.now nobody c.requires.within in
    subst (λ (r : Runner). Stands world.program keys (length c.give_answer.new.store.values) r.machine)
    (sym (set-read world.runners.items c.args.index (record { machine = c.give_answer.new.self; remote = c.index_mut.result.now.remote }) nobody c.requires.within))
    (c.give_answer.ensures.stands keys (subst (λ (r : Runner). Stands world.program keys (length world.store.values) r.machine) (sym is) stands))
