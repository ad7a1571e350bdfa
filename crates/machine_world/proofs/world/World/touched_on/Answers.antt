use Rattle.std.proofs.Common.{◌≡◌, ◌<◌, ℕ, Bool, List, length, slice_index_or, sym, ap, ◌∙◌, subst}
use Rattle.avm_code.specs.declared.instr.Instr.{Instr}
use Rattle.avm_code.specs.declared.instr.Instr.TheVariants.{End}
use Rattle.avm_code.specs.Order.{code_called}
use Rattle.avm_core.specs.Machine.{next_of}
use Rattle.machine_world.specs.World.{empty_block}
use Rattle.machine_world.specs.Calls.{runner_at}
use Rattle.machine_world.specs.Touched.{touched_by}
use Rattle.machine_world.proofs.TouchLemmas.{touches-on}
use Rattle.machine_world.proofs.RunLemmas.{runs-at, its-name, its-stands, its-within}
use Rattle.machine_world.proofs.world.World.touched_on.Goals as goal

pub instr_of-instr-requires-clause-runner : goal.instr_of-instr-requires-clause-runner
instr_of-instr-requires-clause-runner c =
    let world = c.args.self.now in
    let keys = c.requires.world.0 in
    let w = c.requires.world.1 in
    let name = c.args.name in
    let index = c.index_of-index.result in
    let at = runs-at keys world name index w c.requires.running c.index_of-index.ensures in
    at.within

pub instr_of-instr-requires-clause-at : goal.instr_of-instr-requires-clause-at
instr_of-instr-requires-clause-at c =
    let world = c.args.self.now in
    let keys = c.requires.world.0 in
    let w = c.requires.world.1 in
    let name = c.args.name in
    let index = c.index_of-index.result in
    let at = runs-at keys world name index w c.requires.running c.index_of-index.ensures in
    let named = its-name keys world name index w at in
    let within = its-within keys world name index w at in
    let machine = (runner_at world index).machine in
    subst (λ (l : List Instr). machine.at < length l) (sym (at.is.code empty_block ∙ ap (code_called world.program) (sym named))) within

pub evidence_at-requires : goal.evidence_at-requires
evidence_at-requires c =
    let at = runs-at c.requires.world.0 c.args.self.now c.args.name c.index_of-index.result c.requires.world.1 c.requires.running c.index_of-index.ensures in
    at.within

pub remote_at-requires : goal.remote_at-requires
remote_at-requires c =
    let at = runs-at c.requires.world.0 c.args.self.now c.args.name c.index_of-index.result c.requires.world.1 c.requires.running c.index_of-index.ensures in
    at.within

pub returns : goal.returns
returns c =
    let world = c.args.self.now in
    let keys = c.requires.world.0 in
    let w = c.requires.world.1 in
    let name = c.args.name in
    let index = c.index_of-index.result in
    let at = runs-at keys world name index w c.requires.running c.index_of-index.ensures in
    let named = its-name keys world name index w at in
    let within = its-within keys world name index w at in
    let machine = (runner_at world index).machine in
    let instr = c.instr_of-instr.result.now in
    let is : instr ≡ next_of world.program machine = c.instr_of-instr.ensures ∙ ap (λ (l : List Instr). slice_index_or l machine.at End) (at.is.code empty_block ∙ ap (code_called world.program) (sym named)) in
    let same = c.touched_by.ensures
    ∙ ap (touched_by name c.remote_at.result c.evidence_at.result) is
    ∙ ap (λ (id : ℕ). touched_by name c.remote_at.result id (next_of world.program machine)) c.evidence_at.ensures
    ∙ ap (λ (remote : Bool). touched_by name remote machine.evidence (next_of world.program machine)) c.remote_at.ensures in
    touches-on world name index at within (its-stands keys world name index w at).inside.knows.evidence c.touched_by.result same
