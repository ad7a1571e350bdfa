use Rattle.std.proofs.Common.{◌≡◌, ◌<◌, ℕ, List, length, slice_index_or, sym, ap, ◌∙◌, subst}
use Rattle.avm_code.specs.declared.instr.Instr.{Instr}
use Rattle.avm_code.specs.declared.instr.Instr.TheVariants.{End}
use Rattle.avm_code.specs.Order.{code_called, place_called}
use Rattle.avm_core.specs.Machine.{next_of}
use Rattle.machine_world.specs.World.{empty_block}
use Rattle.machine_world.specs.Calls.{runner_at}
use Rattle.machine_world.specs.Answers.{ask_for}
use Rattle.machine_world.proofs.MayLemmas.{ask-on}
use Rattle.machine_world.proofs.RunLemmas.{runs-at, its-name, its-within}
use Rattle.machine_world.proofs.world.World.ask_on.Goals as goal

pub instr_of-instr-requires-clause-runner : goal.instr_of-instr-requires-clause-runner
instr_of-instr-requires-clause-runner c =
    let world = c.args.self.now in
    let keys = c.requires.world.0 in
    let w = c.requires.world.1 in
    let name = c.args.name in
    let index = c.index_of-index.result in
    let at = runs-at keys world name index w c.requires.running c.index_of-index.ensures in
    at.within

pub instr_of-instr-requires-clause-at : goal.instr_of-instr-requires-clause-at
instr_of-instr-requires-clause-at c =
    let world = c.args.self.now in
    let keys = c.requires.world.0 in
    let w = c.requires.world.1 in
    let name = c.args.name in
    let index = c.index_of-index.result in
    let at = runs-at keys world name index w c.requires.running c.index_of-index.ensures in
    let named = its-name keys world name index w at in
    let within = its-within keys world name index w at in
    let machine = (runner_at world index).machine in
    subst (λ (l : List Instr). machine.at < length l) (sym (at.is.code empty_block ∙ ap (code_called world.program) (sym named))) within

pub returns : goal.returns
returns c =
    let world = c.args.self.now in
    let keys = c.requires.world.0 in
    let w = c.requires.world.1 in
    let name = c.args.name in
    let index = c.index_of-index.result in
    let at = runs-at keys world name index w c.requires.running c.index_of-index.ensures in
    let named = its-name keys world name index w at in
    let within = its-within keys world name index w at in
    let machine = (runner_at world index).machine in
    let nonce = c.args.nonce.now in
    let instr = c.instr_of-instr.result.now in
    let is : instr ≡ next_of world.program machine = c.instr_of-instr.ensures ∙ ap (λ (l : List Instr). slice_index_or l machine.at End) (at.is.code empty_block ∙ ap (code_called world.program) (sym named)) in
    let place = c.place_of.ensures ∙ at.is.place empty_block in
    c.ask_for.ensures
    ∙ ap (λ (p : List ℕ). ask_for nonce p instr) place
    ∙ ap (ask_for nonce (place_called world.program name)) is
    ∙ sym (ask-on keys nonce world name index at named within)
