use Rattle.std.proofs.Common.{◌≡◌, ◌<◌, List, [], length, slice_index_or, sym, ap, ◌∙◌, subst}
use Rattle.avm_code.specs.declared.instr.Instr.{Instr}
use Rattle.avm_code.specs.declared.instr.Instr.TheVariants.{End}
use Rattle.avm_code.specs.Order.{code_called}
use Rattle.machine_tables.specs.Tables.{next_by}
use Rattle.avm_core.specs.Machine.{next_of}
use Rattle.machine_world.specs.Cells.{tables_of}
use Rattle.machine_world.specs.World.{empty_block}
use Rattle.machine_world.specs.Calls.{runner_at}
use Rattle.machine_world.specs.Answers.{next_by_book}
use Rattle.machine_world.proofs.MayLemmas.{next-on, next-ready}
use Rattle.machine_world.proofs.RunLemmas.{runs-at, its-name, its-within}
use Rattle.machine_world.proofs.world.World.next_on.Goals as goal

pub instr_of-instr-requires-clause-runner : goal.instr_of-instr-requires-clause-runner
instr_of-instr-requires-clause-runner c =
    let world = c.args.self.now in
    let keys = c.requires.world.0 in
    let w = c.requires.world.1 in
    let name = c.args.name in
    let index = c.index_of-index.result in
    let at = runs-at keys world name index w c.requires.running c.index_of-index.ensures in
    at.within

pub instr_of-instr-requires-clause-at : goal.instr_of-instr-requires-clause-at
instr_of-instr-requires-clause-at c =
    let world = c.args.self.now in
    let keys = c.requires.world.0 in
    let w = c.requires.world.1 in
    let name = c.args.name in
    let index = c.index_of-index.result in
    let at = runs-at keys world name index w c.requires.running c.index_of-index.ensures in
    let named = its-name keys world name index w at in
    let within = its-within keys world name index w at in
    let machine = (runner_at world index).machine in
    subst (λ (l : List Instr). machine.at < length l) (sym (at.is.code empty_block ∙ ap (code_called world.program) (sym named))) within

pub returns : goal.returns
returns c = λ book.
    let world = c.args.self.now in
    let keys = c.requires.world.0 in
    let w = c.requires.world.1 in
    let name = c.args.name in
    let index = c.index_of-index.result in
    let at = runs-at keys world name index w c.requires.running c.index_of-index.ensures in
    let named = its-name keys world name index w at in
    let within = its-within keys world name index w at in
    let machine = (runner_at world index).machine in
    let instr = c.instr_of-instr.result.now in
    let is : instr ≡ next_of world.program machine = c.instr_of-instr.ensures ∙ ap (λ (l : List Instr). slice_index_or l machine.at End) (at.is.code empty_block ∙ ap (code_called world.program) (sym named)) in
    next-on keys [] world name index at named within book
    ∙ ap (next_by (tables_of world book)) (sym is)
    ∙ next-ready world book instr
    ∙ ap (next_by_book book) (sym c.ready_by.ensures)
