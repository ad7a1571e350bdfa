use Rattle.std.proofs.Common.{◌≡◌, ◌+◌, ◌≤◌, List, Some, drop, sym, ap, ◌∙◌, subst, arith}
use Rattle.avm_code.specs.declared.instr.BlockName.{BlockName}
use Rattle.avm_code.specs.declared.instr.Instr.{Instr}
use Rattle.avm_code.specs.Order.{code_called}
use Rattle.machine_tables.specs.Row.{Local}
use Rattle.avm_core.specs.Machine.{local_in, next_of}
use Rattle.avm_core.proofs.Frames.{code_behind}
use Rattle.machine_world.specs.declared.world.World.{World}
use Rattle.machine_world.specs.Cells.{tables_of, with_answer, opening_book}
use Rattle.machine_world.specs.World.{IsWorld, HasRoom, events_in, left_in}
use Rattle.machine_world.specs.Calls.{runner_at}
use Rattle.machine_world.proofs.Runners.{runner-at}
use Rattle.machine_world.proofs.WorldLemmas.{world-held, world-grown}
use Rattle.machine_world.proofs.RoomLemmas.{answered-left, left-here, room-held}
use Rattle.machine_world.proofs.MayLemmas.{may-runs, may-awaits, may-fits}
use Rattle.machine_world.proofs.EntryLemmas.{moves-answered}
use Rattle.machine_world.proofs.RunLemmas.{no-error, runs-at, its-name, its-stands, its-within, mid-is}
use Rattle.machine_world.proofs.world.World.answer.Goals as goal

pub answer_at-requires-clause-within : goal.answer_at-requires-clause-within
answer_at-requires-clause-within c =
    let world = c.args.self.now in
    let keys = c.requires.world.0 in
    let w = c.requires.world.1 in
    let name = c.args.name in
    let bytes = c.args.answer.now in
    let index = c.index_of-index.result in
    let first = c.requires.may_answer.0 in
    let may = c.requires.may_answer.1 in
    let at = runs-at keys world name index w (may-runs world opening_book first bytes name may) c.index_of-index.ensures in
    at.within

pub answer_at-requires-clause-stands : goal.answer_at-requires-clause-stands
answer_at-requires-clause-stands c =
    let world = c.args.self.now in
    let keys = c.requires.world.0 in
    let w = c.requires.world.1 in
    let name = c.args.name in
    let bytes = c.args.answer.now in
    let index = c.index_of-index.result in
    let first = c.requires.may_answer.0 in
    let may = c.requires.may_answer.1 in
    let at = runs-at keys world name index w (may-runs world opening_book first bytes name may) c.index_of-index.ensures in
    (keys, its-stands keys world name index w at)

pub answer_at-requires-clause-awaits : goal.answer_at-requires-clause-awaits
answer_at-requires-clause-awaits c =
    let world = c.args.self.now in
    let keys = c.requires.world.0 in
    let w = c.requires.world.1 in
    let name = c.args.name in
    let bytes = c.args.answer.now in
    let index = c.index_of-index.result in
    let first = c.requires.may_answer.0 in
    let may = c.requires.may_answer.1 in
    let at = runs-at keys world name index w (may-runs world opening_book first bytes name may) c.index_of-index.ensures in
    let named = its-name keys world name index w at in
    let within = its-within keys world name index w at in
    let machine = (runner_at world index).machine in
    let code = code_called world.program machine.name in
    let owns = runner-at world.program world.runners.items name index at.block at.within in
    may-awaits world opening_book first bytes name may index owns within

pub answer_at-requires-clause-fits : goal.answer_at-requires-clause-fits
answer_at-requires-clause-fits c =
    let world = c.args.self.now in
    let keys = c.requires.world.0 in
    let w = c.requires.world.1 in
    let name = c.args.name in
    let bytes = c.args.answer.now in
    let index = c.index_of-index.result in
    let first = c.requires.may_answer.0 in
    let may = c.requires.may_answer.1 in
    let at = runs-at keys world name index w (may-runs world opening_book first bytes name may) c.index_of-index.ensures in
    let named = its-name keys world name index w at in
    let within = its-within keys world name index w at in
    let machine = (runner_at world index).machine in
    let code = code_called world.program machine.name in
    let owns = runner-at world.program world.runners.items name index at.block at.within in
    may-fits world opening_book first bytes name may index owns within

pub unreachable-requires : goal.unreachable-requires
unreachable-requires c =
    let world = c.args.self.now in
    let keys = c.requires.world.0 in
    let w = c.requires.world.1 in
    let name = c.args.name in
    let bytes = c.args.answer.now in
    let index = c.index_of-index.result in
    let first = c.requires.may_answer.0 in
    let may = c.requires.may_answer.1 in
    let at = runs-at keys world name index w (may-runs world opening_book first bytes name may) c.index_of-index.ensures in
    let named = its-name keys world name index w at in
    let within = its-within keys world name index w at in
    let machine = (runner_at world index).machine in
    let code = code_called world.program machine.name in
    let owns = runner-at world.program world.runners.items name index at.block at.within in
    let counts : events_in (drop 1 (drop machine.at code)) + 1 ≤ events_in (drop machine.at code) = answered-left (next_of world.program machine) (drop (machine.at + 1) code) (drop machine.at code) (code_behind code machine.at within) (may-awaits world opening_book first bytes name may index owns within) in
    let here : events_in (drop machine.at code) ≤ left_in world = subst (λ (n : BlockName). events_in (drop machine.at (code_called world.program n)) ≤ left_in world) (sym named) (left-here world name index at) in
    let spare : left_in world ≤ world.store.spare = c.requires.room.spare in
    no-error c.in-Err.is (c.answer_at.ensures.gives.in_spare (omega arith)).0

pub returns-clause-answers : goal.returns-clause-answers
returns-clause-answers c = λ book from pass event opened asked.
    let world = c.args.self.now in
    let keys = c.requires.world.0 in
    let w = c.requires.world.1 in
    let name = c.args.name in
    let bytes = c.args.answer.now in
    let index = c.index_of-index.result in
    let first = c.requires.may_answer.0 in
    let may = c.requires.may_answer.1 in
    let at = runs-at keys world name index w (may-runs world opening_book first bytes name may) c.index_of-index.ensures in
    let named = its-name keys world name index w at in
    let within = its-within keys world name index w at in
    let machine = (runner_at world index).machine in
    let code = code_called world.program machine.name in
    let owns = runner-at world.program world.runners.items name index at.block at.within in
    let new = c.answer_at.new.self in
    let did = c.in-Ok.ensures in
    let is = mid-is world new index did.rest did.runners in
    moves-answered world name index at within event bytes new.store (runner_at new index) from pass book (keys, w) opened asked did.gives.keeps.grows did.remote
    (ap (λ (n : BlockName). local_in (code_called world.program n) new.store.values (runner_at new index).machine) did.gives.keeps.block ∙ did.gives.made)
    ∙ ap (λ (m : World). Some (tables_of m (with_answer event bytes book))) (sym is)

pub returns-clause-world : goal.returns-clause-world
returns-clause-world c = λ others v.
    let world = c.args.self.now in
    let keys = c.requires.world.0 in
    let w = c.requires.world.1 in
    let name = c.args.name in
    let bytes = c.args.answer.now in
    let index = c.index_of-index.result in
    let first = c.requires.may_answer.0 in
    let may = c.requires.may_answer.1 in
    let at = runs-at keys world name index w (may-runs world opening_book first bytes name may) c.index_of-index.ensures in
    let named = its-name keys world name index w at in
    let within = its-within keys world name index w at in
    let machine = (runner_at world index).machine in
    let code = code_called world.program machine.name in
    let owns = runner-at world.program world.runners.items name index at.block at.within in
    let new = c.answer_at.new.self in
    let did = c.in-Ok.ensures in
    let is = mid-is world new index did.rest did.runners in
    subst (IsWorld others) (sym is)
    (world-held others (record world { store = new.store }) name index (runner_at new index) at.block (did.gives.keeps.block ∙ named) (did.stands others (its-stands others world name index v at)) (world-grown others world new.store did.gives.keeps.grows v))

pub returns-clause-room : goal.returns-clause-room
returns-clause-room c =
    let world = c.args.self.now in
    let keys = c.requires.world.0 in
    let w = c.requires.world.1 in
    let name = c.args.name in
    let bytes = c.args.answer.now in
    let index = c.index_of-index.result in
    let first = c.requires.may_answer.0 in
    let may = c.requires.may_answer.1 in
    let at = runs-at keys world name index w (may-runs world opening_book first bytes name may) c.index_of-index.ensures in
    let named = its-name keys world name index w at in
    let within = its-within keys world name index w at in
    let machine = (runner_at world index).machine in
    let code = code_called world.program machine.name in
    let owns = runner-at world.program world.runners.items name index at.block at.within in
    let new = c.answer_at.new.self in
    let did = c.in-Ok.ensures in
    let is = mid-is world new index did.rest did.runners in
    let counts : events_in (drop 1 (drop machine.at code)) + 1 ≤ events_in (drop machine.at code) = answered-left (next_of world.program machine) (drop (machine.at + 1) code) (drop machine.at code) (code_behind code machine.at within) (may-awaits world opening_book first bytes name may index owns within) in
    let here : events_in (drop machine.at code) ≤ left_in world = subst (λ (n : BlockName). events_in (drop machine.at (code_called world.program n)) ≤ left_in world) (sym named) (left-here world name index at) in
    let spare : left_in world ≤ world.store.spare = c.requires.room.spare in
    let rest : drop (runner_at new index).machine.at code ≡ drop 1 (drop machine.at code) = ap (λ (l : Local). l.rest) did.gives.made in
    let fewer : events_in (drop (runner_at new index).machine.at code) + 1 ≤ events_in (drop machine.at code) = subst (λ (l : List Instr). events_in l + 1 ≤ events_in (drop machine.at code)) (sym rest) counts in
    subst HasRoom (sym is)
    (room-held world name index at (runner_at new index) 1 0 new.store
    (subst (λ (n : BlockName). events_in (drop (runner_at new index).machine.at (code_called world.program n)) + 1 ≤ events_in (drop machine.at (code_called world.program n))) named fewer)
    (did.gives.in_spare (omega arith)).1 (omega arith) c.requires.room)
