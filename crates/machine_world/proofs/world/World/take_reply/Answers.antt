use Rattle.std.proofs.Common.{◌≡◌, ℕ, List, length, sym, ap, ◌∙◌, subst, ◌+◌, ◌≤◌, drop, arith}
use Rattle.avm_core.specs.Machine.{Stands}
use Rattle.machine_world.specs.declared.runner.Runner.{Runner}
use Rattle.machine_world.specs.Cells.{nobody}
use Rattle.machine_world.specs.Calls.{runner_at}
use Rattle.machine_world.proofs.MailFrames.{found-below}
use Rattle.machine_world.proofs.Runners.{together-get, together-name, any-default}
use Rattle.machine_world.proofs.WorldLemmas.{world-held, world-replied}
use Rattle.machine_world.proofs.TableLemmas.{replied-at}
use Rattle.place_mail.specs.Mail.{Mail}
use Rattle.avm_code.specs.declared.instr.BlockName.{BlockName}
use Rattle.avm_code.specs.declared.instr.Instr.{Instr}
use Rattle.avm_code.specs.Order.{code_called}
use Rattle.machine_tables.specs.Row.{Local}
use Rattle.machine_world.specs.declared.world.World.{World}
use Rattle.machine_world.specs.World.{events_in}
use Rattle.machine_world.proofs.RoomLemmas.{room-held, room-reply_taken, replied-left, removed-none}
use Rattle.machine_world.proofs.RunLemmas.{its-name}
use Rattle.machine_world.proofs.world.World.take_reply.Goals as goal

pub give_reply-requires-clause-stands : goal.give_reply-requires-clause-stands
give_reply-requires-clause-stands c =
    let world = c.args.self.now in
    let keys = c.requires.world.0 in
    let is = c.index_mut.ensures.value ∙ any-default world.runners.items c.args.index c.index_mut.result.now nobody c.requires.at.within in (
      length world.store.values,
      (
        keys,
        subst (λ (r : Runner). Stands world.program keys (length world.store.values) r.machine) (sym is)
            (together-get (Stands world.program keys (length world.store.values)) world.program world.runners.items c.args.index nobody c.requires.world.1.runners c.requires.at.within),
      ),
    )

pub returns-in-None-clause-world : goal.returns-in-None-clause-world
returns-in-None-clause-world c = λ keys w. world-replied keys c.args.self.now c.take_reply.new.self c.args.number c.take_reply.ensures.rest w

pub returns-in-Some-clause-moves : goal.returns-in-Some-clause-moves
returns-in-Some-clause-moves c = λ book pass is_open.
    let world = c.args.self.now in
    let is = c.index_mut.ensures.value ∙ any-default world.runners.items c.args.index c.index_mut.result.now nobody c.requires.at.within in
    replied-at world c.args.name c.args.index c.index_mut.result.now is c.args.event c.args.number c.in-Some.reply c.take_reply.new.self c.give_reply.new.self pass book c.requires.world c.requires.at (sym c.in-Some.ensures.reply) c.take_reply.ensures.rest (c.give_reply.ensures.replied world.store.values)

pub returns-in-Some-clause-world : goal.returns-in-Some-clause-world
returns-in-Some-clause-world c = λ keys w.
    let world = c.args.self.now in
    let is = c.index_mut.ensures.value ∙ any-default world.runners.items c.args.index c.index_mut.result.now nobody c.requires.at.within in
    let P = Stands world.program keys (length world.store.values) in
    world-held keys (record world { mail = c.take_reply.new.self }) c.args.name c.args.index (record { machine = c.give_reply.new.self; remote = c.index_mut.result.now.remote }) c.requires.at.block
    (c.give_reply.ensures.name ∙ ap (λ (r : Runner). r.machine.name) is ∙ together-name P world.program world.runners.items c.args.name c.args.index nobody w.runners c.requires.at.block)
    (c.give_reply.ensures.stands (length world.store.values) (found-below (length world.store.values) c.args.number c.in-Some.reply world.mail.answers w.replies (sym c.in-Some.ensures.reply)) keys
    (subst (λ (r : Runner). Stands world.program keys (length world.store.values) r.machine) (sym is) (together-get P world.program world.runners.items c.args.index nobody w.runners c.requires.at.within)))
    (world-replied keys world c.take_reply.new.self c.args.number c.take_reply.ensures.rest w)

pub returns-in-None-clause-waits : goal.returns-in-None-clause-waits
returns-in-None-clause-waits c =
    let world = c.args.self.now in
    ap (λ (m : Mail). let w : World = record world { mail = m } in w)
    (c.take_reply.ensures.rest ∙ ap (λ (answers : List (ℕ × ℕ)). let m : Mail = record world.mail { answers = answers } in m) (removed-none c.args.number world.mail.answers (sym c.in-None.ensures.reply)))

pub returns-in-Some-clause-room : goal.returns-in-Some-clause-room
returns-in-Some-clause-room c =
    let world = c.args.self.now in
    let is = c.index_mut.ensures.value ∙ any-default world.runners.items c.args.index c.index_mut.result.now nobody c.requires.at.within in
    let named = its-name c.requires.world.0 world c.args.name c.args.index c.requires.world.1 c.requires.at in
    let held = c.index_mut.result.now.machine in
    let rest : drop c.give_reply.new.self.at (code_called world.program c.give_reply.new.self.name) ≡ drop 1 (drop held.at (code_called world.program held.name)) = ap (λ (l : Local). l.rest) (c.give_reply.ensures.replied world.store.values) in
    let name : held.name ≡ c.args.name = ap (λ (r : Runner). r.machine.name) is ∙ named in
    let now : drop c.give_reply.new.self.at (code_called world.program c.args.name) ≡ drop 1 (drop (runner_at world c.args.index).machine.at (code_called world.program c.args.name)) =
    ap (λ (n : BlockName). drop c.give_reply.new.self.at (code_called world.program n)) (sym (c.give_reply.ensures.name ∙ name))
    ∙ rest ∙ ap (λ (n : BlockName). drop 1 (drop held.at (code_called world.program n))) name
    ∙ ap (λ (r : Runner). drop 1 (drop r.machine.at (code_called world.program c.args.name))) is in
    let taken : World = record world { mail = c.take_reply.new.self } in
    room-held taken c.args.name c.args.index (record { there = c.requires.at.there; running = c.requires.at.running; block = c.requires.at.block; is = c.requires.at.is; within = c.requires.at.within })
    (record { machine = c.give_reply.new.self; remote = c.index_mut.result.now.remote }) 0 0 world.store
    (subst (λ (l : List Instr). events_in l + 0 ≤ events_in (drop (runner_at world c.args.index).machine.at (code_called world.program c.args.name))) (sym now) (replied-left (drop (runner_at world c.args.index).machine.at (code_called world.program c.args.name))))
    (omega arith) (omega arith) (room-reply_taken world c.take_reply.new.self c.args.number c.take_reply.ensures.rest c.requires.room)
