use Rattle.std.proofs.Common.{ℕ, List, sym, subst, ap, ◌∙◌, ◌≡◌}
use Rattle.phrase_tree.specs.Term.{term}
use Rattle.evidence_types.specs.Evidence.{nonce}
use Rattle.avm_code.specs.declared.program.Block.{Block}
use Rattle.avm_compile.specs.Program.{program_of}
use Rattle.machine_tables.specs.Tables.{opening_tables}
use Rattle.machine_world.specs.Cells.{opening_book, tables_of}
use Rattle.machine_world.specs.World.{CanPlay, IsCounted, IsWorld}
use Rattle.machine_world.proofs.Playing.{if_ok}
use Rattle.machine_world.proofs.tests.opened.Goals as goal

pub open-requires-clause-can_play : goal.open-requires-clause-can_play
open-requires-clause-can_play c =
    let law = c.phrases_play.ensures (term c.args.phrase.now) c.args.place c.args.keys.now c.args.places.items c.requires.sized c.requires.keyed c.requires.asks c.requires.few in
    (c.args.keys.now, subst (λ (p : List Block). CanPlay p c.args.keys.now c.args.places.items) (sym c.in_ok-program.ensures) law.0)

pub open-requires-clause-counted : goal.open-requires-clause-counted
open-requires-clause-counted c =
    let law = c.phrases_play.ensures (term c.args.phrase.now) c.args.place c.args.keys.now c.args.places.items c.requires.sized c.requires.keyed c.requires.asks c.requires.few in
    subst (λ (p : List Block). IsCounted p c.args.events) (sym c.in_ok-program.ensures)
    (subst (λ (n : ℕ). IsCounted (program_of (term c.args.phrase.now) c.args.place) n) c.requires.counted law.1)

pub returns-clause-program : goal.returns-clause-program
returns-clause-program c =
    if_ok c.open.result _ (λ world. world.program ≡ program_of (term c.args.phrase.now) c.args.place) (λ world is. is ∙ c.in_ok-program.ensures) c.open.ensures.program

pub returns-clause-world : goal.returns-clause-world
returns-clause-world c =
    let law = c.phrases_play.ensures (term c.args.phrase.now) c.args.place c.args.keys.now c.args.places.items c.requires.sized c.requires.keyed c.requires.asks c.requires.few in
    if_ok c.open.result _ (IsWorld c.args.keys.now)
    (λ world is. is c.args.keys.now (subst (λ (p : List Block). CanPlay p c.args.keys.now c.args.places.items) (sym c.in_ok-program.ensures) law.0)) c.open.ensures.world

pub returns-clause-opens : goal.returns-clause-opens
returns-clause-opens c =
    let before = nonce c.args.nonce.now in
    if_ok c.open.result _ (λ world. tables_of world opening_book ≡ opening_tables (program_of (term c.args.phrase.now) c.args.place) before)
    (λ world is. is ∙ ap (λ (p : List Block). opening_tables p before) c.in_ok-program.ensures) c.open.ensures.opens
