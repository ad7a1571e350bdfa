use Rattle.std.proofs.Common.{Some, refl, sym, ap, ◌∙◌}
use Rattle.std.specs.Option.{option_map}
use Rattle.session_runs.specs.Standing.{run, played, makings}
use Rattle.machine_tables.specs.Tables.{Tables}
use Rattle.machine_world.specs.Cells.{block_of, tables_of, book_after}
use Rattle.session_book.specs.Entries.{history_of}
use Rattle.session_book.specs.Kept.{book_of, state_of}
use Rattle.session_core.specs.declared.steps.Core.{Core}
use Rattle.session_core.specs.Core.{program_in, tables_in}
use Rattle.session_core.specs.Steps.{place_told}
use Rattle.session_core.proofs.Facts.{open-of, core-ending, standing-by, tables-open, made-kept}
use Rattle.session_core.proofs.Going.{may-run, seen-as, note-room, did-of, map-back, over-started, behind-run, behind-told}
use Rattle.session_core.proofs.steps.Core.go_on.Goals as goal

pub run-moved-requires-clause-world : goal.run-moved-requires-clause-world
run-moved-requires-clause-world c = c.requires.is.played.knows

pub run-moved-requires-clause-room : goal.run-moved-requires-clause-room
run-moved-requires-clause-room c = c.requires.is.played.room

pub run-moved-requires-clause-may_run : goal.run-moved-requires-clause-may_run
run-moved-requires-clause-may_run c =
    let core = c.args.self.now in
    let r = c.requires in
    let entry = played c.args.pass (run (block_of c.args.name)) in
    let opened = open-of r.session c.args.keys.now r.standing entry r.possible in
    may-run r.session c.args.keys.now r.places r.standing core r.is opened (block_of c.args.name)
    (c.allowed_law.ensures.runs r.session c.args.keys.now (history_of core.book) r.standing (tables_in core) (block_of c.args.name) r.is.played.played opened)

pub second-second-requires-clause-world : goal.second-second-requires-clause-world
second-second-requires-clause-world c = (c.args.keys.now, c.run-moved.ensures.world)

pub second-second-requires-clause-started : goal.second-second-requires-clause-started
second-second-requires-clause-started c =
    let core = c.args.self.now in
    let keys = c.args.keys.now in
    let r = c.requires in
    let name = c.args.name in
    let moved = c.run-moved.result in
    let world = c.run-moved.new.self in
    let values = world.store.values in
    let entry = played c.args.pass (run (block_of name)) in
    let opened = open-of r.session keys r.standing entry r.possible in
    let ending = core-ending r.session keys r.places r.standing core r.is opened in
    let book = book_of values core.book in
    let found = book_after values name moved book in
    let step = seen-as r.session keys r.places r.standing core r.is opened values entry (option_map (tables_of world) found) (c.run-moved.ensures.moves book c.args.pass (ap (state_of values) ending)) in
    let can = (c.played_law.ensures.can r.session keys (history_of core.book) r.standing (tables_in core) entry r.is.played.played).0 r.possible in
    let back = map-back world found can.later (sym step ∙ can.taken) in
    let did = did-of core.world.places.items ((tables_in core).blocks (block_of name)) values name moved book back.after back.is c.run-moved.ensures.does in
    over-started (program_in r.session) (makings r.session keys) c.args.pass core.world.places.items (tables_in core) world back.after name moved did (tables-open r.session keys r.places r.standing core r.is opened) (can.taken ∙ ap (λ (t : Tables). Some t) (sym back.same))

pub run-requires-clause-kept : goal.run-requires-clause-kept
run-requires-clause-kept c = c.requires.is.played.kept

pub run-requires-clause-room : goal.run-requires-clause-room
run-requires-clause-room c =
    let core = c.args.self.now in
    let keys = c.args.keys.now in
    let r = c.requires in
    let entry = played c.args.pass (run (block_of c.args.name)) in
    let can = (c.played_law.ensures.can r.session keys (history_of core.book) r.standing (tables_in core) entry r.is.played.played).0 r.possible in
    (c.room_law.ensures r.session keys r.places r.standing entry core can.later r.is tt can.taken).entries

pub run-requires-clause-moved : goal.run-requires-clause-moved
run-requires-clause-moved c =
    let core = c.args.self.now in
    let keys = c.args.keys.now in
    let r = c.requires in
    let name = c.args.name in
    let moved = c.run-moved.result in
    let world = c.run-moved.new.self in
    let values = world.store.values in
    let entry = played c.args.pass (run (block_of name)) in
    let opened = open-of r.session keys r.standing entry r.possible in
    let ending = core-ending r.session keys r.places r.standing core r.is opened in
    let book = book_of values core.book in
    let found = book_after values name moved book in
    let step = seen-as r.session keys r.places r.standing core r.is opened values entry (option_map (tables_of world) found) (c.run-moved.ensures.moves book c.args.pass (ap (state_of values) ending)) in
    let can = (c.played_law.ensures.can r.session keys (history_of core.book) r.standing (tables_in core) entry r.is.played.played).0 r.possible in
    note-room world values name moved core.book can.later (sym step ∙ can.taken)
    (c.room_law.ensures r.session keys r.places r.standing entry core can.later r.is tt can.taken).trace

pub returns-clause-behind : goal.returns-clause-behind
returns-clause-behind c = λ session places at.
    let core = c.args.self.now in
    let keys = c.args.keys.now in
    let r = c.requires in
    let name = c.args.name in
    let moved = c.run-moved.result in
    let world = c.run-moved.new.self in
    let values = world.store.values in
    let entry = played c.args.pass (run (block_of name)) in
    let ending = core-ending r.session keys r.places r.standing core r.is (open-of r.session keys r.standing entry r.possible) in
    let is = at.1 in
    let opened = standing-by session keys places at.0 core is ending in
    let book = book_of values core.book in
    let found = book_after values name moved book in
    let new : Core = record { world = world; agenda = core.agenda; book = c.run.new.self; nonce = core.nonce } in
    let step = seen-as session keys places at.0 core is opened values entry (option_map (tables_of world) found) (c.run-moved.ensures.moves book c.args.pass (ap (state_of values) ending)) ∙ ap (option_map (tables_of world)) (c.run.ensures.book values) in
    let did = did-of core.world.places.items ((tables_in core).blocks (block_of name)) values name moved book (book_of values c.run.new.self) (c.run.ensures.book values) c.run-moved.ensures.does in
    let taken = c.taking_law.ensures session keys places at.0 entry core world c.run.new.self is tt step (record {
      knows = c.run-moved.ensures.world;
      room = c.run-moved.ensures.room;
      program = c.run-moved.ensures.program;
      places = ap (λ p. p.items) c.run-moved.ensures.places;
      adds = c.run.ensures.history;
      keeps = c.run.ensures.keeps;
    }) in
    behind-told session keys places name c.second-second.result (place_told moved) c.place_told-place.result new (sym c.place_told-place.ensures)
    (behind-run session keys places at.0 core is opened c.args.pass name moved c.second-second.result new did taken (made-kept session places core new refl refl is.made) refl c.run-moved.ensures.program c.second-second.ensures
    (λ asked. c.touched_law.ensures.places session keys (tables_in core) (tables_in new) entry asked step))
