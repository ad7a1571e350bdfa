use Rattle.std.proofs.Common.{[], ◌∷◌, ◌++◌, vec_capacity, Some, refl, sym, ap, ◌∙◌, arith}
use Rattle.std.specs.Option.{option_map}
use Rattle.session_runs.specs.Standing.{answered}
use Rattle.machine_world.specs.Cells.{Book, block_of, tables_of, with_answer, opening_book, makings_of}
use Rattle.session_book.specs.Entries.{history_of}
use Rattle.session_book.specs.Kept.{book_of, state_of, flight_of, answers_of}
use Rattle.session_core.specs.declared.steps.Core.{Core}
use Rattle.session_core.specs.Core.{tables_in}
use Rattle.session_core.proofs.Facts.{open-of, core-ending, standing-by, made-kept}
use Rattle.session_core.proofs.Going.{seen-as, push_room}
use Rattle.session_core.proofs.Results.{no-flight, flight-is, asker-told}
use Rattle.session_core.proofs.Lifting.{behind-quiet, may-answer, less_room}
use Rattle.session_core.proofs.steps.Core.give.Goals as goal

pub unreachable-requires : goal.unreachable-requires
unreachable-requires c =
    let core = c.args.self.now in
    let keys = c.requires.0 in
    let r = c.requires.1 in
    let entry = answered c.args.pass c.args.event c.args.answer in
    let opened = open-of r.session keys r.standing entry r.possible in
    let can = (c.played_law.ensures.can r.session keys (history_of core.book) r.standing (tables_in core) entry r.is.played.played).0 r.possible in
    let asked = (c.results_law.ensures.answers r.session keys (history_of core.book) r.standing (tables_in core) c.args.pass c.args.event c.args.answer r.is.played.played opened).0 can in
    no-flight c.args.pass asked.name ((tables_in core).in_flight c.args.event) asked.there (sym (c.flight.ensures core.world.store.values) ∙ ap (option_map flight_of) c.in-None.is)

pub answer-requires-clause-world : goal.answer-requires-clause-world
answer-requires-clause-world c = (c.requires.0, c.requires.1.is.played.knows)

pub answer-requires-clause-room : goal.answer-requires-clause-room
answer-requires-clause-room c = c.requires.1.is.played.room

pub answer-requires-clause-may_answer : goal.answer-requires-clause-may_answer
answer-requires-clause-may_answer c =
    let core = c.args.self.now in
    let keys = c.requires.0 in
    let r = c.requires.1 in
    let entry = answered c.args.pass c.args.event c.args.answer in
    let opened = open-of r.session keys r.standing entry r.possible in
    let can = (c.played_law.ensures.can r.session keys (history_of core.book) r.standing (tables_in core) entry r.is.played.played).0 r.possible in
    let asked = (c.results_law.ensures.answers r.session keys (history_of core.book) r.standing (tables_in core) c.args.pass c.args.event c.args.answer r.is.played.played opened).0 can in
    let flies = flight-is c.in-Some.flight ((tables_in core).in_flight c.args.event) c.args.pass asked.name (sym (ap (option_map flight_of) c.in-Some.is) ∙ c.flight.ensures core.world.store.values) asked.there in (
      c.args.event,
      may-answer core.world (book_of core.world.store.values core.book) opening_book c.args.event c.args.answer (block_of c.in-Some.flight.name)
          (c.allowed_law.ensures.answers r.session keys (history_of core.book) r.standing (tables_in core) c.args.event c.args.pass (block_of c.in-Some.flight.name) c.args.answer r.is.played.played opened flies c.bytes.ensures.few),
    )

pub answer-requires-in-Some-clause-kept : goal.answer-requires-in-Some-clause-kept
answer-requires-in-Some-clause-kept c = c.requires.1.is.played.kept

pub answer-requires-in-Some-clause-room : goal.answer-requires-in-Some-clause-room
answer-requires-in-Some-clause-room c =
    let core = c.args.self.now in
    let keys = c.requires.0 in
    let r = c.requires.1 in
    let entry = answered c.args.pass c.args.event c.args.answer in
    let opened = open-of r.session keys r.standing entry r.possible in
    let can = (c.played_law.ensures.can r.session keys (history_of core.book) r.standing (tables_in core) entry r.is.played.played).0 r.possible in
    let asked = (c.results_law.ensures.answers r.session keys (history_of core.book) r.standing (tables_in core) c.args.pass c.args.event c.args.answer r.is.played.played opened).0 can in
    let flies = flight-is c.in-Some.flight ((tables_in core).in_flight c.args.event) c.args.pass asked.name (sym (ap (option_map flight_of) c.in-Some.is) ∙ c.flight.ensures core.world.store.values) asked.there in
    let ending = core-ending r.session keys r.places r.standing core r.is opened in
    let world = c.answer.new.self in
    let values = world.store.values in
    let book = book_of values core.book in
    let step = seen-as r.session keys r.places r.standing core r.is opened values entry (Some (tables_of world (with_answer c.args.event c.args.answer book))) (c.answer.ensures.answers book (makings_of keys core.nonce) c.args.pass c.args.event (ap (state_of values) ending) flies) in
    let room = c.room_law.ensures r.session keys r.places r.standing entry core (tables_of world (with_answer c.args.event c.args.answer book)) r.is c.bytes.ensures.few step in
    room.entries

pub answer-requires-in-Some-clause-trace : goal.answer-requires-in-Some-clause-trace
answer-requires-in-Some-clause-trace c =
    let core = c.args.self.now in
    let keys = c.requires.0 in
    let r = c.requires.1 in
    let entry = answered c.args.pass c.args.event c.args.answer in
    let opened = open-of r.session keys r.standing entry r.possible in
    let can = (c.played_law.ensures.can r.session keys (history_of core.book) r.standing (tables_in core) entry r.is.played.played).0 r.possible in
    let asked = (c.results_law.ensures.answers r.session keys (history_of core.book) r.standing (tables_in core) c.args.pass c.args.event c.args.answer r.is.played.played opened).0 can in
    let flies = flight-is c.in-Some.flight ((tables_in core).in_flight c.args.event) c.args.pass asked.name (sym (ap (option_map flight_of) c.in-Some.is) ∙ c.flight.ensures core.world.store.values) asked.there in
    let ending = core-ending r.session keys r.places r.standing core r.is opened in
    let world = c.answer.new.self in
    let values = world.store.values in
    let book = book_of values core.book in
    let step = seen-as r.session keys r.places r.standing core r.is opened values entry (Some (tables_of world (with_answer c.args.event c.args.answer book))) (c.answer.ensures.answers book (makings_of keys core.nonce) c.args.pass c.args.event (ap (state_of values) ending) flies) in
    let room = c.room_law.ensures r.session keys r.places r.standing entry core (tables_of world (with_answer c.args.event c.args.answer book)) r.is c.bytes.ensures.few step in
    push_room core.book.trace.items c.args.event (vec_capacity core.book.trace) (core.book.trace.items ++ c.args.event ∷ []) refl room.trace

pub answer-requires-in-Some-clause-answers : goal.answer-requires-in-Some-clause-answers
answer-requires-in-Some-clause-answers c =
    let core = c.args.self.now in
    let keys = c.requires.0 in
    let r = c.requires.1 in
    let entry = answered c.args.pass c.args.event c.args.answer in
    let opened = open-of r.session keys r.standing entry r.possible in
    let can = (c.played_law.ensures.can r.session keys (history_of core.book) r.standing (tables_in core) entry r.is.played.played).0 r.possible in
    let asked = (c.results_law.ensures.answers r.session keys (history_of core.book) r.standing (tables_in core) c.args.pass c.args.event c.args.answer r.is.played.played opened).0 can in
    let flies = flight-is c.in-Some.flight ((tables_in core).in_flight c.args.event) c.args.pass asked.name (sym (ap (option_map flight_of) c.in-Some.is) ∙ c.flight.ensures core.world.store.values) asked.there in
    let ending = core-ending r.session keys r.places r.standing core r.is opened in
    let world = c.answer.new.self in
    let values = world.store.values in
    let book = book_of values core.book in
    let step = seen-as r.session keys r.places r.standing core r.is opened values entry (Some (tables_of world (with_answer c.args.event c.args.answer book))) (c.answer.ensures.answers book (makings_of keys core.nonce) c.args.pass c.args.event (ap (state_of values) ending) flies) in
    let room = c.room_law.ensures r.session keys r.places r.standing entry core (tables_of world (with_answer c.args.event c.args.answer book)) r.is c.bytes.ensures.few step in
    less_room (answers_of core.book) (c.args.event, c.args.answer) (vec_capacity core.book.answers) ((c.args.event, c.args.answer) ∷ answers_of core.book) refl room.answers

pub answer-requires-in-Some-clause-event : goal.answer-requires-in-Some-clause-event
answer-requires-in-Some-clause-event c =
    let core = c.args.self.now in
    let keys = c.requires.0 in
    let r = c.requires.1 in
    let entry = answered c.args.pass c.args.event c.args.answer in
    let opened = open-of r.session keys r.standing entry r.possible in
    let can = (c.played_law.ensures.can r.session keys (history_of core.book) r.standing (tables_in core) entry r.is.played.played).0 r.possible in
    let asked = (c.results_law.ensures.answers r.session keys (history_of core.book) r.standing (tables_in core) c.args.pass c.args.event c.args.answer r.is.played.played opened).0 can in
    let below = c.free_law.ensures.asked r.session keys (history_of core.book) r.standing (tables_in core) c.args.event c.args.pass asked.name r.is.played.played asked.there in
    let bound = r.is.played.roomy.indexed in
    omega (arith, below, bound)

pub answer-requires-in-Some-clause-first : goal.answer-requires-in-Some-clause-first
answer-requires-in-Some-clause-first c =
    let core = c.args.self.now in
    let keys = c.requires.0 in
    let r = c.requires.1 in
    let entry = answered c.args.pass c.args.event c.args.answer in
    let opened = open-of r.session keys r.standing entry r.possible in
    let can = (c.played_law.ensures.can r.session keys (history_of core.book) r.standing (tables_in core) entry r.is.played.played).0 r.possible in
    let asked = (c.results_law.ensures.answers r.session keys (history_of core.book) r.standing (tables_in core) c.args.pass c.args.event c.args.answer r.is.played.played opened).0 can in
    c.free_law.ensures.unanswered r.session keys (history_of core.book) r.standing (tables_in core) c.args.event c.args.pass asked.name r.is.played.played asked.there

pub returns-clause-behind : goal.returns-clause-behind
returns-clause-behind c = λ session others places at.
    let core = c.args.self.now in
    let keys = c.requires.0 in
    let r = c.requires.1 in
    let entry = answered c.args.pass c.args.event c.args.answer in
    let opened = open-of r.session keys r.standing entry r.possible in
    let can = (c.played_law.ensures.can r.session keys (history_of core.book) r.standing (tables_in core) entry r.is.played.played).0 r.possible in
    let asked = (c.results_law.ensures.answers r.session keys (history_of core.book) r.standing (tables_in core) c.args.pass c.args.event c.args.answer r.is.played.played opened).0 can in
    let flies = flight-is c.in-Some.flight ((tables_in core).in_flight c.args.event) c.args.pass asked.name (sym (ap (option_map flight_of) c.in-Some.is) ∙ c.flight.ensures core.world.store.values) asked.there in
    let ending = core-ending r.session keys r.places r.standing core r.is opened in
    let is = at.1 in
    let stands = standing-by session others places at.0 core is ending in
    let world = c.answer.new.self in
    let values = world.store.values in
    let book = book_of values core.book in
    let new : Core = record { world = world; agenda = core.agenda; book = c.answer-in-Some.new.self; nonce = core.nonce } in
    let step = seen-as session others places at.0 core is stands values entry (Some (tables_of world (with_answer c.args.event c.args.answer book))) (c.answer.ensures.answers book (makings_of others core.nonce) c.args.pass c.args.event (ap (state_of values) ending) flies)
    ∙ ap (λ (b : Book). Some (tables_of world b)) (sym (c.answer-in-Some.ensures.book values)) in
    let taken = c.taking_law.ensures session others places at.0 entry core world c.answer-in-Some.new.self is c.bytes.ensures.few step (record {
      knows = c.answer.ensures.world others is.played.knows;
      room = c.answer.ensures.room;
      program = c.answer.ensures.program;
      places = ap (λ p. p.items) c.answer.ensures.places;
      adds = c.answer-in-Some.ensures.history;
      keeps = c.answer-in-Some.ensures.keeps;
    }) in
    behind-quiet session others places at.0 core is stands entry c.in-Some.flight.name new taken (made-kept session places core new refl refl is.made) refl
    (asker-told ((tables_in core).in_flight c.args.event) c.args.pass c.in-Some.flight.name flies) refl
