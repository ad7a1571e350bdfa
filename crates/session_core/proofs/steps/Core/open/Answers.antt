use Rattle.std.proofs.Common.{◌≡◌, ◌+◌, ℕ, List, length, map, sym, ap, ◌∙◌, subst}
use Rattle.phrase_tree.specs.declared.phrase.Phrase.{Phrase}
use Rattle.phrase_tree.specs.Term.{term}
use Rattle.phrase_tree.specs.Numbering.{event_count}
use Rattle.evidence_types.specs.Evidence.{nonce}
use Rattle.session_model.specs.Session.{Session, session_questions}
use Rattle.avm_code.specs.declared.program.Block.{Block}
use Rattle.avm_compile.specs.Program.{program_of}
use Rattle.machine_tables.specs.Tables.{opening_tables}
use Rattle.machine_world.specs.Cells.{tables_of}
use Rattle.machine_world.specs.World.{IsCounted}
use Rattle.session_book.specs.Kept.{IsRoomy}
use Rattle.place_check.specs.Places.{keys_of}
use Rattle.place_check.specs.Session.{session_of}
use Rattle.checked_sessions.specs.Named.{place_names}
use Rattle.session_core.specs.declared.steps.Core.{Core}
use Rattle.session_core.specs.Core.{program_in, IsMadeFor}
use Rattle.session_core.specs.Counted.{question_count}
use Rattle.session_core.specs.Named.{name_in}
use Rattle.session_core.proofs.OpeningLemmas.{can-play, is-opened, counts, names-mapped, names-many}
use Rattle.session_core.proofs.steps.Core.open.Goals as goal

pub open-requires-clause-can_play : goal.open-requires-clause-can_play
open-requires-clause-can_play c =
    let checked = c.args.checked.now in
    let places = c.args.places.now in
    let keys = keys_of places in
    let phrase = term checked.phrase in
    let program_is = c.in_ok-program.ensures ∙ ap (λ (p : Phrase). program_of (term p) c.root.result) c.phrase-phrase.ensures.phrase ∙ ap (program_of phrase) c.root.ensures in
    let names_are = c.in_ok-names.ensures ∙ ap (map name_in) c.items.ensures.items in
    let events_are = c.events-events.ensures ∙ ap (λ (p : Phrase). event_count (term p)) c.phrase-phrase.ensures.phrase in
    let plays = can-play checked places c.in_ok-program.program c.in_ok-names.names.items c.phrases_play.ensures c.phrase-phrase.ensures.bounded c.blocks_have_keys.ensures c.checked_session_asks_places.ensures c.places_are_few.ensures program_is names_are in
    (keys, plays.0)

pub open-requires-clause-counted : goal.open-requires-clause-counted
open-requires-clause-counted c =
    let checked = c.args.checked.now in
    let places = c.args.places.now in
    let keys = keys_of places in
    let phrase = term checked.phrase in
    let program_is = c.in_ok-program.ensures ∙ ap (λ (p : Phrase). program_of (term p) c.root.result) c.phrase-phrase.ensures.phrase ∙ ap (program_of phrase) c.root.ensures in
    let names_are = c.in_ok-names.ensures ∙ ap (map name_in) c.items.ensures.items in
    let events_are = c.events-events.ensures ∙ ap (λ (p : Phrase). event_count (term p)) c.phrase-phrase.ensures.phrase in
    let plays = can-play checked places c.in_ok-program.program c.in_ok-names.names.items c.phrases_play.ensures c.phrase-phrase.ensures.bounded c.blocks_have_keys.ensures c.checked_session_asks_places.ensures c.places_are_few.ensures program_is names_are in
    subst (IsCounted c.in_ok-program.program) (sym events_are) plays.1

pub tell_of_opening-requires : goal.tell_of_opening-requires
tell_of_opening-requires c =
    let checked = c.args.checked.now in
    let places = c.args.places.now in
    let keys = keys_of places in
    let phrase = term checked.phrase in
    let program_is = c.in_ok-program.ensures ∙ ap (λ (p : Phrase). program_of (term p) c.root.result) c.phrase-phrase.ensures.phrase ∙ ap (program_of phrase) c.root.ensures in
    let names_are = c.in_ok-names.ensures ∙ ap (map name_in) c.items.ensures.items in
    let events_are = c.events-events.ensures ∙ ap (λ (p : Phrase). event_count (term p)) c.phrase-phrase.ensures.phrase in
    let plays = can-play checked places c.in_ok-program.program c.in_ok-names.names.items c.phrases_play.ensures c.phrase-phrase.ensures.bounded c.blocks_have_keys.ensures c.checked_session_asks_places.ensures c.places_are_few.ensures program_is names_are in
    let session : Session = session_of checked in
    let core : Core = record { world = c.in_ok-world.world; agenda = c.in_ok-agenda.agenda; book = c.in_ok-book.book; nonce = c.nonce.result.now } in
    let sixteen : length session.nonce ≡ 16 = ap length (sym c.nonce.ensures) ∙ c.nonce_is_sixteen.ensures in
    let questions_are = c.question_count-questions.ensures ∙ ap (λ (p : Phrase). question_count (term p)) c.phrase-phrase.ensures.phrase ∙ sym (counts phrase session.root session.nonce 0) in
    let tables = ap (tables_of core.world) (c.in_ok-book.ensures.book core.world.store.values) ∙ c.in_ok-world.ensures.opens ∙ ap (λ (p : List Block). opening_tables p (nonce c.nonce.result.now)) program_is ∙ ap (λ (n : List ℕ). opening_tables (program_in session) (nonce n)) c.nonce.ensures in
    let made : IsMadeFor session (place_names places) core = record {
      nonce = c.nonce.ensures;
      apart = c.places_are_apart.ensures;
      asks = c.checked_session_asks_places.ensures;
      kept = c.in_ok-agenda.ensures.kept;
      blocks = c.in_ok-agenda.ensures.room.0 ∙ ap (λ (n : ℕ). n + 1) events_are;
      events = c.in_ok-agenda.ensures.room.1 ∙ events_are;
      deliveries = c.in_ok-agenda.ensures.room.2 ∙ c.count.ensures ∙ sym (names-many places);
    } in
    let opened = is-opened session keys (place_names places) core (c.played_law.ensures.opens session keys c.phrase-phrase.ensures.bounded.light sixteen) (c.in_ok-world.ensures.world keys plays.0) c.in_ok-world.ensures.room (c.in_ok-world.ensures.program ∙ program_is) (c.in_ok-world.ensures.places ∙ names_are ∙ names-mapped places)
    c.in_ok-book.ensures.history c.in_ok-book.ensures.kept
    (subst (λ (e : ℕ). IsRoomy e (length (session_questions session)) core.book) events_are (subst (λ (q : ℕ). IsRoomy c.events-events.result q core.book) questions_are c.in_ok-book.ensures.room))
    tables made c.in_ok-agenda.ensures.blocks c.in_ok-agenda.ensures.places in
    (session, keys, place_names places, opened)

pub returns-clause-core : goal.returns-clause-core
returns-clause-core c =
    let checked = c.args.checked.now in
    let places = c.args.places.now in
    let keys = keys_of places in
    let phrase = term checked.phrase in
    let program_is = c.in_ok-program.ensures ∙ ap (λ (p : Phrase). program_of (term p) c.root.result) c.phrase-phrase.ensures.phrase ∙ ap (program_of phrase) c.root.ensures in
    let names_are = c.in_ok-names.ensures ∙ ap (map name_in) c.items.ensures.items in
    let events_are = c.events-events.ensures ∙ ap (λ (p : Phrase). event_count (term p)) c.phrase-phrase.ensures.phrase in
    let plays = can-play checked places c.in_ok-program.program c.in_ok-names.names.items c.phrases_play.ensures c.phrase-phrase.ensures.bounded c.blocks_have_keys.ensures c.checked_session_asks_places.ensures c.places_are_few.ensures program_is names_are in
    let session : Session = session_of checked in
    let core : Core = record { world = c.in_ok-world.world; agenda = c.in_ok-agenda.agenda; book = c.in_ok-book.book; nonce = c.nonce.result.now } in
    let sixteen : length session.nonce ≡ 16 = ap length (sym c.nonce.ensures) ∙ c.nonce_is_sixteen.ensures in
    let questions_are = c.question_count-questions.ensures ∙ ap (λ (p : Phrase). question_count (term p)) c.phrase-phrase.ensures.phrase ∙ sym (counts phrase session.root session.nonce 0) in
    let tables = ap (tables_of core.world) (c.in_ok-book.ensures.book core.world.store.values) ∙ c.in_ok-world.ensures.opens ∙ ap (λ (p : List Block). opening_tables p (nonce c.nonce.result.now)) program_is ∙ ap (λ (n : List ℕ). opening_tables (program_in session) (nonce n)) c.nonce.ensures in
    let made : IsMadeFor session (place_names places) core = record {
      nonce = c.nonce.ensures;
      apart = c.places_are_apart.ensures;
      asks = c.checked_session_asks_places.ensures;
      kept = c.in_ok-agenda.ensures.kept;
      blocks = c.in_ok-agenda.ensures.room.0 ∙ ap (λ (n : ℕ). n + 1) events_are;
      events = c.in_ok-agenda.ensures.room.1 ∙ events_are;
      deliveries = c.in_ok-agenda.ensures.room.2 ∙ c.count.ensures ∙ sym (names-many places);
    } in
    let opened = is-opened session keys (place_names places) core (c.played_law.ensures.opens session keys c.phrase-phrase.ensures.bounded.light sixteen) (c.in_ok-world.ensures.world keys plays.0) c.in_ok-world.ensures.room (c.in_ok-world.ensures.program ∙ program_is) (c.in_ok-world.ensures.places ∙ names_are ∙ names-mapped places)
    c.in_ok-book.ensures.history c.in_ok-book.ensures.kept
    (subst (λ (e : ℕ). IsRoomy e (length (session_questions session)) core.book) events_are (subst (λ (q : ℕ). IsRoomy c.events-events.result q core.book) questions_are c.in_ok-book.ensures.room))
    tables made c.in_ok-agenda.ensures.blocks c.in_ok-agenda.ensures.places in
    c.tell_of_opening.ensures.core session keys (place_names places) opened
