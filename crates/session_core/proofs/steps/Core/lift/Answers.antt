use Rattle.std.proofs.Common.{ℕ, Some, refl, sym, ap, ◌∙◌, subst, arith}
use Rattle.session_runs.specs.Moves.{ask as ask_step}
use Rattle.session_runs.specs.Standing.{ask, played, makings}
use Rattle.machine_tables.specs.Tables.{Next}
use Rattle.machine_world.specs.Cells.{Book, block_of, tables_of}
use Rattle.session_book.specs.Entries.{history_of}
use Rattle.session_core.specs.declared.steps.Core.{Core}
use Rattle.session_core.specs.Core.{program_in, tables_in, tables_at}
use Rattle.session_core.proofs.Facts.{open-of, core-ending, standing-by, tables-open, made-kept}
use Rattle.session_core.proofs.Asking.{Finds, found-is, not-found}
use Rattle.session_core.proofs.Lifting.{asking, behind-ask, asked-now, was-free, own-question}
use Rattle.session_core.proofs.steps.Core.lift.Goals as goal

pub ask-requires : goal.ask-requires
ask-requires c = (c.requires.0, c.requires.1.is.played.knows)

pub unreachable-requires : goal.unreachable-requires
unreachable-requires c =
    let core = c.args.self.now in
    let keys = c.requires.0 in
    let r = c.requires.1 in
    let name = c.args.name in
    let entry = played c.args.pass (ask (block_of name)) in
    let opened = open-of r.session keys r.standing entry r.possible in
    let tables = tables-open r.session keys r.places r.standing core r.is opened in
    let can = (c.played_law.ensures.can r.session keys (history_of core.book) r.standing (tables_in core) entry r.is.played.played).0 r.possible in
    let facts = asking r.session keys r.places r.standing core r.is opened name
    (c.steps_law.ensures.next (program_in r.session) (makings r.session keys) (tables_in core) c.args.pass (block_of name) ask_step tables can)
    (λ event is. c.own_question_law.ensures.next r.session keys (history_of core.book) r.standing (tables_in core) event (block_of name) r.is.played.played is) in
    not-found r.session facts.event c.ask.result (subst (Finds r.session facts.event) (sym c.ask.ensures) facts.finds) c.in-None.is

pub ask-requires-in-Some-clause-kept : goal.ask-requires-in-Some-clause-kept
ask-requires-in-Some-clause-kept c = c.requires.1.is.played.kept

pub ask-requires-in-Some-clause-room : goal.ask-requires-in-Some-clause-room
ask-requires-in-Some-clause-room c =
    let core = c.args.self.now in
    let keys = c.requires.0 in
    let r = c.requires.1 in
    let entry = played c.args.pass (ask (block_of c.args.name)) in
    let can = (c.played_law.ensures.can r.session keys (history_of core.book) r.standing (tables_in core) entry r.is.played.played).0 r.possible in
    (c.room_law.ensures r.session keys r.places r.standing entry core can.later r.is tt can.taken).entries

pub ask-requires-in-Some-clause-event : goal.ask-requires-in-Some-clause-event
ask-requires-in-Some-clause-event c =
    let core = c.args.self.now in
    let keys = c.requires.0 in
    let r = c.requires.1 in
    let name = c.args.name in
    let entry = played c.args.pass (ask (block_of name)) in
    let opened = open-of r.session keys r.standing entry r.possible in
    let tables = tables-open r.session keys r.places r.standing core r.is opened in
    let can = (c.played_law.ensures.can r.session keys (history_of core.book) r.standing (tables_in core) entry r.is.played.played).0 r.possible in
    let facts = asking r.session keys r.places r.standing core r.is opened name
    (c.steps_law.ensures.next (program_in r.session) (makings r.session keys) (tables_in core) c.args.pass (block_of name) ask_step tables can)
    (λ event is. c.own_question_law.ensures.next r.session keys (history_of core.book) r.standing (tables_in core) event (block_of name) r.is.played.played is) in
    let own = found-is r.session facts.event c.ask.result c.in-Some.asked (subst (Finds r.session facts.event) (sym c.ask.ensures) facts.finds) c.in-Some.is in
    let event = c.in-Some.asked.event in
    let next = facts.next ∙ ap (λ (n : ℕ). let o : Next = Some (ask_step, Some n) in o) (sym own.0) in
    let below = c.free_law.ensures.events r.session keys (history_of core.book) r.standing (tables_in core) (block_of name) ask_step event r.is.played.played opened next in
    let bound = r.is.played.roomy.in_flight in
    omega (arith, below, bound)

pub ask-requires-in-Some-clause-free : goal.ask-requires-in-Some-clause-free
ask-requires-in-Some-clause-free c =
    let core = c.args.self.now in
    let keys = c.requires.0 in
    let r = c.requires.1 in
    let name = c.args.name in
    let entry = played c.args.pass (ask (block_of name)) in
    let opened = open-of r.session keys r.standing entry r.possible in
    let tables = tables-open r.session keys r.places r.standing core r.is opened in
    let can = (c.played_law.ensures.can r.session keys (history_of core.book) r.standing (tables_in core) entry r.is.played.played).0 r.possible in
    let facts = asking r.session keys r.places r.standing core r.is opened name
    (c.steps_law.ensures.next (program_in r.session) (makings r.session keys) (tables_in core) c.args.pass (block_of name) ask_step tables can)
    (λ event is. c.own_question_law.ensures.next r.session keys (history_of core.book) r.standing (tables_in core) event (block_of name) r.is.played.played is) in
    let own = found-is r.session facts.event c.ask.result c.in-Some.asked (subst (Finds r.session facts.event) (sym c.ask.ensures) facts.finds) c.in-Some.is in
    let event = c.in-Some.asked.event in
    let next = facts.next ∙ ap (λ (n : ℕ). let o : Next = Some (ask_step, Some n) in o) (sym own.0) in
    c.free_law.ensures.unasked r.session keys (history_of core.book) r.standing (tables_in core) (block_of name) ask_step event r.is.played.played opened next

pub returns-clause-behind : goal.returns-clause-behind
returns-clause-behind c = λ session others places at.
    let core = c.args.self.now in
    let keys = c.requires.0 in
    let r = c.requires.1 in
    let name = c.args.name in
    let entry = played c.args.pass (ask (block_of name)) in
    let opened = open-of r.session keys r.standing entry r.possible in
    let tables = tables-open r.session keys r.places r.standing core r.is opened in
    let can = (c.played_law.ensures.can r.session keys (history_of core.book) r.standing (tables_in core) entry r.is.played.played).0 r.possible in
    let facts = asking r.session keys r.places r.standing core r.is opened name
    (c.steps_law.ensures.next (program_in r.session) (makings r.session keys) (tables_in core) c.args.pass (block_of name) ask_step tables can)
    (λ event is. c.own_question_law.ensures.next r.session keys (history_of core.book) r.standing (tables_in core) event (block_of name) r.is.played.played is) in
    let own = found-is r.session facts.event c.ask.result c.in-Some.asked (subst (Finds r.session facts.event) (sym c.ask.ensures) facts.finds) c.in-Some.is in
    let event = c.in-Some.asked.event in
    let next = facts.next ∙ ap (λ (n : ℕ). let o : Next = Some (ask_step, Some n) in o) (sym own.0) in
    let is = at.1 in
    let stands = standing-by session others places at.0 core is (core-ending r.session keys r.places r.standing core r.is opened) in
    let new : Core = record { world = core.world; agenda = core.agenda; book = c.ask-in-Some.new.self; nonce = core.nonce } in
    let booked = c.ask-in-Some.ensures.book core.world.store.values in
    let step = c.steps_law.ensures.asks (program_in session) (makings session others) (tables_in core) c.args.pass (block_of name) event tables next ∙ ap (λ (b : Book). Some (tables_of core.world b)) (sym booked) in
    let taken = c.taking_law.ensures session others places at.0 entry core core.world c.ask-in-Some.new.self is tt step (record {
      knows = is.played.knows;
      room = is.played.room;
      program = refl;
      places = refl;
      adds = c.ask-in-Some.ensures.history;
      keeps = c.ask-in-Some.ensures.keeps;
    }) in
    behind-ask session others places at.0 core is stands c.args.pass name new taken (made-kept session places core new refl refl is.made) refl

pub returns-clause-asked : goal.returns-clause-asked
returns-clause-asked c = λ session others places at.
    let core = c.args.self.now in
    let keys = c.requires.0 in
    let r = c.requires.1 in
    let name = c.args.name in
    let entry = played c.args.pass (ask (block_of name)) in
    let opened = open-of r.session keys r.standing entry r.possible in
    let tables = tables-open r.session keys r.places r.standing core r.is opened in
    let can = (c.played_law.ensures.can r.session keys (history_of core.book) r.standing (tables_in core) entry r.is.played.played).0 r.possible in
    let facts = asking r.session keys r.places r.standing core r.is opened name
    (c.steps_law.ensures.next (program_in r.session) (makings r.session keys) (tables_in core) c.args.pass (block_of name) ask_step tables can)
    (λ event is. c.own_question_law.ensures.next r.session keys (history_of core.book) r.standing (tables_in core) event (block_of name) r.is.played.played is) in
    let own = found-is r.session facts.event c.ask.result c.in-Some.asked (subst (Finds r.session facts.event) (sym c.ask.ensures) facts.finds) c.in-Some.is in
    let event = c.in-Some.asked.event in
    let next = facts.next ∙ ap (λ (n : ℕ). let o : Next = Some (ask_step, Some n) in o) (sym own.0) in
    let is = at.1 in
    let stands = standing-by session others places at.0 core is (core-ending r.session keys r.places r.standing core r.is opened) in
    let booked = c.ask-in-Some.ensures.book core.world.store.values in
    let step = c.steps_law.ensures.asks (program_in session) (makings session others) (tables_in core) c.args.pass (block_of name) event tables next ∙ ap (λ (b : Book). Some (tables_of core.world b)) (sym booked) in
    let taken = c.taking_law.ensures session others places at.0 entry core core.world c.ask-in-Some.new.self is tt step (record {
      knows = is.played.knows;
      room = is.played.room;
      program = refl;
      places = refl;
      adds = c.ask-in-Some.ensures.history;
      keeps = c.ask-in-Some.ensures.keeps;
    }) in
    let finds = own-question session others places at.0 core is stands name facts.event facts.next (λ e next. c.own_question_law.ensures.next session others (history_of core.book) at.0 (tables_in core) e (block_of name) is.played.played next) in
    record {
      own = (found-is session facts.event c.ask.result c.in-Some.asked (subst (Finds session facts.event) (sym c.ask.ensures) finds) c.in-Some.is).1;
      flies = asked-now session others places at.0 core is stands c.args.pass event name c.in-Some.asked (history_of c.ask-in-Some.new.self) taken.standing (tables_at core.world c.ask-in-Some.new.self) (ap (λ (b : Book). b.in_flight) booked) taken.played.played.stands
          (λ flies. (c.results_law.ensures.flies session others (history_of c.ask-in-Some.new.self) taken.standing (tables_at core.world c.ask-in-Some.new.self) c.args.pass event taken.played.played).1 flies);
      fresh = λ before stood flies.
          was-free session others places at.0 core is c.args.pass event before stood
          (c.free_law.ensures.unasked session others (history_of core.book) at.0 (tables_in core) (block_of name) ask_step event is.played.played stands next)
          (λ flying. (c.results_law.ensures.flies session others (history_of core.book) at.0 (tables_in core) c.args.pass event is.played.played).0 flying)
          flies;
    }
