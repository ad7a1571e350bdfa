use Rattle.std.proofs.Common.{ap, ◌∙◌}
use Rattle.std.specs.Prelude.{vec_capacity, Some}
use Rattle.rising_list.specs.Rising.{find, inserted}
use Rattle.machine_tables.specs.Tables.{put_ask}
use Rattle.session_book.specs.declared.entry.Note.TheVariants.{Asked}
use Rattle.session_book.specs.declared.entry.Flight.{Flight}
use Rattle.session_book.specs.Kept.{in_flight_by, state_of, answers_of, flight_of}
use Rattle.session_book.proofs.Noting.{keeps_noted, flies_more, same_book, no_flight}
use Rattle.session_book.proofs.book.SessionBook.ask.Goals as goal

pub insert-requires-clause-free : goal.insert-requires-clause-free
insert-requires-clause-free c =
    ap (λ b. find c.args.event b.in_flight.entries) c.note.ensures.rest ∙ no_flight c.args.event c.args.self.now.in_flight.entries c.requires.free

pub returns-clause-book : goal.returns-clause-book
returns-clause-book c values =
    let old = c.args.self.now in
    let flight : Flight = record { pass = c.args.pass; name = c.args.name } in
    let same = c.note.ensures.rest in
    same_book
    (in_flight_by c.insert.new.self.entries)
    (put_ask c.args.event (Some (flight_of flight)) (in_flight_by old.in_flight.entries))
    c.note.new.self.trace.items
    old.trace.items
    (answers_of c.note.new.self)
    (answers_of old)
    (state_of values c.note.new.self.ending)
    (state_of values old.ending)
    (ap in_flight_by (c.insert.ensures.entries ∙ ap (λ b. inserted c.args.event flight b.in_flight.entries) same) ∙ flies_more c.args.event flight old.in_flight.entries (no_flight c.args.event old.in_flight.entries c.requires.free))
    (ap (λ b. b.trace.items) same)
    (ap answers_of same)
    (ap (λ b. state_of values b.ending) same)

pub returns-clause-keeps : goal.returns-clause-keeps
returns-clause-keeps c =
    let same = c.note.ensures.rest in
    keeps_noted c.args.self.now (record {
      entries = c.note.new.self.entries;
      answers = c.note.new.self.answers;
      indexed = c.note.new.self.indexed;
      in_flight = c.insert.new.self;
      trace = c.note.new.self.trace;
      ending = c.note.new.self.ending;
    }) (Asked c.args.pass c.args.name) c.requires.kept (record {
      entries = c.note.ensures.entries;
      capacity = c.note.ensures.capacity;
      answers = ap (λ b. b.answers) same;
      indexed = ap (λ b. b.indexed) same;
      in_flight = c.insert.ensures.bound ∙ ap (λ b. b.in_flight.bound) same;
      trace = ap (λ b. vec_capacity b.trace) same;
    }) tt
