use Rattle.std.proofs.Common.{ap, ◌∙◌, ◌++◌, ◌∷◌, []}
use Rattle.std.specs.Prelude.{vec_capacity, None, reverse}
use Rattle.rising_list.specs.Rising.{inserted, removed}
use Rattle.machine_tables.specs.Tables.{put_ask}
use Rattle.session_book.specs.declared.entry.Note.TheVariants.{Answered}
use Rattle.session_book.specs.declared.book.SessionBook.{SessionBook}
use Rattle.session_book.specs.Kept.{in_flight_by, state_of, answers_of}
use Rattle.session_book.proofs.Sorting.{unanswered_free}
use Rattle.session_book.proofs.Noting.{NotesAnswer, history_answered, keeps_answered, flies_less, same_book, back_push}
use Rattle.session_book.proofs.book.SessionBook.answer.Goals as goal

pub put_answer-at-requires-clause-free : goal.put_answer-at-requires-clause-free
put_answer-at-requires-clause-free c = unanswered_free c.args.self.now c.requires.kept c.args.event c.requires.first

pub returns-clause-history : goal.returns-clause-history
returns-clause-history c =
    let put = c.put_answer-at.ensures in
    let first = c.put_answer-at.new.self in
    let new : SessionBook = record {
      entries = c.note.new.self.entries;
      answers = c.note.new.self.answers;
      indexed = c.note.new.self.indexed;
      in_flight = c.remove.new.self;
      trace = c.push_reserved.new.self;
      ending = c.note.new.self.ending;
    } in
    let facts : NotesAnswer c.args.self.now new c.args.pass c.args.event c.args.answer = record {
      entries = c.note.ensures.entries ∙ ap (λ b. b.entries.items ++ Answered c.args.pass c.put_answer-at.result ∷ []) put.rest ∙ ap (λ k. c.args.self.now.entries.items ++ Answered c.args.pass k ∷ []) put.at;
      capacity = c.note.ensures.capacity ∙ ap (λ b. vec_capacity b.entries) put.rest;
      answers = ap (λ b. b.answers.items) c.note.ensures.rest ∙ put.answers;
      room = ap (λ b. vec_capacity b.answers) c.note.ensures.rest ∙ put.capacity;
      indexed = ap (λ b. b.indexed.entries) c.note.ensures.rest ∙ put.indexed ∙ ap (λ k. inserted c.args.event k c.args.self.now.indexed.entries) put.at;
      bound = ap (λ b. b.indexed.bound) c.note.ensures.rest ∙ put.bound;
      in_flight = c.remove.ensures.bound ∙ ap (λ b. b.in_flight.bound) c.note.ensures.rest ∙ ap (λ b. b.in_flight.bound) put.rest;
      trace = c.push_reserved.ensures.capacity ∙ ap (λ b. vec_capacity b.trace) c.note.ensures.rest ∙ ap (λ b. vec_capacity b.trace) put.rest;
    } in
    history_answered c.args.self.now new c.args.pass c.args.event c.args.answer c.requires.kept facts

pub returns-clause-book : goal.returns-clause-book
returns-clause-book c values =
    let old = c.args.self.now in
    let put = c.put_answer-at.ensures in
    let same = c.note.ensures.rest in
    same_book
    (in_flight_by c.remove.new.self.entries)
    (put_ask c.args.event None (in_flight_by old.in_flight.entries))
    c.push_reserved.new.self.items
    (old.trace.items ++ c.args.event ∷ [])
    (reverse c.note.new.self.answers.items)
    ((c.args.event, c.args.answer) ∷ answers_of old)
    (state_of values c.note.new.self.ending)
    (state_of values old.ending)
    (ap in_flight_by (c.remove.ensures.entries ∙ ap (λ b. removed c.args.event b.in_flight.entries) same ∙ ap (λ b. removed c.args.event b.in_flight.entries) put.rest) ∙ flies_less c.args.event old.in_flight.entries c.rises.ensures.rises)
    (c.push_reserved.ensures.items ∙ ap (λ b. b.trace.items ++ c.args.event ∷ []) same ∙ ap (λ b. b.trace.items ++ c.args.event ∷ []) put.rest)
    (ap reverse (ap (λ b. b.answers.items) same ∙ put.answers) ∙ back_push old.answers.items (c.args.event, c.args.answer))
    (ap (λ b. state_of values b.ending) same ∙ ap (λ b. state_of values b.ending) put.rest)

pub returns-clause-keeps : goal.returns-clause-keeps
returns-clause-keeps c =
    let put = c.put_answer-at.ensures in
    let new : SessionBook = record {
      entries = c.note.new.self.entries;
      answers = c.note.new.self.answers;
      indexed = c.note.new.self.indexed;
      in_flight = c.remove.new.self;
      trace = c.push_reserved.new.self;
      ending = c.note.new.self.ending;
    } in
    let facts : NotesAnswer c.args.self.now new c.args.pass c.args.event c.args.answer = record {
      entries = c.note.ensures.entries ∙ ap (λ b. b.entries.items ++ Answered c.args.pass c.put_answer-at.result ∷ []) put.rest ∙ ap (λ k. c.args.self.now.entries.items ++ Answered c.args.pass k ∷ []) put.at;
      capacity = c.note.ensures.capacity ∙ ap (λ b. vec_capacity b.entries) put.rest;
      answers = ap (λ b. b.answers.items) c.note.ensures.rest ∙ put.answers;
      room = ap (λ b. vec_capacity b.answers) c.note.ensures.rest ∙ put.capacity;
      indexed = ap (λ b. b.indexed.entries) c.note.ensures.rest ∙ put.indexed ∙ ap (λ k. inserted c.args.event k c.args.self.now.indexed.entries) put.at;
      bound = ap (λ b. b.indexed.bound) c.note.ensures.rest ∙ put.bound;
      in_flight = c.remove.ensures.bound ∙ ap (λ b. b.in_flight.bound) c.note.ensures.rest ∙ ap (λ b. b.in_flight.bound) put.rest;
      trace = c.push_reserved.ensures.capacity ∙ ap (λ b. vec_capacity b.trace) c.note.ensures.rest ∙ ap (λ b. vec_capacity b.trace) put.rest;
    } in
    keeps_answered c.args.self.now new c.args.pass c.args.event c.args.answer c.requires.kept (unanswered_free c.args.self.now c.requires.kept c.args.event c.requires.first) facts
