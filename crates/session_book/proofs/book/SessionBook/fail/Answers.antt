use Rattle.std.proofs.Common.{refl, ap, ◌∙◌}
use Rattle.std.specs.Prelude.{vec_capacity, None}
use Rattle.rising_list.specs.Rising.{removed}
use Rattle.machine_tables.specs.Tables.{put_ask}
use Rattle.session_runs.specs.Standing.{has_failed}
use Rattle.session_book.specs.declared.entry.Note.TheVariants.{Failed}
use Rattle.session_book.specs.declared.entry.Ending.TheVariants as ending
use Rattle.session_book.specs.Kept.{in_flight_by, answers_of}
use Rattle.session_book.proofs.Noting.{keeps_noted, flies_less, same_book}
use Rattle.session_book.proofs.book.SessionBook.fail.Goals as goal

pub returns-clause-book : goal.returns-clause-book
returns-clause-book c values =
    let old = c.args.self.now in
    let same = c.note.ensures.rest in
    same_book
    (in_flight_by c.remove.new.self.entries)
    (put_ask c.args.event None (in_flight_by old.in_flight.entries))
    c.note.new.self.trace.items
    old.trace.items
    (answers_of c.note.new.self)
    (answers_of old)
    (has_failed c.args.event c.args.fault)
    (has_failed c.args.event c.args.fault)
    (ap in_flight_by (c.remove.ensures.entries ∙ ap (λ b. removed c.args.event b.in_flight.entries) same) ∙ flies_less c.args.event old.in_flight.entries c.rises.ensures.rises)
    (ap (λ b. b.trace.items) same)
    (ap answers_of same)
    refl

pub returns-clause-keeps : goal.returns-clause-keeps
returns-clause-keeps c =
    let same = c.note.ensures.rest in
    keeps_noted c.args.self.now (record {
      entries = c.note.new.self.entries;
      answers = c.note.new.self.answers;
      indexed = c.note.new.self.indexed;
      in_flight = c.remove.new.self;
      trace = c.note.new.self.trace;
      ending = ending.Failed c.args.event c.args.fault;
    }) (Failed c.args.pass c.args.event c.args.fault) c.requires.kept (record {
      entries = c.note.ensures.entries;
      capacity = c.note.ensures.capacity;
      answers = ap (λ b. b.answers) same;
      indexed = ap (λ b. b.indexed) same;
      in_flight = c.remove.ensures.bound ∙ ap (λ b. b.in_flight.bound) same;
      trace = ap (λ b. vec_capacity b.trace) same;
    }) tt
