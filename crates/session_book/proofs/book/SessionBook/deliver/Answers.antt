use Rattle.std.proofs.Common.{ap}
use Rattle.session_book.specs.declared.entry.Note.TheVariants.{Delivered}
use Rattle.session_book.proofs.Noting.{history_noted, keeps_noted}
use Rattle.session_book.proofs.book.SessionBook.deliver.Goals as goal

pub returns-clause-history : goal.returns-clause-history
returns-clause-history c =
    history_noted c.args.self.now c.note.new.self (Delivered c.args.pass c.args.place) c.note.ensures.entries (ap (λ b. b.answers) c.note.ensures.rest)

pub returns-clause-keeps : goal.returns-clause-keeps
returns-clause-keeps c =
    keeps_noted c.args.self.now c.note.new.self (Delivered c.args.pass c.args.place) c.requires.kept (record {
      entries = c.note.ensures.entries;
      capacity = c.note.ensures.capacity;
      answers = ap (λ b. b.answers) c.note.ensures.rest;
      indexed = ap (λ b. b.indexed) c.note.ensures.rest;
      in_flight = ap (λ b. b.in_flight.bound) c.note.ensures.rest;
      trace = ap (λ b. Rattle.std.specs.Prelude.vec_capacity b.trace) c.note.ensures.rest;
    }) tt
