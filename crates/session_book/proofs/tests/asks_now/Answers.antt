use Rattle.std.proofs.Common.{ap, []}
use Rattle.session_book.proofs.tests.asks_now.Goals as goal

pub returns-clause-kept : goal.returns-clause-kept
returns-clause-kept c = c.ask.ensures.keeps.kept

pub returns-clause-room : goal.returns-clause-room
returns-clause-room c = c.ask.ensures.keeps.room 4 2 c.requires.room

pub returns-clause-answers : goal.returns-clause-answers
returns-clause-answers c = ap (λ b. b.answers) (c.ask.ensures.book [])
