use Rattle.session_book.proofs.tests.happens_now.Goals as goal

pub returns-clause-kept : goal.returns-clause-kept
returns-clause-kept c = c.run.ensures.keeps.kept

pub returns-clause-room : goal.returns-clause-room
returns-clause-room c = c.run.ensures.keeps.room 4 2 c.requires.room
