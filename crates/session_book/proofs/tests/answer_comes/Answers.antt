use Rattle.std.proofs.Common.{◌≡◌, ℕ, List, [], sym, ap, subst, arith}
use Rattle.std.specs.Prelude.{length, Contains}
use Rattle.session_runs.specs.Room.{events_answered}
use Rattle.session_book.specs.Kept.{answers_of}
use Rattle.session_book.proofs.tests.answer_comes.Goals as goal

nothing_answered : (event : ℕ) → Contains (events_answered []) event → ⊥
nothing_answered event found = omega (arith, found.1)

pub answer-requires-clause-answers : goal.answer-requires-clause-answers
answer-requires-clause-answers c = omega (arith, ap (λ (answers : List (ℕ × List ℕ)). length answers) c.requires.first, c.requires.room.answers)

pub answer-requires-clause-first : goal.answer-requires-clause-first
answer-requires-clause-first c =
    subst (λ (answers : List (ℕ × List ℕ)). Contains (events_answered answers) c.args.event → ⊥) (sym c.requires.first) (nothing_answered c.args.event)

pub returns-clause-kept : goal.returns-clause-kept
returns-clause-kept c = c.answer.ensures.keeps.kept

pub returns-clause-room : goal.returns-clause-room
returns-clause-room c = c.answer.ensures.keeps.room 4 2 c.requires.room
