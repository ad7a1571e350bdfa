use denote.Text.{Utf8}
use denote.Shadow.{shadow}
use Rattle.copland_cli.proofs.appraise_tests.job_with.Given as goal

-- What stands ahead of the next reference is text.
abbrev pub invariant-loop-answer : goal.invariant-loop-answer
invariant-loop-answer l =
    (goal.iterator-loop-answer).can_next l.answer-iterator ×
    (goal.iterator-loop-answer).is_finite l.answer-iterator ×
    shadow (Utf8 l.comma)
