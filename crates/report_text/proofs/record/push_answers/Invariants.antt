-- What was written and what is to come is the whole.
use Rattle.std.proofs.Common.{◌≡◌, ◌++◌, drop}
use Rattle.report_text.specs.Records.{answer_lines}
use Rattle.report_text.proofs.record.push_answers.Given as goal

abbrev pub invariant-loop-pair : goal.invariant-loop-pair
invariant-loop-pair l =
    l.text.items ++ answer_lines (drop l.pair-index l.answers) ≡ l.initial.text.items ++ answer_lines l.answers
