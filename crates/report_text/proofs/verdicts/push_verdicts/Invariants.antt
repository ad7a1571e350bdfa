-- What was written and what is to come is the whole.
use Rattle.std.proofs.Common.{◌≡◌, ◌++◌, drop}
use Rattle.report_text.specs.Verdicts.{verdict_lines}
use Rattle.report_text.proofs.verdicts.push_verdicts.Given as goal

abbrev pub invariant-loop-verdict : goal.invariant-loop-verdict
invariant-loop-verdict l =
    l.text.items ++ verdict_lines (drop l.verdict-index l.verdicts) ≡ l.initial.text.items ++ verdict_lines l.verdicts
