-- How many questions a phrase asks.
use Rattle.std.specs.Prelude.{◌+◌, ℕ, if◌then◌else◌}
use Rattle.phrase_tree.specs.Term.{Term, is_measurement, leaf, at, chain, seq, par}

-- the number of its measurements
abbrev pub question_count : Term → ℕ
question_count (leaf form) = if is_measurement form then 1 else 0
question_count (at asked body) = question_count body
question_count (chain left right) = question_count left + question_count right
question_count (seq split left right) = question_count left + question_count right
question_count (par split left right) = question_count left + question_count right
