-- What the code's list of answers stands for.
use Rattle.std.specs.Prelude.{ℕ, List}
use Rattle.appraiser.specs.declared.judging.Held.{Held}

abbrev pub pair_of : Held → ℕ × List ℕ
pair_of held = (held.event, held.answer.now)
