-- What is drawn is below the count.
use Rattle.std.proofs.Common.{◌<◌, ◌/◌, ◌%◌, ℕ, Bool, true, false, Option, None, Some, nat_eq, arith}
use Rattle.session_runs.specs.Schedule.{draw, drawn_of, stirred}

drawn_below : (b : Bool) (from : Option ℕ) → (drawn_of 8 b from).drawn < 8
drawn_below true from = omega arith
drawn_below false None = omega arith
drawn_below false (Some x) = let y = stirred x / 65536 in let h : y % 8 < 8 = omega arith in h

pub below_eight : (from : Option ℕ) → (draw 8 from).drawn < 8
below_eight from = drawn_below (nat_eq 8 1) from
