-- None of the places that were passed is the one.
use Rattle.std.proofs.Common.{◌≡◌, ◌<◌, ℕ, false, [], slice_index_or, nat_eq}
use Rattle.std.specs.Cmp.Lexicographic.{pointwise}
use Rattle.session_core.proofs.places.index_of.Given as goal

abbrev pub invariant-loop-index : goal.invariant-loop-index
invariant-loop-index l = (k : ℕ) → k < l.index → pointwise nat_eq (slice_index_or l.places k []) l.place ≡ false
