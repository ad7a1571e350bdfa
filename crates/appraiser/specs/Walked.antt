-- What the walk over a part of a value comes to.
use Rattle.std.specs.Prelude.{◌≡◌, ◌+◌, ℕ, List, ◌++◌, drop, length, Some, Result, Ok, Err}
use Rattle.evidence_types.specs.Evidence.{Evidence}
use Rattle.evidence_types.specs.Heads.{Head, heads}
use Rattle.evidence_types.specs.Marked.{measurements}
use Rattle.evidence_types.specs.Shape.{Form}
use Rattle.place_check.specs.declared.entry.PlaceEntry.{PlaceEntry}
use Rattle.appraiser.specs.declared.fitting.Passed.{Passed}
use Rattle.appraiser.specs.Fit.{misfit_from, nodes}

-- these nodes of a value agree with these of a shape, whatever comes behind them
pub record Passes (places : List PlaceEntry) (number : ℕ) (read : List Head) (forms : List Form) : Type 0 where
  pub passes : (rest : List Head) (more : List Form) → misfit_from places number (read ++ rest) (forms ++ more) ≡ misfit_from places (number + length forms) rest more

-- one of these nodes of a value is the first that does not agree, whatever comes behind them
pub record Stops (places : List PlaceEntry) (number : ℕ) (read : List Head) (forms : List Form) (at : ℕ) : Type 0 where
  pub stops : (rest : List Head) (more : List Form) → misfit_from places number (read ++ rest) (forms ++ more) ≡ Some at

-- all nodes of a part agree, and then these are the next number and the next marks; or one does not
abbrev pub Walked : List PlaceEntry → ℕ → Evidence → List ℕ → Form → Result Passed ℕ → Type 0
Walked places number value marks shape (Ok passed) =
    Passes places number (heads value marks) (nodes shape)
    × (passed.next ≡ number + length (nodes shape))
    × (passed.marks.now ≡ drop (measurements value) marks)
Walked places number value marks shape (Err at) = Stops places number (heads value marks) (nodes shape) at
