-- How a reader of frames stands.
use Rattle.std.specs.Prelude.{ℕ, List}

-- the bytes that were fed and not given yet, and how many were given before them
pub record Reading : Type 0 where
  pub at : ℕ
  pub rest : List ℕ
