-- A walk over the nodes of a value, with a stack of the places that wait, the next one last.
use Rattle.std.specs.Prelude.{◌≡◌, ◌+◌, ◌<◌, ◌≤◌, ℕ, suc, List, [], ◌∷◌, ◌++◌, length}
use Rattle.evidence_types.specs.Evidence.{Evidence}
use Rattle.evidence_types.specs.Bytes.{encoding, nesting}
use Rattle.evidence_types.specs.Heads.{Head, IsHead, head_bytes}
use Rattle.evidence_store.specs.Kept.{value_at}

-- the bytes of the values that wait, the next one's first
abbrev pub to_come : List Evidence → List ℕ → List ℕ
to_come values [] = []
to_come values (place ∷ above) = to_come values above ++ encoding (value_at values place)

-- places that wait are those of values, and each nests no deeper than the stack has room above it
abbrev pub Nests : List Evidence → ℕ → List ℕ → Type 0
Nests values height [] = Unit {0}
Nests values height (place ∷ above) = (place < length values) × (nesting (value_at values place) + height ≤ 1025) × Nests values (suc height) above

-- a node was visited: the bytes of its head came, and its parts wait
pub record Steps (values : List Evidence) (old : List ℕ) (head : Head) (new : List ℕ) : Type 0 where
  pub came : to_come values old ≡ head_bytes head ++ to_come values new
  pub nests : Nests values 0 new
  pub is_head : IsHead head

-- the value at a place is this head over the value at another, which was added before it
pub record IsOver (values : List Evidence) (place : ℕ) (head : Head) (under : ℕ) : Type 0 where
  pub came : encoding (value_at values place) ≡ head_bytes head ++ encoding (value_at values under)
  pub before : under < place
  pub is_head : IsHead head

-- the value at a place is this head, and nothing more
pub record IsAlone (values : List Evidence) (place : ℕ) (head : Head) : Type 0 where
  pub came : encoding (value_at values place) ≡ head_bytes head
  pub is_head : IsHead head
