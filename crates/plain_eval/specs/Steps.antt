-- The steps of an evaluation, without pointers, and what they make.
use Rattle.std.specs.Prelude.{◌≡◌, ◌+◌, ◌^◌, ◌<◌, ℕ, Bool, List, [], ◌∷◌, ◌++◌, length, if◌then◌else◌}
use Rattle.phrase_tree.specs.Term.{Term, leaf, at, chain, seq, par}
use Rattle.phrase_tree.specs.Numbering.{event_count}
use Rattle.evidence_types.specs.Bytes.{encoding}
use Rattle.evidence_types.specs.Evidence.{Evidence, seq_pair, par_pair}
use Rattle.session_model.specs.Value.{Makings, value_of}
use Rattle.plain_eval.specs.Keyed.{HasKeys}

-- a step that is to be done
pub data Todo : Type 0 where
  -- a place runs a phrase; so many bytes stand under the value that it is run on
  run : Term → List ℕ → ℕ → Todo
  -- a request is answered
  reply : Todo
  -- the place runs the left arm of a branch, which is parallel or not, from a number on; so many bytes are
  -- kept under its evidence. What stands is the value of the right arm
  run_left : Bool → Term → List ℕ → ℕ → ℕ → Todo
  -- the value that stands, and the one under it, become the pair of a branch; the next event has this number
  join : Bool → ℕ → Todo

-- the bytes of values, one after the other
abbrev pub joined : List Evidence → List ℕ
joined [] = []
joined (first ∷ rest) = encoding first ++ joined rest

-- what a branch makes of the values of its arms
abbrev pub paired : Bool → Evidence → Evidence → Evidence
paired parallel left right = if parallel then par_pair left right else seq_pair left right

-- a place can run a phrase from a number on
pub record CanRun (from : Makings) (phrase : Term) (place : List ℕ) (first : ℕ) : Type 0 where
  pub few : first + event_count phrase < 2 ^ 32
  pub keys : HasKeys phrase place from.keys

-- these steps can be done, and make this value of the one that stands, if the values of right arms stand
-- under it, the innermost first, and the evidence of left arms to come is kept, that of the next one first
abbrev pub Make : Makings → Evidence → List Todo → ℕ → Evidence → List Evidence → List Evidence → Type 0
Make from final [] next current under kept = (current ≡ final) × (under ≡ [])
Make from final (run phrase place mark ∷ steps) next current under kept =
    (mark ≡ length (joined under))
    × CanRun from phrase place next
    × Make from final steps (next + event_count phrase) (value_of phrase place next current from) under kept
Make from final (reply ∷ steps) next current under kept =
    (next + 1 < 2 ^ 32) × Make from final steps (next + 1) current under kept
Make from final (run_left parallel phrase place first mark ∷ steps) next right under [] = ⊥
Make from final (run_left parallel phrase place first mark ∷ steps) next right under (evidence ∷ kept) =
    (mark ≡ length (joined kept))
    × (next + 1 < 2 ^ 32)
    × CanRun from phrase place first
    × Make from final steps (next + 1) (paired parallel (value_of phrase place first evidence from) right) under kept
Make from final (join parallel after ∷ steps) next left [] kept = ⊥
Make from final (join parallel after ∷ steps) next left (right ∷ under) kept =
    Make from final steps after (paired parallel left right) under kept

-- at most so many steps are taken for a phrase
abbrev pub turns : Term → ℕ
turns (leaf form) = 1
turns (at asked body) = 2 + turns body
turns (chain left right) = 1 + turns left + turns right
turns (seq split left right) = 3 + turns left + turns right
turns (par split left right) = 3 + turns left + turns right

-- and for what is to come
abbrev pub turns_of : List Todo → ℕ
turns_of [] = 0
turns_of (run phrase place mark ∷ steps) = turns phrase + turns_of steps
turns_of (reply ∷ steps) = 1 + turns_of steps
turns_of (run_left parallel phrase place first mark ∷ steps) = 2 + turns phrase + turns_of steps
turns_of (join parallel after ∷ steps) = 1 + turns_of steps
