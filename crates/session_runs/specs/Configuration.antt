-- Partly executed phrases (after the small steps of POST 2019; the configurations are this project's own).
use Rattle.std.specs.Prelude.{◌+◌, ℕ, Bool, List}
use Rattle.phrase_tree.specs.Term.{Term, Leaf, usm, kim, chain}
use Rattle.phrase_tree.specs.Numbering.{event_count}
use Rattle.evidence_types.specs.Evidence.{Evidence, usm as measured, kim as measured_at}

-- how far a phrase is executed; each is at the place of the block that runs it
pub data Configuration : Type 0 where
  -- nothing of a phrase has happened: the phrase, its first number, the evidence before it
  todo : Term → ℕ → Evidence → Configuration
  -- the measurement is asked for, and its event is still to come
  asked : Leaf → ℕ → Evidence → Configuration
  -- a request that waits in the list of the place that is asked: the place, its number, what is to run, the evidence
  posted : List ℕ → ℕ → Term → Evidence → Configuration
  -- a request whose block runs at the place that is asked: the place, its number, its last number, how far the block is, and whether it has ended
  remote : List ℕ → ℕ → ℕ → Configuration → Bool → Configuration
  -- the left part of a chain, then the right part and its first number
  first : Configuration → Term → ℕ → Configuration
  -- the left arm of a sequential branch, then the right arm, its first number and its evidence, and the branch's last number
  left_arm : Configuration → Term → ℕ → Evidence → ℕ → Configuration
  -- the result of the left arm, then the right arm of a sequential branch, and the branch's last number
  right_arm : Evidence → Configuration → ℕ → Configuration
  -- the arms of a parallel branch: its number, its last number, the left arm, the right arm in a block of its own, and whether that block has ended
  both_arms : ℕ → ℕ → Configuration → Configuration → Bool → Configuration
  -- all has happened, with this result
  finished : Evidence → Configuration

-- a phrase as it starts: a chain starts as its left part
abbrev pub start : Term → ℕ → Evidence → Configuration
start (chain left right) i before = first (start left i before) right (i + event_count left)
start phrase i before = todo phrase i before

-- what a measurement makes of the evidence before it
abbrev pub measurement : Leaf → ℕ → List ℕ → Evidence → Evidence
measurement (usm asp) i answer before = measured i answer before
measurement (kim target asp) i answer before = measured_at i answer before
measurement _ i answer before = before

-- one thing once a configuration is finished, and another until then
abbrev pub once_finished : {A : Type 0} → Configuration → A → (Evidence → A) → A
once_finished (finished result) until then_do = then_do result
once_finished _ until then_do = until

-- a configuration in a chain: once it is finished the right part starts on its result, with no move
abbrev pub followed_by : Configuration → Term → ℕ → Configuration
followed_by before right i = once_finished before (first before right i) (λ result. start right i result)
