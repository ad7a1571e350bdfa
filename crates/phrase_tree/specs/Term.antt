-- Phrases without pointers: what clauses see of a `Phrase`.
use Rattle.std.specs.Prelude.{ℕ, List, Bool, true, false}
use Rattle.phrase_tree.specs.declared.measurement.Asp.{Asp}
use Rattle.phrase_tree.specs.declared.phrase.Split.{Split}
use Rattle.phrase_tree.specs.declared.phrase.Phrase.{Phrase, Cpy, Sig, Hsh, Nul, Usm, Kim, At', Then', Seq', Par'}

-- a leaf of a phrase: each is one event
pub data Leaf : Type 0 where
  cpy : Leaf
  sig : Leaf
  hsh : Leaf
  nul : Leaf
  usm : Asp → Leaf
  -- the target, and the measurement
  kim : List ℕ → Asp → Leaf

-- a leaf that asks for a measurement
abbrev pub is_measurement : Leaf → Bool
is_measurement (usm asp) = true
is_measurement (kim target asp) = true
is_measurement _ = false

-- a phrase (POST 2019): a leaf, a request to a place, a chain, and the two branches
pub data Term : Type 0 where
  leaf : Leaf → Term
  -- the place that is asked, and what it runs
  at : List ℕ → Term → Term
  chain : Term → Term → Term
  seq : Split → Term → Term → Term
  par : Split → Term → Term → Term

-- the phrase that a tree of the program stands for
abbrev pub term : Phrase → Term
term Cpy = leaf cpy
term Sig = leaf sig
term Hsh = leaf hsh
term Nul = leaf nul
term (Usm asp) = leaf (usm asp.value)
term (Kim target asp) = leaf (kim target asp.value)
term (At' place p body) = at place (term body)
term (Then' p left q right) = chain (term left) (term right)
term (Seq' split p left q right) = seq split (term left) (term right)
term (Par' split p left q right) = par split (term left) (term right)

-- a leaf
abbrev pub is_leaf : Term → Bool
is_leaf (leaf form) = true
is_leaf _ = false

-- a branch, sequential or parallel
abbrev pub is_branch : Term → Bool
is_branch (seq split left right) = true
is_branch (par split left right) = true
is_branch _ = false

-- a chain
abbrev pub is_chain : Term → Bool
is_chain (chain left right) = true
is_chain _ = false
