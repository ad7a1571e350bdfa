-- Which keys the seals of a phrase are made under.
use Rattle.std.specs.Prelude.{ℕ, List, IsSome}
use Rattle.phrase_tree.specs.Term.{Term, Leaf, sig, leaf, at, chain, seq, par}
use Rattle.seal_hmac.specs.Keys.{key_of}

-- there is a key for the leaf, where it is a seal
abbrev pub HasItsKey : Leaf → List ℕ → List (List ℕ × List ℕ) → Type 0
HasItsKey sig place keys = IsSome (key_of keys place)
HasItsKey _ place keys = Unit {0}

-- there is a key for each place at which a seal is made, where a place runs the phrase
abbrev pub HasKeys : Term → List ℕ → List (List ℕ × List ℕ) → Type 0
HasKeys (leaf form) place keys = HasItsKey form place keys
HasKeys (at asked body) place keys = HasKeys body asked keys
HasKeys (chain left right) place keys = HasKeys left place keys × HasKeys right place keys
HasKeys (seq split left right) place keys = HasKeys left place keys × HasKeys right place keys
HasKeys (par split left right) place keys = HasKeys left place keys × HasKeys right place keys
