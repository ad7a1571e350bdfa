-- The grammar of phrases over lists of tokens (the forms are those of POST 2019, the spelling is this
-- project's own), in four levels: a branch, a chain, a unit, and the arguments of a measurement.
use Rattle.std.specs.Prelude.{◌≡◌, ◌++◌, ℕ, List, [], ◌∷◌, Option, Some, None, map, if◌then◌else◌}
use Rattle.phrase_tree.specs.declared.measurement.Arg.TheVariants.{Word}
use Rattle.phrase_tree.specs.declared.measurement.Asp.{Asp}
use Rattle.phrase_tree.specs.Term.{Term, cpy, sig, hsh, nul, usm, kim, leaf, at, chain, seq, par}
use Rattle.phrase_reader.specs.declared.token.Leaf.{Leaf}
use Rattle.phrase_reader.specs.declared.token.Leaf.TheVariants.{Cpy, Sig, Hsh, Nul}
use Rattle.phrase_reader.specs.declared.token.Op.{Op}
use Rattle.phrase_reader.specs.declared.token.Token.{Token}
use Rattle.phrase_reader.specs.declared.token.Token.TheVariants as tokens

-- CPY, SIG, HSH and NUL
abbrev pub bare : Leaf → Term
bare Cpy = leaf cpy
bare Sig = leaf sig
bare Hsh = leaf hsh
bare Nul = leaf nul

-- USM, its name and its arguments; KIM has its target before the name
abbrev pub measurement : Option (List ℕ) → Asp → Term
measurement None asp = leaf (usm asp)
measurement (Some target) asp = leaf (kim target asp)

abbrev pub name_token : List ℕ → Token
name_token name = tokens.Value (Word name)

abbrev pub asp_tokens : Asp → List Token
asp_tokens asp = name_token asp.name ∷ map tokens.Value asp.args

abbrev pub measurement_tokens : Option (List ℕ) → Asp → List Token
measurement_tokens None asp = tokens.Usm ∷ asp_tokens asp
measurement_tokens (Some target) asp = tokens.Kim ∷ name_token target ∷ asp_tokens asp

-- the branch of an op: the first sign is the left arm's, the last the right arm's
abbrev pub joined : Op → Term → Term → Term
joined op left right = if op.parallel then par op.split left right else seq op.split left right

mutual
  -- a chain, or a chain, an op and a chain
  pub data IsBranch : List Token → Term → Type 0 where
    alone : {spelled : List Token} {phrase : Term} → IsChain spelled phrase → IsBranch spelled phrase
    branches : {spelled : List Token} {phrase : Term} (left_tokens right_tokens : List Token) (left right : Term) (op : Op) → IsChain left_tokens left → IsChain right_tokens right → spelled ≡ left_tokens ++ tokens.Op op ∷ right_tokens → phrase ≡ joined op left right → IsBranch spelled phrase

  -- a unit, or a chain, an arrow and a unit: the grouping is to the left
  pub data IsChain : List Token → Term → Type 0 where
    single : {spelled : List Token} {phrase : Term} → IsUnit spelled phrase → IsChain spelled phrase
    links : {spelled : List Token} {phrase : Term} (left_tokens right_tokens : List Token) (left right : Term) → IsChain left_tokens left → IsUnit right_tokens right → spelled ≡ left_tokens ++ tokens.Arrow ∷ right_tokens → phrase ≡ chain left right → IsChain spelled phrase

  -- a leaf, a measurement, a request with its square brackets, or round brackets, which make no node
  pub data IsUnit : List Token → Term → Type 0 where
    leaves : {spelled : List Token} {phrase : Term} (which : Leaf) → spelled ≡ tokens.Leaf which ∷ [] → phrase ≡ bare which → IsUnit spelled phrase
    measures : {spelled : List Token} {phrase : Term} (target : Option (List ℕ)) (asp : Asp) → spelled ≡ measurement_tokens target asp → phrase ≡ measurement target asp → IsUnit spelled phrase
    asks : {spelled : List Token} {phrase : Term} (place : List ℕ) (inner : List Token) (body : Term) → IsBranch inner body → spelled ≡ tokens.At ∷ name_token place ∷ tokens.OpenSquare ∷ (inner ++ tokens.CloseSquare ∷ []) → phrase ≡ at place body → IsUnit spelled phrase
    brackets : {spelled : List Token} {phrase : Term} (inner : List Token) → IsBranch inner phrase → spelled ≡ tokens.OpenRound ∷ (inner ++ tokens.CloseRound ∷ []) → IsUnit spelled phrase

-- the tokens spell a phrase, which is one branch
abbrev pub IsWhole : List Token → Type 0
IsWhole spelled = (phrase : Term) × IsBranch spelled phrase

-- the tokens are a front of a list that spells some phrase; limits are left aside, so that a measurement
-- may have any number of arguments
abbrev pub IsViable : List Token → Type 0
IsViable spelled = (rest : List Token) × (phrase : Term) × IsBranch (spelled ++ rest) phrase
