-- The canonical text of a phrase (the spelling is this project's own), and which phrases can be written.
use Rattle.std.specs.Prelude.{◌++◌, ◌||◌, ℕ, Bool, true, false, List, [], ◌∷◌, codes, if◌then◌else◌}
use Rattle.phrase_tree.specs.declared.phrase.Split.{Split}
use Rattle.phrase_tree.specs.Name.{IsName}
use Rattle.phrase_tree.specs.Text.{asp_text, IsAsp}
use Rattle.phrase_tree.specs.Term.{Term, Leaf, cpy, sig, hsh, nul, usm, kim, leaf, at, chain, seq, par, is_branch, is_chain}

-- `+` where an arm gets the evidence, and `-` where it gets none
abbrev pub sign : Bool → ℕ
sign given = if given then 43 else 45

-- `<` for the sequential branch, and `~` for the parallel
abbrev pub order : Bool → ℕ
order parallel = if parallel then 126 else 60

-- an op: the left arm's sign, the order of the arms, the right arm's sign
abbrev pub op_text : Bool → Split → List ℕ
op_text parallel split = sign split.left ∷ order parallel ∷ sign split.right ∷ []

-- round brackets around a text, where it wants them
abbrev pub enclosed : Bool → List ℕ → List ℕ
enclosed wanted text = if wanted then 40 ∷ (text ++ 41 ∷ []) else text

-- the canonical text of a leaf: its keyword, a target, and the measurement
abbrev pub leaf_text : Leaf → List ℕ
leaf_text cpy = codes "CPY"
leaf_text sig = codes "SIG"
leaf_text hsh = codes "HSH"
leaf_text nul = codes "NUL"
leaf_text (usm asp) = codes "USM " ++ asp_text asp
leaf_text (kim target asp) = codes "KIM " ++ (target ++ 32 ∷ asp_text asp)

-- single spaces, and round brackets around a branch that is a part of a chain or an arm, around a chain
-- that is the right part of a chain, and nowhere else
abbrev pub canonical : Term → List ℕ
canonical (leaf form) = leaf_text form
canonical (at place body) = 64 ∷ (place ++ 32 ∷ 91 ∷ (canonical body ++ 93 ∷ []))
canonical (chain left right) =
    enclosed (is_branch left) (canonical left) ++ (codes " -> " ++ enclosed (is_branch right || is_chain right) (canonical right))
canonical (seq split left right) =
    enclosed (is_branch left) (canonical left) ++ (32 ∷ (op_text false split ++ 32 ∷ enclosed (is_branch right) (canonical right)))
canonical (par split left right) =
    enclosed (is_branch left) (canonical left) ++ (32 ∷ (op_text true split ++ 32 ∷ enclosed (is_branch right) (canonical right)))

-- a leaf whose target and measurement can be written
abbrev pub IsWritableLeaf : Leaf → Type 0
IsWritableLeaf (usm asp) = IsAsp asp
IsWritableLeaf (kim target asp) = IsName target × IsAsp asp
IsWritableLeaf _ = Unit {0}

-- a phrase whose places and measurements can be written: every phrase of the program is one
abbrev pub IsWritable : Term → Type 0
IsWritable (leaf form) = IsWritableLeaf form
IsWritable (at place body) = IsName place × IsWritable body
IsWritable (chain left right) = IsWritable left × IsWritable right
IsWritable (seq split left right) = IsWritable left × IsWritable right
IsWritable (par split left right) = IsWritable left × IsWritable right
