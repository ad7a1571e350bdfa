-- Making a value of its heads: the nodes that wait for parts, and what they come to.
use Rattle.std.specs.Prelude.{◌≡◌, ℕ, Bool, true, false, List, [], ◌∷◌, ◌++◌, drop, Option, Some, None}
use Rattle.evidence_types.specs.Evidence.{Evidence, empty, nonce, usm, kim, seal, hash, seq_pair, par_pair}
use Rattle.evidence_types.specs.Heads.{Head, empty_head, nonce_head, usm_head, kim_head, seal_head, hash_head, seq_head, par_head, heads}

-- values that stand one after the other; one that wants a part that isn't there is missing
abbrev pub Values : Type 0
Values = List (Option Evidence)

-- a node with one part, and one with two; where a part is missing, so is the node
abbrev pub over : (Evidence → Evidence) → Option Evidence → Option Evidence
over make None = None
over make (Some under) = Some (make under)

abbrev pub both : (Evidence → Evidence → Evidence) → Option Evidence → Option Evidence → Option Evidence
both make None right = None
both make (Some left) None = None
both make (Some left) (Some right) = Some (make left right)

-- the value that stands in front
abbrev pub first : Values → Option Evidence
first [] = None
first (value ∷ values) = value

-- the value with this head, of the parts that stand in front, and the values behind them
abbrev pub put : Head → Values → Values
put empty_head values = Some empty ∷ values
put (nonce_head bytes) values = Some (nonce bytes) ∷ values
put (usm_head event mark answer) values = over (λ under. usm event answer under) (first values) ∷ drop 1 values
put (kim_head event mark answer) values = over (λ under. kim event answer under) (first values) ∷ drop 1 values
put (seal_head event bytes) values = over (λ under. seal event bytes under) (first values) ∷ drop 1 values
put (hash_head event bytes) values = Some (hash event bytes) ∷ values
put seq_head values = both (λ left right. seq_pair left right) (first values) (first (drop 1 values)) ∷ drop 2 values
put par_head values = both (λ left right. par_pair left right) (first values) (first (drop 1 values)) ∷ drop 2 values

-- the values with these heads
abbrev pub values_of : List Head → Values
values_of [] = []
values_of (head ∷ rest) = put head (values_of rest)

-- ---- the nodes that wait for parts

-- a node with one part, without the part
pub data Over : Type 0 where
  usm_over : ℕ → List ℕ → Over
  kim_over : ℕ → List ℕ → Over
  seal_over : ℕ → List ℕ → Over

-- the node with its part
abbrev pub wrapped : Over → Evidence → Evidence
wrapped (usm_over event answer) under = usm event answer under
wrapped (kim_over event answer) under = kim event answer under
wrapped (seal_over event bytes) under = seal event bytes under

-- a pair of the evidence of two arms, in parallel or in sequence
abbrev pub paired : Bool → Evidence → Evidence → Evidence
paired true left right = par_pair left right
paired false left right = seq_pair left right

-- a node that waits for its one part, for its left part, or for its right part with the left one made
pub data Open : Type 0 where
  over_open : Over → Open
  left_open : Bool → Open
  right_open : Bool → Evidence → Open

-- the node with the parts that stand in front, and the values behind them
abbrev pub in_node : Open → Values → Values
in_node (over_open node) values = over (λ under. wrapped node under) (first values) ∷ drop 1 values
in_node (left_open parallel) values = both (λ left right. paired parallel left right) (first values) (first (drop 1 values)) ∷ drop 2 values
in_node (right_open parallel left) values = over (λ right. paired parallel left right) (first values) ∷ drop 1 values

-- the same for all open nodes, which stand from the outermost in
abbrev pub in_nodes : List Open → Values → Values
in_nodes [] values = values
in_nodes (node ∷ nodes) values = in_node node (in_nodes nodes values)

-- what the open nodes come to with the values to come; or the whole value, with these behind it
abbrev pub made_of : List Open → Option Evidence → Values → Values
made_of nodes None values = in_nodes nodes values
made_of nodes (Some whole) values = Some whole ∷ values

-- a part put into the node that waited for it: the node is whole, or it waits for its right part
pub data Filled : Type 0 where
  closed : Evidence → Filled
  waiting : Open → Filled

-- what a part makes of the node that waited for it
abbrev pub filled : Open → Evidence → Filled
filled (over_open node) part = closed (wrapped node part)
filled (left_open parallel) part = waiting (right_open parallel part)
filled (right_open parallel left) part = closed (paired parallel left part)

-- a whole value was put into the open nodes
pub record Closes (old : List Open) (value : Evidence) (new : List Open) (all : Option Evidence) : Type 0 where
  pub come : (values : Values) → in_nodes old (Some value ∷ values) ≡ made_of new all values

-- a node was opened in them
pub record Opens (old : List Open) (node : Open) (new : List Open) (all : Option Evidence) : Type 0 where
  pub come : (values : Values) → in_nodes old (in_node node values) ≡ made_of new all values

-- the next head was put into them
pub record Takes (old : List Open) (head : Head) (new : List Open) (all : Option Evidence) : Type 0 where
  pub come : (values : Values) → in_nodes old (put head values) ≡ made_of new all values

-- these heads, where they are the first of a value, came to these open nodes or to the whole value
pub record Builds (read : List Head) (nodes : List Open) (all : Option Evidence) : Type 0 where
  pub come : (value : Evidence) (marks : List ℕ) (rest : List Head) → read ++ rest ≡ heads value marks → made_of nodes all (values_of rest) ≡ Some value ∷ []
