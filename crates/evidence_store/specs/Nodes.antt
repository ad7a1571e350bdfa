-- The nodes of a store beside the bytes of its answers, and the values for which they stand.
use Rattle.std.specs.Prelude.{◌≡◌, ◌+◌, ◌<◌, ◌≤◌, ℕ, List, [], ◌∷◌, ◌++◌, length, take, drop, map, slice_index_or, Bool, true, false, Option, Some, None}
use Rattle.std.specs.List.{All}
use Rattle.evidence_types.specs.declared.answer.TheConstants.{ANSWER_BYTES}
use Rattle.evidence_types.specs.Evidence.{Evidence, empty, nonce, usm, kim, seal, hash, seq_pair, par_pair}
use Rattle.evidence_types.specs.Bytes.{FitsBundle}
use Rattle.evidence_types.specs.Heads.{Head, empty_head, nonce_head, usm_head, kim_head, seal_head, hash_head, seq_head, par_head, head_bytes}
use Rattle.evidence_types.specs.WellFormed.{IsWellFormed}
use Rattle.evidence_store.specs.Kept.{value_at}
use Rattle.evidence_store.specs.declared.node.Span.{Span}
use Rattle.evidence_store.specs.declared.node.Node.{Node}
use Rattle.evidence_store.specs.declared.node.Node.TheVariants.{Empty, Nonce, Usm, Kim, Seal, Hash, SeqPair, ParPair}

-- a node with its answer written out
pub data FullNode : Type 0 where
  empty_node : FullNode
  nonce_node : List ℕ → FullNode
  -- the event, the answer, and the place of the evidence before it
  usm_node : ℕ → List ℕ → ℕ → FullNode
  kim_node : ℕ → List ℕ → ℕ → FullNode
  -- the event, the seal, and the place of the evidence that is sealed
  seal_node : ℕ → List ℕ → ℕ → FullNode
  -- the event, and the hash
  hash_node : ℕ → List ℕ → FullNode
  -- the places of both parts
  seq_node : ℕ → ℕ → FullNode
  par_node : ℕ → ℕ → FullNode

-- the answer that stands there among the answers' bytes
abbrev pub answer_in : List ℕ → Span → List ℕ
answer_in answers span = take span.count (drop span.start answers)

-- a node of the code, with its answer out of these bytes
abbrev pub full : List ℕ → Node → FullNode
full answers Empty = empty_node
full answers (Nonce bytes) = nonce_node bytes
full answers (Usm event span under) = usm_node event (answer_in answers span) under
full answers (Kim event span under) = kim_node event (answer_in answers span) under
full answers (Seal event bytes under) = seal_node event bytes under
full answers (Hash event bytes) = hash_node event bytes
full answers (SeqPair left right) = seq_node left right
full answers (ParPair left right) = par_node left right

-- the node of an answer over the evidence before it; with true, of a target place
abbrev pub answered : ℕ → Bool → Span → ℕ → Node
answered event true span under = Kim event span under
answered event false span under = Usm event span under

-- the place of a node's part, if it has one alone
abbrev pub single_part : Node → Option ℕ
single_part Empty = None
single_part (Nonce bytes) = None
single_part (Usm event span under) = Some under
single_part (Kim event span under) = Some under
single_part (Seal event bytes under) = Some under
single_part (Hash event bytes) = None
single_part (SeqPair left right) = None
single_part (ParPair left right) = None

-- whether it has none
abbrev pub is_leaf : Node → Bool
is_leaf Empty = true
is_leaf (Nonce bytes) = true
is_leaf (Usm event span under) = false
is_leaf (Kim event span under) = false
is_leaf (Seal event bytes under) = false
is_leaf (Hash event bytes) = true
is_leaf (SeqPair left right) = false
is_leaf (ParPair left right) = false

-- nodes of the code, with their answers out of these bytes
abbrev pub all_full : List ℕ → List Node → List FullNode
all_full answers nodes = map (full answers) nodes

-- an answer's bytes stand among these, and are not too many
abbrev pub IsSpanOf : List ℕ → Span → Type 0
IsSpanOf answers span = (span.start + span.count ≤ length answers) × (span.count ≤ ANSWER_BYTES)

-- so do those of a node's answer, if it has one
abbrev pub AnswerWithin : List ℕ → Node → Type 0
AnswerWithin answers Empty = Unit {0}
AnswerWithin answers (Nonce bytes) = Unit {0}
AnswerWithin answers (Usm event span under) = IsSpanOf answers span
AnswerWithin answers (Kim event span under) = IsSpanOf answers span
AnswerWithin answers (Seal event bytes under) = Unit {0}
AnswerWithin answers (Hash event bytes) = Unit {0}
AnswerWithin answers (SeqPair left right) = Unit {0}
AnswerWithin answers (ParPair left right) = Unit {0}

-- the value of a node, given the values that were added before it
abbrev pub node_value : List Evidence → FullNode → Evidence
node_value values empty_node = empty
node_value values (nonce_node bytes) = nonce bytes
node_value values (usm_node event answer under) = usm event answer (value_at values under)
node_value values (kim_node event answer under) = kim event answer (value_at values under)
node_value values (seal_node event bytes under) = seal event bytes (value_at values under)
node_value values (hash_node event bytes) = hash event bytes
node_value values (seq_node left right) = seq_pair (value_at values left) (value_at values right)
node_value values (par_node left right) = par_pair (value_at values left) (value_at values right)

-- these values, and those of the nodes after them, each by those before it
abbrev pub values_after : List Evidence → List FullNode → List Evidence
values_after values [] = values
values_after values (node ∷ nodes) = values_after (values ++ node_value values node ∷ []) nodes

-- the values of nodes
abbrev pub values_of : List FullNode → List Evidence
values_of nodes = values_after [] nodes

-- the parts of a node are at places below this one
abbrev pub NamesBelow : ℕ → FullNode → Type 0
NamesBelow place empty_node = Unit {0}
NamesBelow place (nonce_node bytes) = Unit {0}
NamesBelow place (usm_node event answer under) = under < place
NamesBelow place (kim_node event answer under) = under < place
NamesBelow place (seal_node event bytes under) = under < place
NamesBelow place (hash_node event bytes) = Unit {0}
NamesBelow place (seq_node left right) = (left < place) × (right < place)
NamesBelow place (par_node left right) = (left < place) × (right < place)

-- each node names nodes before it and has its own value, which is well formed and within the limits
pub record IsSound (nodes : List FullNode) : Type 0 where
  pub counted : length (values_of nodes) ≡ length nodes
  pub backward : (place : ℕ) (other : FullNode) → place < length nodes → NamesBelow place (slice_index_or nodes place other)
  pub stands : (place : ℕ) (other : FullNode) → place < length nodes → value_at (values_of nodes) place ≡ node_value (values_of nodes) (slice_index_or nodes place other)
  pub fits : (place : ℕ) → place < length nodes → FitsBundle (value_at (values_of nodes) place)
  pub well_formed : (place : ℕ) → place < length nodes → IsWellFormed (value_at (values_of nodes) place)

-- the nodes of a store are sound, and their answers stand among these bytes
pub record AreKept (answers : List ℕ) (nodes : List Node) : Type 0 where
  pub sound : IsSound (all_full answers nodes)
  pub within : All (AnswerWithin answers) nodes

-- the values of the nodes of a store
abbrev pub kept_values : List ℕ → List Node → List Evidence
kept_values answers nodes = values_of (all_full answers nodes)

-- the head of a node's value
abbrev pub node_head : FullNode → Head
node_head empty_node = empty_head
node_head (nonce_node bytes) = nonce_head bytes
node_head (usm_node event answer under) = usm_head event None answer
node_head (kim_node event answer under) = kim_head event None answer
node_head (seal_node event bytes under) = seal_head event bytes
node_head (hash_node event bytes) = hash_head event bytes
node_head (seq_node left right) = seq_head
node_head (par_node left right) = par_head

-- the bytes of a node's value that stand before those of its parts
abbrev pub head : FullNode → List ℕ
head node = head_bytes (node_head node)

-- the places of a node's parts, the first part last
abbrev pub parts : FullNode → List ℕ
parts empty_node = []
parts (nonce_node bytes) = []
parts (usm_node event answer under) = under ∷ []
parts (kim_node event answer under) = under ∷ []
parts (seal_node event bytes under) = under ∷ []
parts (hash_node event bytes) = []
parts (seq_node left right) = right ∷ left ∷ []
parts (par_node left right) = right ∷ left ∷ []
