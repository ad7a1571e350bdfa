-- The shapes of evidence without pointers, the shape of a phrase, and which values fit a shape.
use Rattle.std.specs.Prelude.{◌≡◌, ◌+◌, ℕ, List, [], ◌∷◌, ◌++◌, Bool, if◌then◌else◌}
use Rattle.phrase_tree.specs.declared.measurement.Asp.{Asp}
use Rattle.phrase_tree.specs.Term.{Term, Leaf, cpy, sig, hsh, nul, usm, kim, leaf, at, chain, seq, par}
use Rattle.phrase_tree.specs.Numbering.{event_count}
use Rattle.evidence_types.specs.Evidence.{Evidence, empty, nonce, usm as usm_value, kim as kim_value, seal, hash, seq_pair, par_pair}
use Rattle.evidence_types.specs.declared.shape.Shape.{Shape, Empty, Nonce, Usm', Kim', Sig', Hsh', SeqPair', ParPair'}

-- a shape (POST 2019): the forms of evidence, each with its event and its place
pub data Form : Type 0 where
  nothing : Form
  the_nonce : Form
  -- the event, the place, the measurement, and the evidence before it
  measured : ℕ → List ℕ → Asp → Form → Form
  -- the event, the place, the target, the measurement, and the evidence before it
  measured_at : ℕ → List ℕ → List ℕ → Asp → Form → Form
  -- the event, the place, and the evidence that is sealed
  sealed : ℕ → List ℕ → Form → Form
  -- the event, the place, and the evidence that is hashed
  hashed : ℕ → List ℕ → Form → Form
  in_sequence : Form → Form → Form
  in_parallel : Form → Form → Form

-- the shape that a shape of the program stands for
abbrev pub form : Shape → Form
form Empty = nothing
form Nonce = the_nonce
form (Usm' event place asp p under) = measured event place asp (form under)
form (Kim' event place target asp p under) = measured_at event place target asp (form under)
form (Sig' event place p under) = sealed event place (form under)
form (Hsh' event place p under) = hashed event place (form under)
form (SeqPair' p left q right) = in_sequence (form left) (form right)
form (ParPair' p left q right) = in_parallel (form left) (form right)

-- what an arm of a branch starts with: the evidence before the branch, or none
abbrev pub arm_shape : Bool → Form → Form
arm_shape gets_all before = if gets_all then before else nothing

-- the shape that a leaf makes, at a place and under a number, of the evidence before it
abbrev pub leaf_shape : Leaf → List ℕ → ℕ → Form → Form
leaf_shape cpy place i before = before
leaf_shape sig place i before = sealed i place before
leaf_shape hsh place i before = hashed i place before
leaf_shape nul place i before = nothing
leaf_shape (usm asp) place i before = measured i place asp before
leaf_shape (kim target asp) place i before = measured_at i place target asp before

-- the shape that a phrase makes, at a place and from a number on, of the evidence before it
-- (POST 2019, the evidence function)
abbrev pub shape_from : Term → List ℕ → ℕ → Form → Form
shape_from (leaf form) place i before = leaf_shape form place i before
shape_from (at asked body) place i before = shape_from body asked (i + 1) before
shape_from (chain left right) place i before =
    shape_from right place (i + event_count left) (shape_from left place i before)
shape_from (seq split left right) place i before =
    in_sequence
    (shape_from left place (i + 1) (arm_shape split.left before))
    (shape_from right place (i + 1 + event_count left) (arm_shape split.right before))
shape_from (par split left right) place i before =
    in_parallel
    (shape_from left place (i + 1) (arm_shape split.left before))
    (shape_from right place (i + 1 + event_count left) (arm_shape split.right before))

-- the events that make evidence, which are the leaves and the joins, each with the shape that it makes, in
-- the order of their numbers
abbrev pub shapes_from : Term → List ℕ → ℕ → Form → List (ℕ × Form)
shapes_from (leaf form) place i before = (i, leaf_shape form place i before) ∷ []
shapes_from (at asked body) place i before = shapes_from body asked (i + 1) before
shapes_from (chain left right) place i before =
    shapes_from left place i before ++ shapes_from right place (i + event_count left) (shape_from left place i before)
shapes_from (seq split left right) place i before =
    shapes_from left place (i + 1) (arm_shape split.left before) ++ (shapes_from right place (i + 1 + event_count left) (arm_shape split.right before) ++ (i + 1 + event_count left + event_count right, shape_from (seq split left right) place i before) ∷ [])
shapes_from (par split left right) place i before =
    shapes_from left place (i + 1) (arm_shape split.left before) ++ (shapes_from right place (i + 1 + event_count left) (arm_shape split.right before) ++ (i + 1 + event_count left + event_count right, shape_from (par split left right) place i before) ∷ [])

-- the shape of a session's evidence: that of its phrase at its root, from event 0 on the nonce
abbrev pub shape_at : Term → List ℕ → Form
shape_at phrase root = shape_from phrase root 0 the_nonce

-- a value fits a shape: forms and events agree node by node, and a hash fits whatever lies under it
abbrev pub Fits : Evidence → Form → Type 0
Fits empty nothing = Unit {0}
Fits (nonce bytes) the_nonce = Unit {0}
Fits (usm_value event answer under) (measured number place asp below) = (event ≡ number) × Fits under below
Fits (kim_value event answer under) (measured_at number place target asp below) = (event ≡ number) × Fits under below
Fits (seal event bytes under) (sealed number place below) = (event ≡ number) × Fits under below
Fits (hash event bytes) (hashed number place below) = event ≡ number
Fits (seq_pair left right) (in_sequence first second) = Fits left first × Fits right second
Fits (par_pair left right) (in_parallel first second) = Fits left first × Fits right second
Fits _ _ = ⊥
