-- The measurement leaves of a shape, and the least event of one that lacks a reference or has several.
use Rattle.std.specs.Prelude.{ℕ, Bool, List, [], ◌∷◌, ◌++◌, Option, None, Some, length, min, nat_eq, nat_lt, if◌then◌else◌}
use Rattle.phrase_tree.specs.declared.measurement.Asp.{Asp}
use Rattle.bench_trait.specs.declared.ask.AskKind.{AskKind}
use Rattle.bench_trait.specs.declared.ask.AskKind.TheVariants.{Usm, Kim}
use Rattle.evidence_types.specs.Shape.{Form, nothing, the_nonce, measured, measured_at, sealed, hashed, in_sequence, in_parallel}
use Rattle.reference_book.specs.declared.leaves.Wanted.{Wanted}
use Rattle.reference_book.specs.declared.leaves.Wanted.TheVariants.{WithNone, WithSeveral}
use Rattle.reference_book.specs.declared.reference.Reference.{Reference}
use Rattle.reference_book.specs.References.{answers_for}

-- a measurement that a shape has the answer of
pub record Leaf : Type 0 where
  pub event : ℕ
  pub place : List ℕ
  pub kind : AskKind
  pub asp : Asp

-- the measurement leaves of a shape in preorder, those under a hash too
abbrev pub leaves : Form → List Leaf
leaves nothing = []
leaves the_nonce = []
leaves (measured event place asp under) =
    record { event = event; place = place; kind = Usm; asp = asp } ∷ leaves under
leaves (measured_at event place target asp under) =
    record { event = event; place = place; kind = Kim target; asp = asp } ∷ leaves under
leaves (sealed event place under) = leaves under
leaves (hashed event place under) = leaves under
leaves (in_sequence left right) = leaves left ++ leaves right
leaves (in_parallel left right) = leaves left ++ leaves right

-- those that stand under a hash of the shape
abbrev pub hashed_leaves : Form → List Leaf
hashed_leaves nothing = []
hashed_leaves the_nonce = []
hashed_leaves (measured event place asp under) = hashed_leaves under
hashed_leaves (measured_at event place target asp under) = hashed_leaves under
hashed_leaves (sealed event place under) = hashed_leaves under
hashed_leaves (hashed event place under) = leaves under
hashed_leaves (in_sequence left right) = hashed_leaves left ++ hashed_leaves right
hashed_leaves (in_parallel left right) = hashed_leaves left ++ hashed_leaves right

-- the answers that are expected at a leaf
abbrev pub answers_at : List Reference → Leaf → List (List ℕ)
answers_at references leaf = answers_for references leaf.place leaf.kind leaf.asp

-- the leaf has no reference; it has more than one
abbrev pub has_none : List Reference → Leaf → Bool
has_none references leaf = nat_eq (length (answers_at references leaf)) 0

abbrev pub has_several : List Reference → Leaf → Bool
has_several references leaf = nat_lt 1 (length (answers_at references leaf))

-- so many references are what is looked for
abbrev pub is_wanted_count : Wanted → ℕ → Bool
is_wanted_count WithNone count = nat_eq count 0
is_wanted_count WithSeveral count = nat_lt 1 count

-- the leaf has so many
abbrev pub is_wanted : Wanted → List Reference → Leaf → Bool
is_wanted wanted references leaf = is_wanted_count wanted (length (answers_at references leaf))

-- the lesser of two numbers that may be there
abbrev pub lesser : Option ℕ → Option ℕ → Option ℕ
lesser None other = other
lesser (Some number) None = Some number
lesser (Some number) (Some other) = Some (min number other)

-- the least event of these leaves that passes a test
abbrev pub least_event : (Leaf → Bool) → List Leaf → Option ℕ
least_event test [] = None
least_event test (leaf ∷ rest) = lesser (if test leaf then Some leaf.event else None) (least_event test rest)
