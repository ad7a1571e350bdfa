-- Which node of a value is the first that does not fit a shape, with the marks of its measurements. They are
-- this project's own.
use Rattle.std.specs.Prelude.{◌≡◌, ◌+◌, ◌<◌, ◌&&◌, ℕ, Bool, true, false, List, [], ◌∷◌, ◌++◌, map, Option, Some, None, nat_eq, unwrap_or, if◌then◌else◌}
use Rattle.bench_trait.specs.declared.ask.AskKind.TheVariants.{Usm, Kim}
use Rattle.evidence_types.specs.Evidence.{Evidence}
use Rattle.evidence_types.specs.Heads.{Head, empty_head, nonce_head, usm_head, kim_head, seal_head, hash_head, seq_head, par_head, heads}
use Rattle.evidence_types.specs.Shape.{Form, nothing, the_nonce, measured, measured_at, sealed, hashed, in_sequence, in_parallel, Fits}
use Rattle.place_check.specs.declared.entry.PlaceEntry.{PlaceEntry}
use Rattle.place_check.specs.Places.{place_index}
use Rattle.reference_book.specs.Leaves.{Leaf}

-- the nodes of a shape, a node before its parts and left before right; what lies under a hash is left out
abbrev pub nodes : Form → List Form
nodes nothing = nothing ∷ []
nodes the_nonce = the_nonce ∷ []
nodes (measured event place asp under) = measured event place asp under ∷ nodes under
nodes (measured_at event place target asp under) = measured_at event place target asp under ∷ nodes under
nodes (sealed event place under) = sealed event place under ∷ nodes under
nodes (hashed event place under) = hashed event place under ∷ []
nodes (in_sequence left right) = in_sequence left right ∷ (nodes left ++ nodes right)
nodes (in_parallel left right) = in_parallel left right ∷ (nodes left ++ nodes right)

-- the index is that number
abbrev pub is_index : ℕ → Option ℕ → Bool
is_index number None = false
is_index number (Some index) = nat_eq index number

-- a mark, where there is one, is the index of the place
abbrev pub is_mark : List PlaceEntry → Option ℕ → List ℕ → Bool
is_mark places None place = true
is_mark places (Some mark) place = is_index mark (place_index places place)

-- a node of a value agrees with one of a shape: they have the same form and event, and a mark that is there is
-- the index of the place
abbrev pub agrees : List PlaceEntry → Head → Form → Bool
agrees places empty_head nothing = true
agrees places (nonce_head bytes) the_nonce = true
agrees places (usm_head event mark answer) (measured number place asp under) = nat_eq event number && is_mark places mark place
agrees places (kim_head event mark answer) (measured_at number place target asp under) = nat_eq event number && is_mark places mark place
agrees places (seal_head event bytes) (sealed number place under) = nat_eq event number
agrees places (hash_head event bytes) (hashed number place under) = nat_eq event number
agrees places seq_head (in_sequence left right) = true
agrees places par_head (in_parallel left right) = true
agrees places _ _ = false

-- the number of the first of these nodes that does not agree, where the first of all has this number
abbrev pub misfit_from : List PlaceEntry → ℕ → List Head → List Form → Option ℕ
misfit_from places number [] [] = None
misfit_from places number [] (form ∷ forms) = Some number
misfit_from places number (head ∷ heads) [] = Some number
misfit_from places number (head ∷ heads) (form ∷ forms) =
    if agrees places head form then misfit_from places (number + 1) heads forms else Some number

-- the marks, and no bytes where there are none
abbrev pub marks_in : Option (List ℕ) → List ℕ
marks_in marks = unwrap_or marks []

-- the number of the first node of a value that does not fit the shape, counted from 0 in their order; none
-- where the value fits
abbrev pub misfit : List PlaceEntry → Evidence → Option (List ℕ) → Form → Option ℕ
misfit places value marks shape = misfit_from places 0 (heads value (marks_in marks)) (nodes shape)

-- ---- the same, as a whole

-- the measurement leaves of a shape in preorder, without those under a hash
abbrev pub outer_leaves : Form → List Leaf
outer_leaves nothing = []
outer_leaves the_nonce = []
outer_leaves (measured event place asp under) =
    record { event = event; place = place; kind = Usm; asp = asp } ∷ outer_leaves under
outer_leaves (measured_at event place target asp under) =
    record { event = event; place = place; kind = Kim target; asp = asp } ∷ outer_leaves under
outer_leaves (sealed event place under) = outer_leaves under
outer_leaves (hashed event place under) = []
outer_leaves (in_sequence left right) = outer_leaves left ++ outer_leaves right
outer_leaves (in_parallel left right) = outer_leaves left ++ outer_leaves right

-- the marks of the measurements outside every hash are the indices of their places
abbrev pub AreMarksOf : List PlaceEntry → Form → List ℕ → Type 0
AreMarksOf places shape marks =
    map (λ mark. Some mark) marks ≡ map (λ leaf. place_index places leaf.place) (outer_leaves shape)

-- a value fits a shape, and so do its marks where there are any
abbrev pub FitsWith : List PlaceEntry → Evidence → Option (List ℕ) → Form → Type 0
FitsWith places value None shape = Fits value shape
FitsWith places value (Some marks) shape = Fits value shape × AreMarksOf places shape marks

-- there is a number, which is below a bound
abbrev pub IsBelow : ℕ → Option ℕ → Type 0
IsBelow bound None = ⊥
IsBelow bound (Some number) = number < bound

-- the places of a shape's measurements outside every hash are among the first 256
abbrev pub CanMark : List PlaceEntry → Form → Type 0
CanMark places nothing = Unit {0}
CanMark places the_nonce = Unit {0}
CanMark places (measured event place asp under) = IsBelow 256 (place_index places place) × CanMark places under
CanMark places (measured_at event place target asp under) = IsBelow 256 (place_index places place) × CanMark places under
CanMark places (sealed event place under) = CanMark places under
CanMark places (hashed event place under) = Unit {0}
CanMark places (in_sequence left right) = CanMark places left × CanMark places right
CanMark places (in_parallel left right) = CanMark places left × CanMark places right
