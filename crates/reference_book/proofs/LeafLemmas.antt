-- The least event of joined lists of leaves.
use Rattle.std.proofs.Common.{◌≡◌, ◌++◌, ℕ, Bool, List, [], ◌∷◌, refl, sym, ap, ◌∙◌, arith, min, Option, None, Some, if◌then◌else◌}
use Rattle.reference_book.specs.Leaves.{Leaf, least_event, lesser}

min_assoc : (a b c : ℕ) → min (min a b) c ≡ min a (min b c)
min_assoc a b c = omega arith

lesser_assoc : (a b c : Option ℕ) → lesser (lesser a b) c ≡ lesser a (lesser b c)
lesser_assoc None b c = refl
lesser_assoc (Some a) None c = refl
lesser_assoc (Some a) (Some b) None = refl
lesser_assoc (Some a) (Some b) (Some c) = ap Some (min_assoc a b c)

pub least_of_both : (test : Leaf → Bool) (left right : List Leaf) → least_event test (left ++ right) ≡ lesser (least_event test left) (least_event test right)
least_of_both test [] right = refl
least_of_both test (leaf ∷ rest) right =
    ap (lesser (if test leaf then Some leaf.event else None)) (least_of_both test rest right)
    ∙ sym (lesser_assoc (if test leaf then Some leaf.event else None) (least_event test rest) (least_event test right))
