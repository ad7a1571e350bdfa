-- The text of a shape. It is this project's own.
use Rattle.std.specs.Prelude.{ℕ, List, [], ◌∷◌, ◌++◌}
use Rattle.std.specs.Fmt.{decimal}
use Rattle.phrase_tree.specs.Text.{asp_text}
use Rattle.evidence_types.specs.Shape.{Form, nothing, the_nonce, measured, measured_at, sealed, hashed, in_sequence, in_parallel}

-- "(place,event,", with which each form that has an event begins, behind its letter
abbrev pub head_text : List ℕ → ℕ → List ℕ
head_text place event = 40 ∷ (place ++ 44 ∷ (decimal event ++ 44 ∷ []))

-- the text of a shape: E, N, U(place,event,asp,under), K(place,event,target,asp,under),
-- G(place,event,under), H(place,event,under), S(left,right), P(left,right)
abbrev pub shape_text : Form → List ℕ
shape_text nothing = 69 ∷ []
shape_text the_nonce = 78 ∷ []
shape_text (measured event place asp under) =
    85 ∷ (head_text place event ++ (asp_text asp ++ 44 ∷ (shape_text under ++ 41 ∷ [])))
shape_text (measured_at event place target asp under) =
    75 ∷ (head_text place event ++ (target ++ 44 ∷ (asp_text asp ++ 44 ∷ (shape_text under ++ 41 ∷ []))))
shape_text (sealed event place under) = 71 ∷ (head_text place event ++ (shape_text under ++ 41 ∷ []))
shape_text (hashed event place under) = 72 ∷ (head_text place event ++ (shape_text under ++ 41 ∷ []))
shape_text (in_sequence left right) = 83 ∷ 40 ∷ (shape_text left ++ 44 ∷ (shape_text right ++ 41 ∷ []))
shape_text (in_parallel left right) = 80 ∷ 40 ∷ (shape_text left ++ 44 ∷ (shape_text right ++ 41 ∷ []))
