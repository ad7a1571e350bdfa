-- Lists of measurements that are kept in reverse.
use Rattle.std.proofs.Common.{◌≡◌, List, [], ◌∷◌, map, refl, ap, ◌∙◌}
use Rattle.std.specs.Prelude.{reverse}
use mathlib.Core.List.{reverse_aux}

onto : {A B : Type 0} (f : A → B) (xs ys : List A) → reverse_aux (map f xs) (map f ys) ≡ map f (reverse_aux xs ys)
onto f [] ys = refl
onto f (x ∷ xs) ys = onto f xs (x ∷ ys)

pub reverse-map : {A B : Type 0} (f : A → B) (xs : List A) → reverse (map f xs) ≡ map f (reverse xs)
reverse-map f xs = onto f xs []

pub reversed_changed : {A : Type 0} (f : A → A) (kept new held : List A) → new ≡ map f kept → reverse kept ≡ held → reverse new ≡ map f held
reversed_changed f kept new held e h =
    ap (λ xs. reverse xs) e ∙ (reverse-map f kept ∙ ap (λ xs. map f xs) h)
