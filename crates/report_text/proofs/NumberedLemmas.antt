-- A loop over a list appends the text of one item after the other.
use Rattle.std.proofs.Common.{◌≡◌, ◌+◌, ◌<◌, ◌≤◌, ℕ, List, ◌∷◌, ◌++◌, length, drop, get_or, sym, ap, ◌∙◌, append_assoc, add-one, drop-cons}
use Rattle.std.proofs.lemmas.List.{append-nil}
use Rattle.std.proofs.Math.ListN.{drop_of_length-le}
use Rattle.std.specs.Prelude.{map}
use Rattle.report_text.specs.Sessions.{numbered}

-- what was written and what is to come is the whole: that of the next item moves from one to the other
pub goes_on : {A B : Type 0} (text_of : ℕ → B → List ℕ) (view : A → B) (items : List A) (index : ℕ) (item : A) (text longer whole : List ℕ) → index < length items → item ≡ get_or items index item → text ++ numbered text_of index (map view (drop index items)) ≡ whole → longer ≡ text ++ text_of index (view item) → longer ++ numbered text_of (index + 1) (map view (drop (index + 1) items)) ≡ whole
goes_on {A = A} text_of view items index item text longer whole there is so_far grown =
    let next : drop index items ≡ get_or items index item ∷ drop (index + 1) items = rw add-one (drop-cons items index item there) in
    let cut : drop index items ≡ item ∷ drop (index + 1) items = next ∙ ap (λ (first : A). first ∷ drop (index + 1) items) (sym is) in
    ap (λ (t : List ℕ). t ++ numbered text_of (index + 1) (map view (drop (index + 1) items))) grown
    ∙ append_assoc text (text_of index (view item)) (numbered text_of (index + 1) (map view (drop (index + 1) items)))
    ∙ ap (λ (left : List A). text ++ numbered text_of index (map view left)) (sym cut)
    ∙ so_far

-- at the end nothing is to come
pub ends : {A B : Type 0} (text_of : ℕ → B → List ℕ) (view : A → B) (items : List A) (index : ℕ) (text whole : List ℕ) → length items ≤ index → text ++ numbered text_of index (map view (drop index items)) ≡ whole → text ≡ whole
ends {A = A} text_of view items index text whole past so_far =
    sym (append-nil text)
    ∙ ap (λ (left : List A). text ++ numbered text_of index (map view left)) (sym (drop_of_length-le items past))
    ∙ so_far
