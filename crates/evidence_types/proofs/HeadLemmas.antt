-- The bytes and the marks of a value are those of its heads.
use Rattle.std.proofs.Common.{◌≡◌, ℕ, zero, suc, ◌+◌, List, [], ◌∷◌, ◌++◌, length, take, drop, refl, sym, ap, ◌∙◌, append_assoc, append-nil, arith}
use Rattle.evidence_types.specs.Bytes.{be16, be32, encoding}
use Rattle.evidence_types.specs.Evidence.{Evidence, empty, nonce, usm, kim, seal, hash, seq_pair, par_pair}
use Rattle.evidence_types.specs.Heads.{Head, empty_head, nonce_head, usm_head, kim_head, seal_head, hash_head, seq_head, par_head, next_mark, mark_byte, heads, head_bytes, joined, marks_of}
use Rattle.evidence_types.specs.Marked.{measurements, marked_encoding}

pub joined-append : (a b : List Head) → joined (a ++ b) ≡ joined a ++ joined b
joined-append [] b = refl
joined-append (first ∷ rest) b = ap (λ (t : List ℕ). head_bytes first ++ t) (joined-append rest b) ∙ sym (append_assoc (head_bytes first) (joined rest) (joined b))

mark_is : (marks : List ℕ) → mark_byte (next_mark marks) ≡ take 1 marks
mark_is [] = refl
mark_is (mark ∷ marks) = refl

-- the four fields before the parts of a measurement
fields : (tag event : ℕ) (mark answer rest bytes : List ℕ) → rest ≡ bytes → tag ∷ (be32 event ++ (mark ++ (be16 (length answer) ++ answer))) ++ rest ≡ tag ∷ (be32 event ++ (mark ++ (be16 (length answer) ++ (answer ++ bytes))))
fields tag event mark answer rest bytes e =
    ap (λ (t : List ℕ). tag ∷ t) (append_assoc (be32 event) (mark ++ (be16 (length answer) ++ answer)) rest
    ∙ ap (λ (t : List ℕ). be32 event ++ t) (append_assoc mark (be16 (length answer) ++ answer) rest
    ∙ ap (λ (t : List ℕ). mark ++ t) (append_assoc (be16 (length answer)) answer rest
    ∙ ap (λ (t : List ℕ). be16 (length answer) ++ (answer ++ t)) e)))

two : (event : ℕ) (bytes rest more : List ℕ) → rest ≡ more → (be32 event ++ bytes) ++ rest ≡ be32 event ++ (bytes ++ more)
two event bytes rest more e = append_assoc (be32 event) bytes rest ∙ ap (λ (t : List ℕ). be32 event ++ (bytes ++ t)) e

both : (a b : List Head) (x y : List ℕ) → joined a ≡ x → joined b ≡ y → joined (a ++ b) ≡ x ++ y
both a b x y l r = joined-append a b ∙ ap (λ (t : List ℕ). t ++ joined b) l ∙ ap (λ (t : List ℕ). x ++ t) r

pub joined-marked : (value : Evidence) (marks : List ℕ) → joined (heads value marks) ≡ marked_encoding value marks
joined-marked empty marks = refl
joined-marked (nonce bytes) marks = ap (λ (t : List ℕ). 1 ∷ t) (append-nil bytes)
joined-marked (usm event answer under) marks =
    fields 2 event (mark_byte (next_mark marks)) answer (joined (heads under (drop 1 marks))) (marked_encoding under (drop 1 marks)) (joined-marked under (drop 1 marks))
    ∙ ap (λ (m : List ℕ). 2 ∷ (be32 event ++ (m ++ (be16 (length answer) ++ (answer ++ marked_encoding under (drop 1 marks)))))) (mark_is marks)
joined-marked (kim event answer under) marks =
    fields 3 event (mark_byte (next_mark marks)) answer (joined (heads under (drop 1 marks))) (marked_encoding under (drop 1 marks)) (joined-marked under (drop 1 marks))
    ∙ ap (λ (m : List ℕ). 3 ∷ (be32 event ++ (m ++ (be16 (length answer) ++ (answer ++ marked_encoding under (drop 1 marks)))))) (mark_is marks)
joined-marked (seal event bytes under) marks = ap (λ (t : List ℕ). 4 ∷ t) (two event bytes (joined (heads under marks)) (marked_encoding under marks) (joined-marked under marks))
joined-marked (hash event bytes) marks = ap (λ (t : List ℕ). 5 ∷ t) (append-nil (be32 event ++ bytes))
joined-marked (seq_pair left right) marks =
    ap (λ (t : List ℕ). 6 ∷ t) (both (heads left marks) (heads right (drop (measurements left) marks)) (marked_encoding left marks) (marked_encoding right (drop (measurements left) marks)) (joined-marked left marks) (joined-marked right (drop (measurements left) marks)))
joined-marked (par_pair left right) marks =
    ap (λ (t : List ℕ). 7 ∷ t) (both (heads left marks) (heads right (drop (measurements left) marks)) (marked_encoding left marks) (marked_encoding right (drop (measurements left) marks)) (joined-marked left marks) (joined-marked right (drop (measurements left) marks)))

abbrev no_marks : List ℕ
no_marks = []

drop-none : (n : ℕ) → drop n no_marks ≡ no_marks
drop-none zero = refl
drop-none (suc n) = refl

-- without marks the bytes are those of version 1
pub unmarked : (value : Evidence) → marked_encoding value [] ≡ encoding value
unmarked empty = refl
unmarked (nonce bytes) = refl
unmarked (usm event answer under) = ap (λ (t : List ℕ). 2 ∷ (be32 event ++ (be16 (length answer) ++ (answer ++ t)))) (unmarked under)
unmarked (kim event answer under) = ap (λ (t : List ℕ). 3 ∷ (be32 event ++ (be16 (length answer) ++ (answer ++ t)))) (unmarked under)
unmarked (seal event bytes under) = ap (λ (t : List ℕ). 4 ∷ (be32 event ++ (bytes ++ t))) (unmarked under)
unmarked (hash event bytes) = refl
unmarked (seq_pair left right) =
    ap (λ (t : List ℕ). 6 ∷ (t ++ marked_encoding right (drop (measurements left) no_marks))) (unmarked left)
    ∙ ap (λ (m : List ℕ). 6 ∷ (encoding left ++ marked_encoding right m)) (drop-none (measurements left))
    ∙ ap (λ (t : List ℕ). 6 ∷ (encoding left ++ t)) (unmarked right)
unmarked (par_pair left right) =
    ap (λ (t : List ℕ). 7 ∷ (t ++ marked_encoding right (drop (measurements left) no_marks))) (unmarked left)
    ∙ ap (λ (m : List ℕ). 7 ∷ (encoding left ++ marked_encoding right m)) (drop-none (measurements left))
    ∙ ap (λ (t : List ℕ). 7 ∷ (encoding left ++ t)) (unmarked right)

pub joined-plain : (value : Evidence) → joined (heads value []) ≡ encoding value
joined-plain value = joined-marked value [] ∙ unmarked value

-- ---- the marks

marks-append : (a b : List Head) → marks_of (a ++ b) ≡ marks_of a ++ marks_of b
marks-append [] b = refl
marks-append (empty_head ∷ rest) b = marks-append rest b
marks-append (nonce_head bytes ∷ rest) b = marks-append rest b
marks-append (usm_head event mark answer ∷ rest) b = ap (λ (t : List ℕ). mark_byte mark ++ t) (marks-append rest b) ∙ sym (append_assoc (mark_byte mark) (marks_of rest) (marks_of b))
marks-append (kim_head event mark answer ∷ rest) b = ap (λ (t : List ℕ). mark_byte mark ++ t) (marks-append rest b) ∙ sym (append_assoc (mark_byte mark) (marks_of rest) (marks_of b))
marks-append (seal_head event bytes ∷ rest) b = marks-append rest b
marks-append (hash_head event bytes ∷ rest) b = marks-append rest b
marks-append (seq_head ∷ rest) b = marks-append rest b
marks-append (par_head ∷ rest) b = marks-append rest b

take-none : (n : ℕ) → take n no_marks ≡ no_marks
take-none zero = refl
take-none (suc n) = refl

take-both : (n m : ℕ) (marks : List ℕ) → take n marks ++ take m (drop n marks) ≡ take (n + m) marks
take-both zero m marks = let e : m ≡ 0 + m = omega arith in ap (λ (k : ℕ). take k marks) e
take-both (suc n) m [] = take-none m ∙ sym (take-none (suc n + m))
take-both (suc n) m (mark ∷ marks) =
    let e : suc (n + m) ≡ suc n + m = omega arith in
    ap (λ (t : List ℕ). mark ∷ t) (take-both n m marks) ∙ ap (λ (k : ℕ). take k (mark ∷ marks)) e

take-one : (n : ℕ) (marks : List ℕ) → mark_byte (next_mark marks) ++ take n (drop 1 marks) ≡ take (suc n) marks
take-one n [] = take-none n
take-one n (mark ∷ marks) = refl

pub marks-in_order : (value : Evidence) (marks : List ℕ) → marks_of (heads value marks) ≡ take (measurements value) marks
marks-in_order empty marks = refl
marks-in_order (nonce bytes) marks = refl
marks-in_order (usm event answer under) marks = ap (λ (t : List ℕ). mark_byte (next_mark marks) ++ t) (marks-in_order under (drop 1 marks)) ∙ take-one (measurements under) marks
marks-in_order (kim event answer under) marks = ap (λ (t : List ℕ). mark_byte (next_mark marks) ++ t) (marks-in_order under (drop 1 marks)) ∙ take-one (measurements under) marks
marks-in_order (seal event bytes under) marks = marks-in_order under marks
marks-in_order (hash event bytes) marks = refl
marks-in_order (seq_pair left right) marks =
    marks-append (heads left marks) (heads right (drop (measurements left) marks))
    ∙ ap (λ (t : List ℕ). t ++ marks_of (heads right (drop (measurements left) marks))) (marks-in_order left marks)
    ∙ ap (λ (t : List ℕ). take (measurements left) marks ++ t) (marks-in_order right (drop (measurements left) marks))
    ∙ take-both (measurements left) (measurements right) marks
marks-in_order (par_pair left right) marks =
    marks-append (heads left marks) (heads right (drop (measurements left) marks))
    ∙ ap (λ (t : List ℕ). t ++ marks_of (heads right (drop (measurements left) marks))) (marks-in_order left marks)
    ∙ ap (λ (t : List ℕ). take (measurements left) marks ++ t) (marks-in_order right (drop (measurements left) marks))
    ∙ take-both (measurements left) (measurements right) marks
