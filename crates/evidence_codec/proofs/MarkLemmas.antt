-- With marks a value has one byte more for each of its measurements.
use Rattle.std.proofs.Common.{◌≡◌, ℕ, zero, suc, ◌+◌, ◌≤◌, List, [], ◌∷◌, ◌++◌, length, drop, refl, ap, length-append, arith}
use Rattle.std.proofs.lemmas.List.{length-drop}
use Rattle.evidence_types.specs.Evidence.{Evidence, empty, nonce, usm, kim, seal, hash, seq_pair, par_pair}
use Rattle.evidence_types.specs.Marked.{measurements, marked_encoding, FitsMarkedBundle}

abbrev no_marks : List ℕ
no_marks = []

drop-none : (n : ℕ) → drop n no_marks ≡ []
drop-none zero = refl
drop-none (suc n) = refl

pair_longer : (left right : Evidence) (marks : List ℕ) → measurements left + measurements right ≤ length marks
    → length (marked_encoding left marks) ≡ length (marked_encoding left no_marks) + measurements left
    → length (marked_encoding right (drop (measurements left) marks)) ≡ length (marked_encoding right no_marks) + measurements right
    → length (marked_encoding left marks ++ marked_encoding right (drop (measurements left) marks)) ≡ length (marked_encoding left no_marks ++ marked_encoding right (drop (measurements left) no_marks)) + (measurements left + measurements right)
pair_longer left right marks le l r =
    let none : length (marked_encoding right (drop (measurements left) no_marks)) ≡ length (marked_encoding right no_marks) = ap (λ (m : List ℕ). length (marked_encoding right m)) (drop-none (measurements left)) in
    omega (arith, l, r, none, length-append (marked_encoding left marks) (marked_encoding right (drop (measurements left) marks)), length-append (marked_encoding left no_marks) (marked_encoding right (drop (measurements left) no_marks)))

pub longer : (value : Evidence) (marks : List ℕ) → measurements value ≤ length marks → length (marked_encoding value marks) ≡ length (marked_encoding value no_marks) + measurements value
longer empty marks le = refl
longer (nonce bytes) marks le = omega arith
longer (usm event answer under) [] le = absurd (omega arith)
longer (usm event answer under) (mark ∷ marks) le =
    let u : length (marked_encoding under marks) ≡ length (marked_encoding under no_marks) + measurements under = longer under marks (omega (arith, le)) in
    omega (arith, u, length-append answer (marked_encoding under marks), length-append answer (marked_encoding under no_marks))
longer (kim event answer under) [] le = absurd (omega arith)
longer (kim event answer under) (mark ∷ marks) le =
    let u : length (marked_encoding under marks) ≡ length (marked_encoding under no_marks) + measurements under = longer under marks (omega (arith, le)) in
    omega (arith, u, length-append answer (marked_encoding under marks), length-append answer (marked_encoding under no_marks))
longer (seal event bytes under) marks le =
    let u : length (marked_encoding under marks) ≡ length (marked_encoding under no_marks) + measurements under = longer under marks le in
    omega (arith, u, length-append bytes (marked_encoding under marks), length-append bytes (marked_encoding under no_marks))
longer (hash event bytes) marks le = omega arith
longer (seq_pair left right) marks le =
    let k : length (marked_encoding left marks ++ marked_encoding right (drop (measurements left) marks)) ≡ length (marked_encoding left no_marks ++ marked_encoding right (drop (measurements left) no_marks)) + (measurements left + measurements right) =
    pair_longer left right marks le (longer left marks (omega (arith, le))) (longer right (drop (measurements left) marks) (omega (arith, le, length-drop (measurements left) marks))) in
    omega (arith, k)
longer (par_pair left right) marks le =
    let k : length (marked_encoding left marks ++ marked_encoding right (drop (measurements left) marks)) ≡ length (marked_encoding left no_marks ++ marked_encoding right (drop (measurements left) no_marks)) + (measurements left + measurements right) =
    pair_longer left right marks le (longer left marks (omega (arith, le))) (longer right (drop (measurements left) marks) (omega (arith, le, length-drop (measurements left) marks))) in
    omega (arith, k)

-- the number of a value's bytes without marks, and the number of its marks, come to that of its bytes with marks
pub sum-is : (value : Evidence) (marks : List ℕ) → FitsMarkedBundle value marks → length (marked_encoding value no_marks) + length marks ≡ length (marked_encoding value marks)
sum-is value marks fits =
    let k : length (marked_encoding value marks) ≡ length (marked_encoding value no_marks) + measurements value = longer value marks (omega (arith, fits.marked)) in
    omega (arith, k, fits.marked)
