-- Looking for an answer in one half of a list whose events rise.
use Rattle.std.proofs.Common.{◌≡◌, ◌+◌, ◌<◌, ◌≤◌, ℕ, suc, true, false, cond, List, [], ◌∷◌, ◌++◌, length, get_or, take, drop, refl, sym, ap, subst, ◌∙◌, ◌-◌, length-take-le, add-one, arith}
use Rattle.std.proofs.Math.Seq.{split_at}
use Rattle.std.proofs.lemmas.List.{take-append-drop, take_rest}
use Rattle.std.specs.Prelude.{nat_eq}
use Rattle.evidence_types.specs.Answers.{IsRising, AllAfter, answer_at}

after-front : (event : ℕ) (front back : List (ℕ × List ℕ)) → AllAfter event (front ++ back) → AllAfter event front
after-front event [] back h = tt
after-front event (pair ∷ front) back h = (h.0, after-front event front back h.1)

after-middle : (event : ℕ) (front back : List (ℕ × List ℕ)) (pair : ℕ × List ℕ) → AllAfter event (front ++ pair ∷ back) → event < pair.0
after-middle event [] back pair h = h.0
after-middle event (first ∷ front) back pair h = after-middle event front back pair h.1

rising-front : (front back : List (ℕ × List ℕ)) → IsRising (front ++ back) → IsRising front
rising-front [] back h = tt
rising-front (pair ∷ front) back h = (after-front pair.0 front back h.0, rising-front front back h.1)

rising-back : (front back : List (ℕ × List ℕ)) → IsRising (front ++ back) → IsRising back
rising-back [] back h = h
rising-back (pair ∷ front) back h = rising-back front back h.1

-- an event that all others follow has no answer among them
none-after : (pairs : List (ℕ × List ℕ)) (event first : ℕ) → event ≤ first → AllAfter first pairs → answer_at pairs event ≡ []
none-after [] event first l h = refl
none-after (pair ∷ rest) event first l h =
    let apart : nat_eq pair.0 event ≡ false = grind (arith, l, h.0) in
    rw apart (none-after rest event first l h.1)

in-front : (front back : List (ℕ × List ℕ)) (pair : ℕ × List ℕ) (event : ℕ) → IsRising (front ++ pair ∷ back) → event < pair.0 → answer_at (front ++ pair ∷ back) event ≡ answer_at front event
in-front [] back pair event h l =
    let apart : nat_eq pair.0 event ≡ false = grind (arith, l) in
    rw apart (none-after back event pair.0 (omega (arith, l)) h.0)
in-front (first ∷ front) back pair event h l =
    ap (λ other. cond (nat_eq first.0 event) first.1 other) (in-front front back pair event h.1 l)

in-back : (front back : List (ℕ × List ℕ)) (pair : ℕ × List ℕ) (event : ℕ) → IsRising (front ++ pair ∷ back) → pair.0 ≤ event → answer_at (front ++ pair ∷ back) event ≡ answer_at (pair ∷ back) event
in-back [] back pair event h l = refl
in-back (first ∷ front) back pair event h l =
    let apart : nat_eq first.0 event ≡ false = grind (arith, l, after-middle first.0 front back pair h.0) in
    rw apart (in-back front back pair event h.1 l)

-- a list cut around one of its places
record IsCut (pairs : List (ℕ × List ℕ)) (middle : ℕ) (pair : ℕ × List ℕ) : Type 0 where
  cut : pairs ≡ take middle pairs ++ pair ∷ drop (suc middle) pairs

found_there : (pairs : List (ℕ × List ℕ)) (middle event : ℕ) (pair : ℕ × List ℕ) → IsCut pairs middle pair → IsRising pairs → pair.0 ≡ event → pair.1 ≡ answer_at pairs event
found_there pairs middle event pair c h e =
    let there : nat_eq pair.0 event ≡ true = grind (arith, e) in
    let same : answer_at (pair ∷ drop (suc middle) pairs) event ≡ pair.1 = rw there refl in
    sym (ap (λ list. answer_at list event) c.cut ∙ in-back (take middle pairs) (drop (suc middle) pairs) pair event (subst IsRising c.cut h) (omega (arith, e)) ∙ same)

found_in_front : (pairs : List (ℕ × List ℕ)) (middle event : ℕ) (pair : ℕ × List ℕ) → IsCut pairs middle pair → IsRising pairs → event < pair.0 → answer_at (take middle pairs) event ≡ answer_at pairs event
found_in_front pairs middle event pair c h l =
    sym (ap (λ list. answer_at list event) c.cut ∙ in-front (take middle pairs) (drop (suc middle) pairs) pair event (subst IsRising c.cut h) l)

found_behind : (pairs : List (ℕ × List ℕ)) (middle event : ℕ) (pair : ℕ × List ℕ) → IsCut pairs middle pair → IsRising pairs → pair.0 < event → answer_at (drop (suc middle) pairs) event ≡ answer_at pairs event
found_behind pairs middle event pair c h l =
    let apart : nat_eq pair.0 event ≡ false = grind (arith, l) in
    let rest : answer_at (pair ∷ drop (suc middle) pairs) event ≡ answer_at (drop (suc middle) pairs) event = rw apart refl in
    sym (ap (λ list. answer_at list event) c.cut ∙ in-back (take middle pairs) (drop (suc middle) pairs) pair event (subst IsRising c.cut h) (omega (arith, l)) ∙ rest)

pub rising_take : (count : ℕ) (pairs : List (ℕ × List ℕ)) → IsRising pairs → IsRising (take count pairs)
rising_take count pairs h =
    rising-front (take count pairs) (drop count pairs) (subst IsRising (sym (take-append-drop count pairs)) h)

pub rising_drop : (count : ℕ) (pairs : List (ℕ × List ℕ)) → IsRising pairs → IsRising (drop count pairs)
rising_drop count pairs h =
    rising-back (take count pairs) (drop count pairs) (subst IsRising (sym (take-append-drop count pairs)) h)

cut_at : (pairs : List (ℕ × List ℕ)) (middle : ℕ) (pair : ℕ × List ℕ) → middle < length pairs → pair ≡ get_or pairs middle pair → IsCut pairs middle pair
cut_at pairs middle pair l e =
    record { cut = split_at pairs middle pair l ∙ ap (λ found. take middle pairs ++ found ∷ drop (suc middle) pairs) (sym e) }

pub fewer : (count : ℕ) (pairs : List (ℕ × List ℕ)) → count < length pairs → length (take count pairs) < length pairs
fewer count pairs l = omega (arith, length-take-le count pairs (omega (arith, l)), l)

pub found_at : (pairs : List (ℕ × List ℕ)) (middle event : ℕ) (pair : ℕ × List ℕ) → middle < length pairs → pair ≡ get_or pairs middle pair → IsRising pairs → pair.0 ≡ event → pair.1 ≡ answer_at pairs event
found_at pairs middle event pair l e h n = found_there pairs middle event pair (cut_at pairs middle pair l e) h n

pub found_before : (pairs : List (ℕ × List ℕ)) (middle event : ℕ) (pair : ℕ × List ℕ) → middle < length pairs → pair ≡ get_or pairs middle pair → IsRising pairs → event < pair.0 → answer_at (take middle pairs) event ≡ answer_at pairs event
found_before pairs middle event pair l e h n = found_in_front pairs middle event pair (cut_at pairs middle pair l e) h n

pub found_after : (pairs : List (ℕ × List ℕ)) (middle event : ℕ) (pair : ℕ × List ℕ) → middle < length pairs → pair ≡ get_or pairs middle pair → IsRising pairs → pair.0 < event → answer_at (take (length pairs - (middle + 1)) (drop (middle + 1) pairs)) event ≡ answer_at pairs event
found_after pairs middle event pair l e h n =
    rw (take_rest pairs (middle + 1), add-one middle) (found_behind pairs middle event pair (cut_at pairs middle pair l e) h n)
