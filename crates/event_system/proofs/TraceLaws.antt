-- Laws of traces: a trace so far grows by what may follow, it is no longer than the phrase has
-- events, and the first fault of a list is one only.
use Rattle.std.proofs.Common.{◌≡◌, ℕ, ◌+◌, ◌≤◌, ◌<◌, inl, inr, sym, ◌∙◌, subst, true, false, eqb, suc, ◌-◌, ◌∷◌, ◌++◌, List, [], length, get_or, take, None, arith, length-take-le}
use Rattle.std.specs.Prelude.{Contains, slice_index}
use Rattle.std.specs.List.{list_any, range_with_len}
use Rattle.std.proofs.lemmas.Bool.{cases_lt, or_cases, eqb-true, ne_eqb}
use Rattle.std.proofs.lemmas.List.{get_or-take, get_or_append_left, get_or_default, length-append, take-append-le, take-take}
use Rattle.std.proofs.Math.Seq.{get_or-append_seam, take-append_seam}
use Rattle.std.proofs.lemmas.Map.Keys.{IsDistinct-from_apart}
use Rattle.std.proofs.lemmas.Map.Steps.{length-le_from_distinct_below}
use Rattle.std.proofs.lemmas.List.FromFn.{length-range_with_len, get_or-range_with_len}
use Rattle.phrase_tree.specs.Term.{Term}
use Rattle.phrase_tree.specs.Numbering.{event_count}
use Rattle.event_system.specs.Order.{IsEvent, IsBefore, IsDirectlyBefore}
use Rattle.event_system.specs.Trace.{MayFollow, IsTraceSoFar, IsTrace, StandsUpTo}
use Rattle.event_system.proofs.OrderLaws.{before_rises}
use Rattle.event_system.proofs.NeedsLaws.{before_covered, named_direct}

-- what stands in front of a position, and where
in_front : (xs : List ℕ) (k j x : ℕ) → j < k → k ≤ length xs → get_or xs j x ≡ x → Contains (take k xs) x
in_front xs k j x lt le e = (j, rw (length-take-le k xs le) lt, get_or-take k xs j x lt ∙ e)

from_front : (xs : List ℕ) (k x : ℕ) → k ≤ length xs → Contains (take k xs) x → (j : ℕ) × ((j < k) × (get_or xs j x ≡ x))
from_front xs k x le c =
    let lt : c.0 < k = omega (arith, length-take-le k xs le, c.1) in
    (c.0, (lt, sym (get_or-take k xs c.0 x lt) ∙ c.2))

contains_front : (xs : List ℕ) (k x : ℕ) → k ≤ length xs → Contains (take k xs) x → Contains xs x
contains_front xs k x le c =
    let w = from_front xs k x le c in
    (w.0, omega (arith, w.1.0), w.1.1)

pub up_to_from : (phrase : Term) (i : ℕ) (trace : List ℕ) (n : ℕ) → n ≤ length trace → IsTraceSoFar phrase i (take n trace) → StandsUpTo phrase i trace n
up_to_from phrase i trace n le s = record {
  each = λ k lt.
      let same : take k (take n trace) ≡ take k trace = take-take k n trace (omega arith) in
      let there : slice_index (take n trace) k ≡ slice_index trace k = get_or-take n trace k 0 lt in
      subst (λ m. MayFollow phrase i (take k trace) m) there (subst (λ ahead. MayFollow phrase i ahead (slice_index (take n trace) k)) same (s.each k (omega (arith, length-take-le n trace le, lt))));
}

-- no two numbers of a trace so far are equal
so_far_apart : (phrase : Term) (trace : List ℕ) → IsTraceSoFar phrase 0 trace → (j k d : ℕ) → j < k → k < length trace → eqb (get_or trace j d) (get_or trace k d) ≡ false
so_far_apart phrase trace s j k d lt within =
    let there = get_or_default trace k d 0 within in
    let here = get_or_default trace j d (get_or trace k 0) (omega arith) in
    ne_eqb (get_or trace j d) (get_or trace k d) (λ e. (s.each k within).once (in_front trace k j (get_or trace k 0) lt (omega arith) (sym here ∙ (e ∙ there))))

list_any_at : (xs : List ℕ) (q : ℕ) → list_any (eqb q) xs ≡ true → (k : ℕ) × ((k < length xs) × (get_or xs k 0 ≡ q))
list_any_at [] q h = absurd (cc)
list_any_at (x ∷ xs) q h =
    elim (or_cases (eqb q x) (list_any (eqb q) xs) h) [
      | inl e ↦ (0, (omega arith, sym (eqb-true q x e)))
      | inr more ↦
          let w = list_any_at xs q more in
          (suc w.0, (omega (arith, w.1.0), w.1.1))
    ]

-- a trace so far has at most as many numbers as the phrase has events
pub so_far_short : (phrase : Term) (trace : List ℕ) → IsTraceSoFar phrase 0 trace → length trace ≤ event_count phrase
so_far_short phrase trace s =
    length-le_from_distinct_below trace (event_count phrase)
    (IsDistinct-from_apart eqb trace (λ j k d lt within. so_far_apart phrase trace s j k d lt within))
    (λ q any.
    let w = list_any_at trace q any in
    let event = (s.each w.0 w.1.0).event in
    let is : get_or trace w.0 0 ≡ q = w.1.1 in
    omega (arith, event.below, is))

-- behind a trace so far that has the direct predecessors of an event, it is ready
pub ready_from : (phrase : Term) (i y : ℕ) (ahead : List ℕ) → IsEvent phrase i y → IsTraceSoFar phrase i ahead → ((x : ℕ) → IsDirectlyBefore phrase i x y → Contains ahead x) → (x : ℕ) → IsBefore phrase i x y → Contains ahead x
ready_from phrase i y ahead event s direct x b =
    elim (before_covered None phrase i x y b) [
      | inl n ↦ direct x (named_direct phrase i x y event n)
      | inr w ↦
          let there = direct w.0 (named_direct phrase i w.0 y event w.1.0) in
          let is : slice_index ahead there.0 ≡ w.0 = sym (get_or_default ahead there.0 w.0 0 there.1) ∙ there.2 in
          let h = subst (λ z. IsBefore phrase i x z) (sym is) w.1.1 in
          contains_front ahead there.0 x (omega (arith, there.1)) ((s.each there.0 there.1).ready x h)
    ]

add_back : (i x : ℕ) → i ≤ x → i + (x - i) ≡ x
add_back i x le = omega arith

-- the numbers of a phrase in rising order are a trace of it
pub rising_is_trace : (phrase : Term) (i : ℕ) → IsTrace phrase i (range_with_len i (event_count phrase))
rising_is_trace phrase i =
    let n : ℕ = event_count phrase in
    let xs : List ℕ = range_with_len i (event_count phrase) in
    record {
      so_far = record {
        each = λ k lt.
            let within : k < event_count phrase = omega (arith, lt, length-range_with_len i (event_count phrase)) in
            let is : slice_index (range_with_len i (event_count phrase)) k ≡ i + k = get_or-range_with_len i (event_count phrase) k 0 within in
            subst (λ m. MayFollow phrase i (take k (range_with_len i (event_count phrase))) m) (sym is) (record {
              event = record { from = omega arith; below = omega arith };
              once = λ c.
                  let w = from_front (range_with_len i (event_count phrase)) k (i + k) (omega arith) c in
                  omega (arith, w.1.0, w.1.1, get_or-range_with_len i (event_count phrase) w.0 (i + k) (omega (arith, w.1.0)));
              ready = λ x b.
                  let r = before_rises phrase i x (i + k) b in
                  in_front (range_with_len i (event_count phrase)) k (x - i) x (omega arith) (omega arith) (get_or-range_with_len i (event_count phrase) (x - i) x (omega arith) ∙ add_back i x r.from);
            });
      };
      whole = λ m event. (m - i, omega (arith, event.from, event.below, length-range_with_len i (event_count phrase)), get_or-range_with_len i (event_count phrase) (m - i) m (omega (arith, event.from, event.below)) ∙ add_back i m event.from);
    }

-- a trace so far begins with nothing, and grows at its end by what may follow it
pub nothing_so_far : (phrase : Term) (i : ℕ) → IsTraceSoFar phrase i []
nothing_so_far phrase i = record { each = λ k lt. absurd (omega arith) }

pub more_so_far : (phrase : Term) (i : ℕ) (trace : List ℕ) (n : ℕ) → IsTraceSoFar phrase i trace → MayFollow phrase i trace n → IsTraceSoFar phrase i (trace ++ n ∷ [])
more_so_far phrase i trace n s m = record {
  each = λ k lt. elim (cases_lt k (length trace)) [
    | inl less ↦
        let ahead : take k trace ≡ take k (trace ++ n ∷ []) = sym (take-append-le k trace (n ∷ []) (omega arith)) in
        let there : slice_index trace k ≡ slice_index (trace ++ n ∷ []) k = sym (get_or_append_left trace (n ∷ []) 0 k less) in
        subst (λ y. MayFollow phrase i (take k (trace ++ n ∷ [])) y) there (subst (λ xs. MayFollow phrase i xs (slice_index trace k)) ahead (s.each k less))
    | inr ge ↦
        let e : length trace ≡ k = omega (arith, lt, length-append trace (n ∷ [])) in
        let ahead : trace ≡ take (length trace) (trace ++ n ∷ []) = sym (take-append_seam trace (n ∷ [])) in
        let there : n ≡ slice_index (trace ++ n ∷ []) (length trace) = sym (get_or-append_seam trace n [] 0) in
        subst (λ j. MayFollow phrase i (take j (trace ++ n ∷ [])) (slice_index (trace ++ n ∷ []) j)) e
        (subst (λ y. MayFollow phrase i (take (length trace) (trace ++ n ∷ [])) y) there (subst (λ xs. MayFollow phrase i xs n) ahead m))
  ];
}
