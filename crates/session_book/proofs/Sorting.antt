-- The answers of a book by their events.
use Rattle.std.proofs.Common.{◌≡◌, ℕ, ◌<◌, ◌≤◌, zero, suc, inl, inr, ◌⊎◌, List, [], ◌∷◌, ◌++◌, length, refl, sym, ◌∙◌, ap, subst, arith}
use Rattle.std.specs.Prelude.{Option, None, Some, reverse, nat_eq, if◌then◌else◌, slice_get, ◌↔◌}
use Rattle.std.proofs.lemmas.Bool.{cases_eq, eq-eqb, ne_eqb}
use Rattle.std.proofs.lemmas.List.{reverse-append}
use Rattle.evidence_types.specs.Answers.{AllAfter, IsRising, answer_at}
use Rattle.rising_list.specs.Rising.{find, inserted, RisesFrom}
use Rattle.rising_list.proofs.RisingLemmas.{find-inserted}
use Rattle.session_runs.specs.Room.{events_answered}
use Rattle.session_runs.proofs.ListingLaws.{IsAmong, contains_among, among_contains, among_split}
use Rattle.session_book.specs.declared.book.SessionBook.{SessionBook}
use Rattle.session_book.specs.Entries.{answer_in}
use Rattle.session_book.specs.Kept.{event_at, answers_of, IsKept, IsUnanswered, answers_by, AreByEvent}

abbrev Answers : Type 0
Answers = List (ℕ × List ℕ)

abbrev pair : ℕ → List ℕ → ℕ × List ℕ
pair event bytes = (event, bytes)

if_same : (A : Type 0) (n k : ℕ) (x y : A) → n ≡ k → (if nat_eq n k then x else y) ≡ x
if_same A n k x y e = ap (λ b. if b then x else y) (eq-eqb n k e)

if_other : (A : Type 0) (n k : ℕ) (x y : A) → (n ≡ k → ⊥) → (if nat_eq n k then x else y) ≡ y
if_other A n k x y ne = ap (λ b. if b then x else y) (ne_eqb n k ne)

some_number : (a b : ℕ) → ◌≡◌ {A = Option ℕ} (Some a) (Some b) → a ≡ b
some_number a b e = cc

-- ---- what is found at a number, and at an index

pub above : (first i : ℕ) (xs : List (ℕ × ℕ)) (x : ℕ × ℕ) → RisesFrom first xs → slice_get xs i ≡ Some x → first ≤ x.0
above first i [] x rises e = absurd (cc)
above first zero (y ∷ ys) x rises e =
    let same : y ≡ x = cc in
    subst (λ z. first ≤ z.0) same rises.0
above first (suc i) (y ∷ ys) x rises e = omega (arith, above (suc y.0) i ys x rises.1 e, rises.0)

pub found_at : (first i : ℕ) (xs : List (ℕ × ℕ)) (x : ℕ × ℕ) → RisesFrom first xs → slice_get xs i ≡ Some x → find x.0 xs ≡ Some x.1
found_at first i [] x rises e = absurd (cc)
found_at first zero (y ∷ ys) x rises e =
    let same : y ≡ x = cc in
    if_same (Option ℕ) y.0 x.0 (Some y.1) (find x.0 ys) (ap (λ z. z.0) same) ∙ ap (λ (z : ℕ × ℕ). second z) same
  where
    second : ℕ × ℕ → Option ℕ
    second z = Some z.1
found_at first (suc i) (y ∷ ys) x rises e =
    if_other (Option ℕ) y.0 x.0 (Some y.1) (find x.0 ys) (λ n. omega (arith, n, above (suc y.0) i ys x rises.1 e)) ∙ found_at (suc y.0) i ys x rises.1 e

-- an answer with its event, by its index
pub event_within : (answers : Answers) (at event : ℕ) → event_at answers at ≡ Some event → at < length answers
event_within [] at event e = absurd (cc)
event_within (a ∷ rest) zero event e = omega arith
event_within (a ∷ rest) (suc at) event e = omega (arith, event_within rest at event e)

event_is : (answers : Answers) (at event : ℕ) → event_at answers at ≡ Some event → (answer_in answers at).0 ≡ event
event_is [] at event e = absurd (cc)
event_is (a ∷ rest) zero event e = some_number a.0 event e
event_is (a ∷ rest) (suc at) event e = event_is rest at event e

at_is : (answers : Answers) (at : ℕ) → at < length answers → event_at answers at ≡ Some (answer_in answers at).0
at_is [] at lt = absurd (omega (arith, lt))
at_is (a ∷ rest) zero lt = refl
at_is (a ∷ rest) (suc at) lt = at_is rest at (omega (arith, lt))

-- ---- one answer more

event_behind : (answers : Answers) (one : ℕ × List ℕ) (at : ℕ) → at < length answers → event_at (answers ++ one ∷ []) at ≡ event_at answers at
event_behind [] one at lt = absurd (omega (arith, lt))
event_behind (a ∷ rest) one zero lt = refl
event_behind (a ∷ rest) one (suc at) lt = event_behind rest one at (omega (arith, lt))

event_last : (answers : Answers) (one : ℕ × List ℕ) → event_at (answers ++ one ∷ []) (length answers) ≡ Some one.0
event_last [] one = refl
event_last (a ∷ rest) one = event_last rest one

event_past : (answers : Answers) (one : ℕ × List ℕ) (at event : ℕ) → (at ≡ length answers → ⊥) → event_at (answers ++ one ∷ []) at ≡ Some event → at < length answers
event_past [] one zero event ne e = absurd (ne refl)
event_past [] one (suc at) event ne e = absurd (cc)
event_past (a ∷ rest) one zero event ne e = omega arith
event_past (a ∷ rest) one (suc at) event ne e =
    omega (arith, event_past rest one at event (λ same. ne (ap suc same)) e)

none_found : (o : Option ℕ) (at : ℕ) → o ≡ None → o ≡ Some at → ⊥
none_found o at e f = absurd (cc)

pub indexed_more : (answers : Answers) (index : List (ℕ × ℕ)) (number : ℕ) (bytes : List ℕ) → ((event at : ℕ) → (find event index ≡ Some at) ↔ (event_at answers at ≡ Some event)) → find number index ≡ None → (event at : ℕ) → (find event (inserted number (length answers) index) ≡ Some at) ↔ (event_at (answers ++ (number, bytes) ∷ []) at ≡ Some event)
indexed_more answers index number bytes indexed free event at = (there, back)
  where
    there : find event (inserted number (length answers) index) ≡ Some at → event_at (answers ++ (number, bytes) ∷ []) at ≡ Some event
    there h = elim (cases_eq number event) [
      | inl is ↦
          let same : length answers ≡ at = some_number (length answers) at (sym (find-inserted number event (length answers) index free ∙ if_same (Option ℕ) number event (Some (length answers)) (find event index) is) ∙ h) in
          ap (λ k. event_at (answers ++ (number, bytes) ∷ []) k) (sym same) ∙ event_last answers (number, bytes) ∙ ap (λ (n : ℕ). some n) is
      | inr ne ↦
          let old : event_at answers at ≡ Some event = (indexed event at).0 (sym (find-inserted number event (length answers) index free ∙ if_other (Option ℕ) number event (Some (length answers)) (find event index) ne) ∙ h) in
          event_behind answers (number, bytes) at (event_within answers at event old) ∙ old
    ]
      where
        some : ℕ → Option ℕ
        some n = Some n

    back : event_at (answers ++ (number, bytes) ∷ []) at ≡ Some event → find event (inserted number (length answers) index) ≡ Some at
    back h = elim (cases_eq at (length answers)) [
      | inl is ↦
          let same : number ≡ event = some_number number event (sym (event_last answers (number, bytes)) ∙ ap (λ k. event_at (answers ++ (number, bytes) ∷ []) k) (sym is) ∙ h) in
          find-inserted number event (length answers) index free ∙ if_same (Option ℕ) number event (Some (length answers)) (find event index) same ∙ ap (λ (n : ℕ). some n) (sym is)
      | inr ne ↦
          let lt : at < length answers = event_past answers (number, bytes) at event ne h in
          let old : find event index ≡ Some at = (indexed event at).1 (sym (event_behind answers (number, bytes) at lt) ∙ h) in
          find-inserted number event (length answers) index free ∙ if_other (Option ℕ) number event (Some (length answers)) (find event index) (λ same. none_found (find number index) at free (ap (λ n. find n index) same ∙ old)) ∙ old
    ]
      where
        some : ℕ → Option ℕ
        some n = Some n

-- ---- the events of answers, the latest first

back_first : (x : ℕ × List ℕ) (xs : Answers) → reverse (x ∷ xs) ≡ reverse xs ++ x ∷ []
back_first x xs = reverse-append (x ∷ []) xs

joined : (xs ys : Answers) (x : ℕ × List ℕ) → (IsAmong xs x ⊎ IsAmong ys x) → IsAmong (xs ++ ys) x
joined [] ys x (inl h) = absurd h
joined [] ys x (inr h) = h
joined (y ∷ xs) ys x (inl (inl e)) = inl e
joined (y ∷ xs) ys x (inl (inr h)) = inr (joined xs ys x (inl h))
joined (y ∷ xs) ys x (inr h) = inr (joined xs ys x (inr h))

among_back : (xs : Answers) (x : ℕ × List ℕ) → IsAmong xs x → IsAmong (reverse xs) x
among_back [] x h = absurd h
among_back (y ∷ ys) x (inl e) = subst (λ l. IsAmong l x) (sym (back_first y ys)) (joined (reverse ys) (y ∷ []) x (inr (inl e)))
among_back (y ∷ ys) x (inr h) = subst (λ l. IsAmong l x) (sym (back_first y ys)) (joined (reverse ys) (y ∷ []) x (inl (among_back ys x h)))

back_among : (xs : Answers) (x : ℕ × List ℕ) → IsAmong (reverse xs) x → IsAmong xs x
back_among [] x h = h
back_among (y ∷ ys) x h = elim (among_split (ℕ × List ℕ) (reverse ys) (y ∷ []) x (subst (λ l. IsAmong l x) (back_first y ys) h)) [
  | inl k ↦ inr (back_among ys x k)
  | inr k ↦ last k
]
  where
    last : IsAmong (y ∷ []) x → IsAmong (y ∷ ys) x
    last (inl e) = inl e
    last (inr k) = absurd k

-- an event has an answer just where some answer is of it
event_among : (xs : Answers) (event : ℕ) → IsAmong (events_answered xs) event → (bytes : List ℕ) × IsAmong xs (event, bytes)
event_among [] event h = absurd h
event_among (y ∷ ys) event (inl e) = (y.1, inl (ap (λ n. pair n y.1) e))
event_among (y ∷ ys) event (inr h) =
    let w = event_among ys event h in
    (w.0, inr w.1)

among_event : (xs : Answers) (event : ℕ) (bytes : List ℕ) → IsAmong xs (event, bytes) → IsAmong (events_answered xs) event
among_event [] event bytes h = absurd h
among_event (y ∷ ys) event bytes (inl e) = inl (ap (λ z. z.0) e)
among_event (y ∷ ys) event bytes (inr h) = inr (among_event ys event bytes h)

-- an answer among others stands at an index, and one at an index is among them
index_among : (xs : Answers) (event : ℕ) (bytes : List ℕ) → IsAmong xs (event, bytes) → (at : ℕ) × (event_at xs at ≡ Some event) × ((answer_in xs at).1 ≡ bytes)
index_among [] event bytes h = absurd h
index_among (y ∷ ys) event bytes (inl e) = (0, ap (λ z. first z) e, ap (λ z. z.1) e)
  where
    first : ℕ × List ℕ → Option ℕ
    first z = Some z.0
index_among (y ∷ ys) event bytes (inr h) =
    let w = index_among ys event bytes h in
    (suc w.0, w.1, w.2)

among_index : (xs : Answers) (at event : ℕ) → event_at xs at ≡ Some event → IsAmong xs (event, (answer_in xs at).1)
among_index [] at event e = absurd (cc)
among_index (y ∷ ys) zero event e = inl (ap (λ n. pair n y.1) (some_number y.0 event e))
among_index (y ∷ ys) (suc at) event e = inr (among_index ys at event e)

-- the answer of an event of which there is one alone
answer_is : (xs : Answers) (event : ℕ) (bytes : List ℕ) → IsAmong xs (event, bytes) → ((other : List ℕ) → IsAmong xs (event, other) → other ≡ bytes) → answer_at xs event ≡ bytes
answer_is [] event bytes h one = absurd h
answer_is (y ∷ ys) event bytes h one = elim (cases_eq y.0 event) [
  | inl is ↦ if_same (List ℕ) y.0 event y.1 (answer_at ys event) is ∙ one y.1 (inl (ap (λ n. pair n y.1) is))
  | inr ne ↦ if_other (List ℕ) y.0 event y.1 (answer_at ys event) ne ∙ answer_is ys event bytes (later ne h) (λ other k. one other (inr k))
]
  where
    later : (y.0 ≡ event → ⊥) → IsAmong (y ∷ ys) (event, bytes) → IsAmong ys (event, bytes)
    later ne (inl e) = absurd (ne (ap (λ z. z.0) e))
    later ne (inr k) = k

no_answer : (xs : Answers) (event : ℕ) → (IsAmong (events_answered xs) event → ⊥) → answer_at xs event ≡ []
no_answer [] event no_one = refl
no_answer (y ∷ ys) event no_one =
    if_other (List ℕ) y.0 event y.1 (answer_at ys event) (λ e. no_one (inl e)) ∙ no_answer ys event (λ h. no_one (inr h))

-- ---- the answers of an index

after_all : (answers : Answers) (number : ℕ) (index : List (ℕ × ℕ)) → RisesFrom (suc number) index → AllAfter number (answers_by answers index)
after_all answers number [] rises = tt
after_all answers number (x ∷ xs) rises = (omega (arith, rises.0), after_all answers number xs (lower rises))
  where
    lower : RisesFrom (suc number) (x ∷ xs) → RisesFrom (suc number) xs
    lower r = from_lower (suc number) (suc x.0) xs (omega (arith, r.0)) r.1
      where
        from_lower : (a b : ℕ) (ys : List (ℕ × ℕ)) → a ≤ b → RisesFrom b ys → RisesFrom a ys
        from_lower a b [] le s = tt
        from_lower a b (y ∷ ys) le s = (omega (arith, le, s.0), s.1)

pub by_event_rise : (answers : Answers) (first : ℕ) (index : List (ℕ × ℕ)) → RisesFrom first index → IsRising (answers_by answers index)
by_event_rise answers first [] rises = tt
by_event_rise answers first (x ∷ xs) rises = (after_all answers x.0 xs rises.1, by_event_rise answers (suc x.0) xs rises.1)

found_among : (answers : Answers) (index : List (ℕ × ℕ)) (event at : ℕ) → find event index ≡ Some at → IsAmong (answers_by answers index) (event, (answer_in answers at).1)
found_among answers [] event at e = absurd (cc)
found_among answers (x ∷ xs) event at e = elim (cases_eq x.0 event) [
  | inl is ↦
      let same : x.1 ≡ at = some_number x.1 at (sym (if_same (Option ℕ) x.0 event (Some x.1) (find event xs) is) ∙ e) in
      inl (ap (λ n. pair n (answer_in answers x.1).1) is ∙ ap (λ k. pair event (answer_in answers k).1) same)
  | inr ne ↦ inr (found_among answers xs event at (sym (if_other (Option ℕ) x.0 event (Some x.1) (find event xs) ne) ∙ e))
]

among_found : (answers : Answers) (first : ℕ) (index : List (ℕ × ℕ)) (event : ℕ) (bytes : List ℕ) → RisesFrom first index → IsAmong (answers_by answers index) (event, bytes) → (first ≤ event) × ((at : ℕ) × (find event index ≡ Some at) × ((answer_in answers at).1 ≡ bytes))
among_found answers first [] event bytes rises h = absurd h
among_found answers first (x ∷ xs) event bytes rises (inl e) =
    let is : x.0 ≡ event = ap (λ z. z.0) e in
    (subst (λ n. first ≤ n) is rises.0, (x.1, if_same (Option ℕ) x.0 event (Some x.1) (find event xs) is, ap (λ z. z.1) e))
among_found answers first (x ∷ xs) event bytes rises (inr h) =
    let w = among_found answers (suc x.0) xs event bytes rises.1 h in
    let later : suc x.0 ≤ event = w.0 in
    (omega (arith, rises.0, later), (w.1.0, if_other (Option ℕ) x.0 event (Some x.1) (find event xs) (λ e. omega (arith, e, later)) ∙ w.1.1, w.1.2))

some_or_none : (o : Option ℕ) → ((at : ℕ) × (o ≡ Some at)) ⊎ (o ≡ None)
some_or_none None = inr refl
some_or_none (Some at) = inl (at, refl)

module _ (book : SessionBook) (kept : IsKept book) where
  abbrev answers : Answers
  answers = book.answers.items

  abbrev index : List (ℕ × ℕ)
  index = book.indexed.entries

  -- an event has an answer just where the index has it
  answered_found : (event : ℕ) → IsAmong (events_answered (reverse answers)) event → (at : ℕ) × (find event index ≡ Some at)
  answered_found event h =
      let w = event_among (reverse answers) event h in
      let i = index_among answers event w.0 (back_among answers (event, w.0) w.1) in
      (i.0, (kept.indexed event i.0).1 i.1)

  found_answered : (event at : ℕ) → find event index ≡ Some at → IsAmong (reverse answers) (event, (answer_in answers at).1)
  found_answered event at e =
      among_back answers (event, (answer_in answers at).1) (among_index answers at event ((kept.indexed event at).0 e))

  pub unanswered_free : (event : ℕ) → IsUnanswered book event → find event index ≡ None
  unanswered_free event none = elim (some_or_none (find event index)) [
    | inl w ↦ absurd (none (contains_among ℕ (events_answered (reverse answers)) event (among_event (reverse answers) event (answer_in answers w.0).1 (found_answered event w.0 w.1))))
    | inr e ↦ e
  ]

  one_only : (event at : ℕ) → find event index ≡ Some at → (other : List ℕ) → IsAmong (reverse answers) (event, other) → other ≡ (answer_in answers at).1
  one_only event at e other h =
      let i = index_among answers event other (back_among answers (event, other) h) in
      let same : i.0 ≡ at = some_number i.0 at (sym ((kept.indexed event i.0).1 i.1) ∙ e) in
      sym i.2 ∙ ap (λ k. (answer_in answers k).1) same

  module _ (rises : RisesFrom 0 index) where
    one_found : (event at : ℕ) → find event index ≡ Some at → (other : List ℕ) → IsAmong (answers_by answers index) (event, other) → other ≡ (answer_in answers at).1
    one_found event at e other h =
        let w = among_found answers 0 index event other rises h in
        let same : w.1.0 ≡ at = some_number w.1.0 at (sym w.1.1 ∙ e) in
        sym w.1.2 ∙ ap (λ k. (answer_in answers k).1) same

    found_in : (event : ℕ) → IsAmong (events_answered (answers_by answers index)) event → (at : ℕ) × (find event index ≡ Some at)
    found_in event h =
        let w = event_among (answers_by answers index) event h in
        let f = among_found answers 0 index event w.0 rises w.1 in
        (f.1.0, f.1.1)

    same_answer : (event : ℕ) → answer_at (answers_by answers index) event ≡ answer_at (reverse answers) event
    same_answer event = elim (some_or_none (find event index)) [
      | inl w ↦
          answer_is (answers_by answers index) event (answer_in answers w.0).1 (found_among answers index event w.0 w.1) (one_found event w.0 w.1)
          ∙ sym (answer_is (reverse answers) event (answer_in answers w.0).1 (found_answered event w.0 w.1) (one_only event w.0 w.1))
      | inr e ↦
          no_answer (answers_by answers index) event (λ h. none_found (find event index) (found_in event h).0 e (found_in event h).1)
          ∙ sym (no_answer (reverse answers) event (λ h. none_found (find event index) (answered_found event h).0 e (answered_found event h).1))
    ]

    pub by_event : AreByEvent (answers_of book) (answers_by answers index)
    by_event = record {
      rise = by_event_rise answers 0 index rises;
      events = λ event. (
        λ h.
            let w = found_in event (among_contains ℕ (events_answered (answers_by answers index)) event h) in
            contains_among ℕ (events_answered (reverse answers)) event (among_event (reverse answers) event (answer_in answers w.0).1 (found_answered event w.0 w.1)),
        λ h.
            let w = answered_found event (among_contains ℕ (events_answered (reverse answers)) event h) in
            contains_among ℕ (events_answered (answers_by answers index)) event (among_event (answers_by answers index) event (answer_in answers w.0).1 (found_among answers index event w.0 w.1)),
      );
      same = same_answer;
    }
