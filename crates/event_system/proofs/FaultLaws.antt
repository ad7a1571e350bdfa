-- The first fault of a list of numbers is one only, and there is none exactly where it is a trace.
use Rattle.std.proofs.Common.{◌≡◌, ℕ, ◌≤◌, ◌<◌, inl, inr, refl, sym, ap, ◌∙◌, subst, List, length, take, Option, Some, None, arith, length-take-le}
use Rattle.std.specs.Prelude.{Contains, slice_index, MatchOption, ◌↔◌, IsNone}
use Rattle.std.proofs.lemmas.Bool.{cases_lt}
use Rattle.phrase_tree.specs.Term.{Term}
use Rattle.event_system.specs.declared.fault.TraceFault.{TraceFault}
use Rattle.event_system.specs.declared.fault.TraceFault.TheVariants.{Strange, Repeated, Early, Missing}
use Rattle.event_system.specs.Order.{IsEvent, IsBefore}
use Rattle.event_system.specs.Trace.{MayFollow, IsTraceSoFar, IsTrace}
use Rattle.phrase_tree.specs.declared.phrase.TheConstants.{EVENTS}
use Rattle.phrase_tree.specs.Numbering.{event_count, IsSized}
use Rattle.event_system.specs.declared.direct.Needs.{Needs}
use Rattle.event_system.specs.Needs.{Names, AreNeeds}
use Rattle.event_system.specs.Lacking.{LacksNeed}
use Rattle.event_system.specs.Fault.{StandsBehind, IsStrange, IsRepeated, IsEarly, IsFirstFault}
use Rattle.event_system.proofs.TraceLaws.{up_to_from, so_far_short, ready_from}

-- a position whose number may not follow those ahead of it, which are a trace so far
record IsBad (phrase : Term) (i : ℕ) (trace : List ℕ) (position : ℕ) : Type 0 where
  behind : StandsBehind phrase i trace position
  may_not : ¬ MayFollow phrase i (take position trace) (slice_index trace position)

bad_strange : (phrase : Term) (i : ℕ) (trace : List ℕ) (p : ℕ) → IsStrange phrase i trace p → IsBad phrase i trace p
bad_strange phrase i trace p f = record { behind = f.behind; may_not = λ m. f.strange m.event }

bad_repeated : (phrase : Term) (i : ℕ) (trace : List ℕ) (p : ℕ) → IsRepeated phrase i trace p → IsBad phrase i trace p
bad_repeated phrase i trace p f = record { behind = f.behind; may_not = λ m. m.once f.stood }

bad_early : (phrase : Term) (i : ℕ) (trace : List ℕ) (p n needs : ℕ) → IsEarly phrase i trace p n needs → IsBad phrase i trace p
bad_early phrase i trace p n needs f = record {
  behind = f.behind;
  may_not = λ m. f.lacking (subst (λ y. (x : ℕ) → IsBefore phrase i x y → Contains (take p trace) x) (sym f.there) m.ready needs f.direct.before);
}

-- no two positions are the first that is bad
not_ahead : (phrase : Term) (i : ℕ) (trace : List ℕ) (p q : ℕ) → IsBad phrase i trace p → IsBad phrase i trace q → p < q → ⊥
not_ahead phrase i trace p q a b lt =
    let le : q ≤ length trace = omega (arith, b.behind.within) in
    a.may_not ((up_to_from phrase i trace q le b.behind.so_far).each p lt)

same_position : (phrase : Term) (i : ℕ) (trace : List ℕ) (p q : ℕ) → IsBad phrase i trace p → IsBad phrase i trace q → p ≡ q
same_position phrase i trace p q a b =
    elim (cases_lt p q) [
      | inl lt ↦ absurd (not_ahead phrase i trace p q a b lt)
      | inr ge ↦ elim (cases_lt q p) [
        | inl lt ↦ absurd (not_ahead phrase i trace q p b a lt)
        | inr ge' ↦ omega arith
      ]
    ]

not_so_far : (phrase : Term) (i : ℕ) (trace : List ℕ) (p : ℕ) → IsBad phrase i trace p → IsTraceSoFar phrase i trace → ⊥
not_so_far phrase i trace p a s = a.may_not (s.each p a.behind.within)

-- at one position the least predecessor that is lacking is one only
early_once : (phrase : Term) (i : ℕ) (trace : List ℕ) (p q m n needed needs : ℕ) → p ≡ q → m ≡ n → IsEarly phrase i trace p m needed → IsEarly phrase i trace q n needs → ◌≡◌ {A = TraceFault} (Early p m needed) (Early q n needs)
early_once phrase i trace p q m n needed needs e same f g =
    let h = subst (λ k. IsEarly phrase i trace k n needs) (sym e) g in
    let k = subst (λ y. IsEarly phrase i trace p y needs) (sym same) h in
    let low : needed ≤ needs = f.least needs k.direct k.lacking in
    let high : needs ≤ needed = k.least needed f.direct f.lacking in
    let is : needed ≡ needs = omega arith in
    cc

-- the first fault is one only
pub fault_once : (phrase : Term) (i : ℕ) (trace : List ℕ) (f g : TraceFault) → IsFirstFault phrase i trace f → IsFirstFault phrase i trace g → f ≡ g
fault_once phrase i trace (Strange p) (Strange q) f g =
    ap Strange (same_position phrase i trace p q (bad_strange phrase i trace p f) (bad_strange phrase i trace q g))
fault_once phrase i trace (Strange p) (Repeated q) f g =
    let e = same_position phrase i trace p q (bad_strange phrase i trace p f) (bad_repeated phrase i trace q g) in
    absurd (f.strange (subst (λ n. IsEvent phrase i (slice_index trace n)) (sym e) g.event))
fault_once phrase i trace (Strange p) (Early q n needs) f g =
    let e = same_position phrase i trace p q (bad_strange phrase i trace p f) (bad_early phrase i trace q n needs g) in
    absurd (f.strange (subst (λ m. IsEvent phrase i (slice_index trace m)) (sym e) (subst (λ m. IsEvent phrase i m) g.there g.event)))
fault_once phrase i trace (Strange p) (Missing n) f g = absurd (not_so_far phrase i trace p (bad_strange phrase i trace p f) g.so_far)
fault_once phrase i trace (Repeated p) (Strange q) f g =
    let e = same_position phrase i trace p q (bad_repeated phrase i trace p f) (bad_strange phrase i trace q g) in
    absurd (g.strange (subst (λ n. IsEvent phrase i (slice_index trace n)) e f.event))
fault_once phrase i trace (Repeated p) (Repeated q) f g =
    ap Repeated (same_position phrase i trace p q (bad_repeated phrase i trace p f) (bad_repeated phrase i trace q g))
fault_once phrase i trace (Repeated p) (Early q n needs) f g =
    let e = same_position phrase i trace p q (bad_repeated phrase i trace p f) (bad_early phrase i trace q n needs g) in
    absurd (g.once (subst (λ m. Contains (take q trace) m) (sym g.there) (subst (λ m. Contains (take m trace) (slice_index trace m)) e f.stood)))
fault_once phrase i trace (Repeated p) (Missing n) f g = absurd (not_so_far phrase i trace p (bad_repeated phrase i trace p f) g.so_far)
fault_once phrase i trace (Early p m needed) (Strange q) f g =
    let e = same_position phrase i trace p q (bad_early phrase i trace p m needed f) (bad_strange phrase i trace q g) in
    absurd (g.strange (subst (λ n. IsEvent phrase i (slice_index trace n)) e (subst (λ n. IsEvent phrase i n) f.there f.event)))
fault_once phrase i trace (Early p m needed) (Repeated q) f g =
    let e = same_position phrase i trace p q (bad_early phrase i trace p m needed f) (bad_repeated phrase i trace q g) in
    absurd (f.once (subst (λ n. Contains (take p trace) n) (sym f.there) (subst (λ n. Contains (take n trace) (slice_index trace n)) (sym e) g.stood)))
fault_once phrase i trace (Early p m needed) (Early q n needs) f g =
    let e = same_position phrase i trace p q (bad_early phrase i trace p m needed f) (bad_early phrase i trace q n needs g) in
    let same : m ≡ n = f.there ∙ (ap (λ k. slice_index trace k) e ∙ sym g.there) in
    early_once phrase i trace p q m n needed needs e same f g
fault_once phrase i trace (Early p m needed) (Missing n) f g = absurd (not_so_far phrase i trace p (bad_early phrase i trace p m needed f) g.so_far)
fault_once phrase i trace (Missing n) (Strange q) f g = absurd (not_so_far phrase i trace q (bad_strange phrase i trace q g) f.so_far)
fault_once phrase i trace (Missing n) (Repeated q) f g = absurd (not_so_far phrase i trace q (bad_repeated phrase i trace q g) f.so_far)
fault_once phrase i trace (Missing n) (Early q m needed) f g = absurd (not_so_far phrase i trace q (bad_early phrase i trace q m needed g) f.so_far)
fault_once phrase i trace (Missing m) (Missing n) f g =
    let low : m ≤ n = f.least n g.event g.lacking in
    let high : n ≤ m = g.least m f.event f.lacking in
    let e : m ≡ n = omega arith in
    ap Missing e

-- a trace has no fault
pub trace_sound : (phrase : Term) (i : ℕ) (trace : List ℕ) (f : TraceFault) → IsTrace phrase i trace → IsFirstFault phrase i trace f → ⊥
trace_sound phrase i trace (Strange p) t f = not_so_far phrase i trace p (bad_strange phrase i trace p f) t.so_far
trace_sound phrase i trace (Repeated p) t f = not_so_far phrase i trace p (bad_repeated phrase i trace p f) t.so_far
trace_sound phrase i trace (Early p n needs) t f = not_so_far phrase i trace p (bad_early phrase i trace p n needs f) t.so_far
trace_sound phrase i trace (Missing n) t f = f.lacking (t.whole n f.event)

-- an answer that is a fault or none is the exact one
pub exact_fault : (phrase : Term) (i : ℕ) (trace : List ℕ) (r : Option TraceFault) → MatchOption r (IsTrace phrase i trace) (λ f. IsFirstFault phrase i trace f) → (f : TraceFault) → (r ≡ Some f) ↔ IsFirstFault phrase i trace f
exact_fault phrase i trace None h f = (λ e. absurd (cc), λ k. absurd (trace_sound phrase i trace f h k))
exact_fault phrase i trace (Some g) h f =
    (λ e. let is : g ≡ f = cc in subst (λ a. IsFirstFault phrase i trace a) is h, λ k. ap (λ a. Some a) (fault_once phrase i trace g f h k))

pub exact_none : (phrase : Term) (i : ℕ) (trace : List ℕ) (r : Option TraceFault) → MatchOption r (IsTrace phrase i trace) (λ f. IsFirstFault phrase i trace f) → IsNone r ↔ IsTrace phrase i trace
exact_none phrase i trace None h = (λ e. h, λ k. refl)
exact_none phrase i trace (Some g) h = (λ e. absurd (cc), λ k. absurd (trace_sound phrase i trace g k h))

-- the position of a fault is below the bound on the events
pub position_fits : (phrase : Term) (trace : List ℕ) (position : ℕ) → IsSized phrase → StandsBehind phrase 0 trace position → position ≤ EVENTS
position_fits phrase trace position sized behind =
    omega (arith, so_far_short phrase (take position trace) behind.so_far, length-take-le position trace (omega (arith, behind.within)), sized.events)

-- behind all its direct predecessors a new event may follow
pub may_follow : (phrase : Term) (trace ahead : List ℕ) (position y : ℕ) (needs : Needs) → ahead ≡ take position trace → StandsBehind phrase 0 trace position → y < event_count phrase → ¬ Contains ahead y → AreNeeds phrase y needs → ((x : ℕ) → Names needs x → Contains ahead x) → MayFollow phrase 0 (take position trace) y
may_follow phrase trace ahead position y needs e behind below once are stood =
    let event : IsEvent phrase 0 y = record { from = omega arith; below = omega arith } in
    subst (λ xs. MayFollow phrase 0 xs y) e (record {
      event = event;
      once = once;
      ready = ready_from phrase 0 y ahead event (subst (λ xs. IsTraceSoFar phrase 0 xs) (sym e) behind.so_far) (λ x d. stood x ((are.each x).1 d));
    })

-- and behind only some of them it is early
pub is_early : (phrase : Term) (trace ahead : List ℕ) (position y x : ℕ) (needs : Needs) → ahead ≡ take position trace → StandsBehind phrase 0 trace position → y ≡ slice_index trace position → y < event_count phrase → ¬ Contains ahead y → AreNeeds phrase y needs → LacksNeed ahead needs x → IsEarly phrase 0 trace position y x
is_early phrase trace ahead position y x needs e behind there below once are lacks = record {
  behind = behind;
  there = there;
  event = record { from = omega arith; below = omega arith };
  once = subst (λ xs. ¬ Contains xs y) e once;
  direct = (are.each x).0 lacks.named;
  lacking = subst (λ xs. ¬ Contains xs x) e lacks.lacking;
  least = λ z d no. lacks.least z ((are.each z).1 d) (subst (λ xs. ¬ Contains xs z) (sym e) no);
}
