-- The sessions of a made job can be run: they are sized, light, and break no rule of the places.
use Rattle.std.proofs.Common.{◌≡◌, ◌≤◌, ◌<◌, ◌+◌, ◌%◌, ℕ, zero, suc, true, List, [], ◌∷◌, ◌++◌, map, slice_get, Option, None, Some, Result, Err, refl, sym, ap, subst, arith, add-one}
use Rattle.std.specs.List.{AllByRecursion}
use Rattle.phrase_tree.specs.Term.{Term, is_branch, term}
use Rattle.phrase_tree.specs.Numbering.{IsSized}
use Rattle.phrase_tree.specs.Events.{events_of}
use Rattle.evidence_types.specs.declared.measure.Measure.{Measure}
use Rattle.evidence_types.specs.declared.measure.Measure.TheVariants.{Weight, Nest}
use Rattle.evidence_types.specs.Measure.{count_after, IsLight, oversize_at, limit, of_nonce, StaysWithin}
use Rattle.session_model.specs.Session.{Session}
use Rattle.place_check.specs.declared.entry.PlaceEntry.{PlaceEntry}
use Rattle.place_check.specs.declared.entry.PlaceFault.{PlaceFault}
use Rattle.place_check.specs.declared.entry.PlaceFault.TheVariants.{Misplaced, Oversize}
use Rattle.place_check.specs.Checks.{Checks}
use Rattle.place_check.specs.Rules.{faults, first}
use Rattle.place_check.specs.Session.{CheckedSession, IsBounded, IsCheckedAgainst, session_of}
use Rattle.load_maker.specs.Names.{place_name}
use Rattle.load_maker.specs.Phrases.{drawn_phrase, signs}
use Rattle.load_maker.specs.Places.{made_places}
use Rattle.load_maker.specs.Sessions.{both, four_arms, made_nonce, made_session, made_sessions}
use Rattle.load_maker.proofs.MeasureLemmas.{count_below, light, most, stays_within}
use Rattle.load_maker.proofs.PhraseLemmas.{few_events, IsWithin, one_at_most, phrase_within, shallow}
use Rattle.load_maker.proofs.PlaceLemmas.{each_is_place}
use Rattle.load_maker.proofs.PlacedLemmas.{AreFine, arms_fine, no_faults, phrase_fine}

-- four phrases of depth 3
record AreFour (a b c d : Term) : Type 0 where
  pub first : IsWithin 3 a
  pub second : IsWithin 3 b
  pub third : IsWithin 3 c
  pub fourth : IsWithin 3 d

abbrev whole : Term → Term → Term → Term → Term
whole a b c d = both a (both b (both c d))

four_sized : (a b c d : Term) → AreFour a b c d → IsSized (whole a b c d)
four_sized a b c d w = record {
  events = omega (arith, few_events 3 a w.first, few_events 3 b w.second, few_events 3 c w.third, few_events 3 d w.fourth);
  nesting = omega (arith, shallow 3 a w.first, shallow 3 b w.second, shallow 3 c w.third, shallow 3 d w.fourth, one_at_most (is_branch a), one_at_most (is_branch b), one_at_most (is_branch c), one_at_most (is_branch d));
}

most_weight : most Weight 3 17 ≡ 31217
unfolding most
most_weight = refl

most_nest : most Nest 3 1 ≡ 9
unfolding most
most_nest = refl

arm_weight : (a : Term) → IsWithin 3 a → count_after Weight a 17 ≤ 31217
arm_weight a w = let top : count_after Weight a 17 ≤ most Weight 3 17 = count_below Weight 3 a 17 17 w (omega arith) (omega arith) in omega (arith, top, most_weight)

arm_nest : (a : Term) → IsWithin 3 a → count_after Nest a 1 ≤ 9
arm_nest a w = let top : count_after Nest a 1 ≤ most Nest 3 1 = count_below Nest 3 a 1 1 w (omega arith) (omega arith) in omega (arith, top, most_nest)

arm_stays : (m : Measure) (a : Term) → IsWithin 3 a → most m 3 (of_nonce m) ≤ limit m → 1 ≤ of_nonce m → StaysWithin m a (of_nonce m)
arm_stays m a w few one = stays_within m 3 a (of_nonce m) (of_nonce m) w (omega arith) one few

four_light_by_weight : (a b c d : Term) → AreFour a b c d → StaysWithin Weight (whole a b c d) 17
four_light_by_weight a b c d w =
    let few : most Weight 3 17 ≤ 262144 = omega (arith, most_weight) in
    let x = arm_weight a w.first in
    let y = arm_weight b w.second in
    let z = arm_weight c w.third in
    let v = arm_weight d w.fourth in
    (arm_stays Weight a w.first few (omega arith), (arm_stays Weight b w.second few (omega arith), (arm_stays Weight c w.third few (omega arith), arm_stays Weight d w.fourth few (omega arith), omega arith), omega arith), omega arith)

four_light_by_nest : (a b c d : Term) → AreFour a b c d → StaysWithin Nest (whole a b c d) 1
four_light_by_nest a b c d w =
    let few : most Nest 3 1 ≤ 1025 = omega (arith, most_nest) in
    let x = arm_nest a w.first in
    let y = arm_nest b w.second in
    let z = arm_nest c w.third in
    let v = arm_nest d w.fourth in
    (arm_stays Nest a w.first few (omega arith), (arm_stays Nest b w.second few (omega arith), (arm_stays Nest c w.third few (omega arith), arm_stays Nest d w.fourth few (omega arith), omega arith), omega arith), omega arith)

four_light : (a b c d : Term) → AreFour a b c d → IsLight (whole a b c d)
four_light a b c d w = light (whole a b c d) (four_light_by_weight a b c d w) (four_light_by_nest a b c d w)

four_fine : (a b c d : Term) → AreFour a b c d → (k number : ℕ) → k < 8 → AreFine (events_of (whole a b c d) (place_name k) number)
four_fine a b c d w =
    arms_fine (signs true true) a (both b (both c d)) (λ k number few. phrase_fine 3 a k number few w.first)
    (arms_fine (signs true true) b (both c d) (λ k number few. phrase_fine 3 b k number few w.second)
    (arms_fine (signs true true) c d (λ k number few. phrase_fine 3 c k number few w.third) (λ k number few. phrase_fine 3 d k number few w.fourth)))

-- what a phrase of a made session needs to be run
pub record CanRun (phrase : Term) : Type 0 where
  pub sized : IsSized phrase
  pub light : IsLight phrase
  pub placed : (k : ℕ) → k < 8 → faults made_places (place_name k) phrase ≡ []

four_run : (a b c d : Term) → AreFour a b c d → CanRun (whole a b c d)
four_run a b c d w = record {
  sized = four_sized a b c d w;
  light = four_light a b c d w;
  placed = λ k few. no_faults (events_of (whole a b c d) (place_name k) 0) (four_fine a b c d w k 0 few);
}

pub arms_run : (from : Option ℕ) → CanRun (four_arms from).thing
unfolding four_arms
arms_run from =
    let first = drawn_phrase 3 from in
    let second = drawn_phrase 3 first.from in
    let third = drawn_phrase 3 second.from in
    let fourth = drawn_phrase 3 third.from in
    four_run first.thing second.thing third.thing fourth.thing (record { first = phrase_within 3 from; second = phrase_within 3 first.from; third = phrase_within 3 second.from; fourth = phrase_within 3 third.from })

-- the phrase of a session, from what its parts are
pub four_made : (first from_a from_b from_c from_d : Option ℕ) (a b c d last behind : Term) → a ≡ (drawn_phrase 3 first).thing → from_a ≡ (drawn_phrase 3 first).from → b ≡ (drawn_phrase 3 from_a).thing → from_b ≡ (drawn_phrase 3 from_a).from → c ≡ (drawn_phrase 3 from_b).thing → from_c ≡ (drawn_phrase 3 from_b).from → d ≡ (drawn_phrase 3 from_c).thing → from_d ≡ (drawn_phrase 3 from_c).from → last ≡ both c d → behind ≡ both b last → (both a behind ≡ (four_arms first).thing) × (from_d ≡ (four_arms first).from)
unfolding four_arms
four_made first from_a from_b from_c from_d a b c d last behind is_a is_from_a is_b is_from_b is_c is_from_c is_d is_from_d is_last is_behind =
    rw (is_behind, is_last, is_d, is_from_d, is_c, is_from_c, is_b, is_from_b, is_a, is_from_a) (refl, refl)

-- a session can be run, as the code has it
pub can_run : (places : List PlaceEntry) (root : List ℕ) (phrase : Term) (k : ℕ) (from : Option ℕ) → places ≡ made_places → root ≡ place_name k → k < 8 → phrase ≡ (four_arms from).thing → (faults places root phrase ≡ []) × IsLight phrase × IsSized phrase
can_run places root phrase k from h g few e =
    let can = arms_run from in
    let P : List PlaceEntry → List ℕ → Term → Type 0 = λ list name one. (faults list name one ≡ []) × IsLight one × IsSized one in
    subst (λ list. P list root phrase) (sym h) (subst (λ name. P made_places name phrase) (sym g) (subst (λ one. P made_places (place_name k) one) (sym e) (can.placed k few, can.light, can.sized)))

pub never_refused : (places : List PlaceEntry) (session : Session) (answer : Result CheckedSession PlaceFault) (fault : PlaceFault) → Checks places session answer → answer ≡ Err fault → faults places session.root session.phrase ≡ [] → IsLight session.phrase → ⊥
never_refused places session answer fault checks is placed weighed = by_fault fault (subst (λ outcome. Checks places session outcome) is checks) placed weighed
  where
    by_fault : (one : PlaceFault) → Checks places session (Err one) → faults places session.root session.phrase ≡ [] → IsLight session.phrase → ⊥
    by_fault (Misplaced event kind) h none small =
        let found : first (faults places session.root session.phrase) ≡ Some (event, kind) = h in
        let lost = ap (λ list. first list) none in
        absurd cc
    by_fault (Oversize event) h none small =
        let found : oversize_at session.phrase ≡ Some event = h.1 in
        let lost : oversize_at session.phrase ≡ None = small in
        absurd cc

-- a session, from what its parts are
pub session_made : (number index : ℕ) (from later : Option ℕ) (root nonce : List ℕ) (phrase : Term) → root ≡ place_name (index % 8) → nonce ≡ made_nonce number index → phrase ≡ (four_arms from).thing → later ≡ (four_arms from).from → (record { root = root; nonce = nonce; phrase = phrase } ≡ (made_session number index from).thing) × (later ≡ (made_session number index from).from)
unfolding made_session
session_made number index from later root nonce phrase h g e f = rw (h, g, e, f) (refl, refl)

pub map_more : {A B : Type 0} (f : A → B) (items : List A) (last : A) → map f (items ++ last ∷ []) ≡ map f items ++ f last ∷ []
map_more f [] last = refl
map_more f (item ∷ items) last = ap (λ list. f item ∷ list) (map_more f items last)

-- one more session
pub sessions_none : (number : ℕ) (from : Option ℕ) → ([] ≡ (made_sessions number 0 from).thing) × (from ≡ (made_sessions number 0 from).from)
unfolding made_sessions
sessions_none number from = (refl, refl)

pub sessions_more : (number n : ℕ) (first : Option ℕ) (sessions : List Session) (from : Option ℕ) → sessions ≡ (made_sessions number n first).thing → from ≡ (made_sessions number n first).from → (sessions ++ (made_session number n from).thing ∷ [] ≡ (made_sessions number (n + 1) first).thing) × ((made_session number n from).from ≡ (made_sessions number (n + 1) first).from)
unfolding made_sessions
sessions_more number n first sessions from h g = rw (add-one, h, g) (refl, refl)

-- a session that can be run over the places of a made job
pub record IsRunnable (session : Session) : Type 0 where
  pub checked : IsCheckedAgainst session made_places
  pub bounded : IsBounded session.phrase

session_runs : (number index : ℕ) (from : Option ℕ) → IsRunnable (made_session number index from).thing
unfolding made_session
session_runs number index from =
    let can = arms_run from in
    record {
      checked = record { rooted = each_is_place (index % 8) (omega arith); placed = can.placed (index % 8) (omega arith) };
      bounded = record { sized = can.sized; light = can.light };
    }

runnable_more : (sessions : List Session) (last : Session) → AllByRecursion IsRunnable sessions → IsRunnable last → AllByRecursion IsRunnable (sessions ++ last ∷ [])
runnable_more [] last h g = (g, tt)
runnable_more (session ∷ rest) last h g = (h.0, runnable_more rest last h.1 g)

sessions_run : (number n : ℕ) (from : Option ℕ) → AllByRecursion IsRunnable (made_sessions number n from).thing
unfolding made_sessions
sessions_run number zero from = tt
sessions_run number (suc n) from =
    let before = made_sessions number n from in
    runnable_more before.thing (made_session number n before.from).thing (sessions_run number n from) (session_runs number n before.from)

runnable_at : (sessions : List CheckedSession) (index : ℕ) (checked : CheckedSession) → AllByRecursion IsRunnable (map session_of sessions) → slice_get sessions index ≡ Some checked → IsRunnable (session_of checked)
runnable_at [] index checked h e = absurd cc
runnable_at (session ∷ rest) zero checked h e = let same : session ≡ checked = cc in subst (λ one. IsRunnable (session_of one)) same h.0
runnable_at (session ∷ rest) (suc index) checked h e = runnable_at rest index checked h.1 e

-- each session that the code has is checked against the places
pub each_runs : (number : ℕ) (from : Option ℕ) (sessions : List CheckedSession) → map session_of sessions ≡ (made_sessions number 256 from).thing → (index : ℕ) (checked : CheckedSession) → slice_get sessions index ≡ Some checked → IsCheckedAgainst (session_of checked) made_places × IsBounded (term checked.phrase)
each_runs number from sessions same index checked e =
    let runs = runnable_at sessions index checked (subst (λ list. AllByRecursion IsRunnable list) (sym same) (sessions_run number 256 from)) e in
    (runs.checked, runs.bounded)
