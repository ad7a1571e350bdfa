-- Records of one small session worked by hand: an edit of what a right record is is refused here.
use Rattle.std.proofs.Common.{◌≡◌, ◌<◌, ◌⊎◌, ℕ, zero, suc, List, [], ◌∷◌, true, Some, get_or, inl, inr, refl, sym, ap, subst, arith}
use Rattle.std.specs.Prelude.{Contains, slice_index_or, slice_index, take}
use Rattle.phrase_tree.specs.Term.{Term, usm, leaf, par}
use Rattle.evidence_types.specs.Bytes.{bundle}
use Rattle.bench_trait.specs.declared.ask.Ask.{Ask}
use Rattle.bench_trait.specs.declared.ask.AskKind.TheVariants.{Usm}
use Rattle.bench_trait.specs.declared.bench.BenchFault.{BenchFault}
use Rattle.bench_trait.specs.declared.bench.BenchFault.TheVariants.{NoArtefact}
use Rattle.event_system.specs.Order.{IsBefore}
use Rattle.event_system.specs.Trace.{MayFollow, IsTraceSoFar}
use Rattle.session_model.specs.Record.{done, failed, IsRisingRecord}
use Rattle.session_model.specs.RightRecord.{IsRightRecord}
use Rattle.session_model.specs.Session.{Session}
use Rattle.session_model.specs.Value.{session_value}

-- a split, the measurements a and b side by side, and a join: the events 0 to 3
abbrev fork : Term
fork = par (record { left = true; right = true }) (leaf (usm (record { name = 97 ∷ []; args = [] }))) (leaf (usm (record { name = 98 ∷ []; args = [] })))

abbrev session : Session
session = record { root = 113 ∷ []; nonce = []; phrase = fork }

-- each measurement answers its own name, and b may fail
abbrev Gives : Ask → List ℕ → Type 0
Gives ask answer = answer ≡ ask.asp.name

abbrev Fails : Ask → BenchFault → Type 0
Fails ask fault = (ask.event ≡ 2) × (fault ≡ NoArtefact)

abbrev answers : List (ℕ × List ℕ)
answers = (1, 97 ∷ []) ∷ (2, 98 ∷ []) ∷ []

abbrev bytes : List ℕ
bytes = bundle (session_value fork (113 ∷ []) (record { nonce = []; answers = answers; keys = [] }))

-- the session's question of an event, where a name of one byte is measured
abbrev question : ℕ → ℕ → Ask
question event name = record { nonce = []; event = event; place = 113 ∷ []; kind = Usm; asp = record { name = name ∷ []; args = [] } }

-- ---- what may follow what

before_arm : (arm x : ℕ) → arm < 3 → IsBefore fork 0 x arm → x ≡ 0
before_arm arm x l (inl opens) = opens.first
before_arm arm x l (inr (inl closes)) = let impossible : ⊥ = omega (arith, l, closes.last) in absurd impossible
before_arm arm x l (inr (inr (inl inside))) = absurd inside
before_arm arm x l (inr (inr (inr inside))) = absurd inside

-- the earlier event has the lesser number
earlier_is_less : (x y : ℕ) → IsBefore fork 0 x y → x < y
earlier_is_less x y (inl opens) = opens.later
earlier_is_less x y (inr (inl closes)) = closes.earlier
earlier_is_less x y (inr (inr (inl inside))) = absurd inside
earlier_is_less x y (inr (inr (inr inside))) = absurd inside

nothing_there : (n : ℕ) → ¬ Contains {X = ℕ} [] n
nothing_there n c = omega (arith, c.1)

split_there : (rest : List ℕ) (x : ℕ) → x ≡ 0 → Contains (0 ∷ rest) x
split_there rest x e = (0, omega arith, sym e)

split_follows : MayFollow fork 0 [] 0
split_follows = record {
  event = record { from = omega arith; below = omega arith };
  once = nothing_there 0;
  ready = λ x b. let less = earlier_is_less x 0 b in absurd (omega (arith, less));
}

-- an arm may follow where the split stands, and it doesn't
arm_follows : (ahead : List ℕ) (arm : ℕ) → 0 < arm → arm < 3 → Contains ahead 0 → ¬ Contains ahead arm → MayFollow fork 0 ahead arm
arm_follows ahead arm low high split once = record {
  event = record { from = omega arith; below = omega (arith, high) };
  once = once;
  ready = λ x b. subst (λ (n : ℕ). Contains ahead n) (sym (before_arm arm x high b)) split;
}

-- which numbers stand in short lists
of_one : (a n k : ℕ) → k < 1 → slice_index_or (a ∷ []) k n ≡ n → a ≡ n
of_one a n zero l is = is
of_one a n (suc k) l is = let impossible : ⊥ = omega (arith, l) in absurd impossible

of_two : (a b n k : ℕ) → k < 2 → slice_index_or (a ∷ b ∷ []) k n ≡ n → (a ≡ n) ⊎ (b ≡ n)
of_two a b n zero l is = inl is
of_two a b n (suc k) l is = inr (of_one b n k (omega (arith, l)) is)

of_three : (a b c n k : ℕ) → k < 3 → slice_index_or (a ∷ b ∷ c ∷ []) k n ≡ n → (a ≡ n) ⊎ ((b ≡ n) ⊎ (c ≡ n))
of_three a b c n zero l is = inl is
of_three a b c n (suc k) l is = inr (of_two b c n k (omega (arith, l)) is)

neither : (a b n : ℕ) → (a ≡ n → ⊥) → (b ≡ n → ⊥) → ¬ Contains (a ∷ b ∷ []) n
neither a b n apart beside c = elim (of_two a b n c.0 c.1 c.2) [
  | inl e ↦ apart e
  | inr e ↦ beside e
]

not_one : (a n : ℕ) → (a ≡ n → ⊥) → ¬ Contains (a ∷ []) n
not_one a n apart c = apart (of_one a n c.0 c.1 c.2)

-- the join may follow all three
all_three : (x : ℕ) → x < 3 → Contains {X = ℕ} (0 ∷ 2 ∷ 1 ∷ []) x
all_three zero l = (0, omega arith, refl)
all_three (suc zero) l = (2, omega arith, refl)
all_three (suc (suc zero)) l = (1, omega arith, refl)
all_three (suc (suc (suc n))) l = let impossible : ⊥ = omega (arith, l) in absurd impossible

no_join : ¬ Contains {X = ℕ} (0 ∷ 2 ∷ 1 ∷ []) 3
no_join c = elim (of_three 0 2 1 3 c.0 c.1 c.2) [
  | inl e ↦ omega (arith, e)
  | inr (inl e) ↦ omega (arith, e)
  | inr (inr e) ↦ omega (arith, e)
]

join_follows : MayFollow fork 0 (0 ∷ 2 ∷ 1 ∷ []) 3
join_follows = record {
  event = record { from = omega arith; below = omega arith };
  once = no_join;
  ready = λ x b. all_three x (earlier_is_less x 3 b);
}

-- ---- traces so far

split_first : IsTraceSoFar fork 0 (0 ∷ [])
split_first = record { each = each }
  where
    each : (k : ℕ) → k < 1 → MayFollow fork 0 (take k (0 ∷ [])) (slice_index (0 ∷ []) k)
    each zero l = split_follows
    each (suc k) l = absurd (omega arith)

left_first : IsTraceSoFar fork 0 (0 ∷ 1 ∷ [])
left_first = record { each = each }
  where
    each : (k : ℕ) → k < 2 → MayFollow fork 0 (take k (0 ∷ 1 ∷ [])) (slice_index (0 ∷ 1 ∷ []) k)
    each zero l = split_follows
    each (suc zero) l = arm_follows (0 ∷ []) 1 (omega arith) (omega arith) (split_there [] 0 refl) (not_one 0 1 (λ e. omega (arith, e)))
    each (suc (suc k)) l = absurd (omega arith)

-- the right arm's measurement, the left arm's, and the join
right_first : IsTraceSoFar fork 0 (0 ∷ 2 ∷ 1 ∷ 3 ∷ [])
right_first = record { each = each }
  where
    each : (k : ℕ) → k < 4 → MayFollow fork 0 (take k (0 ∷ 2 ∷ 1 ∷ 3 ∷ [])) (slice_index (0 ∷ 2 ∷ 1 ∷ 3 ∷ []) k)
    each zero l = split_follows
    each (suc zero) l = arm_follows (0 ∷ []) 2 (omega arith) (omega arith) (split_there [] 0 refl) (not_one 0 2 (λ e. omega (arith, e)))
    each (suc (suc zero)) l = arm_follows (0 ∷ 2 ∷ []) 1 (omega arith) (omega arith) (split_there (2 ∷ []) 0 refl) (neither 0 2 1 (λ e. omega (arith, e)) (λ e. omega (arith, e)))
    each (suc (suc (suc zero))) l = join_follows
    each (suc (suc (suc (suc k)))) l = absurd (omega arith)

whole : (n : ℕ) → n < 4 → Contains {X = ℕ} (0 ∷ 2 ∷ 1 ∷ 3 ∷ []) n
whole zero l = (0, omega arith, refl)
whole (suc zero) l = (2, omega arith, refl)
whole (suc (suc zero)) l = (1, omega arith, refl)
whole (suc (suc (suc zero))) l = (3, omega arith, refl)
whole (suc (suc (suc (suc n)))) l = let impossible : ⊥ = omega (arith, l) in absurd impossible

-- ---- records

-- the right arm's measurement may come first
done_right_first : IsRightRecord Gives Fails session [] (done (0 ∷ 2 ∷ 1 ∷ 3 ∷ []) answers bytes)
done_right_first = record {
  answered = (refl, refl, (refl, refl, tt));
  traced = record {
    so_far = right_first;
    whole = λ n e. whole n (omega (arith, e.below));
  };
  bundled = refl;
}

-- but not in the order of the numbers
second_is : (trace : List ℕ) → trace ≡ 0 ∷ 1 ∷ 2 ∷ 3 ∷ [] → get_or trace 1 0 ≡ 1
second_is trace e = ap (λ (t : List ℕ). get_or t 1 0) e

not_rising : IsRisingRecord Gives Fails session [] (done (0 ∷ 2 ∷ 1 ∷ 3 ∷ []) answers bytes) → ⊥
not_rising d = omega (arith, second_is (0 ∷ 2 ∷ 1 ∷ 3 ∷ []) d.whole)

-- b may fail before a is measured, and after
failed_first : IsRightRecord Gives Fails session [] (failed 2 NoArtefact (0 ∷ []))
failed_first = record {
  asked = (question 2 98, refl, (refl, refl));
  so_far = split_first;
  ready = λ n b. split_there [] n (before_arm 2 n (omega arith) b);
  lacking = not_one 0 2 (λ e. omega (arith, e));
  answered = (λ c. (97 ∷ [], refl), (λ c. (98 ∷ [], refl), tt));
}

failed_second : IsRightRecord Gives Fails session [] (failed 2 NoArtefact (0 ∷ 1 ∷ []))
failed_second = record {
  asked = failed_first.asked;
  so_far = left_first;
  ready = λ n b. split_there (1 ∷ []) n (before_arm 2 n (omega arith) b);
  lacking = neither 0 1 2 (λ e. omega (arith, e)) (λ e. omega (arith, e));
  answered = (λ c. (97 ∷ [], refl), (λ c. (98 ∷ [], refl), tt));
}

-- a has no fault; b isn't measured before the split, nor again once it has happened
no_fault_of_a : (ask : Ask) → Some (question 1 97) ≡ Some ask → ask.event ≡ 2 → ⊥
no_fault_of_a ask is two =
    let same : question 1 97 ≡ ask = cc in
    omega (arith, ap (λ (a : Ask). a.event) same, two)

a_has_no_fault : IsRightRecord Gives Fails session [] (failed 1 NoArtefact (0 ∷ [])) → ⊥
a_has_no_fault f = no_fault_of_a f.asked.0 f.asked.1 f.asked.2.0

before_the_split : IsRightRecord Gives Fails session [] (failed 2 NoArtefact []) → ⊥
before_the_split f = nothing_there 0 (f.ready 0 (inl (record { first = refl; later = omega arith; below = omega arith })))

once_it_happened : IsRightRecord Gives Fails session [] (failed 2 NoArtefact (0 ∷ 2 ∷ [])) → ⊥
once_it_happened f = f.lacking (1, omega arith, refl)

-- nor is a session done with an answer that its bench doesn't give, or with the join ahead of an arm
not_given : (trace other : List ℕ) → IsRightRecord Gives Fails session [] (done trace ((1, 98 ∷ []) ∷ (2, 98 ∷ []) ∷ []) other) → ⊥
not_given trace other d = omega (arith, ap (λ (answer : List ℕ). get_or answer 0 0) d.answered.1)

join_too_early : (other : List ℕ) → IsRightRecord Gives Fails session [] (done (0 ∷ 2 ∷ 3 ∷ 1 ∷ []) answers other) → ⊥
join_too_early other d =
    neither 0 2 1 (λ e. omega (arith, e)) (λ e. omega (arith, e)) ((d.traced.so_far.each 2 (omega arith)).ready 1 (inr (inl (record { from = omega arith; earlier = omega arith; last = refl }))))
