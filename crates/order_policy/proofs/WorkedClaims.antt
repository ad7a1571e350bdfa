-- Claims that were judged outside this project: an edit of the definitions is refused here.
use Rattle.std.proofs.Common.{◌≡◌, ◌<◌, ℕ, List, [], ◌∷◌, true, false, inl, inr, zero, suc, refl, sym, subst, get_or, take, arith}
use Rattle.std.specs.Prelude.{codes, Contains}
use Rattle.std.proofs.lemmas.Bool.{false≢true}
use Rattle.phrase_tree.specs.declared.phrase.Split.{Split}
use Rattle.phrase_tree.specs.declared.measurement.Arg.TheVariants.{Number}
use Rattle.phrase_tree.specs.declared.measurement.Asp.{Asp}
use Rattle.phrase_tree.specs.Term.{Term, usm, leaf, at, chain, seq, par}
use Rattle.phrase_tree.specs.Events.{Event, event, events_of, measures, measures_at}
use Rattle.order_policy.specs.declared.claim.Ahead.{Ahead}
use Rattle.order_policy.specs.declared.claim.Ahead.TheVariants.{One, Every}
use Rattle.order_policy.specs.declared.claim.Claim.{Claim}
use Rattle.order_policy.specs.declared.claim.Service.{Service}
use Rattle.order_policy.specs.declared.judgement.Judgement.{Judgement}
use Rattle.order_policy.specs.declared.judgement.Judgement.TheVariants.{Holds, Broken}
use Rattle.order_policy.specs.Claims.{service, is_of, IsOf, count_of, StandsAhead, HasClaim}
use Rattle.order_policy.specs.Labels.{label, labels_of}
use Rattle.order_policy.specs.Measured.{measured_of, judgement_of}
use Rattle.order_policy.specs.Policy.{claim_text, parts_of}

abbrev bank : List ℕ
bank = codes "bank"

abbrev both : Split
both = record { left = true; right = true }

abbrev asp : List ℕ → Asp
asp name = record { name = name; args = [] }

abbrev a : Service
a = service (codes "a") bank

abbrev b : Service
b = service (codes "b") bank

abbrev claim : Service → Ahead → Service → Claim
claim earlier ahead later = record { earlier = earlier; ahead = ahead; later = later }

abbrev fork : Term
fork = par both (leaf (usm (asp (codes "a")))) (leaf (usm (asp (codes "b"))))

abbrev row : Term
row = seq both (leaf (usm (asp (codes "a")))) (leaf (usm (asp (codes "b"))))

labels_of_a_fork : labels_of fork 0 0 ≡ label 0 0 ∷ label 1 2 ∷ label 2 1 ∷ label 3 3 ∷ []
labels_of_a_fork = refl

labels_of_a_row : labels_of row 0 0 ≡ label 0 0 ∷ label 1 1 ∷ label 2 2 ∷ label 3 3 ∷ []
labels_of_a_row = refl

labels_inside_a_request : labels_of (at (codes "q") fork) 0 0 ≡ label 0 0 ∷ label 1 1 ∷ label 2 3 ∷ label 3 2 ∷ label 4 4 ∷ label 5 5 ∷ []
labels_inside_a_request = refl

-- a measurement is one of its name at the place where it runs, whatever its arguments and its target
whatever_its_arguments : is_of a (event 3 (measures (record { name = codes "a"; args = Number 7 ∷ [] })) bank) ≡ true
whatever_its_arguments = refl

whatever_its_target : is_of a (event 3 (measures_at (codes "q") (asp (codes "a"))) bank) ≡ true
whatever_its_target = refl

not_at_its_target : is_of (service (codes "a") (codes "q")) (event 3 (measures_at (codes "q") (asp (codes "a"))) bank) ≡ false
not_at_its_target = refl

not_of_another_name : is_of b (event 3 (measures (asp (codes "a"))) bank) ≡ false
not_of_another_name = refl

counted_each : count_of (events_of (chain (leaf (usm (asp (codes "a")))) fork) bank 0) a ≡ 2
counted_each = refl

-- what is found
abbrev found : Term → Claim → Judgement
found phrase one = judgement_of (labels_of phrase 0 0) (measured_of (events_of phrase bank 0) (labels_of phrase 0 0)) one

a_fork_is_broken : found fork (claim a One b) ≡ Broken 2 (0 ∷ 2 ∷ 1 ∷ 3 ∷ [])
a_fork_is_broken = refl

a_row_holds : found row (claim a One b) ≡ Holds 1
a_row_holds = refl

every_one_is_not_ahead_of_itself : found row (claim a Every a) ≡ Broken 1 (0 ∷ 1 ∷ 2 ∷ 3 ∷ [])
every_one_is_not_ahead_of_itself = refl

nothing_is_ahead : found (leaf (usm (asp (codes "a")))) (claim b One a) ≡ Broken 0 (0 ∷ [])
nothing_is_ahead = refl

nothing_is_claimed : found (leaf (usm (asp (codes "a")))) (claim a One b) ≡ Holds 0
nothing_is_claimed = refl

-- one trace has the claim
abbrev events : List Event
events = events_of fork bank 0

in_order_has : HasClaim events (claim a One b) (0 ∷ 1 ∷ 2 ∷ 3 ∷ [])
in_order_has y (inl h) = absurd (false≢true h.1)
in_order_has y (inr (inl h)) = absurd (false≢true h.1)
in_order_has y (inr (inr (inl h))) =
    (1, (inr (inl (refl, refl)), record { position = 2; within = omega arith; there = h.0; ahead = (1, omega arith, refl) }))
in_order_has y (inr (inr (inr (inl h)))) = absurd (false≢true h.1)
in_order_has y (inr (inr (inr (inr h)))) = absurd h

-- and another hasn't
only_one : (x : ℕ) → IsOf events a x → x ≡ 1
only_one x (inl h) = absurd (false≢true h.1)
only_one x (inr (inl h)) = sym h.0
only_one x (inr (inr (inl h))) = absurd (false≢true h.1)
only_one x (inr (inr (inr (inl h)))) = absurd (false≢true h.1)
only_one x (inr (inr (inr (inr h)))) = absurd h

second_place : (k : ℕ) → k < 4 → ◌≡◌ {A = ℕ} (get_or (0 ∷ 2 ∷ 1 ∷ 3 ∷ []) k 0) 2 → k ≡ 1
second_place zero lt e = absurd (omega (arith, e))
second_place (suc zero) lt e = refl
second_place (suc (suc zero)) lt e = absurd (omega (arith, e))
second_place (suc (suc (suc zero))) lt e = absurd (omega (arith, e))
second_place (suc (suc (suc (suc k)))) lt e = absurd (omega arith)

first_alone : (x k : ℕ) → k < 1 → get_or (0 ∷ []) k x ≡ x → x ≡ 0
first_alone x zero lt e = sym e
first_alone x (suc k) lt e = absurd (omega arith)

out_of_order_lacks : HasClaim events (claim a One b) (0 ∷ 2 ∷ 1 ∷ 3 ∷ []) → ⊥
out_of_order_lacks h =
    let w = h 2 (inr (inr (inl (refl, refl)))) in
    let s : StandsAhead (0 ∷ 2 ∷ 1 ∷ 3 ∷ []) w.0 2 = w.1.1 in
    let is = second_place s.position s.within s.there in
    let c = subst (λ n. Contains (take n (0 ∷ 2 ∷ 1 ∷ 3 ∷ [])) w.0) is s.ahead in
    let zero_is : w.0 ≡ 0 = first_alone w.0 c.0 c.1 c.2 in
    let one_is : w.0 ≡ 1 = only_one w.0 w.1.0 in
    omega arith

-- the texts
one_is_ahead : claim_text (claim a One b) ≡ codes "a@bank<b@bank"
one_is_ahead = refl

every_one_is_ahead : claim_text (claim a Every b) ≡ codes "a@bank<<b@bank"
every_one_is_ahead = refl

parts_between_semicolons : parts_of (codes "a;;b") ≡ codes "a" ∷ [] ∷ codes "b" ∷ []
parts_between_semicolons = refl
