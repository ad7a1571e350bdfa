-- The first denial among disclosures that come in parts.
use Rattle.std.proofs.Common.{◌≡◌, ◌+◌, ℕ, List, [], ◌∷◌, ◌++◌, None, Some, Result, Err, refl, ap, sym, ◌∙◌, subst}
use Rattle.std.specs.List.{filter_map}
use Rattle.std.proofs.lemmas.List.Elements.{filter_map-append}
use Rattle.phrase_tree.specs.declared.phrase.Split.{Split}
use Rattle.phrase_tree.specs.Term.{Term, at, chain, seq}
use Rattle.phrase_tree.specs.Numbering.{event_count}
use Rattle.place_check.specs.Rules.{first}
use Rattle.release_policy.specs.declared.denied.Denial.{Denial}
use Rattle.release_policy.specs.declared.rule.Rule.{Rule}
use Rattle.release_policy.specs.declared.walk.Stop.{Stop}
use Rattle.release_policy.specs.declared.walk.Stop.TheVariants.{Denied, NoMemory}
use Rattle.release_policy.specs.Denials.{denial_of}
use Rattle.release_policy.specs.declared.held.Held.{Held}
use Rattle.release_policy.specs.Disclosures.{Disclosure, disclosed}
use Rattle.release_policy.specs.Walked.{arm_held, first_denied, held_from, told_from, IsStoppedBy, StopsAt}

first-none : {X : Type 0} (front back : List X) → first front ≡ None → first (front ++ back) ≡ first back
first-none [] back h = refl
first-none (x ∷ front) back h = absurd (cc)

first-some : {X : Type 0} (front back : List X) (found : X) → first front ≡ Some found → first (front ++ back) ≡ Some found
first-some [] back found h = absurd (cc)
first-some (x ∷ front) back found h = h

-- where nothing is denied of the first part, the first denial is that of the second
pub first_denied-on : (policy : List Rule) (front back : List Disclosure) → first_denied policy front ≡ None → first_denied policy (front ++ back) ≡ first_denied policy back
first_denied-on policy front back h =
    ap (λ all. first all) (filter_map-append (denial_of policy) front back) ∙ first-none (filter_map (denial_of policy) front) (filter_map (denial_of policy) back) h

pub first_denied-stop : (policy : List Rule) (front back : List Disclosure) (found : Denial) → first_denied policy front ≡ Some found → first_denied policy (front ++ back) ≡ Some found
first_denied-stop policy front back found h =
    ap (λ all. first all) (filter_map-append (denial_of policy) front back) ∙ first-some (filter_map (denial_of policy) front) (filter_map (denial_of policy) back) found h

-- what stops a walk over the first part stops that over both
pub stops_first : (policy : List Rule) (front back : List Disclosure) (stop : Stop) → IsStoppedBy (first_denied policy front) stop → IsStoppedBy (first_denied policy (front ++ back)) stop
stops_first policy front back (Denied denial) h = first_denied-stop policy front back denial h
stops_first policy front back NoMemory h = tt

-- and where nothing does, so does what stops a walk over the second
pub stops_second : (policy : List Rule) (front back : List Disclosure) (stop : Stop) → first_denied policy front ≡ None → IsStoppedBy (first_denied policy back) stop → IsStoppedBy (first_denied policy (front ++ back)) stop
stops_second policy front back (Denied denial) h k = first_denied-on policy front back h ∙ k
stops_second policy front back NoMemory h k = tt

-- where nothing is denied of the first part, all that is said of the second holds of both
pub stops_on : {A : Type 0} (policy : List Rule) (front back : List Disclosure) (result : Result A Stop) → first_denied policy front ≡ None → StopsAt (first_denied policy back) result → StopsAt (first_denied policy (front ++ back)) result
stops_on policy front back result h k = subst (λ found. StopsAt found result) (sym (first_denied-on policy front back h)) k

-- a chain
pub chain_first : (policy : List Rule) (left right : Term) (place : List ℕ) (i : ℕ) (before : List Held) (stop : Stop) → IsStoppedBy (first_denied policy (told_from left place i before)) stop → IsStoppedBy (first_denied policy (told_from (chain left right) place i before)) stop
chain_first policy left right place i before stop h =
    stops_first policy (told_from left place i before) (told_from right place (i + event_count left) (held_from left place i before)) stop h

pub chain_second : {A : Type 0} (policy same : List Rule) (left right : Term) (place : List ℕ) (i next : ℕ) (before between : List Held) (result : Result A Stop) → first_denied policy (told_from left place i before) ≡ None → same ≡ policy → next ≡ i + event_count left → between ≡ held_from left place i before → StopsAt (first_denied same (told_from right place next between)) result → StopsAt (first_denied policy (told_from (chain left right) place i before)) result
chain_second policy same left right place i next before between result none p n b h =
    stops_on policy (told_from left place i before) (told_from right place (i + event_count left) (held_from left place i before)) result none
    (subst (λ x. StopsAt (first_denied policy (told_from right place (i + event_count left) x)) result) b (subst (λ x. StopsAt (first_denied policy (told_from right place x between)) result) n (subst (λ x. StopsAt (first_denied x (told_from right place next between)) result) p h)))

-- a branch
pub branch_first : (policy : List Rule) (split : Split) (left right : Term) (place : List ℕ) (i : ℕ) (before one : List Held) (stop : Stop) → one ≡ arm_held split.left before → IsStoppedBy (first_denied policy (told_from left place (i + 1) one)) stop → IsStoppedBy (first_denied policy (told_from (seq split left right) place i before)) stop
branch_first policy split left right place i before one stop o h =
    stops_first policy (told_from left place (i + 1) (arm_held split.left before)) (told_from right place (i + 1 + event_count left) (arm_held split.right before)) stop
    (subst (λ x. IsStoppedBy (first_denied policy (told_from left place (i + 1) x)) stop) o h)

pub branch_second : (policy same : List Rule) (split : Split) (left right : Term) (place : List ℕ) (i next : ℕ) (before one other : List Held) (stop : Stop) → one ≡ arm_held split.left before → other ≡ arm_held split.right before → first_denied policy (told_from left place (i + 1) one) ≡ None → same ≡ policy → next ≡ i + 1 + event_count left → IsStoppedBy (first_denied same (told_from right place next other)) stop → IsStoppedBy (first_denied policy (told_from (seq split left right) place i before)) stop
branch_second policy same split left right place i next before one other stop o r none p n h =
    stops_second policy (told_from left place (i + 1) (arm_held split.left before)) (told_from right place (i + 1 + event_count left) (arm_held split.right before)) stop
    (subst (λ x. first_denied policy (told_from left place (i + 1) x) ≡ None) o none)
    (subst (λ x. IsStoppedBy (first_denied policy (told_from right place (i + 1 + event_count left) x)) stop) r (subst (λ x. IsStoppedBy (first_denied policy (told_from right place x other)) stop) n (subst (λ x. IsStoppedBy (first_denied x (told_from right place next other)) stop) p h)))

pub branch_none : (policy same : List Rule) (split : Split) (left right : Term) (place : List ℕ) (i next : ℕ) (before one other : List Held) → one ≡ arm_held split.left before → other ≡ arm_held split.right before → first_denied policy (told_from left place (i + 1) one) ≡ None → same ≡ policy → next ≡ i + 1 + event_count left → first_denied same (told_from right place next other) ≡ None → first_denied policy (told_from (seq split left right) place i before) ≡ None
branch_none policy same split left right place i next before one other o r none p n h =
    first_denied-on policy (told_from left place (i + 1) (arm_held split.left before)) (told_from right place (i + 1 + event_count left) (arm_held split.right before))
    (subst (λ x. first_denied policy (told_from left place (i + 1) x) ≡ None) o none)
    ∙ subst (λ x. first_denied policy (told_from right place (i + 1 + event_count left) x) ≡ None) r (subst (λ x. first_denied policy (told_from right place x other) ≡ None) n (subst (λ x. first_denied x (told_from right place next other) ≡ None) p h))

-- a request: what goes to the place that is asked, what that place discloses, and what comes back
pub ask_first : (policy : List Rule) (asked : List ℕ) (body : Term) (place : List ℕ) (i : ℕ) (before : List Held) (stop : Stop) → IsStoppedBy (first_denied policy (disclosed i asked before)) stop → IsStoppedBy (first_denied policy (told_from (at asked body) place i before)) stop
ask_first policy asked body place i before stop h =
    stops_first policy (disclosed i asked before) (told_from body asked (i + 1) before ++ disclosed (i + 1 + event_count body) place (held_from body asked (i + 1) before)) stop h

pub ask_second : (policy same : List Rule) (asked : List ℕ) (body : Term) (place : List ℕ) (i : ℕ) (before : List Held) (stop : Stop) → first_denied policy (disclosed i asked before) ≡ None → same ≡ policy → IsStoppedBy (first_denied same (told_from body asked (i + 1) before)) stop → IsStoppedBy (first_denied policy (told_from (at asked body) place i before)) stop
ask_second policy same asked body place i before stop none p h =
    let back = disclosed (i + 1 + event_count body) place (held_from body asked (i + 1) before) in
    stops_on {A = ℕ} policy (disclosed i asked before) (told_from body asked (i + 1) before ++ back) (Err stop) none
    (stops_first policy (told_from body asked (i + 1) before) back stop (subst (λ x. IsStoppedBy (first_denied x (told_from body asked (i + 1) before)) stop) p h))

pub ask_third : (policy same last_same : List Rule) (asked : List ℕ) (body : Term) (place : List ℕ) (i last : ℕ) (before after : List Held) (stop : Stop) → first_denied policy (disclosed i asked before) ≡ None → same ≡ policy → first_denied same (told_from body asked (i + 1) before) ≡ None → last_same ≡ same → last ≡ i + 1 + event_count body → after ≡ held_from body asked (i + 1) before → IsStoppedBy (first_denied last_same (disclosed last place after)) stop → IsStoppedBy (first_denied policy (told_from (at asked body) place i before)) stop
ask_third policy same last_same asked body place i last before after stop none p inside q n a h =
    let back = disclosed (i + 1 + event_count body) place (held_from body asked (i + 1) before) in
    let back_stops = subst (λ x. IsStoppedBy (first_denied policy (disclosed (i + 1 + event_count body) place x)) stop) a (subst (λ x. IsStoppedBy (first_denied policy (disclosed x place after)) stop) n (subst (λ x. IsStoppedBy (first_denied x (disclosed last place after)) stop) (q ∙ p) h)) in
    stops_on {A = ℕ} policy (disclosed i asked before) (told_from body asked (i + 1) before ++ back) (Err stop) none
    (stops_second policy (told_from body asked (i + 1) before) back stop (subst (λ x. first_denied x (told_from body asked (i + 1) before) ≡ None) p inside) back_stops)

pub ask_none : (policy same last_same : List Rule) (asked : List ℕ) (body : Term) (place : List ℕ) (i last : ℕ) (before after : List Held) → first_denied policy (disclosed i asked before) ≡ None → same ≡ policy → first_denied same (told_from body asked (i + 1) before) ≡ None → last_same ≡ same → last ≡ i + 1 + event_count body → after ≡ held_from body asked (i + 1) before → first_denied last_same (disclosed last place after) ≡ None → first_denied policy (told_from (at asked body) place i before) ≡ None
ask_none policy same last_same asked body place i last before after none p inside q n a h =
    let back = disclosed (i + 1 + event_count body) place (held_from body asked (i + 1) before) in
    let back_none = subst (λ x. first_denied policy (disclosed (i + 1 + event_count body) place x) ≡ None) a (subst (λ x. first_denied policy (disclosed x place after) ≡ None) n (subst (λ x. first_denied x (disclosed last place after) ≡ None) (q ∙ p) h)) in
    first_denied-on policy (disclosed i asked before) (told_from body asked (i + 1) before ++ back) none
    ∙ (first_denied-on policy (told_from body asked (i + 1) before) back (subst (λ x. first_denied x (told_from body asked (i + 1) before) ≡ None) p inside) ∙ back_none)
