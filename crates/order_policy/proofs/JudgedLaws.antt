-- What is found of a claim is so: it holds exactly where every trace has it.
use Rattle.std.proofs.Common.{◌≡◌, ◌<◌, ◌≤◌, ◌∙◌, ℕ, List, [], ◌∷◌, IsTrue, Option, Some, None, inl, inr, refl, sym, ap, subst, map, arith}
use Rattle.std.specs.Prelude.{Contains, ◌↔◌, IfOk, Result, Ok, Err}
use Rattle.std.specs.List.{AllZip}
use Rattle.std.proofs.lemmas.Bool.{cases_lt, false≢true}
use Rattle.std.proofs.lemmas.List.Elements.{All-contains_itself}
use Rattle.phrase_tree.specs.Term.{Term}
use Rattle.phrase_tree.specs.declared.phrase.TheConstants.{EVENTS}
use Rattle.phrase_tree.specs.Numbering.{event_count, IsSized}
use Rattle.phrase_tree.specs.Events.{Event, events_of}
use Rattle.event_system.specs.Order.{IsEvent, IsBefore}
use Rattle.event_system.specs.Trace.{IsTrace}
use Rattle.order_policy.specs.declared.claim.Ahead.{Ahead}
use Rattle.order_policy.specs.declared.claim.Ahead.TheVariants.{One, Every}
use Rattle.order_policy.specs.declared.claim.Claim.{Claim}
use Rattle.order_policy.specs.declared.claim.Service.{Service}
use Rattle.order_policy.specs.declared.judgement.Judgement.{Judgement}
use Rattle.order_policy.specs.declared.judgement.Judgement.TheVariants.{Holds, Broken}
use Rattle.order_policy.specs.declared.label.Label.{Label}
use Rattle.order_policy.specs.declared.measured.Measured.{Measured}
use Rattle.order_policy.specs.Claims.{IsOf, HasAhead}
use Rattle.order_policy.specs.Judged.{HasAlways, IsBroken, IsJudged, is_holding}
use Rattle.order_policy.specs.Labels.{labels_of}
use Rattle.order_policy.specs.Measured.{measured_of, first_breaking, early_trace, judgement_from, judgement_of}
use Rattle.order_policy.proofs.LabelLaws.{order_by_labels, second_below, firsts_are}
use Rattle.order_policy.proofs.EarlyLaws.{early_made, early_is_trace, early_ahead, before_stands}
use Rattle.order_policy.proofs.MeasuredLaws.{HasOne, HasEach, IsSame, one_map, each_map, each_both, use_one, measured_from, listed, each_labelled, measured_rises, measured_count, are_of_phrase, of_event}
use Rattle.order_policy.proofs.FirstLaws.{IsEarlier, IsCovered, IsFirstBare, IsOutcome, breaking_outcome}

-- one or every measurement of the earlier service is before y
abbrev Covers : Ahead → Term → List Event → Service → ℕ → Type 0
Covers One phrase events earlier y = (x : ℕ) × (IsOf events earlier x × IsBefore phrase 0 x y)
Covers Every phrase events earlier y = (x : ℕ) → IsOf events earlier x → IsBefore phrase 0 x y

-- what is known of each measurement of a phrase
record IsKnown (phrase : Term) (events : List Event) (m : Measured) : Type 0 where
  labelled : Contains (labels_of phrase 0 0) m.label
  of : (wanted : Service) → IsSame wanted m → IsOf events wanted m.label.first

abbrev measurements : Term → List ℕ → List Measured
measurements phrase root = measured_of (events_of phrase root 0) (labels_of phrase 0 0)

known : (phrase : Term) (root : List ℕ) → HasEach (IsKnown phrase (events_of phrase root 0)) (measurements phrase root)
known phrase root =
    each_both (λ m. Contains (labels_of phrase 0 0) m.label) (λ m. (wanted : Service) → IsSame wanted m → IsOf (events_of phrase root 0) wanted m.label.first) (IsKnown phrase (events_of phrase root 0)) (measurements phrase root)
    (λ m a b. record { labelled = a; of = b })
    (each_labelled (λ l. Contains (labels_of phrase 0 0) l) (events_of phrase root 0) (labels_of phrase 0 0) (All-contains_itself (labels_of phrase 0 0)))
    (listed (events_of phrase root 0) (labels_of phrase 0 0) (are_of_phrase phrase root))

-- a measurement of a service among them
found_among : (phrase : Term) (root : List ℕ) (wanted : Service) (n : ℕ) → IsOf (events_of phrase root 0) wanted n → HasOne (λ m. (m.label.first ≡ n) × IsSame wanted m) (measurements phrase root)
found_among phrase root wanted n h = measured_from wanted n (events_of phrase root 0) (labels_of phrase 0 0) (are_of_phrase phrase root) h

-- covered by labels, and by the order
covered_covers : (ahead : Ahead) (phrase : Term) (root : List ℕ) (earlier : Service) (m : Measured) → Contains (labels_of phrase 0 0) m.label → IsCovered ahead earlier (measurements phrase root) m → Covers ahead phrase (events_of phrase root 0) earlier m.label.first
covered_covers One phrase root earlier m there h =
    use_one (λ a. IsSame earlier a × IsEarlier a m) (Covers One phrase (events_of phrase root 0) earlier m.label.first) (measurements phrase root)
    (each_map (IsKnown phrase (events_of phrase root 0)) (λ a. IsSame earlier a × IsEarlier a m → Covers One phrase (events_of phrase root 0) earlier m.label.first) (measurements phrase root)
    (λ a k w. (a.label.first, (k.of earlier w.0, (order_by_labels phrase 0 0 a.label m.label k.labelled there).1 w.1))) (known phrase root)) h
covered_covers Every phrase root earlier m there h = λ x is.
    use_one (λ a. (a.label.first ≡ x) × IsSame earlier a) (IsBefore phrase 0 x m.label.first) (measurements phrase root)
    (each_both (IsKnown phrase (events_of phrase root 0)) (λ a. IsSame earlier a → IsEarlier a m) (λ a. (a.label.first ≡ x) × IsSame earlier a → IsBefore phrase 0 x m.label.first) (measurements phrase root)
    (λ a k less w. subst (λ n. IsBefore phrase 0 n m.label.first) w.0 ((order_by_labels phrase 0 0 a.label m.label k.labelled there).1 (less w.1))) (known phrase root) h)
    (found_among phrase root earlier x is)

covers_covered : (ahead : Ahead) (phrase : Term) (root : List ℕ) (earlier : Service) (m : Measured) → Contains (labels_of phrase 0 0) m.label → Covers ahead phrase (events_of phrase root 0) earlier m.label.first → IsCovered ahead earlier (measurements phrase root) m
covers_covered One phrase root earlier m there h =
    one_map (λ a. (a.label.first ≡ h.0) × IsSame earlier a) (λ a. IsSame earlier a × IsEarlier a m) (measurements phrase root)
    (each_map (IsKnown phrase (events_of phrase root 0)) (λ a. (a.label.first ≡ h.0) × IsSame earlier a → IsSame earlier a × IsEarlier a m) (measurements phrase root)
    (λ a k w. (w.1, (order_by_labels phrase 0 0 a.label m.label k.labelled there).0 (subst (λ n. IsBefore phrase 0 n m.label.first) (sym w.0) h.1.1))) (known phrase root))
    (found_among phrase root earlier h.0 h.1.0)
covers_covered Every phrase root earlier m there h =
    each_map (IsKnown phrase (events_of phrase root 0)) (λ a. IsSame earlier a → IsEarlier a m) (measurements phrase root)
    (λ a k is. (order_by_labels phrase 0 0 a.label m.label k.labelled there).0 (h a.label.first (k.of earlier is))) (known phrase root)

-- in every trace what is covered has its claim; and where the trace that puts it early has it, it is covered
covers_has : (ahead : Ahead) (phrase : Term) (events : List Event) (earlier : Service) (trace : List ℕ) (y : ℕ) → IsTrace phrase 0 trace → Covers ahead phrase events earlier y → HasAhead ahead events earlier trace y
covers_has One phrase events earlier trace y t h = (h.0, (h.1.0, before_stands phrase trace h.0 y t h.1.1))
covers_has Every phrase events earlier trace y t h = λ x is. before_stands phrase trace x y t (h x is)

has_covers : (ahead : Ahead) (phrase : Term) (events : List Event) (earlier : Service) (y : ℕ) → IsEvent phrase 0 y → HasAhead ahead events earlier (early_trace (labels_of phrase 0 0) y) y → Covers ahead phrase events earlier y
has_covers One phrase events earlier y event h = (h.0, (h.1.0, early_ahead phrase y h.0 event h.1.1))
has_covers Every phrase events earlier y event h = λ x is. early_ahead phrase y x event (h x is)

-- a claim that is covered at each measurement of its later service holds
held : (phrase : Term) (root : List ℕ) (claim : Claim) → HasEach (λ m. IsSame claim.later m → IsCovered claim.ahead claim.earlier (measurements phrase root) m) (measurements phrase root) → HasAlways phrase root claim
held phrase root claim each = λ trace t y is.
    covers_has claim.ahead phrase (events_of phrase root 0) claim.earlier trace y t
    (use_one (λ m. (m.label.first ≡ y) × IsSame claim.later m) (Covers claim.ahead phrase (events_of phrase root 0) claim.earlier y) (measurements phrase root)
    (each_both (IsKnown phrase (events_of phrase root 0)) (λ m. IsSame claim.later m → IsCovered claim.ahead claim.earlier (measurements phrase root) m) (λ m. (m.label.first ≡ y) × IsSame claim.later m → Covers claim.ahead phrase (events_of phrase root 0) claim.earlier y) (measurements phrase root)
    (λ m k f w. subst (λ n. Covers claim.ahead phrase (events_of phrase root 0) claim.earlier n) w.0 (covered_covers claim.ahead phrase root claim.earlier m k.labelled (f w.1))) (known phrase root) each)
    (found_among phrase root claim.later y is))

-- where the first measurement that isn't covered is known
record IsBareAt (phrase : Term) (root : List ℕ) (claim : Claim) (y : ℕ) : Type 0 where
  later : IsOf (events_of phrase root 0) claim.later y
  bare : ¬ Covers claim.ahead phrase (events_of phrase root 0) claim.earlier y

bare_at : (phrase : Term) (root : List ℕ) (claim : Claim) (y : ℕ) → IsFirstBare (IsCovered claim.ahead claim.earlier (measurements phrase root)) claim.later (measurements phrase root) y → IsBareAt phrase root claim y
bare_at phrase root claim y first =
    use_one (λ m. (m.label.first ≡ y) × (IsSame claim.later m × (¬ IsCovered claim.ahead claim.earlier (measurements phrase root) m))) (IsBareAt phrase root claim y) (measurements phrase root)
    (each_map (IsKnown phrase (events_of phrase root 0)) (λ m. (m.label.first ≡ y) × (IsSame claim.later m × (¬ IsCovered claim.ahead claim.earlier (measurements phrase root) m)) → IsBareAt phrase root claim y) (measurements phrase root)
    (λ m k w. subst (λ n. IsBareAt phrase root claim n) w.0 (record { later = k.of claim.later w.1.0; bare = λ h. w.1.1 (covers_covered claim.ahead phrase root claim.earlier m k.labelled h) })) (known phrase root))
    first.bare

covered_below : (phrase : Term) (root : List ℕ) (claim : Claim) (y other : ℕ) → IsFirstBare (IsCovered claim.ahead claim.earlier (measurements phrase root)) claim.later (measurements phrase root) y → IsOf (events_of phrase root 0) claim.later other → other < y → Covers claim.ahead phrase (events_of phrase root 0) claim.earlier other
covered_below phrase root claim y other first is lt =
    use_one (λ m. (m.label.first ≡ other) × IsSame claim.later m) (Covers claim.ahead phrase (events_of phrase root 0) claim.earlier other) (measurements phrase root)
    (each_both (IsKnown phrase (events_of phrase root 0)) (λ m. IsSame claim.later m → m.label.first < y → IsCovered claim.ahead claim.earlier (measurements phrase root) m) (λ m. (m.label.first ≡ other) × IsSame claim.later m → Covers claim.ahead phrase (events_of phrase root 0) claim.earlier other) (measurements phrase root)
    (λ m k f w. subst (λ n. Covers claim.ahead phrase (events_of phrase root 0) claim.earlier n) w.0 (covered_covers claim.ahead phrase root claim.earlier m k.labelled (f w.1 (subst (λ n. n < y) (sym w.0) lt)))) (known phrase root) first.ahead)
    (found_among phrase root claim.later other is)

-- the claim is broken at the first that isn't covered
broken : (phrase : Term) (root : List ℕ) (claim : Claim) (y : ℕ) → IsFirstBare (IsCovered claim.ahead claim.earlier (measurements phrase root)) claim.later (measurements phrase root) y → IsBroken phrase root claim y (early_trace (labels_of phrase 0 0) y)
broken phrase root claim y first =
    let here = bare_at phrase root claim y first in
    let event = of_event phrase root claim.later y here.later in
    record {
      breaks = record {
        later = here.later;
        is_trace = early_is_trace phrase y event;
        lacks = λ h. here.bare (has_covers claim.ahead phrase (events_of phrase root 0) claim.earlier y event h);
      };
      least = λ other another b. elim (cases_lt other y) [
        | inl lt ↦ absurd (b.lacks (covers_has claim.ahead phrase (events_of phrase root 0) claim.earlier another other b.is_trace (covered_below phrase root claim y other first b.later lt)))
        | inr ge ↦ ge
      ];
      made = early_made phrase y event;
    }

judged_found : (phrase : Term) (root : List ℕ) (claim : Claim) (found : Option ℕ) → IsOutcome (IsCovered claim.ahead claim.earlier (measurements phrase root)) claim.later (measurements phrase root) found → IsJudged phrase root claim (judgement_from claim (labels_of phrase 0 0) (measurements phrase root) found)
judged_found phrase root claim None each = record {
  always = held phrase root claim each;
  counted = measured_count claim.later (events_of phrase root 0) (labels_of phrase 0 0) (are_of_phrase phrase root);
}
judged_found phrase root claim (Some y) first = broken phrase root claim y first

small_seconds : (phrase : Term) (root : List ℕ) → IsSized phrase → HasEach (λ m. m.label.second ≤ 4294967295) (measurements phrase root)
small_seconds phrase root sized =
    let few : event_count phrase ≤ EVENTS = sized.events in
    each_map (IsKnown phrase (events_of phrase root 0)) (λ m. m.label.second ≤ 4294967295) (measurements phrase root)
    (λ m k. let lt = second_below phrase 0 0 m.label k.labelled in omega arith) (known phrase root)

-- what is found of a claim is so
pub judged : (phrase : Term) (root : List ℕ) → IsSized phrase → (claim : Claim) → IsJudged phrase root claim (judgement_of (labels_of phrase 0 0) (measurements phrase root) claim)
judged phrase root sized claim =
    judged_found phrase root claim (first_breaking claim.ahead claim (measurements phrase root))
    (breaking_outcome claim.ahead claim 0 (measurements phrase root) (measured_rises 0 (event_count phrase) (events_of phrase root 0) (labels_of phrase 0 0) (firsts_are phrase 0 0)) (small_seconds phrase root sized))

-- a claim is said to hold exactly where every trace has it
exactly : (phrase : Term) (root : List ℕ) (claim : Claim) (judgement : Judgement) → IsJudged phrase root claim judgement → IsTrue (is_holding judgement) ↔ HasAlways phrase root claim
exactly phrase root claim (Holds count) h = ((λ is. h.always), λ always. refl)
exactly phrase root claim (Broken event trace) h =
    ((λ is. absurd (false≢true is)), λ always. absurd (h.breaks.lacks (always trace h.breaks.is_trace event h.breaks.later)))

all_judged : (R : Claim → Judgement → Type 0) (judge : Claim → Judgement) (claims : List Claim) → ((claim : Claim) → R claim (judge claim)) → AllZip R claims (map judge claims)
all_judged R judge [] f = tt
all_judged R judge (claim ∷ rest) f = (f claim, all_judged R judge rest f)

pub says_judged : (phrase : Term) (root : List ℕ) (claims : List Claim) (judgements : List Judgement) → IsSized phrase → judgements ≡ map (judgement_of (labels_of phrase 0 0) (measured_of (events_of phrase root 0) (labels_of phrase 0 0))) claims → AllZip (IsJudged phrase root) claims judgements
says_judged phrase root claims judgements sized e =
    subst (λ js. AllZip (IsJudged phrase root) claims js) (sym e) (all_judged (IsJudged phrase root) (judgement_of (labels_of phrase 0 0) (measurements phrase root)) claims (judged phrase root sized))

pub says_exactly : (phrase : Term) (root : List ℕ) (claims : List Claim) (judgements : List Judgement) → IsSized phrase → judgements ≡ map (judgement_of (labels_of phrase 0 0) (measured_of (events_of phrase root 0) (labels_of phrase 0 0))) claims → AllZip (λ (claim : Claim) (judgement : Judgement). IsTrue (is_holding judgement) ↔ HasAlways phrase root claim) claims judgements
says_exactly phrase root claims judgements sized e =
    subst (λ js. AllZip (λ (claim : Claim) (judgement : Judgement). IsTrue (is_holding judgement) ↔ HasAlways phrase root claim) claims js) (sym e)
    (all_judged (λ claim judgement. IsTrue (is_holding judgement) ↔ HasAlways phrase root claim) (judgement_of (labels_of phrase 0 0) (measurements phrase root)) claims
    (λ claim. exactly phrase root claim (judgement_of (labels_of phrase 0 0) (measurements phrase root) claim) (judged phrase root sized claim)))

-- the same of an answer that may be want of memory, with the labels and measurements that were made
pub answers_judged : {E : Type 0} (phrase : Term) (root : List ℕ) (claims made : List Claim) (labels : List Label) (measured : List Measured) (result : Result (List Judgement) E) → IsSized phrase → labels ≡ labels_of phrase 0 0 → measured ≡ measured_of (events_of phrase root 0) (labels_of phrase 0 0) → made ≡ claims
    → IfOk result (λ judgements. judgements ≡ map (judgement_of labels measured) made) → IfOk result (λ judgements. AllZip (IsJudged phrase root) claims judgements)
answers_judged phrase root claims made labels measured (Ok judgements) sized l m c h =
    says_judged phrase root claims judgements sized (h ∙ ap (λ (ls : List Label). map (judgement_of ls measured) made) l ∙ ap (λ (ms : List Measured). map (judgement_of (labels_of phrase 0 0) ms) made) m ∙ ap (λ (cs : List Claim). map (judgement_of (labels_of phrase 0 0) (measured_of (events_of phrase root 0) (labels_of phrase 0 0))) cs) c)
answers_judged phrase root claims made labels measured (Err error) sized l m c h = h

pub answers_exactly : {E : Type 0} (phrase : Term) (root : List ℕ) (claims made : List Claim) (labels : List Label) (measured : List Measured) (result : Result (List Judgement) E) → IsSized phrase → labels ≡ labels_of phrase 0 0 → measured ≡ measured_of (events_of phrase root 0) (labels_of phrase 0 0) → made ≡ claims
    → IfOk result (λ judgements. judgements ≡ map (judgement_of labels measured) made) → IfOk result (λ judgements. AllZip (λ (claim : Claim) (judgement : Judgement). IsTrue (is_holding judgement) ↔ HasAlways phrase root claim) claims judgements)
answers_exactly phrase root claims made labels measured (Ok judgements) sized l m c h =
    says_exactly phrase root claims judgements sized (h ∙ ap (λ (ls : List Label). map (judgement_of ls measured) made) l ∙ ap (λ (ms : List Measured). map (judgement_of (labels_of phrase 0 0) ms) made) m ∙ ap (λ (cs : List Claim). map (judgement_of (labels_of phrase 0 0) (measured_of (events_of phrase root 0) (labels_of phrase 0 0))) cs) c)
answers_exactly phrase root claims made labels measured (Err error) sized l m c h = h
