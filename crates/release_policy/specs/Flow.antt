-- When two flows are the same, and how a flow is hashed.
use Rattle.std.specs.Prelude.{◌≡◌, ◌&&◌, ℕ, Bool, true, false, List, [], ◌∷◌, nat_eq, IsTrue, refl}
use Rattle.std.proofs.Common.{ap, ◌∙◌}
use Rattle.std.specs.Cmp.Lexicographic.{pointwise, bytes_decides}
use Rattle.release_policy.specs.declared.flow.Flow.{Flow}

-- the same measurement of the same place to the same receiver
abbrev pub same_flow : Flow → Flow → Bool
same_flow flow other =
    pointwise nat_eq flow.place other.place && (pointwise nat_eq flow.measurement other.measurement && pointwise nat_eq flow.receiver other.receiver)

-- its three names
abbrev pub flow_input : Flow → List (List ℕ)
flow_input flow = flow.place ∷ flow.measurement ∷ flow.receiver ∷ []

both_are : (a b : Bool) → (a && b) ≡ true → (a ≡ true) × (b ≡ true)
both_are true b e = (refl, e)
both_are false b e = absurd (cc)

-- flows that are the same are equal
pub same_is : (flow other : Flow) → same_flow flow other ≡ true → flow ≡ other
same_is flow other e =
    let outer = both_are (pointwise nat_eq flow.place other.place) (pointwise nat_eq flow.measurement other.measurement && pointwise nat_eq flow.receiver other.receiver) e in
    let inner = both_are (pointwise nat_eq flow.measurement other.measurement) (pointwise nat_eq flow.receiver other.receiver) outer.1 in
    by_names flow.place other.place flow.measurement other.measurement flow.receiver other.receiver ((bytes_decides flow.place other.place).0 outer.0) ((bytes_decides flow.measurement other.measurement).0 inner.0) ((bytes_decides flow.receiver other.receiver).0 inner.1)
  where
    flow_with : List ℕ → List ℕ → List ℕ → Flow
    flow_with p m r = record { place = p; measurement = m; receiver = r }

    by_names : (p p' m m' r r' : List ℕ) → p ≡ p' → m ≡ m' → r ≡ r' → flow_with p m r ≡ flow_with p' m' r'
    by_names p p' m m' r r' e f g =
        ap (λ x. flow_with x m r) e ∙ (ap (λ x. flow_with p' x r) f ∙ ap (λ x. flow_with p' m' x) g)

pub input_is_same : (flow other : Flow) → IsTrue (same_flow flow other) → flow_input flow ≡ flow_input other
input_is_same flow other e = ap flow_input (same_is flow other e)
