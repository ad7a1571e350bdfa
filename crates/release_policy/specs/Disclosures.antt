-- What the places of a session disclose to one another: at a request all evidence goes to the place that
-- is asked, and at its reply the whole result goes to the place that asked. This is this project's own.
use Rattle.std.specs.Prelude.{◌+◌, ℕ, List, [], ◌++◌, map}
use Rattle.phrase_tree.specs.Term.{Term, leaf, at, chain, seq, par}
use Rattle.phrase_tree.specs.Numbering.{event_count}
use Rattle.evidence_types.specs.Shape.{Form, the_nonce, arm_shape, shape_from}
use Rattle.session_model.specs.Session.{Session}
use Rattle.release_policy.specs.declared.flow.Flow.{Flow}
use Rattle.release_policy.specs.declared.held.Held.{Held}
use Rattle.release_policy.specs.Covered.{measurements}

-- at an event a measurement goes to a place
pub record Disclosure : Type 0 where
  pub event : ℕ
  pub what : Held
  pub receiver : List ℕ

-- whose measurement it is, by its name, and to whom it goes
abbrev pub flow_of : Disclosure → Flow
flow_of disclosure = record {
  place = disclosure.what.place;
  measurement = disclosure.what.measurement;
  receiver = disclosure.receiver;
}

-- at an event all these go to a place
abbrev pub disclosed : ℕ → List ℕ → List Held → List Disclosure
disclosed event receiver held =
    map (λ what. record { event = event; what = what; receiver = receiver }) held

-- what a phrase discloses, at a place and from a number on, of the evidence before it: by the event, and
-- then by the preorder of the evidence that goes there
abbrev pub disclosures_from : Term → List ℕ → ℕ → Form → List Disclosure
disclosures_from (leaf form) place i before = []
disclosures_from (at asked body) place i before =
    disclosed i asked (measurements before) ++ (disclosures_from body asked (i + 1) before ++ disclosed (i + 1 + event_count body) place (measurements (shape_from body asked (i + 1) before)))
disclosures_from (chain left right) place i before =
    disclosures_from left place i before ++ disclosures_from right place (i + event_count left) (shape_from left place i before)
disclosures_from (seq split left right) place i before =
    disclosures_from left place (i + 1) (arm_shape split.left before) ++ disclosures_from right place (i + 1 + event_count left) (arm_shape split.right before)
disclosures_from (par split left right) place i before =
    disclosures_from left place (i + 1) (arm_shape split.left before) ++ disclosures_from right place (i + 1 + event_count left) (arm_shape split.right before)

-- what a session discloses
abbrev pub disclosures : Session → List Disclosure
disclosures session = disclosures_from session.phrase session.root 0 the_nonce
