-- Which disclosures a release policy denies. This is this project's own.
use Rattle.std.specs.Prelude.{◌≡◌, ◌<◌, ◌||◌, ◌⊎◌, ℕ, Bool, true, false, List, Option, None, Some, nat_eq, slice_get, if◌then◌else◌}
use Rattle.std.specs.List.{filter_map}
use Rattle.std.specs.Cmp.Lexicographic.{pointwise}
use Rattle.place_check.specs.Rules.{first}
use Rattle.session_model.specs.Session.{Session}
use Rattle.release_policy.specs.declared.denied.Denial.{Denial}
use Rattle.release_policy.specs.declared.rule.Rule.{Rule}
use Rattle.release_policy.specs.Disclosures.{Disclosure, disclosures, flow_of}
use Rattle.release_policy.specs.Rules.{allowed_by, allows, deciding, is_for}

-- a measurement that goes to its own place
abbrev pub is_at_home : Disclosure → Bool
is_at_home disclosure = pointwise nat_eq disclosure.receiver disclosure.what.place

-- what goes to the measurement's own place is allowed; over all else the deciding rule decides
abbrev pub is_allowed : List Rule → Disclosure → Bool
is_allowed policy disclosure =
    is_at_home disclosure || allowed_by policy (deciding policy (flow_of disclosure)) disclosure.what.cover

-- the denial of a disclosure that is not allowed: its event, the measurement's event, and the rule
abbrev pub denial_of : List Rule → Disclosure → Option Denial
denial_of policy disclosure =
    if is_allowed policy disclosure
    then None
    else Some (record { event = disclosure.event; leaf = disclosure.what.event; rule = deciding policy (flow_of disclosure) })

-- what a policy denies of a session, in the order of the disclosures
abbrev pub denials : List Rule → Session → List Denial
denials policy session = filter_map (denial_of policy) (disclosures session)

-- the first of these
abbrev pub first_denial : List Rule → Session → Option Denial
first_denial policy session = first (denials policy session)

-- the rule at this index decides over the disclosure, and allows it
pub record IsAllowedBy (policy : List Rule) (disclosure : Disclosure) (index : ℕ) (rule : Rule) : Type 0 where
  pub there : slice_get policy index ≡ Some rule
  pub meant : is_for (flow_of disclosure) rule ≡ true
  pub earliest : (earlier : ℕ) (other : Rule) → earlier < index → slice_get policy earlier ≡ Some other → is_for (flow_of disclosure) other ≡ false
  pub allowed : allows rule.mode disclosure.what.cover ≡ true

-- a disclosure is to the measurement's own place, or a rule that decides over it allows it
abbrev pub IsReleased : List Rule → Disclosure → Type 0
IsReleased policy disclosure =
    (disclosure.receiver ≡ disclosure.what.place) ⊎ ((index : ℕ) × (rule : Rule) × IsAllowedBy policy disclosure index rule)
