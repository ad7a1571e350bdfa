-- Which of several sessions a release policy lets run. This is this project's own.
use Rattle.std.specs.Prelude.{◌≡◌, Bool, List, is_none, is_some}
use Rattle.std.specs.List.{filter_map, take_while}
use Rattle.phrase_tree.specs.Repeats.{first_index}
use Rattle.session_model.specs.Session.{Session}
use Rattle.release_policy.specs.declared.chosen.Choice.{Choice}
use Rattle.release_policy.specs.declared.rule.Rule.{Rule}
use Rattle.release_policy.specs.Denials.{first_denial}

-- the policy denies nothing of the session; it denies something
abbrev pub is_free : List Rule → Session → Bool
is_free policy session = is_none (first_denial policy session)

abbrev pub is_denied : List Rule → Session → Bool
is_denied policy session = is_some (first_denial policy session)

-- the least session of which nothing is denied, and the first denials of all before it: of all, where
-- there is no such session
pub record Chooses (policy : List Rule) (sessions : List Session) (choice : Choice) : Type 0 where
  pub chosen : choice.chosen ≡ first_index (is_free policy) sessions
  pub denials : choice.denials.items ≡ filter_map (first_denial policy) (take_while (is_denied policy) sessions)
