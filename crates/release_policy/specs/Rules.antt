-- The rules of a release policy: which disclosures a rule is for, which rule decides over one, and what
-- the modes allow. They are this project's own.
use Rattle.std.specs.Prelude.{◌&&◌, ℕ, Bool, true, false, List, Option, None, Some, slice_get}
use Rattle.std.specs.Option.{option_map_or}
use Rattle.phrase_tree.specs.Repeats.{first_index}
use Rattle.release_policy.specs.declared.flow.Flow.{Flow}
use Rattle.release_policy.specs.declared.held.Cover.{Cover}
use Rattle.release_policy.specs.declared.held.Cover.TheVariants.{Bare, Sealed, Hashed}
use Rattle.release_policy.specs.declared.rule.Mode.{Mode}
use Rattle.release_policy.specs.declared.rule.Mode.TheVariants.{FromBare, FromSealed, FromHashed, Never}
use Rattle.release_policy.specs.declared.rule.Rule.{Rule}
use Rattle.release_policy.specs.Patterns.{matches}

-- a rule is for a flow where each of its three patterns matches
abbrev pub is_for : Flow → Rule → Bool
is_for flow rule =
    matches rule.place flow.place && matches rule.measurement flow.measurement && matches rule.receiver flow.receiver

-- the first rule of a policy that is for a flow decides over it
abbrev pub deciding : List Rule → Flow → Option ℕ
deciding policy flow = first_index (is_for flow) policy

-- a mode allows evidence that is covered at least so well
abbrev pub allows : Mode → Cover → Bool
allows FromBare cover = true
allows FromSealed Bare = false
allows FromSealed Sealed = true
allows FromSealed Hashed = true
allows FromHashed Bare = false
allows FromHashed Sealed = false
allows FromHashed Hashed = true
allows Never cover = false

-- the rule that decides allows it, where one does; where none decides, it is not allowed
abbrev pub allowed_by : List Rule → Option ℕ → Cover → Bool
allowed_by policy None cover = false
allowed_by policy (Some rule) cover = option_map_or (λ found. allows found.mode cover) (slice_get policy rule) false
