-- How far a walk down a phrase has come that looks for the direct predecessors of an event.
use Rattle.std.specs.Prelude.{◌≡◌, ◌+◌, ◌≤◌, ◌<◌, ℕ, Option}
use Rattle.phrase_tree.specs.Term.{Term}
use Rattle.phrase_tree.specs.Numbering.{event_count}
use Rattle.event_system.specs.declared.predecessors.Sought.{Sought}
use Rattle.event_system.specs.declared.predecessors.Sought.TheVariants.{Found, Past}
use Rattle.event_system.specs.Needs.{needs_behind}

-- found in the phrase, or past its last event
abbrev pub IsSought : Option ℕ → Term → ℕ → ℕ → Sought → Type 0
IsSought entry phrase i y (Found needs) = (y < i + event_count phrase) × (needs ≡ needs_behind entry phrase i y)
IsSought entry phrase i y (Past next) = (next ≡ i + event_count phrase) × (i < next) × (next ≤ y)
