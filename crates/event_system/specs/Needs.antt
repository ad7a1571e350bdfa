-- The direct predecessors of an event, by going down the phrase. That they are the direct
-- predecessors of the order is a law.
use Rattle.std.specs.Prelude.{◌≡◌, ◌+◌, ◌-◌, ◌<◌, ◌⊎◌, ◌↔◌, ℕ, Option, Some, None, nat_eq, nat_lt, if◌then◌else◌}
use Rattle.phrase_tree.specs.Term.{Term, leaf, at, chain, seq, par}
use Rattle.phrase_tree.specs.Numbering.{event_count}
use Rattle.event_system.specs.declared.direct.Needs.{Needs}
use Rattle.event_system.specs.Order.{IsDirectlyBefore}

-- at most one direct predecessor
abbrev pub only : Option ℕ → Needs
only entry = record { first = entry; second = None }

-- x is one of them
abbrev pub Names : Needs → ℕ → Type 0
Names needs x = (needs.first ≡ Some x) ⊎ (needs.second ≡ Some x)

-- the direct predecessors of y in a phrase that starts at `i`, where the event that the phrase is
-- entered from, if there is one, is that of its first event
abbrev pub needs_behind : Option ℕ → Term → ℕ → ℕ → Needs
needs_behind entry (leaf form) i y = only entry
needs_behind entry (at asked body) i y =
    if nat_eq y i then only entry
    else if nat_lt y (i + 1 + event_count body) then needs_behind (Some i) body (i + 1) y
    else only (Some (i + event_count body))
needs_behind entry (chain left right) i y =
    if nat_lt y (i + event_count left) then needs_behind entry left i y
    else needs_behind (Some (i + event_count left - 1)) right (i + event_count left) y
needs_behind entry (seq split left right) i y =
    if nat_eq y i then only entry
    else if nat_lt y (i + 1 + (event_count left + event_count right)) then
    (if nat_lt y (i + 1 + event_count left) then needs_behind (Some i) left (i + 1) y
    else needs_behind (Some (i + 1 + event_count left - 1)) right (i + 1 + event_count left) y)
    else only (Some (i + (event_count left + event_count right)))
needs_behind entry (par split left right) i y =
    if nat_eq y i then only entry
    else if nat_lt y (i + 1 + (event_count left + event_count right)) then
    (if nat_lt y (i + 1 + event_count left) then needs_behind (Some i) left (i + 1) y
    else needs_behind (Some i) right (i + 1 + event_count left) y)
    else record { first = Some (i + event_count left); second = Some (i + (event_count left + event_count right)) }

-- the direct predecessors of y in a phrase, rising; none where y is no event of it
abbrev pub needs_of : Term → ℕ → Needs
needs_of phrase y = if nat_lt y (event_count phrase) then needs_behind None phrase 0 y else only None

-- the needs are the direct predecessors of y in a phrase that starts at 0, rising
pub record AreNeeds (phrase : Term) (y : ℕ) (needs : Needs) : Type 0 where
  pub each : (x : ℕ) → Names needs x ↔ IsDirectlyBefore phrase 0 x y
  pub rising : (x second : ℕ) → needs.second ≡ Some second → needs.first ≡ Some x → x < second
  pub first_filled : needs.first ≡ None → needs.second ≡ None
