-- The names that were pushed and those that are still to come are together all of them.
use Rattle.std.proofs.Common.{◌≡◌, ◌++◌, ◌≤◌, length, map, drop, vec_len, vec_capacity}
use Rattle.session_core.specs.Named.{name_in}
use Rattle.session_core.proofs.opening.names_of.Given as goal

abbrev pub invariant-loop-entry : goal.invariant-loop-entry
invariant-loop-entry l =
    (l.names.items ++ map name_in (drop l.entry-index l.entries) ≡ map name_in l.entries)
    × (vec_len l.names ≡ l.entry-index)
    × (length l.entries ≤ vec_capacity l.names)
