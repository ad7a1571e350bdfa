-- Which programs a session's machines can run between its places.
use Rattle.std.specs.Prelude.{◌<◌, ◌^◌, ℕ, Bool, true, false, IsTrue, List, [], ◌∷◌, length, nat_eq, if◌then◌else◌}
use Rattle.std.specs.List.{AllByRecursion}
use Rattle.std.specs.Cmp.Lexicographic.{pointwise}
use Rattle.phrase_tree.specs.Term.{Term}
use Rattle.phrase_tree.specs.Numbering.{IsSized, event_count}
use Rattle.phrase_tree.specs.Events.{Kind, requests, events_of}
use Rattle.avm_compile.specs.Program.{program_of}
use Rattle.avm_core.specs.Programs.{IsKeyed}
use Rattle.machine_world.specs.World.{CanPlay, IsCounted}

-- the place is among these
abbrev pub is_listed : List (List ℕ) → List ℕ → Bool
is_listed [] place = false
is_listed (first ∷ rest) place = if pointwise nat_eq first place then true else is_listed rest place

-- what happens at an event asks no other place than these
abbrev pub asks_listed : List (List ℕ) → Kind → Bool
asks_listed places (requests asked) = is_listed places asked
asks_listed places _ = true

-- the program of a sized phrase can be run between places that have each that the phrase asks, with keys of
-- the places at which its blocks seal
abbrev pub PhrasesPlay : Type 0
PhrasesPlay =
    (phrase : Term) (place : List ℕ) (keys : List (List ℕ × List ℕ)) (places : List (List ℕ)) → IsSized phrase → AllByRecursion (IsKeyed keys) (program_of phrase place) → AllByRecursion (λ one. IsTrue (asks_listed places one.kind)) (events_of phrase place 0) → length places < 2 ^ 32
    → CanPlay (program_of phrase place) keys places × IsCounted (program_of phrase place) (event_count phrase)
