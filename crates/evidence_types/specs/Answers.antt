-- Lists of answers, each with the number of its event.
use Rattle.std.specs.Prelude.{◌<◌, ℕ, List, [], ◌∷◌, nat_eq, if◌then◌else◌}

-- every event in the list is after this one
abbrev pub AllAfter : ℕ → List (ℕ × List ℕ) → Type 0
AllAfter event [] = Unit {0}
AllAfter event (pair ∷ rest) = (event < pair.0) × AllAfter event rest

-- the events rise
abbrev pub IsRising : List (ℕ × List ℕ) → Type 0
IsRising [] = Unit {0}
IsRising (pair ∷ rest) = AllAfter pair.0 rest × IsRising rest

-- the answer of an event; no bytes where there is none
abbrev pub answer_at : List (ℕ × List ℕ) → ℕ → List ℕ
answer_at [] event = []
answer_at (pair ∷ rest) event = if nat_eq pair.0 event then pair.1 else answer_at rest event

-- the events that have an answer, in their order
abbrev pub answered : List (ℕ × List ℕ) → List ℕ
answered [] = []
answered (pair ∷ rest) = pair.0 ∷ answered rest
