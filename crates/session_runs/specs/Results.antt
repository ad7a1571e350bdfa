-- How many results a history has for an event, and tables that agree there (this project's own).
use Rattle.std.specs.Prelude.{◌≡◌, ◌≤◌, ◌+◌, ℕ, List, [], ◌∷◌, Result, nat_eq, if◌then◌else◌}
use Rattle.bench_trait.specs.declared.bench.MeasureError.{MeasureError}
use Rattle.session_runs.specs.Standing.{Entry, opened, played, answered, failed, starved}
use Rattle.session_runs.specs.Schedule.{Walked}

-- its answers, its faults, and its wants of memory
abbrev pub results_of : ℕ → List Entry → ℕ
results_of n [] = 0
results_of n (opened ∷ entries) = results_of n entries
results_of n (played pass move ∷ entries) = results_of n entries
results_of n (answered pass event bytes ∷ entries) = (if nat_eq event n then 1 else 0) + results_of n entries
results_of n (failed pass event fault ∷ entries) = (if nat_eq event n then 1 else 0) + results_of n entries
results_of n (starved pass event ∷ entries) = (if nat_eq event n then 1 else 0) + results_of n entries

-- two tables agree wherever a result stands in the history of one of these sessions; `number` is that of the first
abbrev pub AgreeSoFar : (ℕ → ℕ → Result (List ℕ) MeasureError) → (ℕ → ℕ → Result (List ℕ) MeasureError) → ℕ → List Walked → Type 0
AgreeSoFar results others number [] = Unit {0}
AgreeSoFar results others number (walked ∷ all) =
    ((event : ℕ) → 1 ≤ results_of event walked.history → others number event ≡ results number event) × AgreeSoFar results others (number + 1) all
