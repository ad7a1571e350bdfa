-- Which entries are written, and which sessions starved.
use Rattle.session_runs.specs.Standing.{Entry, opened, played, answered, failed, starved, State, is_open, is_done, has_failed, has_starved}

-- an entry is neither the opening nor want of memory
abbrev pub IsWritten : Entry → Type 0
IsWritten opened = ⊥
IsWritten (played pass move) = Unit {0}
IsWritten (answered pass event answer) = Unit {0}
IsWritten (failed pass event fault) = Unit {0}
IsWritten (starved pass event) = ⊥

-- a session starved
abbrev pub HasStarved : State → Type 0
HasStarved is_open = ⊥
HasStarved (is_done value) = ⊥
HasStarved (has_failed event fault) = ⊥
HasStarved (has_starved event) = Unit {0}
