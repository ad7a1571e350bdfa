-- Sessions that a schedule plays, while it plays them and in the end (this project's own).
use Rattle.std.specs.Prelude.{◌≡◌, ◌<◌, ◌+◌, ◌-◌, ℕ, true, false, List, [], ◌∷◌, Option, Result, length, slice_set}
use Rattle.std.specs.List.{remove}
use Rattle.bench_trait.specs.declared.ask.Ask.{Ask}
use Rattle.bench_trait.specs.declared.bench.BenchFault.{BenchFault}
use Rattle.bench_trait.specs.declared.bench.MeasureError.{MeasureError}
use Rattle.session_model.specs.Session.{Session}
use Rattle.session_runs.specs.Schedule.{Walked, is_running, is_starving, one_starves, entries_at_most, after_rounds, scheduled}
use Rattle.session_runs.specs.Played.{AllMeasured}
use Rattle.session_walk.specs.Drawn.{open_ones}

-- these sessions stand like this after some rounds of the schedule of a number, which draws from this next:
-- there is a table of results with which they do, and those that stand in their histories are of the bench
pub record AreUnderWay (Gives : Ask → List ℕ → Type 0) (Fails : Ask → BenchFault → Type 0) (Starves : Ask → Type 0) (places : List (List ℕ)) (keys : List (List ℕ × List ℕ)) (sessions : List Session) (number : ℕ) (all : List Walked) (from : Option ℕ) : Type 0 where
  pub results : ℕ → ℕ → Result (List ℕ) MeasureError
  pub count : ℕ
  pub stand : after_rounds places keys results sessions number count ≡ record { all = all; from = from }
  pub measured : AllMeasured Gives Fails Starves results 0 all

-- the same, where these are the open ones, and none is starved
pub record IsWalking (Gives : Ask → List ℕ → Type 0) (Fails : Ask → BenchFault → Type 0) (Starves : Ask → Type 0) (places : List (List ℕ)) (keys : List (List ℕ × List ℕ)) (sessions : List Session) (number : ℕ) (all : List Walked) (going : List ℕ) (from : Option ℕ) : Type 0 where
  pub under_way : AreUnderWay Gives Fails Starves places keys sessions number all from
  pub going_are : going ≡ open_ones 0 all
  pub fed : one_starves all ≡ false

-- the entries in the histories of these sessions, and how many more can come
abbrev pub entries_in : List Walked → ℕ
entries_in [] = 0
entries_in (walked ∷ all) = length walked.history + entries_in all

abbrev pub sessions_of : List Walked → List Session
sessions_of [] = []
sessions_of (walked ∷ all) = walked.session ∷ sessions_of all

abbrev pub entries_left : List Walked → ℕ
entries_left all = entries_at_most (sessions_of all) - entries_in all

-- one round on: the open session at this index, which has this number, has become this one; it stays among
-- the open ones while it runs, and leaves them when it ends; and fewer entries are left
pub record IsRoundOn (Gives : Ask → List ℕ → Type 0) (Fails : Ask → BenchFault → Type 0) (Starves : Ask → Type 0) (places : List (List ℕ)) (keys : List (List ℕ × List ℕ)) (sessions : List Session) (number : ℕ) (all : List Walked) (going : List ℕ) (drawn played : ℕ) (after : Walked) (later : Option ℕ) : Type 0 where
  pub stays : is_running after.standing.state ≡ true → IsWalking Gives Fails Starves places keys sessions number (slice_set all played after) going later
  pub ends : is_running after.standing.state ≡ false → is_starving after.standing.state ≡ false → IsWalking Gives Fails Starves places keys sessions number (slice_set all played after) (remove going drawn) later
  pub fewer : entries_left (slice_set all played after) < entries_left all

-- these sessions stand as the schedule of a number plays them, and none is starved: there is a table of results
-- with which they do, and those that stand in their histories are of the bench
pub record AreScheduled (Gives : Ask → List ℕ → Type 0) (Fails : Ask → BenchFault → Type 0) (Starves : Ask → Type 0) (places : List (List ℕ)) (keys : List (List ℕ × List ℕ)) (sessions : List Session) (number : ℕ) (all : List Walked) : Type 0 where
  pub results : ℕ → ℕ → Result (List ℕ) MeasureError
  pub stand : scheduled places keys results sessions number ≡ all
  pub fed : one_starves all ≡ false
  pub measured : AllMeasured Gives Fails Starves results 0 all
