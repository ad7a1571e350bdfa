-- What a pass has seen of sessions that came to their end (this project's own).
use Rattle.std.specs.Prelude.{◌≡◌, ◌≢◌, ◌<◌, ◌≤◌, ℕ, List, Option, Some, length, slice_get}
use Rattle.atomic_table.specs.Seated.{TableId}
use Rattle.bench_trait.specs.declared.artefacts.Artefact.{Artefact}
use Rattle.bench_trait.specs.declared.ask.Ask.{Ask as Question}
use Rattle.bench_trait.specs.declared.bench.BenchFault.{BenchFault}
use Rattle.session_model.specs.declared.record.Record.{Record}
use Rattle.session_model.specs.Recorded.{recorded}
use Rattle.session_runs.specs.Standing.{Standing, is_open}
use Rattle.session_runs.specs.History.{IsLegal, record_of}
use Rattle.session_core.specs.declared.opened.Opened.{Opened}
use Rattle.session_core.specs.Session.{session_in, keys_in, history}
use Rattle.session_desk.specs.Views.{View, Known, as_seen}
use Rattle.session_desk.specs.Answers.{IsAt}
use Rattle.session_desk.specs.Opening.{IsFit}

-- what was seen of a session is a legal history of the session that was opened, by what its bench gives over
-- its artefacts, and the session isn't open after it
pub record HasEnded {B : Type 0} (Gives : Opened B → Question → List ℕ → Type 0) (Fails : Opened B → Question → BenchFault → Type 0) (Starves : Opened B → Question → Type 0) (view : View (Opened B)) : Type 0 where
  pub opening : Opened B
  pub opened : view.opening ≡ Some opening
  pub standing : Standing
  pub legal : IsLegal (Gives opening) (Fails opening) (Starves opening) (session_in opening) (keys_in opening) (history (as_seen opening view.seen)) standing
  pub closed : standing.state ≢ is_open

-- the same, and this is the record of that history
pub record HasRecord {B : Type 0} (Gives : Opened B → Question → List ℕ → Type 0) (Fails : Opened B → Question → BenchFault → Type 0) (Starves : Opened B → Question → Type 0) (found : Record) (view : View (Opened B)) : Type 0 where
  pub opening : Opened B
  pub opened : view.opening ≡ Some opening
  pub standing : Standing
  pub legal : IsLegal (Gives opening) (Fails opening) (Starves opening) (session_in opening) (keys_in opening) (history (as_seen opening view.seen)) standing
  pub is : record_of (session_in opening) standing standing.state ≡ Some (recorded found)

-- the views of these indices, from one to below another, are so
abbrev pub AreBetween : {O : Type 0} → (View O → Type 0) → ℕ → ℕ → List (View O) → Type 0
AreBetween Is from to views = (at : ℕ) → from ≤ at → at < to → IsAt at Is views

-- each session of a desk of this many has its record, in order
pub record AreRecords {O : Type 0} (many : ℕ) (Has : Record → View O → Type 0) (records : List Record) (views : List (View O)) : Type 0 where
  pub count : length records ≡ many
  pub each : (at : ℕ) (found : Record) → slice_get records at ≡ Some found → IsAt at (Has found) views
