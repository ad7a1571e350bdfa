-- What the passes of a desk know when it is opened (this project's own).
use Rattle.std.specs.Prelude.{◌≡◌, ◌<◌, ◌≤◌, ℕ, List, [], ◌∷◌, ◌++◌, Some, length, slice_get}
use Rattle.atomic_table.specs.Seated.{TableId}
use Rattle.bench_trait.specs.declared.artefacts.Artefact.{Artefact}
use Rattle.turn_cell.specs.declared.pass.CellPass.{CellPass}
use Rattle.session_book.specs.declared.entry.Entry.{Entry}
use Rattle.session_core.specs.declared.opened.Opened.{Opened}
use Rattle.session_core.specs.Session.{Seen}
use Rattle.session_desk.specs.Views.{View, Known, openings_of, IsPassOf}
use Rattle.session_desk.specs.Seats.{view_of}
use Rattle.session_desk.specs.Answers.{IsOver, AreOver}

-- of a session: its opening alone
abbrev pub new_view : {O : Type 0} → TableId → O → View O
new_view cell opening =
    record { cell = cell; opening = Some opening; seen = []; mine = []; takings = 0; last = 0; losses = 0; met = 0 }

-- of each session, in their order
abbrev pub new_views : {O : Type 0} → List TableId → List (Seen O) → List (View O)
new_views [] sessions = []
new_views (cell ∷ cells) [] = []
new_views (cell ∷ cells) (session ∷ sessions) = new_view cell session.opening ∷ new_views cells sessions

-- a desk of these sessions, and as many passes of it as this, in the order of their numbers
pub record AreOpened {O : Type 0} (sessions : List (Seen O)) (many : ℕ) (desk : List TableId) (passes : List (Known O)) : Type 0 where
  pub cells : length desk ≡ length sessions
  pub count : length passes ≡ many
  pub each : (number : ℕ) (pass : Known O) → slice_get passes number ≡ Some pass → pass ≡ record { number = number; views = new_views desk sessions }

-- each session is just opened
abbrev pub AreJustOpened : {O : Type 0} → List (Seen O) → Type 0
AreJustOpened [] = Unit {0}
AreJustOpened (session ∷ sessions) = (session.items ≡ []) × AreJustOpened sessions

-- a pass with one seat more
abbrev pub seated : {O : Type 0} → Known O → CellPass (Seen O) O Entry → Known O
seated pass seat = record { number = pass.number; views = pass.views ++ view_of seat ∷ [] }

-- a pass is one of these with the seat of its index
pub record IsSeated {O : Type 0} (passes : List (Known O)) (seats : List (CellPass (Seen O) O Entry)) (index : ℕ) (after : Known O) : Type 0 where
  pub pass : Known O
  pub seat : CellPass (Seen O) O Entry
  pub pass_at : slice_get passes index ≡ Some pass
  pub seat_at : slice_get seats index ≡ Some seat
  pub is : after ≡ seated pass seat

-- of these passes those from an index on have each the seat of its index, and those before it stay
pub record AreSeatedFrom {O : Type 0} (index : ℕ) (passes : List (Known O)) (seats : List (CellPass (Seen O) O Entry)) (after : List (Known O)) : Type 0 where
  pub count : length after ≡ length passes
  pub before : (at : ℕ) (pass : Known O) → at < index → slice_get after at ≡ Some pass → slice_get passes at ≡ Some pass
  pub behind : (at : ℕ) (pass : Known O) → index ≤ at → slice_get after at ≡ Some pass → IsSeated passes seats at pass

-- each session was opened with this bench and these artefacts
abbrev pub AreOpenedOver : {B : Type 0} → B → List Artefact → List (Seen (Opened B)) → Type 0
AreOpenedOver bench artefacts [] = Unit {0}
AreOpenedOver bench artefacts (session ∷ sessions) = IsOver bench artefacts (Some session.opening) × AreOpenedOver bench artefacts sessions

-- a pass of the desk of these cells, whose sessions were all opened with this bench and these artefacts
pub record IsFit {B : Type 0} (bench : B) (artefacts : List Artefact) (desk : List TableId) (pass : Known (Opened B)) : Type 0 where
  pub made : IsPassOf desk pass
  pub over : AreOver bench artefacts (openings_of pass.views)
