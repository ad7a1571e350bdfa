-- How what a pass knows stands to its seat at a cell.
use Rattle.std.specs.Prelude.{◌≡◌, ℕ, false, List, [], ◌∷◌, Some, map, slice_get}
use Rattle.turn_cell.specs.declared.chronicle.Entry.{Entry as CellEntry}
use Rattle.turn_cell.specs.declared.chronicle.Entry.TheVariants.{Opened, Made}
use Rattle.turn_cell.specs.declared.pass.CellPass.{CellPass}
use Rattle.turn_cell.specs.History.{made_by}
use Rattle.turn_cell.specs.Passes as seat
use Rattle.session_book.specs.declared.entry.Entry.{Entry}
use Rattle.session_core.specs.Session.{Seen}
use Rattle.session_core.specs.Chronicle.{chronicle_of}
use Rattle.session_desk.specs.Views.{View}

-- the items of a history, without their numbers
abbrev pub items_in : {O I : Type 0} → List (CellEntry O I) → List I
items_in [] = []
items_in (Opened opening ∷ entries) = items_in entries
items_in (Made number item ∷ entries) = item ∷ items_in entries

-- what the pass of a seat knows of the session
abbrev pub view_of : {O : Type 0} → CellPass (Seen O) O Entry → View O
view_of pass =
    record {
      cell = seat.maker_id pass;
      opening = seat.opening pass;
      seen = items_in (seat.seen pass);
      mine = items_in (seat.mine pass);
      takings = seat.takings pass;
      last = seat.last pass;
      losses = seat.losses pass;
      met = seat.met pass;
    }

abbrev pub views_of : {O : Type 0} → List (CellPass (Seen O) O Entry) → List (View O)
views_of passes = map view_of passes

-- the seat of a pass of this number between two calls
pub record IsSeat {O : Type 0} (number : ℕ) (pass : CellPass (Seen O) O Entry) : Type 0 where
  pub number_is : seat.number pass ≡ number
  pub idle : seat.holds pass ≡ false
  pub begun : O
  pub seen_is : seat.seen pass ≡ chronicle_of begun (items_in (seat.seen pass))
  pub own : seat.mine pass ≡ made_by number (seat.seen pass)

-- all these are
abbrev pub AreSeats : {O : Type 0} → ℕ → List (CellPass (Seen O) O Entry) → Type 0
AreSeats number passes = (at : ℕ) (pass : CellPass (Seen _) _ Entry) → slice_get passes at ≡ Some pass → IsSeat number pass
