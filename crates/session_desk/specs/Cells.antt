-- The cells of a desk.
use Rattle.std.specs.Prelude.{List, map}
use Rattle.atomic_table.specs.Seated.{TableId}
use Rattle.turn_cell.specs.declared.cell.TurnCell.{TurnCell}
use Rattle.turn_cell.specs.Passes.{cell_id}
use Rattle.session_book.specs.declared.entry.Entry.{Entry}
use Rattle.session_core.specs.Session.{Seen}

-- their identities
abbrev pub ids_of : {O : Type 0} → List (TurnCell (Seen O) O Entry) → List TableId
ids_of cells = map cell_id cells
