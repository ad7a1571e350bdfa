-- The history of a session as a turn cell sees it: its opening, and each entry behind it with its pass (this
-- project's own).
use Rattle.std.specs.Prelude.{ℕ, List, [], ◌∷◌, map, refl}
use Rattle.turn_cell.specs.declared.chronicle.Entry.{Entry as CellEntry}
use Rattle.turn_cell.specs.declared.chronicle.Entry.TheVariants.{Opened}
use Rattle.turn_cell.specs.History.{entries, IsHistory}
use Rattle.session_book.specs.declared.entry.Entry.{Entry}
use Rattle.session_core.specs.Session.{pass_of}

-- an entry with the number of the pass that made it
abbrev pub with_pass : Entry → ℕ × Entry
with_pass entry = (pass_of entry, entry)

-- an opening, and behind it entries
abbrev pub chronicle_of : {O : Type 0} → O → List Entry → List (CellEntry O Entry)
chronicle_of opening items = Opened opening ∷ entries (map with_pass items)

abbrev pub is_history : {O : Type 0} → (opening : O) → (items : List Entry) → IsHistory (chronicle_of opening items)
is_history opening items = record { opening = opening; items = map with_pass items; is = refl }
