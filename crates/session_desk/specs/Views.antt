-- What a pass of a desk knows (this project's own).
use Rattle.std.specs.Prelude.{◌≡◌, ℕ, List, [], ◌∷◌, ◌++◌, ◌==◌, Option, Some, map, if◌then◌else◌}
use Rattle.atomic_table.specs.Seated.{TableId}
use Rattle.session_book.specs.declared.entry.Entry.{Entry}
use Rattle.session_core.specs.Session.{Seen, pass_of}

-- what a pass knows of one session
pub record View (O : Type 0) : Type 0 where
  -- which cell keeps the session
  pub cell : TableId
  -- what the session was opened with
  pub opening : Option O
  -- the entries behind its opening, as far as the pass has seen them, and the pass's own among these
  pub seen : List Entry
  pub mine : List Entry
  -- how often the pass had the session's turn, and the number of its last taking, or 0
  pub takings : ℕ
  pub last : ℕ
  -- how often it found the turn another's or worn out, and the taking that it met the last time, or 0
  pub losses : ℕ
  pub met : ℕ

-- a pass: its number, and what it knows of each session of its desk, in their order
pub record Known (O : Type 0) : Type 0 where
  pub number : ℕ
  pub views : List (View O)

-- the entries of a pass among these
abbrev pub own : ℕ → List Entry → List Entry
own number [] = []
own number (entry ∷ entries) = if pass_of entry == number then entry ∷ own number entries else own number entries

-- the cells of which a pass knows
abbrev pub cells_of : {O : Type 0} → List (View O) → List TableId
cells_of views = map (λ view. view.cell) views

-- what the sessions were opened with
abbrev pub openings_of : {O : Type 0} → List (View O) → List (Option O)
openings_of views = map (λ view. view.opening) views

-- the pass was made by the desk of these cells
abbrev pub IsPassOf : {O : Type 0} → List TableId → Known O → Type 0
IsPassOf desk pass = cells_of pass.views ≡ desk

-- a session that was opened with this, with these entries behind its opening
abbrev pub as_seen : {O : Type 0} → O → List Entry → Seen O
as_seen opening items = record { opening = opening; items = items }

-- the same with entries more
abbrev pub with_entries : {O : Type 0} → List Entry → Seen O → Seen O
with_entries made seen = record { opening = seen.opening; items = seen.items ++ made }

-- a pass of this number knows what the session was opened with, and its own entries are just those of its number
-- among those that it has seen
pub record IsKnown {O : Type 0} (number : ℕ) (view : View O) : Type 0 where
  pub opening : O
  pub opened : view.opening ≡ Some opening
  pub own_is : view.mine ≡ own number view.seen
