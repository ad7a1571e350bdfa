-- The entries of a session's history, as the code hands them out and as a book keeps them (this project's
-- own).
use Rattle.std.specs.Prelude.{ℕ, List, [], map, slice_index_or}
use Rattle.session_runs.specs.Standing.{Move as SessionMove, run, ask, deliver, Entry as SessionEntry, opened, played, answered, failed, starved}
use Rattle.machine_world.specs.Cells.{block_of}
use Rattle.session_book.specs.declared.entry.Move.{Move}
use Rattle.session_book.specs.declared.entry.Move.TheVariants.{Run, Ask, Deliver}
use Rattle.session_book.specs.declared.entry.Entry.{Entry}
use Rattle.session_book.specs.declared.entry.Entry.TheVariants as entry
use Rattle.session_book.specs.declared.entry.Note.{Note}
use Rattle.session_book.specs.declared.entry.Note.TheVariants as note
use Rattle.session_book.specs.declared.book.SessionBook.{SessionBook}

-- the move of a history that it is
abbrev pub move_of : Move → SessionMove
move_of (Run name) = run (block_of name)
move_of (Ask name) = ask (block_of name)
move_of (Deliver place) = deliver place

-- the entry of a history that it is
abbrev pub entry_of : Entry → SessionEntry
entry_of entry.Opened = opened
entry_of (entry.Played pass step) = played pass (move_of step)
entry_of (entry.Answered pass event answer) = answered pass event answer
entry_of (entry.Failed pass event fault) = failed pass event fault
entry_of (entry.Starved pass event) = starved pass event

-- an answer with its event, by its index
abbrev pub answer_in : List (ℕ × List ℕ) → ℕ → ℕ × List ℕ
answer_in answers at = slice_index_or answers at (0, [])

-- the entry that is kept so, among these answers
abbrev pub entry_with : List (ℕ × List ℕ) → Note → SessionEntry
entry_with answers note.Opened = opened
entry_with answers (note.Ran pass name) = played pass (run (block_of name))
entry_with answers (note.Asked pass name) = played pass (ask (block_of name))
entry_with answers (note.Delivered pass place) = played pass (deliver place)
entry_with answers (note.Answered pass at) = answered pass (answer_in answers at).0 (answer_in answers at).1
entry_with answers (note.Failed pass event fault) = failed pass event fault
entry_with answers (note.Starved pass event) = starved pass event

-- the history that a book keeps
abbrev pub history_of : SessionBook → List SessionEntry
history_of book = map (entry_with book.answers.items) book.entries.items
