-- The text in which the events of a session's phrase are reported. It is this project's own: each line
-- ends with LF, and numbers are decimal.
use Rattle.std.specs.Prelude.{ℕ, List, [], ◌∷◌, ◌++◌, Option, Some, None, codes, decimal}
use Rattle.phrase_tree.specs.Term.{Term}
use Rattle.phrase_tree.specs.Numbering.{event_count}
use Rattle.phrase_tree.specs.Events.{Kind, copies, measures, measures_at, seals, hashes, empties, requests, replies, splits, joins, Event, events_of}
use Rattle.event_system.specs.declared.direct.Needs.{Needs}
use Rattle.event_system.specs.Needs.{needs_of}
use Rattle.phrase_tree.specs.Text.{asp_text}

-- what happens at an event: a word, and the measurement or the place where there is one
abbrev pub kind_text : Kind → List ℕ
kind_text copies = codes "cpy"
kind_text (measures asp) = codes "usm " ++ asp_text asp
kind_text (measures_at target asp) = codes "kim " ++ (target ++ 32 ∷ asp_text asp)
kind_text seals = codes "sig"
kind_text hashes = codes "hsh"
kind_text empties = codes "nul"
kind_text (requests asked) = codes "req " ++ asked
kind_text (replies asked) = codes "rpl " ++ asked
kind_text splits = codes "split"
kind_text joins = codes "join"

-- the first direct predecessor behind the word `after`, and the second behind a space; nothing for none
abbrev pub first_text : Option ℕ → List ℕ
first_text None = []
first_text (Some number) = codes " after " ++ decimal number

abbrev pub second_text : Option ℕ → List ℕ
second_text None = []
second_text (Some number) = 32 ∷ decimal number

abbrev pub after_text : Needs → List ℕ
after_text needs = first_text needs.first ++ second_text needs.second

-- a line: the number, what happens in words, the place, and the direct predecessors
abbrev pub line_text : ℕ → List ℕ → List ℕ → Needs → List ℕ
line_text number kind place needs =
    codes "event " ++ (decimal number ++ (32 ∷ (kind ++ (codes " at " ++ (place ++ (after_text needs ++ 10 ∷ []))))))

abbrev pub event_line : Event → Needs → List ℕ
event_line event needs = line_text event.number (kind_text event.kind) event.place needs

-- a line for each event, with the direct predecessors that its number has
abbrev pub event_lines : (ℕ → Needs) → List Event → List ℕ
event_lines needs [] = []
event_lines needs (event ∷ rest) = event_line event (needs event.number) ++ event_lines needs rest

-- the report of a session: how many events its phrase has, and a line for each in the order of the
-- event list, with its direct predecessors
abbrev pub events_text : ℕ → Term → List ℕ → List ℕ
events_text session phrase place =
    codes "session " ++ (decimal session ++ (codes " events " ++ (decimal (event_count phrase) ++ (10 ∷ event_lines (needs_of phrase) (events_of phrase place 0)))))
