-- The texts in which sessions are reported that are not run. They are this project's own: each line ends
-- with LF, numbers are decimal.
use Rattle.std.specs.Prelude.{◌+◌, ℕ, List, [], ◌∷◌, ◌++◌, codes, decimal}
use Rattle.phrase_tree.specs.Numbering.{event_count}
use Rattle.phrase_reader.specs.Canonical.{canonical}
use Rattle.evidence_types.specs.Shape.{shape_at}
use Rattle.evidence_types.specs.ShapeText.{shape_text}
use Rattle.evidence_types.specs.Measure.{worst_weight}
use Rattle.avm_code.specs.Listing.{listing_text}
use Rattle.avm_compile.specs.Program.{program_of}
use Rattle.session_model.specs.Session.{Session}

-- the texts of the items of a list, the first of which has this number, in their order
abbrev pub numbered : {A : Type 0} → (ℕ → A → List ℕ) → ℕ → List A → List ℕ
numbered text_of number [] = []
numbered text_of number (item ∷ rest) = text_of number item ++ numbered text_of (number + 1) rest

-- the first words of a session's lines
abbrev pub session_head : ℕ → List ℕ
session_head number = codes "session " ++ decimal number

-- a number of events, and a weight
abbrev pub sizes_text : ℕ → ℕ → List ℕ
sizes_text events weight = codes " ok events " ++ (decimal events ++ (codes " weight " ++ decimal weight))

-- these with a text of a phrase
abbrev pub checked_text : ℕ → ℕ → ℕ → List ℕ → List ℕ
checked_text number events weight phrase =
    session_head number ++ (sizes_text events weight ++ (codes "\nphrase " ++ (phrase ++ 10 ∷ [])))

-- how many events a session's phrase has, what its evidence weighs at most, and its canonical text
abbrev pub check_text : ℕ → Session → List ℕ
check_text number session =
    checked_text number (event_count session.phrase) (worst_weight session.phrase) (canonical session.phrase)

-- the shape of a session's evidence
abbrev pub shape_line : ℕ → Session → List ℕ
shape_line number session =
    session_head number ++ (codes " shape " ++ (shape_text (shape_at session.phrase session.root) ++ 10 ∷ []))

-- the blocks that a session's phrase is compiled to
abbrev pub code_text : ℕ → Session → List ℕ
code_text number session =
    session_head number ++ (codes " code\n" ++ listing_text (program_of session.phrase session.root))
