-- The words of a job's fields and of what may be wrong with them, and how a path in a job is written.
-- They are this project's own.
use Rattle.std.specs.Prelude.{ℕ, List, [], ◌++◌, Option, None, Some, codes, decimal}
use Rattle.job_values.specs.declared.words.Field.{Field}
use Rattle.job_values.specs.declared.words.Field.TheVariants as fields
use Rattle.job_values.specs.declared.path.Section.{Section}
use Rattle.job_values.specs.declared.path.Section.TheVariants as sections
use Rattle.job_values.specs.declared.path.FieldKind.{FieldKind}
use Rattle.job_values.specs.declared.path.FieldKind.TheVariants as kinds
use Rattle.job_values.specs.declared.path.FieldAt.{FieldAt}

-- the key of a field
abbrev pub field_word : Field → List ℕ
field_word fields.Places = codes "places"
field_word fields.Artefacts = codes "artefacts"
field_word fields.Sessions = codes "sessions"
field_word fields.References = codes "references"
field_word fields.Bundle = codes "bundle"
field_word fields.Name = codes "name"
field_word fields.Key = codes "key"
field_word fields.Asks = codes "asks"
field_word fields.Sees = codes "sees"
field_word fields.Offers = codes "offers"
field_word fields.Place = codes "place"
field_word fields.Bytes = codes "bytes"
field_word fields.Root = codes "root"
field_word fields.Nonce = codes "nonce"
field_word fields.Phrase = codes "phrase"
field_word fields.Target = codes "target"
field_word fields.Asp = codes "asp"
field_word fields.Args = codes "args"
field_word fields.Answer = codes "answer"
field_word fields.Session = codes "session"

-- the word of a part of the job; none for the job itself
abbrev pub section_word : Section → List ℕ
section_word sections.Top = []
section_word sections.Places = codes "places"
section_word sections.Artefacts = codes "artefacts"
section_word sections.Sessions = codes "sessions"
section_word sections.References = codes "references"
section_word sections.Bundle = codes "bundle"

-- the word for what is wrong
abbrev pub kind_word : FieldKind → List ℕ
kind_word kinds.Missing = codes "missing"
kind_word kinds.WrongKind = codes "wrong-kind"
kind_word kinds.BadHex = codes "bad-hex"
kind_word kinds.BadName = codes "bad-name"
kind_word kinds.OutOfRange = codes "out-of-range"
kind_word kinds.Unknown = codes "unknown"

-- an index in square brackets
abbrev pub index_text : ℕ → List ℕ
index_text index = codes "[" ++ (decimal index ++ codes "]")

-- a part of the job, with the index of the item where it is a list
abbrev pub section_text : Section → ℕ → List ℕ
section_text sections.Top index = []
section_text sections.Places index = codes ".places" ++ index_text index
section_text sections.Artefacts index = codes ".artefacts" ++ index_text index
section_text sections.Sessions index = codes ".sessions" ++ index_text index
section_text sections.References index = codes ".references" ++ index_text index
section_text sections.Bundle index = codes ".bundle"

-- a field behind a dot, where there is one
abbrev pub field_text : Option Field → List ℕ
field_text None = []
field_text (Some field) = codes "." ++ field_word field

-- an item of a field, where there is one
abbrev pub item_text : Option ℕ → List ℕ
item_text None = []
item_text (Some item) = index_text item

-- a path in a job, from the dollar sign that stands for the job itself
abbrev pub path_text : FieldAt → List ℕ
path_text at = codes "$" ++ (section_text at.section at.index ++ (field_text at.field ++ item_text at.item))
