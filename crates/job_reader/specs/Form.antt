-- The job that is written in a tree, with the table of its fields. An object's fields are read in the
-- order of the table, a list's items by index, each part wholly before the next; where the tree has
-- faults of form there is no job, but the fault at which the walk stops. The table is this project's own.
use Rattle.std.specs.Prelude.{◌+◌, ◌-◌, ℕ, Bool, not, List, [], ◌∷◌, length, Option, None, Some, Result, Ok, Err, is_some, if◌then◌else◌}
use Rattle.serde_json.specs.Data.{Data, Items, no_items, item}
use Rattle.serde_json.specs.Find.{get, as_object}
use Rattle.phrase_tree.specs.declared.measurement.Arg.{Arg}
use Rattle.bench_trait.specs.declared.artefacts.Artefact.{Artefact}
use Rattle.bench_trait.specs.declared.ask.AskKind.{AskKind}
use Rattle.bench_trait.specs.declared.ask.AskKind.TheVariants.{Usm, Kim}
use Rattle.place_check.specs.declared.entry.PlaceEntry.{PlaceEntry}
use Rattle.reference_book.specs.declared.reference.Reference.{Reference}
use Rattle.job_values.specs.declared.words.Field.{Field}
use Rattle.job_values.specs.declared.words.Field.TheVariants as fields
use Rattle.job_values.specs.declared.path.Section.{Section}
use Rattle.job_values.specs.declared.path.Section.TheVariants as sections
use Rattle.job_values.specs.declared.path.FieldAt.{FieldAt}
use Rattle.job_values.specs.declared.path.FieldKind.{FieldKind}
use Rattle.job_values.specs.declared.path.FieldKind.TheVariants.{Missing, WrongKind, Unknown}
use Rattle.job_values.specs.Words.{field_word}
use Rattle.job_values.specs.Reading.{any_bytes_at, arg_of, bytes_at, list_at, name_at, name_of, number_at, optional_list_at, optional_name_at, text_at, unknown_in}
use Rattle.job_reader.specs.declared.accepted.BundleIn.{BundleIn}

-- a session as it is written: its phrase is still a text
pub record WrittenSession : Type 0 where
  pub root : List ℕ
  pub nonce : List ℕ
  pub phrase : List ℕ

-- a job as it is written
pub record Written : Type 0 where
  pub places : List PlaceEntry
  pub artefacts : List Artefact
  pub sessions : List WrittenSession
  pub references : List Reference
  pub bundle : Option BundleIn

-- a fault of form: where it stands, and what it is
pub record Fault : Type 0 where
  pub at : FieldAt
  pub kind : FieldKind

-- the next step, where there is no fault yet
infixl 10 ◌>>=◌
abbrev pub ◌>>=◌ : {A B : Type 0} → Result A Fault → (A → Result B Fault) → Result B Fault
Ok value >>= next = next value
Err fault >>= next = Err fault

-- what a reader answers about the part of the tree that stands there
abbrev pub located : {A : Type 0} → FieldAt → Result A FieldKind → Result A Fault
located at (Ok value) = Ok value
located at (Err kind) = Err (record { at = at; kind = kind })

-- the job itself, its bundle, or an item of one of its lists
abbrev pub whole : Section → ℕ → FieldAt
whole section index = record { section = section; index = index; field = None; item = None }

-- a field of it
abbrev pub field_of : Section → ℕ → Field → FieldAt
field_of section index field = record { section = section; index = index; field = Some field; item = None }

-- an item of the field
abbrev pub item_of : Section → ℕ → Field → ℕ → FieldAt
item_of section index field position = record { section = section; index = index; field = Some field; item = Some position }

-- a field of the job itself
abbrev pub top_field : Field → FieldAt
top_field field = field_of sections.Top 0 field

-- nothing is wrong where the test holds
abbrev pub unless : Bool → FieldKind → Result Unit FieldKind
unless holds kind = if holds then Ok tt else Err kind

abbrev pub is_object : Data → Result Unit FieldKind
is_object tree = unless (is_some (as_object tree)) WrongKind

-- an object has no other fields than these
abbrev pub has_only : List Field → Data → Result Unit FieldKind
has_only fields tree = unless (not (unknown_in tree fields)) Unknown

-- the items of a list, the first of them counted by a number, each read by its index
abbrev pub each : {A : Type 0} → (ℕ → Data → Result A Fault) → ℕ → Items → Result (List A) Fault
each read index no_items = Ok []
each read index (item tree rest) = do
  value ← read index tree
  values ← each read (index + 1) rest
  Ok (value ∷ values)

-- a list of names in a field that may be absent
abbrev pub name_in : Section → ℕ → Field → ℕ → Data → Result (List ℕ) Fault
name_in section index field position tree = located (item_of section index field position) (name_of tree)

unfoldable pub names_in : Section → ℕ → Field → ℕ → Data → Result (List (List ℕ)) Fault
names_in section index field most tree = do
  items ← located (field_of section index field) (optional_list_at tree field most)
  each (name_in section index field) 0 items

abbrev pub place_fields : List Field
place_fields = fields.Name ∷ fields.Key ∷ fields.Asks ∷ fields.Sees ∷ fields.Offers ∷ []

unfoldable pub place_in : ℕ → Data → Result PlaceEntry Fault
place_in index tree = do
  object ← located (whole sections.Places index) (is_object tree)
  name ← located (field_of sections.Places index fields.Name) (name_at tree fields.Name)
  key ← located (field_of sections.Places index fields.Key) (bytes_at tree fields.Key 16 128)
  asks ← names_in sections.Places index fields.Asks 64 tree
  sees ← names_in sections.Places index fields.Sees 64 tree
  offers ← names_in sections.Places index fields.Offers 256 tree
  only ← located (whole sections.Places index) (has_only place_fields tree)
  Ok (record { name = name; key = key; asks = asks; sees = sees; offers = offers })

abbrev pub artefact_fields : List Field
artefact_fields = fields.Place ∷ fields.Name ∷ fields.Bytes ∷ []

unfoldable pub artefact_in : ℕ → Data → Result Artefact Fault
artefact_in index tree = do
  object ← located (whole sections.Artefacts index) (is_object tree)
  place ← located (field_of sections.Artefacts index fields.Place) (name_at tree fields.Place)
  name ← located (field_of sections.Artefacts index fields.Name) (name_at tree fields.Name)
  bytes ← located (field_of sections.Artefacts index fields.Bytes) (any_bytes_at tree fields.Bytes)
  only ← located (whole sections.Artefacts index) (has_only artefact_fields tree)
  Ok (record { place = place; name = name; bytes = bytes })

abbrev pub session_fields : List Field
session_fields = fields.Root ∷ fields.Nonce ∷ fields.Phrase ∷ []

unfoldable pub session_in : ℕ → Data → Result WrittenSession Fault
session_in index tree = do
  object ← located (whole sections.Sessions index) (is_object tree)
  root ← located (field_of sections.Sessions index fields.Root) (name_at tree fields.Root)
  bytes ← located (field_of sections.Sessions index fields.Nonce) (bytes_at tree fields.Nonce 16 16)
  phrase ← located (field_of sections.Sessions index fields.Phrase) (text_at tree fields.Phrase)
  only ← located (whole sections.Sessions index) (has_only session_fields tree)
  Ok (record { root = root; nonce = bytes; phrase = phrase })

-- with a target it is a measurement of the target, without one of the place itself
abbrev pub ask_kind : Option (List ℕ) → AskKind
ask_kind None = Usm
ask_kind (Some target) = Kim target

abbrev pub arg_in : ℕ → ℕ → Data → Result Arg Fault
arg_in index position tree = located (item_of sections.References index fields.Args position) (arg_of tree)

unfoldable pub args_in : ℕ → Data → Result (List Arg) Fault
args_in index tree = do
  items ← located (field_of sections.References index fields.Args) (optional_list_at tree fields.Args 4)
  each (arg_in index) 0 items

abbrev pub reference_fields : List Field
reference_fields = fields.Place ∷ fields.Target ∷ fields.Asp ∷ fields.Args ∷ fields.Answer ∷ []

unfoldable pub reference_in : ℕ → Data → Result Reference Fault
reference_in index tree = do
  object ← located (whole sections.References index) (is_object tree)
  place ← located (field_of sections.References index fields.Place) (name_at tree fields.Place)
  target ← located (field_of sections.References index fields.Target) (optional_name_at tree fields.Target)
  asp ← located (field_of sections.References index fields.Asp) (name_at tree fields.Asp)
  args ← args_in index tree
  answer ← located (field_of sections.References index fields.Answer) (bytes_at tree fields.Answer 0 1024)
  only ← located (whole sections.References index) (has_only reference_fields tree)
  Ok (record { place = place; kind = ask_kind target; asp = record { name = asp; args = args }; answer = answer })

abbrev pub bundle_fields : List Field
bundle_fields = fields.Session ∷ fields.Bytes ∷ []

-- a bundle of one of this many sessions
unfoldable pub bundle_of : ℕ → Data → Result BundleIn Fault
bundle_of sessions tree = do
  object ← located (top_field fields.Bundle) (is_object tree)
  session ← located (field_of sections.Bundle 0 fields.Session) (number_at tree fields.Session 0 (sessions - 1))
  bytes ← located (field_of sections.Bundle 0 fields.Bytes) (any_bytes_at tree fields.Bytes)
  only ← located (whole sections.Bundle 0) (has_only bundle_fields tree)
  Ok (record { session = session; bytes = bytes })

-- the bundle of a job, which only an appraisal requires
abbrev pub bundle_from : Bool → ℕ → Option Data → Result (Option BundleIn) Fault
bundle_from appraise sessions None =
    if appraise then Err (record { at = top_field fields.Bundle; kind = Missing }) else Ok None
bundle_from appraise sessions (Some tree) = do
  bundle ← bundle_of sessions tree
  Ok (Some bundle)

abbrev pub bundle_in : Bool → ℕ → Data → Result (Option BundleIn) Fault
bundle_in appraise sessions tree = bundle_from appraise sessions (get (field_word fields.Bundle) tree)

-- a list of the job, required and optional
abbrev pub list_in : {A : Type 0} → (ℕ → Data → Result A Fault) → Field → ℕ → Data → Result (List A) Fault
list_in read field most tree = do
  items ← located (top_field field) (list_at tree field 1 most)
  each read 0 items

abbrev pub optional_list_in : {A : Type 0} → (ℕ → Data → Result A Fault) → Field → ℕ → Data → Result (List A) Fault
optional_list_in read field most tree = do
  items ← located (top_field field) (optional_list_at tree field most)
  each read 0 items

abbrev pub job_fields : List Field
job_fields = fields.Places ∷ fields.Artefacts ∷ fields.Sessions ∷ fields.References ∷ fields.Bundle ∷ []

-- the job that a tree is, or its first fault of form
unfoldable pub written_in : Bool → Data → Result Written Fault
written_in appraise tree = do
  object ← located (whole sections.Top 0) (is_object tree)
  places ← list_in place_in fields.Places 64 tree
  artefacts ← optional_list_in artefact_in fields.Artefacts 4096 tree
  sessions ← list_in session_in fields.Sessions 256 tree
  references ← optional_list_in reference_in fields.References 4096 tree
  bundle ← bundle_in appraise (length sessions) tree
  only ← located (whole sections.Top 0) (has_only job_fields tree)
  Ok (record { places = places; artefacts = artefacts; sessions = sessions; references = references; bundle = bundle })
