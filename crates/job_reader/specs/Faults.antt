-- The faults of form of a job, listed in the order in which its tree is walked: of a list that is no list
-- or of a wrong length that alone, and else those of its items; of what should be an object and is none
-- that alone, and else those of its fields, and then that it has another key.
use Rattle.std.specs.Prelude.{◌++◌, ◌+◌, ◌-◌, ℕ, Bool, List, [], ◌∷◌, Option, None, Some, Result, Ok, Err, is_some, if◌then◌else◌}
use Rattle.serde_json.specs.Data.{Data, Items, no_items, item}
use Rattle.serde_json.specs.Find.{as_object, get}
use Rattle.job_values.specs.declared.words.Field.{Field}
use Rattle.job_values.specs.declared.words.Field.TheVariants as fields
use Rattle.job_values.specs.declared.path.Section.{Section}
use Rattle.job_values.specs.declared.path.Section.TheVariants as sections
use Rattle.job_values.specs.declared.path.FieldAt.{FieldAt}
use Rattle.job_values.specs.declared.path.FieldKind.{FieldKind}
use Rattle.job_values.specs.declared.path.FieldKind.TheVariants.{Missing, WrongKind}
use Rattle.job_values.specs.Words.{field_word}
use Rattle.job_values.specs.Reading.{any_bytes_at, bytes_at, count, list_at, name_at, number_at, optional_list_at, optional_name_at, text_at}
use Rattle.job_reader.specs.Form.{arg_in, artefact_fields, bundle_fields, Fault, field_of, has_only, job_fields, located, name_in, place_fields, reference_fields, session_fields, top_field, whole}

-- the first of a list
abbrev pub first : List Fault → Option Fault
first [] = None
first (fault ∷ rest) = Some fault

-- the fault of one part, where it has one
abbrev pub fault_of : {A : Type 0} → Result A Fault → List Fault
fault_of (Ok value) = []
fault_of (Err fault) = fault ∷ []

-- the faults of what should be an object
abbrev pub object_faults : FieldAt → Data → List Fault → List Fault
object_faults at tree parts =
    if is_some (as_object tree) then parts else record { at = at; kind = WrongKind } ∷ []

-- the faults of the items of a list, the first of them counted by a number
abbrev pub faults_each : (ℕ → Data → List Fault) → ℕ → Items → List Fault
faults_each faults index no_items = []
faults_each faults index (item tree rest) = faults index tree ++ faults_each faults (index + 1) rest

-- the faults of a list
abbrev pub list_faults : (ℕ → Data → List Fault) → Result Items Fault → List Fault
list_faults faults (Ok items) = faults_each faults 0 items
list_faults faults (Err fault) = fault ∷ []

abbrev pub name_faults : Section → ℕ → Field → ℕ → Data → List Fault
name_faults section index field position tree = fault_of (name_in section index field position tree)

abbrev pub names_faults : Section → ℕ → Field → ℕ → Data → List Fault
names_faults section index field most tree =
    list_faults (name_faults section index field) (located (field_of section index field) (optional_list_at tree field most))

abbrev pub place_faults : ℕ → Data → List Fault
place_faults index tree =
    object_faults (whole sections.Places index) tree (fault_of (located (field_of sections.Places index fields.Name) (name_at tree fields.Name)) ++ (fault_of (located (field_of sections.Places index fields.Key) (bytes_at tree fields.Key 16 128)) ++ (names_faults sections.Places index fields.Asks 64 tree ++ (names_faults sections.Places index fields.Sees 64 tree ++ (names_faults sections.Places index fields.Offers 256 tree ++ fault_of (located (whole sections.Places index) (has_only place_fields tree)))))))

abbrev pub artefact_faults : ℕ → Data → List Fault
artefact_faults index tree =
    object_faults (whole sections.Artefacts index) tree (fault_of (located (field_of sections.Artefacts index fields.Place) (name_at tree fields.Place)) ++ (fault_of (located (field_of sections.Artefacts index fields.Name) (name_at tree fields.Name)) ++ (fault_of (located (field_of sections.Artefacts index fields.Bytes) (any_bytes_at tree fields.Bytes)) ++ fault_of (located (whole sections.Artefacts index) (has_only artefact_fields tree)))))

abbrev pub session_faults : ℕ → Data → List Fault
session_faults index tree =
    object_faults (whole sections.Sessions index) tree (fault_of (located (field_of sections.Sessions index fields.Root) (name_at tree fields.Root)) ++ (fault_of (located (field_of sections.Sessions index fields.Nonce) (bytes_at tree fields.Nonce 16 16)) ++ (fault_of (located (field_of sections.Sessions index fields.Phrase) (text_at tree fields.Phrase)) ++ fault_of (located (whole sections.Sessions index) (has_only session_fields tree)))))

abbrev pub arg_faults : ℕ → ℕ → Data → List Fault
arg_faults index position tree = fault_of (arg_in index position tree)

abbrev pub args_faults : ℕ → Data → List Fault
args_faults index tree =
    list_faults (arg_faults index) (located (field_of sections.References index fields.Args) (optional_list_at tree fields.Args 4))

abbrev pub reference_faults : ℕ → Data → List Fault
reference_faults index tree =
    object_faults (whole sections.References index) tree (fault_of (located (field_of sections.References index fields.Place) (name_at tree fields.Place)) ++ (fault_of (located (field_of sections.References index fields.Target) (optional_name_at tree fields.Target)) ++ (fault_of (located (field_of sections.References index fields.Asp) (name_at tree fields.Asp)) ++ (args_faults index tree ++ (fault_of (located (field_of sections.References index fields.Answer) (bytes_at tree fields.Answer 0 1024)) ++ fault_of (located (whole sections.References index) (has_only reference_fields tree)))))))

abbrev pub bundle_parts : ℕ → Data → List Fault
bundle_parts sessions tree =
    object_faults (top_field fields.Bundle) tree (fault_of (located (field_of sections.Bundle 0 fields.Session) (number_at tree fields.Session 0 (sessions - 1))) ++ (fault_of (located (field_of sections.Bundle 0 fields.Bytes) (any_bytes_at tree fields.Bytes)) ++ fault_of (located (whole sections.Bundle 0) (has_only bundle_fields tree))))

-- a bundle that is required and not there is a fault
abbrev pub bundle_faults : Bool → ℕ → Option Data → List Fault
bundle_faults appraise sessions None =
    if appraise then record { at = top_field fields.Bundle; kind = Missing } ∷ [] else []
bundle_faults appraise sessions (Some tree) = bundle_parts sessions tree

-- how many sessions the job has; none where it has no list of them
abbrev pub items_count : Result Items FieldKind → ℕ
items_count (Ok items) = count items
items_count (Err kind) = 0

abbrev pub session_count : Data → ℕ
session_count tree = items_count (list_at tree fields.Sessions 1 256)

-- the faults of a job
abbrev pub job_faults : Bool → Data → List Fault
job_faults appraise tree =
    object_faults (whole sections.Top 0) tree (list_faults place_faults (located (top_field fields.Places) (list_at tree fields.Places 1 64)) ++ (list_faults artefact_faults (located (top_field fields.Artefacts) (optional_list_at tree fields.Artefacts 4096)) ++ (list_faults session_faults (located (top_field fields.Sessions) (list_at tree fields.Sessions 1 256)) ++ (list_faults reference_faults (located (top_field fields.References) (optional_list_at tree fields.References 4096)) ++ (bundle_faults appraise (session_count tree) (get (field_word fields.Bundle) tree) ++ fault_of (located (whole sections.Top 0) (has_only job_fields tree)))))))
