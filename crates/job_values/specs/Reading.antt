-- What the readers of one field answer: its value, or the first thing that is wrong with it. The kinds
-- of fields and their bounds are this project's own; the trees are serde_json's.
use Rattle.std.specs.Prelude.{◌≡◌, ◌+◌, ◌&&◌, ◌||◌, ℕ, Bool, false, not, List, length, nat_le, Option, None, Some, Result, Ok, Err, option_and_then, if◌then◌else◌}
use Rattle.std.specs.List.{list_any}
use Rattle.std.specs.Str.{bytes_eq}
use Rattle.hex.specs.Hex.{decode_of}
use Rattle.hex.specs.declared.error.FromHexError.{FromHexError}
use Rattle.serde_json.specs.Data.{Data, Items, no_items, item, Members, no_members, member}
use Rattle.serde_json.specs.Find.{get, as_array, as_number, as_object, as_str, as_u64}
use Rattle.phrase_tree.specs.Name.{is_name}
use Rattle.phrase_tree.specs.declared.measurement.Arg.{Arg}
use Rattle.phrase_tree.specs.declared.measurement.Arg.TheVariants.{Word, Number}
use Rattle.job_values.specs.declared.words.Field.{Field}
use Rattle.job_values.specs.declared.path.FieldKind.{FieldKind}
use Rattle.job_values.specs.declared.path.FieldKind.TheVariants.{Missing, WrongKind, BadHex, BadName, OutOfRange}
use Rattle.job_values.specs.declared.path.FieldError.{FieldError}
use Rattle.job_values.specs.declared.path.FieldError.TheVariants.{Kind, NoMemory}
use Rattle.job_values.specs.Words.{field_word}

-- a value of the kind that is wanted, read further; else it is of the wrong kind
abbrev pub of_kind : {A B : Type 0} → (A → Result B FieldKind) → Option A → Result B FieldKind
of_kind further None = Err WrongKind
of_kind further (Some value) = further value

-- a number within bounds
abbrev pub is_within : ℕ → ℕ → ℕ → Bool
is_within least most size = nat_le least size && nat_le size most

-- something whose size is within bounds
abbrev pub sized : {A : Type 0} → ℕ → ℕ → ℕ → A → Result A FieldKind
sized least most size value = if is_within least most size then Ok value else Err OutOfRange

-- a text that is a name
abbrev pub named : List ℕ → Result (List ℕ) FieldKind
named text = if is_name text then Ok text else Err BadName

abbrev pub name_of : Data → Result (List ℕ) FieldKind
name_of tree = of_kind named (as_str tree)

-- any text
abbrev pub text_of : Data → Result (List ℕ) FieldKind
text_of tree = of_kind (λ text. Ok text) (as_str tree)

-- a whole number from 0 that fits 64 bits
abbrev pub whole_of : Data → Option ℕ
whole_of tree = option_and_then as_u64 (as_number tree)

abbrev pub number_of : ℕ → ℕ → Data → Result ℕ FieldKind
number_of least most tree = of_kind (λ number. sized least most number number) (whole_of tree)

-- the bytes that a text spells in pairs of hexadecimal digits of either case
abbrev pub in_hex : Result (List ℕ) FromHexError → Result (List ℕ) FieldKind
in_hex (Ok bytes) = Ok bytes
in_hex (Err error) = Err BadHex

abbrev pub any_bytes_of : Data → Result (List ℕ) FieldKind
any_bytes_of tree = of_kind (λ text. in_hex (decode_of text)) (as_str tree)

-- bytes whose number is within bounds
abbrev pub sized_bytes : ℕ → ℕ → Result (List ℕ) FieldKind → Result (List ℕ) FieldKind
sized_bytes least most (Ok bytes) = sized least most (length bytes) bytes
sized_bytes least most (Err kind) = Err kind

abbrev pub bytes_of : ℕ → ℕ → Data → Result (List ℕ) FieldKind
bytes_of least most tree = sized_bytes least most (any_bytes_of tree)

-- the number of items of a list
abbrev pub count : Items → ℕ
count no_items = 0
count (item tree rest) = count rest + 1

abbrev pub list_of : ℕ → ℕ → Data → Result Items FieldKind
list_of least most tree = of_kind (λ items. sized least most (count items) items) (as_array tree)

-- an argument of a measurement: a name, or a number of 32 bits
abbrev pub word_arg : Result (List ℕ) FieldKind → Result Arg FieldKind
word_arg (Ok name) = Ok (Word name)
word_arg (Err kind) = Err kind

abbrev pub number_arg : Result ℕ FieldKind → Result Arg FieldKind
number_arg (Ok size) = Ok (Number size)
number_arg (Err kind) = Err kind

abbrev pub arg_from : Data → Option (List ℕ) → Result Arg FieldKind
arg_from tree None = number_arg (number_of 0 4294967295 tree)
arg_from tree (Some text) = word_arg (named text)

abbrev pub arg_of : Data → Result Arg FieldKind
arg_of tree = arg_from tree (as_str tree)

-- a field that is required
abbrev pub required : {A : Type 0} → (Data → Result A FieldKind) → Option Data → Result A FieldKind
required read None = Err Missing
required read (Some tree) = read tree

-- a field that may be absent, with what its absence means
abbrev pub optional : {A : Type 0} → A → (Data → Result A FieldKind) → Option Data → Result A FieldKind
optional absent read None = Ok absent
optional absent read (Some tree) = read tree

-- a field that may be absent, without a meaning of its absence
abbrev pub found : {A : Type 0} → Result A FieldKind → Result (Option A) FieldKind
found (Ok value) = Ok (Some value)
found (Err kind) = Err kind

-- the readers of one field of an object
abbrev pub name_at : Data → Field → Result (List ℕ) FieldKind
name_at tree field = required name_of (get (field_word field) tree)

abbrev pub optional_name_at : Data → Field → Result (Option (List ℕ)) FieldKind
optional_name_at tree field = optional None (λ value. found (name_of value)) (get (field_word field) tree)

abbrev pub text_at : Data → Field → Result (List ℕ) FieldKind
text_at tree field = required text_of (get (field_word field) tree)

abbrev pub number_at : Data → Field → ℕ → ℕ → Result ℕ FieldKind
number_at tree field least most = required (number_of least most) (get (field_word field) tree)

abbrev pub any_bytes_at : Data → Field → Result (List ℕ) FieldKind
any_bytes_at tree field = required any_bytes_of (get (field_word field) tree)

abbrev pub bytes_at : Data → Field → ℕ → ℕ → Result (List ℕ) FieldKind
bytes_at tree field least most = required (bytes_of least most) (get (field_word field) tree)

abbrev pub list_at : Data → Field → ℕ → ℕ → Result Items FieldKind
list_at tree field least most = required (list_of least most) (get (field_word field) tree)

abbrev pub optional_list_at : Data → Field → ℕ → Result Items FieldKind
optional_list_at tree field most = optional no_items (list_of 0 most) (get (field_word field) tree)

-- a key of one of these fields
abbrev pub is_known : List Field → List ℕ → Bool
is_known fields key = list_any (λ field. bytes_eq (field_word field) key) fields

-- a member of another key than these fields'
abbrev pub has_other : List Field → Members → Bool
has_other fields no_members = false
has_other fields (member key tree rest) = not (is_known fields key) || has_other fields rest

-- the same in an object; nothing else has members
abbrev pub other_in : List Field → Option Members → Bool
other_in fields None = false
other_in fields (Some members) = has_other fields members

abbrev pub unknown_in : Data → List Field → Bool
unknown_in tree fields = other_in fields (as_object tree)

-- a reader's answer, as it is seen
abbrev pub seen : {A B E : Type 0} → (A → B) → Result A E → Result B E
seen view (Ok value) = Ok (view value)
seen view (Err error) = Err error

-- what a reader that takes memory answers: the value, or what is wrong; want of memory may come in place
-- of either
abbrev pub ReadsBytes : Result (List ℕ) FieldError → Result (List ℕ) FieldKind → Type 0
ReadsBytes (Ok bytes) read = read ≡ Ok bytes
ReadsBytes (Err (Kind kind)) read = read ≡ Err kind
ReadsBytes (Err NoMemory) read = Unit {0}
