-- The first fault in the list is the one that the walk stops at.
use Rattle.std.proofs.Common.{◌≡◌, ◌+◌, ◌-◌, ℕ, suc, Bool, true, false, List, [], ◌∷◌, ◌++◌, length, refl, sym, ap, ◌∙◌, subst, Option, None, Some, Result, Ok, Err, add-one, is_some, if◌then◌else◌}
use Rattle.std.specs.Result.{result_err}
use Rattle.serde_json.specs.Data.{Data, Items, no_items, item}
use Rattle.serde_json.specs.Find.{as_object, get}
use Rattle.job_values.specs.declared.words.Field.{Field}
use Rattle.job_values.specs.declared.words.Field.TheVariants as fields
use Rattle.job_values.specs.declared.path.Section.{Section}
use Rattle.job_values.specs.declared.path.Section.TheVariants as sections
use Rattle.job_values.specs.declared.path.FieldAt.{FieldAt}
use Rattle.job_values.specs.declared.path.FieldKind.{FieldKind}
use Rattle.job_values.specs.declared.path.FieldKind.TheVariants.{WrongKind}
use Rattle.job_values.specs.Words.{field_word}
use Rattle.job_values.specs.Reading.{any_bytes_at, bytes_at, count, list_at, name_at, number_at, optional_list_at, optional_name_at, text_at}
use Rattle.job_reader.specs.Form.{artefact_fields, bundle_fields, bundle_in, field_of, has_only, job_fields, place_fields, reference_fields, session_fields, whole, WrittenSession, ◌>>=◌, arg_in, args_in, artefact_in, bundle_from, bundle_of, each, Fault, is_object, located, name_in, names_in, place_in, reference_in, session_in, top_field, unless, written_in}
use Rattle.job_reader.specs.Faults.{arg_faults, args_faults, artefact_faults, bundle_faults, bundle_parts, fault_of, faults_each, first, job_faults, list_faults, name_faults, names_faults, object_faults, place_faults, reference_faults, session_count, session_faults, items_count}

-- the first fault in the list is the one that the walk stops at
record Names {A : Type 0} (faults : List Fault) (read : Result A Fault) : Type 0 where
  named : first faults ≡ result_err read

own : {A : Type 0} (read : Result A Fault) → first (fault_of read) ≡ result_err read
own (Ok value) = refl
own (Err fault) = refl

one : {A : Type 0} (read : Result A Fault) → Names (fault_of read) read
one read = record { named = own read }

joined : {A B : Type 0} (faults : List Fault) (read : Result A Fault) (next : A → Result B Fault) (rest : List Fault) → first faults ≡ result_err read → ((value : A) → read ≡ Ok value → first rest ≡ result_err (next value)) → first (faults ++ rest) ≡ result_err (read >>= next)
joined [] (Ok value) next rest here behind = behind value refl
joined [] (Err fault) next rest here behind = absurd cc
joined (found ∷ faults) (Ok value) next rest here behind = absurd cc
joined (found ∷ faults) (Err fault) next rest here behind = here

-- the faults of a part, and those behind it
join : {A B : Type 0} (faults : List Fault) (read : Result A Fault) (next : A → Result B Fault) (rest : List Fault) → Names faults read → ((value : A) → read ≡ Ok value → Names rest (next value)) → Names (faults ++ rest) (read >>= next)
join faults read next rest here behind = record {
  named = joined faults read next rest here.named (λ value is. (behind value is).named);
}

-- one part, and the faults behind it
step : {A B : Type 0} (read : Result A Fault) (next : A → Result B Fault) (rest : List Fault) → ((value : A) → read ≡ Ok value → Names rest (next value)) → Names (fault_of read ++ rest) (read >>= next)
step read next rest behind = join (fault_of read) read next rest (one read) behind

-- the last part
kept : {A B : Type 0} (faults : List Fault) (read : Result A Fault) (value : A → B) → first faults ≡ result_err read → first faults ≡ result_err (read >>= (λ v. Ok (value v)))
kept faults (Ok v) value here = here
kept faults (Err fault) value here = here

last : {A B : Type 0} (faults : List Fault) (read : Result A Fault) (value : A → B) → Names faults read → Names faults (read >>= (λ v. Ok (value v)))
last faults read value here = record { named = kept faults read value here.named }

by_test : {B : Type 0} (test : Bool) (at : FieldAt) (parts : List Fault) (next : Unit {0} → Result B Fault) → first parts ≡ result_err (next tt) → first (if test then parts else record { at = at; kind = WrongKind } ∷ []) ≡ result_err (located at (unless test WrongKind) >>= next)
by_test true at parts next here = here
by_test false at parts next here = refl

in_object : {B : Type 0} (at : FieldAt) (tree : Data) (parts : List Fault) (next : Unit {0} → Result B Fault) → Names parts (next tt) → Names (object_faults at tree parts) (located at (is_object tree) >>= next)
in_object at tree parts next here = record { named = by_test (is_some (as_object tree)) at parts next here.named }

-- the items of a list
items_first : {A : Type 0} (faults : ℕ → Data → List Fault) (read : ℕ → Data → Result A Fault) → ((index : ℕ) (tree : Data) → Names (faults index tree) (read index tree)) → (index : ℕ) (items : Items) → Names (faults_each faults index items) (each read index items)
items_first faults read same index no_items = record { named = refl }
items_first faults read same index (item tree rest) =
    join (faults index tree) (read index tree) _ (faults_each faults (index + 1) rest) (same index tree) (λ value is. last (faults_each faults (index + 1) rest) (each read (index + 1) rest) (λ values. value ∷ values) (items_first faults read same (index + 1) rest))

list_first : {A : Type 0} (faults : ℕ → Data → List Fault) (read : ℕ → Data → Result A Fault) → ((index : ℕ) (tree : Data) → Names (faults index tree) (read index tree)) → (items : Result Items Fault) → Names (list_faults faults items) (items >>= each read 0)
list_first faults read same (Ok items) = items_first faults read same 0 items
list_first faults read same (Err fault) = record { named = refl }

names_first : (section : Section) (index : ℕ) (field : Field) (most : ℕ) (tree : Data) → Names (names_faults section index field most tree) (names_in section index field most tree)
unfolding names_in
names_first section index field most tree =
    list_first (name_faults section index field) (name_in section index field) (λ position name. one (name_in section index field position name)) (located (field_of section index field) (optional_list_at tree field most))

place_first : (index : ℕ) (tree : Data) → Names (place_faults index tree) (place_in index tree)
unfolding place_in
place_first index tree =
    in_object (whole sections.Places index) tree _ _ (step (located (field_of sections.Places index fields.Name) (name_at tree fields.Name)) _ _ (λ name is. step (located (field_of sections.Places index fields.Key) (bytes_at tree fields.Key 16 128)) _ _ (λ key is. join _ _ _ _ (names_first sections.Places index fields.Asks 64 tree) (λ asks is. join _ _ _ _ (names_first sections.Places index fields.Sees 64 tree) (λ sees is. join _ _ _ _ (names_first sections.Places index fields.Offers 256 tree) (λ offers is. last _ (located (whole sections.Places index) (has_only place_fields tree)) _ (one (located (whole sections.Places index) (has_only place_fields tree)))))))))

artefact_first : (index : ℕ) (tree : Data) → Names (artefact_faults index tree) (artefact_in index tree)
unfolding artefact_in
artefact_first index tree =
    in_object (whole sections.Artefacts index) tree _ _ (step (located (field_of sections.Artefacts index fields.Place) (name_at tree fields.Place)) _ _ (λ place is. step (located (field_of sections.Artefacts index fields.Name) (name_at tree fields.Name)) _ _ (λ name is. step (located (field_of sections.Artefacts index fields.Bytes) (any_bytes_at tree fields.Bytes)) _ _ (λ bytes is. last _ (located (whole sections.Artefacts index) (has_only artefact_fields tree)) _ (one (located (whole sections.Artefacts index) (has_only artefact_fields tree)))))))

session_first : (index : ℕ) (tree : Data) → Names (session_faults index tree) (session_in index tree)
unfolding session_in
session_first index tree =
    in_object (whole sections.Sessions index) tree _ _ (step (located (field_of sections.Sessions index fields.Root) (name_at tree fields.Root)) _ _ (λ root is. step (located (field_of sections.Sessions index fields.Nonce) (bytes_at tree fields.Nonce 16 16)) _ _ (λ bytes is. step (located (field_of sections.Sessions index fields.Phrase) (text_at tree fields.Phrase)) _ _ (λ phrase is. last _ (located (whole sections.Sessions index) (has_only session_fields tree)) _ (one (located (whole sections.Sessions index) (has_only session_fields tree)))))))

args_first : (index : ℕ) (tree : Data) → Names (args_faults index tree) (args_in index tree)
unfolding args_in
args_first index tree =
    list_first (arg_faults index) (arg_in index) (λ position arg. one (arg_in index position arg)) (located (field_of sections.References index fields.Args) (optional_list_at tree fields.Args 4))

reference_first : (index : ℕ) (tree : Data) → Names (reference_faults index tree) (reference_in index tree)
unfolding reference_in
reference_first index tree =
    in_object (whole sections.References index) tree _ _ (step (located (field_of sections.References index fields.Place) (name_at tree fields.Place)) _ _ (λ place is. step (located (field_of sections.References index fields.Target) (optional_name_at tree fields.Target)) _ _ (λ target is. step (located (field_of sections.References index fields.Asp) (name_at tree fields.Asp)) _ _ (λ asp is. join _ _ _ _ (args_first index tree) (λ args is. step (located (field_of sections.References index fields.Answer) (bytes_at tree fields.Answer 0 1024)) _ _ (λ answer is. last _ (located (whole sections.References index) (has_only reference_fields tree)) _ (one (located (whole sections.References index) (has_only reference_fields tree)))))))))

parts_first : (sessions : ℕ) (tree : Data) → Names (bundle_parts sessions tree) (bundle_of sessions tree)
unfolding bundle_of
parts_first sessions tree =
    in_object (top_field fields.Bundle) tree _ _ (step (located (field_of sections.Bundle 0 fields.Session) (number_at tree fields.Session 0 (sessions - 1))) _ _ (λ session is. step (located (field_of sections.Bundle 0 fields.Bytes) (any_bytes_at tree fields.Bytes)) _ _ (λ bytes is. last _ (located (whole sections.Bundle 0) (has_only bundle_fields tree)) _ (one (located (whole sections.Bundle 0) (has_only bundle_fields tree))))))

bundle_first : (appraise : Bool) (sessions : ℕ) (tree : Option Data) → Names (bundle_faults appraise sessions tree) (bundle_from appraise sessions tree)
bundle_first true sessions None = record { named = refl }
bundle_first false sessions None = record { named = refl }
bundle_first appraise sessions (Some tree) =
    last (bundle_parts sessions tree) (bundle_of sessions tree) (λ bundle. Some bundle) (parts_first sessions tree)

-- as many sessions are read as there are items
one_counted : {A : Type 0} (values : List A) (n : ℕ) (value : Result A Fault) (found : Result (List A) Fault) → ((vs : List A) → found ≡ Ok vs → length vs ≡ n) → (value >>= (λ v. found >>= (λ vs. Ok (v ∷ vs)))) ≡ Ok values → length values ≡ n + 1
one_counted values n (Ok value) (Ok found) counts is =
    let grown : value ∷ found ≡ values = cc in
    let counted = counts found refl in
    ap length (sym grown) ∙ (ap (λ m. suc m) counted ∙ sym (add-one n))
one_counted values n (Ok value) (Err fault) counts is = absurd cc
one_counted values n (Err fault) found counts is = absurd cc

each_count : {A : Type 0} (read : ℕ → Data → Result A Fault) (index : ℕ) (items : Items) (values : List A) → each read index items ≡ Ok values → length values ≡ count items
each_count read index no_items values is = let none : [] ≡ values = cc in ap length (sym none)
each_count read index (item tree rest) values is =
    one_counted values (count rest) (read index tree) (each read (index + 1) rest) (λ vs found. each_count read (index + 1) rest vs found) is

session_counted : (tree : Data) (items : Result Items FieldKind) (sessions : List WrittenSession) → (located (top_field fields.Sessions) items >>= each session_in 0) ≡ Ok sessions → items_count items ≡ length sessions
session_counted tree (Ok items) sessions is = sym (each_count session_in 0 items sessions is)
session_counted tree (Err kind) sessions is = absurd cc

bundle_counted : (appraise : Bool) (tree : Data) (sessions : List WrittenSession) → session_count tree ≡ length sessions → Names (bundle_faults appraise (session_count tree) (get (field_word fields.Bundle) tree)) (bundle_in appraise (length sessions) tree)
bundle_counted appraise tree sessions same =
    subst (λ (n : ℕ). Names (bundle_faults appraise (session_count tree) (get (field_word fields.Bundle) tree)) (bundle_from appraise n (get (field_word fields.Bundle) tree))) same (bundle_first appraise (session_count tree) (get (field_word fields.Bundle) tree))

-- the job's own
job_first : (appraise : Bool) (tree : Data) → Names (job_faults appraise tree) (written_in appraise tree)
unfolding written_in
job_first appraise tree =
    in_object (whole sections.Top 0) tree _ _ (join _ _ _ _ (list_first place_faults place_in place_first (located (top_field fields.Places) (list_at tree fields.Places 1 64))) (λ places is. join _ _ _ _ (list_first artefact_faults artefact_in artefact_first (located (top_field fields.Artefacts) (optional_list_at tree fields.Artefacts 4096))) (λ artefacts is. join _ _ _ _ (list_first session_faults session_in session_first (located (top_field fields.Sessions) (list_at tree fields.Sessions 1 256))) (λ sessions read. join _ _ _ _ (list_first reference_faults reference_in reference_first (located (top_field fields.References) (optional_list_at tree fields.References 4096))) (λ references is. join _ _ _ _ (bundle_counted appraise tree sessions (session_counted tree (list_at tree fields.Sessions 1 256) sessions read)) (λ bundle is. last _ (located (whole sections.Top 0) (has_only job_fields tree)) _ (one (located (whole sections.Top 0) (has_only job_fields tree)))))))))

pub first_fault : (appraise : Bool) (tree : Data) → first (job_faults appraise tree) ≡ result_err (written_in appraise tree)
first_fault appraise tree = (job_first appraise tree).named
