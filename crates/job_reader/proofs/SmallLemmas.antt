-- An accepted job has no more sessions than a job may have.
use Rattle.std.proofs.Common.{◌≡◌, ◌≤◌, ◌+◌, ℕ, suc, Bool, true, false, List, [], ◌∷◌, length, refl, sym, ap, ◌∙◌, arith, Result, Ok, Err, Option, Some, None, subst}
use Rattle.std.specs.Prelude.{◌&&◌, nat_le, if◌then◌else◌}
use Rattle.std.proofs.lemmas.Bool.{leb-true}
use Rattle.serde_json.specs.Data.{Data, Items, no_items, item}
use Rattle.serde_json.specs.Find.{get, as_array}
use Rattle.session_model.specs.Session.{Session}
use Rattle.job_values.specs.declared.path.FieldAt.{FieldAt}
use Rattle.job_values.specs.declared.path.FieldKind.{FieldKind}
use Rattle.job_values.specs.declared.path.FieldKind.TheVariants.{OutOfRange}
use Rattle.job_values.specs.declared.words.Field.{Field}
use Rattle.job_values.specs.declared.words.Field.TheVariants as fields
use Rattle.job_values.specs.Reading.{count, is_within, list_at, list_of, of_kind, required, sized}
use Rattle.job_values.specs.Words.{field_word}
use Rattle.job_reader.specs.Form.{artefact_in, bundle_in, each, Fault, has_only, is_object, job_fields, list_in, located, optional_list_in, place_in, reference_in, session_in, top_field, whole, Written, WrittenSession, written_in, ◌>>=◌}
use Rattle.job_reader.specs.Finding.{IsAccepted, JobView}
use Rattle.job_reader.specs.Whole.{AreSessionsOf}
use Rattle.job_values.specs.declared.path.Section.TheVariants as sections

-- the value of a result has this, where it has a value
abbrev Holds : {A E : Type 0} → (A → Type 0) → Result A E → Type 0
Holds P (Ok value) = P value
Holds P (Err error) = Unit {0}

bind : {A B : Type 0} (P : B → Type 0) (Q : A → Type 0) (r : Result A Fault) (next : A → Result B Fault) → Holds Q r → ((value : A) → Q value → Holds P (next value)) → Holds P (r >>= next)
bind P Q (Ok value) next h k = k value h
bind P Q (Err fault) next h k = tt

-- a step whose value doesn't matter
skip : {A B : Type 0} (P : B → Type 0) (r : Result A Fault) (next : A → Result B Fault) → ((value : A) → Holds P (next value)) → Holds P (r >>= next)
skip P (Ok value) next k = k value
skip P (Err fault) next k = tt

at_place : {A : Type 0} (P : A → Type 0) (at : FieldAt) (r : Result A FieldKind) → Holds P r → Holds P (located at r)
at_place P at (Ok value) h = h
at_place P at (Err kind) h = tt

both : (a b : Bool) → (a && b) ≡ true → b ≡ true
both true b h = h
both false b h = absurd (let e = h in cc)

chosen : (items : Items) (most : ℕ) (kind : FieldKind) (test : Bool) → (test ≡ true → count items ≤ most) → Holds (λ (found : Items). count found ≤ most) (if test then Ok items else Err kind)
chosen items most kind true h = h refl
chosen items most kind false h = tt

few_of : (least most : ℕ) (found : Option Items) → Holds (λ (items : Items). count items ≤ most) (of_kind (λ items. sized least most (count items) items) found)
few_of least most None = tt
few_of least most (Some items) =
    chosen items most OutOfRange (is_within least most (count items))
    (λ yes. leb-true (count items) most (both (nat_le least (count items)) (nat_le (count items) most) yes))

few_at : (least most : ℕ) (found : Option Data) → Holds (λ (items : Items). count items ≤ most) (required (list_of least most) found)
few_at least most None = tt
few_at least most (Some tree) = few_of least most (as_array tree)

-- as many values as items
grown : {A : Type 0} (value : A) (size : ℕ) (rest : Result (List A) Fault) → Holds (λ (values : List A). length values ≡ size) rest → Holds (λ (values : List A). length values ≡ size + 1) (rest >>= (λ values. Ok (value ∷ values)))
grown value size (Ok values) h = omega (arith, h)
grown value size (Err fault) h = tt

each_read : {A : Type 0} (read : ℕ → Data → Result A Fault) (index : ℕ) (items : Items) → Holds (λ (values : List A). length values ≡ count items) (each read index items)
each_read read index no_items = refl
each_read read index (item tree rest) =
    skip (λ values. length values ≡ count rest + 1) (read index tree) (λ value. each read (index + 1) rest >>= (λ values. Ok (value ∷ values)))
    (λ value. grown value (count rest) (each read (index + 1) rest) (each_read read (index + 1) rest))

-- equal numbers of values, and so few
as_few : {A : Type 0} (size most : ℕ) (r : Result (List A) Fault) → size ≤ most → Holds (λ (values : List A). length values ≡ size) r → Holds (λ (values : List A). length values ≤ most) r
as_few size most (Ok values) h k = omega (arith, h, k)
as_few size most (Err fault) h k = tt

list_few : {A : Type 0} (read : ℕ → Data → Result A Fault) (field : Field) (most : ℕ) (tree : Data) → Holds (λ (values : List A). length values ≤ most) (list_in read field most tree)
list_few read field most tree =
    bind (λ values. length values ≤ most) (λ items. count items ≤ most) (located (top_field field) (list_at tree field 1 most)) (each read 0)
    (at_place (λ items. count items ≤ most) (top_field field) (list_at tree field 1 most) (few_at 1 most (get (field_word field) tree)))
    (λ items few. as_few (count items) most (each read 0 items) few (each_read read 0 items))

written-few : (appraise : Bool) (tree : Data) → Holds (λ (job : Written). length job.sessions ≤ 256) (written_in appraise tree)
unfolding written_in
written-few appraise tree =
    skip (λ job. length job.sessions ≤ 256) (located (whole sections.Top 0) (is_object tree)) _ (λ object.
    skip (λ job. length job.sessions ≤ 256) (list_in place_in fields.Places 64 tree) _ (λ places.
    skip (λ job. length job.sessions ≤ 256) (optional_list_in artefact_in fields.Artefacts 4096 tree) _ (λ artefacts.
    bind (λ job. length job.sessions ≤ 256) (λ sessions. length sessions ≤ 256) (list_in session_in fields.Sessions 256 tree) _ (list_few session_in fields.Sessions 256 tree) (λ sessions few.
    skip (λ job. length job.sessions ≤ 256) (optional_list_in reference_in fields.References 4096 tree) _ (λ references.
    skip (λ job. length job.sessions ≤ 256) (bundle_in appraise (length sessions) tree) _ (λ bundle.
    skip (λ job. length job.sessions ≤ 256) (located (whole sections.Top 0) (has_only job_fields tree)) _ (λ only. few)))))))

few_there : (r : Result Written Fault) (job : Written) → r ≡ Ok job → Holds (λ (found : Written). length found.sessions ≤ 256) r → length job.sessions ≤ 256
few_there (Ok found) job is h = let same : found ≡ job = cc in subst (λ (w : Written). length w.sessions ≤ 256) same h
few_there (Err fault) job is h = absurd (let e = is in cc)

same_length : (written : List WrittenSession) (sessions : List Session) → AreSessionsOf written sessions → length written ≡ length sessions
same_length [] [] h = refl
same_length [] (session ∷ sessions) h = absurd h
same_length (first ∷ rest) [] h = absurd h
same_length (first ∷ rest) (session ∷ sessions) h = ap suc (same_length rest sessions h.1)

pub accepted-few : (bytes : List ℕ) (appraise : Bool) (job : JobView) → IsAccepted bytes appraise job → length job.sessions ≤ 256
accepted-few bytes appraise job h =
    let few = few_there (written_in appraise h.written.tree) h.text h.written.formed (written-few appraise h.written.tree) in
    omega (arith, few, same_length h.text.sessions job.sessions h.whole.sessions)
