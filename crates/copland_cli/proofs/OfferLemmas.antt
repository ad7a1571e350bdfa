-- What is written of the bundle of an accepted job, and of its places.
use Rattle.std.proofs.Common.{◌≡◌, ◌≤◌, ◌<◌, ◌+◌, ◌-◌, ℕ, zero, suc, Bool, true, false, List, [], ◌∷◌, length, refl, ap, arith, Result, Ok, Err, Option, Some, None, subst}
use Rattle.std.specs.Prelude.{◌&&◌, nat_le, if◌then◌else◌, slice_get}
use Rattle.std.proofs.lemmas.Bool.{leb-true}
use Rattle.serde_json.specs.Data.{Data, Items, no_items, item}
use Rattle.serde_json.specs.Find.{get, as_array}
use Rattle.session_model.specs.Session.{Session}
use Rattle.job_values.specs.declared.path.FieldAt.{FieldAt}
use Rattle.job_values.specs.declared.path.FieldKind.{FieldKind}
use Rattle.job_values.specs.declared.words.Field.{Field}
use Rattle.job_values.specs.declared.words.Field.TheVariants as fields
use Rattle.job_values.specs.declared.path.Section.TheVariants as sections
use Rattle.job_values.specs.Reading.{any_bytes_at, count, is_within, list_at, list_of, number_at, number_of, of_kind, required, sized, whole_of}
use Rattle.job_values.specs.Words.{field_word}
use Rattle.job_reader.specs.Form.{artefact_in, bundle_fields, bundle_from, bundle_in, bundle_of, each, Fault, field_of, has_only, is_object, job_fields, list_in, located, optional_list_in, place_in, reference_in, session_in, top_field, whole, Written, WrittenSession, written_in, ◌>>=◌}
use Rattle.job_reader.specs.declared.accepted.BundleIn.{BundleIn}
use Rattle.job_reader.specs.Finding.{IsAccepted, JobView}
use Rattle.job_reader.specs.Whole.{AreSessionsOf}
use Rattle.copland_cli.specs.Appraised.{HasOffer}
use Rattle.copland_cli.specs.Offered.{HasNeeded, IsForAppraisal}
use Rattle.copland_cli.specs.declared.input.BundleNeed.{BundleNeed}
use Rattle.copland_cli.specs.declared.input.BundleNeed.TheVariants.{Optional, Required}
use Rattle.copland_cli.specs.Input.{is_required}

-- a property of the value of a result, where it has a value
abbrev Holds : {A E : Type 0} → (A → Type 0) → Result A E → Type 0
Holds P (Ok value) = P value
Holds P (Err error) = Unit {0}

bind : {A B : Type 0} (P : B → Type 0) (Q : A → Type 0) (r : Result A Fault) (next : A → Result B Fault) → Holds Q r → ((value : A) → Q value → Holds P (next value)) → Holds P (r >>= next)
bind P Q (Ok value) next h k = k value h
bind P Q (Err fault) next h k = tt

skip : {A B : Type 0} (P : B → Type 0) (r : Result A Fault) (next : A → Result B Fault) → ((value : A) → Holds P (next value)) → Holds P (r >>= next)
skip P (Ok value) next k = k value
skip P (Err fault) next k = tt

at_place : {A : Type 0} (P : A → Type 0) (at : FieldAt) (r : Result A FieldKind) → Holds P r → Holds P (located at r)
at_place P at (Ok value) h = h
at_place P at (Err kind) h = tt

-- ---- numbers within bounds

both : (a b : Bool) → (a && b) ≡ true → (a ≡ true) × (b ≡ true)
both true true h = (refl, refl)
both true false h = absurd (let e = h in cc)
both false b h = absurd (let e = h in cc)

record IsIn (least most size : ℕ) : Type 0 where
  low : least ≤ size
  high : size ≤ most

is_in : (least most size : ℕ) → is_within least most size ≡ true → IsIn least most size
is_in least most size holds =
    let each = both (nat_le least size) (nat_le size most) holds in
    record { low = leb-true least size each.0; high = leb-true size most each.1 }

picked : {A : Type 0} (P : A → Type 0) (value : A) (kind : FieldKind) (test : Bool) → (test ≡ true → P value) → Holds P (if test then Ok value else Err kind)
picked P value kind true h = h refl
picked P value kind false h = tt

count_in : (least most : ℕ) (found : Option Items) → Holds (λ (items : Items). IsIn least most (count items)) (of_kind (λ items. sized least most (count items) items) found)
count_in least most None = tt
count_in least most (Some items) = picked (λ (found : Items). IsIn least most (count found)) items _ (is_within least most (count items)) (λ holds. is_in least most (count items) holds)

items_in : (least most : ℕ) (found : Option Data) → Holds (λ (items : Items). IsIn least most (count items)) (required (list_of least most) found)
items_in least most None = tt
items_in least most (Some tree) = count_in least most (as_array tree)

number_in : (least most : ℕ) (found : Option ℕ) → Holds (λ (number : ℕ). IsIn least most number) (of_kind (λ number. sized least most number number) found)
number_in least most None = tt
number_in least most (Some number) = picked (λ (found : ℕ). IsIn least most found) number _ (is_within least most number) (λ holds. is_in least most number holds)

field_in : (least most : ℕ) (found : Option Data) → Holds (λ (number : ℕ). IsIn least most number) (required (number_of least most) found)
field_in least most None = tt
field_in least most (Some tree) = number_in least most (whole_of tree)

-- ---- as many values as items

grown : {A : Type 0} (value : A) (size : ℕ) (rest : Result (List A) Fault) → Holds (λ (values : List A). length values ≡ size) rest → Holds (λ (values : List A). length values ≡ size + 1) (rest >>= (λ values. Ok (value ∷ values)))
grown value size (Ok values) h = omega (arith, h)
grown value size (Err fault) h = tt

each_read : {A : Type 0} (read : ℕ → Data → Result A Fault) (index : ℕ) (items : Items) → Holds (λ (values : List A). length values ≡ count items) (each read index items)
each_read read index no_items = refl
each_read read index (item tree rest) =
    skip (λ values. length values ≡ count rest + 1) (read index tree) (λ value. each read (index + 1) rest >>= (λ values. Ok (value ∷ values)))
    (λ value. grown value (count rest) (each read (index + 1) rest) (each_read read (index + 1) rest))

as_many : {A : Type 0} (most size : ℕ) (r : Result (List A) Fault) → IsIn 1 most size → Holds (λ (values : List A). length values ≡ size) r → Holds (λ (values : List A). IsIn 1 most (length values)) r
as_many most size (Ok values) h k = record { low = omega (arith, h.low, k); high = omega (arith, h.high, k) }
as_many most size (Err fault) h k = tt

list_read : {A : Type 0} (read : ℕ → Data → Result A Fault) (field : Field) (most : ℕ) (tree : Data) → Holds (λ (values : List A). IsIn 1 most (length values)) (list_in read field most tree)
list_read read field most tree =
    bind (λ values. IsIn 1 most (length values)) (λ items. IsIn 1 most (count items)) (located (top_field field) (list_at tree field 1 most)) (each read 0)
    (at_place (λ items. IsIn 1 most (count items)) (top_field field) (list_at tree field 1 most) (items_in 1 most (get (field_word field) tree)))
    (λ items h. as_many most (count items) (each read 0 items) h (each_read read 0 items))

-- ---- the bundle

-- a bundle is there, of a session below this number
abbrev HasBundle : ℕ → Option BundleIn → Type 0
HasBundle sessions None = ⊥
HasBundle sessions (Some bundle) = bundle.session < sessions

bundle_read : (sessions : ℕ) (tree : Data) → 1 ≤ sessions → Holds (λ (bundle : BundleIn). bundle.session < sessions) (bundle_of sessions tree)
unfolding bundle_of
bundle_read sessions tree some =
    skip (λ (bundle : BundleIn). bundle.session < sessions) (located (top_field fields.Bundle) (is_object tree)) _ (λ object.
    bind (λ (bundle : BundleIn). bundle.session < sessions) (λ (number : ℕ). IsIn 0 (sessions - 1) number) (located (field_of sections.Bundle 0 fields.Session) (number_at tree fields.Session 0 (sessions - 1))) _
    (at_place (λ (number : ℕ). IsIn 0 (sessions - 1) number) (field_of sections.Bundle 0 fields.Session) (number_at tree fields.Session 0 (sessions - 1)) (field_in 0 (sessions - 1) (get (field_word fields.Session) tree))) (λ number h.
    skip (λ (bundle : BundleIn). bundle.session < sessions) (located (field_of sections.Bundle 0 fields.Bytes) (any_bytes_at tree fields.Bytes)) _ (λ bytes.
    skip (λ (bundle : BundleIn). bundle.session < sessions) (located (whole sections.Bundle 0) (has_only bundle_fields tree)) _ (λ only. below number h))))
  where
    below : (number : ℕ) → IsIn 0 (sessions - 1) number → number < sessions
    below number h = omega (arith, some, h.high)

there : (sessions : ℕ) (r : Result BundleIn Fault) → Holds (λ (bundle : BundleIn). bundle.session < sessions) r → Holds (HasBundle sessions) (r >>= (λ bundle. Ok (Some bundle)))
there sessions (Ok bundle) h = h
there sessions (Err fault) h = tt

bundle_there : (sessions : ℕ) (found : Option Data) → 1 ≤ sessions → Holds (HasBundle sessions) (bundle_from true sessions found)
bundle_there sessions None some = tt
bundle_there sessions (Some tree) some = there sessions (bundle_of sessions tree) (bundle_read sessions tree some)

-- ---- the job

record HasBoth (job : Written) : Type 0 where
  few : length job.places ≤ 64
  bundle : HasBundle (length job.sessions) job.bundle

written_both : (tree : Data) → Holds HasBoth (written_in true tree)
unfolding written_in
written_both tree =
    skip HasBoth (located (whole sections.Top 0) (is_object tree)) _ (λ object.
    bind HasBoth (λ places. IsIn 1 64 (length places)) (list_in place_in fields.Places 64 tree) _ (list_read place_in fields.Places 64 tree) (λ places few.
    skip HasBoth (optional_list_in artefact_in fields.Artefacts 4096 tree) _ (λ artefacts.
    bind HasBoth (λ sessions. IsIn 1 256 (length sessions)) (list_in session_in fields.Sessions 256 tree) _ (list_read session_in fields.Sessions 256 tree) (λ sessions some.
    skip HasBoth (optional_list_in reference_in fields.References 4096 tree) _ (λ references.
    bind HasBoth (HasBundle (length sessions)) (bundle_in true (length sessions) tree) _ (bundle_there (length sessions) (get (field_word fields.Bundle) tree) some.low) (λ bundle h.
    skip HasBoth (located (whole sections.Top 0) (has_only job_fields tree)) _ (λ only. record { few = few.high; bundle = h })))))))

has_both : (r : Result Written Fault) (job : Written) → r ≡ Ok job → Holds HasBoth r → HasBoth job
has_both (Ok found) job is h = let same : found ≡ job = cc in subst (λ (w : Written). HasBoth w) same h
has_both (Err fault) job is h = absurd (let e = is in cc)

same_length : (written : List WrittenSession) (sessions : List Session) → AreSessionsOf written sessions → length written ≡ length sessions
same_length [] [] h = refl
same_length [] (session ∷ sessions) h = absurd h
same_length (first ∷ rest) [] h = absurd h
same_length (first ∷ rest) (session ∷ sessions) h = ap suc (same_length rest sessions h.1)

session_there : (sessions : List Session) (number : ℕ) → number < length sessions → (session : Session) × (slice_get sessions number ≡ Some session)
session_there [] number below = absurd (let b = below in omega (arith, b))
session_there (session ∷ sessions) zero below = (session, refl)
session_there (session ∷ sessions) (suc number) below = session_there sessions number (omega (arith, below))

offer_there : (job : JobView) (bundle : Option BundleIn) → job.bundle ≡ bundle → HasBundle (length job.sessions) bundle → HasOffer job
offer_there job None is h = absurd h
offer_there job (Some bundle) is h =
    let found = session_there job.sessions bundle.session h in
    (record { bundle = bundle; session = found.0 }, record { bundle = is; session = found.1 })

for_appraisal : (bytes : List ℕ) (job : JobView) → IsAccepted bytes true job → IsForAppraisal job
for_appraisal bytes job h =
    let written : HasBoth h.text = has_both (written_in true h.written.tree) h.text h.written.formed (written_both h.written.tree) in
    let count = same_length h.text.sessions job.sessions h.whole.sessions in
    record {
      offer = offer_there job h.text.bundle h.whole.bundle (subst (λ (n : ℕ). HasBundle n h.text.bundle) count written.bundle);
      few = omega (arith, ap length h.whole.places, written.few);
    }

-- an accepted job has what is needed of it
pub has_needed : (bytes : List ℕ) (need : BundleNeed) (job : JobView) → IsAccepted bytes (is_required need) job → HasNeeded need job
has_needed bytes Optional job h = tt
has_needed bytes Required job h = for_appraisal bytes job h
