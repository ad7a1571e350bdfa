-- The tests over a whole job that is well formed, in their order; the first that finds something
-- refuses the job. The tests are this project's own.
use Rattle.std.specs.Prelude.{◌≡◌, ◌<◌, ◌⊎◌, ℕ, suc, false, List, [], ◌∷◌, Option, None, Some, nat_eq, option_map, slice_get, if◌then◌else◌}
use Rattle.std.specs.Cmp.Lexicographic.{pointwise}
use Rattle.phrase_tree.specs.Term.{Term}
use Rattle.phrase_tree.specs.Repeats.{IsFirstRepeat, repeats_by}
use Rattle.evidence_types.specs.Measure.{oversize_at}
use Rattle.session_model.specs.Session.{Session}
use Rattle.bench_trait.specs.declared.artefacts.Artefact.{Artefact}
use Rattle.bench_trait.specs.Artefacts.{artefact_index}
use Rattle.place_check.specs.declared.entry.PlaceEntry.{PlaceEntry}
use Rattle.place_check.specs.declared.entry.PlaceKind.{PlaceKind}
use Rattle.place_check.specs.Places.{is_place, repeats as place_repeats}
use Rattle.place_check.specs.Rules.{faults}
use Rattle.place_check.specs.Session.{IsBounded, IsCheckedAgainst}
use Rattle.reference_book.specs.declared.reference.Reference.{Reference}
use Rattle.reference_book.specs.References.{repeats as reference_repeats}
use Rattle.phrase_reader.specs.declared.refusal.Kind.{Kind}
use Rattle.phrase_reader.specs.Refusal.{IsRead, IsRefusal}
use Rattle.job_reader.specs.declared.refusal.JobError.{JobError}
use Rattle.job_reader.specs.declared.refusal.JobError.TheVariants.{RepeatedPlace, RepeatedArtefact, RepeatedReference, BadRoot, RepeatedNonce, BadPhrase, Misplaced, Oversize}
use Rattle.job_reader.specs.Form.{Written, WrittenSession}

-- the least number of which something holds
pub record IsLeast (Holds : ℕ → Type 0) (number : ℕ) : Type 0 where
  pub holds : Holds number
  pub least : (earlier : ℕ) → earlier < number → ¬ (Holds earlier)

-- where the first artefact of the same place and name stands
abbrev pub same_artefact : List Artefact → Artefact → Option ℕ
same_artefact artefacts artefact = artefact_index artefacts artefact.place artefact.name

-- the least index that the artefact at an index repeats
abbrev pub artefact_repeats : List Artefact → ℕ → Option ℕ
artefact_repeats = repeats_by same_artefact

-- where the first session of this nonce stands
abbrev pub nonce_index : List WrittenSession → List ℕ → Option ℕ
nonce_index [] bytes = None
nonce_index (session ∷ rest) bytes =
    if pointwise nat_eq session.nonce bytes then Some 0 else option_map suc (nonce_index rest bytes)

-- where the first session of the same nonce stands
abbrev pub same_nonce : List WrittenSession → WrittenSession → Option ℕ
same_nonce sessions session = nonce_index sessions session.nonce

-- the least index that the session at an index repeats
abbrev pub nonce_repeats : List WrittenSession → ℕ → Option ℕ
nonce_repeats = repeats_by same_nonce

-- there is a session at this index, of which something holds
abbrev pub IsAt : List WrittenSession → (WrittenSession → Type 0) → ℕ → Type 0
IsAt sessions Holds index = (session : WrittenSession) × (slice_get sessions index ≡ Some session) × Holds session

-- the session's root is no place
abbrev pub HasNoRoot : List PlaceEntry → WrittenSession → Type 0
HasNoRoot places session = is_place places session.root ≡ false

-- the session's text has a refusal
abbrev pub IsRefused : WrittenSession → Type 0
IsRefused session = (place : ℕ) × (kind : Kind) × IsRefusal session.phrase place kind

-- what keeps a session's phrase from being run: the first rule of places that it breaks, or else the
-- least event at which it is oversize
pub data Hindrance : Type 0 where
  misplaced : ℕ → PlaceKind → Hindrance
  oversize : ℕ → Hindrance

abbrev pub hindrance_of : List (ℕ × PlaceKind) → Option ℕ → Option Hindrance
hindrance_of [] None = None
hindrance_of [] (Some event) = Some (oversize event)
hindrance_of (broken ∷ rest) over = Some (misplaced broken.0 broken.1)

abbrev pub hindrance : List PlaceEntry → List ℕ → Term → Option Hindrance
hindrance places root phrase = hindrance_of (faults places root phrase) (oversize_at phrase)

-- the session is kept from being run by this
abbrev pub IsHinderedBy : List PlaceEntry → Hindrance → WrittenSession → Type 0
IsHinderedBy places what session =
    (phrase : Term) × IsRead session.phrase phrase × (hindrance places session.root phrase ≡ Some what)

-- the session is kept from being run
abbrev pub IsHindered : List PlaceEntry → WrittenSession → Type 0
IsHindered places session = (what : Hindrance) × IsHinderedBy places what session

-- the refusal of a session for what keeps it from being run
abbrev pub hindrance_error : ℕ → Hindrance → JobError
hindrance_error session (misplaced event kind) = Misplaced session event kind
hindrance_error session (oversize event) = Oversize session event

-- what each test finds
abbrev pub FindsTwoPlaces : List PlaceEntry → JobError → Type 0
FindsTwoPlaces places error =
    (first : ℕ) × (second : ℕ) × (error ≡ RepeatedPlace first second) × IsFirstRepeat (place_repeats places) first second

abbrev pub FindsTwoArtefacts : List Artefact → JobError → Type 0
FindsTwoArtefacts artefacts error =
    (first : ℕ) × (second : ℕ) × (error ≡ RepeatedArtefact first second) × IsFirstRepeat (artefact_repeats artefacts) first second

abbrev pub FindsTwoReferences : List Reference → JobError → Type 0
FindsTwoReferences references error =
    (first : ℕ) × (second : ℕ) × (error ≡ RepeatedReference first second) × IsFirstRepeat (reference_repeats references) first second

abbrev pub FindsBadRoot : List PlaceEntry → List WrittenSession → JobError → Type 0
FindsBadRoot places sessions error =
    (session : ℕ) × (error ≡ BadRoot session) × IsLeast (IsAt sessions (HasNoRoot places)) session

abbrev pub FindsTwoNonces : List WrittenSession → JobError → Type 0
FindsTwoNonces sessions error =
    (first : ℕ) × (second : ℕ) × (error ≡ RepeatedNonce first second) × IsFirstRepeat (nonce_repeats sessions) first second

abbrev pub FindsBadPhrase : List WrittenSession → JobError → Type 0
FindsBadPhrase sessions error =
    (session : ℕ) × (place : ℕ) × (kind : Kind) × (error ≡ BadPhrase session place kind) × IsLeast (IsAt sessions IsRefused) session × IsAt sessions (λ written. IsRefusal written.phrase place kind) session

abbrev pub FindsHindrance : List PlaceEntry → List WrittenSession → JobError → Type 0
FindsHindrance places sessions error =
    (session : ℕ) × (what : Hindrance) × (error ≡ hindrance_error session what) × IsLeast (IsAt sessions (IsHindered places)) session × IsAt sessions (IsHinderedBy places what) session

-- the tests
pub data Test : Type 0 where
  two_places : Test
  two_artefacts : Test
  two_references : Test
  bad_root : Test
  two_nonces : Test
  bad_phrase : Test
  hindrances : Test

-- the tests in their order
abbrev pub tests : List Test
tests =
    two_places ∷ two_artefacts ∷ two_references ∷ bad_root ∷ two_nonces ∷ bad_phrase ∷ hindrances ∷ []

abbrev pub Finds : Test → Written → JobError → Type 0
Finds two_places job error = FindsTwoPlaces job.places error
Finds two_artefacts job error = FindsTwoArtefacts job.artefacts error
Finds two_references job error = FindsTwoReferences job.references error
Finds bad_root job error = FindsBadRoot job.places job.sessions error
Finds two_nonces job error = FindsTwoNonces job.sessions error
Finds bad_phrase job error = FindsBadPhrase job.sessions error
Finds hindrances job error = FindsHindrance job.places job.sessions error

-- a test finds nothing
abbrev pub FindsNothing : (JobError → Type 0) → Type 0
FindsNothing Found = (error : JobError) → ¬ (Found error)

-- what the first of these tests finds that finds something
abbrev pub FirstFinds : List Test → Written → JobError → Type 0
FirstFinds [] job error = ⊥
FirstFinds (test ∷ rest) job error =
    Finds test job error ⊎ (FindsNothing (Finds test job) × FirstFinds rest job error)

-- none of these tests finds anything
abbrev pub NoneFinds : List Test → Written → Type 0
NoneFinds [] job = Unit {0}
NoneFinds (test ∷ rest) job = FindsNothing (Finds test job) × NoneFinds rest job

-- a session as it is written, and as it is run
pub record IsSessionOf (written : WrittenSession) (session : Session) : Type 0 where
  pub root : session.root ≡ written.root
  pub same_nonce : session.nonce ≡ written.nonce
  pub phrase : IsRead written.phrase session.phrase

-- the same of two lists, item by item
abbrev pub AreSessionsOf : List WrittenSession → List Session → Type 0
AreSessionsOf [] [] = Unit {0}
AreSessionsOf [] (session ∷ sessions) = ⊥
AreSessionsOf (first ∷ rest) [] = ⊥
AreSessionsOf (first ∷ rest) (session ∷ sessions) = IsSessionOf first session × AreSessionsOf rest sessions

-- a session that may be run: it was checked against the places, and its phrase is within the limits
pub record IsRunnable (places : List PlaceEntry) (session : Session) : Type 0 where
  pub checked : IsCheckedAgainst session places
  pub bounded : IsBounded session.phrase

-- each of these sessions is
abbrev pub AreRunnable : List PlaceEntry → List Session → Type 0
AreRunnable places [] = Unit {0}
AreRunnable places (session ∷ sessions) = IsRunnable places session × AreRunnable places sessions
