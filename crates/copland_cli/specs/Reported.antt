-- What the report of a command says of the sessions of a job.
use Rattle.std.specs.Prelude.{◌≡◌, ◌||◌, ℕ, List, [], ◌∷◌, Bool, true, false}
use Rattle.bench_trait.specs.declared.artefacts.Artefact.{Artefact}
use Rattle.bench_trait.specs.declared.ask.Ask.{Ask}
use Rattle.bench_trait.specs.declared.bench.BenchFault.{BenchFault}
use Rattle.session_model.specs.Session.{Session}
use Rattle.session_model.specs.Record.{Record, IsRisingRecord, is_failed}
use Rattle.session_model.specs.RightRecord.{IsRightRecord}
use Rattle.place_check.specs.declared.entry.PlaceEntry.{PlaceEntry}
use Rattle.place_check.specs.Places.{keys_of}
use Rattle.checked_sessions.specs.Named.{place_names}
use Rattle.session_walk.specs.Records.{AreOfWalk}
use Rattle.report_text.specs.Events.{events_text}
use Rattle.report_text.specs.Records.{records_text}
use Rattle.report_text.specs.Sessions.{check_text, code_text, numbered, shape_line}
use Rattle.copland_cli.specs.declared.ending.Ending.{Ending}
use Rattle.copland_cli.specs.declared.ending.Ending.TheVariants.{Good, SomeFailed}
use Rattle.copland_cli.specs.declared.session.Aspect.{Aspect}
use Rattle.copland_cli.specs.declared.session.Aspect.TheVariants as aspects

-- the answers that a bench gives to a question over artefacts, the faults with which it fails, and the
-- questions over artefacts that it may leave unanswered for want of memory
abbrev pub Giving : Type 1
Giving = List Artefact → Ask → List ℕ → Type 0

abbrev pub Failing : Type 1
Failing = List Artefact → Ask → BenchFault → Type 0

abbrev pub Starving : Type 1
Starving = List Artefact → Ask → Type 0

-- what is said of a session that has this number and isn't run
abbrev pub aspect_text : Aspect → ℕ → Session → List ℕ
aspect_text aspects.Check number session = check_text number session
aspect_text aspects.Shape number session = shape_line number session
aspect_text aspects.Events number session = events_text number session.phrase session.root
aspect_text aspects.Code number session = code_text number session

-- the report says this of each session in their order, and is good
abbrev pub SaysOfEach : (ℕ → Session → List ℕ) → List Session → List ℕ → Ending → Type 0
SaysOfEach text_of sessions text ending = (text ≡ numbered text_of 0 sessions) × (ending ≡ Good)

-- a record of a session for these keys: it is right over every order of events, and its events happened in
-- the order of their numbers
pub record IsRecordOf (Gives : Ask → List ℕ → Type 0) (Fails : Ask → BenchFault → Type 0) (keys : List (List ℕ × List ℕ)) (session : Session) (found : Record) : Type 0 where
  pub right : IsRightRecord Gives Fails session keys found
  pub rising : IsRisingRecord Gives Fails session keys found

-- one record of each session, in their order
abbrev pub AreRecords : (Ask → List ℕ → Type 0) → (Ask → BenchFault → Type 0) → List (List ℕ × List ℕ) → List Session → List Record → Type 0
AreRecords Gives Fails keys [] [] = Unit {0}
AreRecords Gives Fails keys [] (found ∷ records) = ⊥
AreRecords Gives Fails keys (session ∷ sessions) [] = ⊥
AreRecords Gives Fails keys (session ∷ sessions) (found ∷ records) =
    IsRecordOf Gives Fails keys session found × AreRecords Gives Fails keys sessions records

-- one of the records is of a session that failed
abbrev pub some_failed : List Record → Bool
some_failed [] = false
some_failed (found ∷ records) = is_failed found || some_failed records

-- how a report of records ends
abbrev pub ending_of : Bool → Ending
ending_of true = SomeFailed
ending_of false = Good

-- the report is this text of one record of each session, and ends by whether one of them failed
pub record IsOfRecords (Gives : Ask → List ℕ → Type 0) (Fails : Ask → BenchFault → Type 0) (keys : List (List ℕ × List ℕ)) (sessions : List Session) (text_of : List Record → List ℕ) (text : List ℕ) (ending : Ending) : Type 0 where
  pub records : List Record
  pub each : AreRecords Gives Fails keys sessions records
  pub reported : text ≡ text_of records
  pub ended : ending ≡ ending_of (some_failed records)

-- the report is the text of records that are those of the sessions as the schedule of a number plays them, and
-- ends by whether one of them failed
pub record IsOfWalk (Gives : Ask → List ℕ → Type 0) (Fails : Ask → BenchFault → Type 0) (Starves : Ask → Type 0) (places : List PlaceEntry) (sessions : List Session) (number : ℕ) (text : List ℕ) (ending : Ending) : Type 0 where
  pub records : List Record
  pub walked : AreOfWalk Gives Fails Starves (place_names places) (keys_of places) sessions number records
  pub reported : text ≡ records_text records
  pub ended : ending ≡ ending_of (some_failed records)
