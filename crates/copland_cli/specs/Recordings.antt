-- What `record` reports of the sessions of a job, and how it ends. Both are this project's own.
use Rattle.std.specs.Prelude.{◌≡◌, ◌||◌, ℕ, List, [], ◌∷◌, Bool, false, map}
use Rattle.bench_trait.specs.declared.ask.Ask.{Ask}
use Rattle.bench_trait.specs.declared.bench.BenchFault.{BenchFault}
use Rattle.session_model.specs.Session.{Session}
use Rattle.place_check.specs.declared.entry.PlaceEntry.{PlaceEntry}
use Rattle.place_check.specs.Places.{keys_of}
use Rattle.checked_sessions.specs.Named.{place_names}
use Rattle.transcript.specs.Recording.{AreOfRecordedWalk}
use Rattle.transcript.specs.declared.recording.RecordedSession.{RecordedSession}
use Rattle.report_text.specs.Transcripts.{transcript_in, transcripts_text}
use Rattle.copland_cli.specs.Reported.{ending_of}
use Rattle.copland_cli.specs.declared.ending.Ending.{Ending}

-- one of the sessions failed
abbrev pub one_failed : List RecordedSession → Bool
one_failed [] = false
one_failed (one ∷ recordings) = one.has_failed || one_failed recordings

-- the report is the text of the transcripts of the sessions as the schedule of a number plays them, and ends by whether
-- one of them failed
pub record IsOfRecording (Gives : Ask → List ℕ → Type 0) (Fails : Ask → BenchFault → Type 0) (Starves : Ask → Type 0) (places : List PlaceEntry) (sessions : List Session) (number : ℕ) (text : List ℕ) (ending : Ending) : Type 0 where
  pub recordings : List RecordedSession
  pub walked : AreOfRecordedWalk Gives Fails Starves (place_names places) (keys_of places) sessions number recordings
  pub reported : text ≡ transcripts_text (map transcript_in recordings)
  pub ended : ending ≡ ending_of (one_failed recordings)
