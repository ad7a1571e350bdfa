-- How two reports on the sessions of one job may differ, where a question has one answer.
use Rattle.std.specs.Prelude.{◌≡◌, ℕ, List, false}
use Rattle.std.specs.List.{AllZip}
use Rattle.session_model.specs.Record.{Record, done, failed}
use Rattle.report_text.specs.Records.{records_text, values_text}
use Rattle.copland_cli.specs.Reported.{some_failed}
use Rattle.copland_cli.specs.declared.ending.Ending.{Ending}

-- two records of a session: it is done in both, with the same answers and the same bundle; or it failed in both
abbrev pub AreAlike : Record → Record → Type 0
AreAlike (done trace answers bytes) (done again same_answers same_bytes) = (answers ≡ same_answers) × (bytes ≡ same_bytes)
AreAlike (done trace answers bytes) (failed event fault again) = ⊥
AreAlike (failed event fault trace) (done again answers bytes) = ⊥
AreAlike (failed event fault trace) (failed other again so_far) = Unit {0}

-- the reports are the texts of such records, session by session, and end the same; and where no session failed,
-- the texts are the same but for the lines of traces
pub record DifferInTraces (text written : List ℕ) (ending ended : Ending) : Type 0 where
  pub records : List Record
  pub others : List Record
  pub one : text ≡ records_text records
  pub other : written ≡ records_text others
  pub alike : AllZip AreAlike records others
  pub ends : ending ≡ ended
  pub traces_alone : some_failed records ≡ false → values_text records ≡ values_text others
