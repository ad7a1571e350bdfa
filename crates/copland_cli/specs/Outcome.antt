-- What is decided before anything is written.
use Rattle.std.specs.Prelude.{◌≡◌, ◌⊎◌, ℕ, List}
use Rattle.job_reader.specs.Finding.{JobView}
use Rattle.report_text.specs.declared.refusal.Refusal.TheVariants.{Words, NoMemory}
use Rattle.copland_cli.specs.Input.{IsMade, IsSubject, IsWithoutSubject}
use Rattle.copland_cli.specs.Meaning.{IsReport, RefusesJob}
use Rattle.copland_cli.specs.Port.{Port, IsUnread}
use Rattle.copland_cli.specs.Reported.{Failing, Giving, Starving}
use Rattle.copland_cli.specs.Words.{IsBadWords, Spells}
use Rattle.copland_cli.specs.Command.{Command}
use Rattle.copland_cli.specs.declared.outcome.Outcome.{Outcome}
use Rattle.copland_cli.specs.declared.outcome.Outcome.TheVariants.{Refused, Reported}

-- what a command decides over an accepted job: its refusal, or its report; or there was no memory
abbrev pub IsMeant : Giving → Failing → Starving → Command → JobView → Outcome → Type 0
IsMeant Gives Fails Starves command job (Refused why) = (why ≡ NoMemory) ⊎ RefusesJob Gives Fails Starves command job why
IsMeant Gives Fails Starves command job (Reported report) = IsReport Gives Fails Starves command job report.text report.ending

-- what a command decides over a source: why it has no job to be about; or, over the job that it is about,
-- its refusal or its report
abbrev pub IsRun : Giving → Failing → Starving → Command → Port → Outcome → Type 0
IsRun Gives Fails Starves command source (Refused why) =
    IsWithoutSubject command source why ⊎ ((job : JobView) × IsSubject command source job × RefusesJob Gives Fails Starves command job why)
IsRun Gives Fails Starves command source (Reported report) =
    (job : JobView) × IsSubject command source job × IsReport Gives Fails Starves command job report.text report.ending

-- what a command that reads nothing decides over the job that it makes: its report, or there was no memory
abbrev pub IsMadeRun : Giving → Failing → Starving → Command → Outcome → Type 0
IsMadeRun Gives Fails Starves command (Refused why) = why ≡ NoMemory
IsMadeRun Gives Fails Starves command (Reported report) =
    (job : JobView) × IsMade command job × IsReport Gives Fails Starves command job report.text report.ending

-- what the words decide, where these commands are known: the run of the command that they spell; or their refusal,
-- and the source isn't read
abbrev pub IsDecided : (Command → Type 0) → Giving → Failing → Starving → List (List ℕ) → Port → Outcome → Type 0
IsDecided Known Gives Fails Starves words source outcome =
    ((command : Command) × Spells words command × Known command × IsRun Gives Fails Starves command source outcome)
    ⊎ (IsBadWords Known words × IsUnread source × (outcome ≡ Refused Words))
