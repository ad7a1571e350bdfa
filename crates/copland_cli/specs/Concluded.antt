-- What the end of a run writes and answers.
use Rattle.std.specs.Prelude.{◌≡◌, ◌⊎◌}
use Rattle.report_text.specs.Refusal.{line_of}
use Rattle.copland_cli.specs.Port.{Port, TookAll, TookFront, TookLine}
use Rattle.copland_cli.specs.Status.{ending_status, status_of}
use Rattle.copland_cli.specs.declared.outcome.Outcome.{Outcome}
use Rattle.copland_cli.specs.declared.outcome.Outcome.TheVariants.{Refused, Reported}
use Rattle.copland_cli.specs.declared.status.Status.{Status}
use Rattle.copland_cli.specs.declared.status.Status.TheVariants.{WriteFault}

-- a refusal writes its line and has its status; a report is written whole and has the status of its ending,
-- or the sink met a fault, and the front of it stands
abbrev pub IsConcluded : Port → Outcome → Status → Type 0
IsConcluded sink (Refused why) status = (status ≡ status_of why) × TookLine sink (line_of why)
IsConcluded sink (Reported report) status =
    ((status ≡ ending_status report.ending) × TookAll sink report.text)
    ⊎ ((status ≡ WriteFault) × TookFront sink report.text)
