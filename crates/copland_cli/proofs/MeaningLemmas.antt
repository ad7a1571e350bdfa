-- A command has one refusal of an accepted job at most, and never both it and a report.
use Rattle.std.proofs.Common.{ℕ, List}
use Rattle.job_reader.specs.Finding.{JobView}
use Rattle.copland_cli.specs.Appraised.{HasNoUpgrade, HasNoVerdicts, IsOfUpgrade, IsOfVerdicts}
use Rattle.copland_cli.specs.Meaning.{IsDecisive, IsReport, IsSure, RefusesJob}
use Rattle.copland_cli.specs.Reported.{Failing, Giving, Starving}
use Rattle.copland_cli.specs.Command.{Command, Check, Shape, Events, Code, Eval, Walk, Order, Choose, Attest, Appraise, Upgrade, Load, Audit, Record}
use Rattle.copland_cli.specs.declared.ending.Ending.{Ending}
use Rattle.copland_cli.specs.Audited.{HasNoAudit, IsOfAudit, IsSureTranscript}
use Rattle.copland_cli.proofs.AuditLemmas.{audit_late, audit_none, audit_one}
use Rattle.copland_cli.proofs.AppraiseLemmas.{upgrade_late, upgrade_none, upgrade_one, verdicts_late, verdicts_none, verdicts_one}

-- a command that refuses none
none_refused : (Reports : List ℕ → Ending → Type 0) → IsDecisive (Unit {0}) (λ why. ⊥) Reports
none_refused Reports = record {
  late = λ why h. absurd h;
  one_refusal = λ sure why other h k. absurd h;
  not_both = λ sure why text ending h report. h;
}

of_verdicts : (job : JobView) → IsDecisive (Unit {0}) (HasNoVerdicts job) (IsOfVerdicts job)
of_verdicts job = record {
  late = verdicts_late job;
  one_refusal = λ sure. verdicts_one job;
  not_both = λ sure why text ending h report. verdicts_none job report.offer why report.offered report.references report.found h;
}

of_upgrade : (job : JobView) → IsDecisive (Unit {0}) (HasNoUpgrade job) (IsOfUpgrade job)
of_upgrade job = record {
  late = upgrade_late job;
  one_refusal = λ sure. upgrade_one job;
  not_both = λ sure why text ending h report. upgrade_none job report.offer why report.offered report.found h;
}

of_audit : (Gives : Giving) (Fails : Failing) (Starves : Starving) (job : JobView) → IsDecisive (IsSureTranscript Gives Fails job) (HasNoAudit Gives Fails Starves job) (IsOfAudit Gives Fails Starves job)
of_audit Gives Fails Starves job = record {
  late = λ why h. audit_late Gives Fails Starves job h.0 why h.2;
  one_refusal = λ sure why other h k. audit_one Gives Fails Starves job sure why other h k;
  not_both = λ sure why text ending h report. audit_none Gives Fails Starves job sure why text ending h report;
}

pub decisive : (Gives : Giving) (Fails : Failing) (Starves : Starving) (command : Command) (job : JobView) → IsDecisive (IsSure Gives Fails command job) (RefusesJob Gives Fails Starves command job) (IsReport Gives Fails Starves command job)
decisive Gives Fails Starves Check job = none_refused (IsReport Gives Fails Starves Check job)
decisive Gives Fails Starves Shape job = none_refused (IsReport Gives Fails Starves Shape job)
decisive Gives Fails Starves Events job = none_refused (IsReport Gives Fails Starves Events job)
decisive Gives Fails Starves Code job = none_refused (IsReport Gives Fails Starves Code job)
decisive Gives Fails Starves Eval job = none_refused (IsReport Gives Fails Starves Eval job)
decisive Gives Fails Starves (Walk number) job = none_refused (IsReport Gives Fails Starves (Walk number) job)
decisive Gives Fails Starves (Order text) job = none_refused (IsReport Gives Fails Starves (Order text) job)
decisive Gives Fails Starves (Choose text) job = none_refused (IsReport Gives Fails Starves (Choose text) job)
decisive Gives Fails Starves (Attest workers) job = none_refused (IsReport Gives Fails Starves (Attest workers) job)
decisive Gives Fails Starves Appraise job = of_verdicts job
decisive Gives Fails Starves Upgrade job = of_upgrade job
decisive Gives Fails Starves (Load number) job = none_refused (IsReport Gives Fails Starves (Load number) job)
decisive Gives Fails Starves (Record number) job = none_refused (IsReport Gives Fails Starves (Record number) job)
decisive Gives Fails Starves Audit job = of_audit Gives Fails Starves job
