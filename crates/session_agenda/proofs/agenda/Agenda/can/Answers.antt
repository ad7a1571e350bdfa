use Rattle.std.proofs.Common.{sym, ◌∙◌, ap, subst}
use Rattle.std.specs.Prelude.{IsTrue, Contains, ◌↔◌}
use Rattle.session_agenda.specs.declared.moves.Move.{Move}
use Rattle.session_agenda.specs.Kept.{can_run, can_ask, listed}
use Rattle.session_agenda.proofs.Membership.{can_deliver, can_run_is, can_ask_is}
use Rattle.session_agenda.proofs.agenda.Agenda.can.Goals as goal

pub returns-in-Deliver : goal.returns-in-Deliver
returns-in-Deliver c =
    subst (λ (m : Move). IsTrue c.waits.result ↔ Contains (listed c.args.self.now) m) (sym c.in-Deliver.is)
    (can_deliver c.args.self.now c.requires c.in-Deliver.place c.waits.result c.waits.ensures)

pub returns-in-Run : goal.returns-in-Run
returns-in-Run c =
    subst (λ (m : Move). IsTrue c.can_run.result ↔ Contains (listed c.args.self.now) m) (sym c.in-Run.is)
    (can_run_is c.args.self.now c.requires c.in-Run.name c.can_run.result (c.can_run.ensures ∙ ap can_run c.task.ensures))

pub returns-in-Ask : goal.returns-in-Ask
returns-in-Ask c =
    subst (λ (m : Move). IsTrue c.can_ask.result ↔ Contains (listed c.args.self.now) m) (sym c.in-Ask.is)
    (can_ask_is c.args.self.now c.requires c.in-Ask.name c.can_ask.result (c.can_ask.ensures ∙ ap can_ask c.task-in-Ask.ensures))
