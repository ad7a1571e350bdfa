use Rattle.std.proofs.Common.{sym, subst}
use Rattle.std.specs.Prelude.{None, IfOk}
use Rattle.machine_world.specs.Cells.{block_of}
use Rattle.session_book.specs.declared.entry.Move.{Move}
use Rattle.session_core.specs.Reading.{Tells}
use Rattle.session_core.specs.Touching.{IsMessageOf}
use Rattle.session_core.proofs.TouchingFacts.{ask_message, delivery_message}
use Rattle.session_core.proofs.steps.Core.sent.Goals as goal

pub returns-in-Ask : goal.returns-in-Ask
returns-in-Ask c session keys places standing i =
    subst (λ (m : Move). IsMessageOf places standing m None) (sym c.in-Ask.is) (λ h. ask_message standing (block_of c.in-Ask.field-0))

pub returns-in-Deliver : goal.returns-in-Deliver
returns-in-Deliver c session keys places standing i =
    subst (λ (m : Move). IsMessageOf places standing m None) (sym c.in-Deliver.is) (λ h. delivery_message standing c.in-Deliver.field-0)

pub returns-in-Run : goal.returns-in-Run
returns-in-Run c =
    subst (λ (m : Move). IfOk c.sent_by_run.result (λ message. Tells c.args.self.now (λ session places standing. IsMessageOf places standing m message))) (sym c.in-Run.is) c.sent_by_run.ensures
