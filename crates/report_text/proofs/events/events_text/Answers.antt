use Rattle.phrase_tree.specs.Term.{term}
use Rattle.report_text.proofs.events.events_text.Goals as goal

pub returns-clause-direct : goal.returns-clause-direct
returns-clause-direct c = c.needs_law.ensures.direct (term c.args.phrase.now)
