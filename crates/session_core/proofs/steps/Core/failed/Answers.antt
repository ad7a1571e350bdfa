use Rattle.std.proofs.Common.{sym, ap, ◌∙◌}
use Rattle.std.specs.Prelude.{Some}
use Rattle.session_model.specs.Record.{failed}
use Rattle.session_runs.specs.History.{record_of}
use Rattle.session_book.specs.Kept.{state_of}
use Rattle.session_core.proofs.ReadingFacts.{state_is}
use Rattle.session_core.proofs.steps.Core.failed.Goals as goal

pub returns-in-Ok-clause-found : goal.returns-in-Ok-clause-found
returns-in-Ok-clause-found c session keys places standing i =
    let core = c.args.self.now in
    ap (record_of session standing) (sym (state_is session keys places standing core i) ∙ ap (state_of core.world.store.values) c.requires)
    ∙ ap (λ t. Some (failed c.args.event c.args.fault t)) (sym (c.in-Ok.ensures core.world.store.values ∙ i.played.played.shown.trace))
