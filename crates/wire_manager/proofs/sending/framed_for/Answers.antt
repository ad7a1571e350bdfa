use Rattle.std.proofs.Common.{sym, ◌∙◌}
use Rattle.session_runs.specs.Touches.{sent_by}
use Rattle.session_book.specs.Entries.{move_of}
use Rattle.wire_manager.proofs.FramedLemmas.{if_ok, ready_so, message_as, none_as}
use Rattle.wire_manager.proofs.sending.framed_for.Goals as goal

pub returns-in-Ok-Some : goal.returns-in-Ok-Some
returns-in-Ok-Some g c =
    if_ok c.framed.result c.framed.ensures
    (λ kept ready standing stands there.
    ready_so _ _ _ _ kept c.nonce.ensures
    (message_as c.args.reply c.args.name c.in-Ok-Some.bundle (sent_by standing (move_of c.args.step.now)) (sym c.in-Ok-Some.field-0-is ∙ (c.in-Ok-Some.ensures.possible standing stands there).is))
    ready)

pub returns-in-Ok-None : goal.returns-in-Ok-None
returns-in-Ok-None g c = λ standing stands there.
    none_as c.args.reply c.args.name (sent_by standing (move_of c.args.step.now)) (sym c.in-Ok-None.field-0-is ∙ (c.in-Ok-None.ensures.possible standing stands there).is)
