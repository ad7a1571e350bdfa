use Rattle.std.proofs.Common.{sym, ◌∙◌, ap, subst, refl, None, ◌≡◌}
use Rattle.session_core.specs.Touching.{touch_as}
use Rattle.session_runs.specs.Touches.{sent_by}
use Rattle.session_book.specs.Entries.{move_of}
use Rattle.wire_manager.specs.Messages.{message_by}
use Rattle.wire_manager.proofs.sending.message_for.Goals as goal

pub returns-in-NeedsRequest : goal.returns-in-NeedsRequest
returns-in-NeedsRequest g c = λ standing stands there.
    subst (λ t. message_by t (sent_by standing (move_of c.args.step.now)) ≡ None) (ap touch_as (sym c.in-NeedsRequest.is) ∙ c.touches.ensures.possible standing stands there) refl

pub returns-in-NeedsReply : goal.returns-in-NeedsReply
returns-in-NeedsReply g c = λ standing stands there.
    subst (λ t. message_by t (sent_by standing (move_of c.args.step.now)) ≡ None) (ap touch_as (sym c.in-NeedsReply.is) ∙ c.touches.ensures.possible standing stands there) refl
