use Rattle.std.proofs.Common.{sym, ap, ◌∙◌, refl, length}
use Rattle.session_core.proofs.steps.Core.asked_count.Goals as goal

pub returns : goal.returns
returns c session keys places standing i =
    c.flight_count.ensures ∙ ap (λ xs. length xs) (sym (c.asks_law.ensures session keys places standing c.args.self.now i refl))
