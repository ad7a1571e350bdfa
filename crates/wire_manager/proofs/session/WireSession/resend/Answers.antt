use Rattle.std.proofs.Common.{sym, ◌∙◌}
use Rattle.wire_manager.proofs.KeptLemmas.{kept_within}
use Rattle.wire_manager.proofs.session.WireSession.resend.Goals as goal

pub send_again-requires-clause-there : goal.send_again-requires-clause-there
send_again-requires-clause-there g c = kept_within c.args.reply c.args.name c.self.inside.link.messages.items c.in-Some.index (sym c.index.ensures ∙ c.in-Some.is)
