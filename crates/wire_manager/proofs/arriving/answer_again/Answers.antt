use Rattle.std.proofs.Common.{true, sym, ◌∙◌}
use Rattle.wire_manager.proofs.KeptLemmas.{kept_within}
use Rattle.wire_manager.proofs.arriving.answer_again.Goals as goal

pub send_again-requires-clause-there : goal.send_again-requires-clause-there
send_again-requires-clause-there c = kept_within true c.args.name c.args.link.now.messages.items c.in-Some.index (sym c.index.ensures ∙ c.in-Some.is)
