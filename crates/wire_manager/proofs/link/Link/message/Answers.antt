use Rattle.std.proofs.Common.{subst, ◌<◌, sym, ◌∙◌, ap}
use Rattle.std.specs.Prelude.{Some}
use Rattle.wire_manager.proofs.KeptLemmas.{kept_within, kept_found, index_none}
use Rattle.wire_manager.specs.Link.{message_of, messages_of}
use Rattle.wire_manager.proofs.link.Link.message.Goals as goal

pub index-requires-in-Some : goal.index-requires-in-Some
index-requires-in-Some c =
    subst (λ k. c.in-Some.index < k) (sym c.args.self.now.messages.ok.0)
    (kept_within c.args.reply c.args.name c.args.self.now.messages.items c.in-Some.index (sym c.index.ensures ∙ c.in-Some.is))

pub returns-in-Some : goal.returns-in-Some
returns-in-Some c =
    ap (λ k. Some (message_of k)) c.index-in-Some.ensures
    ∙ sym (kept_found c.args.reply c.args.name c.args.self.now.messages.items c.in-Some.index c.index-in-Some.result.now (sym c.index.ensures ∙ c.in-Some.is))

pub returns-in-None : goal.returns-in-None
returns-in-None c = sym (index_none c.args.reply c.args.name (messages_of c.args.self.now.messages.items) (sym c.index.ensures ∙ c.in-None.is)).0
