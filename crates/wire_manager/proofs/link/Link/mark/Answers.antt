use Rattle.std.proofs.Common.{subst, ◌<◌, ◌≡◌, true, slice_set, refl, sym, ◌∙◌, ap}
use Rattle.wire_manager.proofs.KeptLemmas.{kept_within, kept_marked, link_marked, index_none}
use Rattle.wire_manager.proofs.WireLemmas.{keeps_marked}
use Rattle.wire_manager.specs.Link.{messages_of}
use Rattle.wire_manager.specs.Messages.{with_arrived}
use Rattle.wire_manager.proofs.link.Link.mark.Goals as goal

pub index_mut-requires : goal.index_mut-requires
index_mut-requires c =
    subst (λ k. c.in-Some.index < k) (sym c.args.self.now.messages.ok.0)
    (kept_within c.args.reply c.args.name c.args.self.now.messages.items c.in-Some.index (sym c.index.ensures ∙ c.in-Some.is))

pub returns-in-Some-clause-messages : goal.returns-in-Some-clause-messages
returns-in-Some-clause-messages c =
    ap (λ k. messages_of (slice_set c.args.self.now.messages.items c.in-Some.index (record k { arrived = true }))) c.index_mut.ensures.value
    ∙ kept_marked c.args.reply c.args.name c.args.self.now.messages.items c.in-Some.index c.index_mut.result.now (sym c.index.ensures ∙ c.in-Some.is)

pub returns-in-Some-clause-link : goal.returns-in-Some-clause-link
returns-in-Some-clause-link c = link_marked c.args.reply c.args.name c.args.self.now _ c.requires (returns-in-Some-clause-messages c) refl refl refl

pub returns-in-Some-clause-keeps : goal.returns-in-Some-clause-keeps
returns-in-Some-clause-keeps c =
    keeps_marked c.args.self.now _ c.args.reply c.args.name c.in-Some.index c.index_mut.result.now
    (ap (λ k. slice_set c.args.self.now.messages.items c.in-Some.index (record k { arrived = true })) c.index_mut.ensures.value)
    (returns-in-Some-clause-messages c) refl

pub returns-in-None-clause-messages : goal.returns-in-None-clause-messages
returns-in-None-clause-messages c = sym (index_none c.args.reply c.args.name (messages_of c.args.self.now.messages.items) (sym c.index.ensures ∙ c.in-None.is)).1
