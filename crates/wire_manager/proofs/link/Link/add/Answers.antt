use Rattle.std.proofs.Common.{refl}
use Rattle.wire_manager.proofs.KeptLemmas.{link_with_reply, link_with_request}
use Rattle.wire_manager.proofs.link.Link.add.Goals as goal

pub returns-then-message-clause-link : goal.returns-then-message-clause-link
returns-then-message-clause-link c =
    link_with_reply c.what_is_found.ensures.inserted c.args.message c.args.self.now _ c.put.result c.requires.link c.if-message.true c.requires.new refl c.put.ensures.rises c.put.ensures.messages c.put.ensures.numbers c.put.ensures.few c.put.ensures.err

pub returns-else-message-clause-link : goal.returns-else-message-clause-link
returns-else-message-clause-link c =
    link_with_request c.what_is_found.ensures.inserted c.args.message c.args.self.now _ c.put-else-message.result c.requires.link c.if-message.false c.requires.new refl c.put-else-message.ensures.rises c.put-else-message.ensures.messages c.put-else-message.ensures.numbers c.put-else-message.ensures.few c.put-else-message.ensures.err
