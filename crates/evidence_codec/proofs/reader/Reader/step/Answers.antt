use Rattle.evidence_codec.proofs.FrontLemmas.{head-front}
use Rattle.evidence_codec.proofs.ReaderLemmas.{is_inside, is_sizing, ready-sized, ready-entered}
use Rattle.evidence_codec.proofs.reader.Reader.step.Goals as goal

pub enter-requires-clause-room : goal.enter-requires-clause-room
enter-requires-clause-room c =
    let reader = c.args.self.now in
    let is = is_inside reader c.in-Inside.at c.in-Inside.left c.requires.ready c.requires.no_head c.in-Inside.is in
    (head-front reader.version).wants reader.held.items is.wanting

pub returns-in-Sizing-clause-ready : goal.returns-in-Sizing-clause-ready
returns-in-Sizing-clause-ready c =
    let reader = c.args.self.now in
    ready-sized reader.either reader.version reader.held.items c.args.byte c.size.new.self (is_sizing reader c.requires.ready c.requires.no_head c.in-Sizing.is) c.size.ensures.stepped c.size.ensures.keeps

pub returns-in-Inside-clause-ready : goal.returns-in-Inside-clause-ready
returns-in-Inside-clause-ready c =
    let reader = c.args.self.now in
    ready-entered reader.either reader.version c.in-Inside.at c.in-Inside.left reader.nodes reader.held.items c.args.byte c.enter.new.self
    (is_inside reader c.in-Inside.at c.in-Inside.left c.requires.ready c.requires.no_head c.in-Inside.is) _ c.enter.ensures.stepped
