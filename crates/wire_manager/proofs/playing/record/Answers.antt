use Rattle.session_book.specs.Entries.{entry_of}
use Rattle.session_core.specs.Reading.{result_entry}
use Rattle.session_core.specs.Session.{session_in, keys_in, history}
use Rattle.wire_manager.specs.Link.{messages_of}
use Rattle.wire_manager.proofs.WireLemmas.{wire_recorded, result_rests}
use Rattle.wire_manager.proofs.playing.record.Goals as goal

pub returns-clause-wire : goal.returns-clause-wire
returns-clause-wire g c =
    let seen = c.args.session.now in
    let one = result_entry c.args.pass c.args.event c.args.measured in
    let legal = c.legal.ensures in
    wire_recorded seen one c.args.link.now c.record.new.self c.record.result c.requires.wire
    (c.link_law.ensures.rests (session_in seen.opening) (keys_in seen.opening) (history seen) legal.0 (entry_of one) (messages_of c.args.link.now.messages.items) legal.1.stands (result_rests legal.0 c.args.pass c.args.event c.args.measured) c.requires.wire.linked)
    c.record.ensures.ok c.record.ensures.err
