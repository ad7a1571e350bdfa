use Rattle.std.proofs.Common.{sym, subst}
use Rattle.session_runs.specs.Touches.{touch_of, sent_by}
use Rattle.session_book.specs.declared.entry.Entry.TheVariants as entry
use Rattle.session_book.specs.Entries.{move_of}
use Rattle.session_core.specs.Session.{session_in, keys_in, places_in, history}
use Rattle.wire_manager.specs.Messages.{message_by}
use Rattle.wire_manager.specs.Link.{messages_of}
use Rattle.wire_manager.specs.Wire.{IsWire}
use Rattle.wire_manager.proofs.WireLemmas.{message_new, wire_entered, sends_so}
use Rattle.wire_manager.proofs.playing.play.Goals as goal

pub add-requires-clause-new : goal.add-requires-clause-new
add-requires-clause-new g c =
    let seen = c.args.session.now in
    let legal = c.legal.ensures in
    let move = move_of c.args.step in
    let possible = (c.requires.possible legal.0 legal.1.stands).possible in
    let made = ((c.listing_law.ensures.listed (session_in seen.opening) (keys_in seen.opening) (places_in seen.opening) (history seen) legal.0 c.args.pass move legal.1.stands).0 possible).0 in
    message_new (touch_of legal.0 move) (sent_by legal.0 move) seen.opening.checked.now.nonce (messages_of c.args.link.now.messages.items) c.in-Ok.message
    (λ reply name is.
    c.link_law.ensures.new (session_in seen.opening) (keys_in seen.opening) (history seen) legal.0 made.then_stands c.args.pass move (messages_of c.args.link.now.messages.items) reply name legal.1.stands made.possible c.requires.wire.linked is)
    (c.in-Ok.ensures legal.0 legal.1.stands possible)

pub returns-clause-wire : goal.returns-clause-wire
returns-clause-wire g c =
    let seen = c.args.session.now in
    let legal = c.legal.ensures in
    let move = move_of c.args.step in
    let wire_possible = c.requires.possible legal.0 legal.1.stands in
    let made = ((c.listing_law.ensures.listed (session_in seen.opening) (keys_in seen.opening) (places_in seen.opening) (history seen) legal.0 c.args.pass move legal.1.stands).0 wire_possible.possible).0 in
    subst (λ s. IsWire s c.add.new.link) (sym c.in-Ok-play.ensures.ok)
    (wire_entered seen (entry.Played c.args.pass c.args.step) c.args.link.now c.add.new.link (message_by (touch_of legal.0 move) (sent_by legal.0 move)) c.in-Ok.message c.requires.wire c.in-Ok-add.ensures.link
    (c.in-Ok.ensures legal.0 legal.1.stands wire_possible.possible) c.in-Ok-add.ensures.ok
    (c.link_law.ensures.moves (session_in seen.opening) (keys_in seen.opening) (history seen) legal.0 made.then_stands c.args.pass move (messages_of c.args.link.now.messages.items) legal.1.stands made.possible c.requires.wire.linked wire_possible.there))

pub returns-clause-sends : goal.returns-clause-sends
returns-clause-sends g c = λ standing stands.
    sends_so standing (move_of c.args.step) c.args.session.now.opening.checked.now.nonce c.args.link.now c.add.new.link c.in-Ok.message
    (c.in-Ok.ensures standing stands (c.requires.possible standing stands).possible) c.in-Ok-add.ensures.ok
