use Rattle.std.proofs.Common.{◌∙◌}
use Rattle.std.specs.Prelude.{slice_get}
use Rattle.wire_manager.specs.Framed.{frame_with, bytes_of}
use Rattle.wire_walk.specs.UnderWay.{sent_at}
use Rattle.wire_walk.proofs.SentLemmas.{if_ok, if_ok_on, on_any, sent_message, its_bytes}
use Rattle.wire_walk.proofs.flying.frame_at.Goals as goal

pub returns-in-Some-clause-frame : goal.returns-in-Some-clause-frame
returns-in-Some-clause-frame g c =
    let wire = c.args.wire.now in
    let there = sent_message (bytes_of wire.seen.opening.checked.now.nonce) wire.messages wire.sent c.args.position (λ bytes. bytes.now) c.nth_sent.result c.in-Some.bytes c.requires.there c.nth_sent.ensures.bytes c.in-Some.is in
    if_ok c.read_through.result c.read_through.ensures.frame
    (λ frame same message at.
    same (frame_with wire.seen.opening.checked.now.nonce message) (c.linked.ensures.frames (sent_at wire.sent c.args.position) message at)
    (c.items.ensures ∙ its_bytes (bytes_of wire.seen.opening.checked.now.nonce) (slice_get wire.messages (sent_at wire.sent c.args.position)) there.message message c.in-Some.bytes.now there.at at there.are))

pub returns-in-Some-clause-known : goal.returns-in-Some-clause-known
returns-in-Some-clause-known g c =
    let wire = c.args.wire.now in
    let there = sent_message (bytes_of wire.seen.opening.checked.now.nonce) wire.messages wire.sent c.args.position (λ bytes. bytes.now) c.nth_sent.result c.in-Some.bytes c.requires.there c.nth_sent.ensures.bytes c.in-Some.is in
    on_any c.read_through.result (there.message, there.at)

pub returns-in-Some-clause-rest : goal.returns-in-Some-clause-rest
returns-in-Some-clause-rest g c =
    let wire = c.args.wire.now in
    let nonce = wire.seen.opening.checked.now.nonce in
    let there = sent_message (bytes_of nonce) wire.messages wire.sent c.args.position (λ bytes. bytes.now) c.nth_sent.result c.in-Some.bytes c.requires.there c.nth_sent.ensures.bytes c.in-Some.is in
    if_ok_on c.read_through.result c.read_through.ensures.rest
    (λ frame empty. empty (frame_with nonce there.message) (c.linked.ensures.frames (sent_at wire.sent c.args.position) there.message there.at) (c.items.ensures ∙ there.are))
