use Rattle.std.proofs.Common.{◌≡◌, ◌++◌, ◌*◌, ◌/◌, length, refl, ◌∙◌, ap, arith}
use Rattle.byte_ports.proofs.PortLemmas.{take-drop-rest}
use Rattle.wire_walk.proofs.ReadingLemmas.{on_ok, fed_more, fed_all}
use Rattle.wire_walk.proofs.reading.feed.Goals as goal

pub loop-part-preserved : goal.loop-part-preserved
loop-part-preserved c =
    ap (λ r. r.rest) c.in_ok-feed.ensures.ok
    ∙ fed_more c.args.reader.now.rest c.loop-part.reader.rest c.args.bytes.now c.loop-part.part _ (c.loop-part.part * 7) c.loop-part.invariant refl (omega arith)

pub returns : goal.returns
returns c =
    let bytes = c.args.bytes.now in
    let at = length bytes / 7 * 7 in
    let whole : length bytes / 7 ≡ c.loop-part.part = omega (arith, c.loop-part-test.false, c.loop-part.auto.part-end) in
    on_ok c.feed-2.result c.feed-2.ensures.ok
    (λ e.
    ap (λ r. r.rest) e
    ∙ (ap (λ xs. c.loop-part.reader.rest ++ xs) (take-drop-rest at bytes)
    ∙ fed_all c.args.reader.now.rest c.loop-part.reader.rest bytes c.loop-part.part at c.loop-part.invariant (ap (λ n. n * 7) whole)))
