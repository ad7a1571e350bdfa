-- Each byte is one of the key, which is long enough.
use Rattle.std.proofs.Common.{◌≡◌, ◌+◌, ◌*◌, ◌++◌, ◌∷◌, [], length, ap, ◌∙◌, arith}
use Rattle.load_maker.specs.Made.{listed}
use Rattle.load_maker.specs.Places.{key_bytes}
use Rattle.load_maker.proofs.ListedLemmas.{listed_length, listed_more, listed_none}
use Rattle.load_maker.proofs.places.key_bytes.Goals as goal

pub loop-byte-init : goal.loop-byte-init
loop-byte-init c = c.new-bytes.ensures.items ∙ listed_none (λ byte. 16 * c.args.number + byte)

pub loop-byte-preserved : goal.loop-byte-preserved
loop-byte-preserved c =
    let byte = 16 * c.args.number + c.loop-byte.byte in
    c.in_ok-push.ensures.items
    ∙ ap (λ list. list ++ byte ∷ []) c.loop-byte.invariant
    ∙ listed_more (λ byte. 16 * c.args.number + byte) c.loop-byte.byte

pub returns : goal.returns
unfolding key_bytes
returns c =
    let all : c.loop-byte.byte ≡ 32 = omega arith in
    let same = c.loop-byte.invariant ∙ ap (λ n. listed (λ byte. 16 * c.args.number + byte) n) all in
    let long = ap length same ∙ listed_length (λ byte. 16 * c.args.number + byte) 32 in
    record { bytes = same; key = record { long = omega (arith, long); short = omega (arith, long) } }
