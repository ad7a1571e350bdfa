-- One more byte has the mask over it.
use Rattle.std.proofs.Common.{get_or, bit_xor, arith}
use Rattle.std.proofs.lemmas.List.{get_or_default}
use Rattle.std.proofs.lemmas.List.Edits.{map_over_more}
use Rattle.seal_hmac.proofs.bytes.mask_each.Goals as goal

pub loop-byte-preserved : goal.loop-byte-preserved
loop-byte-preserved c =
    map_over_more (λ byte. bit_xor byte c.args.mask) c.args.bytes.now c.loop-byte.bytes c.loop-byte.byte-index
    (get_or c.loop-byte.bytes c.loop-byte.byte-index 0) (omega arith) c.loop-byte.invariant
    (get_or_default c.loop-byte.bytes c.loop-byte.byte-index _ _ (omega arith))
