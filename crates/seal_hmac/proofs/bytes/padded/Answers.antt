-- The zeros behind the bytes are those that are left.
use Rattle.std.proofs.Common.{◌++◌, length, ap}
use Rattle.std.proofs.lemmas.List.{drop-replicate}
use Rattle.seal_hmac.proofs.bytes.padded.Goals as goal

pub returns : goal.returns
returns g c =
    rw (c.copy_from_slice.ensures.after, c.zeros-padded.ensures)
    (ap (λ zeros. c.args.bytes.now ++ zeros) (drop-replicate (length c.args.bytes.now) _ 0))
