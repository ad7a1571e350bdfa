-- The zeros behind the text are those that are left of the 32.
use Rattle.std.proofs.Common.{◌++◌, length, ap}
use Rattle.std.proofs.lemmas.List.{drop-replicate}
use Rattle.phrase_tree.proofs.name.padded.Goals as goal

pub returns : goal.returns
returns c =
    rw (c.copy_from_slice.ensures.after, c.zeros-padded.ensures)
    (ap (λ zeros. c.args.text.now ++ zeros) (drop-replicate (length c.args.text.now) 32 0))
