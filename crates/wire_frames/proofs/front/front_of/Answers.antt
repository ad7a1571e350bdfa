use Rattle.std.proofs.Common.{arith, ◌≡◌, refl, sym, ap, ◌∙◌, rules, inr}
use Rattle.wire_frames.specs.Front.{IsShort}
use Rattle.wire_frames.proofs.FrontLemmas.{short_part}
use Rattle.wire_frames.proofs.front.front_of.Goals as goal

pub returns-then-bytes-size : goal.returns-then-bytes-size
returns-then-bytes-size c =
    let short : IsShort c.args.bytes.now = search rules in
    inr (short_part c.args.bytes.now (λ i. omega (arith, c.type_inv.bytes i)) short)
