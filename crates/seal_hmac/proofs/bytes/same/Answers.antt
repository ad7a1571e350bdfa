-- One more byte differs nowhere exactly where it is equal in both; at the end all 32 were looked at.
use Rattle.std.proofs.Common.{get_or, ap, arith, below_more, eq-eqb}
use Rattle.std.proofs.lemmas.Bool.{eqb-true}
use Rattle.std.proofs.lemmas.Grind.{same_number_lists}
use Rattle.seal_hmac.proofs.Bits.{zero_or_left, zero_or_right, zero_xor, no_difference}
use Rattle.seal_hmac.proofs.bytes.same.Goals as goal

pub loop-at-preserved : goal.loop-at-preserved
loop-at-preserved c = (
  (λ none. below_more _ _ (c.loop-at.invariant.0 (zero_or_left _ _ none)) (zero_xor _ _ (zero_or_right _ _ none))),
  (λ all. no_difference _ _ _ (c.loop-at.invariant.1 (λ k h. all k (omega arith))) (all c.loop-at.at (omega arith))),
)

pub returns : goal.returns
returns c = (
  (λ none. same_number_lists _ _ (omega (arith, c.told-a, c.told-b))
      (λ k h. c.loop-at.invariant.0 (eqb-true _ _ none) k (omega (arith, h, c.told-a)))),
  (λ equal. eq-eqb _ _ (c.loop-at.invariant.1 (λ k h. ap (λ bytes. get_or bytes k 0) equal))),
)
