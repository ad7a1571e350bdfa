-- A digest is one value, and a fault is there exactly without one.
use Rattle.plain_eval.proofs.FixedLemmas.{digests_fixed}
use Rattle.plain_eval.proofs.fixed.digests_are_fixed.Goals as goal

pub returns : goal.returns
returns c = digests_fixed
