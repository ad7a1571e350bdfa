-- The parts passed so far are claims.
use denote.Shadow.{shadow}
use denote.Text.{Utf8}
use Rattle.order_policy.specs.Cut.{IsRead}
use Rattle.order_policy.proofs.policy.first_bad.Given as goal

abbrev pub invariant-loop-claim : goal.invariant-loop-claim
invariant-loop-claim l = shadow (Utf8 l.rest) × IsRead l.fn.text l.claim l.rest
