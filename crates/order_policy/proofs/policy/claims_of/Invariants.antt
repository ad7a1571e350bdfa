-- The claims so far are the first parts of the text.
use denote.Shadow.{shadow}
use denote.Text.{Utf8}
use Rattle.order_policy.specs.Cut.{IsReadAs}
use Rattle.order_policy.proofs.policy.claims_of.Given as goal

abbrev pub invariant-loop-number : goal.invariant-loop-number
invariant-loop-number l = shadow (Utf8 l.rest) × IsReadAs l.fn.text l.number l.rest l.claims.items
