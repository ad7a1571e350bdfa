-- The parts so far are the texts of as many rules.
use Rattle.std.proofs.Common.{length}
use denote.Shadow.{shadow}
use denote.Text.{Utf8}
use Rattle.release_policy.proofs.PolicyLemmas.{HasRead}
use Rattle.release_policy.proofs.reading.bad_part.Given as goal

abbrev pub invariant-parts : goal.invariant-parts
invariant-parts l = record {
  utf8 : shadow (Utf8 l.left);
  so_far : HasRead l.fn.text l.left l.number;
}

abbrev pub decreases-parts : goal.decreases-parts
decreases-parts l = length l.left
