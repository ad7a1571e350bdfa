-- The rules so far are those of the parts that were read, and the others are those of what is left.
use Rattle.std.proofs.Common.{length}
use denote.Shadow.{shadow}
use denote.Text.{Utf8}
use Rattle.release_policy.proofs.PolicyLemmas.{IsReadSoFar}
use Rattle.release_policy.proofs.reading.rules_of.Given as goal

abbrev pub invariant-parts : goal.invariant-parts
invariant-parts l = record {
  utf8 : shadow (Utf8 l.left);
  so_far : IsReadSoFar l.fn.text l.left l.rules.items;
}

abbrev pub decreases-parts : goal.decreases-parts
decreases-parts l = length l.left
