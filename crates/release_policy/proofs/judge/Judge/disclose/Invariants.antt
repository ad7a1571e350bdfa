-- Nothing was denied so far, so the first denial of what is left is that of all.
use Rattle.std.proofs.Common.{◌≡◌}
use Rattle.std.specs.Prelude.{reverse}
use Rattle.release_policy.specs.Disclosures.{disclosed}
use Rattle.release_policy.specs.Walked.{first_denied}
use Rattle.release_policy.proofs.judge.Judge.disclose.Given as goal

abbrev pub invariant-loop-what : goal.invariant-loop-what
invariant-loop-what l = record {
  same : l.self ≡ l.fn.self;
  passed : first_denied l.fn.self (disclosed l.event l.receiver (reverse l.what-iterator.iter.rest.now)) ≡ first_denied l.fn.self (disclosed l.event l.receiver l.fn.evidence);
}
