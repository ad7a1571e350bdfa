use Rattle.release_policy.proofs.ReadingLaws.{joined_parts, never_both, one_bad, one_policy}
use Rattle.release_policy.proofs.laws.reading_law.Goals as goal

pub returns-clause-policy : goal.returns-clause-policy
returns-clause-policy c = one_policy

pub returns-clause-bad : goal.returns-clause-bad
returns-clause-bad c = one_bad

pub returns-clause-apart : goal.returns-clause-apart
returns-clause-apart c = never_both

pub returns-clause-whole : goal.returns-clause-whole
returns-clause-whole c = joined_parts
