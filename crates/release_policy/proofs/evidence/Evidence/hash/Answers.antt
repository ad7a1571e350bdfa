use Rattle.release_policy.specs.Walked.{hash_held}
use Rattle.release_policy.proofs.EvidenceLemmas.{reversed_changed}
use Rattle.release_policy.proofs.evidence.Evidence.hash.Goals as goal

pub returns : goal.returns
returns c =
    reversed_changed hash_held c.self.inside.kept.items c.hash_all.new.kept.items c.args.self.now c.hash_all.ensures c.self.view_is
