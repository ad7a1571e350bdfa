use Rattle.release_policy.specs.Walked.{seal_held}
use Rattle.release_policy.proofs.EvidenceLemmas.{reversed_changed}
use Rattle.release_policy.proofs.evidence.Evidence.seal.Goals as goal

pub returns : goal.returns
returns c =
    reversed_changed seal_held c.self.inside.kept.items c.seal_all.new.kept.items c.args.self.now c.seal_all.ensures c.self.view_is
