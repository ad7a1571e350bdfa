use Rattle.phrase_tree.specs.Term.{term}
use Rattle.phrase_tree.specs.Letting.{steps}
use Rattle.phrase_tree.proofs.phrase.Phrase.drop.Given as goal

abbrev pub decreases-loop-self : goal.decreases-loop-self
decreases-loop-self l = steps (term l.self)
