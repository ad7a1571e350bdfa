-- The value and the shape follow one recursion.
use Rattle.phrase_tree.specs.Term.{term}
use Rattle.session_model.proofs.FitLemmas.{session_value_fits}
use Rattle.session_model.proofs.laws.value_fits_shape.Goals as goal

pub returns : goal.returns
returns c = λ from. session_value_fits (term c.args._phrase.now) c.args._root from
