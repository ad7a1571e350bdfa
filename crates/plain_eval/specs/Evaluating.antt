-- What the evaluator of the code makes values from.
use Rattle.session_model.specs.Value.{Makings}
use Rattle.plain_eval.specs.declared.evaluating.Materials.{Materials}

abbrev pub makings : Materials → Makings
makings from = record { nonce = from.nonce.now; answers = from.answers.now; keys = from.keys.now }
