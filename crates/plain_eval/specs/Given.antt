-- What the evaluator is given to make a bundle from.
use Rattle.phrase_tree.specs.Term.{term}
use Rattle.evidence_types.specs.Evidence.{Evidence}
use Rattle.session_model.specs.Value.{Makings, session_value}
use Rattle.plain_eval.specs.declared.given.Given.{Given}

-- what the value of the session is made from
abbrev pub makings_of : Given → Makings
makings_of given = record { nonce = given.nonce.now; answers = given.answers.now; keys = given.keys.now }

-- the value of the session
abbrev pub value_given : Given → Evidence
value_given given = session_value (term given.phrase.now) given.root (makings_of given)
