-- Each question is made with the nonce of its session.
use Rattle.plain_eval.proofs.FixedLemmas.{nonce_held, nonces_apart}
use Rattle.plain_eval.proofs.fixed.nonces_keep_questions_apart.Goals as goal

pub returns-clause-held : goal.returns-clause-held
returns-clause-held c = nonce_held

pub returns-clause-apart : goal.returns-clause-apart
returns-clause-apart c = nonces_apart
