-- The session that is asked for is the checked one.
use Rattle.plain_eval.proofs.gathering.gather.Goals as goal

pub returns : goal.returns
returns g c = rw (c.phrase-phrase.ensures.phrase, c.root.ensures, c.nonce.ensures) at c.gather_session.ensures
