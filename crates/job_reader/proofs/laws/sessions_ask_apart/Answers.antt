-- Different nonces make different questions.
use Rattle.job_reader.proofs.AskLemmas.{sessions_apart}
use Rattle.job_reader.proofs.laws.sessions_ask_apart.Goals as goal

pub returns : goal.returns
returns c = sessions_apart c.args._bytes.now c.args._appraise
