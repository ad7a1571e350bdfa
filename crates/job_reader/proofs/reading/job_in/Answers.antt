-- The sessions of an accepted job may be run.
use Rattle.job_reader.specs.Texts.{written}
use Rattle.job_reader.proofs.AnswerLemmas.{sessions_checked}
use Rattle.job_reader.proofs.reading.job_in.Goals as goal

pub returns-in-Ok-clause-checked : goal.returns-in-Ok-clause-checked
returns-in-Ok-clause-checked c = sessions_checked (written c.in-Ok.text) c.accept.result c.accept.ensures
