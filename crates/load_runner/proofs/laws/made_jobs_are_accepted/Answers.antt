-- Each of the sessions has its references, so each is accepted.
use Rattle.load_runner.proofs.AcceptedLemmas.{all_accepted}
use Rattle.load_runner.proofs.laws.made_jobs_are_accepted.Goals as goal

pub returns : goal.returns
returns c = λ number figures run. all_accepted c.session_law.ensures number figures (c.made_questions_are_answered.ensures number) run
