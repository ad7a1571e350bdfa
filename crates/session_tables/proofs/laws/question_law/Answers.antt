use Rattle.session_tables.proofs.Questions.{code_asks_questions}
use Rattle.session_tables.proofs.laws.question_law.Goals as goal

pub returns : goal.returns
returns c = code_asks_questions
