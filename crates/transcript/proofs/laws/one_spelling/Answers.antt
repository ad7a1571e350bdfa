use Rattle.transcript.proofs.LawLemmas.{one_text, one_history}
use Rattle.transcript.proofs.laws.one_spelling.Goals as goal

pub returns-clause-bytes : goal.returns-clause-bytes
returns-clause-bytes c = one_text

pub returns-clause-history : goal.returns-clause-history
returns-clause-history c = one_history
