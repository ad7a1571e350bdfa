use Rattle.phrase_reader.proofs.Readings.{phrase_one, refusal_one, read_or_refused}
use Rattle.phrase_reader.proofs.Outcomes.{has_reading}
use Rattle.phrase_reader.proofs.laws.reading_law.Goals as goal

pub returns-clause-phrase : goal.returns-clause-phrase
returns-clause-phrase c = phrase_one

pub returns-clause-refusal : goal.returns-clause-refusal
returns-clause-refusal c = refusal_one

pub returns-clause-either : goal.returns-clause-either
returns-clause-either c = read_or_refused

pub returns-clause-some : goal.returns-clause-some
returns-clause-some c = has_reading
