use Rattle.session_desk.proofs.StayFacts.{held_over_turn, held_over_record, held_over_outcome, question_still, measured_still}
use Rattle.session_desk.proofs.laws.stays_law.Goals as goal

pub returns-clause-turn : goal.returns-clause-turn
returns-clause-turn g c = λ session answer hand before after told held. held_over_turn _ _ _ c.flight_law.ensures.stays hand before after held session answer told

pub returns-clause-record : goal.returns-clause-record
returns-clause-record g c = λ spent measured answer hand before after told another held. held_over_record _ _ _ c.flight_law.ensures.stays hand before after held spent measured answer another told

pub returns-clause-outcome : goal.returns-clause-outcome
returns-clause-outcome g c = λ session answer hand before after told held. held_over_outcome _ _ _ c.flight_law.ensures.stays hand before after held session answer told

pub returns-clause-question : goal.returns-clause-question
returns-clause-question g c = λ hand ask before after same asked. question_still hand ask before after same asked

pub returns-clause-measured : goal.returns-clause-measured
returns-clause-measured g c = λ hand measured before after same is. measured_still _ _ _ hand measured before after same is
