use Rattle.release_policy.proofs.ReleaseLaws.{chosen_free, counted, denials_are, released}
use Rattle.release_policy.proofs.laws.choice_law.Goals as goal

pub returns-clause-chosen : goal.returns-clause-chosen
returns-clause-chosen c = chosen_free

pub returns-clause-released : goal.returns-clause-released
returns-clause-released c =
    λ policy sessions choice index session chooses chosen there. released policy session (chosen_free policy sessions choice index session chooses chosen there)

pub returns-clause-counted : goal.returns-clause-counted
returns-clause-counted c = counted

pub returns-clause-denials : goal.returns-clause-denials
returns-clause-denials c = denials_are
