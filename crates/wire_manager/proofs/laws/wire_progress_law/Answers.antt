use Rattle.wire_manager.proofs.LinkLemmas.{never_stuck, never_stuck_listed}
use Rattle.wire_manager.proofs.laws.wire_progress_law.Goals as goal

pub returns-clause-possible : goal.returns-clause-possible
returns-clause-possible c = λ session keys history standing pass messages stands still linked.
    never_stuck session keys history standing messages stands linked pass (c.progress_law.ensures.possible session keys history standing pass stands still)

pub returns-clause-listed : goal.returns-clause-listed
returns-clause-listed c = λ session keys places history standing messages asks stands still linked.
    never_stuck_listed session keys history standing messages stands linked places
    (λ pass move there. ((c.listing_law.ensures.listed session keys places history standing pass move stands).0 there).0)
    (c.progress_law.ensures.listed session keys places history standing asks stands still)
