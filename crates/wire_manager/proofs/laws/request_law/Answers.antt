use Rattle.wire_manager.proofs.RequestLemmas.{way_begins}
use Rattle.wire_manager.proofs.LinkLemmas.{delivered_once}
use Rattle.wire_manager.proofs.laws.request_law.Goals as goal

pub returns-clause-way : goal.returns-clause-way
returns-clause-way c = λ session keys history standing request e. way_begins session keys history standing request e

pub returns-clause-once : goal.returns-clause-once
returns-clause-once c = λ session keys history standing request e. delivered_once session keys history standing request e
