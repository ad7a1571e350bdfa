use Rattle.wire_manager.proofs.LinkLemmas.{linked_nothing, linked_moved, linked_rested, linked_arrived, sends_new}
use Rattle.wire_manager.specs.Requests.{touches_in}
use Rattle.wire_manager.proofs.laws.link_law.Goals as goal

pub returns-clause-opens : goal.returns-clause-opens
returns-clause-opens c = linked_nothing

pub returns-clause-moves : goal.returns-clause-moves
returns-clause-moves c = λ session keys history standing after pass move messages stands possible linked there.
    linked_moved session keys history standing after pass move stands possible (c.touch_law.ensures session keys standing after pass move possible) messages linked there

pub returns-clause-rests : goal.returns-clause-rests
returns-clause-rests c = linked_rested

pub returns-clause-arrives : goal.returns-clause-arrives
returns-clause-arrives c = λ session keys history messages reply name linked. linked_arrived (touches_in session keys history) reply name messages linked

pub returns-clause-new : goal.returns-clause-new
returns-clause-new c = λ session keys history standing after pass move messages reply name stands possible linked is.
    sends_new session keys history standing after pass move stands possible messages reply name linked is
