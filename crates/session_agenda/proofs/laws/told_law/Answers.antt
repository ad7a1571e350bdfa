use Rattle.avm_compile.specs.Program.{program_of}
use Rattle.session_agenda.proofs.Telling.{told_blocks, told_follows}
use Rattle.session_agenda.proofs.laws.told_law.Goals as goal

pub returns-clause-blocks : goal.returns-clause-blocks
returns-clause-blocks c = λ session keys history old new entry places before blocks place after step still own follows tells.
    told_blocks (program_of session.phrase session.root) places old new entry blocks place before tells follows.next
    (λ block. c.touched_law.ensures.blocks session keys history old new entry block after step still) own

pub returns-clause-follows : goal.returns-clause-follows
returns-clause-follows c = λ session keys old new entry places before after blocks place step apart follows tells next waits.
    told_follows places old new entry (λ one. c.touched_law.ensures.places session keys old new entry one step) (program_of session.phrase session.root) blocks place before after apart follows tells next waits
