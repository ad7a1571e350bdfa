use Rattle.rising_list.proofs.RisingLemmas.{find-inserted, find-removed, find-replaced}
use Rattle.rising_list.proofs.laws.what_is_found.Goals as goal

pub returns-clause-inserted : goal.returns-clause-inserted
returns-clause-inserted g c = λ number other value entries free. find-inserted number other value entries free

pub returns-clause-removed : goal.returns-clause-removed
returns-clause-removed g c = λ number other entries rises. find-removed 0 number other entries rises

pub returns-clause-replaced : goal.returns-clause-replaced
returns-clause-replaced g c = λ number other value entries there. find-replaced number other value entries there
