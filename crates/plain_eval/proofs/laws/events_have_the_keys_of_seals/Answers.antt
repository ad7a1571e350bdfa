use Rattle.plain_eval.proofs.KeyLemmas.{has_keys}
use Rattle.plain_eval.proofs.laws.events_have_the_keys_of_seals.Goals as goal

pub returns : goal.returns
returns c = has_keys
