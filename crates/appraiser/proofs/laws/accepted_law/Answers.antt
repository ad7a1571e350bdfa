use Rattle.appraiser.proofs.AcceptLemmas.{accepted_is_expected, chosen_is_accepted, expected_is_accepted}
use Rattle.appraiser.proofs.laws.accepted_law.Goals as goal

pub returns-clause-chosen : goal.returns-clause-chosen
returns-clause-chosen c =
    λ basis value shape fits references each.
    (accepted_is_expected basis value shape fits references each, chosen_is_accepted basis value shape references)

pub returns-clause-expected : goal.returns-clause-expected
returns-clause-expected c = expected_is_accepted
