-- The sessions are those of the job, and there are few of them.
use Rattle.std.proofs.Common.{List, length, map, arith, ap, subst}
use Rattle.std.specs.Prelude.{IfOk}
use Rattle.place_check.specs.Session.{CheckedSession, session_of}
use Rattle.release_policy.specs.Choices.{Chooses}
use Rattle.copland_cli.proofs.ChoiceLemmas.{few_found}
use Rattle.copland_cli.proofs.choose.choose_among.Goals as goal

pub choose-requires : goal.choose-requires
choose-requires c =
    omega (arith, c.requires, ap (λ (xs : List CheckedSession). length xs) c.as_slice.ensures.value)

pub returns-clause-chooses : goal.returns-clause-chooses
returns-clause-chooses c =
    subst (λ (xs : List CheckedSession). IfOk c.choose.result (Chooses c.args.policy.now (map session_of xs))) c.as_slice.ensures.value c.choose.ensures

pub returns-clause-few : goal.returns-clause-few
returns-clause-few c =
    few_found c.args.policy.now c.as_slice.result.now c.choose.result (omega (arith, c.requires, ap (λ (xs : List CheckedSession). length xs) c.as_slice.ensures.value)) c.choose.ensures
