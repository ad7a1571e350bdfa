use Rattle.std.proofs.Common.{◌∙◌, ap}
use Rattle.session_desk.specs.Views.{Known, openings_of}
use Rattle.session_desk.proofs.DeskFacts.{outcome_seen}
use Rattle.session_desk.proofs.AnswerFacts.{outcome_openings}
use Rattle.session_desk.proofs.desk.Desk.outcome.Goals as goal

pub returns-clause-told : goal.returns-clause-told
returns-clause-told g c = outcome_seen _ c.args.session c.pass.inside.number c.args.pass.now _ _ c.pass.view_is c.outcome_among.result c.outcome_among.ensures.told

pub returns-clause-openings : goal.returns-clause-openings
returns-clause-openings g c = outcome_openings _ c.args.session c.pass.inside.number _ _ c.outcome_among.result c.outcome_among.ensures.told ∙ ap (λ (k : Known _). openings_of k.views) c.pass.view_is
