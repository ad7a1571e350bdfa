use Rattle.std.proofs.Common.{◌∙◌, ap, subst}
use Rattle.session_desk.specs.Views.{Known, openings_of}
use Rattle.session_desk.specs.Answers.{Hands}
use Rattle.session_desk.proofs.DeskFacts.{turn_seen}
use Rattle.session_desk.proofs.AnswerFacts.{turn_openings, turn_hands}
use Rattle.session_desk.proofs.desk.Desk.turn.Goals as goal

pub returns-clause-told : goal.returns-clause-told
returns-clause-told g c = turn_seen _ c.args.session c.pass.inside.number c.args.pass.now _ _ c.pass.view_is c.turn_among.result c.turn_among.ensures.told

pub returns-clause-openings : goal.returns-clause-openings
returns-clause-openings g c = turn_openings _ c.args.session c.pass.inside.number _ _ c.turn_among.result c.turn_among.ensures.told ∙ ap (λ (k : Known _). openings_of k.views) c.pass.view_is

pub returns-clause-hands : goal.returns-clause-hands
returns-clause-hands g c = turn_hands _ c.args.session c.pass.inside.number _ _ c.turn_among.result c.turn_among.ensures.told
