use Rattle.std.proofs.Common.{◌∙◌, ap}
use Rattle.session_desk.specs.Views.{Known, openings_of}
use Rattle.session_desk.proofs.DeskFacts.{record_seen}
use Rattle.session_desk.proofs.AnswerFacts.{record_openings, record_again}
use Rattle.session_desk.proofs.FitFacts.{in_range}
use Rattle.session_desk.proofs.desk.Desk.record.Goals as goal

pub returns-clause-told : goal.returns-clause-told
returns-clause-told g c = record_seen _ c.args.hand.session c.pass.inside.number c.args.pass.now _ _ c.pass.view_is c.args.hand c.args.measured c.record_among.result c.record_among.ensures.told

pub returns-clause-openings : goal.returns-clause-openings
returns-clause-openings g c = record_openings _ c.args.hand.session c.pass.inside.number _ _ c.args.hand c.args.measured c.record_among.result c.record_among.ensures.told ∙ ap (λ (k : Known _). openings_of k.views) c.pass.view_is

pub record_among-requires-clause-range : goal.record_among-requires-clause-range
record_among-requires-clause-range g c = in_range c.args.hand.session _ c.args.pass.now.views c.args.self.now c.self.inside.cells.items c.requires.held c.requires.made c.self.view_is

pub returns-clause-again : goal.returns-clause-again
returns-clause-again g c = record_again _ _ _ _ c.args.pass.now _ c.args.hand c.args.measured c.requires.held c.requires.measured c.record_among.result (returns-clause-told g c)
