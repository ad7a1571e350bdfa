use Rattle.std.proofs.Common.{sym, ◌∙◌}
use Rattle.session_walk.specs.Sessions.{walked_in}
use Rattle.session_walk.proofs.JobLemmas.{opens, ends_done, ends_failed}
use Rattle.session_walk.proofs.TurnLemmas.{starves}
use Rattle.session_walk.proofs.turns.is_going.Goals as goal

pub returns-in-Open : goal.returns-in-Open
returns-in-Open g c = sym (opens (walked_in c.args.session.now).standing.state (sym c.in-Open.is ∙ c.state_of.ensures))

pub returns-in-Done : goal.returns-in-Done
returns-in-Done g c = sym (ends_done (walked_in c.args.session.now).standing.state (sym c.in-Done.is ∙ c.state_of.ensures)).over

pub returns-in-Failed : goal.returns-in-Failed
returns-in-Failed g c = sym (ends_failed (walked_in c.args.session.now).standing.state (sym c.in-Failed.is ∙ c.state_of.ensures)).over

pub returns-in-Starved : goal.returns-in-Starved
returns-in-Starved g c = sym (starves (walked_in c.args.session.now).standing.state (sym c.in-Starved.is ∙ c.state_of.ensures)).0
