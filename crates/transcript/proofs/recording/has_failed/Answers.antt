use Rattle.std.proofs.Common.{sym, ◌∙◌}
use Rattle.session_book.specs.declared.entry.State.TheVariants.{Open, Done, Failed, Starved}
use Rattle.session_walk.specs.Sessions.{walked_in}
use Rattle.transcript.proofs.RecordingLemmas.{failure_word}
use Rattle.transcript.proofs.recording.has_failed.Goals as goal

pub returns-in-Open : goal.returns-in-Open
returns-in-Open g c = failure_word (walked_in c.args.session.now).standing.state Open (sym c.in-Open.is ∙ c.state_of.ensures)

pub returns-in-Done : goal.returns-in-Done
returns-in-Done g c = failure_word (walked_in c.args.session.now).standing.state Done (sym c.in-Done.is ∙ c.state_of.ensures)

pub returns-in-Failed : goal.returns-in-Failed
returns-in-Failed g c = failure_word (walked_in c.args.session.now).standing.state Failed (sym c.in-Failed.is ∙ c.state_of.ensures)

pub returns-in-Starved : goal.returns-in-Starved
returns-in-Starved g c = failure_word (walked_in c.args.session.now).standing.state Starved (sym c.in-Starved.is ∙ c.state_of.ensures)
