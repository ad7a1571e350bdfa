use Rattle.session_book.specs.declared.entry.State.TheVariants.{Open, Done, Failed, Starved}
use Rattle.transcript.proofs.WritingLemmas.{starved_word}
use Rattle.transcript.proofs.writing.has_starved.Goals as goal

pub returns-in-Open : goal.returns-in-Open
returns-in-Open g c = λ standing stands. starved_word standing.state Open (c.in-Open.ensures standing stands)

pub returns-in-Done : goal.returns-in-Done
returns-in-Done g c = λ standing stands. starved_word standing.state Done (c.in-Done.ensures standing stands)

pub returns-in-Failed : goal.returns-in-Failed
returns-in-Failed g c = λ standing stands. starved_word standing.state Failed (c.in-Failed.ensures standing stands)

pub returns-in-Starved : goal.returns-in-Starved
returns-in-Starved g c = λ standing stands. starved_word standing.state Starved (c.in-Starved.ensures standing stands)
