use Rattle.std.proofs.Common.{refl}
use Rattle.std.specs.Option.{option_map}
use Rattle.session_book.specs.declared.entry.State.TheVariants.{Done, Failed, Starved}
use Rattle.session_core.specs.Session.{session_in}
use Rattle.transcript.proofs.ReplayLemmas.{open_awaits, closed_awaits}
use Rattle.transcript.proofs.replay.awaited.Goals as goal

pub returns-in-Open : goal.returns-in-Open
returns-in-Open g c = λ standing stands.
    open_awaits c.args.session.now c.args.flights.now c.requires standing c.args.pass c.args.event (option_map (λ ask. ask.now) c.asked.result) stands (c.in-Open.ensures standing stands) c.asked.ensures

pub returns-in-Done : goal.returns-in-Done
returns-in-Done g c = λ standing stands.
    closed_awaits (session_in c.args.session.now.opening) standing c.args.pass c.args.event Done refl (c.in-Done.ensures standing stands)

pub returns-in-Failed : goal.returns-in-Failed
returns-in-Failed g c = λ standing stands.
    closed_awaits (session_in c.args.session.now.opening) standing c.args.pass c.args.event Failed refl (c.in-Failed.ensures standing stands)

pub returns-in-Starved : goal.returns-in-Starved
returns-in-Starved g c = λ standing stands.
    closed_awaits (session_in c.args.session.now.opening) standing c.args.pass c.args.event Starved refl (c.in-Starved.ensures standing stands)
