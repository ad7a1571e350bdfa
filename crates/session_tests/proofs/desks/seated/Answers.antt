-- Each pass of a desk just opened is one of it.
use Rattle.session_tests.proofs.desks.seated.Goals as goal

pub returns-in-Ok-clause-fit : goal.returns-in-Ok-clause-fit
returns-in-Ok-clause-fit g c = λ number pass at.
    c.opened_law.ensures c.args.sessions.items c.args.many c.in-Ok.seated.0 c.in-Ok.seated.1.items number pass c.in-Ok.ensures c.requires.over at
