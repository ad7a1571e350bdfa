use Rattle.session_core.proofs.steps.Core.run.Goals as goal

pub tell-requires : goal.tell-requires
tell-requires c =
    let r = c.requires in
    (r.session, c.args.keys.now, r.places, c.go_on-second.ensures.behind r.session r.places (r.standing, r.is))

pub returns-clause-core : goal.returns-clause-core
returns-clause-core c = λ session places at.
    c.tell.ensures.core session c.args.keys.now places (c.go_on-second.ensures.behind session places at)
