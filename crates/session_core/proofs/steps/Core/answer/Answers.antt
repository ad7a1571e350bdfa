use Rattle.session_core.proofs.steps.Core.answer.Goals as goal

pub tell-requires : goal.tell-requires
tell-requires c =
    let r = c.requires.1 in
    (r.session, c.requires.0, r.places, c.give-name.ensures.behind r.session c.requires.0 r.places (r.standing, r.is))

pub returns-clause-core : goal.returns-clause-core
returns-clause-core c = λ keys session places at.
    c.tell.ensures.core session keys places (c.give-name.ensures.behind session keys places at)
