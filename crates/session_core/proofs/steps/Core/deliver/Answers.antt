use Rattle.std.proofs.Common.{ap, ◌∙◌}
use Rattle.session_book.specs.Entries.{history_of}
use Rattle.session_core.specs.declared.steps.Core.{Core}
use Rattle.session_core.proofs.steps.Core.deliver.Goals as goal

pub tell-requires : goal.tell-requires
tell-requires c =
    let r = c.requires.can.1 in
    (r.session, c.requires.can.0, r.places, c.hand_over-number.ensures.behind r.session c.requires.can.0 r.places (r.standing, r.is))

pub returns-clause-core : goal.returns-clause-core
returns-clause-core c = λ keys session places at.
    c.tell.ensures.core session keys places (c.hand_over-number.ensures.behind session keys places at)

pub returns-clause-adds : goal.returns-clause-adds
returns-clause-adds c = ap (λ (core : Core). history_of core.book) c.tell.ensures.rest ∙ c.hand_over-number.ensures.adds
