use Rattle.std.proofs.Common.{List, sym, ap, subst}
use Rattle.session_runs.specs.Standing.{Entry}
use Rattle.session_book.specs.Entries.{history_of}
use Rattle.session_core.specs.declared.steps.Core.{Core}
use Rattle.session_core.specs.Steps.{IsAsked}
use Rattle.session_core.proofs.steps.Core.ask.Goals as goal

pub tell-requires : goal.tell-requires
tell-requires c =
    let r = c.requires.1 in
    (r.session, c.requires.0, r.places, c.lift-asked.ensures.behind r.session c.requires.0 r.places (r.standing, r.is))

pub returns-clause-core : goal.returns-clause-core
returns-clause-core c = λ keys session places at.
    c.tell.ensures.core session keys places (c.lift-asked.ensures.behind session keys places at)

pub returns-clause-asked : goal.returns-clause-asked
returns-clause-asked c = λ session keys places at.
    subst (λ (h : List Entry). IsAsked session keys c.args.pass (history_of c.args.self.now.book) h c.lift-asked.result) (sym (ap (λ (core : Core). history_of core.book) c.tell.ensures.rest)) (c.lift-asked.ensures.asked session keys places at)
