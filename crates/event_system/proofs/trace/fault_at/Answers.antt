use Rattle.std.proofs.Common.{arith, refl}
use Rattle.std.specs.Prelude.{slice_index}
use Rattle.std.proofs.lemmas.Bool.{iff_false}
use Rattle.phrase_tree.specs.Term.{term}
use Rattle.event_system.proofs.FaultLaws.{position_fits, may_follow, is_early}
use Rattle.event_system.proofs.trace.fault_at.Goals as goal

pub overflow_cast-at : goal.overflow_cast-at
overflow_cast-at c =
    omega (arith, position_fits (term c.args.phrase.now) c.args.trace.now c.args.at c.requires.sized c.requires.behind)

pub returns-in-None : goal.returns-in-None
returns-in-None c =
    may_follow (term c.args.phrase.now) c.args.trace.now c.front-ahead.result.now c.args.at (slice_index c.args.trace.now c.args.at) c.needs.result c.front-ahead.ensures c.requires.behind (omega arith) (iff_false c.has.ensures c.if-has.false) c.needs.ensures c.in-None.ensures

pub returns-in-Some : goal.returns-in-Some
returns-in-Some c =
    is_early (term c.args.phrase.now) c.args.trace.now c.front-ahead.result.now c.args.at (slice_index c.args.trace.now c.args.at) c.in-Some.needs c.needs.result c.front-ahead.ensures c.requires.behind refl (omega arith) (iff_false c.has.ensures c.if-has.false) c.needs.ensures c.in-Some.ensures
