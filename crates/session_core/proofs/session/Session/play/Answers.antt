use Rattle.std.proofs.Common.{ℕ, List, subst}
use Rattle.std.specs.Prelude.{IfOk}
use Rattle.session_core.specs.declared.played.PlayError.{PlayError}
use Rattle.session_book.specs.declared.entry.Entry.TheVariants as entry
use Rattle.session_core.specs.Core.{IsCoreAgain}
use Rattle.session_core.specs.Reading.{TellsAfter}
use Rattle.session_core.proofs.SessionFacts.{core_of, after_step, seen_step, tells_step}
use Rattle.session_core.proofs.session.Session.play.Goals as goal

pub invariant_of-self : goal.invariant_of-self
invariant_of-self g c =
    let again = subst (λ (k : List (List ℕ × List ℕ)). IsCoreAgain k c.self.inside.core c.play.new.self) c.keys.ensures c.play.ensures.core in
    after_step _ g.B.Bench.gives g.B.Bench.fails g.B.Bench.starves c.self.inside.opened c.self.inside.core c.play.new.self (entry.Played c.args.pass c.args.step) c.play.result c.self.invariant c.play.ensures.adds c.play.ensures.err again tt

pub returns-clause-refused : goal.returns-clause-refused
returns-clause-refused g c standing stands =
    c.play.ensures.refused _ _ _ standing (core_of _ g.B.Bench.gives g.B.Bench.fails g.B.Bench.starves c.self.inside.opened c.self.inside.core _ standing c.self.invariant c.self.view_is stands)

pub returns-clause-ok : goal.returns-clause-ok
returns-clause-ok g c =
    seen_step _ g.B.Bench.gives g.B.Bench.fails g.B.Bench.starves c.self.inside.opened c.self.inside.core c.play.new.self _ (entry.Played c.args.pass c.args.step) c.play.result c.self.invariant c.self.view_is c.play.ensures.adds

pub returns-clause-tells : goal.returns-clause-tells
returns-clause-tells g c =
    let again = subst (λ (k : List (List ℕ × List ℕ)). IsCoreAgain k c.self.inside.core c.play.new.self) c.keys.ensures c.play.ensures.core in
    let after = after_step _ g.B.Bench.gives g.B.Bench.fails g.B.Bench.starves c.self.inside.opened c.self.inside.core c.play.new.self (entry.Played c.args.pass c.args.step) c.play.result c.self.invariant c.play.ensures.adds c.play.ensures.err again tt in
    tells_step _ g.B.Bench.gives g.B.Bench.fails g.B.Bench.starves PlayError c.self.inside.opened c.self.inside.core c.play.new.self _ c.args.pass c.args.step c.play.result c.self.invariant c.self.view_is after (subst (λ (k : List (List ℕ × List ℕ)). IfOk c.play.result (λ played. TellsAfter k c.args.pass c.args.step c.self.inside.core c.play.new.self played)) c.keys.ensures c.play.ensures.tells)
