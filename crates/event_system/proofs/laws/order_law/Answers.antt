use Rattle.std.proofs.Common.{arith}
use Rattle.event_system.proofs.OrderLaws.{before_rises, before_transitive}
use Rattle.event_system.proofs.laws.order_law.Goals as goal

pub returns-clause-transitive : goal.returns-clause-transitive
returns-clause-transitive c = before_transitive

pub returns-clause-rising : goal.returns-clause-rising
returns-clause-rising c = λ phrase first x y h. (before_rises phrase first x y h).less

pub returns-clause-events : goal.returns-clause-events
returns-clause-events c = λ phrase first x y h.
    let r = before_rises phrase first x y h in
    (record { from = r.from; below = omega arith }, record { from = omega arith; below = r.below })
