use Rattle.event_system.proofs.SystemLaws.{leaves_are, orders_before, before_orders}
use Rattle.event_system.proofs.laws.system_law.Goals as goal

pub returns-clause-leaves : goal.returns-clause-leaves
returns-clause-leaves c = leaves_are

pub returns-clause-order : goal.returns-clause-order
returns-clause-order c = λ phrase place first x y. (orders_before phrase place first x y, before_orders phrase place first x y)
