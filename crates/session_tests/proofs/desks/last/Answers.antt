-- The last of the passes, and those before it.
use Rattle.std.proofs.Common.{◌≡◌, length, sym, subst}
use Rattle.std.specs.Prelude.{Some, slice_get}
use Rattle.session_tests.proofs.FitFacts.{before_last, last_one}
use Rattle.session_tests.proofs.desks.last.Goals as goal

pub returns-in-Some-clause-fit : goal.returns-in-Some-clause-fit
returns-in-Some-clause-fit g c =
    let front = c.pop.new.self.items in
    c.requires (length front) c.in-Some.pass (subst (λ l. slice_get l (length front) ≡ Some c.in-Some.pass) (sym c.in-Some.ensures.items) (last_one front c.in-Some.pass))

pub returns-in-Some-clause-rest : goal.returns-in-Some-clause-rest
returns-in-Some-clause-rest g c = λ number pass at.
    c.requires number pass (subst (λ l. slice_get l number ≡ Some pass) (sym c.in-Some.ensures.items) (before_last c.pop.new.self.items c.in-Some.pass number pass at))
