-- The left arm is to come.
use Rattle.std.proofs.Common.{◌≡◌, ◌∙◌, ◌∷◌, List, Result, Ok, ap, subst}
use Rattle.phrase_tree.specs.Term.{term}
use Rattle.plain_eval.specs.Pending.{Lead, todo, todos}
use Rattle.plain_eval.specs.Steps.{Todo, run_left}
use Rattle.plain_eval.specs.declared.pending.Step.{Step}
use Rattle.plain_eval.specs.declared.pending.Work.{Work}
use Rattle.plain_eval.proofs.LeadLemmas.{left_leads, popped}
use Rattle.plain_eval.proofs.bundling.advance.Goals as goal

pub returns-in_ok-left_arm-in-Left-clause-leads : goal.returns-in_ok-left_arm-in-Left-clause-leads
returns-in_ok-left_arm-in-Left-clause-leads c =
    let at = c.in-Left in
    let given = c.args.given.now in
    let was : Work = c.args.work.now in
    let rest = c.pop.new.self in
    let old : Work = record { made = was.made; kept = was.kept; codes = was.codes; steps = rest; next = was.next } in
    let steps = todos rest.items in
    let left = run_left at.parallel (term at.phrase.now) at.place at.first at.under in
    let next : todos was.steps.items ≡ left ∷ steps =
    popped was.steps.items rest.items c.in-Some.step c.in-Some.ensures.items ∙ ap (λ (s : Step). todo s ∷ steps) at.is in
    let l : Lead given (todos was.steps.items) old = record {
      current = c.requires.current;
      under = c.requires.under;
      kept = c.requires.kept;
      made_is = c.requires.made_is;
      kept_is = c.requires.kept_is;
      keyed = c.requires.keyed;
      make = c.requires.make;
    } in
    let done : Result (Unit {0}) (Unit {0}) = Ok tt in
    left_leads done given old c.left_arm.new.work at.parallel (term at.phrase.now) at.place at.first at.under steps
    (subst (λ (s : List Todo). Lead given s old) next l)
    c.in_ok-left_arm-in-Left.ensures.moves
    (rw c.in_ok-left_arm-in-Left.ensures.codes c.requires.keyed)
