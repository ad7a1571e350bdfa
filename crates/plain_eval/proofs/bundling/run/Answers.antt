-- Both arms of a branch are to come.
use Rattle.std.proofs.Common.{◌∷◌, subst}
use Rattle.phrase_tree.specs.Term.{term}
use Rattle.phrase_tree.specs.declared.phrase.Phrase.{Phrase}
use Rattle.plain_eval.specs.Pending.{Lead, todos}
use Rattle.plain_eval.specs.Steps.{run}
use Rattle.plain_eval.proofs.LeadLemmas.{seq_leads, par_leads}
use Rattle.plain_eval.proofs.bundling.run.Goals as goal

pub returns-in-Seq-clause-leads : goal.returns-in-Seq-clause-leads
returns-in-Seq-clause-leads c =
    let at = c.in-Seq in
    let steps = todos c.args.work.now.steps.items in
    seq_leads c.branch-work.result c.args.given.now c.args.work.now c.branch-work.new.work at.split (term at.left.value) (term at.right.value) c.args.place c.args.mark steps
    (subst (λ (p : Phrase). Lead c.args.given.now (run (term p) c.args.place c.args.mark ∷ steps) c.args.work.now) at.is c.requires)
    (rw (c.deref-in-Seq.ensures, c.deref-in-Seq-2.ensures) at c.branch-work.ensures.moves)
    (rw c.branch-work.ensures.codes c.requires.keyed)

pub returns-in-Par-clause-leads : goal.returns-in-Par-clause-leads
returns-in-Par-clause-leads c =
    let at = c.in-Par in
    let steps = todos c.args.work.now.steps.items in
    par_leads c.branch-work-in-Par.result c.args.given.now c.args.work.now c.branch-work-in-Par.new.work at.split (term at.left.value) (term at.right.value) c.args.place c.args.mark steps
    (subst (λ (p : Phrase). Lead c.args.given.now (run (term p) c.args.place c.args.mark ∷ steps) c.args.work.now) at.is c.requires)
    (rw (c.deref-in-Par.ensures, c.deref-in-Par-2.ensures) at c.branch-work-in-Par.ensures.moves)
    (rw c.branch-work-in-Par.ensures.codes c.requires.keyed)
