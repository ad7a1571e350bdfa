-- The answer is the lesser of the events that are over by each measure.
use Rattle.std.proofs.Common.{◌≡◌, ◌∙◌, ap, sym}
use Rattle.phrase_tree.specs.Term.{term}
use Rattle.evidence_types.specs.declared.measure.Measure.TheVariants.{Weight}
use Rattle.evidence_types.specs.Measure.{lesser, over_by, oversize_at}
use Rattle.evidence_types.proofs.LeastLemmas.{none_lesser, none_over}
use Rattle.evidence_types.proofs.weight.first_over.Goals as goal

pub returns-clause-least : goal.returns-clause-least
returns-clause-least c = λ found event e over.
    let phrase = term c.args.phrase.now in
    let is : c.lesser.result ≡ oversize_at phrase = c.lesser.ensures ∙ (ap (λ x. lesser x c.over_by-2.result) c.over_by.ensures ∙ ap (λ x. lesser (over_by Weight phrase) x) c.over_by-2.ensures) in
    none_lesser phrase found event (sym is ∙ e) over

pub returns-clause-none : goal.returns-clause-none
returns-clause-none c = λ event e over.
    let phrase = term c.args.phrase.now in
    let is : c.lesser.result ≡ oversize_at phrase = c.lesser.ensures ∙ (ap (λ x. lesser x c.over_by-2.result) c.over_by.ensures ∙ ap (λ x. lesser (over_by Weight phrase) x) c.over_by-2.ensures) in
    none_over phrase event (sym is ∙ e) over
