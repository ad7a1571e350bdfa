-- One more is short.
use Rattle.std.proofs.Common.{◌∙◌, ℕ, List, [], ◌∷◌, ◌++◌, take, sym, ap, subst}
use Rattle.std.proofs.lemmas.List.{take_more}
use Rattle.plain_eval.specs.AllShort.{AllShort}
use Rattle.plain_eval.proofs.EndLemmas.{all_more}
use Rattle.load_runner.proofs.appraisal.are_short.Goals as goal

pub loop-pair-preserved : goal.loop-pair-preserved
loop-pair-preserved c =
    let pairs : List (ℕ × List ℕ) = c.args.pairs.now in
    let index = c.loop-pair.pair-index in
    let one = c.pair-item.result in
    subst AllShort
    (sym (take_more pairs index one c.loop-pair-test.true ∙ ap (λ (p : ℕ × List ℕ). take index pairs ++ p ∷ []) (sym c.pair-item.is)))
    (all_more (take index pairs) one c.loop-pair.invariant c.bytes.ensures.few)
