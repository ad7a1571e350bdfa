use Rattle.std.proofs.Common.{ap, ◌∙◌}
use Rattle.release_policy.specs.PolicyText.{parts}
use Rattle.release_policy.proofs.TextLemmas.{cut_length, parts-cut, parts-whole}
use Rattle.release_policy.proofs.reading.front.Goals as goal

pub returns-in-Some : goal.returns-in-Some
returns-in-Some c =
    (ap (λ text. parts text) c.in-Some.ensures.whole ∙ parts-cut c.in-Some.part.now c.in-Some.rest.now c.in-Some.ensures.first, cut_length 59 c.args.text.now c.in-Some.part.now c.in-Some.rest.now c.in-Some.ensures.whole)

pub returns-in-None : goal.returns-in-None
returns-in-None c = parts-whole c.args.text.now c.in-None.ensures
