use Rattle.std.proofs.Common.{rules}
use Rattle.release_policy.proofs.PolicyLemmas.{front_none, front_some, read_last, read_next}
use Rattle.release_policy.proofs.reading.bad_part.Goals as goal

pub parts-preserved : goal.parts-preserved
parts-preserved c = record {
  utf8 = search rules;
  so_far = read_next c.args.text.now c.parts.left.now c.in-Some-behind.rest.now c.front.result.0.now c.parts.number c.in-Some.field-0 c.parts.invariant.so_far c.if-number-eq-RULES.false (front_some c.parts.left.now c.front.result.0.now c.front.result.1 c.in-Some-behind.rest c.in-Some-behind.is c.front.ensures) c.in-Some.ensures;
}

pub returns-in-None-behind : goal.returns-in-None-behind
returns-in-None-behind c =
    read_last c.args.text.now c.parts.left.now c.front.result.0.now c.parts.number c.in-Some.field-0 c.parts.invariant.so_far c.if-number-eq-RULES.false (front_none c.parts.left.now c.front.result.0.now c.front.result.1 c.in-None-behind.is c.front.ensures) c.in-Some.ensures
