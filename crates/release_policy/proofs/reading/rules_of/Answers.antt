use Rattle.std.proofs.Common.{rules}
use Rattle.release_policy.proofs.PolicyLemmas.{front_none, front_some, read_more, read_whole}
use Rattle.release_policy.proofs.reading.rules_of.Goals as goal

pub parts-preserved : goal.parts-preserved
parts-preserved c = record {
  utf8 = search rules;
  so_far = read_more c.args.text.now c.parts.left.now c.in-Some.rest.now c.front.result.0.now c.parts.rules.items c.read_part.new.rules.items c.parts.invariant.so_far (front_some c.parts.left.now c.front.result.0.now c.front.result.1 c.in-Some.rest c.in-Some.is c.front.ensures) c.in-Ok.ensures;
}

pub returns-in-None : goal.returns-in-None
returns-in-None c =
    read_whole c.args.text.now c.parts.left.now c.front.result.0.now c.parts.rules.items c.read_part.new.rules.items c.parts.invariant.so_far (front_none c.parts.left.now c.front.result.0.now c.front.result.1 c.in-None.is c.front.ensures) c.in-Ok.ensures
