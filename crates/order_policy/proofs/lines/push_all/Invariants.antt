-- What was written and what is to come is the whole.
use Rattle.std.proofs.Common.{◌≡◌, ◌++◌, drop}
use Rattle.order_policy.specs.Lines.{judgements_text}
use Rattle.order_policy.proofs.lines.push_all.Given as goal

abbrev pub invariant-loop-judgement : goal.invariant-loop-judgement
invariant-loop-judgement l = record {
  counted : l.claim ≡ l.judgement-index;
  whole : l.text.items ++ judgements_text l.session l.claim (drop l.judgement-index l.judgements) ≡ l.initial.text.items ++ judgements_text l.session 0 l.judgements;
}
