-- The answer stands in the middle, or in one of the halves.
use Rattle.std.proofs.Common.{◌/◌, ◌∙◌, length, arith}
use Rattle.plain_eval.proofs.AnswerLemmas.{found_at, found_before, found_after}
use Rattle.plain_eval.proofs.answering.+answer_of.Goals as goal

pub returns-then-pair-event-clause-answer : goal.returns-then-pair-event-clause-answer
returns-then-pair-event-clause-answer t c =
    c.bytes.ensures.bytes
    ∙ found_at c.args.pairs.now (length c.args.pairs.now / 2) c.args.event c.in-Some.pair.now c.in-Some.ensures.lookup.3.0 c.in-Some.ensures.lookup.1 c.requires c.if-pair-event.true

pub returns-then-event-pair-clause-answer : goal.returns-then-event-pair-clause-answer
returns-then-event-pair-clause-answer t c =
    c.answer_of.ensures.answer
    ∙ found_before c.args.pairs.now (length c.args.pairs.now / 2) c.args.event c.in-Some.pair.now c.in-Some.ensures.lookup.3.0 c.in-Some.ensures.lookup.1 c.requires c.if-event-pair.true

pub returns-clause-answer : goal.returns-clause-answer
returns-clause-answer t c =
    c.answer_of-2.ensures.answer
    ∙ found_after c.args.pairs.now (length c.args.pairs.now / 2) c.args.event c.in-Some.pair.now c.in-Some.ensures.lookup.3.0 c.in-Some.ensures.lookup.1 c.requires (omega (arith, c.if-pair-event.false, c.if-event-pair.false))
