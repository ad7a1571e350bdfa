-- The questions so far have their answers, and the steps that are left grow fewer.
use Rattle.phrase_tree.specs.Term.{term}
use Rattle.plain_eval.specs.Asks.{turns_left}
use Rattle.plain_eval.specs.Round.{IsUnderWay}
use Rattle.plain_eval.proofs.gathering.finish.Given as goal

abbrev pub invariant-loop-event : goal.invariant-loop-event
invariant-loop-event g l =
    IsUnderWay (λ ask answer. g.B.Bench.gives l.asking.bench.now l.asking.artefacts.now ask answer)
    (record { root = l.asking.root; nonce = l.asking.nonce.now; phrase = term l.asking.phrase.now })
    l.round

abbrev pub decreases-loop-event : goal.decreases-loop-event
decreases-loop-event g l = turns_left l.round.asks
