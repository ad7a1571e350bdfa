-- Whether one is broken is left to those that are to come.
use Rattle.std.proofs.Common.{◌≡◌, drop}
use Rattle.copland_cli.specs.Ordered.{is_broken}
use Rattle.copland_cli.proofs.order.is_broken.Given as goal

abbrev pub invariant-loop-judgement : goal.invariant-loop-judgement
invariant-loop-judgement l = is_broken (drop l.judgement-index l.judgements) ≡ is_broken l.judgements
