use Rattle.std.proofs.Common.{sym, ◌∙◌}
use Rattle.session_walk.proofs.JobLemmas.{opens, ends_done, ends_failed}
use Rattle.session_walk.proofs.TurnLemmas.{starves}
use Rattle.session_walk.proofs.PlayingLemmas.{stands_itself}
use Rattle.session_walk.specs.Sessions.{walked_in}
use Rattle.wire_walk.proofs.walk.is_going.Goals as goal

pub returns-in-Open : goal.returns-in-Open
returns-in-Open g c =
    let seen = c.args.wire.now.seen in
    let stands = stands_itself g.B.Bench.gives g.B.Bench.fails g.B.Bench.starves seen.opening.bench.now seen.opening.artefacts.now seen c.linked.ensures.legal in
    sym (opens (walked_in seen).standing.state (sym c.in-Open.is ∙ c.state.ensures (walked_in seen).standing stands))

pub returns-in-Done : goal.returns-in-Done
returns-in-Done g c =
    let seen = c.args.wire.now.seen in
    let stands = stands_itself g.B.Bench.gives g.B.Bench.fails g.B.Bench.starves seen.opening.bench.now seen.opening.artefacts.now seen c.linked.ensures.legal in
    sym (ends_done (walked_in seen).standing.state (sym c.in-Done.is ∙ c.state.ensures (walked_in seen).standing stands)).over

pub returns-in-Failed : goal.returns-in-Failed
returns-in-Failed g c =
    let seen = c.args.wire.now.seen in
    let stands = stands_itself g.B.Bench.gives g.B.Bench.fails g.B.Bench.starves seen.opening.bench.now seen.opening.artefacts.now seen c.linked.ensures.legal in
    sym (ends_failed (walked_in seen).standing.state (sym c.in-Failed.is ∙ c.state.ensures (walked_in seen).standing stands)).over

pub returns-in-Starved : goal.returns-in-Starved
returns-in-Starved g c =
    let seen = c.args.wire.now.seen in
    let stands = stands_itself g.B.Bench.gives g.B.Bench.fails g.B.Bench.starves seen.opening.bench.now seen.opening.artefacts.now seen c.linked.ensures.legal in
    sym (starves (walked_in seen).standing.state (sym c.in-Starved.is ∙ c.state.ensures (walked_in seen).standing stands)).0
