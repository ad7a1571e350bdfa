use Rattle.std.proofs.Common.{ap, ◌∙◌, subst}
use Rattle.place_check.specs.Places.{keys_of}
use Rattle.place_check.specs.Session.{session_of}
use Rattle.transcript.specs.Audit.{IsCause}
use Rattle.transcript.proofs.AuditLemmas.{verdict_over}
use Rattle.transcript.proofs.auditing.audit_entries.Goals as goal

pub returns-in-Ok-replay_all : goal.returns-in-Ok-replay_all
returns-in-Ok-replay_all g c = λ all stand.
    let just = c.in-Ok.ensures in
    let went = c.in-Ok-replay_all.ensures all stand in
    verdict_over g.B.Bench.gives g.B.Bench.fails g.B.Bench.starves c.args.bench.now c.args.artefacts.now (session_of c.args.checked.now) (keys_of c.args.places.now) c.replay_all.new.session all c.closed.result
    (ap (λ o. o.bench.now) went.0 ∙ just.of_bench)
    (ap (λ o. o.artefacts.now) went.0 ∙ just.of_artefacts)
    (ap (λ o. session_of o.checked.now) went.0 ∙ ap session_of just.of_checked)
    (ap (λ o. keys_of o.places.now) went.0 ∙ ap keys_of just.of_places)
    went.1
    c.closed.ensures

pub returns : goal.returns
returns g c = λ all stand.
    let just = c.in-Ok.ensures in
    subst (λ keys. IsCause (λ ask answer. g.B.Bench.gives c.args.bench.now c.args.artefacts.now ask answer) (λ ask fault. g.B.Bench.fails c.args.bench.now c.args.artefacts.now ask fault) (λ ask. g.B.Bench.starves c.args.bench.now c.args.artefacts.now ask) (session_of c.args.checked.now) keys all c.in-Err.error) (ap keys_of just.of_places)
    (subst (λ session. IsCause (λ ask answer. g.B.Bench.gives c.args.bench.now c.args.artefacts.now ask answer) (λ ask fault. g.B.Bench.fails c.args.bench.now c.args.artefacts.now ask fault) (λ ask. g.B.Bench.starves c.args.bench.now c.args.artefacts.now ask) session (keys_of c.in-Ok.session.opening.places.now) all c.in-Err.error) (ap session_of just.of_checked)
    (c.in-Err.ensures all stand))
