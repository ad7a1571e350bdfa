use Rattle.std.proofs.Common.{subst, arith}
use Rattle.session_runs.specs.Standing.{opening}
use Rattle.place_check.specs.Places.{keys_of}
use Rattle.place_check.specs.Session.{session_of}
use Rattle.transcript.specs.Audit.{IsVerdict, Settles, extent}
use Rattle.transcript.proofs.EntryLemmas.{transcript_takes}
use Rattle.transcript.proofs.AuditLemmas.{settles, accepted_is, audit_is, same_entries, no_text}
use Rattle.transcript.proofs.auditing.audit.Goals as goal

pub returns-in-Ok-clause-answers : goal.returns-in-Ok-clause-answers
returns-in-Ok-clause-answers g c =
    let r = c.in-Ok.ensures in
    audit_is (session_of c.args.checked.now) (keys_of c.args.places.now) (λ ask answer. g.B.Bench.gives c.args.bench.now c.args.artefacts.now ask answer) (λ ask fault. g.B.Bench.fails c.args.bench.now c.args.artefacts.now ask fault) (λ ask. g.B.Bench.starves c.args.bench.now c.args.artefacts.now ask) c.args.bytes.now r.0 c.audit_entries.result
    (transcript_takes c.args.bytes.now r.0 (λ i. omega (arith, c.type_inv.bytes i)) r.1)
    (c.audit_entries.ensures r.0 r.2)

pub returns-in-Ok-clause-settled : goal.returns-in-Ok-clause-settled
returns-in-Ok-clause-settled g c = λ entries text.
    let r = c.in-Ok.ensures in
    let session = session_of c.args.checked.now in
    let keys = keys_of c.args.places.now in
    subst (λ xs. Settles session (extent session keys 0 xs (opening session)) c.audit_entries.result) (same_entries c.args.bytes.now r.0 entries r.1 text)
    (settles session keys (λ ask answer. g.B.Bench.gives c.args.bench.now c.args.artefacts.now ask answer) (λ ask fault. g.B.Bench.fails c.args.bench.now c.args.artefacts.now ask fault) (λ ask. g.B.Bench.starves c.args.bench.now c.args.artefacts.now ask) r.0 c.audit_entries.result (c.audit_entries.ensures r.0 r.2))

pub returns-in-Ok-clause-accepted : goal.returns-in-Ok-clause-accepted
returns-in-Ok-clause-accepted g c = λ found sure.
    let r = c.in-Ok.ensures in
    let session = session_of c.args.checked.now in
    let keys = keys_of c.args.places.now in
    accepted_is session keys (λ ask answer. g.B.Bench.gives c.args.bench.now c.args.artefacts.now ask answer) (λ ask fault. g.B.Bench.fails c.args.bench.now c.args.artefacts.now ask fault) (λ ask. g.B.Bench.starves c.args.bench.now c.args.artefacts.now ask) sure.entries sure.standing found c.audit_entries.result
    (subst (λ xs. IsVerdict (λ ask answer. g.B.Bench.gives c.args.bench.now c.args.artefacts.now ask answer) (λ ask fault. g.B.Bench.fails c.args.bench.now c.args.artefacts.now ask fault) (λ ask. g.B.Bench.starves c.args.bench.now c.args.artefacts.now ask) session keys xs c.audit_entries.result) (same_entries c.args.bytes.now r.0 sure.entries r.1 sure.text) (c.audit_entries.ensures r.0 r.2))
    sure.legal sure.record_is sure.alone

pub returns-in-Err-clause-settled : goal.returns-in-Err-clause-settled
returns-in-Err-clause-settled g c = λ entries text. absurd (no_text c.args.bytes.now entries c.in-Err.first c.in-Err.ensures text)

pub returns-in-Err-clause-accepted : goal.returns-in-Err-clause-accepted
returns-in-Err-clause-accepted g c = λ found sure. absurd (no_text c.args.bytes.now sure.entries c.in-Err.first c.in-Err.ensures sure.text)
