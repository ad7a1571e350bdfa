use Rattle.std.proofs.Common.{◌≡◌, Some}
use Rattle.bench_trait.specs.Digest.{digest_answer, LacksArtefact}
use Rattle.session_model.specs.Session.{session_questions}
use Rattle.place_check.specs.Session.{session_of}
use Rattle.transcript.proofs.AuditLemmas.{allow_all, digest_gives_one}
use Rattle.transcript.proofs.digests.audit_by_digests.Goals as goal

pub returns-clause-accepted : goal.returns-clause-accepted
returns-clause-accepted c = λ found finished.
    c.audit.ensures.accepted found (record {
      entries = finished.entries;
      standing = finished.standing;
      text = finished.text;
      legal = finished.legal;
      record_is = finished.record_is;
      alone = allow_all (λ ask answer. digest_answer c.args.artefacts.now ask ≡ Some answer) (λ ask fault. LacksArtefact c.args.artefacts.now ask fault) (λ ask. ⊥) (digest_gives_one c.args.artefacts.now) (session_questions (session_of c.args.checked.now)) finished.entries finished.legal.results.1;
    })
