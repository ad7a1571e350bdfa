use Rattle.std.proofs.Common.{◌∷◌, ◌++◌, ℕ, List, map, sym, ap, ◌∙◌, subst}
use Rattle.session_runs.specs.Standing.{Entry}
use Rattle.session_book.specs.Entries.{entry_of}
use Rattle.session_core.specs.Session.{session_in, keys_in, history}
use Rattle.transcript.specs.Written.{entry_in}
use Rattle.transcript.specs.Audit.{IsCause, halted_by}
use Rattle.transcript.proofs.FieldLemmas.{ok_is}
use Rattle.transcript.proofs.AuditLemmas.{legal_over, stop_cause}
use Rattle.transcript.proofs.auditing.replay_next.Goals as goal

pub returns-in-Err-replay : goal.returns-in-Err-replay
returns-in-Err-replay g c = λ one behind front later.
    let old = c.args.session.now in
    let s = c.legal.ensures in
    let here = entry_in c.in-Ok.entry in
    let same = ok_is (here, c.in-Ok.behind.now) (one, behind) (sym c.in-Ok.ensures ∙ front) in
    subst (λ error. IsCause (λ ask answer. g.B.Bench.gives c.args.bench.now c.args.artefacts.now ask answer) (λ ask fault. g.B.Bench.fails c.args.bench.now c.args.artefacts.now ask fault) (λ ask. g.B.Bench.starves c.args.bench.now c.args.artefacts.now ask) (session_in old.opening) (keys_in old.opening) (map entry_of old.items ++ one ∷ later) error) (sym c.halted.ensures)
    (subst (λ (x : Entry). IsCause (λ ask answer. g.B.Bench.gives c.args.bench.now c.args.artefacts.now ask answer) (λ ask fault. g.B.Bench.fails c.args.bench.now c.args.artefacts.now ask fault) (λ ask. g.B.Bench.starves c.args.bench.now c.args.artefacts.now ask) (session_in old.opening) (keys_in old.opening) (map entry_of old.items ++ x ∷ later) (halted_by c.args.index c.in-Err-replay.halt)) (ap (λ (p : Entry × List ℕ). p.0) same)
    (stop_cause (λ ask answer. g.B.Bench.gives c.args.bench.now c.args.artefacts.now ask answer) (λ ask fault. g.B.Bench.fails c.args.bench.now c.args.artefacts.now ask fault) (λ ask. g.B.Bench.starves c.args.bench.now c.args.artefacts.now ask) here old c.args.index s.0 c.requires.at
    (legal_over g.B.Bench.gives g.B.Bench.fails g.B.Bench.starves old.opening.bench.now c.args.bench.now old.opening.artefacts.now c.args.artefacts.now (session_in old.opening) (keys_in old.opening) (history old) s.0 c.requires.over.measurer c.requires.over.book s.1)
    c.in-Err-replay.halt c.in-Err-replay.ensures later))
