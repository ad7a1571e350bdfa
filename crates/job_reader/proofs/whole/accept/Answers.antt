-- The first four tests come to nothing; then each of the others finds something, or none does.
use Rattle.std.proofs.Common.{List, arith, refl, sym, subst}
use Rattle.session_model.specs.Session.{Session}
use Rattle.job_reader.specs.Texts.{written}
use Rattle.job_reader.specs.Testing.{read_sessions}
use Rattle.job_reader.specs.Whole.{AreRunnable, AreSessionsOf}
use Rattle.job_reader.proofs.LeastLemmas.{length_written}
use Rattle.job_reader.proofs.CheckLemmas.{read_length}
use Rattle.job_reader.proofs.AcceptLemmas.{accepts_error, fifth_finds, hindrance_found, no_hindrance, none_finds, PassesFour, read_count, read_sessions_of, ready_sessions, seventh_finds, sixth_finds}
use Rattle.job_reader.proofs.whole.accept.Goals as goal

pub returns-in_err-check_nonces : goal.returns-in_err-check_nonces
returns-in_err-check_nonces c =
    let text = written c.args.text in
    let four : PassesFour text c.in_ok-places.places = record {
      same = c.in_ok-places.ensures.1;
      one_place = c.in_ok-places.ensures.0;
      one_artefact = c.in_ok-artefacts.ensures.0;
      one_reference = c.in_ok-references.ensures.0;
      rooted = rw c.deref.ensures.value at c.in_ok-check_roots.ensures.0;
    } in
    let error = c.in_err-check_nonces.field-0.0 in
    accepts_error text c.from_residual-in_err-check_nonces.result error c.from_residual-in_err-check_nonces.ensures.1 (λ other. fifth_finds text c.in_ok-places.places error four (rw c.deref-2.ensures.value at (c.in_err-check_nonces.ensures other)))

pub returns-in_err-read : goal.returns-in_err-read
returns-in_err-read c =
    let text = written c.args.text in
    let four : PassesFour text c.in_ok-places.places = record {
      same = c.in_ok-places.ensures.1;
      one_place = c.in_ok-places.ensures.0;
      one_artefact = c.in_ok-artefacts.ensures.0;
      one_reference = c.in_ok-references.ensures.0;
      rooted = rw c.deref.ensures.value at c.in_ok-check_roots.ensures.0;
    } in
    let error = c.in_err-read.field-0.0 in
    accepts_error text c.from_residual-in_err-read.result error c.from_residual-in_err-read.ensures.1 (λ other. sixth_finds text c.in_ok-places.places error four (rw c.deref-2.ensures.value at c.in_ok-check_nonces.ensures.0) (rw c.deref-3.ensures.value at (c.in_err-read.ensures other)))

pub check_sessions-requires-clause-few : goal.check_sessions-requires-clause-few
check_sessions-requires-clause-few c =
    let few = c.requires.sessions in
    let count = read_count (written c.args.text).sessions (read_sessions c.in_ok-read.read.items) (rw c.deref-3.ensures.value at c.in_ok-read.ensures.1) in
    let read = read_length c.in_ok-read.read.items in
    let texts = length_written c.args.text.sessions.items in
    omega arith

pub check_sessions-requires-clause-ready : goal.check_sessions-requires-clause-ready
check_sessions-requires-clause-ready c =
    ready_sessions c.in_ok-places.places (written c.args.text).sessions (read_sessions c.in_ok-read.read.items) (rw c.deref-3.ensures.value at c.in_ok-read.ensures.1) (rw c.deref.ensures.value at c.in_ok-check_roots.ensures.1)

pub returns-in_err-sessions : goal.returns-in_err-sessions
returns-in_err-sessions c =
    let text = written c.args.text in
    let places = c.in_ok-places.places in
    let found = read_sessions c.in_ok-read.read.items in
    let four : PassesFour text places = record {
      same = c.in_ok-places.ensures.1;
      one_place = c.in_ok-places.ensures.0;
      one_artefact = c.in_ok-artefacts.ensures.0;
      one_reference = c.in_ok-references.ensures.0;
      rooted = rw c.deref.ensures.value at c.in_ok-check_roots.ensures.0;
    } in
    let error = c.in_err-sessions.field-0.0 in
    accepts_error text c.from_residual-in_err-sessions.result error c.from_residual-in_err-sessions.ensures.1 (λ other.
    let (index, what, named, first) = c.in_err-sessions.ensures other in
    seventh_finds text places error four (rw c.deref-2.ensures.value at c.in_ok-check_nonces.ensures.0) (rw c.deref-3.ensures.value at c.in_ok-read.ensures.0) (hindrance_found places text.sessions found index what error (rw c.deref-3.ensures.value at c.in_ok-read.ensures.1) first named))

pub returns : goal.returns
returns c =
    let text = written c.args.text in
    let places = c.in_ok-places.places in
    let found = read_sessions c.in_ok-read.read.items in
    let kept = c.in_ok-sessions.ensures in
    let four : PassesFour text places = record {
      same = c.in_ok-places.ensures.1;
      one_place = c.in_ok-places.ensures.0;
      one_artefact = c.in_ok-artefacts.ensures.0;
      one_reference = c.in_ok-references.ensures.0;
      rooted = rw c.deref.ensures.value at c.in_ok-check_roots.ensures.0;
    } in
    let all = rw c.deref-3.ensures.value at c.in_ok-read.ensures.1 in record {
      passed = none_finds text places four (rw c.deref-2.ensures.value at c.in_ok-check_nonces.ensures.0) (rw c.deref-3.ensures.value at c.in_ok-read.ensures.0) (no_hindrance places text.sessions found all kept.runnable);
      places = c.in_ok-places.ensures.1;
      artefacts = c.in_ok-artefacts.ensures.1;
      sessions =
          subst (λ (list : List Session). AreSessionsOf text.sessions list) (sym kept.same) (read_sessions_of text.sessions found all);
      references = c.in_ok-references.ensures.1;
      bundle = refl;
      runnable = subst (λ (list : List Session). AreRunnable places list) (sym kept.same) kept.runnable;
    }
