-- Each session is one of the job's, and is counted behind those before it.
use Rattle.std.proofs.Common.{◌≡◌, ◌+◌, ◌++◌, ◌∷◌, ◌∙◌, [], List, length, get_or, map, take, ap, arith, subst, sym}
use Rattle.std.proofs.lemmas.List.{length-map, map-append, take_all, take_more}
use Rattle.std.proofs.lemmas.Option.{slice_get_read}
use Rattle.session_model.specs.Session.{Session}
use Rattle.place_check.specs.Session.{CheckedSession, session_of}
use Rattle.job_reader.specs.Accepted.{job_view}
use Rattle.load_maker.specs.Answered.{HasAnswers}
use Rattle.load_runner.specs.Figures.{bundles_in, is_accepted, is_done}
use Rattle.load_runner.specs.Tally.{IsTallied}
use Rattle.load_runner.proofs.LeafLemmas.{all_at}
use Rattle.load_runner.proofs.TallyLemmas.{at_most_one, figures_are, none_tallied, tallied_more}
use Rattle.load_runner.proofs.run.run_sessions.Goals as goal

pub loop-checked-init : goal.loop-checked-init
loop-checked-init g c = record {
  tallied = none_tallied (g.B.Bench.gives c.args.bench.now c.args.job.now.artefacts) (g.B.Bench.fails c.args.bench.now c.args.job.now.artefacts) (job_view c.args.job.now) c.none-tally.result c.none-tally.ensures.events c.none-tally.ensures.done c.none-tally.ensures.accepted c.none-tally.ensures.fed;
  events = omega (arith, c.none-tally.ensures.events);
  done = omega (arith, c.none-tally.ensures.done);
  accepted = omega (arith, c.none-tally.ensures.accepted);
}

pub run_one-requires-clause-fit : goal.run_one-requires-clause-fit
run_one-requires-clause-fit g c =
    let same = c.as_slice-checked-items.ensures.value in
    let index = c.loop-checked.checked-index in
    let item = c.checked-item.result in
    let at = slice_get_read c.args.job.now.sessions.items (length c.as_slice-checked-items.result.now) index item (ap (λ (xs : List CheckedSession). length xs) same) c.loop-checked-test.true (c.checked-item.is ∙ ap (λ (xs : List CheckedSession). get_or xs index item) same) in
    record {
      checked = (c.requires.checked index item at).0;
      answered = all_at (HasAnswers (job_view c.args.job.now)) session_of c.args.job.now.sessions.items index item c.requires.answered at;
    }

pub run_one-requires-clause-room : goal.run_one-requires-clause-room
run_one-requires-clause-room g c =
    let same = ap (λ (xs : List CheckedSession). length xs) c.as_slice-checked-items.ensures.value in
    let inv = c.loop-checked.invariant in
    record {
      events = omega (arith, inv.events, c.loop-checked-test.true, same, c.requires.few);
      done = omega (arith, inv.done, c.loop-checked-test.true, same, c.requires.few);
      accepted = omega (arith, inv.accepted, c.loop-checked-test.true, same, c.requires.few);
    }

pub loop-checked-preserved : goal.loop-checked-preserved
loop-checked-preserved g c =
    let same = c.as_slice-checked-items.ensures.value in
    let items = c.args.job.now.sessions.items in
    let index = c.loop-checked.checked-index in
    let item = c.checked-item.result in
    let inv = c.loop-checked.invariant in
    let k = c.in_ok-run_one.ensures in
    let is = c.checked-item.is ∙ ap (λ (xs : List CheckedSession). get_or xs index item) same in
    let more : map session_of (take (index + 1) items) ≡ map session_of (take index items) ++ session_of item ∷ [] =
    ap (λ xs. map session_of xs) (take_more items index item (omega (arith, c.loop-checked-test.true, ap (λ (xs : List CheckedSession). length xs) same)) ∙ ap (λ (x : CheckedSession). take index items ++ x ∷ []) (sym is))
    ∙ map-append session_of (take index items) (item ∷ []) in
    record {
      tallied = subst (λ (sessions : List Session). IsTallied (g.B.Bench.gives c.args.bench.now c.args.job.now.artefacts) (g.B.Bench.fails c.args.bench.now c.args.job.now.artefacts) (job_view c.args.job.now) sessions c.run_one.new.tally) (sym more)
          (tallied_more (g.B.Bench.gives c.args.bench.now c.args.job.now.artefacts) (g.B.Bench.fails c.args.bench.now c.args.job.now.artefacts) (job_view c.args.job.now) (map session_of (take index items)) (session_of item) c.loop-checked.tally c.run_one.new.tally inv.tallied k);
      events = omega (arith, inv.events, k.events, k.few);
      done = omega (arith, inv.done, k.done, at_most_one (is_done k.found));
      accepted = omega (arith, inv.accepted, k.accepted, at_most_one (is_accepted (job_view c.args.job.now) (session_of item) k.found));
    }

pub returns : goal.returns
returns g c =
    let same = c.as_slice-checked-items.ensures.value in
    let items = c.args.job.now.sessions.items in
    let inv = c.loop-checked.invariant in
    let all : map session_of (take c.loop-checked.checked-index items) ≡ map session_of items =
    ap (λ xs. map session_of xs) (take_all c.loop-checked.checked-index items (omega (arith, c.loop-checked-test.false, ap (λ (xs : List CheckedSession). length xs) same))) in
    let tallied = subst (λ (sessions : List Session). IsTallied (g.B.Bench.gives c.args.bench.now c.args.job.now.artefacts) (g.B.Bench.fails c.args.bench.now c.args.job.now.artefacts) (job_view c.args.job.now) sessions c.loop-checked.tally) all inv.tallied in
    figures_are (g.B.Bench.gives c.args.bench.now c.args.job.now.artefacts) (g.B.Bench.fails c.args.bench.now c.args.job.now.artefacts) (job_view c.args.job.now) c.loop-checked.tally c.figures.result _ tallied (c.figures.ensures (bundles_in tallied.records) tallied.fed) (c.len.ensures ∙ sym c.as_slice-checked-items.ensures.len ∙ ap (λ (xs : List CheckedSession). length xs) same ∙ sym (length-map items session_of))
