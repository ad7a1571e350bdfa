-- Each session is one of the job's, and its record joins those before it.
use Rattle.std.proofs.Common.{◌+◌, ℕ, Bool, List, length, get_or, map, drop, ap, sym, ◌∙◌, subst, arith}
use Rattle.std.proofs.lemmas.Option.{slice_get_read}
use Rattle.place_check.specs.Places.{keys_of}
use Rattle.place_check.specs.Session.{CheckedSession, session_of}
use Rattle.copland_cli.specs.Evaluated.{IsValueIn, SaysOfValues}
use Rattle.copland_cli.proofs.ValueLemmas.{BecomeWhole, ends, goes_on}
use Rattle.copland_cli.proofs.evaluate.values_of.Goals as goal

pub push_found-requires : goal.push_found-requires
push_found-requires g c =
    let same = c.as_slice-checked-items.ensures.value in
    let index = c.loop-checked.checked-index in
    let item = c.checked-item.result in
    (c.requires index item (slice_get_read c.args.job.now.sessions.items (length c.as_slice-checked-items.result.now) index item (ap (λ (xs : List CheckedSession). length xs) same) c.loop-checked-test.true (c.checked-item.is ∙ ap (λ (xs : List CheckedSession). get_or xs index item) same))).0

pub loop-checked-preserved : goal.loop-checked-preserved
loop-checked-preserved g c =
    let gives = g.B.Bench.gives c.args.bench.now c.args.job.now.artefacts in
    let fails = g.B.Bench.fails c.args.bench.now c.args.job.now.artefacts in
    let keys = keys_of c.args.job.now.places in
    let sessions = c.args.job.now.sessions.items in
    let same = c.as_slice-checked-items.ensures.value in
    let index = c.loop-checked.checked-index in
    let item = c.checked-item.result in
    let here = subst (λ (n : ℕ). IsValueIn gives fails keys (session_of item) n c.loop-checked.text.items c.push_found.new.text.items c.in_ok-found.found) c.loop-checked.invariant.0 c.in_ok-found.ensures in
    let whole = goes_on gives fails keys session_of sessions index item c.loop-checked.text.items c.push_found.new.text.items c.loop-checked.failed c.in_ok-found.found (omega (arith, c.loop-checked-test.true, ap (λ (xs : List CheckedSession). length xs) same)) (c.checked-item.is ∙ ap (λ (xs : List CheckedSession). get_or xs index item) same) c.loop-checked.invariant.1 here in (
      ap (λ n. n + 1) c.loop-checked.invariant.0,
      subst (λ (b : Bool). BecomeWhole gives fails keys (map session_of sessions) (map session_of (drop (index + 1) sessions)) (index + 1) c.push_found.new.text.items b) (sym c.either-failed.ensures) whole,
    )

pub returns : goal.returns
returns g c =
    let gives = g.B.Bench.gives c.args.bench.now c.args.job.now.artefacts in
    let fails = g.B.Bench.fails c.args.bench.now c.args.job.now.artefacts in
    let keys = keys_of c.args.job.now.places in
    let sessions = c.args.job.now.sessions.items in
    let same = c.as_slice-checked-items.ensures.value in
    subst (λ (text : List ℕ). SaysOfValues gives fails keys (map session_of sessions) text c.loop-checked.failed) (sym c.of.ensures)
    (ends gives fails keys session_of sessions c.loop-checked.checked-index c.loop-checked.text.items c.loop-checked.failed (omega (arith, c.loop-checked-test.false, ap (λ (xs : List CheckedSession). length xs) same)) c.loop-checked.invariant.1)
