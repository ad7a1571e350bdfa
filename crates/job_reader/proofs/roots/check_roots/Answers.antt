-- Each root that is a place adds to those so far; the first other one is the least.
use Rattle.std.proofs.Common.{◌∙◌, sym, arith}
use Rattle.job_reader.specs.Texts.{written_session, written_sessions}
use Rattle.job_reader.specs.Testing.{AreRooted, IsRooted}
use Rattle.job_reader.proofs.LeastLemmas.{bad_root_found, before_more, length_written, no_bad_root, written_at}
use Rattle.job_reader.proofs.roots.check_roots.Goals as goal

pub loop-index-preserved : goal.loop-index-preserved
loop-index-preserved c =
    let x = c.index-sessions-index in
    before_more (IsRooted c.args.places.now) (written_sessions c.args.sessions.now) c.loop-index.index (written_session x.result) c.loop-index.invariant (written_at c.args.sessions.now c.loop-index.index x.result c.loop-index-test.true x.is) (sym c.is_place.ensures ∙ c.if-not-is_place.false)

pub returns-then-not-is_place : goal.returns-then-not-is_place
returns-then-not-is_place c =
    let x = c.index-sessions-index in
    λ other. bad_root_found c.args.places.now c.args.sessions.now c.loop-index.index x.result c.loop-index.invariant c.loop-index-test.true x.is (sym c.is_place.ensures ∙ c.if-not-is_place.true)

pub returns : goal.returns
returns c =
    let sessions = written_sessions c.args.sessions.now in
    let same = length_written c.args.sessions.now in
    let past = c.loop-index-test.false in
    let rooted : AreRooted c.args.places.now sessions = λ earlier session below is. c.loop-index.invariant earlier session (omega arith) is in
    (no_bad_root c.args.places.now sessions rooted, rooted)
