-- Each nonce that is new adds to those so far; the first other one repeats one of them.
use Rattle.std.proofs.Common.{◌≡◌, length, arith}
use Rattle.job_reader.specs.Texts.{written_session, written_sessions}
use Rattle.job_reader.proofs.LeastLemmas.{length_written, written_at}
use Rattle.job_reader.proofs.NonceLemmas.{no_two_nonces, nonce_again, nonce_more}
use Rattle.job_reader.proofs.nonces.check_nonces.Goals as goal

pub loop-index-preserved : goal.loop-index-preserved
loop-index-preserved c =
    let x = c.index-sessions-index in
    let at = written_at c.args.sessions.now c.loop-index.index x.result c.loop-index-test.true x.is in
    nonce_more (written_sessions c.args.sessions.now) c.loop-index.index (written_session x.result) c.loop-index.nonces c.add_nonce.new.nonces c.loop-index.invariant at c.in-Ok.ensures.0 c.in-Ok.ensures.1

pub returns-in-Err : goal.returns-in-Err
returns-in-Err c =
    let x = c.index-sessions-index in
    let at = written_at c.args.sessions.now c.loop-index.index x.result c.loop-index-test.true x.is in
    λ other. let (first, named, found) = c.in-Err.ensures other in
    nonce_again (written_sessions c.args.sessions.now) c.loop-index.index (written_session x.result) c.loop-index.nonces first c.in-Err.error c.loop-index.invariant at found named

pub returns : goal.returns
returns c =
    let same = length_written c.args.sessions.now in
    let past = c.loop-index-test.false in
    let end : c.loop-index.index ≡ length (written_sessions c.args.sessions.now) = omega arith in
    (no_two_nonces (written_sessions c.args.sessions.now) c.loop-index.index c.loop-index.nonces c.loop-index.invariant end, tt)
