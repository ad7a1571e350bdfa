-- Each session that was read adds to those so far; the first other one is the least.
use Rattle.std.proofs.Common.{◌≡◌, length, arith}
use Rattle.job_reader.specs.Texts.{written_sessions}
use Rattle.job_reader.specs.Testing.{read_sessions}
use Rattle.job_reader.proofs.LeastLemmas.{length_written}
use Rattle.job_reader.proofs.PhraseLemmas.{all_read, bad_phrase_found, no_bad_phrase, sessions_more}
use Rattle.job_reader.proofs.phrases.read_all_sessions.Goals as goal

pub loop-index-preserved : goal.loop-index-preserved
loop-index-preserved c =
    let x = c.index-sessions-index in
    sessions_more c.args.sessions.now c.loop-index.index c.loop-index.list.items c.push.new.self.items x.result c.in-Ok.read c.loop-index.invariant c.loop-index-test.true x.is c.in-Ok.ensures c.in_ok-push-in-Ok.ensures.items

pub returns-in-Err : goal.returns-in-Err
returns-in-Err c =
    let x = c.index-sessions-index in
    λ other. let (place, kind, named, refusal) = c.in-Err.ensures other in
    bad_phrase_found c.args.sessions.now c.loop-index.index c.loop-index.list.items x.result place kind c.in-Err.error c.loop-index.invariant c.loop-index-test.true x.is named refusal

pub returns : goal.returns
returns c =
    let sessions = written_sessions c.args.sessions.now in
    let same = length_written c.args.sessions.now in
    let past = c.loop-index-test.false in
    let end : c.loop-index.index ≡ length sessions = omega arith in
    let all = all_read sessions c.loop-index.index (read_sessions c.loop-index.list.items) c.loop-index.invariant end in
    (no_bad_phrase sessions (read_sessions c.loop-index.list.items) all, all)
