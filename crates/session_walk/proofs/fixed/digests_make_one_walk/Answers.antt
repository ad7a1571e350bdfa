-- Each walk is the one that has the digests as its results.
use Rattle.std.proofs.Common.{List, sym, ap, subst, arith}
use Rattle.session_model.specs.Record.{Record}
use Rattle.session_runs.specs.Schedule.{Walked, Round, entries_at_most, scheduled}
use Rattle.session_walk.specs.Records.{AreRecordsOf}
use Rattle.session_walk.specs.Fixed.{digest_results, AreOfDigestWalk}
use Rattle.session_walk.proofs.FixedLemmas.{agree, one_list}
use Rattle.session_walk.proofs.fixed.digests_make_one_walk.Goals as goal

pub returns : goal.returns
returns c = λ artefacts places keys sessions number one other h k.
    let digests = digest_results artefacts sessions in
    let by_digests : (records : List Record) → AreOfDigestWalk artefacts places keys sessions number records → AreRecordsOf (scheduled places keys digests sessions number) records = λ records w.
    let those : List Walked = scheduled places keys w.results sessions number in
    let plays = (c.schedule_law.ensures places keys w.results sessions number w.only).0 in
    let agrees = agree artefacts keys w.results digests 0 sessions those (λ n event. ap (λ m. digest_results artefacts sessions m event) (omega arith)) plays w.legal in
    let same = c.rounds_law.ensures.agree places keys w.results digests sessions number (entries_at_most sessions) w.only agrees in
    subst (λ (r : Round). AreRecordsOf r.all records) (sym same) w.recorded in
    one_list (scheduled places keys digests sessions number) one other (by_digests one h) (by_digests other k)
