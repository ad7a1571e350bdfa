-- Each session is of the job, so it can be opened; with it those so far are one more.
use Rattle.std.proofs.Common.{◌∙◌, List, length, get_or, ap}
use Rattle.std.proofs.lemmas.Option.{slice_get_read}
use Rattle.place_check.specs.Session.{CheckedSession}
use Rattle.session_tests.proofs.FitFacts.{just_more, over_more}
use Rattle.session_tests.proofs.made_jobs.opened.Goals as goal

pub open-requires : goal.open-requires
open-requires g c =
    let same = c.as_slice-checked-items.ensures.value in
    let index = c.loop-checked.checked-index in
    let item = c.checked-item.result in
    (c.requires index item (slice_get_read c.args.job.now.sessions.items (length c.as_slice-checked-items.result.now) index item (ap (λ (xs : List CheckedSession). length xs) same) c.loop-checked-test.true (c.checked-item.is ∙ ap (λ (xs : List CheckedSession). get_or xs index item) same))).0

pub loop-checked-preserved : goal.loop-checked-preserved
loop-checked-preserved g c =
    let kept = c.loop-checked.invariant in
    let new = c.in-Ok.ensures in
    record {
      just = just_more c.loop-checked.sessions.items c.push.new.self.items c.in-Ok.session kept.just new.items c.in-Ok-push.ensures.items;
      over = over_more c.args.bench.now c.args.job.now.artefacts c.loop-checked.sessions.items c.push.new.self.items c.in-Ok.session kept.over new.of_bench new.of_artefacts c.in-Ok-push.ensures.items;
    }
