-- Each session's text joins those before it.
use Rattle.std.proofs.Common.{◌+◌, ◌++◌, List, length, get_or, ap, ◌∙◌, refl, arith}
use Rattle.std.specs.Prelude.{map}
use Rattle.place_check.specs.Session.{CheckedSession, session_of}
use Rattle.report_text.specs.Sessions.{numbered}
use Rattle.report_text.proofs.NumberedLemmas.{ends, goes_on}
use Rattle.copland_cli.specs.Reported.{aspect_text}
use Rattle.copland_cli.proofs.outcome.describe_each.Goals as goal

pub loop-checked-preserved : goal.loop-checked-preserved
loop-checked-preserved c =
    let same = c.as_slice-checked-items.ensures.value in
    let index = c.loop-checked.checked-index in
    let item = c.checked-item.result in (
      ap (λ n. n + 1) c.loop-checked.invariant.0,
      goes_on (aspect_text c.args.aspect) session_of c.args.job.now.sessions.items index item c.loop-checked.text.items c.push_aspect.new.text.items (numbered (aspect_text c.args.aspect) 0 (map session_of c.args.job.now.sessions.items))
          (omega (arith, c.loop-checked-test.true, ap (λ (xs : List CheckedSession). length xs) same)) (c.checked-item.is ∙ ap (λ (xs : List CheckedSession). get_or xs index item) same) c.loop-checked.invariant.1
          (c.in_ok-push_aspect.ensures ∙ ap (λ n. c.loop-checked.text.items ++ aspect_text c.args.aspect n (session_of item)) c.loop-checked.invariant.0),
    )

pub returns : goal.returns
returns c =
    let same = c.as_slice-checked-items.ensures.value in
    (c.of.ensures ∙ ends (aspect_text c.args.aspect) session_of c.args.job.now.sessions.items c.loop-checked.checked-index c.loop-checked.text.items (numbered (aspect_text c.args.aspect) 0 (map session_of c.args.job.now.sessions.items)) (omega (arith, c.loop-checked-test.false, ap (λ (xs : List CheckedSession). length xs) same)) c.loop-checked.invariant.1, refl)
