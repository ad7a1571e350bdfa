-- What is found in each session joins what was found before.
use Rattle.std.proofs.Common.{◌+◌, ℕ, Bool, List, length, get_or, map, drop, ap, sym, ◌∙◌, subst, arith}
use Rattle.place_check.specs.Session.{CheckedSession, session_of}
use Rattle.copland_cli.specs.Ordered.{IsFoundIn, SaysOfClaims}
use Rattle.copland_cli.proofs.OrderLemmas.{BecomeWhole, ends, goes_on}
use Rattle.copland_cli.proofs.order.judge_each.Goals as goal

pub loop-checked-preserved : goal.loop-checked-preserved
loop-checked-preserved c =
    let same = c.as_slice-checked-items.ensures.value in
    let index = c.loop-checked.checked-index in
    let item = c.checked-item.result in
    let here = subst (λ (n : ℕ). IsFoundIn c.args.policy.now (session_of item) n c.loop-checked.text.items c.push_found.new.text.items c.in_ok-found.found) c.loop-checked.invariant.0 c.in_ok-found.ensures in
    let whole = goes_on c.args.policy.now session_of c.args.job.now.sessions.items index item c.loop-checked.text.items c.push_found.new.text.items c.loop-checked.broken c.in_ok-found.found (omega (arith, c.loop-checked-test.true, ap (λ (xs : List CheckedSession). length xs) same)) (c.checked-item.is ∙ ap (λ (xs : List CheckedSession). get_or xs index item) same) c.loop-checked.invariant.1 here in (
      ap (λ n. n + 1) c.loop-checked.invariant.0,
      subst (λ (b : Bool). BecomeWhole c.args.policy.now (map session_of c.args.job.now.sessions.items) (map session_of (drop (index + 1) c.args.job.now.sessions.items)) (index + 1) c.push_found.new.text.items b) (sym c.either-broken.ensures) whole,
    )

pub returns : goal.returns
returns c =
    let same = c.as_slice-checked-items.ensures.value in
    subst (λ (text : List ℕ). SaysOfClaims c.args.policy.now (map session_of c.args.job.now.sessions.items) text c.loop-checked.broken) (sym c.of.ensures)
    (ends c.args.policy.now session_of c.args.job.now.sessions.items c.loop-checked.checked-index c.loop-checked.text.items c.loop-checked.broken (omega (arith, c.loop-checked-test.false, ap (λ (xs : List CheckedSession). length xs) same)) c.loop-checked.invariant.1)
