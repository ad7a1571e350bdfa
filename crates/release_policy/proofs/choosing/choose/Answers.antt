-- One more session is denied something.
use Rattle.std.proofs.Common.{◌++◌, ◌∷◌, [], ◌+◌, drop, map, arith, ap, sym, ◌∙◌, append_assoc}
use Rattle.place_check.specs.Session.{session_of}
use Rattle.release_policy.proofs.ChoiceLemmas.{before_free, goes_on}
use Rattle.release_policy.proofs.choosing.choose.Goals as goal

pub loop-checked-preserved : goal.loop-checked-preserved
loop-checked-preserved c =
    let on = goes_on c.args.policy.now c.args.sessions.now c.loop-checked.index c.loop-checked.checked-index c.checked-item.result c.in-Some.found c.loop-checked-test.true c.checked-item.is (sym c.in_ok-found.ensures ∙ c.in-Some.is) in
    let rest = before_free c.args.policy.now (map session_of (drop (c.loop-checked.checked-index + 1) c.args.sessions.now)) in
    record {
      counted = omega (arith, c.loop-checked.invariant.counted);
      chosen = c.loop-checked.invariant.chosen ∙ on.chosen;
      denials =
          c.loop-checked.invariant.denials
          ∙ (ap (λ list. c.loop-checked.denials.items ++ list) on.denials
          ∙ (sym (append_assoc c.loop-checked.denials.items (c.in-Some.found ∷ []) rest) ∙ ap (λ list. list ++ rest) (sym c.in_ok-push.ensures.items)));
    }
