-- The sessions are checked one by one.
use Rattle.std.proofs.Common.{◌≡◌, ◌∷◌, ◌++◌, [], List, length, ap, sym, ◌∙◌, append_assoc, subst, arith}
use Rattle.std.specs.Vec.Iter.{into_iter_items}
use Rattle.job_reader.specs.declared.phrases.ReadSession.{ReadSession}
use Rattle.job_reader.specs.Testing.{AreReady, read_sessions}
use Rattle.job_reader.proofs.CheckLemmas.{first_hindered, kept_more, ready_part}
use Rattle.job_reader.proofs.RepeatLemmas.{length_more}
use Rattle.job_reader.proofs.checks.check_sessions.Goals as goal

pub check_session-requires : goal.check_session-requires
check_session-requires c =
    let at = c.loop-session in
    let x = c.in-Some.session in
    let steps : into_iter_items at.session-iterator ≡ x ∷ into_iter_items c.next.new.self = c.in-Some.ensures.steps.0 in
    let joined : at.yielded ++ x ∷ into_iter_items c.next.new.self ≡ c.args.sessions.items =
    rw (← steps) at.invariant.passed.joined ∙ c.into_iter-session-iterator.ensures.into_iter_gives.0 in
    ready_part c.args.places.now at.yielded x _ (subst (λ (list : List ReadSession). AreReady c.args.places.now (read_sessions list)) (sym joined) c.requires.ready)

pub returns-in-Err : goal.returns-in-Err
returns-in-Err c =
    let at = c.loop-session in
    let x = c.in-Some.session in
    let steps : into_iter_items at.session-iterator ≡ x ∷ into_iter_items c.next.new.self = c.in-Some.ensures.steps.0 in
    let joined : at.yielded ++ x ∷ into_iter_items c.next.new.self ≡ c.args.sessions.items =
    rw (← steps) at.invariant.passed.joined ∙ c.into_iter-session-iterator.ensures.into_iter_gives.0 in
    λ other. let (what, named, hindered) = c.in-Err.ensures other in
    (at.index, what, named, first_hindered c.args.places.now at.yielded x _ _ at.index what at.list.items at.invariant.kept joined at.invariant.numbered hindered)

pub loop-session-preserved : goal.loop-session-preserved
loop-session-preserved c =
    let at = c.loop-session in
    let x = c.in-Some.session in
    let steps : into_iter_items at.session-iterator ≡ x ∷ into_iter_items c.next.new.self = c.in-Some.ensures.steps.0 in
    let gone = c.in-Some.ensures.steps.1 in
    let short = ap length steps in
    let counted = at.invariant.passed.counted in
    let numbered = at.invariant.numbered in
    let more = length_more at.yielded x in record {
      passed = record {
        joined = append_assoc at.yielded (x ∷ []) _ ∙ rw (← steps) at.invariant.passed.joined;
        counted = omega arith;
      };
      numbered = omega arith;
      kept = kept_more c.args.places.now at.yielded at.list.items c.push.new.self.items x c.in-Ok.checked at.invariant.kept c.in-Ok.ensures.0 c.in-Ok.ensures.1 c.in_ok-push-in-Ok.ensures.items;
    }
