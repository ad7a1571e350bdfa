use Rattle.std.proofs.Common.{◌≡◌, ◌+◌, ◌++◌, ◌∷◌, [], map, take, sym, ◌∙◌, ap, subst, arith}
use Rattle.std.proofs.lemmas.List.{take_more}
use Rattle.session_model.specs.Recorded.{recorded}
use Rattle.session_walk.specs.Records.{AreRecordsOf}
use Rattle.session_walk.specs.Sessions.{walked_in}
use Rattle.session_walk.proofs.JobLemmas.{one_recorded}
use Rattle.session_walk.proofs.walk.records_of.Goals as goal

pub loop-session-preserved : goal.loop-session-preserved
loop-session-preserved g c =
    let items = c.deref-session-items.result.now in
    let one = c.session-item.result in
    let index = c.loop-session.session-index in
    let more : take (index + 1) items ≡ take index items ++ one ∷ [] = take_more items index one (omega arith) ∙ ap (λ s. take index items ++ s ∷ []) (sym c.session-item.is) in
    subst (λ xs. AreRecordsOf (map walked_in xs) (map recorded c.push.new.self.items)) (sym more)
    (subst (λ ys. AreRecordsOf (map walked_in (take index items ++ one ∷ [])) (map recorded ys)) (sym c.in_ok-push.ensures.items)
    (one_recorded (take index items) c.loop-session.records.items one c.in_ok-found.found c.loop-session.invariant c.in_ok-found.ensures))
