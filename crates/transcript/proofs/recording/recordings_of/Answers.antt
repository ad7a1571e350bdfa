use Rattle.std.proofs.Common.{◌≡◌, ◌+◌, ◌++◌, ◌∷◌, [], map, take, sym, ◌∙◌, ap, subst, arith}
use Rattle.std.proofs.lemmas.List.{take_more, map-append}
use Rattle.session_walk.specs.Sessions.{walked_in}
use Rattle.transcript.specs.Recording.{AreRecordingsOf}
use Rattle.transcript.proofs.RecordingLemmas.{recordings_more}
use Rattle.transcript.proofs.recording.recordings_of.Goals as goal

pub loop-session-preserved : goal.loop-session-preserved
loop-session-preserved g c =
    let items = c.deref-session-items.result.now in
    let one = c.session-item.result in
    let index = c.loop-session.session-index in
    let recordings = c.loop-session.recordings.items in
    let more : map walked_in (take (index + 1) items) ≡ map walked_in (take index items) ++ walked_in one ∷ [] =
    ap (λ xs. map walked_in xs) (take_more items index one (omega arith) ∙ ap (λ s. take index items ++ s ∷ []) (sym c.session-item.is))
    ∙ map-append walked_in (take index items) (one ∷ []) in
    subst (λ all. AreRecordingsOf all c.push.new.self.items) (sym more)
    (subst (λ found. AreRecordingsOf (map walked_in (take index items) ++ walked_in one ∷ []) found) (sym c.in_ok-push.ensures.items)
    (recordings_more (map walked_in (take index items)) recordings (walked_in one) c.in_ok-one.one c.loop-session.invariant c.in_ok-one.ensures))
