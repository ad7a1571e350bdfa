use Rattle.std.proofs.Common.{◌≡◌, List, ◌+◌, [], ◌∷◌, ◌++◌, length, map, drop, refl, sym, ◌∙◌, ap, subst, arith}
use Rattle.std.proofs.lemmas.Option.{slice_get_read}
use Rattle.std.proofs.lemmas.List.{drop_more, drop_all}
use Rattle.session_runs.specs.Schedule.{just_opened, all_opened}
use Rattle.place_check.specs.Places.{keys_of}
use Rattle.place_check.specs.Session.{CheckedSession, session_of}
use Rattle.checked_sessions.specs.Named.{place_names}
use Rattle.session_walk.specs.Sessions.{walked_in}
use Rattle.session_walk.specs.Turns.{IsTurnOf}
use Rattle.transcript.specs.declared.recording.RecordedSession.{RecordedSession}
use Rattle.transcript.specs.Recording.{AreRecordingsOf}
use Rattle.transcript.proofs.RecordingLemmas.{recordings_more}
use Rattle.transcript.proofs.recording.record_in_turn.Goals as goal

pub loop-one-init : goal.loop-one-init
loop-one-init g c =
    let those = map session_of c.args.checked.now in (
      [],
      c.turns_law.ensures.begins c.args.bench.now c.args.artefacts.now c.args.places.now those c.all_ask_places.ensures,
      subst (λ (found : List RecordedSession). AreRecordingsOf [] found) (sym c.new-recordings.ensures.items) tt,
    )

pub finish_in_turn-requires-clause-checked : goal.finish_in_turn-requires-clause-checked
finish_in_turn-requires-clause-checked g c =
    c.requires.checked c.loop-one.one-index c.one-item.result (slice_get_read c.args.checked.now (length c.args.checked.now) c.loop-one.one-index c.one-item.result refl (omega arith) c.one-item.is)

pub finish_in_turn-requires-clause-turn : goal.finish_in_turn-requires-clause-turn
finish_in_turn-requires-clause-turn g c =
    let book = c.args.artefacts.now in
    let bench = c.args.bench.now in
    let places = c.args.places.now in
    let checked = c.args.checked.now in
    let those = map session_of checked in
    let one = c.one-item.result in
    let index = c.loop-one.one-index in
    let inv = c.loop-one.invariant in
    let more = all_opened (map session_of (drop (index + 1) checked)) in
    let split : all_opened (map session_of (drop index checked)) ≡ just_opened (session_of one) ∷ more = ap (λ xs. all_opened (map session_of xs)) (drop_more checked index one (omega arith)) ∙ ap (λ (o : CheckedSession). just_opened (session_of o) ∷ more) (sym c.one-item.is) in (
      those,
      inv.0,
      more,
      subst (λ xs. IsTurnOf (g.B.Bench.gives bench book) (g.B.Bench.fails bench book) (g.B.Bench.starves bench book) places those inv.0 xs) split inv.1,
    )

pub loop-one-preserved : goal.loop-one-preserved
loop-one-preserved g c =
    let book = c.args.artefacts.now in
    let bench = c.args.bench.now in
    let places = c.args.places.now in
    let checked = c.args.checked.now in
    let those = map session_of checked in
    let one = c.one-item.result in
    let index = c.loop-one.one-index in
    let inv = c.loop-one.invariant in
    let more = all_opened (map session_of (drop (index + 1) checked)) in
    let split : all_opened (map session_of (drop index checked)) ≡ just_opened (session_of one) ∷ more = ap (λ xs. all_opened (map session_of xs)) (drop_more checked index one (omega arith)) ∙ ap (λ (o : CheckedSession). just_opened (session_of o) ∷ more) (sym c.one-item.is) in
    let turn = subst (λ xs. IsTurnOf (g.B.Bench.gives bench book) (g.B.Bench.fails bench book) (g.B.Bench.starves bench book) places those inv.0 xs) split inv.1 in
    let session = c.in_ok-session.session in (
      inv.0 ++ walked_in session ∷ [],
      c.in_ok-session.ensures.passes those inv.0 more turn,
      subst (λ found. AreRecordingsOf (inv.0 ++ walked_in session ∷ []) found) (sym c.in_ok-push.ensures.items)
          (recordings_more inv.0 c.loop-one.recordings.items (walked_in session) c.in_ok-recording.recording inv.2 c.in_ok-recording.ensures),
    )

pub returns : goal.returns
returns g c =
    let book = c.args.artefacts.now in
    let bench = c.args.bench.now in
    let places = c.args.places.now in
    let checked = c.args.checked.now in
    let those = map session_of checked in
    let inv = c.loop-one.invariant in
    let nothing : drop c.loop-one.one-index checked ≡ [] = drop_all c.loop-one.one-index checked (omega arith) in
    let turn = subst (λ xs. IsTurnOf (g.B.Bench.gives bench book) (g.B.Bench.fails bench book) (g.B.Bench.starves bench book) places those inv.0 (all_opened (map session_of xs))) nothing inv.1 in
    c.recorded_law.ensures (place_names places) (keys_of places) those 0 inv.0 c.loop-one.recordings.items turn.only
    (c.turns_law.ensures.ends bench book places those inv.0 turn)
    inv.2
