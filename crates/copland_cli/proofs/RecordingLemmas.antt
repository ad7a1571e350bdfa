-- Over digests the walk of a number has one list of transcripts.
use Rattle.std.proofs.Common.{◌≡◌, ◌∙◌, ℕ, Bool, List, [], ◌∷◌, Result, Some, ap, arith, refl, subst, sym}
use Rattle.bench_trait.specs.declared.artefacts.Artefact.{Artefact}
use Rattle.bench_trait.specs.declared.bench.MeasureError.{MeasureError}
use Rattle.bench_trait.specs.Digest.{digest_answer, LacksArtefact}
use Rattle.session_model.specs.Session.{Session}
use Rattle.session_runs.specs.Played.{AskOnly, ArePlayed}
use Rattle.session_runs.specs.Results.{AgreeSoFar}
use Rattle.session_runs.specs.Schedule.{Walked, Round, after_rounds, entries_at_most, scheduled}
use Rattle.session_walk.specs.Fixed.{digest_results}
use Rattle.session_walk.proofs.FixedLemmas.{agree}
use Rattle.transcript.specs.Recording.{AreOfRecordedWalk, AreRecordingsOf, IsRecordingOf}
use Rattle.transcript.specs.declared.recording.RecordedSession.{RecordedSession}
use Rattle.transcript.proofs.LawLemmas.{one_text}

-- the laws of schedules that this takes
pub record AreScheduledSo : Type 0 where
  pub played : (places : List (List ℕ)) (keys : List (List ℕ × List ℕ)) (results : ℕ → ℕ → Result (List ℕ) MeasureError) (sessions : List Session) (number : ℕ) → AskOnly places sessions → ArePlayed keys results 0 sessions (scheduled places keys results sessions number)
  pub agree : (places : List (List ℕ)) (keys : List (List ℕ × List ℕ)) (results others : ℕ → ℕ → Result (List ℕ) MeasureError) (sessions : List Session) (number count : ℕ) → AskOnly places sessions → AgreeSoFar results others 0 (after_rounds places keys results sessions number count).all → after_rounds places keys others sessions number count ≡ after_rounds places keys results sessions number count

abbrev recording : List ℕ → Bool → RecordedSession
recording bytes failed = record { bytes = bytes; has_failed = failed }

one_of : (walked : Walked) (one other : RecordedSession) → IsRecordingOf walked one → IsRecordingOf walked other → one ≡ other
one_of walked one other h k =
    ap (λ (b : List ℕ). recording b one.has_failed) (one_text one.bytes other.bytes walked.history h.text k.text)
    ∙ ap (λ (f : Bool). recording other.bytes f) (h.fails ∙ sym k.fails)

one_list : (all : List Walked) (one other : List RecordedSession) → AreRecordingsOf all one → AreRecordingsOf all other → one ≡ other
one_list [] [] [] h k = refl
one_list [] [] (again ∷ other) h k = absurd k
one_list [] (found ∷ one) other h k = absurd h
one_list (walked ∷ all) [] other h k = absurd h
one_list (walked ∷ all) (found ∷ one) [] h k = absurd k
one_list (walked ∷ all) (found ∷ one) (again ∷ other) h k =
    let first = one_of walked found again h.0 k.0 in
    let rest = one_list all one other h.1 k.1 in cc

-- the recordings are those of a walk that is measured by digests over these artefacts
abbrev AreOfDigests : List Artefact → List (List ℕ) → List (List ℕ × List ℕ) → List Session → ℕ → List RecordedSession → Type 0
AreOfDigests artefacts places keys sessions number recordings =
    AreOfRecordedWalk (λ ask answer. digest_answer artefacts ask ≡ Some answer) (λ ask fault. LacksArtefact artefacts ask fault) (λ ask. ⊥) places keys sessions number recordings

by_digests : (laws : AreScheduledSo) (artefacts : List Artefact) (places : List (List ℕ)) (keys : List (List ℕ × List ℕ)) (sessions : List Session) (number : ℕ) (recordings : List RecordedSession) → AreOfDigests artefacts places keys sessions number recordings → AreRecordingsOf (scheduled places keys (digest_results artefacts sessions) sessions number) recordings
by_digests laws artefacts places keys sessions number recordings r =
    let w = r.walk in
    let those : List Walked = scheduled places keys w.results sessions number in
    let plays = laws.played places keys w.results sessions number w.only in
    let agrees = agree artefacts keys w.results (digest_results artefacts sessions) 0 sessions those (λ n event. ap (λ m. digest_results artefacts sessions m event) (omega arith)) plays w.legal in
    let same = laws.agree places keys w.results (digest_results artefacts sessions) sessions number (entries_at_most sessions) w.only agrees in
    subst (λ (x : Round). AreRecordingsOf x.all recordings) (sym same) r.written

pub one_recording : (laws : AreScheduledSo) (artefacts : List Artefact) (places : List (List ℕ)) (keys : List (List ℕ × List ℕ)) (sessions : List Session) (number : ℕ) (one other : List RecordedSession) → AreOfDigests artefacts places keys sessions number one → AreOfDigests artefacts places keys sessions number other → one ≡ other
one_recording laws artefacts places keys sessions number one other h k =
    one_list (scheduled places keys (digest_results artefacts sessions) sessions number) one other
    (by_digests laws artefacts places keys sessions number one h)
    (by_digests laws artefacts places keys sessions number other k)
