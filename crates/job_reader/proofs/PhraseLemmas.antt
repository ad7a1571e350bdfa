-- The sessions whose phrases are read.
use Rattle.std.proofs.Common.{◌≡◌, ◌<◌, ◌+◌, ℕ, zero, suc, List, [], ◌∷◌, ◌++◌, length, take, refl, sym, ap, subst, arith, Some, slice_get, add-one, get_or}
use Rattle.phrase_reader.specs.declared.refusal.Kind.{Kind}
use Rattle.phrase_reader.specs.Refusal.{IsRefusal}
use Rattle.session_model.specs.Session.{Session}
use Rattle.job_reader.specs.declared.refusal.JobError.{JobError}
use Rattle.job_reader.specs.declared.refusal.JobError.TheVariants.{BadPhrase}
use Rattle.job_reader.specs.declared.phrases.ReadSession.{ReadSession}
use Rattle.job_reader.specs.declared.sessions.SessionText.{SessionText}
use Rattle.job_reader.specs.Form.{WrittenSession}
use Rattle.job_reader.specs.Texts.{written_session, written_sessions}
use Rattle.job_reader.specs.Whole.{FindsBadPhrase, FindsNothing, IsRefused}
use Rattle.job_reader.specs.Testing.{AreReadFrom, HoldsBefore, IsReadFrom, read_session, read_sessions}
use Rattle.job_reader.proofs.LeastLemmas.{at_none, least_at, written_at}

some_same : {A : Type 0} (x y : A) → Some x ≡ Some y → x ≡ y
some_same x y is = cc

read_one : (sessions : List WrittenSession) (index : ℕ) (found : List Session) (written : WrittenSession) (session : Session) → AreReadFrom (take index sessions) found → slice_get sessions index ≡ Some written → IsReadFrom written session → AreReadFrom (take (suc index) sessions) (found ++ session ∷ [])
read_one [] index found written session before at here = absurd cc
read_one (first ∷ rest) zero [] written session before at here =
    (subst (λ w. IsReadFrom w session) (sym (some_same first written at)) here, tt)
read_one (first ∷ rest) zero (other ∷ found) written session before at here = absurd before
read_one (first ∷ rest) (suc index) [] written session before at here = absurd before
read_one (first ∷ rest) (suc index) (other ∷ found) written session before at here =
    (before.0, read_one rest index found written session before.1 at here)

pub read_more : (list : List ReadSession) (x : ReadSession) → read_sessions (list ++ x ∷ []) ≡ read_sessions list ++ read_session x ∷ []
read_more [] x = refl
read_more (first ∷ rest) x = ap (λ (found : List Session). read_session first ∷ found) (read_more rest x)

-- one more session was read
pub sessions_more : (sessions : List SessionText) (index : ℕ) (list more : List ReadSession) (x : SessionText) (session : ReadSession) → AreReadFrom (take index (written_sessions sessions)) (read_sessions list) → index < length sessions → x ≡ get_or sessions index x → IsReadFrom (written_session x) (read_session session) → more ≡ list ++ session ∷ [] → AreReadFrom (take (index + 1) (written_sessions sessions)) (read_sessions more)
sessions_more sessions index list more x session before below is here grown =
    let next = read_one (written_sessions sessions) index (read_sessions list) (written_session x) (read_session session) before (written_at sessions index x below is) here in
    rw (grown, read_more list session, add-one index) next

-- none of those that were read is refused
read_unrefused : (sessions : List WrittenSession) (index : ℕ) (found : List Session) → AreReadFrom (take index sessions) found → HoldsBefore (λ session. ¬ (IsRefused session)) sessions index
read_unrefused [] index found before earlier session below is = absurd cc
read_unrefused (first ∷ rest) zero found before earlier session below is = absurd (omega arith)
read_unrefused (first ∷ rest) (suc index) [] before earlier session below is = absurd before
read_unrefused (first ∷ rest) (suc index) (other ∷ found) before zero session below is =
    subst (λ w. ¬ (IsRefused w)) (some_same first session is) before.0.unrefused
read_unrefused (first ∷ rest) (suc index) (other ∷ found) before (suc earlier) session below is =
    read_unrefused rest index found before.1 earlier session (omega arith) is

-- the first text that is refused
pub bad_phrase_found : (sessions : List SessionText) (index : ℕ) (list : List ReadSession) (x : SessionText) (place : ℕ) (kind : Kind) (error : JobError) → AreReadFrom (take index (written_sessions sessions)) (read_sessions list) → index < length sessions → x ≡ get_or sessions index x → error ≡ BadPhrase index place kind → IsRefusal x.phrase.now place kind → FindsBadPhrase (written_sessions sessions) error
bad_phrase_found sessions index list x place kind error before below is named refusal =
    let at = written_at sessions index x below is in (
      index,
      place,
      kind,
      named,
      least_at IsRefused (written_sessions sessions) index (written_session x) (read_unrefused (written_sessions sessions) index (read_sessions list) before) at (place, kind, refusal),
      (written_session x, at, refusal),
    )

take_all : {A : Type 0} (items : List A) → take (length items) items ≡ items
take_all [] = refl
take_all (x ∷ rest) = ap (λ list. x ∷ list) (take_all rest)

-- all were read
pub no_bad_phrase : (sessions : List WrittenSession) (found : List Session) → AreReadFrom sessions found → FindsNothing (FindsBadPhrase sessions)
no_bad_phrase sessions found all error (index, place, kind, named, least, here) =
    let whole : AreReadFrom (take (length sessions) sessions) found = subst (λ list. AreReadFrom list found) (sym (take_all sessions)) all in
    at_none IsRefused sessions (read_unrefused sessions (length sessions) found whole) index least.holds

pub all_read : (sessions : List WrittenSession) (index : ℕ) (found : List Session) → AreReadFrom (take index sessions) found → index ≡ length sessions → AreReadFrom sessions found
all_read sessions index found before end =
    subst (λ list. AreReadFrom list found) (take_all sessions) (subst (λ n. AreReadFrom (take n sessions) found) end before)
