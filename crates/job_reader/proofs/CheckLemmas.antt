-- The sessions that were checked against the places.
use Rattle.std.proofs.Common.{◌≡◌, ℕ, suc, List, [], ◌∷◌, ◌++◌, length, map, refl, sym, ap, ◌∙◌, subst, Option, Some}
use Rattle.session_model.specs.Session.{Session}
use Rattle.place_check.specs.declared.entry.PlaceEntry.{PlaceEntry}
use Rattle.place_check.specs.declared.entry.PlaceKind.{PlaceKind}
use Rattle.place_check.specs.Rules.{first}
use Rattle.place_check.specs.Session.{CheckedSession, session_of}
use Rattle.job_reader.specs.declared.phrases.ReadSession.{ReadSession}
use Rattle.job_reader.specs.Whole.{AreRunnable, Hindrance, hindrance, hindrance_of, IsRunnable, misplaced, oversize}
use Rattle.job_reader.specs.Testing.{AreKept, AreReady, IsFirstHindered, IsReady, read_session, read_sessions}
use Rattle.job_reader.proofs.PhraseLemmas.{read_more}

pub misplaced_hinders : (broken : List (ℕ × PlaceKind)) (over : Option ℕ) (event : ℕ) (kind : PlaceKind) → first broken ≡ Some (event, kind) → hindrance_of broken over ≡ Some (misplaced event kind)
misplaced_hinders [] over event kind is = absurd cc
misplaced_hinders (rule ∷ rest) over event kind is =
    let one : rule ≡ (event, kind) = cc in ap (λ (pair : ℕ × PlaceKind). Some (misplaced pair.0 pair.1)) one

pub oversize_hinders : (broken : List (ℕ × PlaceKind)) (over : Option ℕ) (event : ℕ) → broken ≡ [] → over ≡ Some event → hindrance_of broken over ≡ Some (oversize event)
oversize_hinders broken over event none is = rw (none, is) refl

-- one of the sessions that are ready
pub ready_part : (places : List PlaceEntry) (front : List ReadSession) (x : ReadSession) (rest : List ReadSession) → AreReady places (read_sessions (front ++ x ∷ rest)) → IsReady places (read_session x)
ready_part places [] x rest ready = ready.0
ready_part places (y ∷ front) x rest ready = ready_part places front x rest ready.1

runnable_more : (places : List PlaceEntry) (sessions : List Session) (session : Session) → AreRunnable places sessions → IsRunnable places session → AreRunnable places (sessions ++ session ∷ [])
runnable_more places [] session before here = (here, tt)
runnable_more places (first ∷ rest) session before here = (before.0, runnable_more places rest session before.1 here)

kept_of : (kept : List CheckedSession) (checked : CheckedSession) → map session_of (kept ++ checked ∷ []) ≡ map session_of kept ++ session_of checked ∷ []
kept_of [] checked = refl
kept_of (first ∷ rest) checked = ap (λ (list : List Session). session_of first ∷ list) (kept_of rest checked)

-- one more session is kept
pub kept_more : (places : List PlaceEntry) (front : List ReadSession) (kept more : List CheckedSession) (x : ReadSession) (checked : CheckedSession) → AreKept places (read_sessions front) kept → session_of checked ≡ read_session x → IsRunnable places (read_session x) → more ≡ kept ++ checked ∷ [] → AreKept places (read_sessions (front ++ x ∷ [])) more
kept_more places front kept more x checked before is here grown = record {
  same =
      ap (λ (list : List CheckedSession). map session_of list) grown
      ∙ kept_of kept checked
      ∙ ap (λ (list : List Session). list ++ session_of checked ∷ []) before.same
      ∙ ap (λ (session : Session). read_sessions front ++ session ∷ []) is
      ∙ sym (read_more front x);
  runnable =
      subst (λ list. AreRunnable places list) (sym (read_more front x)) (runnable_more places (read_sessions front) (read_session x) before.runnable here);
}

read_split : (front : List ReadSession) (x : ReadSession) (rest : List ReadSession) → read_sessions (front ++ x ∷ rest) ≡ read_sessions front ++ read_session x ∷ read_sessions rest
read_split [] x rest = refl
read_split (y ∷ front) x rest = ap (λ (list : List Session). read_session y ∷ list) (read_split front x rest)

pub read_length : (front : List ReadSession) → length (read_sessions front) ≡ length front
read_length [] = refl
read_length (y ∷ front) = ap (λ n. suc n) (read_length front)

-- the first session that something keeps from being run
pub first_hindered : (places : List PlaceEntry) (front : List ReadSession) (x : ReadSession) (rest all : List ReadSession) (index : ℕ) (what : Hindrance) (kept : List CheckedSession) → AreKept places (read_sessions front) kept → front ++ x ∷ rest ≡ all → index ≡ length front → hindrance places (read_session x).root (read_session x).phrase ≡ Some what → IsFirstHindered places (read_sessions all) index what
first_hindered places front x rest all index what kept before joined numbered hindered = record {
  front = read_sessions front;
  session = read_session x;
  rest = read_sessions rest;
  split = ap (λ (list : List ReadSession). read_sessions list) (sym joined) ∙ read_split front x rest;
  numbered = numbered ∙ sym (read_length front);
  runnable = before.runnable;
  hindered = hindered;
}
