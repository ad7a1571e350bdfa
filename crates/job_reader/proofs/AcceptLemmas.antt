-- The tests over a whole job, put together.
use Rattle.std.proofs.Common.{◌≡◌, ◌<◌, ℕ, zero, suc, IsTrue, List, [], ◌∷◌, ◌++◌, length, refl, sym, ap, ◌∙◌, subst, arith, Option, None, Some, slice_get, inl, inr, Result, Ok, Err}
use Rattle.std.specs.Result.{IsErrAnd}
use Rattle.phrase_tree.specs.Term.{Term}
use Rattle.session_model.specs.Session.{Session}
use Rattle.evidence_types.specs.Measure.{oversize_at}
use Rattle.place_check.specs.declared.entry.PlaceEntry.{PlaceEntry}
use Rattle.place_check.specs.declared.entry.PlaceKind.{PlaceKind}
use Rattle.place_check.specs.Places.{is_place}
use Rattle.job_reader.specs.declared.accepted.Job.{Job}
use Rattle.job_reader.specs.declared.refusal.JobError.{JobError}
use Rattle.job_reader.specs.declared.refusal.JobError.TheVariants.{NoMemory}
use Rattle.job_reader.specs.Form.{Written, WrittenSession}
use Rattle.job_reader.specs.Whole.{AreRunnable, AreSessionsOf, FindsBadPhrase, FindsBadRoot, FindsTwoArtefacts, FindsTwoNonces, FindsTwoPlaces, FindsTwoReferences, NoneFinds, FindsHindrance, FindsNothing, FirstFinds, Hindrance, hindrance, hindrance_error, hindrance_of, IsAt, IsHindered, IsHinderedBy, IsRunnable, tests}
use Rattle.job_reader.specs.Testing.{AreReadFrom, AreReady, AreRooted, IsFirstHindered, IsReadFrom, IsRooted}
use Rattle.job_reader.specs.Accepted.{Accepts}
use Rattle.job_reader.proofs.ReadLemmas.{read_once}

-- a refusal that is handed on
pub accepts_error : (text : Written) (answer : Result Job JobError) (error : JobError) → IsErrAnd answer (λ e. e ≡ error) → (¬ (error ≡ NoMemory) → FirstFinds tests text error) → Accepts text answer
accepts_error text (Ok job) error same found = absurd same
accepts_error text (Err e) error same found =
    subst (λ e. ¬ (e ≡ NoMemory) → FirstFinds tests text e) (sym same) found

-- the sessions that were read are those that are written
pub read_sessions_of : (sessions : List WrittenSession) (found : List Session) → AreReadFrom sessions found → AreSessionsOf sessions found
read_sessions_of [] [] all = tt
read_sessions_of [] (session ∷ found) all = absurd all
read_sessions_of (first ∷ rest) [] all = absurd all
read_sessions_of (first ∷ rest) (session ∷ found) all = (all.0.same, read_sessions_of rest found all.1)

-- they are ready to be checked
ready_from : (places : List PlaceEntry) (sessions : List WrittenSession) (found : List Session) → AreReadFrom sessions found → ((index : ℕ) (session : WrittenSession) → slice_get sessions index ≡ Some session → IsRooted places session) → AreReady places found
ready_from places [] [] all rooted = tt
ready_from places [] (session ∷ found) all rooted = absurd all
ready_from places (first ∷ rest) [] all rooted = absurd all
ready_from places (first ∷ rest) (session ∷ found) all rooted = (
  record {
    rooted = subst (λ root. IsTrue (is_place places root)) (sym all.0.same.root) (rooted 0 first refl);
    sized = all.0.sized;
  },
  ready_from places rest found all.1 (λ index session is. rooted (suc index) session is),
)

within : {A : Type 0} (items : List A) (index : ℕ) (x : A) → slice_get items index ≡ Some x → index < length items
within [] index x is = absurd cc
within (y ∷ rest) zero x is = omega arith
within (y ∷ rest) (suc index) x is = let below = within rest index x is in omega arith

pub ready_sessions : (places : List PlaceEntry) (sessions : List WrittenSession) (found : List Session) → AreReadFrom sessions found → AreRooted places sessions → AreReady places found
ready_sessions places sessions found all rooted =
    ready_from places sessions found all (λ index session is. rooted index session (within sessions index session is) is)

-- a session that may be run is kept by nothing
unhindered : (places : List PlaceEntry) (session : Session) → IsRunnable places session → hindrance places session.root session.phrase ≡ None
unhindered places session runnable =
    ap (λ (broken : List (ℕ × PlaceKind)). hindrance_of broken (oversize_at session.phrase)) runnable.checked.placed
    ∙ ap (λ (over : Option ℕ). hindrance_of [] over) runnable.bounded.light

-- what is known of the session that is written holds of the one that is read
hindered_same : (places : List PlaceEntry) (written : WrittenSession) (session : Session) (what : Hindrance) → IsReadFrom written session → IsHinderedBy places what written → hindrance places session.root session.phrase ≡ Some what
hindered_same places written session what from (phrase, read, hindered) =
    let same : phrase ≡ session.phrase = read_once written.phrase phrase session.phrase read from.same.phrase in
    ap (λ (root : List ℕ). hindrance places root session.phrase) from.same.root
    ∙ ap (λ (p : Term). hindrance places written.root p) (sym same)
    ∙ hindered

hindered_written : (places : List PlaceEntry) (written : WrittenSession) (session : Session) (what : Hindrance) → IsReadFrom written session → hindrance places session.root session.phrase ≡ Some what → IsHinderedBy places what written
hindered_written places written session what from hindered = (
  session.phrase,
  from.same.phrase,
  ap (λ (root : List ℕ). hindrance places root session.phrase) (sym from.same.root) ∙ hindered,
)

none_is_some : {A : Type 0} (o : Option A) (x : A) → o ≡ None → o ≡ Some x → ⊥
none_is_some o x none some = cc

not_hindered : (places : List PlaceEntry) (written : WrittenSession) (session : Session) → IsReadFrom written session → IsRunnable places session → ¬ (IsHindered places written)
not_hindered places written session from runnable (what, by) =
    none_is_some (hindrance places session.root session.phrase) what (unhindered places session runnable) (hindered_same places written session what from by)

some_same : {A : Type 0} (x y : A) → Some x ≡ Some y → x ≡ y
some_same x y is = cc

-- none of the sessions in front is hindered
none_in_front : (places : List PlaceEntry) (sessions : List WrittenSession) (front rest : List Session) → AreReadFrom sessions (front ++ rest) → AreRunnable places front → (index : ℕ) → index < length front → ¬ (IsAt sessions (IsHindered places) index)
none_in_front places sessions [] rest all runnable index below at = absurd (omega arith)
none_in_front places [] (session ∷ front) rest all runnable index below at = absurd all
none_in_front places (first ∷ sessions) (session ∷ front) rest all runnable zero below (written, is, hindered) =
    not_hindered places written session (subst (λ w. IsReadFrom w session) (some_same first written is) all.0) runnable.0 hindered
none_in_front places (first ∷ sessions) (session ∷ front) rest all runnable (suc index) below at =
    none_in_front places sessions front rest all.1 runnable.1 index (omega arith) at

-- the session behind them
written_behind : (sessions : List WrittenSession) (front : List Session) (session : Session) (rest : List Session) → AreReadFrom sessions (front ++ session ∷ rest) → (written : WrittenSession) × (slice_get sessions (length front) ≡ Some written) × IsReadFrom written session
written_behind [] [] session rest all = absurd all
written_behind [] (other ∷ front) session rest all = absurd all
written_behind (first ∷ sessions) [] session rest all = (first, refl, all.0)
written_behind (first ∷ sessions) (other ∷ front) session rest all =
    written_behind sessions front session rest all.1

-- the first session that something keeps from being run
pub hindrance_found : (places : List PlaceEntry) (sessions : List WrittenSession) (found : List Session) (index : ℕ) (what : Hindrance) (error : JobError) → AreReadFrom sessions found → IsFirstHindered places found index what → error ≡ hindrance_error index what → FindsHindrance places sessions error
hindrance_found places sessions found index what error all first named =
    let here : AreReadFrom sessions (first.front ++ first.session ∷ first.rest) = subst (λ list. AreReadFrom sessions list) first.split all in
    let (written, at, from) = written_behind sessions first.front first.session first.rest here in
    let by : IsHinderedBy places what written = hindered_written places written first.session what from first.hindered in
    let there : slice_get sessions index ≡ Some written = subst (λ n. slice_get sessions n ≡ Some written) (sym first.numbered) at in (
      index,
      what,
      named,
      record {
        holds = (written, there, (what, by));
        least = λ earlier below. none_in_front places sessions first.front (first.session ∷ first.rest) here first.runnable earlier (subst (λ n. earlier < n) first.numbered below);
      },
      (written, there, by),
    )

nowhere : (places : List PlaceEntry) (sessions : List WrittenSession) (found : List Session) → AreReadFrom sessions found → AreRunnable places found → (index : ℕ) → ¬ (IsAt sessions (IsHindered places) index)
nowhere places [] found all runnable index (written, is, hindered) = absurd cc
nowhere places (first ∷ sessions) [] all runnable index at = absurd all
nowhere places (first ∷ sessions) (session ∷ found) all runnable zero (written, is, hindered) =
    not_hindered places written session (subst (λ w. IsReadFrom w session) (some_same first written is) all.0) runnable.0 hindered
nowhere places (first ∷ sessions) (session ∷ found) all runnable (suc index) at =
    nowhere places sessions found all.1 runnable.1 index at

-- nothing keeps one of these sessions from being run
pub no_hindrance : (places : List PlaceEntry) (sessions : List WrittenSession) (found : List Session) → AreReadFrom sessions found → AreRunnable places found → FindsNothing (FindsHindrance places sessions)
no_hindrance places sessions found all runnable error (index, what, named, least, at) =
    nowhere places sessions found all runnable index least.holds

pub read_count : (sessions : List WrittenSession) (found : List Session) → AreReadFrom sessions found → length found ≡ length sessions
read_count [] [] all = refl
read_count [] (session ∷ found) all = absurd all
read_count (first ∷ rest) [] all = absurd all
read_count (first ∷ rest) (session ∷ found) all = ap (λ n. suc n) (read_count rest found all.1)

-- the first four tests find nothing
pub record PassesFour (text : Written) (places : List PlaceEntry) : Type 0 where
  pub same : places ≡ text.places
  pub one_place : FindsNothing (FindsTwoPlaces text.places)
  pub one_artefact : FindsNothing (FindsTwoArtefacts text.artefacts)
  pub one_reference : FindsNothing (FindsTwoReferences text.references)
  pub rooted : FindsNothing (FindsBadRoot places text.sessions)

roots_of : (text : Written) (places : List PlaceEntry) → PassesFour text places → FindsNothing (FindsBadRoot text.places text.sessions)
roots_of text places four =
    subst (λ list. FindsNothing (FindsBadRoot list text.sessions)) four.same four.rooted

-- what the fifth, the sixth and the seventh find
pub fifth_finds : (text : Written) (places : List PlaceEntry) (error : JobError) → PassesFour text places → FindsTwoNonces text.sessions error → FirstFinds tests text error
fifth_finds text places error four found =
    inr (four.one_place, inr (four.one_artefact, inr (four.one_reference, inr (roots_of text places four, inl found))))

pub sixth_finds : (text : Written) (places : List PlaceEntry) (error : JobError) → PassesFour text places → FindsNothing (FindsTwoNonces text.sessions) → FindsBadPhrase text.sessions error → FirstFinds tests text error
sixth_finds text places error four nonces found =
    inr (four.one_place, inr (four.one_artefact, inr (four.one_reference, inr (roots_of text places four, inr (nonces, inl found)))))

pub seventh_finds : (text : Written) (places : List PlaceEntry) (error : JobError) → PassesFour text places → FindsNothing (FindsTwoNonces text.sessions) → FindsNothing (FindsBadPhrase text.sessions) → FindsHindrance places text.sessions error → FirstFinds tests text error
seventh_finds text places error four nonces phrases found =
    let here : FindsHindrance text.places text.sessions error = subst (λ list. FindsHindrance list text.sessions error) four.same found in
    inr (four.one_place, inr (four.one_artefact, inr (four.one_reference, inr (roots_of text places four, inr (nonces, inr (phrases, inl here))))))

pub none_finds : (text : Written) (places : List PlaceEntry) → PassesFour text places → FindsNothing (FindsTwoNonces text.sessions) → FindsNothing (FindsBadPhrase text.sessions) → FindsNothing (FindsHindrance places text.sessions) → NoneFinds tests text
none_finds text places four nonces phrases unhindered =
    let here : FindsNothing (FindsHindrance text.places text.sessions) = subst (λ list. FindsNothing (FindsHindrance list text.sessions)) four.same unhindered in
    (four.one_place, (four.one_artefact, (four.one_reference, (roots_of text places four, (nonces, (phrases, (here, tt)))))))
