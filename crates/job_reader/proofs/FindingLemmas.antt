-- Bytes have one finding.
use Rattle.std.proofs.Common.{◌≡◌, ◌<◌, ◌⊎◌, ℕ, Bool, List, [], ◌∷◌, refl, sym, ap, ◌∙◌, subst, arith, Option, None, Some, Ok, slice_get, inl, inr}
use Rattle.std.proofs.lemmas.Bool.{cases_lt, cases_eq}
use Rattle.serde_json.specs.Data.{Data}
use Rattle.serde_json.specs.Read.{read as read_text}
use Rattle.phrase_tree.specs.Term.{Term}
use Rattle.phrase_reader.specs.Refusal.{IsRefusal}
use Rattle.session_model.specs.Session.{Session}
use Rattle.place_check.specs.declared.entry.PlaceEntry.{PlaceEntry}
use Rattle.job_reader.specs.declared.refusal.JobError.{JobError}
use Rattle.job_reader.specs.declared.refusal.JobError.TheVariants.{NotJson, BadJob, RepeatedPlace, RepeatedArtefact, RepeatedReference, BadRoot, RepeatedNonce, BadPhrase, Misplaced, Oversize, NoMemory}
use Rattle.std.specs.Result.{result_err}
use Rattle.job_reader.specs.Faults.{first, job_faults}
use Rattle.job_reader.proofs.FaultLemmas.{first_fault}
use Rattle.job_reader.specs.Form.{Fault, Written, WrittenSession, written_in}
use Rattle.phrase_tree.specs.Repeats.{IsFirstRepeat}
use Rattle.job_reader.specs.Whole.{AreSessionsOf, Finds, FirstFinds, Hindrance, hindrance, hindrance_error, misplaced, oversize, IsHinderedBy, IsLeast, IsSessionOf, NoneFinds, Test, two_places, two_artefacts, two_references, bad_root, two_nonces, bad_phrase, hindrances, tests}
use Rattle.job_reader.specs.Finding.{accepted, Finding, HasFault, IsAccepted, IsFinding, IsJobOf, IsNoJson, IsRefusedFor, IsTreeOf, IsWritten, JobView, refused}
use Rattle.job_reader.proofs.ReadLemmas.{read_once}
use Rattle.job_reader.proofs.RefusalLemmas.{refused_once}

some_same : {A : Type 0} (x y : A) → Some x ≡ Some y → x ≡ y
some_same x y is = cc

none_is_some : {A : Type 0} (o : Option A) (x : A) → o ≡ None → o ≡ Some x → ⊥
none_is_some o x none some = cc

-- two numbers, neither of which is below the other, are one
level : (one two : ℕ) → (one < two → ⊥) → (two < one → ⊥) → one ≡ two
level one two not_below not_above =
    elim (cases_eq one two) [ inl same ↦ same | inr other ↦ elim (cases_lt one two) [ inl below ↦ absurd (not_below below) | inr above ↦ absurd (not_above (omega arith)) ] ]

least_once : (Holds : ℕ → Type 0) (one two : ℕ) → IsLeast Holds one → IsLeast Holds two → one ≡ two
least_once Holds one two first second =
    level one two (λ below. second.least one below first.holds) (λ below. first.least two below second.holds)

repeat_once : (repeats : ℕ → Option ℕ) (first second f s : ℕ) → IsFirstRepeat repeats first second → IsFirstRepeat repeats f s → (first ≡ f) × (second ≡ s)
repeat_once repeats first second f s one two =
    let same : second ≡ s =
    level second s (λ below. none_is_some (repeats second) first (two.least second below) one.repeated) (λ below. none_is_some (repeats s) f (one.least s below) two.repeated)
    in
    let again : repeats second ≡ Some f = subst (λ n. repeats n ≡ Some f) (sym same) two.repeated in
    (some_same first f (sym one.repeated ∙ again), same)

-- the session at an index is one
session_once : (sessions : List WrittenSession) (index at : ℕ) (one two : WrittenSession) → slice_get sessions index ≡ Some one → slice_get sessions at ≡ Some two → index ≡ at → two ≡ one
session_once sessions index at one two is other same =
    let here : slice_get sessions index ≡ Some two = subst (λ n. slice_get sessions n ≡ Some two) (sym same) other in
    some_same two one (sym here ∙ is)

hindered_once : (places : List PlaceEntry) (session : WrittenSession) (what other : Hindrance) → IsHinderedBy places what session → IsHinderedBy places other session → what ≡ other
hindered_once places session what other (phrase, read, by) (p, r, b) =
    let same : p ≡ phrase = read_once session.phrase p phrase r read in
    let again : hindrance places session.root phrase ≡ Some other = subst (λ (t : Term). hindrance places session.root t ≡ Some other) same b in
    some_same what other (sym by ∙ again)

-- a test finds one thing
finds_once : (test : Test) (job : Written) (one two : JobError) → Finds test job one → Finds test job two → one ≡ two
finds_once two_places job one two (first, second, is, found) (f, s, named, other) =
    let same = repeat_once _ first second f s found other in is ∙ (ap (λ n. RepeatedPlace n second) same.0 ∙ ap (λ n. RepeatedPlace f n) same.1) ∙ sym named
finds_once two_artefacts job one two (first, second, is, found) (f, s, named, other) =
    let same = repeat_once _ first second f s found other in is ∙ (ap (λ n. RepeatedArtefact n second) same.0 ∙ ap (λ n. RepeatedArtefact f n) same.1) ∙ sym named
finds_once two_references job one two (first, second, is, found) (f, s, named, other) =
    let same = repeat_once _ first second f s found other in is ∙ (ap (λ n. RepeatedReference n second) same.0 ∙ ap (λ n. RepeatedReference f n) same.1) ∙ sym named
finds_once bad_root job one two (session, is, found) (s, named, other) =
    is ∙ ap (λ n. BadRoot n) (least_once _ session s found other) ∙ sym named
finds_once two_nonces job one two (first, second, is, found) (f, s, named, other) =
    let same = repeat_once _ first second f s found other in is ∙ (ap (λ n. RepeatedNonce n second) same.0 ∙ ap (λ n. RepeatedNonce f n) same.1) ∙ sym named
finds_once bad_phrase job one two (session, place, kind, is, least, (written, at, refusal)) (s, p, k, named, lowest, (again, there, other)) =
    let index = least_once _ session s least lowest in
    let one_session = session_once job.sessions session s written again at there index in
    let same = refused_once written.phrase place p kind k refusal (subst (λ (w : WrittenSession). IsRefusal w.phrase p k) one_session other) in
    is ∙ (ap (λ n. BadPhrase n place kind) index ∙ (ap (λ n. BadPhrase s n kind) same.0 ∙ ap (λ n. BadPhrase s p n) same.1)) ∙ sym named
finds_once hindrances job one two (session, what, is, least, (written, at, by)) (s, other, named, lowest, (again, there, b)) =
    let index = least_once _ session s least lowest in
    let one_session = session_once job.sessions session s written again at there index in
    let same = hindered_once job.places written what other by (subst (λ (w : WrittenSession). IsHinderedBy job.places other w) one_session b) in
    is ∙ (ap (λ n. hindrance_error n what) index ∙ ap (λ w. hindrance_error s w) same) ∙ sym named

first_once : (list : List Test) (job : Written) (one two : JobError) → FirstFinds list job one → FirstFinds list job two → one ≡ two
first_once [] job one two a b = absurd a
first_once (test ∷ rest) job one two (inl a) (inl b) = finds_once test job one two a b
first_once (test ∷ rest) job one two (inl a) (inr b) = absurd (b.0 one a)
first_once (test ∷ rest) job one two (inr a) (inl b) = absurd (a.0 two b)
first_once (test ∷ rest) job one two (inr a) (inr b) = first_once rest job one two a.1 b.1

first_or_none : (list : List Test) (job : Written) (error : JobError) → FirstFinds list job error → NoneFinds list job → ⊥
first_or_none [] job error found none = found
first_or_none (test ∷ rest) job error (inl found) none = none.0 error found
first_or_none (test ∷ rest) job error (inr found) none = first_or_none rest job error found.1 none.1

-- the sessions that are written are those of one job
session_same : (written : WrittenSession) (one two : Session) → IsSessionOf written one → IsSessionOf written two → one ≡ two
session_same written one two a b =
    let phrase = read_once written.phrase one.phrase two.phrase a.phrase b.phrase in
    let root : one.root ≡ two.root = a.root ∙ sym b.root in
    let bytes : one.nonce ≡ two.nonce = a.same_nonce ∙ sym b.same_nonce in
    λ i. record { root = root i; nonce = bytes i; phrase = phrase i }

sessions_once : (sessions : List WrittenSession) (one two : List Session) → AreSessionsOf sessions one → AreSessionsOf sessions two → one ≡ two
sessions_once [] [] [] a b = refl
sessions_once [] [] (session ∷ two) a b = absurd b
sessions_once [] (session ∷ one) two a b = absurd a
sessions_once (first ∷ rest) [] two a b = absurd a
sessions_once (first ∷ rest) (session ∷ one) [] a b = absurd b
sessions_once (first ∷ rest) (session ∷ one) (other ∷ two) a b =
    ap (λ (s : Session). s ∷ one) (session_same first session other a.0 b.0)
    ∙ ap (λ (list : List Session). other ∷ list) (sessions_once rest one two a.1 b.1)

job_once : (text : Written) (one two : JobView) → IsJobOf text one → IsJobOf text two → one ≡ two
job_once text one two a b =
    let places = a.places ∙ sym b.places in
    let artefacts = a.artefacts ∙ sym b.artefacts in
    let sessions = sessions_once text.sessions one.sessions two.sessions a.sessions b.sessions in
    let references = a.references ∙ sym b.references in
    let bundle = a.bundle ∙ sym b.bundle in
    λ i. record {
      places = places i;
      artefacts = artefacts i;
      sessions = sessions i;
      references = references i;
      bundle = bundle i;
    }

-- what a refusal says, whichever it is
IsRefusedSo : List ℕ → Bool → JobError → Type 0
IsRefusedSo bytes appraise error =
    ((error ≡ NotJson) × IsNoJson bytes) ⊎ (((fault : Fault) × (error ≡ BadJob fault.at fault.kind) × HasFault bytes appraise fault) ⊎ IsRefusedFor bytes appraise error)

refused_so : (bytes : List ℕ) (appraise : Bool) (error : JobError) → IsFinding bytes appraise (refused error) → IsRefusedSo bytes appraise error
unfolding IsRefusedSo
refused_so bytes appraise NotJson is = inl (refl, is)
refused_so bytes appraise (BadJob at kind) is = inr (inl (record { at = at; kind = kind }, refl, is))
refused_so bytes appraise (RepeatedPlace first second) is = inr (inr is)
refused_so bytes appraise (RepeatedArtefact first second) is = inr (inr is)
refused_so bytes appraise (RepeatedReference first second) is = inr (inr is)
refused_so bytes appraise (BadRoot session) is = inr (inr is)
refused_so bytes appraise (RepeatedNonce first second) is = inr (inr is)
refused_so bytes appraise (BadPhrase session place kind) is = inr (inr is)
refused_so bytes appraise (Misplaced session event kind) is = inr (inr is)
refused_so bytes appraise (Oversize session event) is = inr (inr is)
refused_so bytes appraise NoMemory is = absurd is

one_tree : (bytes : List ℕ) (tree other : Data) → IsTreeOf bytes tree → IsTreeOf bytes other → other ≡ tree
one_tree bytes tree other one two = some_same other tree (sym two.read ∙ one.read)

no_tree : (bytes : List ℕ) (tree : Data) → IsNoJson bytes → IsTreeOf bytes tree → ⊥
no_tree bytes tree none is = none_is_some (read_text bytes) tree (none is.utf8) is.read

one_fault : (bytes : List ℕ) (appraise : Bool) (fault other : Fault) → HasFault bytes appraise fault → HasFault bytes appraise other → fault ≡ other
one_fault bytes appraise fault other one two =
    let same = one_tree bytes one.tree two.tree one.of_bytes two.of_bytes in
    let again : first (job_faults appraise one.tree) ≡ Some other = subst (λ (tree : Data). first (job_faults appraise tree) ≡ Some other) same two.faulty in
    let faulty = one.faulty in
    cc

no_fault : (bytes : List ℕ) (appraise : Bool) (fault : Fault) (job : Written) → HasFault bytes appraise fault → IsWritten bytes appraise job → ⊥
no_fault bytes appraise fault job one two =
    let same = one_tree bytes one.tree two.tree one.of_bytes two.of_bytes in
    let again : written_in appraise one.tree ≡ Ok job = subst (λ (tree : Data). written_in appraise tree ≡ Ok job) same two.formed in
    none_is_some (first (job_faults appraise one.tree)) fault (first_fault appraise one.tree ∙ ap result_err again) one.faulty

one_written : (bytes : List ℕ) (appraise : Bool) (job other : Written) → IsWritten bytes appraise job → IsWritten bytes appraise other → other ≡ job
one_written bytes appraise job other one two =
    let same = one_tree bytes one.tree two.tree one.of_bytes two.of_bytes in
    let again : written_in appraise one.tree ≡ Ok other = subst (λ (tree : Data). written_in appraise tree ≡ Ok other) same two.formed in
    let formed = one.formed in
    cc

refused_for_once : (bytes : List ℕ) (appraise : Bool) (one two : JobError) → IsRefusedFor bytes appraise one → IsRefusedFor bytes appraise two → one ≡ two
refused_for_once bytes appraise one two a b =
    let same = one_written bytes appraise a.job b.job a.written b.written in
    first_once tests a.job one two a.found (subst (λ (job : Written). FirstFinds tests job two) same b.found)

refused_so_once : (bytes : List ℕ) (appraise : Bool) (one two : JobError) → IsRefusedSo bytes appraise one → IsRefusedSo bytes appraise two → one ≡ two
unfolding IsRefusedSo
refused_so_once bytes appraise one two (inl (is, none)) (inl (named, nothing)) = is ∙ sym named
refused_so_once bytes appraise one two (inl (is, none)) (inr (inl (fault, named, b))) =
    absurd (no_tree bytes b.tree none b.of_bytes)
refused_so_once bytes appraise one two (inl (is, none)) (inr (inr b)) =
    absurd (no_tree bytes b.written.tree none b.written.of_bytes)
refused_so_once bytes appraise one two (inr (inl (fault, is, a))) (inl (named, nothing)) =
    absurd (no_tree bytes a.tree nothing a.of_bytes)
refused_so_once bytes appraise one two (inr (inl (fault, is, a))) (inr (inl (other, named, b))) =
    is ∙ ap (λ (f : Fault). BadJob f.at f.kind) (one_fault bytes appraise fault other a b) ∙ sym named
refused_so_once bytes appraise one two (inr (inl (fault, is, a))) (inr (inr b)) =
    absurd (no_fault bytes appraise fault b.job a b.written)
refused_so_once bytes appraise one two (inr (inr a)) (inl (named, nothing)) =
    absurd (no_tree bytes a.written.tree nothing a.written.of_bytes)
refused_so_once bytes appraise one two (inr (inr a)) (inr (inl (fault, named, b))) =
    absurd (no_fault bytes appraise fault a.job b a.written)
refused_so_once bytes appraise one two (inr (inr a)) (inr (inr b)) = refused_for_once bytes appraise one two a b

accepted_once : (bytes : List ℕ) (appraise : Bool) (one two : JobView) → IsAccepted bytes appraise one → IsAccepted bytes appraise two → one ≡ two
accepted_once bytes appraise one two a b =
    let same = one_written bytes appraise a.text b.text a.written b.written in
    job_once a.text one two a.whole (subst (λ (text : Written). IsJobOf text two) same b.whole)

accepted_or_refused : (bytes : List ℕ) (appraise : Bool) (job : JobView) (error : JobError) → IsAccepted bytes appraise job → IsRefusedSo bytes appraise error → ⊥
unfolding IsRefusedSo
accepted_or_refused bytes appraise job error a (inl (named, nothing)) =
    no_tree bytes a.written.tree nothing a.written.of_bytes
accepted_or_refused bytes appraise job error a (inr (inl (fault, named, b))) =
    no_fault bytes appraise fault a.text b a.written
accepted_or_refused bytes appraise job error a (inr (inr b)) =
    let same = one_written bytes appraise a.text b.job a.written b.written in
    first_or_none tests a.text error (subst (λ (text : Written). FirstFinds tests text error) same b.found) a.whole.passed

-- two findings of the same bytes are one
pub finding_once : (bytes : List ℕ) (appraise : Bool) (one two : Finding) → IsFinding bytes appraise one → IsFinding bytes appraise two → one ≡ two
finding_once bytes appraise (accepted job) (accepted other) a b =
    ap (λ j. accepted j) (accepted_once bytes appraise job other a b)
finding_once bytes appraise (accepted job) (refused error) a b =
    absurd (accepted_or_refused bytes appraise job error a (refused_so bytes appraise error b))
finding_once bytes appraise (refused error) (accepted job) a b =
    absurd (accepted_or_refused bytes appraise job error b (refused_so bytes appraise error a))
finding_once bytes appraise (refused error) (refused other) a b =
    ap (λ e. refused e) (refused_so_once bytes appraise error other (refused_so bytes appraise error a) (refused_so bytes appraise other b))

-- the errors that a test over the whole job may find
abbrev IsOfTest : JobError → Type 0
IsOfTest NotJson = ⊥
IsOfTest (BadJob at kind) = ⊥
IsOfTest NoMemory = ⊥
IsOfTest _ = Unit {0}

hindrance_of_test : (session : ℕ) (what : Hindrance) → IsOfTest (hindrance_error session what)
hindrance_of_test session (misplaced event kind) = tt
hindrance_of_test session (oversize event) = tt

finds_of_test : (test : Test) (job : Written) (error : JobError) → Finds test job error → IsOfTest error
finds_of_test two_places job error (first, second, is, found) = subst IsOfTest (sym is) tt
finds_of_test two_artefacts job error (first, second, is, found) = subst IsOfTest (sym is) tt
finds_of_test two_references job error (first, second, is, found) = subst IsOfTest (sym is) tt
finds_of_test bad_root job error (session, is, found) = subst IsOfTest (sym is) tt
finds_of_test two_nonces job error (first, second, is, found) = subst IsOfTest (sym is) tt
finds_of_test bad_phrase job error (session, place, kind, is, least, at) = subst IsOfTest (sym is) tt
finds_of_test hindrances job error (session, what, is, least, at) =
    subst IsOfTest (sym is) (hindrance_of_test session what)

first_of_test : (list : List Test) (job : Written) (error : JobError) → FirstFinds list job error → IsOfTest error
first_of_test [] job error found = absurd found
first_of_test (test ∷ rest) job error (inl found) = finds_of_test test job error found
first_of_test (test ∷ rest) job error (inr found) = first_of_test rest job error found.1

-- a job that a test refuses has that finding
pub refused_finding : (bytes : List ℕ) (appraise : Bool) (error : JobError) → IsRefusedFor bytes appraise error → IsFinding bytes appraise (refused error)
refused_finding bytes appraise NotJson is = absurd (first_of_test tests is.job NotJson is.found)
refused_finding bytes appraise (BadJob at kind) is = absurd (first_of_test tests is.job (BadJob at kind) is.found)
refused_finding bytes appraise (RepeatedPlace first second) is = is
refused_finding bytes appraise (RepeatedArtefact first second) is = is
refused_finding bytes appraise (RepeatedReference first second) is = is
refused_finding bytes appraise (BadRoot session) is = is
refused_finding bytes appraise (RepeatedNonce first second) is = is
refused_finding bytes appraise (BadPhrase session place kind) is = is
refused_finding bytes appraise (Misplaced session event kind) is = is
refused_finding bytes appraise (Oversize session event) is = is
refused_finding bytes appraise NoMemory is = absurd (first_of_test tests is.job NoMemory is.found)
