-- What is said of the transcript that a job has as its bundle is one, where the bench gives one result at each of its
-- questions.
use Rattle.std.proofs.Common.{◌≡◌, ◌∙◌, ◌++◌, ◌<◌, ◌+◌, ℕ, suc, length, arith, List, [], ◌∷◌, Option, None, Some, Result, Ok, Err, ap, inl, inr, refl, sym, subst}
use Rattle.std.specs.Prelude.{◌≢◌, ◌⊎◌, MatchResult}
use Rattle.bench_trait.specs.declared.ask.Ask.{Ask}
use Rattle.bench_trait.specs.declared.bench.BenchFault.{BenchFault}
use Rattle.bench_trait.specs.Asking.{question_among}
use Rattle.place_check.specs.Places.{keys_of}
use Rattle.session_model.specs.Record.{Record as Meant, is_failed}
use Rattle.session_model.specs.Recorded.{recorded}
use Rattle.session_model.specs.Session.{Session, session_questions}
use Rattle.session_model.specs.declared.record.Record.{Record}
use Rattle.session_runs.specs.Standing.{Entry, opened, played, answered, failed, starved, Standing, opening}
use Rattle.session_runs.specs.History.{AreResults, IsLegal, IsResult, record_of, standing_after}
use Rattle.job_reader.specs.Finding.{JobView}
use Rattle.transcript.specs.Audit.{AllowOnly, Extent, IsAudit, IsCause, IsFinishedText, IsGiven, IsUnlessMemory, IsUnlike, Reaches, Settles, ends, extent, first_fault, result_in, stops_at}
use Rattle.transcript.specs.Bytes.{IsTranscriptOf}
use Rattle.transcript.specs.declared.auditing.AuditError.{AuditError}
use Rattle.transcript.specs.declared.auditing.AuditError.TheVariants as audits
use Rattle.transcript.specs.declared.fault.TranscriptKind.{TranscriptKind}
use Rattle.transcript.proofs.AuditLemmas.{accepted_is, no_fault, settles}
use Rattle.transcript.proofs.EntryLemmas.{transcript_again}
use Rattle.transcript.proofs.LawLemmas.{one_history}
use Rattle.report_text.specs.Records.{record_text}
use Rattle.report_text.specs.declared.refusal.Refusal.{Refusal}
use Rattle.report_text.specs.declared.refusal.Refusal.TheVariants.{Transcript, NoMemory}
use Rattle.copland_cli.specs.Appraised.{IsOffered, Offer}
use Rattle.copland_cli.specs.Audited.{GivesOneEach, HasNoAudit, IsAuditOf, IsAuditRefusal, IsOfAudit, IsSureTranscript, IsUnaccepted, SaysRecord}
use Rattle.copland_cli.specs.Meaning.{IsOfMeaning}
use Rattle.copland_cli.specs.Offered.{StarvedOr}
use Rattle.copland_cli.specs.Reported.{Failing, Giving, Starving, ending_of}
use Rattle.copland_cli.specs.declared.ending.Ending.{Ending}
use Rattle.copland_cli.specs.declared.outcome.Report.{Report}
use Rattle.copland_cli.proofs.AppraiseLemmas.{offers_same}

some_is : (A : Type 0) (x y : A) → ◌≡◌ {A = Option A} (Some x) (Some y) → x ≡ y
some_is A x y e = cc

none_says : (event : ℕ) (result : Result (List ℕ) BenchFault) → ◌≡◌ {A = Option (ℕ × Result (List ℕ) BenchFault)} None (Some (event, result)) → ⊥
none_says event result e = cc

-- ---- where two entries of one list stand

-- the one stands behind the other, or ahead of it, or is the other
abbrev Stand : List Entry → List Entry → Entry → Entry → Type 0
Stand a c x y =
    ((b : List Entry) × (c ≡ a ++ x ∷ b)) ⊎ (((b : List Entry) × (a ≡ c ++ y ∷ b)) ⊎ ((a ≡ c) × (x ≡ y)))

head_same : (x y : Entry) (a c : List Entry) → x ∷ a ≡ y ∷ c → x ≡ y
head_same x y a c e = cc

rest_same : (x y : Entry) (a c : List Entry) → x ∷ a ≡ y ∷ c → a ≡ c
rest_same x y a c e = cc

longer : (h k : Entry) (a c : List Entry) (x y : Entry) → h ≡ k → Stand a c x y → Stand (h ∷ a) (k ∷ c) x y
longer h k a c x y same (inl s) = inl (s.0, ap (λ (e : Entry). e ∷ c) (sym same) ∙ ap (λ (l : List Entry). h ∷ l) s.1)
longer h k a c x y same (inr (inl s)) = inr (inl (s.0, ap (λ (e : Entry). e ∷ a) same ∙ ap (λ (l : List Entry). k ∷ l) s.1))
longer h k a c x y same (inr (inr s)) = inr (inr (ap (λ (e : Entry). e ∷ a) same ∙ ap (λ (l : List Entry). k ∷ l) s.0, s.1))

stand : (a c : List Entry) (x y : Entry) (b d : List Entry) → a ++ x ∷ b ≡ c ++ y ∷ d → Stand a c x y
stand [] [] x y b d e = inr (inr (refl, head_same x y b d e))
stand [] (k ∷ c) x y b d e = inl (c, ap (λ (o : Entry). o ∷ c) (sym (head_same x k b (c ++ y ∷ d) e)))
stand (h ∷ a) [] x y b d e = inr (inl (a, ap (λ (o : Entry). o ∷ a) (head_same h y (a ++ x ∷ b) d e)))
stand (h ∷ a) (k ∷ c) x y b d e =
    longer h k a c x y (head_same h k (a ++ x ∷ b) (c ++ y ∷ d) e) (stand a c x y b d (rest_same h k (a ++ x ∷ b) (c ++ y ∷ d) e))

-- ---- over the entries of one transcript

module _ (Gives : Ask → List ℕ → Type 0) (Fails : Ask → BenchFault → Type 0) (Starves : Ask → Type 0) (session : Session) (keys : List (List ℕ × List ℕ)) (entries : List Entry) (sure : GivesOneEach Gives Fails (session_questions session) entries) where
  -- the result that an entry says was given
  given_of : (one : Entry) (event : ℕ) (result : Result (List ℕ) BenchFault) (ask : Ask) → IsResult Gives Fails Starves (session_questions session) one → result_in one ≡ Some (event, result) → question_among (session_questions session) event ≡ Some ask → IsGiven (Gives ask) (Fails ask) result
  given_of opened event result ask h says asked = absurd (none_says event result says)
  given_of (played pass move) event result ask h says asked = absurd (none_says event result says)
  given_of (answered pass number bytes) event result ask h says asked =
      let same = some_is (ℕ × Result (List ℕ) BenchFault) (number, Ok bytes) (event, result) says in
      let own : h.0 ≡ ask = some_is Ask h.0 ask (sym h.1 ∙ ap (question_among (session_questions session)) (ap (λ (p : ℕ × Result (List ℕ) BenchFault). p.0) same) ∙ asked) in
      subst (λ (r : Result (List ℕ) BenchFault). IsGiven (Gives ask) (Fails ask) r) (ap (λ (p : ℕ × Result (List ℕ) BenchFault). p.1) same)
      (subst (λ (a : Ask). IsGiven (Gives a) (Fails a) (Ok bytes)) own h.2)
  given_of (failed pass number fault) event result ask h says asked =
      let same = some_is (ℕ × Result (List ℕ) BenchFault) (number, Err fault) (event, result) says in
      let own : h.0 ≡ ask = some_is Ask h.0 ask (sym h.1 ∙ ap (question_among (session_questions session)) (ap (λ (p : ℕ × Result (List ℕ) BenchFault). p.0) same) ∙ asked) in
      subst (λ (r : Result (List ℕ) BenchFault). IsGiven (Gives ask) (Fails ask) r) (ap (λ (p : ℕ × Result (List ℕ) BenchFault). p.1) same)
      (subst (λ (a : Ask). IsGiven (Gives a) (Fails a) (Err fault)) own h.2)
  given_of (starved pass number) event result ask h says asked = absurd (none_says event result says)

  result_at : (ahead : List Entry) (one : Entry) (behind : List Entry) → AreResults Gives Fails Starves (session_questions session) (ahead ++ one ∷ behind) → IsResult Gives Fails Starves (session_questions session) one
  result_at [] one behind h = h.0
  result_at (first ∷ ahead) one behind h = result_at ahead one behind h.1

  -- a bench doesn't give another result than one that it gave
  not_unlike : (index : ℕ) (one : Entry) (s : Standing) (got : Result (List ℕ) BenchFault) → Reaches Gives Fails Starves session keys entries index one s → IsUnlike Gives Fails session keys s one got → IsResult Gives Fails Starves (session_questions session) one → ⊥
  not_unlike index one s got r u h =
      u.other (sure r.ahead r.behind one u.event u.result got u.result u.ask r.parts u.says u.asked u.given (given_of one u.event u.result u.ask h u.says u.asked))

  -- an entry that another result was given for isn't among those of a legal history
  not_among : (index : ℕ) (one : Entry) (s : Standing) (got : Result (List ℕ) BenchFault) (all behind : List Entry) → (r : Reaches Gives Fails Starves session keys entries index one s) → IsUnlike Gives Fails session keys s one got → all ≡ r.ahead ++ one ∷ behind → AreResults Gives Fails Starves (session_questions session) all → ⊥
  not_among index one s got all behind r u same h =
      not_unlike index one s got r u (result_at r.ahead one behind (subst (λ (l : List Entry). AreResults Gives Fails Starves (session_questions session) l) same h))

  allow_from : (ahead rest : List Entry) → entries ≡ ahead ++ rest → AreResults Gives Fails Starves (session_questions session) rest → AllowOnly Gives Fails (session_questions session) rest
  allow_from ahead [] parts h = tt
  allow_from ahead (one ∷ rest) parts h = (
    (λ event result got ask says asked given. sure ahead rest one event result got result ask parts says asked given (given_of one event result ask h.0 says asked)),
    allow_from (ahead ++ one ∷ []) rest (parts ∙ one_by_one ahead one rest) h.1,
  )
    where
      one_by_one : (xs : List Entry) (x : Entry) (ys : List Entry) → xs ++ x ∷ ys ≡ (xs ++ x ∷ []) ++ ys
      one_by_one [] x ys = refl
      one_by_one (first ∷ xs) x ys = ap (λ (l : List Entry). first ∷ l) (one_by_one xs x ys)

  -- ---- one error

  one_index : (x : Extent) (i j : ℕ) → Settles session x (Err (audits.Illegal i)) → Settles session x (Err (audits.Illegal j)) → i ≡ j
  one_index (stops_at index) i j h k = h ∙ sym k
  one_index (ends s) i j h k = absurd h

  not_open : (x : Extent) (i : ℕ) → Settles session x (Err (audits.Illegal i)) → Settles session x (Err audits.Unfinished) → ⊥
  not_open (stops_at index) i h k = k
  not_open (ends s) i h k = h

  abbrev so_far : Extent
  so_far = extent session keys 0 entries (opening session)

  settled : (error : AuditError) → IsCause Gives Fails Starves session keys entries error → Settles session so_far (Err error)
  settled error h = settles session keys Gives Fails Starves entries (Err error) h

  -- an entry that can't come next stands behind no other that another result was given for
  illegal_alone : (index : ℕ) (one : Entry) (s : Standing) (got : Result (List ℕ) BenchFault) (at : ℕ) (other : Entry) (t : Standing) → (r : Reaches Gives Fails Starves session keys entries index one s) → IsUnlike Gives Fails session keys s one got → (q : Reaches Gives Fails Starves session keys entries at other t) → Settles session so_far (Err (audits.Illegal at)) → Settles session so_far (Err (audits.Differs index got)) → ⊥
  illegal_alone index one s got at other t r u q h k =
      by_stand (stand r.ahead q.ahead one other r.behind q.behind (sym r.parts ∙ q.parts))
    where
      below : (x : Extent) → Settles session x (Err (audits.Illegal at)) → Settles session x (Err (audits.Differs index got)) → index < at
      below (stops_at place) f g = omega (arith, f, g)
      below (ends place) f g = absurd f

      size : (xs ys : List Entry) (y : Entry) → length (xs ++ y ∷ ys) ≡ length xs + suc (length ys)
      size [] ys y = omega arith
      size (x ∷ xs) ys y = omega (arith, size xs ys y)

      by_stand : Stand r.ahead q.ahead one other → ⊥
      by_stand (inl e) = not_among index one s got q.ahead e.0 r u e.1 q.legal.results.1
      by_stand (inr (inl e)) =
          let less = below so_far h k in
          let sized : length r.ahead ≡ length q.ahead + suc (length e.0) = ap (λ (l : List Entry). length l) e.1 ∙ size q.ahead e.0 other in
          omega (arith, less, sized, r.at, q.at)
      by_stand (inr (inr e)) =
          let less = below so_far h k in
          let sized : length r.ahead ≡ length q.ahead = ap (λ (l : List Entry). length l) e.0 in
          omega (arith, less, sized, r.at, q.at)

  not_unfinished : (index : ℕ) (one : Entry) (s : Standing) (got : Result (List ℕ) BenchFault) (t : Standing) → (r : Reaches Gives Fails Starves session keys entries index one s) → IsUnlike Gives Fails session keys s one got → IsLegal Gives Fails Starves session keys (opened ∷ entries) t → ⊥
  not_unfinished index one s got t r u l = not_among index one s got entries r.behind r u r.parts l.results.1

  differing : (i j : ℕ) (got again : Result (List ℕ) BenchFault) → i ≡ j → got ≡ again → ◌≡◌ {A = AuditError} (audits.Differs i got) (audits.Differs j again)
  differing i j got again e f = cc

  one_difference : (i j : ℕ) (one other : Entry) (s t : Standing) (got again : Result (List ℕ) BenchFault) → (r : Reaches Gives Fails Starves session keys entries i one s) → IsUnlike Gives Fails session keys s one got → (q : Reaches Gives Fails Starves session keys entries j other t) → IsUnlike Gives Fails session keys t other again → ◌≡◌ {A = AuditError} (audits.Differs i got) (audits.Differs j again)
  one_difference i j one other s t got again r u q v =
      by_stand (stand r.ahead q.ahead one other r.behind q.behind (sym r.parts ∙ q.parts))
    where
      same_got : one ≡ other → got ≡ again
      same_got e =
          let says : ◌≡◌ {A = Option (ℕ × Result (List ℕ) BenchFault)} (Some (u.event, u.result)) (Some (v.event, v.result)) = sym u.says ∙ ap (λ (x : Entry). result_in x) e ∙ v.says in
          let event : u.event ≡ v.event = ap (λ (p : ℕ × Result (List ℕ) BenchFault). p.0) (some_is (ℕ × Result (List ℕ) BenchFault) (u.event, u.result) (v.event, v.result) says) in
          let ask : v.ask ≡ u.ask = some_is Ask v.ask u.ask (sym v.asked ∙ ap (question_among (session_questions session)) (sym event) ∙ u.asked) in
          sure r.ahead r.behind one u.event u.result got again u.ask r.parts u.says u.asked u.given (subst (λ (a : Ask). IsGiven (Gives a) (Fails a) again) ask v.given)

      by_stand : Stand r.ahead q.ahead one other → ◌≡◌ {A = AuditError} (audits.Differs i got) (audits.Differs j again)
      by_stand (inl e) = absurd (not_among i one s got q.ahead e.0 r u e.1 q.legal.results.1)
      by_stand (inr (inl e)) = absurd (not_among j other t again r.ahead e.0 q v e.1 r.legal.results.1)
      by_stand (inr (inr e)) = differing i j got again (sym r.at ∙ ap (λ (l : List Entry). length l) e.0 ∙ q.at) (same_got e.1)

  illegal_at : (i j : ℕ) → i ≡ j → ◌≡◌ {A = AuditError} (audits.Illegal i) (audits.Illegal j)
  illegal_at i j e = cc

  one_cause : (one other : AuditError) → one ≢ audits.NoMemory → other ≢ audits.NoMemory → IsCause Gives Fails Starves session keys entries one → IsCause Gives Fails Starves session keys entries other → one ≡ other
  one_cause (audits.Bad at kind) other n m h k = absurd h
  one_cause one (audits.Bad at kind) n m h k = absurd k
  one_cause audits.NoMemory other n m h k = absurd (n refl)
  one_cause one audits.NoMemory n m h k = absurd (m refl)
  one_cause (audits.Illegal i) (audits.Illegal j) n m h k = illegal_at i j (one_index so_far i j (settled (audits.Illegal i) h) (settled (audits.Illegal j) k))
  one_cause (audits.Illegal i) audits.Unfinished n m h k = absurd (not_open so_far i (settled (audits.Illegal i) h) (settled audits.Unfinished k))
  one_cause audits.Unfinished (audits.Illegal i) n m h k = absurd (not_open so_far i (settled (audits.Illegal i) k) (settled audits.Unfinished h))
  one_cause audits.Unfinished audits.Unfinished n m h k = refl
  one_cause (audits.Illegal i) (audits.Differs j got) n m h k =
      absurd (illegal_alone j k.0 k.1 got i h.0 h.1 k.2 k.3 h.2 (settled (audits.Illegal i) h) (settled (audits.Differs j got) k))
  one_cause (audits.Differs j got) (audits.Illegal i) n m h k =
      absurd (illegal_alone j h.0 h.1 got i k.0 k.1 h.2 h.3 k.2 (settled (audits.Illegal i) k) (settled (audits.Differs j got) h))
  one_cause (audits.Differs i got) audits.Unfinished n m h k = absurd (not_unfinished i h.0 h.1 got k.0 h.2 h.3 k.1)
  one_cause audits.Unfinished (audits.Differs i got) n m h k = absurd (not_unfinished i k.0 k.1 got h.0 k.2 k.3 h.1)
  one_cause (audits.Differs i got) (audits.Differs j again) n m h k = one_difference i j h.0 k.0 h.1 k.1 got again h.2 h.3 k.2 k.3

  -- a legal history that is done or failed has no error
  no_cause : (s : Standing) (found : Meant) (error : AuditError) → error ≢ audits.NoMemory → IsLegal Gives Fails Starves session keys (opened ∷ entries) s → record_of session s s.state ≡ Some found → IsCause Gives Fails Starves session keys entries error → ⊥
  no_cause s found error some legal is h =
      by_error error some (accepted_is session keys Gives Fails Starves entries s found (Err error) h legal is (allow_from [] entries refl legal.results.1))
    where
      by_error : (e : AuditError) → e ≢ audits.NoMemory → IsUnlessMemory found (Err e) → ⊥
      by_error (audits.Bad at kind) n k = k
      by_error (audits.Illegal index) n k = k
      by_error (audits.Differs index got) n k = k
      by_error audits.Unfinished n k = k
      by_error audits.NoMemory n k = n refl

-- ---- over bytes

-- bytes have this fault
abbrev HasFault : List ℕ → AuditError → Type 0
HasFault bytes error = (at : ℕ) × (kind : TranscriptKind) × (error ≡ audits.Bad at kind) × (first_fault bytes ≡ Some (at, kind))

module _ (Gives : Ask → List ℕ → Type 0) (Fails : Ask → BenchFault → Type 0) (Starves : Ask → Type 0) (session : Session) (keys : List (List ℕ × List ℕ)) (bytes : List ℕ) where
  -- they are a transcript whose entries have this error
  abbrev HasCauseIn : AuditError → Type 0
  HasCauseIn error = (entries : List Entry) × IsTranscriptOf bytes (opened ∷ entries) × IsCause Gives Fails Starves session keys entries error

  read_so : (error : AuditError) → IsAudit Gives Fails Starves session keys bytes (Err error) → HasFault bytes error ⊎ HasCauseIn error
  read_so (audits.Bad at kind) h = inl (at, kind, refl, h)
  read_so (audits.Illegal index) h = inr h
  read_so (audits.Differs index got) h = inr h
  read_so audits.Unfinished h = inr h
  read_so audits.NoMemory h = inr h

  same_behind : (one other : List Entry) → IsTranscriptOf bytes (opened ∷ one) → IsTranscriptOf bytes (opened ∷ other) → one ≡ other
  same_behind one other h k = rest_same opened opened one other (one_history bytes (opened ∷ one) (opened ∷ other) h k)

  no_bad : {Q : Type 0} (error : AuditError) (entries : List Entry) → HasFault bytes error → IsTranscriptOf bytes (opened ∷ entries) → Q
  no_bad {Q} error entries f text = no_fault bytes entries (f.0, f.1) Q (transcript_again bytes entries text) f.3

  bad_same : (one other : AuditError) → HasFault bytes one → HasFault bytes other → one ≡ other
  bad_same one other f g =
      let same = some_is (ℕ × TranscriptKind) (f.0, f.1) (g.0, g.1) (sym f.3 ∙ g.3) in
      f.2 ∙ ap (λ (p : ℕ × TranscriptKind). let e : AuditError = audits.Bad p.0 p.1 in e) same ∙ sym g.2

  module _ (sure : (entries : List Entry) → IsTranscriptOf bytes (opened ∷ entries) → GivesOneEach Gives Fails (session_questions session) entries) where
    one_of : (one other : AuditError) → one ≢ audits.NoMemory → other ≢ audits.NoMemory → HasFault bytes one ⊎ HasCauseIn one → HasFault bytes other ⊎ HasCauseIn other → one ≡ other
    one_of one other n m (inl f) (inl g) = bad_same one other f g
    one_of one other n m (inl f) (inr g) = no_bad one g.0 f g.1
    one_of one other n m (inr f) (inl g) = no_bad other f.0 g f.1
    one_of one other n m (inr f) (inr g) =
        one_cause Gives Fails Starves session keys f.0 (sure f.0 f.1) one other n m f.2
        (subst (λ (l : List Entry). IsCause Gives Fails Starves session keys l other) (same_behind g.0 f.0 g.1 f.1) g.2)

    one_error : (one other : AuditError) → one ≢ audits.NoMemory → other ≢ audits.NoMemory → IsAudit Gives Fails Starves session keys bytes (Err one) → IsAudit Gives Fails Starves session keys bytes (Err other) → one ≡ other
    one_error one other n m h k = one_of one other n m (read_so one h) (read_so other k)

    none_of : (found : Meant) (error : AuditError) → error ≢ audits.NoMemory → IsFinishedText Gives Fails Starves session keys bytes found → HasFault bytes error ⊎ HasCauseIn error → ⊥
    none_of found error some f (inl g) = no_bad error f.entries g f.text
    none_of found error some f (inr g) =
        no_cause Gives Fails Starves session keys f.entries (sure f.entries f.text) f.standing found error some f.legal f.record_is
        (subst (λ (l : List Entry). IsCause Gives Fails Starves session keys l error) (same_behind g.0 f.entries g.1 f.text) g.2)

    no_error : (found : Meant) (error : AuditError) → error ≢ audits.NoMemory → IsFinishedText Gives Fails Starves session keys bytes found → IsAudit Gives Fails Starves session keys bytes (Err error) → ⊥
    no_error found error some f h = none_of found error some f (read_so error h)

  -- a transcript has one record
  one_record : (one other : Meant) → IsFinishedText Gives Fails Starves session keys bytes one → IsFinishedText Gives Fails Starves session keys bytes other → one ≡ other
  one_record one other f g =
      let behind = same_behind g.entries f.entries g.text f.text in
      let again = subst (λ (l : List Entry). standing_after session keys (opened ∷ l) ≡ Some g.standing) behind g.legal.stands in
      let standing : g.standing ≡ f.standing = some_is Standing g.standing f.standing (sym again ∙ f.legal.stands) in
      some_is Meant one other (sym f.record_is ∙ ap (λ (s : Standing). record_of session s s.state) (sym standing) ∙ g.record_is)

-- ---- of a job

pub audit_late : (Gives : Giving) (Fails : Failing) (Starves : Starving) (job : JobView) (offer : Offer) (why : Refusal) → IsUnaccepted Gives Fails Starves job offer why → IsOfMeaning why
audit_late Gives Fails Starves job offer (Transcript error) h = tt
audit_late Gives Fails Starves job offer _ h = absurd h

-- the error in a refusal
error_in : (Gives : Giving) (Fails : Failing) (Starves : Starving) (job : JobView) (offer : Offer) (why : Refusal) → IsUnaccepted Gives Fails Starves job offer why → (error : AuditError) × (why ≡ Transcript error) × (error ≢ audits.NoMemory) × IsAuditOf Gives Fails Starves job offer (Err error)
error_in Gives Fails Starves job offer (Transcript error) h = (error, refl, h.0, h.1)
error_in Gives Fails Starves job offer _ h = absurd h

pub audit_one : (Gives : Giving) (Fails : Failing) (Starves : Starving) (job : JobView) → IsSureTranscript Gives Fails job → (why other : Refusal) → HasNoAudit Gives Fails Starves job why → HasNoAudit Gives Fails Starves job other → why ≡ other
audit_one Gives Fails Starves job sure why other h k =
    let offer = h.0 in
    let a = error_in Gives Fails Starves job offer why h.2 in
    let b = error_in Gives Fails Starves job offer other (subst (λ (o : Offer). IsUnaccepted Gives Fails Starves job o other) (offers_same job k.0 offer k.1 h.1) k.2) in
    a.1 ∙ ap (λ (e : AuditError). let r : Refusal = Transcript e in r) (one_error (Gives job.artefacts) (Fails job.artefacts) (Starves job.artefacts) offer.session (keys_of job.places) offer.bundle.bytes (λ entries text. sure offer entries h.1 text) a.0 b.0 a.2 b.2 a.3 b.3) ∙ sym b.1

pub audit_none : (Gives : Giving) (Fails : Failing) (Starves : Starving) (job : JobView) → IsSureTranscript Gives Fails job → (why : Refusal) (text : List ℕ) (ending : Ending) → HasNoAudit Gives Fails Starves job why → ¬ IsOfAudit Gives Fails Starves job text ending
audit_none Gives Fails Starves job sure why text ending h r =
    let offer = r.offer in
    let a = error_in Gives Fails Starves job offer why (subst (λ (o : Offer). IsUnaccepted Gives Fails Starves job o why) (offers_same job h.0 offer h.1 r.offered) h.2) in
    no_error (Gives job.artefacts) (Fails job.artefacts) (Starves job.artefacts) offer.session (keys_of job.places) offer.bundle.bytes (λ entries told. sure offer entries r.offered told) r.found a.0 a.2 r.finished a.3

pub same_audit : (Gives : Giving) (Fails : Failing) (Starves : Starving) (job : JobView) (text other : List ℕ) (ending ended : Ending) → IsOfAudit Gives Fails Starves job text ending → IsOfAudit Gives Fails Starves job other ended → (text ≡ other) × (ending ≡ ended)
same_audit Gives Fails Starves job text other ending ended h k =
    let offer = offers_same job k.offer h.offer k.offered h.offered in
    let again = subst (λ (o : Offer). IsFinishedText (Gives job.artefacts) (Fails job.artefacts) (Starves job.artefacts) o.session (keys_of job.places) o.bundle.bytes k.found) offer k.finished in
    let found = one_record (Gives job.artefacts) (Fails job.artefacts) (Starves job.artefacts) h.offer.session (keys_of job.places) h.offer.bundle.bytes h.found k.found h.finished again in (
      h.reported ∙ ap (λ (o : Offer). record_text o.bundle.session h.found) (sym offer) ∙ ap (λ (r : Meant). record_text k.offer.bundle.session r) found ∙ sym k.reported,
      h.ended ∙ ap (λ (r : Meant). ending_of (is_failed r)) found ∙ sym k.ended,
    )

-- ---- from the steps of `audit` to what is said of the job

pub refused_so : (Gives : Giving) (Fails : Failing) (Starves : Starving) (job : JobView) (offer : Offer) (bytes : List ℕ) (error : AuditError) (why : Refusal) → IsOffered job offer → IsAudit (Gives job.artefacts) (Fails job.artefacts) (Starves job.artefacts) offer.session (keys_of job.places) bytes (Err error) → IsAuditRefusal error why → bytes ≡ offer.bundle.bytes → StarvedOr (HasNoAudit Gives Fails Starves job) why
refused_so Gives Fails Starves job offer bytes error why o h (inl none) same = inl none.1
refused_so Gives Fails Starves job offer bytes error why o h (inr some) same =
    let told = subst (λ (b : List ℕ). IsAudit (Gives job.artefacts) (Fails job.artefacts) (Starves job.artefacts) offer.session (keys_of job.places) b (Err error)) same h in
    inr (offer, o, subst (λ (w : Refusal). IsUnaccepted Gives Fails Starves job offer w) (sym some.1) (some.0, told))

pub reported_so : (Gives : Giving) (Fails : Failing) (Starves : Starving) (job : JobView) (offer : Offer) (bytes : List ℕ) (found : Record) (r : Result Report Refusal) → IsOffered job offer → IsAudit (Gives job.artefacts) (Fails job.artefacts) (Starves job.artefacts) offer.session (keys_of job.places) bytes (Ok found) → MatchResult r (λ report. SaysRecord offer.bundle.session found report.text report.ending) (λ why. why ≡ NoMemory) → bytes ≡ offer.bundle.bytes → MatchResult r (λ report. IsOfAudit Gives Fails Starves job report.text report.ending) (StarvedOr (HasNoAudit Gives Fails Starves job))
reported_so Gives Fails Starves job offer bytes found (Ok report) o h k same = record {
  offer = offer;
  offered = o;
  found = recorded found;
  finished = record { entries = h.0; standing = h.2.0; text = subst (λ (b : List ℕ). IsTranscriptOf b (opened ∷ h.0)) same h.1; legal = h.2.1; record_is = h.2.2 };
  reported = k.reported;
  ended = k.ended;
}
reported_so Gives Fails Starves job offer bytes found (Err why) o h k same = inl k
