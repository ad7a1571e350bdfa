-- The audit of entries, and of bytes.
use Rattle.std.proofs.Common.{◌≡◌, ℕ, suc, ◌+◌, ◌-◌, ◌<◌, ◌≤◌, List, [], ◌∷◌, ◌++◌, Option, None, Some, Result, Ok, Err, length, map, refl, sym, ap, ◌∙◌, subst, arith, append_assoc}
use Rattle.bench_trait.specs.declared.artefacts.Artefact.{Artefact}
use Rattle.bench_trait.specs.declared.ask.Ask.{Ask}
use Rattle.bench_trait.specs.declared.bench.BenchFault.{BenchFault}
use Rattle.bench_trait.specs.Asking.{question_among}
use Rattle.bench_trait.specs.Digest.{digest_answer, LacksArtefact}
use Rattle.session_model.specs.Session.{Session, session_questions}
use Rattle.session_model.specs.declared.record.Record.{Record}
use Rattle.session_model.specs.Record.{Record as Meant}
use Rattle.session_model.specs.Recorded.{recorded}
use Rattle.session_runs.specs.Standing.{Entry, opened, played, answered, failed, starved, is_open, Standing, opening, next}
use Rattle.session_runs.specs.History.{further, IsResult, AreResults, IsLegal, record_of}
use Rattle.session_runs.specs.Played.{AsksOnly}
use Rattle.session_runs.proofs.EntryLaws.{some_is}
use Rattle.session_book.specs.Entries.{entry_of}
use Rattle.session_core.specs.declared.opened.Opened.{Opened}
use Rattle.session_core.specs.Session.{Seen, session_in, keys_in, places_in, history}
use Rattle.transcript.specs.declared.fault.Stop.{Stop}
use Rattle.transcript.specs.declared.fault.TranscriptKind.{TranscriptKind}
use Rattle.transcript.specs.declared.replay.Halt.{Halt}
use Rattle.transcript.specs.declared.replay.Halt.TheVariants as halt
use Rattle.transcript.specs.declared.auditing.AuditError.{AuditError}
use Rattle.transcript.specs.declared.auditing.AuditError.TheVariants.{Bad, Illegal, Differs, Unfinished, NoMemory}
use Rattle.transcript.specs.Bytes.{IsTranscriptOf}
use Rattle.transcript.specs.Reading.{entry_at, entries_at, read_transcript, ◌>>=◌}
use Rattle.transcript.specs.Audit.{offset, first_bad, first_fault, IsGiven, Reaches, IsCause, IsVerdict, IsAudit, Extent, stops_at, ends, extent_by, extent, Settles, AllowsOnly, AllowOnly, IsUnlessMemory, IsReplayed, Halts, halted_by, StandIn}
use Rattle.transcript.proofs.FieldLemmas.{bind_ok, done, ok_is}
use Rattle.transcript.proofs.EntryLemmas.{transcript_again}

-- ---- legal by the same bench

pub legal_over : {B : Type 0} (gives : B → List Artefact → Ask → List ℕ → Type 0) (fails : B → List Artefact → Ask → BenchFault → Type 0) (starves : B → List Artefact → Ask → Type 0) (bench measurer : B) (artefacts others : List Artefact) (session : Session) (keys : List (List ℕ × List ℕ)) (so_far : List Entry) (s : Standing)
    → bench ≡ measurer → artefacts ≡ others
    → IsLegal (λ ask answer. gives bench artefacts ask answer) (λ ask fault. fails bench artefacts ask fault) (λ ask. starves bench artefacts ask) session keys so_far s
    → IsLegal (λ ask answer. gives measurer others ask answer) (λ ask fault. fails measurer others ask fault) (λ ask. starves measurer others ask) session keys so_far s
legal_over gives fails starves bench measurer artefacts others session keys so_far s same alike legal =
    subst (λ b. IsLegal (λ ask answer. gives b others ask answer) (λ ask fault. fails b others ask fault) (λ ask. starves b others ask) session keys so_far s) same
    (subst (λ a. IsLegal (λ ask answer. gives bench a ask answer) (λ ask fault. fails bench a ask fault) (λ ask. starves bench a ask) session keys so_far s) alike legal)

-- ---- what stopped an entry

pub map_length : {A C : Type 0} (f : A → C) (xs : List A) → length (map f xs) ≡ length xs
map_length f [] = refl
map_length f (x ∷ xs) = ap suc (map_length f xs)

module _ {B : Type 0} (Gives : Ask → List ℕ → Type 0) (Fails : Ask → BenchFault → Type 0) (Starves : Ask → Type 0) (one : Entry) (old : Seen (Opened B)) (index : ℕ) (s : Standing) (at : length old.items ≡ index) (legal : IsLegal Gives Fails Starves (session_in old.opening) (keys_in old.opening) (history old) s) where
  reached : (later : List Entry) → Reaches Gives Fails Starves (session_in old.opening) (keys_in old.opening) (map entry_of old.items ++ one ∷ later) index one s
  reached later = record { ahead = map entry_of old.items; behind = later; parts = refl; at = map_length entry_of old.items ∙ at; legal = legal }

  pub stop_cause : (stopped : Halt) → Halts Gives Fails one old stopped → (later : List Entry) → IsCause Gives Fails Starves (session_in old.opening) (keys_in old.opening) (map entry_of old.items ++ one ∷ later) (halted_by index stopped)
  stop_cause halt.Illegal h later = (one, s, reached later, h s legal.stands)
  stop_cause (halt.Differs got) h later = (one, s, reached later, h s legal.stands)
  stop_cause halt.NoMemory h later = tt

-- ---- a session that goes on

pub replayed_on : {B : Type 0} (artefacts : List Artefact) (bench : B) (old new : Seen (Opened B)) → new.opening ≡ old.opening → IsReplayed artefacts bench old → IsReplayed artefacts bench new
replayed_on artefacts bench old new same over = record {
  book = ap (λ o. o.artefacts.now) same ∙ over.book;
  measurer = ap (λ o. o.bench.now) same ∙ over.measurer;
  only = subst (λ o. AsksOnly (places_in o) (session_in o).phrase) (sym same) over.only;
}

suc_one : (n : ℕ) → suc (n + 1) ≡ suc n + 1
suc_one n = omega arith

length_push : (xs : List Entry) (one : Entry) → length (xs ++ one ∷ []) ≡ length xs + 1
length_push [] one = refl
length_push (x ∷ xs) one = ap suc (length_push xs one) ∙ suc_one (length xs)

pub one_longer : {B : Type 0} (old new : Seen (Opened B)) (one : Entry) (index : ℕ) → map entry_of new.items ≡ map entry_of old.items ++ one ∷ [] → length old.items ≡ index → length new.items ≡ index + 1
one_longer old new one index items at =
    sym (map_length entry_of new.items) ∙ ap (λ xs. length xs) items ∙ length_push (map entry_of old.items) one ∙ ap (λ n. n + 1) (map_length entry_of old.items ∙ at)

-- the same verdict where all is given
pub verdict_over : {B : Type 0} (gives : B → List Artefact → Ask → List ℕ → Type 0) (fails : B → List Artefact → Ask → BenchFault → Type 0) (starves : B → List Artefact → Ask → Type 0) (bench : B) (artefacts : List Artefact) (session : Session) (keys : List (List ℕ × List ℕ)) (seen : Seen (Opened B)) (entries : List Entry) (result : Result Record AuditError)
    → seen.opening.bench.now ≡ bench → seen.opening.artefacts.now ≡ artefacts → session_in seen.opening ≡ session → keys_in seen.opening ≡ keys → map entry_of seen.items ≡ entries
    → IsVerdict (λ ask answer. gives seen.opening.bench.now seen.opening.artefacts.now ask answer) (λ ask fault. fails seen.opening.bench.now seen.opening.artefacts.now ask fault) (λ ask. starves seen.opening.bench.now seen.opening.artefacts.now ask) (session_in seen.opening) (keys_in seen.opening) (map entry_of seen.items) result
    → IsVerdict (λ ask answer. gives bench artefacts ask answer) (λ ask fault. fails bench artefacts ask fault) (λ ask. starves bench artefacts ask) session keys entries result
verdict_over gives fails starves bench artefacts session keys seen entries result of_bench of_artefacts of_session of_keys of_items h =
    let o = seen.opening in
    subst (λ b. IsVerdict (λ ask answer. gives b artefacts ask answer) (λ ask fault. fails b artefacts ask fault) (λ ask. starves b artefacts ask) session keys entries result) of_bench
    (subst (λ a. IsVerdict (λ ask answer. gives o.bench.now a ask answer) (λ ask fault. fails o.bench.now a ask fault) (λ ask. starves o.bench.now a ask) session keys entries result) of_artefacts
    (subst (λ s. IsVerdict (λ ask answer. gives o.bench.now o.artefacts.now ask answer) (λ ask fault. fails o.bench.now o.artefacts.now ask fault) (λ ask. starves o.bench.now o.artefacts.now ask) s keys entries result) of_session
    (subst (λ k. IsVerdict (λ ask answer. gives o.bench.now o.artefacts.now ask answer) (λ ask fault. fails o.bench.now o.artefacts.now ask fault) (λ ask. starves o.bench.now o.artefacts.now ask) (session_in o) k entries result) of_keys
    (subst (λ xs. IsVerdict (λ ask answer. gives o.bench.now o.artefacts.now ask answer) (λ ask fault. fails o.bench.now o.artefacts.now ask fault) (λ ask. starves o.bench.now o.artefacts.now ask) (session_in o) (keys_in o) xs result) of_items h))))

-- ---- the entries that are left

pub record IsNext (more : ℕ) (bytes : List ℕ) (left : List Entry) : Type 0 where
  pub one : Entry
  pub behind : List ℕ
  pub rest : List Entry
  pub here : entry_at bytes ≡ Ok (one, behind)
  pub parts : left ≡ one ∷ rest
  pub later : StandIn more behind rest

next_stands : (more : ℕ) (bytes : List ℕ) (left : List Entry) → StandIn (suc more) bytes left → IsNext more bytes left
unfolding entries_at
next_stands more bytes left e =
    let a = bind_ok (entry_at bytes) (λ entry. entries_at more entry.1 >>= λ rest. done (entry.0 ∷ rest.0, rest.1)) (left, []) e in
    let b = bind_ok (entries_at more a.0.1) (λ rest. done (a.0.0 ∷ rest.0, rest.1)) (left, []) a.2 in
    let same : (a.0.0 ∷ b.0.0, b.0.1) ≡ (left, []) = ok_is (a.0.0 ∷ b.0.0, b.0.1) (left, []) b.2 in
    record {
      one = a.0.0;
      behind = a.0.1;
      rest = b.0.0;
      here = a.1;
      parts = sym (ap (λ (p : List Entry × List ℕ). p.0) same);
      later = b.1 ∙ ap (λ (r : List ℕ). done (b.0.0, r)) (ap (λ (p : List Entry × List ℕ). p.1) same);
    }

none_stand : (bytes : List ℕ) (left : List Entry) → StandIn 0 bytes left → left ≡ []
unfolding entries_at
none_stand bytes left e = sym (ap (λ (p : List Entry × List ℕ). p.0) (ok_is ([], bytes) (left, []) e))

-- what was played, and what stands in the bytes that are left
pub record GoneSoFar (count index : ℕ) (bytes : List ℕ) (so_far entries : List Entry) : Type 0 where
  pub left : List Entry
  pub parts : entries ≡ so_far ++ left
  pub stand : StandIn (count - index) bytes left

pub gone_none : (count : ℕ) (bytes : List ℕ) (entries : List Entry) → StandIn count bytes entries → GoneSoFar count 0 bytes [] entries
gone_none count bytes entries e = record { left = entries; parts = refl; stand = subst (λ n. StandIn n bytes entries) whole e }
  where
    whole : count ≡ count - 0
    whole = omega arith

pub gone_here : (count index : ℕ) (bytes : List ℕ) (so_far entries : List Entry) (gone : GoneSoFar count index bytes so_far entries) → index < count → IsNext (count - (index + 1)) bytes gone.left
gone_here count index bytes so_far entries gone less =
    next_stands (count - (index + 1)) bytes gone.left (subst (λ n. StandIn n bytes gone.left) counted gone.stand)
  where
    counted : count - index ≡ suc (count - (index + 1))
    counted = omega (arith, less)

pub gone_on : (count index : ℕ) (bytes : List ℕ) (so_far entries : List Entry) (gone : GoneSoFar count index bytes so_far entries) (n : IsNext (count - (index + 1)) bytes gone.left) → GoneSoFar count (index + 1) n.behind (so_far ++ n.one ∷ []) entries
gone_on count index bytes so_far entries gone n = record {
  left = n.rest;
  parts = gone.parts ∙ ap (λ xs. so_far ++ xs) n.parts ∙ sym (append_assoc so_far (n.one ∷ []) n.rest);
  stand = n.later;
}

nothing_more : (xs : List Entry) → xs ++ [] ≡ xs
nothing_more [] = refl
nothing_more (x ∷ xs) = ap (λ ys. x ∷ ys) (nothing_more xs)

pub gone_all : (count index : ℕ) (bytes : List ℕ) (so_far entries : List Entry) → count ≤ index → GoneSoFar count index bytes so_far entries → so_far ≡ entries
gone_all count index bytes so_far entries over gone =
    let none : gone.left ≡ [] = none_stand bytes gone.left (subst (λ n. StandIn n bytes gone.left) (over_is over) gone.stand) in
    sym (gone.parts ∙ ap (λ xs. so_far ++ xs) none ∙ nothing_more so_far)
  where
    over_is : count ≤ index → count - index ≡ 0
    over_is le = omega (arith, le)

-- ---- how far entries go

-- they don't stop at this index or ahead of it
abbrev IsPast : ℕ → Extent → Type 0
IsPast index (stops_at other) = index < other
IsPast index (ends t) = Unit {0}

module _ (session : Session) (keys : List (List ℕ × List ℕ)) where
  no_further : (entries : List Entry) (t : Standing) (Q : Type 0) → further session keys None entries ≡ Some t → Q
  no_further entries t Q e = absurd (none_some e)
    where
      none_some : ◌≡◌ {A = Option Standing} None (Some t) → ⊥
      none_some f = cc

  ends_there : (index : ℕ) (entries : List Entry) (s t : Standing) → further session keys (Some s) entries ≡ Some t → extent session keys index entries s ≡ ends t
  ends_there index [] s t e = ap ends (some_is Standing s t e)
  ends_there index (one ∷ entries) s t e =
      by_next (next session keys s one) (λ u f. ends_there (index + 1) entries u t f) e
    where
      by_next : (x : Option Standing) → ((u : Standing) → further session keys (Some u) entries ≡ Some t → extent session keys (index + 1) entries u ≡ ends t) → further session keys x entries ≡ Some t → extent_by (extent session keys (index + 1) entries) index x ≡ ends t
      by_next None go f = no_further entries t (stops_at index ≡ ends t) f
      by_next (Some u) go f = go u f

  stops_there : (index : ℕ) (ahead : List Entry) (one : Entry) (behind : List Entry) (s t : Standing) → further session keys (Some s) ahead ≡ Some t → next session keys t one ≡ None → extent session keys index (ahead ++ one ∷ behind) s ≡ stops_at (index + length ahead)
  stops_there index [] one behind s t e never =
      ap (extent_by (extent session keys (index + 1) behind) index) (ap (λ x. next session keys x one) (some_is Standing s t e) ∙ never)
      ∙ ap stops_at (nothing_added index)
    where
      nothing_added : (n : ℕ) → n ≡ n + 0
      nothing_added n = omega arith
  stops_there index (first ∷ ahead) one behind s t e never =
      by_next (next session keys s first) (λ u f. stops_there (index + 1) ahead one behind u t f never) e
    where
      by_next : (x : Option Standing) → ((u : Standing) → further session keys (Some u) ahead ≡ Some t → extent session keys (index + 1) (ahead ++ one ∷ behind) u ≡ stops_at (index + 1 + length ahead)) → further session keys x ahead ≡ Some t → extent_by (extent session keys (index + 1) (ahead ++ one ∷ behind)) index x ≡ stops_at (index + suc (length ahead))
      by_next None go f = no_further ahead t (stops_at index ≡ stops_at (index + suc (length ahead))) f
      by_next (Some u) go f = go u f ∙ ap stops_at (omega arith)

  past_less : (low high : ℕ) (x : Extent) → low ≤ high → IsPast high x → IsPast low x
  past_less low high (stops_at other) le h = omega (arith, le, h)
  past_less low high (ends t) le h = tt

  from_there : (below index : ℕ) (entries : List Entry) (s : Standing) → below < index → IsPast below (extent session keys index entries s)
  from_there below index [] s less = tt
  from_there below index (one ∷ entries) s less = by_next (next session keys s one) (λ u. from_there below (index + 1) entries u (omega (arith, less)))
    where
      by_next : (x : Option Standing) → ((u : Standing) → IsPast below (extent session keys (index + 1) entries u)) → IsPast below (extent_by (extent session keys (index + 1) entries) index x)
      by_next None go = less
      by_next (Some u) go = go u

  past_there : (index : ℕ) (ahead : List Entry) (one : Entry) (behind : List Entry) (s t u : Standing) → further session keys (Some s) ahead ≡ Some t → next session keys t one ≡ Some u → IsPast (index + length ahead) (extent session keys index (ahead ++ one ∷ behind) s)
  past_there index [] one behind s t u e onward =
      subst (λ x. IsPast (index + 0) (extent_by (extent session keys (index + 1) behind) index x)) (sym (ap (λ x. next session keys x one) (some_is Standing s t e) ∙ onward))
      (from_there (index + 0) (index + 1) behind u (omega arith))
  past_there index (first ∷ ahead) one behind s t u e onward =
      by_next (next session keys s first) (λ v f. past_there (index + 1) ahead one behind v t u f onward) e
    where
      by_next : (x : Option Standing) → ((v : Standing) → further session keys (Some v) ahead ≡ Some t → IsPast (index + 1 + length ahead) (extent session keys (index + 1) (ahead ++ one ∷ behind) v)) → further session keys x ahead ≡ Some t → IsPast (index + suc (length ahead)) (extent_by (extent session keys (index + 1) (ahead ++ one ∷ behind)) index x)
      by_next None go f = no_further ahead t (IsPast (index + suc (length ahead)) (stops_at index)) f
      by_next (Some v) go f = past_less (index + suc (length ahead)) (index + 1 + length ahead) (extent session keys (index + 1) (ahead ++ one ∷ behind) v) (omega arith) (go v f)

  differs_past : (index : ℕ) (got : Result (List ℕ) BenchFault) (x : Extent) → IsPast index x → Settles session x (Err (Differs index got))
  differs_past index got (stops_at other) h = h
  differs_past index got (ends t) h = tt

module _ (session : Session) (keys : List (List ℕ × List ℕ)) (Gives : Ask → List ℕ → Type 0) (Fails : Ask → BenchFault → Type 0) (Starves : Ask → Type 0) where
  pub settles : (entries : List Entry) (result : Result Record AuditError) → IsVerdict Gives Fails Starves session keys entries result → Settles session (extent session keys 0 entries (opening session)) result
  settles entries (Ok found) v =
      subst (λ x. Settles session x (Ok found)) (sym (ends_there session keys 0 entries (opening session) v.0 v.1.stands)) v.2
  settles entries (Err (Bad at kind)) v = absurd v
  settles entries (Err (Illegal index)) v =
      let r = v.2 in
      let there : extent session keys 0 entries (opening session) ≡ stops_at (0 + length r.ahead) = ap (λ xs. extent session keys 0 xs (opening session)) r.parts ∙ stops_there session keys 0 r.ahead v.0 r.behind (opening session) v.1 r.legal.stands v.3 in
      subst (λ x. Settles session x (Err (Illegal index))) (sym there) (same_index index (length r.ahead) r.at)
    where
      same_index : (m n : ℕ) → n ≡ m → m ≡ 0 + n
      same_index m n e = omega (arith, e)
  settles entries (Err (Differs index got)) v =
      let r = v.2 in
      let past : IsPast (0 + length r.ahead) (extent session keys 0 (r.ahead ++ v.0 ∷ r.behind) (opening session)) = past_there session keys 0 r.ahead v.0 r.behind (opening session) v.1 v.3.legal.then_stands r.legal.stands v.3.legal.possible in
      differs_past session keys index got (extent session keys 0 entries (opening session))
      (subst (λ xs. IsPast index (extent session keys 0 xs (opening session))) (sym r.parts)
      (subst (λ n. IsPast n (extent session keys 0 (r.ahead ++ v.0 ∷ r.behind) (opening session))) (at_index index (length r.ahead) r.at) past))
    where
      at_index : (m n : ℕ) → n ≡ m → 0 + n ≡ m
      at_index m n e = omega (arith, e)
  settles entries (Err Unfinished) v =
      subst (λ x. Settles session x (Err Unfinished)) (sym (ends_there session keys 0 entries (opening session) v.0 v.1.stands)) v.2
  settles entries (Err NoMemory) v = by_extent (extent session keys 0 entries (opening session))
    where
      by_extent : (x : Extent) → Settles session x (Err NoMemory)
      by_extent (stops_at index) = tt
      by_extent (ends t) = tt

  -- ---- what is accepted

  allows_at : (asks : List Ask) (ahead : List Entry) (one : Entry) (behind : List Entry) → AllowOnly Gives Fails asks (ahead ++ one ∷ behind) → AllowsOnly Gives Fails asks one
  allows_at asks [] one behind h = h.0
  allows_at asks (first ∷ ahead) one behind h = allows_at asks ahead one behind h.1

  not_finished : (s : Standing) (meant : Meant) → s.state ≡ is_open → record_of session s s.state ≡ Some meant → ⊥
  not_finished s meant still e = none_some (sym (ap (record_of session s) still) ∙ e)
    where
      none_some : ◌≡◌ {A = Option Meant} None (Some meant) → ⊥
      none_some f = cc

  pub accepted_is : (entries : List Entry) (s : Standing) (meant : Meant) (result : Result Record AuditError) → IsVerdict Gives Fails Starves session keys entries result → IsLegal Gives Fails Starves session keys (opened ∷ entries) s → record_of session s s.state ≡ Some meant → AllowOnly Gives Fails (session_questions session) entries → IsUnlessMemory meant result
  accepted_is entries s meant result v legal is alone =
      by_result result v (subst (λ x. Settles session x result) (ends_there session keys 0 entries (opening session) s legal.stands) (settles entries result v))
    where
      by_result : (r : Result Record AuditError) → IsVerdict Gives Fails Starves session keys entries r → Settles session (ends s) r → IsUnlessMemory meant r
      by_result (Ok found) w st = some_is Meant (recorded found) meant (sym st ∙ is)
      by_result (Err (Bad at kind)) w st = st
      by_result (Err (Illegal index)) w st = st
      by_result (Err (Differs index got)) w st =
          let r = w.2 in
          let u = w.3 in
          u.other (allows_at (session_questions session) r.ahead w.0 r.behind (subst (AllowOnly Gives Fails (session_questions session)) r.parts alone) u.event u.result got u.ask u.says u.asked u.given)
      by_result (Err Unfinished) w st = not_finished s meant st is
      by_result (Err NoMemory) w st = tt

  -- ---- bytes

  pub audit_is : (bytes : List ℕ) (entries : List Entry) (result : Result Record AuditError) → IsTranscriptOf bytes (opened ∷ entries) → IsVerdict Gives Fails Starves session keys entries result → IsAudit Gives Fails Starves session keys bytes result
  audit_is bytes entries (Ok found) text v = (entries, text, v)
  audit_is bytes entries (Err (Bad at kind)) text v = absurd v
  audit_is bytes entries (Err (Illegal index)) text v = (entries, text, v)
  audit_is bytes entries (Err (Differs index got)) text v = (entries, text, v)
  audit_is bytes entries (Err Unfinished) text v = (entries, text, v)
  audit_is bytes entries (Err NoMemory) text v = (entries, text, v)

pub same_entries : (bytes : List ℕ) (entries others : List Entry) → read_transcript bytes ≡ Ok entries → IsTranscriptOf bytes (opened ∷ others) → entries ≡ others
same_entries bytes entries others read text = ok_is entries others (sym read ∙ transcript_again bytes others text)

pub no_fault : (bytes : List ℕ) (entries : List Entry) (found : ℕ × TranscriptKind) (Q : Type 0) → read_transcript bytes ≡ Ok entries → first_fault bytes ≡ Some found → Q
no_fault bytes entries found Q read e = absurd (none_some (sym (ap (first_bad (length bytes)) read) ∙ e))
  where
    none_some : ◌≡◌ {A = Option (ℕ × TranscriptKind)} None (Some found) → ⊥
    none_some f = cc

pub a_fault : (bytes : List ℕ) (first : Stop) → read_transcript bytes ≡ Err first → first_fault bytes ≡ Some (offset (length bytes) first, first.kind)
a_fault bytes first read = ap (first_bad (length bytes)) read

pub that_fault : (bytes : List ℕ) (first : Stop) (at : ℕ) (kind : TranscriptKind) → read_transcript bytes ≡ Err first → first_fault bytes ≡ Some (at, kind) → ◌≡◌ {A = Result Record AuditError} (Err (Bad (offset (length bytes) first) first.kind)) (Err (Bad at kind))
that_fault bytes first at kind read e =
    let same = some_is (ℕ × TranscriptKind) (offset (length bytes) first, first.kind) (at, kind) (sym (a_fault bytes first read) ∙ e) in
    ap (λ (p : ℕ × TranscriptKind). let r : Result Record AuditError = Err (Bad p.0 p.1) in r) same

-- no entries stand where there is a fault
pub no_text : (bytes : List ℕ) (entries : List Entry) (first : Stop) → read_transcript bytes ≡ Err first → IsTranscriptOf bytes (opened ∷ entries) → ⊥
no_text bytes entries first read text = ok_err (sym (transcript_again bytes entries text) ∙ read)
  where
    ok_err : ◌≡◌ {A = Result (List Entry) Stop} (Ok entries) (Err first) → ⊥
    ok_err f = cc

-- ---- a bench that gives one result at each question

abbrev pub GivesOne : (Ask → List ℕ → Type 0) → (Ask → BenchFault → Type 0) → Type 0
GivesOne Gives Fails = (ask : Ask) (one other : Result (List ℕ) BenchFault) → IsGiven (Gives ask) (Fails ask) one → IsGiven (Gives ask) (Fails ask) other → one ≡ other

module _ (Gives : Ask → List ℕ → Type 0) (Fails : Ask → BenchFault → Type 0) (Starves : Ask → Type 0) (alone : GivesOne Gives Fails) (asks : List Ask) where
  same_given : (event : ℕ) (result got : Result (List ℕ) BenchFault) (own ask : Ask) → question_among asks event ≡ Some own → IsGiven (Gives own) (Fails own) result → question_among asks event ≡ Some ask → IsGiven (Gives ask) (Fails ask) got → got ≡ result
  same_given event result got own ask is given asked other =
      alone ask got result other (subst (λ (a : Ask). IsGiven (Gives a) (Fails a) result) (some_is Ask own ask (sym is ∙ asked)) given)

  says_none : (event : ℕ) (result : Result (List ℕ) BenchFault) (Q : Type 0) → ◌≡◌ {A = Option (ℕ × Result (List ℕ) BenchFault)} None (Some (event, result)) → Q
  says_none event result Q e = absurd (none_some e)
    where
      none_some : ◌≡◌ {A = Option (ℕ × Result (List ℕ) BenchFault)} None (Some (event, result)) → ⊥
      none_some f = cc

  allow_one : (one : Entry) → IsResult Gives Fails Starves asks one → AllowsOnly Gives Fails asks one
  allow_one opened h event result got ask says asked given = says_none event result (got ≡ result) says
  allow_one (played pass move) h event result got ask says asked given = says_none event result (got ≡ result) says
  allow_one (answered pass number bytes) h event result got ask says asked given =
      let same = some_is (ℕ × Result (List ℕ) BenchFault) (number, Ok bytes) (event, result) says in
      same_given number (Ok bytes) got h.0 ask h.1 h.2 (ap (question_among asks) (ap (λ (p : ℕ × Result (List ℕ) BenchFault). p.0) same) ∙ asked) given
      ∙ ap (λ (p : ℕ × Result (List ℕ) BenchFault). p.1) same
  allow_one (failed pass number fault) h event result got ask says asked given =
      let same = some_is (ℕ × Result (List ℕ) BenchFault) (number, Err fault) (event, result) says in
      same_given number (Err fault) got h.0 ask h.1 h.2 (ap (question_among asks) (ap (λ (p : ℕ × Result (List ℕ) BenchFault). p.0) same) ∙ asked) given
      ∙ ap (λ (p : ℕ × Result (List ℕ) BenchFault). p.1) same
  allow_one (starved pass number) h event result got ask says asked given = says_none event result (got ≡ result) says

  pub allow_all : (entries : List Entry) → AreResults Gives Fails Starves asks entries → AllowOnly Gives Fails asks entries
  allow_all [] h = tt
  allow_all (one ∷ entries) h = (allow_one one h.0, allow_all entries h.1)

pub digest_gives_one : (artefacts : List Artefact) → GivesOne (λ ask answer. digest_answer artefacts ask ≡ Some answer) (λ ask fault. LacksArtefact artefacts ask fault)
digest_gives_one artefacts ask (Ok one) (Ok other) h k = ap (λ xs. let r : Result (List ℕ) BenchFault = Ok xs in r) (some_is (List ℕ) one other (sym h ∙ k))
digest_gives_one artefacts ask (Ok one) (Err fault) h k = absurd (some_none (sym h ∙ k.lacking))
  where
    some_none : ◌≡◌ {A = Option (List ℕ)} (Some one) None → ⊥
    some_none e = cc
digest_gives_one artefacts ask (Err fault) (Ok other) h k = absurd (some_none (sym k ∙ h.lacking))
  where
    some_none : ◌≡◌ {A = Option (List ℕ)} (Some other) None → ⊥
    some_none e = cc
digest_gives_one artefacts ask (Err fault) (Err other) h k = ap (λ f. let r : Result (List ℕ) BenchFault = Err f in r) (h.named ∙ sym k.named)
