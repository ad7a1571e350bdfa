-- From what the workers' last pass has seen to one record of each session of the job.
use Rattle.std.proofs.Common.{◌≡◌, ◌∙◌, ℕ, zero, suc, List, [], ◌∷◌, ◌++◌, ◌<◌, length, get_or, ap, refl, sym, subst, arith}
use Rattle.std.specs.Prelude.{All, Option, Some, map, slice_get}
use Rattle.atomic_table.specs.Seated.{TableId}
use Rattle.std.specs.List.{AllZip}
use Rattle.bench_trait.specs.declared.artefacts.Artefact.{Artefact}
use Rattle.bench_trait.specs.declared.ask.Ask.{Ask}
use Rattle.bench_trait.specs.declared.bench.BenchFault.{BenchFault}
use Rattle.place_check.specs.declared.entry.PlaceEntry.{PlaceEntry}
use Rattle.place_check.specs.Places.{keys_of}
use Rattle.place_check.specs.Session.{CheckedSession, session_of}
use Rattle.session_model.specs.Record.{Record, done, failed}
use Rattle.session_model.specs.RightRecord.{IsRightRecord}
use Rattle.session_model.specs.Recorded.{recorded}
use Rattle.session_model.specs.Session.{Session}
use Rattle.session_model.specs.Value.{session_value}
use Rattle.session_model.specs.declared.record.Record.{Record as Kept}
use Rattle.session_model.proofs.FitLemmas.{session_value_fits}
use Rattle.session_runs.specs.History.{IsLegal, record_of}
use Rattle.session_runs.specs.Standing.{Entry, Standing}
use Rattle.session_core.specs.declared.opened.Opened.{Opened}
use Rattle.session_core.specs.Session.{Seen, IsJustOpened, history, keys_in, session_in}
use Rattle.session_desk.specs.Answers.{IsAt}
use Rattle.session_desk.specs.Opening.{AreJustOpened, AreOpened, AreOpenedOver, new_views}
use Rattle.session_desk.specs.Views.{Known, View, as_seen, openings_of}
use Rattle.manager_runner.specs.Ended.{HasRecord}
use Rattle.copland_cli.specs.Attested.{IsAttestation}
use Rattle.copland_cli.specs.Opened.{AreClosed}

-- a right record has a value of the phrase's shape
pub attestation : (Gives : Ask → List ℕ → Type 0) (Fails : Ask → BenchFault → Type 0) (keys : List (List ℕ × List ℕ)) (session : Session) (found : Record) → IsRightRecord Gives Fails session keys found → IsAttestation Gives Fails keys session found
attestation Gives Fails keys session (done trace answers bytes) right = record {
  answered = right.answered;
  traced = right.traced;
  value = session_value session.phrase session.root (record { nonce = session.nonce; answers = answers; keys = keys });
  evaluated = refl;
  shaped = session_value_fits session.phrase session.root (record { nonce = session.nonce; answers = answers; keys = keys });
  bundled = right.bundled;
}
attestation Gives Fails keys session (failed event fault trace) right = right

-- what each session was opened with
abbrev pub opened_with : {O : Type 0} → List (Seen O) → List (Option O)
opened_with sessions = map (λ seen. Some seen.opening) sessions

same_head : {A : Type 0} (x y : A) (xs ys : List A) → x ∷ xs ≡ y ∷ ys → x ≡ y
same_head x y xs ys e = cc

same_tail : {A : Type 0} (x y : A) (xs ys : List A) → x ∷ xs ≡ y ∷ ys → xs ≡ ys
same_tail x y xs ys e = cc

some_one : {A : Type 0} (x y : A) → Some x ≡ Some y → x ≡ y
some_one x y e = cc

suc_same : (n m : ℕ) → suc n ≡ suc m → n ≡ m
suc_same n m e = omega (arith, e)

new_openings : {O : Type 0} (desk : List TableId) (sessions : List (Seen O)) → length desk ≡ length sessions → openings_of (new_views desk sessions) ≡ opened_with sessions
new_openings [] [] same = refl
new_openings [] (seen ∷ sessions) same = absurd (omega (arith, same))
new_openings (cell ∷ desk) [] same = absurd (omega (arith, same))
new_openings {O = O} (cell ∷ desk) (seen ∷ sessions) same =
    ap (λ (rest : List (Option O)). Some seen.opening ∷ rest) (new_openings desk sessions (suc_same (length desk) (length sessions) same))

-- a list of zipped items grows at its end
pub zip_more : {A B : Type 0} (R : A → B → Type 0) (xs : List A) (ys : List B) (x : A) (y : B) → AllZip R xs ys → R x y → AllZip R (xs ++ x ∷ []) (ys ++ y ∷ [])
zip_more R [] [] x y h r = (r, tt)
zip_more R [] (z ∷ ys) x y h r = absurd h
zip_more R (z ∷ xs) [] x y h r = absurd h
zip_more R (a ∷ xs) (b ∷ ys) x y h r = (h.0, zip_more R xs ys x y h.1 r)

-- the last of a list, and those before it
last_there : {A : Type 0} (front : List A) (last : A) → slice_get (front ++ last ∷ []) (length front) ≡ Some last
last_there [] last = refl
last_there (x ∷ front) last = last_there front last

there_before : {A : Type 0} (front : List A) (last : A) (k : ℕ) (d : A) → k < length front → slice_get (front ++ last ∷ []) k ≡ Some (get_or front k d)
there_before [] last k d within = absurd (omega (arith, within))
there_before (x ∷ front) last zero d within = refl
there_before (x ∷ front) last (suc k) d within = there_before front last k d (omega (arith, within))

module _ {B : Type 0} (Gives : B → List Artefact → Ask → List ℕ → Type 0) (Fails : B → List Artefact → Ask → BenchFault → Type 0) (Starves : B → List Artefact → Ask → Type 0) (places : List PlaceEntry) (artefacts : List Artefact) (bench : B) where
  -- the sessions were just opened, over these places and artefacts and this bench
  abbrev pub AreOf : List CheckedSession → List (Seen (Opened B)) → Type 0
  AreOf those sessions = AllZip (λ one seen. IsJustOpened one places artefacts bench seen) those sessions

  pub just_opened : (those : List CheckedSession) (sessions : List (Seen (Opened B))) → AreOf those sessions → AreJustOpened sessions
  just_opened [] [] h = tt
  just_opened [] (seen ∷ sessions) h = absurd h
  just_opened (one ∷ those) [] h = tt
  just_opened (one ∷ those) (seen ∷ sessions) h = (h.0.items, just_opened those sessions h.1)

  pub opened_over : (those : List CheckedSession) (sessions : List (Seen (Opened B))) → AreOf those sessions → AreOpenedOver bench artefacts sessions
  opened_over [] [] h = tt
  opened_over [] (seen ∷ sessions) h = absurd h
  opened_over (one ∷ those) [] h = tt
  opened_over (one ∷ those) (seen ∷ sessions) h = ((h.0.of_bench, h.0.of_artefacts), opened_over those sessions h.1)

  pub as_many : (those : List CheckedSession) (sessions : List (Seen (Opened B))) → AreOf those sessions → length sessions ≡ length those
  as_many [] [] h = refl
  as_many [] (seen ∷ sessions) h = absurd h
  as_many (one ∷ those) [] h = absurd h
  as_many (one ∷ those) (seen ∷ sessions) h = ap (λ n. suc n) (as_many those sessions h.1)

  -- the law of records, for this bench over these artefacts
  abbrev pub RecordLaw : Type 0
  RecordLaw = (session : Session) (keys : List (List ℕ × List ℕ)) (entries : List Entry) (standing : Standing) (found : Record) → IsLegal (λ ask answer. Gives bench artefacts ask answer) (λ ask fault. Fails bench artefacts ask fault) (λ ask. Starves bench artefacts ask) session keys entries standing → record_of session standing standing.state ≡ Some found → IsRightRecord (λ ask answer. Gives bench artefacts ask answer) (λ ask fault. Fails bench artefacts ask fault) session keys found

  abbrev pub Has : Kept → View (Opened B) → Type 0
  Has = HasRecord (λ opening ask answer. Gives opening.bench.now opening.artefacts.now ask answer) (λ opening ask fault. Fails opening.bench.now opening.artefacts.now ask fault) (λ opening ask. Starves opening.bench.now opening.artefacts.now ask)

  -- of one session
  one_attested : (law : RecordLaw) (one : CheckedSession) (seen : Seen (Opened B)) (view : View (Opened B)) (found : Kept) → IsJustOpened one places artefacts bench seen → view.opening ≡ Some seen.opening → Has found view → IsAttestation (Gives bench artefacts) (Fails bench artefacts) (keys_of places) (session_of one) (recorded found)
  one_attested law one seen view found just knows has =
      let same : has.opening ≡ seen.opening = some_one has.opening seen.opening (sym has.opened ∙ knows) in
      let by_bench : has.opening.bench.now ≡ bench = ap (λ (o : Opened B). o.bench.now) same ∙ just.of_bench in
      let by_book : has.opening.artefacts.now ≡ artefacts = ap (λ (o : Opened B). o.artefacts.now) same ∙ just.of_artefacts in
      let entries = history (as_seen has.opening view.seen) in
      let legal_by = subst (λ (b : B). IsLegal (λ ask answer. Gives b has.opening.artefacts.now ask answer) (λ ask fault. Fails b has.opening.artefacts.now ask fault) (λ ask. Starves b has.opening.artefacts.now ask) (session_in has.opening) (keys_in has.opening) entries has.standing) by_bench has.legal in
      let legal = subst (λ (a : List Artefact). IsLegal (λ ask answer. Gives bench a ask answer) (λ ask fault. Fails bench a ask fault) (λ ask. Starves bench a ask) (session_in has.opening) (keys_in has.opening) entries has.standing) by_book legal_by in
      let right = law (session_in has.opening) (keys_in has.opening) entries has.standing (recorded found) legal has.is in
      let of_checked : has.opening.checked.now ≡ one = ap (λ (o : Opened B). o.checked.now) same ∙ just.of_checked in
      let of_places : has.opening.places.now ≡ places = ap (λ (o : Opened B). o.places.now) same ∙ just.of_places in
      let there = attestation (Gives bench artefacts) (Fails bench artefacts) (keys_in has.opening) (session_in has.opening) (recorded found) right in
      let at_places = subst (λ (p : List PlaceEntry). IsAttestation (Gives bench artefacts) (Fails bench artefacts) (keys_of p) (session_in has.opening) (recorded found)) of_places there in
      subst (λ (c : CheckedSession). IsAttestation (Gives bench artefacts) (Fails bench artefacts) (keys_of places) (session_of c) (recorded found)) of_checked at_places

  -- what is known of the first view, and of the views behind it
  first_of : (found : Kept) (view : View (Opened B)) (views : List (View (Opened B))) → IsAt 0 (Has found) (view ∷ views) → Has found view
  first_of found view views at = let same : at.view ≡ view = some_one at.view view (sym at.at) in subst (λ (v : View (Opened B)). Has found v) same at.is

  behind_of : (index : ℕ) (found : Kept) (view : View (Opened B)) (views : List (View (Opened B))) → IsAt (suc index) (Has found) (view ∷ views) → IsAt index (Has found) views
  behind_of index found view views at = record { view = at.view; at = at.at; is = at.is }

  -- of all
  all_attested : (law : RecordLaw) (those : List CheckedSession) (sessions : List (Seen (Opened B))) (views : List (View (Opened B))) (records : List Kept) → AreOf those sessions → openings_of views ≡ opened_with sessions → length records ≡ length sessions → ((at : ℕ) (found : Kept) → slice_get records at ≡ Some found → IsAt at (Has found) views) → AllZip (IsAttestation (Gives bench artefacts) (Fails bench artefacts) (keys_of places)) (map session_of those) (map recorded records)
  all_attested law [] [] views [] h knows many each = tt
  all_attested law [] [] views (found ∷ records) h knows many each = absurd (omega (arith, many))
  all_attested law [] (seen ∷ sessions) views records h knows many each = absurd h
  all_attested law (one ∷ those) [] views records h knows many each = absurd h
  all_attested law (one ∷ those) (seen ∷ sessions) views [] h knows many each = absurd (omega (arith, many))
  all_attested law (one ∷ those) (seen ∷ sessions) [] (found ∷ records) h knows many each = absurd (cc)
  all_attested law (one ∷ those) (seen ∷ sessions) (view ∷ views) (found ∷ records) h knows many each =
      let first : view.opening ≡ Some seen.opening = same_head view.opening (Some seen.opening) (openings_of views) (opened_with sessions) knows in
      let rest : openings_of views ≡ opened_with sessions = same_tail view.opening (Some seen.opening) (openings_of views) (opened_with sessions) knows in (
        one_attested law one seen view found h.0 first (first_of found view views (each 0 found refl)),
        all_attested law those sessions views records h.1 rest (suc_same (length records) (length sessions) many) (λ at other there. behind_of at other view views (each (suc at) other there)),
      )

  -- of what the workers' last pass has seen
  pub closed_attested : (law : RecordLaw) (those : List CheckedSession) (sessions : List (Seen (Opened B))) (many : ℕ) (desk : List TableId) (passes : List (Known (Opened B))) (records : List Kept) → AreOf those sessions → AreOpened sessions many desk passes → AreClosed (λ opening ask answer. Gives opening.bench.now opening.artefacts.now ask answer) (λ opening ask fault. Fails opening.bench.now opening.artefacts.now ask fault) (λ opening ask. Starves opening.bench.now opening.artefacts.now ask) (length desk) passes records → AllZip (IsAttestation (Gives bench artefacts) (Fails bench artefacts) (keys_of places)) (map session_of those) (map recorded records)
  closed_attested law those sessions many desk passes records just opened closed =
      let first = opened.each closed.number closed.first closed.one in
      let knows : openings_of closed.last.views ≡ opened_with sessions =
      closed.openings ∙ ap (λ (pass : Known (Opened B)). openings_of pass.views) first ∙ new_openings desk sessions opened.cells in
      all_attested law those sessions closed.last.views records just knows (closed.found.count ∙ opened.cells) closed.found.each

-- the passes but the last are fit where all are, and so is the last
pub fit_before : {B : Type 0} (Fit : Known (Opened B) → Type 0) (passes front : List (Known (Opened B))) (last : Known (Opened B)) → passes ≡ front ++ last ∷ [] → ((number : ℕ) (pass : Known (Opened B)) → slice_get passes number ≡ Some pass → Fit pass) → All Fit front
fit_before Fit passes front last cut each = λ k d within.
    each k (get_or front k d) (ap (λ (ps : List (Known (Opened _))). slice_get ps k) cut ∙ there_before front last k d within)

pub fit_last : {B : Type 0} (Fit : Known (Opened B) → Type 0) (passes front : List (Known (Opened B))) (last : Known (Opened B)) → passes ≡ front ++ last ∷ [] → ((number : ℕ) (pass : Known (Opened B)) → slice_get passes number ≡ Some pass → Fit pass) → Fit last
fit_last Fit passes front last cut each =
    each (length front) last (ap (λ (ps : List (Known (Opened _))). slice_get ps (length front)) cut ∙ last_there front last)

pub last_in : {B : Type 0} (passes front : List (Known (Opened B))) (last : Known (Opened B)) → passes ≡ front ++ last ∷ [] → slice_get passes (length front) ≡ Some last
last_in passes front last cut = ap (λ (ps : List (Known (Opened _))). slice_get ps (length front)) cut ∙ last_there front last
