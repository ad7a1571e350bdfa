-- What follows from the answers of a desk.
use Rattle.std.proofs.Common.{◌≡◌, ℕ, zero, suc, List, [], ◌∷◌, ◌++◌, map, eq-eqb, refl, sym, ◌∙◌, ap, subst}
use Rattle.std.specs.Prelude.{Bool, true, false, ◌&&◌, ◌||◌, nat_eq, Option, None, Some, Result, Ok, Err, slice_get, slice_set}
use Rattle.std.specs.Option.{option_map}
use Rattle.std.proofs.lemmas.Option.{slice_get-map}
use Rattle.std.proofs.lemmas.List.{map-set}
use Rattle.bench_trait.specs.declared.artefacts.Artefact.{Artefact}
use Rattle.bench_trait.specs.declared.ask.Ask.{Ask as Question}
use Rattle.bench_trait.specs.declared.bench.BenchFault.{BenchFault}
use Rattle.bench_trait.specs.declared.bench.MeasureError.{MeasureError}
use Rattle.bench_trait.specs.Asking.{question}
use Rattle.bench_trait.specs.Bench.{MatchMeasured}
use Rattle.session_model.specs.declared.record.Record.{Record}
use Rattle.session_runs.specs.Standing.{Standing, is_in_flight}
use Rattle.session_book.specs.declared.entry.Entry.{Entry}
use Rattle.session_core.specs.declared.opened.Opened.{Opened}
use Rattle.session_core.specs.Session.{Seen, session_in, StandsAt, IsAwaited}
use Rattle.session_desk.specs.declared.hand.Hand.{Hand}
use Rattle.session_desk.specs.declared.hand.Turned.{Turned}
use Rattle.session_desk.specs.declared.hand.Turned.TheVariants as turned
use Rattle.session_desk.specs.declared.hand.Recorded.{Recorded}
use Rattle.session_desk.specs.declared.hand.Recorded.TheVariants as recorded
use Rattle.session_desk.specs.declared.hand.DeskError.{DeskError}
use Rattle.session_desk.specs.declared.hand.DeskError.TheVariants as desk
use Rattle.session_desk.specs.Views.{View, Known, as_seen, openings_of}
use Rattle.session_desk.specs.Taking.{Takes, ChangesOne, ChangesAt}
use Rattle.session_desk.specs.Answers.{Asks, Turns, TurnTells, Records, Outcomes, Awaits, IsAt, Questions, Measures, Hands, IsOver, AreOver, IsQuestion, IsHeld, IsMeasured, Again}

some_same : {A : Type 0} (a b : A) → Some a ≡ Some b → a ≡ b
some_same a b e = cc

set_same : {A : Type 0} (xs : List A) (i : ℕ) (x : A) → slice_get xs i ≡ Some x → slice_set xs i x ≡ xs
set_same [] i x at = refl
set_same (y ∷ ys) zero x at = ap (λ z. z ∷ ys) (sym (some_same y x at))
set_same (y ∷ ys) (suc i) x at = ap (λ zs. y ∷ zs) (set_same ys i x at)

get_set : {A : Type 0} (xs : List A) (i : ℕ) (x y : A) → slice_get xs i ≡ Some x → slice_get (slice_set xs i y) i ≡ Some y
get_set [] i x y at = absurd (cc)
get_set (z ∷ zs) zero x y at = refl
get_set (z ∷ zs) (suc i) x y at = get_set zs i x y at

-- ---- what a session was opened with stays

openings_stay : {O : Type 0} (index : ℕ) (Changes : View O → View O → Type 0) (before after : List (View O)) → ((old new : View O) → Changes old new → new.opening ≡ old.opening) → ChangesOne index Changes before after → openings_of after ≡ openings_of before
openings_stay {O} index Changes before after stays one =
    ap openings_of one.others_stay
    ∙ map-set (λ (v : View O). v.opening) before index one.new
    ∙ ap (slice_set (openings_of before) index) (stays one.old one.new one.changes)
    ∙ set_same (openings_of before) index one.old.opening (slice_get-map (λ (v : View O). v.opening) before index ∙ ap (option_map (λ (v : View O). v.opening)) one.was)

module _ {B : Type 0} (Holds : Seen (Opened B) → Type 0) (index number : ℕ) where
  turn_stays : (answer : Turned) (old new : View (Opened B)) → Turns Holds index number answer old new → new.opening ≡ old.opening
  turn_stays turned.Moved old new t = t.opened_still ∙ sym t.opened
  turn_stays (turned.ToMeasure ask hand) old new t = t.opened_still ∙ sym t.opened
  turn_stays turned.Waiting old new t = t.opened_still ∙ sym t.opened
  turn_stays turned.Finished old new t = t.opened_still ∙ sym t.opened
  turn_stays turned.Busy old new t = t.opening_stays

  record_stays : (hand : Hand) (measured : Result (List ℕ) MeasureError) (answer : Recorded) (old new : View (Opened B)) → Records Holds number hand measured answer old new → new.opening ≡ old.opening
  record_stays hand measured recorded.Kept old new t = t.opened_still ∙ sym t.opened
  record_stays hand measured recorded.Ended old new t = t.opened_still ∙ sym t.opened
  record_stays hand measured (recorded.Busy again back) old new t = t.2.opening_stays

  outcome_stays : (answer : Result Record DeskError) (old new : View (Opened B)) → Outcomes Holds number answer old new → new.opening ≡ old.opening
  outcome_stays (Ok found) old new t = t.opened_still ∙ sym t.opened
  outcome_stays (Err desk.NotFinished) old new t = t.opened_still ∙ sym t.opened
  outcome_stays (Err desk.NoMemory) old new t = t.opened_still ∙ sym t.opened
  outcome_stays (Err desk.Busy) old new t = t.opening_stays

  module _ (before after : List (View (Opened B))) where
    pub turn_openings : (answer : Turned) → ChangesOne index (Turns Holds index number answer) before after → openings_of after ≡ openings_of before
    turn_openings answer one = openings_stay index (Turns Holds index number answer) before after (turn_stays answer) one

    pub record_openings : (hand : Hand) (measured : Result (List ℕ) MeasureError) (answer : Recorded) → ChangesOne index (Records Holds number hand measured answer) before after → openings_of after ≡ openings_of before
    record_openings hand measured answer one = openings_stay index (Records Holds number hand measured answer) before after (record_stays hand measured answer) one

    pub outcome_openings : (answer : Result Record DeskError) → ChangesOne index (Outcomes Holds number answer) before after → openings_of after ≡ openings_of before
    outcome_openings answer one = openings_stay index (Outcomes Holds number answer) before after (outcome_stays answer) one

-- ---- the hand of an ask

flies_first : (event pass : ℕ) (rest : List (ℕ × ℕ)) → is_in_flight ((event, pass) ∷ rest) pass event ≡ true
flies_first event pass rest =
    ap (λ b. (b && nat_eq pass pass) || is_in_flight rest pass event) (eq-eqb event event refl)
    ∙ ap (λ b. (true && b) || is_in_flight rest pass event) (eq-eqb pass pass refl)

module _ {B : Type 0} (Holds : Seen (Opened B) → Type 0) (index number : ℕ) (ask : Question) (hand : Hand) (old new : View (Opened B)) (t : Takes number Holds (TurnTells index number (turned.ToMeasure ask hand)) old new) where
  awaits : Awaits number hand.event new
  awaits =
      record {
        opening = t.opening;
        opened = t.opened_still;
        awaited = record {
          standing = t.tells.later;
          stands = subst (λ l. StandsAt (as_seen t.opening l) t.tells.later) (sym t.seen) t.tells.later_stands;
          flies = subst (λ f. is_in_flight f number hand.event ≡ true) (sym t.tells.flies) (subst (λ e. is_in_flight ((ask.event, number) ∷ t.tells.plays.standing.in_flight) number e ≡ true) (sym t.tells.of_event) (flies_first ask.event number t.tells.plays.standing.in_flight));
        };
      }

  questions : Questions ask hand.event new
  questions =
      record {
        opening = t.opening;
        opened = t.opened_still;
        own = subst (λ e. question (session_in t.opening).phrase (session_in t.opening).root (session_in t.opening).nonce e ≡ Some ask) (sym t.tells.of_event) t.tells.own;
      }

module _ {B : Type 0} (Holds : Seen (Opened B) → Type 0) (index number : ℕ) (before after : List (View (Opened B))) where
  pub turn_hands : (answer : Turned) → ChangesOne index (Turns Holds index number answer) before after → Hands answer (record { number = number; views = after })
  turn_hands turned.Moved one = tt
  turn_hands (turned.ToMeasure ask hand) one =
      let t = one.changes in
      let there = ap (λ vs. slice_get vs hand.session) one.others_stay ∙ ap (slice_get (slice_set before index one.new)) t.tells.of_session ∙ get_set before index one.old one.new one.was in
      (record { view = one.new; at = there; is = awaits Holds index number ask hand one.old one.new t }, record { view = one.new; at = there; is = questions Holds index number ask hand one.old one.new t })
  turn_hands turned.Waiting one = tt
  turn_hands turned.Finished one = tt
  turn_hands turned.Busy one = tt

-- ---- what was measured

over_at : {B : Type 0} (bench : B) (artefacts : List Artefact) (openings : List (Option (Opened B))) (k : ℕ) (opening : Opened B) → AreOver bench artefacts openings → slice_get openings k ≡ Some (Some opening) → (opening.bench.now ≡ bench) × (opening.artefacts.now ≡ artefacts)
over_at bench artefacts [] k opening over at = absurd (cc)
over_at bench artefacts (o ∷ os) zero opening over at = subst (λ x. IsOver bench artefacts x) (some_same o (Some opening) at) over.0
over_at bench artefacts (o ∷ os) (suc k) opening over at = over_at bench artefacts os k opening over.1 at

pub may_record : {B : Type 0} (Gives : B → List Artefact → Question → List ℕ → Type 0) (Fails : B → List Artefact → Question → BenchFault → Type 0) (Starves : B → List Artefact → Question → Type 0) (bench : B) (artefacts : List Artefact) (pass : Known (Opened B)) (hand : Hand) (ask : Question) (measured : Result (List ℕ) MeasureError)
    → AreOver bench artefacts (openings_of pass.views)
    → IsQuestion pass hand ask
    → MatchMeasured measured (Gives bench artefacts ask) (Fails bench artefacts ask) (Starves bench artefacts ask)
    → IsMeasured (λ o. Gives o.bench.now o.artefacts.now) (λ o. Fails o.bench.now o.artefacts.now) (λ o. Starves o.bench.now o.artefacts.now) pass hand measured
may_record {B} Gives Fails Starves bench artefacts pass hand ask measured over asked fits =
    let q = asked.is in
    let at = slice_get-map (λ (v : View (Opened B)). v.opening) pass.views hand.session ∙ ap (option_map (λ (v : View (Opened B)). v.opening)) asked.at ∙ ap Some q.opened in
    let same = over_at bench artefacts (openings_of pass.views) hand.session q.opening over at in
    let here : MatchMeasured measured (Gives q.opening.bench.now artefacts ask) (Fails q.opening.bench.now artefacts ask) (Starves q.opening.bench.now artefacts ask) =
    (let P : B → Type 0 = λ (b : B). MatchMeasured measured (Gives b artefacts ask) (Fails b artefacts ask) (Starves b artefacts ask) in subst P (sym same.0) fits) in
    let now : MatchMeasured measured (Gives q.opening.bench.now q.opening.artefacts.now ask) (Fails q.opening.bench.now q.opening.artefacts.now ask) (Starves q.opening.bench.now q.opening.artefacts.now ask) =
    (let P : List Artefact → Type 0 = λ (a : List Artefact). MatchMeasured measured (Gives q.opening.bench.now a ask) (Fails q.opening.bench.now a ask) (Starves q.opening.bench.now a ask) in subst P (sym same.1) here) in
    record {
      view = asked.view;
      at = asked.at;
      is = record { opening = q.opening; ask = ask; opened = q.opened; own = q.own; fits = now };
    }

-- ---- what comes back

module _ {B : Type 0} (Holds : Seen (Opened B) → Type 0) (Gives : Opened B → Question → List ℕ → Type 0) (Fails : Opened B → Question → BenchFault → Type 0) (Starves : Opened B → Question → Type 0) (before after : Known (Opened B)) (hand : Hand) (measured : Result (List ℕ) MeasureError) (held : IsHeld before hand) (is : IsMeasured Gives Fails Starves before hand measured) where
  pub record_again : (answer : Recorded) → ChangesAt hand.session (Records Holds before.number hand measured answer) before after → Again Gives Fails Starves answer after
  record_again recorded.Kept told = tt
  record_again recorded.Ended told = tt
  record_again (recorded.Busy again back) told =
      let one = told.one in
      let lost = one.changes.2 in
      let there = ap (λ vs. slice_get vs hand.session) one.others_stay ∙ get_set before.views hand.session one.old one.new one.was in
      let awaits = subst (λ (v : View (Opened B)). Awaits before.number hand.event v) (some_same held.view one.old (sym held.at ∙ one.was)) held.is in
      let measures = subst (λ (v : View (Opened B)). Measures Gives Fails Starves hand.event measured v) (some_same is.view one.old (sym is.at ∙ one.was)) is.is in
      let held_now : IsHeld after hand =
      record {
        view = one.new;
        at = there;
        is = record {
          opening = awaits.opening;
          opened = lost.opening_stays ∙ awaits.opened;
          awaited = subst (λ (n : ℕ). IsAwaited (as_seen awaits.opening one.new.seen) n hand.event) (sym told.number_stays) (subst (λ (l : List Entry). IsAwaited (as_seen awaits.opening l) before.number hand.event) (sym lost.seen_stays) awaits.awaited);
        };
      } in
      let is_now : IsMeasured Gives Fails Starves after hand measured =
      record {
        view = one.new;
        at = there;
        is = record { opening = measures.opening; ask = measures.ask; opened = lost.opening_stays ∙ measures.opened; own = measures.own; fits = measures.fits };
      } in (
        subst (λ (h : Hand). IsHeld after h) (sym one.changes.0) held_now,
        subst (λ (h : Hand). IsMeasured Gives Fails Starves after h back) (sym one.changes.0) (subst (λ (m : Result (List ℕ) MeasureError). IsMeasured Gives Fails Starves after hand m) (sym one.changes.1) is_now),
      )
