-- What a hand is good for stays while its pass goes on.
use Rattle.std.proofs.Common.{◌≡◌, ℕ, zero, suc, inl, inr, List, [], ◌∷◌, ◌++◌, map, refl, sym, ◌∙◌, ap, subst, append_assoc}
use Rattle.std.proofs.lemmas.List.{map-append}
use Rattle.std.proofs.lemmas.Option.{slice_get-map}
use Rattle.std.proofs.lemmas.Bool.{ne_eqb}
use Rattle.std.proofs.lemmas.Bool.Decides.{eqb_tells}
use Rattle.std.specs.Prelude.{Bool, true, false, ◌&&◌, nat_eq, Option, None, Some, Result, Ok, Err, slice_get, slice_set}
use Rattle.std.specs.Option.{option_map}
use Rattle.bench_trait.specs.declared.ask.Ask.{Ask as Question}
use Rattle.bench_trait.specs.declared.bench.BenchFault.{BenchFault}
use Rattle.bench_trait.specs.declared.bench.MeasureError.{MeasureError}
use Rattle.bench_trait.specs.declared.bench.MeasureError.TheVariants as want
use Rattle.session_model.specs.declared.record.Record.{Record}
use Rattle.session_runs.specs.Standing.{opened}
use Rattle.session_runs.specs.History.{standing_after}
use Rattle.session_runs.specs.Flights.{is_result_of, HasNoResult}
use Rattle.session_book.specs.declared.entry.Move.{Move}
use Rattle.session_book.specs.declared.entry.Entry.{Entry}
use Rattle.session_book.specs.declared.entry.Entry.TheVariants as entry
use Rattle.session_book.specs.Entries.{entry_of}
use Rattle.session_core.specs.declared.opened.Opened.{Opened}
use Rattle.session_core.specs.Reading.{result_entry}
use Rattle.session_core.specs.Session.{Seen, session_in, keys_in, history, StandsAt, IsAwaited}
use Rattle.session_desk.specs.declared.hand.Hand.{Hand}
use Rattle.session_desk.specs.declared.hand.Turned.{Turned}
use Rattle.session_desk.specs.declared.hand.Turned.TheVariants as turned
use Rattle.session_desk.specs.declared.hand.Recorded.{Recorded}
use Rattle.session_desk.specs.declared.hand.Recorded.TheVariants as recorded
use Rattle.session_desk.specs.declared.hand.DeskError.{DeskError}
use Rattle.session_desk.specs.declared.hand.DeskError.TheVariants as desk
use Rattle.session_desk.specs.Views.{View, Known, own, as_seen, openings_of}
use Rattle.session_desk.specs.Taking.{Takes, Loses, ChangesOne, ChangesAt}
use Rattle.session_desk.specs.Answers.{IsLegalSeen, TurnTells, Turns, RecordTells, Records, OutcomeTells, Outcomes, Awaits, IsAt, IsHeld, IsForAnother, Questions, IsQuestion, Measures, IsMeasured}
use Rattle.session_desk.proofs.HandFacts.{FlightsStay, some_same}
use Rattle.session_desk.proofs.MoveFacts.{others_no_result}

-- ---- entries without a result

module _ (number event : ℕ) where
  no_result_joined : (xs ys : List Entry) → HasNoResult number event (map entry_of xs) → HasNoResult number event (map entry_of ys) → HasNoResult number event (map entry_of (xs ++ ys))
  no_result_joined [] ys none more = more
  no_result_joined (x ∷ xs) ys none more = (none.0, no_result_joined xs ys none.1 more)

  no_result_played : (step : Move) (made : List Entry) → made ≡ entry.Played number step ∷ [] → HasNoResult number event (map entry_of made)
  no_result_played step made is = subst (λ (l : List Entry). HasNoResult number event (map entry_of l)) (sym is) (refl, tt)

  no_result_idle : (made : List Entry) → made ≡ [] → HasNoResult number event (map entry_of made)
  no_result_idle made is = subst (λ (l : List Entry). HasNoResult number event (map entry_of l)) (sym is) tt

  never : (b : Bool) → (b && false) ≡ false
  never true = refl
  never false = refl

  of_another : (spent : ℕ) (measured : Result (List ℕ) MeasureError) → nat_eq spent event ≡ false → is_result_of number event (entry_of (result_entry number spent measured)) ≡ false
  of_another spent (Ok answer) other = ap (λ b. nat_eq number number && b) other ∙ never (nat_eq number number)
  of_another spent (Err (want.Fault fault)) other = ap (λ b. nat_eq number number && b) other ∙ never (nat_eq number number)
  of_another spent (Err want.NoMemory) other = ap (λ b. nat_eq number number && b) other ∙ never (nat_eq number number)

  no_result_another : (spent : ℕ) (measured : Result (List ℕ) MeasureError) (made : List Entry) → made ≡ result_entry number spent measured ∷ [] → nat_eq spent event ≡ false → HasNoResult number event (map entry_of made)
  no_result_another spent measured made is other =
      subst (λ (l : List Entry). HasNoResult number event (map entry_of l)) (sym is) (of_another spent measured other, tt)

-- ---- an ask in flight, over a call of its pass at its session

module _ {B : Type 0} (Gives : Opened B → Question → List ℕ → Type 0) (Fails : Opened B → Question → BenchFault → Type 0) (Starves : Opened B → Question → Type 0) (number event : ℕ) (flights : FlightsStay) where
  taken : (Tells : List Entry → Seen (Opened B) → Type 0) (old new : View (Opened B)) (t : Takes number (IsLegalSeen Gives Fails Starves) Tells old new) → HasNoResult number event (map entry_of t.made) → Awaits number event old → Awaits number event new
  taken Tells old new t none waits =
      let first : IsAwaited (as_seen t.opening old.seen) number event =
      subst (λ (o : Opened B). IsAwaited (as_seen o old.seen) number event) (some_same waits.opening t.opening (sym waits.opened ∙ t.opened)) waits.awaited in
      let stands : StandsAt (as_seen t.opening new.seen) t.holds.0 = t.holds.1.stands in
      let grown = ap (λ l. opened ∷ l) (ap (map entry_of) (t.seen ∙ append_assoc old.seen t.others t.made) ∙ map-append entry_of old.seen (t.others ++ t.made)) in
      let more : HasNoResult number event (map entry_of (t.others ++ t.made)) = no_result_joined number event t.others t.made (others_no_result number event t.others t.by_others) none in
      record {
        opening = t.opening;
        opened = t.opened_still;
        awaited = record {
          standing = t.holds.0;
          stands = stands;
          flies = flights (session_in t.opening) (keys_in t.opening) (history (as_seen t.opening old.seen)) (map entry_of (t.others ++ t.made)) first.standing t.holds.0 number event first.stands first.flies (subst (λ h. standing_after (session_in t.opening) (keys_in t.opening) h ≡ Some t.holds.0) grown stands) more;
        };
      }

  lost : (old new : View (Opened B)) → Loses old new → Awaits number event old → Awaits number event new
  lost old new l waits =
      record {
        opening = waits.opening;
        opened = l.opening_stays ∙ waits.opened;
        awaited = subst (λ (seen : List Entry). IsAwaited (as_seen waits.opening seen) number event) (sym l.seen_stays) waits.awaited;
      }

  module _ (index : ℕ) (old new : View (Opened B)) where
    over_turn : (answer : Turned) → Turns (IsLegalSeen Gives Fails Starves) index number answer old new → Awaits number event old → Awaits number event new
    over_turn turned.Moved t = taken (TurnTells index number turned.Moved) old new t (no_result_played number event t.tells.step t.made t.tells.plays.entry)
    over_turn (turned.ToMeasure ask hand) t = taken (TurnTells index number (turned.ToMeasure ask hand)) old new t (no_result_played number event t.tells.step t.made t.tells.plays.entry)
    over_turn turned.Waiting t = taken (TurnTells index number turned.Waiting) old new t (no_result_idle number event t.made t.tells.idle)
    over_turn turned.Finished t = taken (TurnTells index number turned.Finished) old new t (no_result_idle number event t.made t.tells.idle)
    over_turn turned.Busy l = lost old new l

    over_outcome : (answer : Result Record DeskError) → Outcomes (IsLegalSeen Gives Fails Starves) number answer old new → Awaits number event old → Awaits number event new
    over_outcome (Ok found) t = taken (OutcomeTells (Ok found)) old new t (no_result_idle number event t.made t.tells.idle)
    over_outcome (Err desk.NotFinished) t = taken (OutcomeTells (Err desk.NotFinished)) old new t (no_result_idle number event t.made t.tells.idle)
    over_outcome (Err desk.NoMemory) t = taken (OutcomeTells (Err desk.NoMemory)) old new t (no_result_idle number event t.made t.tells.idle)
    over_outcome (Err desk.Busy) l = lost old new l

    over_record : (spent : Hand) (measured : Result (List ℕ) MeasureError) (answer : Recorded) → nat_eq spent.event event ≡ false → Records (IsLegalSeen Gives Fails Starves) number spent measured answer old new → Awaits number event old → Awaits number event new
    over_record spent measured recorded.Kept other t = taken (RecordTells number spent.event measured true) old new t (no_result_another number event spent.event measured t.made t.tells.entry other)
    over_record spent measured recorded.Ended other t = taken (RecordTells number spent.event measured false) old new t (no_result_idle number event t.made t.tells.idle)
    over_record spent measured (recorded.Busy again back) other l = lost old new l.2

-- ---- one of many views

get_other : {A : Type 0} (xs : List A) (i at : ℕ) (y : A) → (at ≡ i → ⊥) → slice_get (slice_set xs i y) at ≡ slice_get xs at
get_other [] i at y other = refl
get_other (x ∷ xs) zero zero y other = absurd (other refl)
get_other (x ∷ xs) zero (suc at) y other = refl
get_other (x ∷ xs) (suc i) zero y other = refl
get_other (x ∷ xs) (suc i) (suc at) y other = get_other xs i at y (λ e. other (ap suc e))

get_same : {A : Type 0} (xs : List A) (i : ℕ) (x y : A) → slice_get xs i ≡ Some x → slice_get (slice_set xs i y) i ≡ Some y
get_same [] i x y at = absurd (cc)
get_same (z ∷ zs) zero x y at = refl
get_same (z ∷ zs) (suc i) x y at = get_same zs i x y at

module _ {O : Type 0} (Is : View O → Type 0) (index at : ℕ) (Changes : View O → View O → Type 0) (before after : List (View O)) (one : ChangesOne index Changes before after) (there : IsAt at Is before) where
  here_still : at ≡ index → (Is one.old → Is one.new) → IsAt at Is after
  here_still same stays =
      record {
        view = one.new;
        at = ap (λ vs. slice_get vs at) one.others_stay ∙ ap (slice_get (slice_set before index one.new)) same ∙ get_same before index one.old one.new one.was;
        is = stays (subst (λ (v : View O). Is v) (some_same there.view one.old (sym there.at ∙ ap (slice_get before) same ∙ one.was)) there.is);
      }

  elsewhere_still : (at ≡ index → ⊥) → IsAt at Is after
  elsewhere_still other =
      record { view = there.view; at = ap (λ vs. slice_get vs at) one.others_stay ∙ get_other before index at one.new other ∙ there.at; is = there.is }

  at_still : (at ≡ index → Is one.old → Is one.new) → IsAt at Is after
  at_still stays = elim (eqb_tells at index) [ inl same ↦ here_still same.1 (stays same.1) | inr other ↦ elsewhere_still other.1 ]

-- ---- a hand, over a call of its pass

module _ {B : Type 0} (Gives : Opened B → Question → List ℕ → Type 0) (Fails : Opened B → Question → BenchFault → Type 0) (Starves : Opened B → Question → Type 0) (flights : FlightsStay) (hand : Hand) (before after : Known (Opened B)) (held : IsHeld before hand) where
  by_number : after.number ≡ before.number → IsAt hand.session (Awaits before.number hand.event) after.views → IsHeld after hand
  by_number same is = subst (λ (n : ℕ). IsAt hand.session (Awaits n hand.event) after.views) (sym same) is

  pub held_over_turn : (index : ℕ) (answer : Turned) → ChangesAt index (Turns (IsLegalSeen Gives Fails Starves) index before.number answer) before after → IsHeld after hand
  held_over_turn index answer told =
      by_number told.number_stays
      (at_still (Awaits before.number hand.event) index hand.session (Turns (IsLegalSeen Gives Fails Starves) index before.number answer) before.views after.views told.one held
      (λ same. over_turn Gives Fails Starves before.number hand.event flights index told.one.old told.one.new answer told.one.changes))

  pub held_over_outcome : (index : ℕ) (answer : Result Record DeskError) → ChangesAt index (Outcomes (IsLegalSeen Gives Fails Starves) before.number answer) before after → IsHeld after hand
  held_over_outcome index answer told =
      by_number told.number_stays
      (at_still (Awaits before.number hand.event) index hand.session (Outcomes (IsLegalSeen Gives Fails Starves) before.number answer) before.views after.views told.one held
      (λ same. over_outcome Gives Fails Starves before.number hand.event flights index told.one.old told.one.new answer told.one.changes))

  pub held_over_record : (spent : Hand) (measured : Result (List ℕ) MeasureError) (answer : Recorded) → IsForAnother spent hand → ChangesAt spent.session (Records (IsLegalSeen Gives Fails Starves) before.number spent measured answer) before after → IsHeld after hand
  held_over_record spent measured answer another told =
      by_number told.number_stays
      (at_still (Awaits before.number hand.event) spent.session hand.session (Records (IsLegalSeen Gives Fails Starves) before.number spent measured answer) before.views after.views told.one held
      (λ same. over_record Gives Fails Starves before.number hand.event flights spent.session told.one.old told.one.new spent measured answer (ne_eqb spent.event hand.event (another (sym same))) told.one.changes))

-- ---- what rests on the openings alone

module _ {O : Type 0} (Is : View O → Type 0) (at : ℕ) (before after : List (View O)) (same : openings_of after ≡ openings_of before) (there : IsAt at Is before) (stays : (v w : View O) → w.opening ≡ v.opening → Is v → Is w) where
  opening_at : (found : Option (View O)) → slice_get after at ≡ found → option_map (λ (v : View O). v.opening) found ≡ Some there.view.opening
  opening_at found is =
      ap (option_map (λ (v : View O). v.opening)) (sym is)
      ∙ sym (slice_get-map (λ (v : View O). v.opening) after at)
      ∙ ap (λ os. slice_get os at) same
      ∙ slice_get-map (λ (v : View O). v.opening) before at
      ∙ ap (option_map (λ (v : View O). v.opening)) there.at

  by_found : (found : Option (View O)) → slice_get after at ≡ found → option_map (λ (v : View O). v.opening) found ≡ Some there.view.opening → IsAt at Is after
  by_found None is e = absurd (cc)
  by_found (Some view) is e = record { view = view; at = is; is = stays there.view view (some_same view.opening there.view.opening e) there.is }

  pub at_same_opening : IsAt at Is after
  at_same_opening = by_found (slice_get after at) refl (opening_at (slice_get after at) refl)

pub question_still : {B : Type 0} (hand : Hand) (ask : Question) (before after : Known (Opened B)) → openings_of after.views ≡ openings_of before.views → IsQuestion before hand ask → IsQuestion after hand ask
question_still {B} hand ask before after same asked =
    at_same_opening (Questions ask hand.event) hand.session before.views after.views same asked
    (λ (v w : View (Opened B)) e q. record { opening = q.opening; opened = e ∙ q.opened; own = q.own })

pub measured_still : {B : Type 0} (Gives : Opened B → Question → List ℕ → Type 0) (Fails : Opened B → Question → BenchFault → Type 0) (Starves : Opened B → Question → Type 0) (hand : Hand) (measured : Result (List ℕ) MeasureError) (before after : Known (Opened B)) → openings_of after.views ≡ openings_of before.views → IsMeasured Gives Fails Starves before hand measured → IsMeasured Gives Fails Starves after hand measured
measured_still {B} Gives Fails Starves hand measured before after same is =
    at_same_opening (Measures Gives Fails Starves hand.event measured) hand.session before.views after.views same is
    (λ (v w : View (Opened B)) e m. record { opening = m.opening; ask = m.ask; opened = e ∙ m.opened; own = m.own; fits = m.fits })
