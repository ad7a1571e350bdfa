-- A session over links takes one of the entries that are candidates.
use Rattle.std.proofs.Common.{◌≡◌, ℕ, zero, suc, ◌+◌, List, [], ◌∷◌, ◌++◌, length, refl, sym, ◌∙◌, ap, subst, arith}
use Rattle.std.specs.Prelude.{Option, None, Some, Result, Ok, Err, map, slice_get}
use Rattle.std.proofs.lemmas.Option.{none-some, same_Some}
use Rattle.std.proofs.lemmas.List.{map-append}
use Rattle.bench_trait.specs.declared.bench.MeasureError.{MeasureError}
use Rattle.bench_trait.specs.declared.bench.MeasureError.TheVariants.{Fault, NoMemory}
use Rattle.session_runs.specs.Standing.{Move, Entry, opened, played, Standing, next}
use Rattle.session_runs.specs.History.{standing_after}
use Rattle.session_runs.specs.MoveOrder.{asks_in_order}
use Rattle.session_runs.specs.Touches.{touch_of, sent_by}
use Rattle.session_runs.specs.Schedule.{with_entry as with_entry_of, with_choice, nth_candidate, result_entry, results_first}
use Rattle.session_runs.specs.Played.{IsWalked as IsOfTable, AreWalked}
use Rattle.session_runs.proofs.HistoryLaws.{after_more}
use Rattle.session_book.specs.declared.entry.Entry.{Entry as Kept}
use Rattle.session_book.specs.declared.entry.Move.{Move as KeptMove}
use Rattle.session_book.specs.declared.entry.Entry.TheVariants as kept
use Rattle.session_book.specs.Entries.{entry_of, move_of}
use Rattle.session_core.specs.declared.opened.Opened.{Opened}
use Rattle.session_core.specs.Session.{Seen, with_entry, session_in, keys_in, places_in, history, StandsAt}
use Rattle.session_core.specs.Reading.{result_entry as kept_result}
use Rattle.session_walk.specs.Sessions.{walked_in}
use Rattle.wire_manager.specs.Messages.{Message, message_by, with_message}
use Rattle.wire_manager.specs.Linked.{wire_moves}
use Rattle.wire_manager.specs.Wire.{Wire, Sends, sent_with, sent_again}
use Rattle.wire_manager.specs.WireSchedule.{Linked, with_sent, index_of_new, message_of_entry, entered, wire_entries}
use Rattle.wire_walk.specs.declared.flight.Flight.{Flight}
use Rattle.wire_walk.specs.UnderWay.{sent_at, linked_in, AreBelow, AreOfZero, IsByZero, AreByZero, IsWalked, TakesEntry}
use Rattle.wire_walk.proofs.FlightLemmas.{linked_is, flown}
use Rattle.wire_walk.proofs.CameLemmas.{flown_as}
use Rattle.wire_walk.proofs.ZeroLemmas.{zero_next, by_zero_more}

abbrev some_entry : Entry → Option Entry
some_entry entry = Some entry

-- ---- candidates

asked_at : (results : ℕ → Result (List ℕ) MeasureError) (asks : List (ℕ × ℕ)) (moves : List Move) (index : ℕ) (asked : ℕ × ℕ) → slice_get asks index ≡ Some asked → nth_candidate (results_first results asks moves) index ≡ Some (result_entry asked.0 (results asked.0))
asked_at results [] moves index asked e = absurd (none-some asked e)
asked_at results (ask ∷ asks) moves zero asked e = ap (λ (a : ℕ × ℕ). some_entry (result_entry a.0 (results a.0))) (same_Some ask asked e)
asked_at results (ask ∷ asks) moves (suc index) asked e = asked_at results asks moves index asked e

move_at : (results : ℕ → Result (List ℕ) MeasureError) (moves : List Move) (index : ℕ) (move : Move) → slice_get moves index ≡ Some move → nth_candidate (results_first results [] moves) index ≡ Some (played 0 move)
move_at results [] index move e = absurd (none-some move e)
move_at results (first ∷ rest) zero move e = ap (λ m. some_entry (played 0 m)) (same_Some first move e)
move_at results (first ∷ rest) (suc index) move e = move_at results rest index move e

behind_asks : (results : ℕ → Result (List ℕ) MeasureError) (asks : List (ℕ × ℕ)) (moves : List Move) (index : ℕ) (move : Move) → slice_get moves index ≡ Some move → nth_candidate (results_first results asks moves) (length asks + index) ≡ Some (played 0 move)
behind_asks results [] moves index move e =
    ap (λ k. nth_candidate (results_first results [] moves) k) (nothing_before index) ∙ move_at results moves index move e
  where
    nothing_before : (k : ℕ) → 0 + k ≡ k
    nothing_before k = omega arith
behind_asks results (ask ∷ asks) moves index move e =
    ap (λ k. nth_candidate (results_first results (ask ∷ asks) moves) k) (one_before (length asks) index) ∙ behind_asks results asks moves index move e
  where
    one_before : (n k : ℕ) → suc n + k ≡ suc (n + k)
    one_before n k = omega arith

pub first_length : (results : ℕ → Result (List ℕ) MeasureError) (asks : List (ℕ × ℕ)) (moves : List Move) → length (results_first results asks moves) ≡ length asks + length moves
first_length results [] [] = omega arith
first_length results [] (move ∷ moves) = omega (arith, first_length results [] moves)
first_length results (ask ∷ asks) moves = omega (arith, first_length results asks moves)

is_result : (event : ℕ) (r : Result (List ℕ) MeasureError) → result_entry event r ≡ entry_of (kept_result 0 event r)
is_result event (Ok bytes) = refl
is_result event (Err (Fault fault)) = refl
is_result event (Err NoMemory) = refl

pub result_by_zero : (event : ℕ) (r : Result (List ℕ) MeasureError) → IsByZero (entry_of (kept_result 0 event r))
result_by_zero event (Ok bytes) = refl
result_by_zero event (Err (Fault fault)) = refl
result_by_zero event (Err NoMemory) = refl

sends_none : (standing : Standing) (event : ℕ) (r : Result (List ℕ) MeasureError) → message_of_entry standing (entry_of (kept_result 0 event r)) ≡ None
sends_none standing event (Ok bytes) = refl
sends_none standing event (Err (Fault fault)) = refl
sends_none standing event (Err NoMemory) = refl

-- ---- what a table has

last_walked : (results : ℕ → Result (List ℕ) MeasureError) (entries : List Entry) (entry : Entry) → AreWalked results (entries ++ entry ∷ []) → IsOfTable results entry
last_walked results [] entry w = w.0
last_walked results (one ∷ entries) entry w = last_walked results entries entry w.1

pub but_last : (results : ℕ → Result (List ℕ) MeasureError) (entries : List Entry) (entry : Entry) → AreWalked results (entries ++ entry ∷ []) → AreWalked results entries
but_last results [] entry w = tt
but_last results (one ∷ entries) entry w = (w.0, but_last results entries entry w.1)

table_has : (results : ℕ → Result (List ℕ) MeasureError) (event : ℕ) (r : Result (List ℕ) MeasureError) → IsOfTable results (entry_of (kept_result 0 event r)) → results event ≡ r
table_has results event (Ok bytes) w = w.1
table_has results event (Err (Fault fault)) w = w.1
table_has results event (Err NoMemory) w = w.1

sent_new : (m : Option Message) (count : ℕ) (sent : List ℕ) → sent_with m count sent ≡ sent_again (index_of_new m count) sent
sent_new None count sent = refl
sent_new (Some m) count sent = refl

-- ---- an entry more

module _ {B : Type 0} where
  pub history_more : (seen : Seen (Opened B)) (one : Kept) → history (with_entry one seen) ≡ history seen ++ entry_of one ∷ []
  history_more seen one = ap (λ es. opened ∷ es) (map-append entry_of seen.items (one ∷ []))

  pub next_is : (old new : Seen (Opened B)) (one : Kept) → new ≡ with_entry one old → StandsAt old (walked_in old).standing → StandsAt new (walked_in new).standing → next (session_in old.opening) (keys_in old.opening) (walked_in old).standing (entry_of one) ≡ Some (walked_in new).standing
  next_is old new one is stood stands =
      subst (λ n. StandsAt n (walked_in n).standing → next (session_in old.opening) (keys_in old.opening) (walked_in old).standing (entry_of one) ≡ Some (walked_in n).standing) (sym is)
      (λ then_stands.
      sym (after_more (session_in old.opening) (keys_in old.opening) (history old) (walked_in old).standing (entry_of one) stood)
      ∙ (ap (λ h. standing_after (session_in old.opening) (keys_in old.opening) h) (sym (history_more old one)) ∙ then_stands))
      stands

  pub chosen_is : (old new : Seen (Opened B)) (one : Kept) → new ≡ with_entry one old → StandsAt old (walked_in old).standing → StandsAt new (walked_in new).standing → walked_in new ≡ with_choice (keys_in old.opening) (walked_in old) (Some (entry_of one))
  chosen_is old new one is stood stands =
      subst (λ n. StandsAt n (walked_in n).standing → walked_in n ≡ with_choice (keys_in old.opening) (walked_in old) (Some (entry_of one))) (sym is)
      (λ then_stands.
      let n = with_entry one old in
      (λ i. record { session = session_in old.opening; history = (history_more old one) i; standing = (walked_in n).standing })
      ∙ sym (ap (λ o. with_entry_of (walked_in old) (entry_of one) o) (next_is old n one refl stood then_stands)))
      stands

  -- what holds of the pass
  pub zeros_more : (old new : Seen (Opened B)) (one : Kept) → new ≡ with_entry one old → StandsAt old (walked_in old).standing → StandsAt new (walked_in new).standing → AreOfZero (walked_in old).standing.in_flight → IsByZero (entry_of one) → AreOfZero (walked_in new).standing.in_flight
  zeros_more old new one is stood stands zeros by =
      zero_next (session_in old.opening) (keys_in old.opening) (walked_in old).standing (entry_of one) (walked_in new).standing zeros by (next_is old new one is stood stands)

  pub by_zero_then : (old new : Seen (Opened B)) (one : Kept) → new ≡ with_entry one old → AreByZero (history old) → IsByZero (entry_of one) → AreByZero (history new)
  by_zero_then old new one is all by =
      subst (λ n. AreByZero (history n)) (sym is) (subst (λ h. AreByZero h) (sym (history_more old one)) (by_zero_more (history old) (entry_of one) all by))

  table_then : (results : ℕ → Result (List ℕ) MeasureError) (old new : Seen (Opened B)) (one : Kept) → new ≡ with_entry one old → AreWalked results (history new) → AreWalked results (history old ++ entry_of one ∷ [])
  table_then results old new one is agrees =
      subst (λ h. AreWalked results h) (history_more old one) (subst (λ n. AreWalked results (history n)) is agrees)

  -- a result
  pub takes_result : (old new : Wire (Opened B)) (index event pass : ℕ) (measured : Result (List ℕ) MeasureError) → new.seen ≡ with_entry (kept_result 0 event measured) old.seen → StandsAt old.seen (walked_in old.seen).standing → StandsAt new.seen (walked_in new.seen).standing → new.messages ≡ old.messages → new.sent ≡ old.sent → slice_get (asks_in_order (walked_in old.seen).standing.in_flight) index ≡ Some (event, pass) → (flight : Flight) → TakesEntry (places_in old.seen.opening) (keys_in old.seen.opening) index (linked_in old flight) (linked_in new flight)
  takes_result old new index event pass measured is stood stands messages sent there flight = record {
    grows = λ results agrees. but_last results (history old.seen) (entry_of (kept_result 0 event measured)) (table_then results old.seen new.seen (kept_result 0 event measured) is agrees);
    takes = λ results agrees.
        let one = kept_result 0 event measured in
        let entry = entry_of one in
        let walked = walked_in old.seen in
        let linked = linked_in old flight in
        let same : results event ≡ measured = table_has results event measured (last_walked results (history old.seen) entry (table_then results old.seen new.seen one is agrees)) in
        let chosen : nth_candidate (wire_entries (places_in old.seen.opening) results linked) index ≡ Some entry = asked_at results (asks_in_order walked.standing.in_flight) (wire_moves (places_in old.seen.opening) walked.standing old.messages) index (event, pass) there ∙ (ap (λ r. some_entry (result_entry event r)) same ∙ ap (λ x. some_entry x) (is_result event measured)) in
        ap (λ o. entered (keys_in old.seen.opening) linked o) chosen
        ∙ (ap (λ m. with_sent (index_of_new m (length old.messages)) (record linked { walked = with_choice (keys_in old.seen.opening) walked (Some entry); messages = with_message old.messages m })) (sends_none walked.standing event measured)
        ∙ linked_is (record linked { walked = with_choice (keys_in old.seen.opening) walked (Some entry) }) (linked_in new flight) (sym (chosen_is old.seen new.seen one is stood stands)) (sym messages) (ap (λ xs. length xs) (sym sent)) (ap (λ xs. map (sent_at xs) flight.frames.items) (sym sent)) refl refl);
  }

  -- a move
  move_flies : (old new : Wire (Opened B)) (before after : Flight) (step : KeptMove) → new.seen ≡ with_entry (kept.Played 0 step) old.seen → StandsAt old.seen (walked_in old.seen).standing → StandsAt new.seen (walked_in new.seen).standing → Sends (walked_in old.seen).standing (move_of step) old.messages new.messages old.sent new.sent → after.frames.items ≡ flown old.sent new.sent before.frames.items → after.lost ≡ before.lost → after.stayed ≡ before.stayed → AreBelow (length old.sent) before.frames.items → (linked_in new after ≡ entered (keys_in old.seen.opening) (linked_in old before) (Some (played 0 (move_of step)))) × AreBelow (length new.sent) after.frames.items
  move_flies old new before after step is stood stands sends follows lost stayed below =
      let walked = walked_in old.seen in
      let m = message_by (touch_of walked.standing (move_of step)) (sent_by walked.standing (move_of step)) in
      let base : Linked = record (linked_in old before) { walked = with_choice (keys_in old.seen.opening) walked (Some (played 0 (move_of step))); messages = with_message old.messages m } in
      flown_as (index_of_new m (length old.messages)) base new after old.sent before.frames.items (chosen_is old.seen new.seen (kept.Played 0 step) is stood stands) sends.messages refl refl (sends.sent ∙ sent_new m (length old.messages) old.sent) follows lost stayed below

  pub takes_move : (old new : Wire (Opened B)) (before after : Flight) (step : KeptMove) (index : ℕ) → new.seen ≡ with_entry (kept.Played 0 step) old.seen → StandsAt old.seen (walked_in old.seen).standing → StandsAt new.seen (walked_in new.seen).standing → Sends (walked_in old.seen).standing (move_of step) old.messages new.messages old.sent new.sent → after.frames.items ≡ flown old.sent new.sent before.frames.items → after.lost ≡ before.lost → after.stayed ≡ before.stayed → AreBelow (length old.sent) before.frames.items → slice_get (wire_moves (places_in old.seen.opening) (walked_in old.seen).standing old.messages) index ≡ Some (move_of step) → TakesEntry (places_in old.seen.opening) (keys_in old.seen.opening) (length (asks_in_order (walked_in old.seen).standing.in_flight) + index) (linked_in old before) (linked_in new after)
  takes_move old new before after step index is stood stands sends follows lost stayed below there = record {
    grows = λ results agrees. but_last results (history old.seen) (played 0 (move_of step)) (table_then results old.seen new.seen (kept.Played 0 step) is agrees);
    takes = λ results agrees.
        let walked = walked_in old.seen in
        ap (λ o. entered (keys_in old.seen.opening) (linked_in old before) o)
        (behind_asks results (asks_in_order walked.standing.in_flight) (wire_moves (places_in old.seen.opening) walked.standing old.messages) index (move_of step) there)
        ∙ sym (move_flies old new before after step is stood stands sends follows lost stayed below).0;
  }

  pub move_walked : (old new : Wire (Opened B)) (before after : Flight) (step : KeptMove) → new.seen ≡ with_entry (kept.Played 0 step) old.seen → StandsAt old.seen (walked_in old.seen).standing → StandsAt new.seen (walked_in new.seen).standing → Sends (walked_in old.seen).standing (move_of step) old.messages new.messages old.sent new.sent → after.frames.items ≡ flown old.sent new.sent before.frames.items → after.lost ≡ before.lost → after.stayed ≡ before.stayed → IsWalked old before → IsWalked new after
  move_walked old new before after step is stood stands sends follows lost stayed walked = record {
    below = (move_flies old new before after step is stood stands sends follows lost stayed walked.below).1;
    asked = zeros_more old.seen new.seen (kept.Played 0 step) is stood stands walked.asked refl;
    by_zero = by_zero_then old.seen new.seen (kept.Played 0 step) is walked.by_zero refl;
  }
