-- Turns of a schedule over links, one and then more.
use Rattle.std.proofs.Common.{◌≡◌, ℕ, zero, suc, ◌+◌, ◌-◌, ◌<◌, ◌≤◌, List, length, refl, sym, ◌∙◌, ap, arith}
use Rattle.std.specs.Prelude.{Bool, true, false, Option, Result, if◌then◌else◌}
use Rattle.std.proofs.lemmas.Bool.{lt-ltb, le-ltb}
use Rattle.bench_trait.specs.declared.bench.MeasureError.{MeasureError}
use Rattle.session_runs.specs.MoveOrder.{asks_in_order}
use Rattle.session_runs.specs.Schedule.{draw, is_running, nth_candidate}
use Rattle.wire_manager.specs.Linked.{wire_moves}
use Rattle.wire_manager.specs.WireSchedule.{Linked, entered, wire_entries, fate_drawn, Fated, met, Turn, taken, one_turn, turns}
use Rattle.wire_walk.proofs.EntryLemmas.{first_length}

module _ (places : List (List ℕ)) (keys : List (List ℕ × List ℕ)) (results : ℕ → Result (List ℕ) MeasureError) where
  entry_count : (linked : Linked) → length (wire_entries places results linked) ≡ length (asks_in_order linked.walked.standing.in_flight) + length (wire_moves places linked.walked.standing linked.messages)
  entry_count linked = first_length results (asks_in_order linked.walked.standing.in_flight) (wire_moves places linked.walked.standing linked.messages)

  abbrev turn_with : Linked → Option ℕ → Turn
  turn_with linked from = record { linked = linked; from = from }

  drawn_so : (old : Turn) (count index : ℕ) (from : Option ℕ) → count ≡ length (asks_in_order old.linked.walked.standing.in_flight) + length (wire_moves places old.linked.walked.standing old.linked.messages) + length old.linked.flying → index ≡ (draw count old.from).drawn → from ≡ (draw count old.from).from → one_turn places keys results old ≡ taken keys (wire_entries places results old.linked) index from old.linked
  drawn_so old count index from count_is index_is from_is =
      let entries = wire_entries places results old.linked in
      ap (λ n. taken keys entries (draw n old.from).drawn (draw n old.from).from old.linked) (omega (arith, count_is, entry_count old.linked))
      ∙ (ap (λ k. taken keys entries k (draw count old.from).from old.linked) (sym index_is) ∙ ap (λ f. taken keys entries index f old.linked) (sym from_is))

  -- an entry is drawn
  pub entry_turn : (old : Turn) (new : Linked) (count index : ℕ) (from : Option ℕ) → count ≡ length (asks_in_order old.linked.walked.standing.in_flight) + length (wire_moves places old.linked.walked.standing old.linked.messages) + length old.linked.flying → index ≡ (draw count old.from).drawn → from ≡ (draw count old.from).from → index < length (asks_in_order old.linked.walked.standing.in_flight) + length (wire_moves places old.linked.walked.standing old.linked.messages) → entered keys old.linked (nth_candidate (wire_entries places results old.linked) index) ≡ new → one_turn places keys results old ≡ record { linked = new; from = from }
  entry_turn old new count index from count_is index_is from_is below is =
      let entries = wire_entries places results old.linked in
      let f : Fated = fate_drawn from old.linked.lost old.linked.stayed in
      drawn_so old count index from count_is index_is from_is
      ∙ (ap (λ b. if b then turn_with (entered keys old.linked (nth_candidate entries index)) from else turn_with (met (index - length entries) f.fate old.linked) f.from) (lt-ltb index (length entries) (omega (arith, below, entry_count old.linked)))
      ∙ ap (λ l. turn_with l from) is)

  -- a frame in flight is drawn
  pub frame_turn : (old : Turn) (new : Linked) (count index behind : ℕ) (from later : Option ℕ) → count ≡ length (asks_in_order old.linked.walked.standing.in_flight) + length (wire_moves places old.linked.walked.standing old.linked.messages) + length old.linked.flying → index ≡ (draw count old.from).drawn → from ≡ (draw count old.from).from → length (asks_in_order old.linked.walked.standing.in_flight) + length (wire_moves places old.linked.walked.standing old.linked.messages) + behind ≡ index → new ≡ met behind (fate_drawn from old.linked.lost old.linked.stayed).fate old.linked → later ≡ (fate_drawn from old.linked.lost old.linked.stayed).from → one_turn places keys results old ≡ record { linked = new; from = later }
  frame_turn old new count index behind from later count_is index_is from_is is_behind is later_is =
      let entries = wire_entries places results old.linked in
      let f : Fated = fate_drawn from old.linked.lost old.linked.stayed in
      drawn_so old count index from count_is index_is from_is
      ∙ (ap (λ b. if b then turn_with (entered keys old.linked (nth_candidate entries index)) from else turn_with (met (index - length entries) f.fate old.linked) f.from) (le-ltb index (length entries) (omega (arith, is_behind, entry_count old.linked)))
      ∙ (ap (λ k. turn_with (met k f.fate old.linked) f.from) (omega (arith, is_behind, entry_count old.linked))
      ∙ (ap (λ l. turn_with l f.from) (sym is) ∙ ap (λ x. turn_with new x) (sym later_is))))

  -- ---- more turns

  abbrev step : Turn → Turn
  step turn = if is_running turn.linked.walked.standing.state then one_turn places keys results turn else turn

  turns_more : (count : ℕ) (turn : Turn) → turns places keys results (suc count) turn ≡ step (turns places keys results count turn)
  turns_more zero turn = refl
  turns_more (suc count) turn =
      by_state (is_running turn.linked.walked.standing.state) refl (turns_more count (one_turn places keys results turn))
    where
      by_state : (b : Bool) → is_running turn.linked.walked.standing.state ≡ b → turns places keys results (suc count) (one_turn places keys results turn) ≡ step (turns places keys results count (one_turn places keys results turn)) → (if b then turns places keys results (suc count) (one_turn places keys results turn) else turn) ≡ step (if b then turns places keys results count (one_turn places keys results turn) else turn)
      by_state true is h = h
      by_state false is h = sym (ap (λ c. if c then one_turn places keys results turn else turn) is)

  pub one_more : (count : ℕ) (old turn new : Turn) → turns places keys results count old ≡ turn → is_running turn.linked.walked.standing.state ≡ true → one_turn places keys results turn ≡ new → turns places keys results (count + 1) old ≡ new
  one_more count old turn new was runs is =
      let more : count + 1 ≡ suc count = omega arith in
      ap (λ n. turns places keys results n old) more
      ∙ (turns_more count old ∙ (ap (λ t. step t) was ∙ (ap (λ b. if b then one_turn places keys results turn else turn) runs ∙ is)))

  still : (more count : ℕ) (old turn : Turn) → turns places keys results count old ≡ turn → is_running turn.linked.walked.standing.state ≡ false → turns places keys results (more + count) old ≡ turn
  still zero count old turn was over =
      let same : 0 + count ≡ count = omega arith in
      ap (λ n. turns places keys results n old) same ∙ was
  still (suc more) count old turn was over =
      let one : suc more + count ≡ suc (more + count) = omega arith in
      ap (λ n. turns places keys results n old) one
      ∙ (turns_more (more + count) old ∙ (ap (λ t. step t) (still more count old turn was over) ∙ ap (λ b. if b then one_turn places keys results turn else turn) over))

  pub to_the_end : (count most : ℕ) (old turn : Turn) → count ≤ most → turns places keys results count old ≡ turn → is_running turn.linked.walked.standing.state ≡ false → turns places keys results most old ≡ turn
  to_the_end count most old turn below was over =
      let all : most ≡ most - count + count = omega (arith, below) in
      ap (λ n. turns places keys results n old) all ∙ still (most - count) count old turn was over
