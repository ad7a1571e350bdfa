-- What a hand is good for stays while others go on with its session.
use Rattle.std.proofs.Common.{◌≡◌, ℕ, List, [], ◌∷◌, ◌++◌, map, refl, sym, ◌∙◌, ap, subst}
use Rattle.std.specs.Prelude.{true, Option, Some, Result}
use Rattle.bench_trait.specs.declared.ask.Ask.{Ask as Question}
use Rattle.bench_trait.specs.declared.bench.BenchFault.{BenchFault}
use Rattle.bench_trait.specs.declared.bench.MeasureError.{MeasureError}
use Rattle.bench_trait.specs.Asking.{question}
use Rattle.bench_trait.specs.Bench.{MatchMeasured}
use Rattle.turn_cell.specs.declared.pass.CellPass.{CellPass}
use Rattle.turn_cell.specs.Passes as seat
use Rattle.session_model.specs.Session.{Session}
use Rattle.session_runs.specs.Standing.{Standing, Entry as SessionEntry, is_in_flight}
use Rattle.session_runs.specs.History.{standing_after}
use Rattle.session_runs.specs.Flights.{HasNoResult}
use Rattle.session_book.specs.declared.entry.Entry.{Entry}
use Rattle.session_book.specs.Entries.{entry_of}
use Rattle.session_core.specs.declared.opened.Opened.{Opened}
use Rattle.session_core.specs.Session.{Seen, session_in, keys_in, history, StandsAt, IsAwaited}
use Rattle.session_core.specs.Chronicle.{chronicle_of}
use Rattle.session_desk.specs.Views.{View, own, as_seen}
use Rattle.session_desk.specs.Seats.{items_in, view_of, IsSeat}
use Rattle.session_desk.specs.Answers.{Awaits, Measures}
use Rattle.session_desk.proofs.SeatFacts.{grown, none_of_others}
use Rattle.session_desk.proofs.MoveFacts.{still_awaited}

-- an ask in flight is so after each longer history that has no result for it
abbrev pub FlightsStay : Type 0
FlightsStay =
    (session : Session) (keys : List (List ℕ × List ℕ)) (before more : List SessionEntry) (standing later : Standing) (pass event : ℕ) → standing_after session keys before ≡ Some standing → is_in_flight standing.in_flight pass event ≡ true → standing_after session keys (before ++ more) ≡ Some later → HasNoResult pass event more → is_in_flight later.in_flight pass event ≡ true

pub some_same : {A : Type 0} (a b : A) → Some a ≡ Some b → a ≡ b
some_same a b e = cc

module _ {B : Type 0} (number event : ℕ) (seat0 seat1 : CellPass (Seen (Opened B)) (Opened B) Entry) (old : Seen (Opened B)) (is : IsSeat number seat0) (took : seat.Takes (chronicle_of old.opening old.items) seat0 seat1) where
  same_opening : (opening : Opened B) → seat.opening seat0 ≡ Some opening → opening ≡ old.opening
  same_opening opening opened = some_same opening old.opening (sym opened ∙ sym took.begins)

  taken_is : as_seen old.opening (items_in (seat.seen seat0) ++ items_in took.continues.rest) ≡ old
  taken_is = ap (as_seen old.opening) (sym (grown number seat0 seat1 old is took))

  pub awaited_now : Awaits number event (view_of seat0) → (later : Standing) → StandsAt old later → FlightsStay → IsAwaited old number event
  awaited_now waits later stands stays =
      subst (λ (s : Seen (Opened B)). IsAwaited s number event) taken_is
      (still_awaited old.opening number event (items_in (seat.seen seat0)) (items_in took.continues.rest) (none_of_others number seat0 seat1 old is took)
      (subst (λ (o : Opened B). IsAwaited (as_seen o (items_in (seat.seen seat0))) number event) (same_opening waits.opening waits.opened) waits.awaited)
      later
      (subst (λ (s : Seen (Opened B)). StandsAt s later) (sym taken_is) stands)
      (λ standing after. stays (session_in old.opening) (keys_in old.opening) (history (as_seen old.opening (items_in (seat.seen seat0)))) (map entry_of (items_in took.continues.rest)) standing after number event))

  pub measured_now : (Gives : Opened B → Question → List ℕ → Type 0) (Fails : Opened B → Question → BenchFault → Type 0) (Starves : Opened B → Question → Type 0) (measured : Result (List ℕ) MeasureError) → Measures Gives Fails Starves event measured (view_of seat0)
      → (ask : Question) × (question (session_in old.opening).phrase (session_in old.opening).root (session_in old.opening).nonce event ≡ Some ask) × MatchMeasured measured (Gives old.opening ask) (Fails old.opening ask) (Starves old.opening ask)
  measured_now Gives Fails Starves measured m =
      let P : Opened B → Type 0 = λ (o : Opened B). (ask : Question) × (question (session_in o).phrase (session_in o).root (session_in o).nonce event ≡ Some ask) × MatchMeasured measured (Gives o ask) (Fails o ask) (Starves o ask) in
      subst P (same_opening m.opening m.opened) (m.ask, m.own, m.fits)
