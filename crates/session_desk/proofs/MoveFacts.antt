-- What a pass finds in a session whose turn it has.
use Rattle.std.proofs.Common.{◌≡◌, ◌≢◌, ℕ, zero, ◌<◌, ◌==◌, eqb, List, [], ◌∷◌, ◌++◌, map, refl, sym, ◌∙◌, ap, subst, arith, append-nil}
use Rattle.std.proofs.lemmas.List.{map-append}
use Rattle.std.specs.Prelude.{Bool, true, false, Option, None, Some, Result, Ok, Err, nat_eq, ◌&&◌, if◌then◌else◌, Contains, ◌↔◌, IsErr, slice_get}
use Rattle.std.specs.Option.{option_map}
use Rattle.std.proofs.lemmas.Option.{slice_get_within, get_or_from_slice_get}
use Rattle.std.proofs.lemmas.List.Elements.{Contains-get_or}
use Rattle.bench_trait.specs.declared.bench.MeasureError.{MeasureError}
use Rattle.bench_trait.specs.declared.bench.MeasureError.TheVariants as want
use Rattle.bench_trait.specs.declared.ask.Ask.{Ask as Question}
use Rattle.bench_trait.specs.Asking.{question}
use Rattle.session_model.specs.declared.record.Record.{Record}
use Rattle.session_runs.specs.Standing.{Move as SessionMove, Standing, State, is_open, is_done, has_failed, has_starved, opened, is_in_flight}
use Rattle.session_runs.specs.History.{standing_after}
use Rattle.session_runs.specs.MoveOrder.{moves_where, possible_moves}
use Rattle.session_runs.specs.Flights.{is_result_of, HasNoResult}
use Rattle.session_book.specs.declared.entry.Move.{Move}
use Rattle.session_book.specs.declared.entry.State.{State as Word}
use Rattle.session_book.specs.declared.entry.State.TheVariants as word
use Rattle.session_book.specs.declared.entry.Entry.{Entry}
use Rattle.session_book.specs.declared.entry.Entry.TheVariants as entry
use Rattle.session_book.specs.Entries.{move_of, entry_of}
use Rattle.session_core.specs.declared.opened.Opened.{Opened}
use Rattle.session_core.specs.declared.played.Played.{Played}
use Rattle.session_core.specs.declared.played.Played.TheVariants as played
use Rattle.session_core.specs.declared.played.PlayError.{PlayError}
use Rattle.session_core.specs.declared.played.OutcomeError.{OutcomeError}
use Rattle.session_core.specs.declared.played.OutcomeError.TheVariants as error
use Rattle.session_core.specs.Reading.{word_of, HasStopped, result_entry, TellsOf, IsOutcome}
use Rattle.session_core.specs.Session.{Seen, pass_of, session_in, keys_in, places_in, history, StandsAt, with_entry, IsAwaited}
use Rattle.session_desk.specs.declared.hand.Turned.TheVariants as turned
use Rattle.session_desk.specs.declared.hand.DeskError.TheVariants as desk
use Rattle.session_desk.specs.Views.{own, as_seen}
use Rattle.session_desk.specs.Taking.{GoesOn}
use Rattle.session_desk.specs.Words.{turn_of, idle_turn, closing}
use Rattle.session_desk.specs.Answers.{Plays, Moves, Asks, Waits, Finds, IsClosed, TurnTells, RecordTells, OutcomeTells}

-- ---- the first of the possible moves

pub open_by_first : (places : List (List ℕ)) (standing : Standing) (state : State) (move : SessionMove) → slice_get (moves_where places standing state) 0 ≡ Some move → state ≡ is_open
open_by_first places standing is_open move at = refl
open_by_first places standing (is_done value) move at = absurd (cc)
open_by_first places standing (has_failed event fault) move at = absurd (cc)
open_by_first places standing (has_starved event) move at = absurd (cc)

pub first_contained : {A : Type 0} (xs : List A) (x : A) → slice_get xs 0 ≡ Some x → Contains xs x
first_contained xs x at =
    subst (λ y. Contains xs y) (get_or_from_slice_get xs 0 x x at) (Contains-get_or xs 0 x (slice_get_within xs 0 x at))

pub none_first : {A : Type 0} (xs : List A) → slice_get xs 0 ≡ None → xs ≡ []
none_first [] at = refl
none_first (x ∷ xs) at = absurd (cc)

pub no_move : (found : Option SessionMove) (move : Option Move) → option_map move_of move ≡ found → move ≡ None → found ≡ None
no_move found move is none = sym is ∙ ap (option_map move_of) none

-- ---- how a session stands, by its word

pub open_by_word : (state : State) → word.Open ≡ word_of state → state ≡ is_open
open_by_word is_open e = refl
open_by_word (is_done value) e = absurd (cc)
open_by_word (has_failed event fault) e = absurd (cc)
open_by_word (has_starved event) e = absurd (cc)

pub closed_by_word : (state : State) → word.Open ≢ word_of state → state ≢ is_open
closed_by_word state other opens = other (sym (ap word_of opens))

-- ---- an ask in flight under the entries of others

pub others_no_result : (number event : ℕ) (others : List Entry) → own number others ≡ [] → HasNoResult number event (map entry_of others)
others_no_result number event [] none = tt
others_no_result number event (item ∷ items) none = by_test (λ rest. others_no_result number event items rest) (pass_of item == number) refl none
  where
    not_this : (item : Entry) → (pass_of item == number) ≡ false → is_result_of number event (entry_of item) ≡ false
    not_this entry.Opened other = refl
    not_this (entry.Played pass step) other = refl
    not_this (entry.Answered pass of_event answer) other = ap (λ b. b && nat_eq of_event event) other
    not_this (entry.Failed pass of_event fault) other = ap (λ b. b && nat_eq of_event event) other
    not_this (entry.Starved pass of_event) other = ap (λ b. b && nat_eq of_event event) other

    by_test : (own number items ≡ [] → HasNoResult number event (map entry_of items)) → (b : Bool) → (pass_of item == number) ≡ b → (if b then item ∷ own number items else own number items) ≡ [] → HasNoResult number event (map entry_of (item ∷ items))
    by_test rest true is none = absurd (cc)
    by_test rest false is none = (not_this item is, rest none)

-- ---- what a call does with a session

module _ {B : Type 0} (number : ℕ) where
  -- nothing
  pub stays : (Tells : List Entry → Seen (Opened B) → Type 0) (seen : Seen (Opened B)) → Tells [] seen → GoesOn number Tells seen seen
  stays Tells seen tells = record { made = []; by = tt; opening = refl; items = sym (append-nil seen.items); tells = tells }

  -- or one entry of its own
  pub goes_by : (Tells : List Entry → Seen (Opened B) → Type 0) (one : Entry) (old new : Seen (Opened B)) → pass_of one ≡ number → new ≡ with_entry one old → Tells (one ∷ []) old → GoesOn number Tells old new
  goes_by Tells one old new by is tells =
      record { made = one ∷ []; by = (by, tt); opening = ap (λ (s : Seen (Opened B)). s.opening) is; items = ap (λ (s : Seen (Opened B)). s.items) is; tells = tells }

module _ {B : Type 0} (index number : ℕ) (step : Move) (old new : Seen (Opened B)) (standing later : Standing) (stands : StandsAt old standing) (later_stands : StandsAt new later) (first : option_map move_of (Some step) ≡ slice_get (possible_moves (places_in old.opening) standing) 0) (is : new ≡ with_entry (entry.Played number step) old) where
  plays : Plays number step (entry.Played number step ∷ []) old
  plays =
      record {
        standing = standing;
        stands = stands;
        opened = open_by_first (places_in old.opening) standing standing.state (move_of step) (sym first);
        first = sym first;
        entry = refl;
      }

  pub turn_told : (played : Played) → TellsOf (session_in old.opening) number step standing later played → GoesOn number (TurnTells index number (turn_of index played)) old new
  unfolding plays
  turn_told played.Moved tells = goes_by number (TurnTells index number turned.Moved) (entry.Played number step) old new refl is (record { step = step; plays = plays; runs = tells })
  turn_told (played.Asked ask) tells =
      goes_by number (TurnTells index number (turned.ToMeasure ask (record { session = index; event = ask.event }))) (entry.Played number step) old new refl is
      (record {
        step = step;
        plays = plays;
        asks = tells.0;
        own = tells.1;
        later = later;
        later_stands = subst (λ (s : Seen (Opened B)). StandsAt s later) is later_stands;
        flies = tells.2;
        of_session = refl;
        of_event = refl;
      })

pub can_play : {A : Type 0} (moves : List SessionMove) (move : SessionMove) (result : Result A PlayError) → slice_get moves 0 ≡ Some move → IsErr result ↔ (Contains moves move → ⊥) → IsErr result → ⊥
can_play moves move result at refused err = refused.0 err (first_contained moves move at)

module _ {B : Type 0} (index number : ℕ) (seen : Seen (Opened B)) (standing : Standing) (stands : StandsAt seen standing) (none : option_map move_of None ≡ slice_get (possible_moves (places_in seen.opening) standing) 0) where
  closed_told : (state : State) → standing.state ≡ state → (state ≢ is_open) → Finds IsClosed [] seen
  closed_told state is closed = record { standing = standing; stands = stands; is = λ opens. closed (sym is ∙ opens); idle = refl }

  by_word : (other : State) → standing.state ≡ other → (answer : Word) → answer ≡ word_of other → GoesOn number (TurnTells index number (idle_turn answer)) seen seen
  by_word is_open is answer e =
      subst (λ (w : Word). GoesOn number (TurnTells index number (idle_turn w)) seen seen) (sym e)
      (stays number (TurnTells index number turned.Waiting) seen (record { standing = standing; stands = stands; opened = is; none = none_first (possible_moves (places_in seen.opening) standing) (sym none); idle = refl }))
  by_word (is_done value) is answer e =
      subst (λ (w : Word). GoesOn number (TurnTells index number (idle_turn w)) seen seen) (sym e) (stays number (TurnTells index number turned.Finished) seen (closed_told (is_done value) is (λ opens. absurd (cc))))
  by_word (has_failed event fault) is answer e =
      subst (λ (w : Word). GoesOn number (TurnTells index number (idle_turn w)) seen seen) (sym e) (stays number (TurnTells index number turned.Finished) seen (closed_told (has_failed event fault) is (λ opens. absurd (cc))))
  by_word (has_starved event) is answer e =
      subst (λ (w : Word). GoesOn number (TurnTells index number (idle_turn w)) seen seen) (sym e) (stays number (TurnTells index number turned.Finished) seen (closed_told (has_starved event) is (λ opens. absurd (cc))))

  pub turn_idle : (answer : Word) → answer ≡ word_of standing.state → GoesOn number (TurnTells index number (idle_turn answer)) seen seen
  turn_idle answer e = by_word standing.state refl answer e

-- ---- results

pub no_error : false ≡ true → ⊥
no_error e = cc

pub by_result : (number event : ℕ) (measured : Result (List ℕ) MeasureError) → pass_of (result_entry number event measured) ≡ number
by_result number event (Ok answer) = refl
by_result number event (Err (want.Fault fault)) = refl
by_result number event (Err want.NoMemory) = refl

module _ {B : Type 0} (number event : ℕ) (measured : Result (List ℕ) MeasureError) (old new : Seen (Opened B)) (standing : Standing) (stands : StandsAt old standing) where
  pub record_kept : (HasStopped standing.state → ⊥) → new ≡ with_entry (result_entry number event measured) old → GoesOn number (RecordTells number event measured true) old new
  record_kept goes is =
      goes_by number (RecordTells number event measured true) (result_entry number event measured) old new (by_result number event measured) is (record { standing = standing; stands = stands; goes = goes; entry = refl })

  pub record_ended : HasStopped standing.state → new ≡ old → GoesOn number (RecordTells number event measured false) old new
  record_ended stopped is =
      subst (λ (s : Seen (Opened B)). GoesOn number (RecordTells number event measured false) old s) (sym is)
      (stays number (RecordTells number event measured false) old (record { standing = standing; stands = stands; is = stopped; idle = refl }))

-- ---- outcomes

abbrev no_memory : Result Record OutcomeError
no_memory = Err error.NoMemory

other_error : no_memory ≡ Err error.NotFinished → ⊥
other_error e = cc

module _ {B : Type 0} (number : ℕ) (seen : Seen (Opened B)) (standing : Standing) (stands : StandsAt seen standing) where
  pub outcome_told : (outcome : Result Record OutcomeError) → IsOutcome (session_in seen.opening) standing outcome → (outcome ≡ Err error.NotFinished) ↔ (standing.state ≡ is_open) → GoesOn number (OutcomeTells (closing outcome)) seen seen
  outcome_told (Ok found) is still = stays number (OutcomeTells (Ok found)) seen (record { standing = standing; stands = stands; is = is; idle = refl })
  outcome_told (Err error.NotFinished) is still = stays number (OutcomeTells (Err desk.NotFinished)) seen (record { standing = standing; stands = stands; is = is; idle = refl })
  outcome_told (Err error.NoMemory) is still =
      stays number (OutcomeTells (Err desk.NoMemory)) seen (record { standing = standing; stands = stands; is = λ e. other_error (still.1 e); idle = refl })

-- ---- an ask in flight

module _ {B : Type 0} (opening : Opened B) (number event : ℕ) (before others : List Entry) (none : own number others ≡ []) (waits : IsAwaited (as_seen opening before) number event) (later : Standing) (later_stands : StandsAt (as_seen opening (before ++ others)) later) where
  history_grown : history (as_seen opening (before ++ others)) ≡ history (as_seen opening before) ++ map entry_of others
  history_grown = ap (λ l. opened ∷ l) (map-append entry_of before others)

  pub still_awaited : (stays : (standing later : Standing) → standing_after (session_in opening) (keys_in opening) (history (as_seen opening before)) ≡ Some standing → is_in_flight standing.in_flight number event ≡ true → standing_after (session_in opening) (keys_in opening) (history (as_seen opening before) ++ map entry_of others) ≡ Some later → HasNoResult number event (map entry_of others) → is_in_flight later.in_flight number event ≡ true) → IsAwaited (as_seen opening (before ++ others)) number event
  still_awaited stays =
      record {
        standing = later;
        stands = later_stands;
        flies = stays waits.standing later waits.stands waits.flies (subst (λ h. standing_after (session_in opening) (keys_in opening) h ≡ Some later) history_grown later_stands) (others_no_result number event others none);
      }
