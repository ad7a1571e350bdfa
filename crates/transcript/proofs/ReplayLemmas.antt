-- An entry that is played again: what the session takes, and why it doesn't.
use Rattle.std.proofs.Common.{◌≡◌, ◌↔◌, ℕ, ◌<◌, Bool, true, false, List, [], ◌∷◌, ◌++◌, Option, None, Some, Result, Ok, Err, length, map, slice_set, nat_eq, if◌then◌else◌, refl, sym, ap, ◌∙◌, subst, arith, Contains, eq-eqb, eqb-true, Bor}
use Rattle.std.specs.Cmp.Lexicographic.{pointwise, same_text}
use Rattle.std.specs.Prelude.{◌&&◌}
use Rattle.std.proofs.lemmas.Bool.{and_from, or_left}
use Rattle.phrase_tree.specs.Numbering.{event_count}
use Rattle.bench_trait.specs.declared.artefacts.Artefact.{Artefact}
use Rattle.bench_trait.specs.declared.ask.Ask.{Ask}
use Rattle.bench_trait.specs.declared.bench.BenchFault.{BenchFault}
use Rattle.bench_trait.specs.declared.bench.BenchFault.TheVariants.{NoArtefact, Broken}
use Rattle.bench_trait.specs.declared.bench.MeasureError.{MeasureError}
use Rattle.bench_trait.specs.declared.bench.MeasureError.TheVariants as want
use Rattle.bench_trait.specs.Asking.{question_among}
use Rattle.bench_trait.specs.Bench.{MatchMeasured}
use Rattle.session_model.specs.Session.{Session, session_questions}
use Rattle.session_runs.specs.Moves.{answer, inner_moves}
use Rattle.session_runs.specs.Standing.{Block, Move, ask as ask_move, Entry, opened, played, answered, failed, State, is_open, is_done, has_failed, has_starved, Standing, makings, is_in_flight, without_ask, made, entered, where_open, next}
use Rattle.session_runs.specs.History.{standing_after}
use Rattle.session_runs.specs.MoveOrder.{possible_moves}
use Rattle.session_runs.specs.Ordered.{AreApart}
use Rattle.session_runs.specs.Flights.{events_in_flight, AsksQuestion}
use Rattle.session_runs.specs.Played.{AsksOnly}
use Rattle.session_runs.specs.Progress.{CanCome, CanMake, IsAtOneOf, IsAwaited}
use Rattle.session_runs.proofs.EntryLaws.{some_is, if_standing, where_open_is}
use Rattle.session_runs.proofs.HistoryLaws.{after_more}
use Rattle.machine_world.specs.Cells.{block_of}
use Rattle.session_book.specs.declared.entry.Entry.{Entry as Kept}
use Rattle.session_book.specs.declared.entry.Entry.TheVariants as entry
use Rattle.session_book.specs.declared.entry.Move.{Move as Step}
use Rattle.session_book.specs.declared.entry.Move.TheVariants.{Run, Ask as Asks, Deliver}
use Rattle.session_book.specs.declared.entry.State.{State as Word}
use Rattle.session_book.specs.declared.entry.State.TheVariants as word
use Rattle.session_book.specs.Entries.{move_of, entry_of}
use Rattle.session_core.specs.declared.opened.Opened.{Opened}
use Rattle.session_core.specs.declared.played.Played.{Played}
use Rattle.session_core.specs.declared.played.Played.TheVariants.{Moved, Asked}
use Rattle.session_core.specs.Session.{Seen, with_entry, session_in, keys_in, history, StandsAt}
use Rattle.session_core.specs.Reading.{word_of, result_entry, IsAsk, TellsOf}
use Rattle.transcript.specs.declared.flights.Flight.{Flight}
use Rattle.transcript.specs.declared.replay.Halt.{Halt}
use Rattle.transcript.specs.Flights.{asked_in, Agrees, AgreeAll, Mirrors, IsAwaiting}
use Rattle.transcript.specs.Audit.{result_in, Takes, Halts, RepeatsResult, HasRoomFor, Keeps, same_fault, is_same, HaltsAs}
use Rattle.transcript.proofs.FlightLemmas.{set_size, agree_same, agree_noted, agree_cleared}
use Rattle.transcript.proofs.MoveLemmas.{IsQuiet, next_quiet, move_there, event_within}

-- ---- whether a session is open

abbrev pub open_by : Word → Bool
open_by word.Open = true
open_by word.Done = false
open_by word.Failed = false
open_by word.Starved = false

of_state : (state : State) → (open_by (word_of state) ≡ true) ↔ (state ≡ is_open)
of_state is_open = (λ e. refl, λ h. refl)
of_state (is_done value) = (λ e. absurd cc, λ h. absurd cc)
of_state (has_failed event fault) = (λ e. absurd cc, λ h. absurd cc)
of_state (has_starved event) = (λ e. absurd cc, λ h. absurd cc)

pub open_word : (state : State) (found : Word) → found ≡ word_of state → (open_by found ≡ true) ↔ (state ≡ is_open)
open_word state found e = subst (λ (w : Word). (open_by w ≡ true) ↔ (state ≡ is_open)) (sym e) (of_state state)

-- ---- entries that can't come next

not_open : (state : State) (x : Option Standing) → (state ≡ is_open → ⊥) → where_open state x ≡ None
not_open is_open x never = absurd (never refl)
not_open (is_done value) x never = refl
not_open (has_failed event fault) x never = refl
not_open (has_starved event) x never = refl

none_there : (state : State) → where_open state None ≡ None
none_there is_open = refl
none_there (is_done value) = refl
none_there (has_failed event fault) = refl
none_there (has_starved event) = refl

pub closed_none : (session : Session) (keys : List (List ℕ × List ℕ)) (s : Standing) (one : Entry) → (s.state ≡ is_open → ⊥) → next session keys s one ≡ None
closed_none session keys s one never = not_open s.state (entered (makings session keys) session.root s one) never

pub unasked_none : (session : Session) (keys : List (List ℕ × List ℕ)) (s : Standing) (pass event : ℕ) (written : Result (Bor (List ℕ)) BenchFault) → is_in_flight s.in_flight pass event ≡ false → next session keys s (RepeatsResult pass event written) ≡ None
unasked_none session keys s pass event (Ok bytes) off =
    ap (λ b. where_open s.state (if b then made pass s (inner_moves (makings session keys) session.root s.configuration (answer event bytes.now)) else None)) off
    ∙ none_there s.state
unasked_none session keys s pass event (Err fault) off =
    ap (λ b. where_open s.state (if b then Some (record s { in_flight = without_ask event s.in_flight; state = has_failed event fault }) else None)) off
    ∙ none_there s.state

pub not_listed : (session : Session) (keys : List (List ℕ × List ℕ)) (places : List (List ℕ)) (so_far : List Entry) (s : Standing) (pass : ℕ) (move : Move) → AsksOnly places session.phrase → standing_after session keys so_far ≡ Some s → Contains (possible_moves places s) move ↔ (CanMake session keys s pass move × IsAtOneOf places move) → (Contains (possible_moves places s) move → ⊥) → next session keys s (played pass move) ≡ None
not_listed session keys places so_far s pass move only stands listed never = by_next (next session keys s (played pass move)) refl
  where
    by_next : (x : Option Standing) → next session keys s (played pass move) ≡ x → x ≡ None
    by_next None is = refl
    by_next (Some t) is =
        let can : CanMake session keys s pass move = record { then_stands = t; possible = is } in
        absurd (never (listed.1 (can, move_there session keys places so_far s pass move only stands can)))

-- ---- a session with an entry more

map_push : {A C : Type 0} (f : A → C) (xs : List A) (x : A) → map f (xs ++ x ∷ []) ≡ map f xs ++ f x ∷ []
map_push f [] x = refl
map_push f (y ∷ xs) x = ap (λ ys. f y ∷ ys) (map_push f xs x)

stands_next : {B : Type 0} (old : Seen (Opened B)) (one : Kept) (s t : Standing) → StandsAt old s → StandsAt (with_entry one old) t → next (session_in old.opening) (keys_in old.opening) s (entry_of one) ≡ Some t
stands_next old one s t stands later =
    sym (after_more (session_in old.opening) (keys_in old.opening) (history old) s (entry_of one) stands)
    ∙ ap (λ items. standing_after (session_in old.opening) (keys_in old.opening) (opened ∷ items)) (sym (map_push entry_of old.items one))
    ∙ later

was_open : (session : Session) (keys : List (List ℕ × List ℕ)) (s t : Standing) (one : Entry) → next session keys s one ≡ Some t → s.state ≡ is_open
was_open session keys s t one e = where_open_is (s.state ≡ is_open) s.state (entered (makings session keys) session.root s one) t (λ still h. still) e

-- ---- a move

quiet_step : (step : Step) → (IsAsk step → ⊥) → IsQuiet (move_of step)
quiet_step (Run name) never = tt
quiet_step (Asks name) never = absurd (never tt)
quiet_step (Deliver place) never = tt

abbrev first_event : List (ℕ × ℕ) → ℕ
first_event [] = 0
first_event (asked ∷ rest) = asked.0

same_event : (event other pass : ℕ) (flown : List (ℕ × ℕ)) → (event, pass) ∷ flown ≡ (other, pass) ∷ flown → event ≡ other
same_event event other pass flown e = ap first_event e

pub room_for : (session : Session) (keys : List (List ℕ × List ℕ)) (later : List Entry) (s t : Standing) (pass : ℕ) (step : Step) (flights : List (Option Flight)) (told : Played) → length flights ≡ event_count session.phrase → standing_after session keys later ≡ Some t → TellsOf session pass step s t told → HasRoomFor flights told
room_for session keys later s t pass step flights Moved size stands tells = tt
room_for session keys later s t pass step flights (Asked ask) size stands tells =
    omega (arith, size, event_within session keys later t pass ask.event stands (subst (λ flown. is_in_flight flown pass ask.event ≡ true) (sym tells.2) (ahead_flies ask.event pass s.in_flight)))
  where
    ahead_flies : (event by : ℕ) (flown : List (ℕ × ℕ)) → is_in_flight ((event, by) ∷ flown) by event ≡ true
    ahead_flies event by flown =
        or_left (nat_eq event event && nat_eq by by) (is_in_flight flown by event) (and_from (nat_eq event event) (nat_eq by by) (eq-eqb event event refl) (eq-eqb by by refl))

module _ {B : Type 0} (old : Seen (Opened B)) (pass : ℕ) (flights : List (Option Flight)) (mirrors : Mirrors flights old) (s : Standing) (stands : StandsAt old s) where
  agree_moved : (step : Step) (t : Standing) → next (session_in old.opening) (keys_in old.opening) s (played pass (move_of step)) ≡ Some t → (IsAsk step → ⊥) → AgreeAll (session_in old.opening) t flights
  agree_moved step t onward never =
      agree_same (session_in old.opening) s t flights
      (next_quiet (session_in old.opening) (keys_in old.opening) pass s t (move_of step) (quiet_step step never) onward)
      (mirrors.agree s stands (was_open (session_in old.opening) (keys_in old.opening) s t (played pass (move_of step)) onward))

  agree_asked : (block : Block) (t : Standing) (ask : Ask) → next (session_in old.opening) (keys_in old.opening) s (played pass (ask_move block)) ≡ Some t → AsksQuestion (session_in old.opening) s pass block t → ask.event < length flights → question_among (session_questions (session_in old.opening)) ask.event ≡ Some ask → t.in_flight ≡ (ask.event, pass) ∷ s.in_flight → AgreeAll (session_in old.opening) t (slice_set flights ask.event (Some (record { pass = pass; ask = ask })))
  agree_asked block t ask onward asks room question flies =
      agree_noted (session_in old.opening) s t flights pass ask room flies
      (λ other. subst (λ n. is_in_flight s.in_flight other n ≡ false) (same_event asks.event ask.event pass s.in_flight (sym asks.flies ∙ flies)) (asks.unasked other))
      question
      (mirrors.agree s stands (was_open (session_in old.opening) (keys_in old.opening) s t (played pass (ask_move block)) onward))

  kept_asked : (step : Step) (t : Standing) (ask : Ask) → IsAsk step → ((block : Block) → next (session_in old.opening) (keys_in old.opening) s (played pass (ask_move block)) ≡ Some t → AsksQuestion (session_in old.opening) s pass block t) → next (session_in old.opening) (keys_in old.opening) s (played pass (move_of step)) ≡ Some t → ask.event < length flights → question_among (session_questions (session_in old.opening)) ask.event ≡ Some ask → t.in_flight ≡ (ask.event, pass) ∷ s.in_flight → AgreeAll (session_in old.opening) t (slice_set flights ask.event (Some (record { pass = pass; ask = ask })))
  kept_asked (Run name) t ask is law onward room question flies = absurd is
  kept_asked (Asks name) t ask is law onward room question flies = agree_asked (block_of name) t ask onward (law (block_of name) onward) room question flies
  kept_asked (Deliver place) t ask is law onward room question flies = absurd is

  agree_played : (step : Step) (told : Played) (after : List (Option Flight)) (t : Standing) → ((block : Block) → next (session_in old.opening) (keys_in old.opening) s (played pass (ask_move block)) ≡ Some t → AsksQuestion (session_in old.opening) s pass block t) → TellsOf (session_in old.opening) pass step s t told → HasRoomFor flights told → Keeps pass told flights after → next (session_in old.opening) (keys_in old.opening) s (played pass (move_of step)) ≡ Some t → AgreeAll (session_in old.opening) t after
  agree_played step Moved after t law tells room keeps onward =
      subst (AgreeAll (session_in old.opening) t) (sym keeps) (agree_moved step t onward tells)
  agree_played step (Asked ask) after t law tells room keeps onward =
      subst (AgreeAll (session_in old.opening) t) (sym keeps) (kept_asked step t ask tells.0 law onward room tells.1 tells.2)

  size_kept : (told : Played) (after : List (Option Flight)) → Keeps pass told flights after → length after ≡ length flights
  size_kept Moved after keeps = ap (λ xs. length xs) keeps
  size_kept (Asked ask) after keeps = ap (λ xs. length xs) keeps ∙ set_size flights ask.event (Some (record { pass = pass; ask = ask }))

  pub takes_move : (step : Step) (told : Played) (after : List (Option Flight)) → ((block : Block) (t : Standing) → next (session_in old.opening) (keys_in old.opening) s (played pass (ask_move block)) ≡ Some t → AsksQuestion (session_in old.opening) s pass block t) → ((t : Standing) → StandsAt (with_entry (entry.Played pass step) old) t → TellsOf (session_in old.opening) pass step s t told) → HasRoomFor flights told → Keeps pass told flights after → Takes (played pass (move_of step)) after old (with_entry (entry.Played pass step) old)
  takes_move step told after law tells room keeps =
      record {
        opening = refl;
        items = map_push entry_of old.items (entry.Played pass step);
        mirrors = record {
          size = size_kept told after keeps ∙ mirrors.size;
          agree = λ t later still. agree_played step told after t (λ block e. law block t e) (tells t later) room keeps (stands_next old (entry.Played pass step) s t stands later);
        };
      }

-- ---- a result

same_all : (xs : List ℕ) → pointwise nat_eq xs xs ≡ true
same_all [] = refl
same_all (x ∷ xs) = and_from (nat_eq x x) (pointwise nat_eq xs xs) (eq-eqb x x refl) (same_all xs)

fault_same : (fault : BenchFault) → same_fault fault fault ≡ true
fault_same NoArtefact = refl
fault_same (Broken code) = eq-eqb code code refl

fault_is : (fault other : BenchFault) → same_fault fault other ≡ true → fault ≡ other
fault_is NoArtefact NoArtefact e = refl
fault_is NoArtefact (Broken code) e = absurd cc
fault_is (Broken code) NoArtefact e = absurd cc
fault_is (Broken code) (Broken other) e = ap Broken (eqb-true code other e)

not_both : (b : Bool) → b ≡ false → b ≡ true → ⊥
not_both true f t = absurd cc
not_both false f t = absurd cc

-- the result that was written
abbrev written_result : Result (Bor (List ℕ)) BenchFault → Result (List ℕ) BenchFault
written_result (Ok bytes) = Ok bytes.now
written_result (Err fault) = Err fault

says_written : (pass event : ℕ) (written : Result (Bor (List ℕ)) BenchFault) → result_in (RepeatsResult pass event written) ≡ Some (event, written_result written)
says_written pass event (Ok bytes) = refl
says_written pass event (Err fault) = refl

ok_other : (measured : List ℕ) (written : Result (Bor (List ℕ)) BenchFault) → is_same (Ok measured) written ≡ false → (let r : Result (List ℕ) BenchFault = Ok measured in r) ≡ written_result written → ⊥
ok_other measured (Ok bytes) off e = not_both (pointwise nat_eq measured bytes.now) off (subst (λ xs. pointwise nat_eq measured xs ≡ true) (answers_are e) (same_all measured))
  where
    answers_are : (let r : Result (List ℕ) BenchFault = Ok measured in r) ≡ Ok bytes.now → measured ≡ bytes.now
    answers_are f = cc
ok_other measured (Err fault) off e = absurd cc

err_other : (measured : BenchFault) (written : Result (Bor (List ℕ)) BenchFault) → is_same (Err (want.Fault measured)) written ≡ false → (let r : Result (List ℕ) BenchFault = Err measured in r) ≡ written_result written → ⊥
err_other measured (Ok bytes) off e = absurd cc
err_other measured (Err fault) off e = not_both (same_fault measured fault) off (subst (λ x. same_fault measured x ≡ true) (faults_are e) (fault_same measured))
  where
    faults_are : (let r : Result (List ℕ) BenchFault = Err measured in r) ≡ Err fault → measured ≡ fault
    faults_are f = cc

can_come : (session : Session) (keys : List (List ℕ × List ℕ)) (s : Standing) (pass event : ℕ) (written : Result (Bor (List ℕ)) BenchFault) → IsAwaited session keys s pass event → CanCome session keys s (RepeatsResult pass event written)
can_come session keys s pass event (Ok bytes) awaited =
    let one = awaited.answers bytes.now in record { then_stands = one.then_stands; possible = one.possible }
can_come session keys s pass event (Err fault) awaited = awaited.fails fault

-- the bench gives another result
pub unlike_is : {B : Type 0} (Gives : Ask → List ℕ → Type 0) (Fails : Ask → BenchFault → Type 0) (Starves : Type 0) (pass event : ℕ) (ask : Ask) (measured : Result (List ℕ) MeasureError) (written : Result (Bor (List ℕ)) BenchFault) (halted : Halt) (old : Seen (Opened B))
    → HaltsAs measured halted → is_same measured written ≡ false → MatchMeasured measured (Gives ask) (Fails ask) Starves
    → question_among (session_questions (session_in old.opening)) event ≡ Some ask
    → ((s : Standing) → StandsAt old s → IsAwaited (session_in old.opening) (keys_in old.opening) s pass event)
    → Halts Gives Fails (RepeatsResult pass event written) old halted
unlike_is Gives Fails Starves pass event ask (Ok found) written halted old halts off given asked awaited =
    subst (λ (h : Halt). Halts Gives Fails (RepeatsResult pass event written) old h) (sym halts)
    (λ s stands. record {
      event = event;
      result = written_result written;
      ask = ask;
      says = says_written pass event written;
      legal = can_come (session_in old.opening) (keys_in old.opening) s pass event written (awaited s stands);
      asked = asked;
      given = given;
      other = ok_other found written off;
    })
unlike_is Gives Fails Starves pass event ask (Err (want.Fault fault)) written halted old halts off given asked awaited =
    subst (λ (h : Halt). Halts Gives Fails (RepeatsResult pass event written) old h) (sym halts)
    (λ s stands. record {
      event = event;
      result = written_result written;
      ask = ask;
      says = says_written pass event written;
      legal = can_come (session_in old.opening) (keys_in old.opening) s pass event written (awaited s stands);
      asked = asked;
      given = given;
      other = err_other fault written off;
    })
unlike_is Gives Fails Starves pass event ask (Err want.NoMemory) written halted old halts off given asked awaited =
    subst (λ (h : Halt). Halts Gives Fails (RepeatsResult pass event written) old h) (sym halts) tt

-- the entry of the result is that which was written
repeated : (pass event : ℕ) (measured : Result (List ℕ) MeasureError) (written : Result (Bor (List ℕ)) BenchFault) → is_same measured written ≡ true → entry_of (result_entry pass event measured) ≡ RepeatsResult pass event written
repeated pass event (Ok found) (Ok bytes) e = ap (answered pass event) (same_text found bytes.now (sym e))
repeated pass event (Ok found) (Err fault) e = absurd cc
repeated pass event (Err (want.Fault fault)) (Ok bytes) e = absurd cc
repeated pass event (Err (want.Fault fault)) (Err other) e = ap (failed pass event) (fault_is fault other e)
repeated pass event (Err want.NoMemory) written e = absurd cc

failed_then : (session : Session) (keys : List (List ℕ × List ℕ)) (s t : Standing) (pass event : ℕ) (fault : BenchFault) → next session keys s (failed pass event fault) ≡ Some t → t.state ≡ has_failed event fault
failed_then session keys s t pass event fault e =
    where_open_is (t.state ≡ has_failed event fault) s.state (entered (makings session keys) session.root s (failed pass event fault)) t
    (λ still h. if_standing (t.state ≡ has_failed event fault) (is_in_flight s.in_flight pass event) (Some (record s { in_flight = without_ask event s.in_flight; state = has_failed event fault })) t
    (λ flying k. ap (λ (x : Standing). x.state) (sym (some_is Standing (record s { in_flight = without_ask event s.in_flight; state = has_failed event fault }) t k)))
    h)
    e

module _ {B : Type 0} (old : Seen (Opened B)) (pass event : ℕ) (flights : List (Option Flight)) (mirrors : Mirrors flights old) (s : Standing) (stands : StandsAt old s) (flies : is_in_flight s.in_flight pass event ≡ true) (apart : AreApart ℕ (events_in_flight s.in_flight)) (awaited : IsAwaited (session_in old.opening) (keys_in old.opening) s pass event) where
  within : event < length flights
  within = omega (arith, mirrors.size, event_within (session_in old.opening) (keys_in old.opening) (history old) s pass event stands flies)

  agree_result : (written : Result (Bor (List ℕ)) BenchFault) (t : Standing) → next (session_in old.opening) (keys_in old.opening) s (RepeatsResult pass event written) ≡ Some t → t.state ≡ is_open → AgreeAll (session_in old.opening) t (slice_set flights event None)
  agree_result (Ok bytes) t onward still =
      let one = awaited.answers bytes.now in
      let same : one.then_stands ≡ t = some_is Standing one.then_stands t (sym one.possible ∙ onward) in
      agree_cleared (session_in old.opening) s t flights event within
      (subst (λ (x : Standing). x.in_flight ≡ without_ask event s.in_flight) same one.over)
      apart
      (mirrors.agree s stands (was_open (session_in old.opening) (keys_in old.opening) s t (answered pass event bytes.now) onward))
  agree_result (Err fault) t onward still =
      absurd (open_failed (sym still ∙ failed_then (session_in old.opening) (keys_in old.opening) s t pass event fault onward))
    where
      open_failed : is_open ≡ has_failed event fault → ⊥
      open_failed e = absurd cc

  pub takes_result : (measured : Result (List ℕ) MeasureError) (written : Result (Bor (List ℕ)) BenchFault) → is_same measured written ≡ true → Takes (RepeatsResult pass event written) (slice_set flights event None) old (with_entry (result_entry pass event measured) old)
  takes_result measured written same =
      let is = repeated pass event measured written same in
      record {
        opening = refl;
        items = map_push entry_of old.items (result_entry pass event measured) ∙ ap (λ one. map entry_of old.items ++ one ∷ []) is;
        mirrors = record {
          size = set_size flights event None ∙ mirrors.size;
          agree = λ t later still. agree_result written t (ap (λ one. next (session_in old.opening) (keys_in old.opening) s one) (sym is) ∙ stands_next old (result_entry pass event measured) s t stands later) still;
        };
      }

  pub clear_within : event < length flights
  clear_within = within

-- a session that is open hasn't stopped
pub awaits : {B : Type 0} (old : Seen (Opened B)) (flights : List (Option Flight)) (mirrors : Mirrors flights old) (s : Standing) (pass event : ℕ) (ask : Ask) → StandsAt old s → s.state ≡ is_open → asked_in flights pass event ≡ Some ask → (is_in_flight s.in_flight pass event ≡ true) × (question_among (session_questions (session_in old.opening)) event ≡ Some ask)
awaits old flights mirrors s pass event ask stands still found =
    subst (Agrees (session_in old.opening) s pass event) found (mirrors.agree s stands still pass event)

pub lacks : {B : Type 0} (old : Seen (Opened B)) (flights : List (Option Flight)) (mirrors : Mirrors flights old) (s : Standing) (pass event : ℕ) → StandsAt old s → s.state ≡ is_open → asked_in flights pass event ≡ None → is_in_flight s.in_flight pass event ≡ false
lacks old flights mirrors s pass event stands still found =
    subst (Agrees (session_in old.opening) s pass event) found (mirrors.agree s stands still pass event)

is_awaiting : {B : Type 0} (old : Seen (Opened B)) (flights : List (Option Flight)) (mirrors : Mirrors flights old) (s : Standing) (pass event : ℕ) (found : Option Ask) → StandsAt old s → s.state ≡ is_open → asked_in flights pass event ≡ found → IsAwaiting (session_in old.opening) s pass event found
is_awaiting old flights mirrors s pass event None stands still is = λ open_now. lacks old flights mirrors s pass event stands still is
is_awaiting old flights mirrors s pass event (Some ask) stands still is =
    let found = awaits old flights mirrors s pass event ask stands still is in (still, found.0, found.1)

pub open_awaits : {B : Type 0} (old : Seen (Opened B)) (flights : List (Option Flight)) (mirrors : Mirrors flights old) (s : Standing) (pass event : ℕ) (found : Option Ask) → StandsAt old s → word.Open ≡ word_of s.state → found ≡ asked_in flights pass event → IsAwaiting (session_in old.opening) s pass event found
open_awaits old flights mirrors s pass event found stands e is =
    is_awaiting old flights mirrors s pass event found stands ((open_word s.state word.Open e).0 refl) (sym is)

pub closed_awaits : (session : Session) (s : Standing) (pass event : ℕ) (found : Word) → open_by found ≡ false → found ≡ word_of s.state → IsAwaiting session s pass event None
closed_awaits session s pass event found off e = λ still. absurd (not_both (open_by found) off ((open_word s.state found e).1 still))

-- none is awaited: no result can come next
pub none_awaited : (session : Session) (keys : List (List ℕ × List ℕ)) (s : Standing) (pass event : ℕ) (written : Result (Bor (List ℕ)) BenchFault) → IsAwaiting session s pass event None → next session keys s (RepeatsResult pass event written) ≡ None
none_awaited session keys s pass event written none = by_state s.state refl
  where
    by_state : (state : State) → s.state ≡ state → next session keys s (RepeatsResult pass event written) ≡ None
    by_state is_open is = unasked_none session keys s pass event written (none is)
    by_state (is_done value) is = closed_none session keys s (RepeatsResult pass event written) (λ still. absurd (done_open (sym is ∙ still)))
      where
        done_open : is_done value ≡ is_open → ⊥
        done_open e = absurd cc
    by_state (has_failed number fault) is = closed_none session keys s (RepeatsResult pass event written) (λ still. absurd (failed_open (sym is ∙ still)))
      where
        failed_open : has_failed number fault ≡ is_open → ⊥
        failed_open e = absurd cc
    by_state (has_starved number) is = closed_none session keys s (RepeatsResult pass event written) (λ still. absurd (starved_open (sym is ∙ still)))
      where
        starved_open : has_starved number ≡ is_open → ⊥
        starved_open e = absurd cc

-- ---- measured by the same bench

pub match_over : {B : Type 0} (gives : B → List Artefact → Ask → List ℕ → Type 0) (fails : B → List Artefact → Ask → BenchFault → Type 0) (starves : B → List Artefact → Ask → Type 0) (bench measurer : B) (artefacts others : List Artefact) (ask : Ask) (measured : Result (List ℕ) MeasureError)
    → measurer ≡ bench → others ≡ artefacts
    → MatchMeasured measured (gives bench artefacts ask) (fails bench artefacts ask) (starves bench artefacts ask)
    → MatchMeasured measured (gives measurer others ask) (fails measurer others ask) (starves measurer others ask)
match_over gives fails starves bench measurer artefacts others ask measured same alike h =
    subst (λ b. MatchMeasured measured (gives b others ask) (fails b others ask) (starves b others ask)) (sym same)
    (subst (λ a. MatchMeasured measured (gives bench a ask) (fails bench a ask) (starves bench a ask)) (sym alike) h)
