-- Sessions that the schedule of 0 plays, one after another.
use Rattle.std.proofs.Common.{◌≡◌, ℕ, suc, ◌+◌, List, [], ◌∷◌, ◌++◌, length, set, refl, sym, ◌∙◌, ap, subst, arith, zero-add}
use Rattle.std.specs.Prelude.{true, false, Bool, if◌then◌else◌, nat_eq, None, Some, slice_get}
use Rattle.std.proofs.lemmas.List.{length-map}
use Rattle.std.proofs.lemmas.Option.{same_Some}
use Rattle.bench_trait.specs.declared.artefacts.Artefact.{Artefact}
use Rattle.bench_trait.specs.declared.ask.Ask.{Ask}
use Rattle.bench_trait.specs.declared.bench.BenchFault.{BenchFault}
use Rattle.session_model.specs.Session.{Session}
use Rattle.session_model.specs.Record.{Record}
use Rattle.session_runs.specs.Standing.{State as SessionState, is_open, is_done, has_failed, has_starved}
use Rattle.session_runs.specs.History.{record_of}
use Rattle.session_runs.specs.Played.{AskOnly}
use Rattle.session_runs.specs.Schedule.{Draw, draw, drawn_of, Walked, is_running, is_starving}
use Rattle.place_check.specs.declared.entry.PlaceEntry.{PlaceEntry}
use Rattle.place_check.specs.Places.{keys_of}
use Rattle.checked_sessions.specs.Named.{place_names}
use Rattle.session_book.specs.declared.entry.State.TheVariants.{Starved}
use Rattle.session_book.specs.Entries.{entry_of}
use Rattle.session_core.specs.Reading.{word_of}
use Rattle.session_core.specs.Session.{Seen, history}
use Rattle.session_walk.specs.Drawn.{open_ones, candidate_count, session_draw, CanGoOn, IsDrawn}
use Rattle.session_walk.specs.Taken.{TakesCandidate}
use Rattle.session_walk.specs.UnderWay.{IsWalking, IsRoundOn}
use Rattle.session_walk.specs.Records.{record_in}
use Rattle.session_walk.specs.Turns.{NoneRuns, IsTurnOf}
use Rattle.session_walk.proofs.JobLemmas.{there, Listed, GoesOn}

-- the schedule of 0 draws 0 always
first_drawn : (count : ℕ) (alone : Bool) → drawn_of count alone None ≡ record { drawn = 0; from = None }
first_drawn count true = refl
first_drawn count false = refl

pub draws_first : (count : ℕ) → draw count None ≡ record { drawn = 0; from = None }
draws_first count = first_drawn count (nat_eq count 1)

-- the open ones, where none is ahead
open_behind : (n : ℕ) (over left : List Walked) → NoneRuns over → open_ones n (over ++ left) ≡ open_ones (n + length over) left
open_behind n [] left none = ap (λ k. open_ones k left) (omega arith)
open_behind n (walked ∷ over) left none =
    ap (λ b. if b then n ∷ open_ones (n + 1) (over ++ left) else open_ones (n + 1) (over ++ left)) none.0
    ∙ open_behind (n + 1) over left none.1
    ∙ ap (λ k. open_ones k left) (one_more n (length over))
  where
    one_more : (a b : ℕ) → a + 1 + b ≡ a + suc b
    one_more a b = omega arith

pub first_open : (over more : List Walked) (walked : Walked) → NoneRuns over → is_running walked.standing.state ≡ true → slice_get (open_ones 0 (over ++ walked ∷ more)) 0 ≡ Some (length over)
first_open over more walked none runs =
    ap (λ xs. slice_get xs 0) (open_behind 0 over (walked ∷ more) none ∙ ap (λ b. if b then (0 + length over) ∷ open_ones (0 + length over + 1) more else open_ones (0 + length over + 1) more) runs)
    ∙ ap (λ (n : ℕ). Some n) (zero-add (length over))

set_here : (over more : List Walked) (before after : Walked) → set (over ++ before ∷ more) (length over) after ≡ over ++ after ∷ more
set_here [] more before after = refl
set_here (first ∷ over) more before after = ap (λ xs. first ∷ xs) (set_here over more before after)

joined : (over more : List Walked) (walked : Walked) → over ++ walked ∷ more ≡ (over ++ walked ∷ []) ++ more
joined [] more walked = refl
joined (first ∷ over) more walked = ap (λ xs. first ∷ xs) (joined over more walked)

none_more : (over : List Walked) (walked : Walked) → NoneRuns over → is_running walked.standing.state ≡ false → NoneRuns (over ++ walked ∷ [])
none_more [] walked none ended = (ended, tt)
none_more (first ∷ over) walked none ended = (none.0, none_more over walked none.1 ended)

pub none_left : (n : ℕ) (over : List Walked) → NoneRuns over → open_ones n over ≡ []
none_left n [] none = refl
none_left n (walked ∷ over) none =
    ap (λ b. if b then n ∷ open_ones (n + 1) over else open_ones (n + 1) over) none.0 ∙ none_left (n + 1) over none.1

-- a starved session, and one that runs
pub starves : (state : SessionState) → Starved ≡ word_of state → (is_running state ≡ false) × (is_starving state ≡ true)
starves is_open e = absurd (cc)
starves (is_done value) e = absurd (cc)
starves (has_failed event fault) e = absurd (cc)
starves (has_starved event) e = (refl, refl)

pub runs_fed : (state : SessionState) → is_running state ≡ true → is_starving state ≡ false
runs_fed is_open e = refl
runs_fed (is_done value) e = refl
runs_fed (has_failed event fault) e = refl
runs_fed (has_starved event) e = absurd (cc)

pub runs_open : (state : SessionState) → is_running state ≡ true → state ≡ is_open
runs_open is_open e = refl
runs_open (is_done value) e = absurd (cc)
runs_open (has_failed event fault) e = absurd (cc)
runs_open (has_starved event) e = absurd (cc)

-- as many entries as items, and the opening
pub entry_count : {O : Type 0} (seen : Seen O) → length (history seen) ≡ length seen.items + 1
entry_count seen = omega (arith, length-map seen.items entry_of)

-- a session that is done or failed has a record
pub has_record : (walked : Walked) → is_running walked.standing.state ≡ false → is_starving walked.standing.state ≡ false → (found : Record) × (record_in walked ≡ Some found)
has_record walked ended fed = by_state walked.standing.state ended fed
  where
    by_state : (state : SessionState) → is_running state ≡ false → is_starving state ≡ false → (found : Record) × (record_of walked.session walked.standing state ≡ Some found)
    by_state is_open e f = absurd (cc)
    by_state (is_done value) e f = (_, refl)
    by_state (has_failed event fault) e f = (_, refl)
    by_state (has_starved event) e f = absurd (cc)

module _ {B : Type 0} (Gives : Ask → List ℕ → Type 0) (Fails : Ask → BenchFault → Type 0) (Starves : Ask → Type 0) (artefacts : List Artefact) (bench : B) where
  -- the open ones are those that are listed
  relisted : (names : List (List ℕ)) (keys : List (List ℕ × List ℕ)) (those : List Session) (all : List Walked) (going : List ℕ) → IsWalking Gives Fails Starves names keys those 0 all going None → IsWalking Gives Fails Starves names keys those 0 all (open_ones 0 all) None
  relisted names keys those all going w =
      subst (λ g. IsWalking Gives Fails Starves names keys those 0 all g None) w.going_are w

  pub first_turn : (places : List PlaceEntry) (those : List Session) (all : List Walked) (going : List ℕ) → AskOnly (place_names places) those → IsWalking Gives Fails Starves (place_names places) (keys_of places) those 0 all going None → IsTurnOf Gives Fails Starves places those [] all
  first_turn places those all going only w = record {
    only = only;
    none = tt;
    walking = relisted (place_names places) (keys_of places) those all going w;
  }

  pub can_go_on : Listed Gives Fails Starves artefacts bench → (places : List PlaceEntry) (those : List Session) (over more : List Walked) (walked : Walked) → IsTurnOf Gives Fails Starves places those over (walked ∷ more) → walked.standing.state ≡ is_open → CanGoOn (place_names places) walked
  can_go_on law places those over more walked turn still =
      let all = over ++ walked ∷ more in
      let found = law (place_names places) (keys_of places) those 0 all (open_ones 0 all) None 0 (length over) turn.only turn.walking (first_open over more walked turn.none (ap is_running still)) in
      subst (λ w. CanGoOn (place_names places) w) (same_Some found.0 walked (sym found.1 ∙ there over more walked)) found.2

  pub turn_on : GoesOn Gives Fails Starves artefacts bench → (places : List PlaceEntry) (those : List Session) (over more : List Walked) (before after : Walked) → IsTurnOf Gives Fails Starves places those over (before ∷ more) → before.standing.state ≡ is_open → TakesCandidate Gives Fails Starves (place_names places) (keys_of places) 0 before after → is_starving after.standing.state ≡ false → IsTurnOf Gives Fails Starves places those over (after ∷ more)
  turn_on law places those over more before after turn still took fed =
      let names = place_names places in
      let keys = keys_of places in
      let all = over ++ before ∷ more in
      let going = open_ones 0 all in
      let i = length over in
      let first : session_draw going None ≡ record { drawn = 0; from = None } = draws_first (length going) in
      let second : draw (candidate_count names before.standing) (session_draw going None).from ≡ record { drawn = 0; from = None } = ap (λ (d : Draw). draw (candidate_count names before.standing) d.from) first ∙ draws_first (candidate_count names before.standing) in
      let drawn : IsDrawn names all going None 0 i before 0 None = record {
        drawn_is = sym (ap (λ (d : Draw). d.drawn) first);
        listed = first_open over more before turn.none (ap is_running still);
        there = there over more before;
        candidate = sym (ap (λ (d : Draw). d.drawn) second);
        from_then = sym (ap (λ (d : Draw). d.from) second);
      } in
      let round : IsRoundOn Gives Fails Starves names keys those 0 all going 0 i after None = law names keys those 0 all going None 0 i before after 0 None turn.only turn.walking drawn took in
      record {
        only = turn.only;
        none = turn.none;
        walking = subst (λ xs. IsWalking Gives Fails Starves names keys those 0 xs (open_ones 0 xs) None) (set_here over more before after) (by_running (is_running after.standing.state) refl round);
      }
    where
      by_running : (b : Bool) → is_running after.standing.state ≡ b → IsRoundOn Gives Fails Starves (place_names places) (keys_of places) those 0 (over ++ before ∷ more) (open_ones 0 (over ++ before ∷ more)) 0 (length over) after None → IsWalking Gives Fails Starves (place_names places) (keys_of places) those 0 (set (over ++ before ∷ more) (length over) after) (open_ones 0 (set (over ++ before ∷ more) (length over) after)) None
      by_running true e round = relisted (place_names places) (keys_of places) those _ _ (round.stays e)
      by_running false e round = relisted (place_names places) (keys_of places) those _ _ (round.ends e fed)

  pub next_turn : (places : List PlaceEntry) (those : List Session) (over more : List Walked) (walked : Walked) → IsTurnOf Gives Fails Starves places those over (walked ∷ more) → is_running walked.standing.state ≡ false → IsTurnOf Gives Fails Starves places those (over ++ walked ∷ []) more
  next_turn places those over more walked turn ended = record {
    only = turn.only;
    none = none_more over walked turn.none ended;
    walking = subst (λ xs. IsWalking Gives Fails Starves (place_names places) (keys_of places) those 0 xs (open_ones 0 xs) None) (joined over more walked) turn.walking;
  }

  -- once nothing is left, none is open
  pub all_walked : (places : List PlaceEntry) (those : List Session) (over : List Walked) → IsTurnOf Gives Fails Starves places those over [] → IsWalking Gives Fails Starves (place_names places) (keys_of places) those 0 over [] None
  all_walked places those over turn =
      let walking = subst (λ xs. IsWalking Gives Fails Starves (place_names places) (keys_of places) those 0 xs (open_ones 0 xs) None) (whole over) turn.walking in
      subst (λ going. IsWalking Gives Fails Starves (place_names places) (keys_of places) those 0 over going None) (none_left 0 over turn.none) walking
    where
      whole : (xs : List Walked) → xs ++ [] ≡ xs
      whole [] = refl
      whole (x ∷ xs) = ap (λ ys. x ∷ ys) (whole xs)
