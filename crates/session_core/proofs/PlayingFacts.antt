-- What a move and a result of a session ask of its core.
use Rattle.std.proofs.Common.{◌≡◌, ℕ, List, [], ◌∷◌, ◌++◌, Bool, true, false, refl, sym, ◌∙◌, ap, subst}
use Rattle.std.specs.Prelude.{Option, Some, nat_eq, ◌&&◌, ◌||◌, ◌↔◌}
use Rattle.std.proofs.lemmas.Bool.{eqb-true}
use Rattle.bench_trait.specs.declared.ask.Ask.{Ask}
use Rattle.session_model.specs.Session.{Session}
use Rattle.evidence_types.specs.Evidence.{Evidence}
use Rattle.evidence_store.specs.Kept.{value_at}
use Rattle.session_runs.specs.Standing.{Block, Move, Entry, played, State, is_open, is_done, is_in_flight, Standing, next}
use Rattle.session_runs.specs.History.{standing_after}
use Rattle.session_runs.specs.Flights.{AsksQuestion}
use Rattle.session_runs.specs.Progress.{CanMake}
use Rattle.session_runs.proofs.HistoryLaws.{after_more}
use Rattle.session_book.specs.declared.entry.Ending.{Ending}
use Rattle.session_book.specs.declared.entry.Ending.TheVariants as ending
use Rattle.session_book.specs.declared.entry.State.TheVariants as word
use Rattle.session_book.specs.Kept.{state_of, word_of}
use Rattle.session_core.specs.declared.steps.Core.{Core}
use Rattle.session_core.specs.Core.{IsCoreAt, CanTakeWith}
use Rattle.session_core.specs.Steps.{IsAsked}
use Rattle.session_core.specs.Reading.{HasStopped}

some_standing : (a b : Standing) → ◌≡◌ {A = Option Standing} (Some a) (Some b) → a ≡ b
some_standing a b e = cc

pub one_standing : (session : Session) (keys : List (List ℕ × List ℕ)) (history : List Entry) (a b : Standing) → standing_after session keys history ≡ Some a → standing_after session keys history ≡ Some b → a ≡ b
one_standing session keys history a b e f = some_standing a b (sym e ∙ f)

-- a possible move can be taken
pub can_take : (session : Session) (keys : List (List ℕ × List ℕ)) (places : List (List ℕ)) (standing : Standing) (core : Core) (pass : ℕ) (move : Move) → IsCoreAt session keys places standing core → CanMake session keys standing pass move → CanTakeWith keys (played pass move) core
can_take session keys places standing core pass move i possible = record {
  session = session;
  places = places;
  standing = standing;
  is = i;
  possible = possible;
}

-- the first of the asks in flight is the one that wasn't there before
first_new : (event other pass : ℕ) (before : List (ℕ × ℕ)) → is_in_flight ((event, pass) ∷ before) pass other ≡ true → (is_in_flight before pass other ≡ true → ⊥) → event ≡ other
first_new event other pass before flies fresh = by_test (nat_eq event other) refl (is_in_flight before pass other) refl flies
  where
    by_test : (b : Bool) → nat_eq event other ≡ b → (o : Bool) → is_in_flight before pass other ≡ o → ((b && nat_eq pass pass) || o) ≡ true → event ≡ other
    by_test true e o f h = eqb-true event other e
    by_test false e true f h = absurd (fresh f)
    by_test false e false f h = absurd (cc)

-- what a move that asks puts in flight is the event of its question
pub asked_first : (session : Session) (keys : List (List ℕ × List ℕ)) (pass : ℕ) (block : Block) (before_history after_history : List Entry) (before after : Standing) (asked : Ask) → AsksQuestion session before pass block after → IsAsked session keys pass before_history after_history asked → standing_after session keys before_history ≡ Some before → standing_after session keys after_history ≡ Some after → after.in_flight ≡ (asked.event, pass) ∷ before.in_flight
asked_first session keys pass block before_history after_history before after asked q a stood stands =
    let same : q.event ≡ asked.event = first_new q.event asked.event pass before.in_flight (subst (λ flying. is_in_flight flying pass asked.event ≡ true) q.flies (a.flies after stands)) (a.fresh before stood) in
    q.flies ∙ ap (λ n. flying n) same
  where
    flying : ℕ → List (ℕ × ℕ)
    flying n = (n, pass) ∷ before.in_flight

-- the standing after an entry more is the next
pub next_after : (session : Session) (keys : List (List ℕ × List ℕ)) (old new : List Entry) (before after : Standing) (entry : Entry) → new ≡ old ++ entry ∷ [] → standing_after session keys old ≡ Some before → standing_after session keys new ≡ Some after → next session keys before entry ≡ Some after
next_after session keys old new before after entry adds stood stands =
    sym (after_more session keys old before entry stood) ∙ ap (λ h. standing_after session keys h) (sym adds) ∙ stands

-- ---- how a session stands, by the word for it

pub done_by : (values : List Evidence) (e : Ending) → word_of e ≡ word.Done → (value : Evidence) × (state_of values e ≡ is_done value)
done_by values ending.Open h = absurd (cc)
done_by values (ending.Done id) h = (value_at values id, refl)
done_by values (ending.Failed event fault) h = absurd (cc)
done_by values (ending.Starved event) h = absurd (cc)

pub failed_by : (values : List Evidence) (e : Ending) → word_of e ≡ word.Failed → HasStopped (state_of values e)
failed_by values ending.Open h = absurd (cc)
failed_by values (ending.Done id) h = absurd (cc)
failed_by values (ending.Failed event fault) h = tt
failed_by values (ending.Starved event) h = absurd (cc)

pub starved_by : (values : List Evidence) (e : Ending) → word_of e ≡ word.Starved → HasStopped (state_of values e)
starved_by values ending.Open h = absurd (cc)
starved_by values (ending.Done id) h = absurd (cc)
starved_by values (ending.Failed event fault) h = absurd (cc)
starved_by values (ending.Starved event) h = tt

-- no ask is in flight in a session that is done
pub none_flies : (flying : List (ℕ × ℕ)) (pass event : ℕ) → flying ≡ [] → is_in_flight flying pass event ≡ true → ⊥
none_flies flying pass event none flies = both_ways (subst (λ f. is_in_flight f pass event ≡ true) none flies)
  where
    both_ways : false ≡ true → ⊥
    both_ways e = absurd (cc)

-- a result is taken exactly where the session hasn't stopped
pub is_taken : (refused : Bool) (state : State) → refused ≡ false → state ≡ is_open → (refused ≡ true) ↔ HasStopped state
is_taken refused state taken opened = (λ r. absurd (both_ways (sym taken ∙ r)), λ h. absurd (subst HasStopped opened h))
  where
    both_ways : false ≡ true → ⊥
    both_ways e = absurd (cc)

pub is_dropped : (refused : Bool) (state : State) → refused ≡ true → HasStopped state → (refused ≡ true) ↔ HasStopped state
is_dropped refused state dropped stopped = (λ r. stopped, λ h. dropped)

-- a move is refused exactly where it isn't possible
pub is_made : (Possible : Type 0) (refused : Bool) → refused ≡ false → Possible → (refused ≡ true) ↔ (Possible → ⊥)
is_made Possible refused made possible = (λ r. absurd (both_ways (sym made ∙ r)), λ no. absurd (no possible))
  where
    both_ways : false ≡ true → ⊥
    both_ways e = absurd (cc)

pub is_refused : (Possible : Type 0) (refused can : Bool) → refused ≡ true → can ≡ false → (can ≡ true) ↔ Possible → (refused ≡ true) ↔ (Possible → ⊥)
is_refused Possible refused can is cannot same = (λ r possible. both_ways (sym cannot ∙ same.1 possible), λ h. is)
  where
    both_ways : false ≡ true → ⊥
    both_ways e = absurd (cc)
