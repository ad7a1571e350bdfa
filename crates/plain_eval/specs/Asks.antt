-- The questions that are still to be asked of a session, part by part.
use Rattle.std.specs.Prelude.{◌≡◌, ◌+◌, ◌<◌, ◌≤◌, ℕ, List, [], ◌∷◌, ◌++◌, map, reverse, max}
use Rattle.phrase_tree.specs.Term.{Term, term}
use Rattle.phrase_tree.specs.Numbering.{event_count}
use Rattle.phrase_tree.specs.Events.{events_of}
use Rattle.bench_trait.specs.Asking.{questions_of}
use Rattle.bench_trait.specs.declared.ask.Ask.{Ask}
use Rattle.evidence_types.specs.Answers.{IsRising}
use Rattle.plain_eval.specs.Steps.{turns}
use Rattle.plain_eval.specs.declared.asks.Asks.{Asks}
use Rattle.plain_eval.specs.declared.asks.Part.{Part}
use Rattle.plain_eval.specs.declared.asks.Part.TheVariants.{Run, Quiet}
use Rattle.plain_eval.specs.declared.asks.Seen.{Seen}
use Rattle.plain_eval.specs.declared.asks.Seen.TheVariants.{Passed, Measures, End}

-- a part that is to come: a place runs a phrase; or an event asks nothing
pub data Coming : Type 0 where
  run : Term → List ℕ → Coming
  quiet : Coming

abbrev pub coming : Part → Coming
coming (Run phrase place) = run (term phrase.now) place
coming Quiet = quiet

-- the parts to come, the next one first
abbrev pub all_coming : List Part → List Coming
all_coming parts = map coming (reverse parts)

-- the questions of a phrase that a place runs from a number on
abbrev pub asks_of : List ℕ → Term → List ℕ → ℕ → List Ask
asks_of nonce phrase place first = questions_of nonce (events_of phrase place first)

-- the questions of the parts, from a number on
abbrev pub asks_coming : List ℕ → List Coming → ℕ → List Ask
asks_coming nonce [] next = []
asks_coming nonce (run phrase place ∷ parts) next =
    asks_of nonce phrase place next ++ asks_coming nonce parts (next + event_count phrase)
asks_coming nonce (quiet ∷ parts) next = asks_coming nonce parts (next + 1)

-- the events of the parts
abbrev pub events_coming : List Coming → ℕ
events_coming [] = 0
events_coming (run phrase place ∷ parts) = event_count phrase + events_coming parts
events_coming (quiet ∷ parts) = 1 + events_coming parts

-- at most so many steps are taken for the parts
abbrev pub turns_coming : List Coming → ℕ
turns_coming [] = 0
turns_coming (run phrase place ∷ parts) = turns phrase + turns_coming parts
turns_coming (quiet ∷ parts) = 1 + turns_coming parts

-- the questions that are still to be asked
abbrev pub asks_left : Asks → List Ask
asks_left asks = asks_coming asks.nonce.now (all_coming asks.parts.items) asks.next

-- the number after the last event
abbrev pub end_of : Asks → ℕ
end_of asks = asks.next + events_coming (all_coming asks.parts.items)

-- at most so many steps are still to be taken
abbrev pub turns_left : Asks → ℕ
turns_left asks = turns_coming (all_coming asks.parts.items)

-- these parts are to come now, and the number of the next event is this one
pub record Sets (old new : Asks) (parts : List Coming) (next : ℕ) : Type 0 where
  pub parts_are : all_coming new.parts.items ≡ parts
  pub next_is : new.next ≡ next
  pub nonce_is : new.nonce ≡ old.nonce

-- one step was taken where these parts were to come, and these questions came up
pub record GoesOn (old : Asks) (parts : List Coming) (new : Asks) (asked : List Ask) : Type 0 where
  pub asks_are : asks_coming old.nonce.now parts old.next ≡ asked ++ asks_left new
  pub same_end : end_of new ≡ old.next + events_coming parts
  pub fewer : turns_left new < turns_coming parts

-- what came next: nothing that asks, the question of a measurement, or the end
abbrev pub Sees : Asks → List Coming → Asks → Seen → Type 0
Sees old parts new Passed = GoesOn old parts new []
Sees old parts new (Measures event place kind asp) =
    GoesOn old parts new (record { nonce = new.nonce.now; event = event; place = place; kind = kind; asp = asp.now } ∷ [])
Sees old parts new End = parts ≡ []

-- the number behind all events in the list
abbrev pub behind : List (ℕ × List ℕ) → ℕ
behind [] = 0
behind (pair ∷ rest) = max (pair.0 + 1) (behind rest)

-- answers whose events rise, all before this one, so that its own may follow
pub record AreUpTo (event : ℕ) (answers : List (ℕ × List ℕ)) : Type 0 where
  pub rising : IsRising answers
  pub below : behind answers ≤ event
