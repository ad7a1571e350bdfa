-- The question of each measurement event.
use Rattle.std.specs.Prelude.{ℕ, List, [], ◌∷◌, Option, None, Some, nat_eq, if◌then◌else◌}
use Rattle.phrase_tree.specs.Term.{Term}
use Rattle.phrase_tree.specs.Events.{Kind, measures, measures_at, Event, events_of}
use Rattle.bench_trait.specs.declared.ask.Ask.{Ask}
use Rattle.bench_trait.specs.declared.ask.AskKind.TheVariants.{Usm, Kim}

-- the question of an event in a session with this nonce; only a measurement has one
abbrev pub question_of : List ℕ → ℕ → List ℕ → Kind → Option Ask
question_of nonce event place (measures asp) =
    Some (record { nonce = nonce; event = event; place = place; kind = Usm; asp = asp })
question_of nonce event place (measures_at target asp) =
    Some (record { nonce = nonce; event = event; place = place; kind = Kim target; asp = asp })
question_of nonce event place _ = None

-- a question, where there is one, ahead of others
abbrev pub ahead_of : Option Ask → List Ask → List Ask
ahead_of None asks = asks
ahead_of (Some ask) asks = ask ∷ asks

-- the questions of the measurements among these events, in their order
abbrev pub questions_of : List ℕ → List Event → List Ask
questions_of nonce [] = []
questions_of nonce (event ∷ rest) =
    ahead_of (question_of nonce event.number event.place event.kind) (questions_of nonce rest)

-- the question of this event among them
abbrev pub question_among : List Ask → ℕ → Option Ask
question_among [] event = None
question_among (ask ∷ rest) event = if nat_eq ask.event event then Some ask else question_among rest event

-- the questions of a phrase whose session has this root and nonce
abbrev pub questions : Term → List ℕ → List ℕ → List Ask
questions phrase root nonce = questions_of nonce (events_of phrase root 0)

-- the question of an event of a phrase whose session has this root and nonce; none where the event is
-- no measurement of the phrase
abbrev pub question : Term → List ℕ → List ℕ → ℕ → Option Ask
question phrase root nonce event = question_among (questions phrase root nonce) event
