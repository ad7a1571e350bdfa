-- What the reader's functions promise one another.
use Rattle.std.specs.Prelude.{◌≡◌, ◌≤◌, ◌<◌, ◌+◌, ◌↔◌, ℕ, true, false, List, [], ◌∷◌, Some, None, Result, Ok, Err, length, drop, nat_lt}
use Rattle.phrase_tree.specs.declared.phrase.TheConstants.{EVENTS}
use Rattle.phrase_tree.specs.declared.phrase.Phrase.{Phrase}
use Rattle.phrase_tree.specs.Term.{Term, term}
use Rattle.phrase_tree.specs.Numbering.{IsSized}
use Rattle.phrase_reader.specs.declared.refusal.Kind.{Kind}
use Rattle.phrase_reader.specs.declared.refusal.Kind.TheVariants as kinds
use Rattle.phrase_reader.specs.declared.refusal.ReadError.{ReadError}
use Rattle.phrase_reader.specs.declared.refusal.ReadError.TheVariants.{Refused, NoMemory}
use Rattle.phrase_reader.specs.declared.token.Token.{Token}
use Rattle.phrase_reader.specs.declared.piece.Piece.{Piece}
use Rattle.phrase_reader.specs.declared.piece.Piece.TheVariants as pieces
use Rattle.phrase_reader.specs.declared.reader.Reader.{Reader}
use Rattle.phrase_reader.specs.declared.state.Stop.{Stop}
use Rattle.phrase_reader.specs.declared.state.Stop.TheVariants.{Unfit, Limit, Memory}
use Rattle.phrase_reader.specs.Tokens.{Found, token_at, refused_at, ends_at, found, tokens_of}
use Rattle.phrase_reader.specs.Grammar.{IsBranch}
use Rattle.phrase_reader.specs.Refusal.{Refuses, token_events}
use Rattle.phrase_reader.specs.Machine.{State, state_of, step, verdict, finished, unfit}

-- the reader's answer to all that is found in a text of few bytes
abbrev pub Reads : Result Phrase ReadError → List Found → Type 0
Reads (Ok phrase) all =
    IsSized (term phrase) × ((place : ℕ) (kind : Kind) → ¬ (Refuses [] all place kind)) × ((spelled : Term) → IsBranch (tokens_of all) spelled ↔ (term phrase ≡ spelled))
Reads (Err (Refused place kind)) all =
    (p : ℕ) (k : Kind) → Refuses [] all p k ↔ ((place ≡ p) × (kind ≡ k))
Reads (Err NoMemory) all = Unit {0}

-- a piece is what is found from an offset on
abbrev pub Finds : List ℕ → ℕ → Piece → Type 0
Finds text offset (pieces.Token token start next) =
    (found offset 0 (drop offset text) ≡ token_at start token ∷ found next 0 (drop next text)) × (offset < next) × (start ≤ length text) × (next ≤ length text)
Finds text offset (pieces.Refused kind place) =
    (found offset 0 (drop offset text) ≡ refused_at place kind ∷ []) × (place ≤ length text)
Finds text offset (pieces.End place) =
    (found offset 0 (drop offset text) ≡ ends_at place ∷ []) × (place ≤ length text)

-- the reader took a token and is what it is next, or answered with the rule that the token breaks
abbrev pub Accepts : {A : Type 0} → State → ℕ → Token → ℕ → Reader → Result A ReadError → Type 0
Accepts state events token place next (Ok done) =
    (step state token ≡ Some (state_of next.state)) × (verdict state events token ≡ None) × (next.events ≡ events + token_events token) × (next.events ≤ EVENTS) × (next.unfit ≡ unfit (finished (state_of next.state)))
Accepts state events token place next (Err (Refused offset kind)) =
    (offset ≡ place) × (verdict state events token ≡ Some kind)
Accepts state events token place next (Err NoMemory) = Unit {0}

-- the same for a token that breaks no other rule than that on the count of events
abbrev pub AcceptsCount : {A : Type 0} → State → ℕ → ℕ → Reader → Result A ReadError → Type 0
AcceptsCount state events place next (Ok done) =
    (state_of next.state ≡ state) × (next.events ≡ events) × (nat_lt EVENTS events ≡ false) × (next.unfit ≡ unfit (finished (state_of next.state)))
AcceptsCount state events place next (Err (Refused offset kind)) =
    (offset ≡ place) × (kind ≡ kinds.TooManyEvents) × (nat_lt EVENTS events ≡ true)
AcceptsCount state events place next (Err NoMemory) = Unit {0}

-- the reader's answer at the end
abbrev pub Finishes : State → ℕ → Result Phrase ReadError → Type 0
Finishes state place (Ok phrase) = finished state ≡ Some (term phrase)
Finishes state place (Err (Refused offset kind)) =
    (offset ≡ place) × (kind ≡ kinds.Expected) × (finished state ≡ None)
Finishes state place (Err NoMemory) = Unit {0}

abbrev pub stopped : Stop → Kind → ℕ → ReadError
stopped Unfit kind place = Refused place kind
stopped (Limit rule) kind place = Refused place rule
stopped Memory kind place = NoMemory
