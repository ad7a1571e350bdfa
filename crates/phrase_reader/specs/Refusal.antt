-- Which texts are refused, where and why, and which phrase any other text spells.
use Rattle.std.specs.Prelude.{◌≡◌, ◌≤◌, ◌<◌, ◌+◌, ◌-◌, ◌++◌, ◌⊎◌, ℕ, List, [], ◌∷◌, Option, length}
use Rattle.phrase_tree.specs.declared.phrase.TheConstants.{EVENTS, BRACKETS}
use Rattle.phrase_reader.specs.declared.reader.TheConstants.{TEXT_BYTES}
use Rattle.phrase_tree.specs.declared.measurement.Arg.{Arg}
use Rattle.phrase_tree.specs.declared.measurement.Asp.{Asp}
use Rattle.phrase_tree.specs.Term.{Term}
use Rattle.phrase_reader.specs.declared.refusal.Kind.{Kind}
use Rattle.phrase_reader.specs.declared.refusal.Kind.TheVariants.{Trailing, Expected, TooManyArgs, TooDeep, TooManyEvents, TooLong}
use Rattle.phrase_reader.specs.declared.token.Token.{Token}
use Rattle.phrase_reader.specs.declared.token.Token.TheVariants as tokens
use Rattle.phrase_reader.specs.Tokens.{Found, token_at, refused_at, ends_at, found, tokens_of}
use Rattle.phrase_reader.specs.Grammar.{IsBranch, IsWhole, IsViable, measurement_tokens}

-- CPY, SIG, HSH, NUL, USM and KIM count one event each, a request and an op two
abbrev pub token_events : Token → ℕ
token_events (tokens.Leaf leaf) = 1
token_events tokens.Usm = 1
token_events tokens.Kim = 1
token_events tokens.At = 2
token_events (tokens.Op op) = 2
token_events _ = 0

abbrev pub events_in : List Token → ℕ
events_in [] = 0
events_in (token ∷ rest) = token_events token + events_in rest

abbrev pub opens : Token → ℕ
opens tokens.OpenRound = 1
opens tokens.OpenSquare = 1
opens _ = 0

abbrev pub closes : Token → ℕ
closes tokens.CloseRound = 1
closes tokens.CloseSquare = 1
closes _ = 0

abbrev pub opened_in : List Token → ℕ
opened_in [] = 0
opened_in (token ∷ rest) = opens token + opened_in rest

abbrev pub closed_in : List Token → ℕ
closed_in [] = 0
closed_in (token ∷ rest) = closes token + closed_in rest

-- how many brackets are open behind these tokens, round and square counted together
abbrev pub open_in : List Token → ℕ
open_in spelled = opened_in spelled - closed_in spelled

-- a name or a decimal behind a measurement that has four arguments already
abbrev pub IsFifthArgument : List Token → Token → Type 0
IsFifthArgument before token =
    (value : Arg) × (token ≡ tokens.Value value) × (front : List Token) × (target : Option (List ℕ)) × (asp : Asp) × (4 ≤ length asp.args) × (before ≡ front ++ measurement_tokens target asp)

-- the rules on a token behind those before it; Trailing and Expected leave the limits aside
abbrev pub BreaksRule : List Token → Token → Kind → Type 0
BreaksRule before token Trailing = IsWhole before × ¬ (IsViable (before ++ token ∷ []))
BreaksRule before token Expected = ¬ (IsWhole before) × ¬ (IsViable (before ++ token ∷ []))
BreaksRule before token TooManyArgs = IsViable (before ++ token ∷ []) × IsFifthArgument before token
BreaksRule before token TooDeep =
    IsViable (before ++ token ∷ []) × (open_in before ≤ BRACKETS) × (BRACKETS < open_in (before ++ token ∷ []))
BreaksRule before token TooManyEvents =
    IsViable (before ++ token ∷ []) × (events_in before ≤ EVENTS) × (EVENTS < events_in (before ++ token ∷ []))
BreaksRule before token _ = ⊥

-- what was found breaks a rule behind the tokens before it; the end continues no phrase, so it breaks
-- one where these aren't a whole phrase
abbrev pub Breaks : List Token → Found → ℕ → Kind → Type 0
Breaks before (token_at offset token) place kind = (place ≡ offset) × BreaksRule before token kind
Breaks before (refused_at offset refusal) place kind = (place ≡ offset) × (kind ≡ refusal)
Breaks before (ends_at offset) place kind = (place ≡ offset) × (kind ≡ Expected) × ¬ (IsWhole before)

abbrev pub BreaksNone : List Token → Found → Type 0
BreaksNone before next = (place : ℕ) (kind : Kind) → ¬ (Breaks before next place kind)

abbrev pub behind : List Token → Found → List Token
behind before (token_at offset token) = before ++ token ∷ []
behind before (refused_at offset refusal) = before
behind before (ends_at offset) = before

-- the first that breaks a rule, of what was found behind the tokens before it
abbrev pub Refuses : List Token → List Found → ℕ → Kind → Type 0
Refuses before [] place kind = ⊥
Refuses before (next ∷ rest) place kind =
    Breaks before next place kind ⊎ (BreaksNone before next × Refuses (behind before next) rest place kind)

-- the refusal of a text: one of more than 65,536 bytes has no other than TooLong
abbrev pub IsRefusal : List ℕ → ℕ → Kind → Type 0
IsRefusal text place kind =
    ((TEXT_BYTES < length text) × (place ≡ TEXT_BYTES) × (kind ≡ TooLong)) ⊎ ((length text ≤ TEXT_BYTES) × Refuses [] (found 0 0 text) place kind)

-- the text has no refusal, and its tokens spell the phrase
pub record IsRead (text : List ℕ) (phrase : Term) : Type 0 where
  pub accepted : (place : ℕ) (kind : Kind) → ¬ (IsRefusal text place kind)
  pub spelled : IsBranch (tokens_of (found 0 0 text)) phrase
