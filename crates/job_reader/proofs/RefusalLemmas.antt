-- A text has at most one refusal.
use Rattle.std.proofs.Common.{◌≡◌, ◌<◌, ◌≤◌, ◌⊎◌, ℕ, List, [], ◌∷◌, ◌++◌, refl, sym, ap, ◌∙◌, arith, inl, inr}
use Rattle.phrase_tree.specs.declared.phrase.TheConstants.{EVENTS, BRACKETS}
use Rattle.phrase_reader.specs.declared.refusal.Kind.{Kind}
use Rattle.phrase_reader.specs.declared.refusal.Kind.TheVariants.{Char, Word, Expected, Trailing, TooManyArgs, NumberTooLarge, TooDeep, TooLong, TooManyEvents}
use Rattle.phrase_reader.specs.declared.token.Token.{Token}
use Rattle.phrase_reader.specs.declared.token.Token.TheVariants as tokens
use Rattle.phrase_reader.specs.Tokens.{Found, token_at, refused_at, ends_at, found}
use Rattle.phrase_reader.specs.Grammar.{IsWhole, IsViable}
use Rattle.phrase_reader.specs.Refusal.{behind, Breaks, BreaksRule, events_in, IsFifthArgument, IsRefusal, open_in, opens, Refuses, token_events}
use Rattle.phrase_reader.proofs.Counts.{closed_joined, events_joined, opened_joined}

-- a token that opens a bracket counts no event
opens_or_counts : (token : Token) → (opens token ≡ 0) ⊎ (token_events token ≡ 0)
opens_or_counts (tokens.Leaf leaf) = inl refl
opens_or_counts tokens.Usm = inl refl
opens_or_counts tokens.Kim = inl refl
opens_or_counts tokens.At = inl refl
opens_or_counts tokens.OpenRound = inr refl
opens_or_counts tokens.CloseRound = inl refl
opens_or_counts tokens.OpenSquare = inr refl
opens_or_counts tokens.CloseSquare = inl refl
opens_or_counts tokens.Arrow = inl refl
opens_or_counts (tokens.Op op) = inl refl
opens_or_counts (tokens.Value value) = inl refl

-- the limit on brackets is passed by a token that opens one
deep_opens : (before : List Token) (token : Token) → open_in before ≤ BRACKETS → BRACKETS < open_in (before ++ token ∷ []) → opens token ≡ 0 → ⊥
deep_opens before token low high none =
    let opened = opened_joined before (token ∷ []) in
    let closed = closed_joined before (token ∷ []) in
    omega arith

-- the limit on events is passed by a token that counts one
many_counts : (before : List Token) (token : Token) → events_in before ≤ EVENTS → EVENTS < events_in (before ++ token ∷ []) → token_events token ≡ 0 → ⊥
many_counts before token low high none = let joined = events_joined before (token ∷ []) in omega arith

-- an argument does neither
value_opens : (before : List Token) (token : Token) → IsFifthArgument before token → opens token ≡ 0
value_opens before token (value, is, front, target, asp, many, split) = ap opens is

value_counts : (before : List Token) (token : Token) → IsFifthArgument before token → token_events token ≡ 0
value_counts before token (value, is, front, target, asp, many, split) = ap token_events is

-- the rules that a token may break, each with its kind
data Broken (before : List Token) (token : Token) (kind : Kind) : Type 0 where
  trails : kind ≡ Trailing → IsWhole before → ¬ (IsViable (before ++ token ∷ [])) → Broken before token kind
  misfits : kind ≡ Expected → ¬ (IsWhole before) → ¬ (IsViable (before ++ token ∷ [])) → Broken before token kind
  crowds : kind ≡ TooManyArgs → IsViable (before ++ token ∷ []) → IsFifthArgument before token → Broken before token kind
  deepens : kind ≡ TooDeep → IsViable (before ++ token ∷ []) → open_in before ≤ BRACKETS → BRACKETS < open_in (before ++ token ∷ []) → Broken before token kind
  adds : kind ≡ TooManyEvents → IsViable (before ++ token ∷ []) → events_in before ≤ EVENTS → EVENTS < events_in (before ++ token ∷ []) → Broken before token kind

broken : (before : List Token) (token : Token) (kind : Kind) → BreaksRule before token kind → Broken before token kind
broken before token Trailing rule = trails refl rule.0 rule.1
broken before token Expected rule = misfits refl rule.0 rule.1
broken before token TooManyArgs rule = crowds refl rule.0 rule.1
broken before token TooDeep rule = deepens refl rule.0 rule.1 rule.2
broken before token TooManyEvents rule = adds refl rule.0 rule.1 rule.2
broken before token Char rule = absurd rule
broken before token Word rule = absurd rule
broken before token NumberTooLarge rule = absurd rule
broken before token TooLong rule = absurd rule

both_limits : (before : List Token) (token : Token) → open_in before ≤ BRACKETS → BRACKETS < open_in (before ++ token ∷ []) → events_in before ≤ EVENTS → EVENTS < events_in (before ++ token ∷ []) → ⊥
both_limits before token low high few many =
    elim (opens_or_counts token) [ inl none ↦ deep_opens before token low high none | inr none ↦ many_counts before token few many none ]

broken_once : (before : List Token) (token : Token) (kind other : Kind) → Broken before token kind → Broken before token other → kind ≡ other
broken_once before token kind other (trails a whole out) (trails b w o) = a ∙ sym b
broken_once before token kind other (trails a whole out) (misfits b not_whole o) = absurd (not_whole whole)
broken_once before token kind other (trails a whole out) (crowds b viable fifth) = absurd (out viable)
broken_once before token kind other (trails a whole out) (deepens b viable low high) = absurd (out viable)
broken_once before token kind other (trails a whole out) (adds b viable few many) = absurd (out viable)
broken_once before token kind other (misfits a not_whole out) (trails b whole o) = absurd (not_whole whole)
broken_once before token kind other (misfits a not_whole out) (misfits b n o) = a ∙ sym b
broken_once before token kind other (misfits a not_whole out) (crowds b viable fifth) = absurd (out viable)
broken_once before token kind other (misfits a not_whole out) (deepens b viable low high) = absurd (out viable)
broken_once before token kind other (misfits a not_whole out) (adds b viable few many) = absurd (out viable)
broken_once before token kind other (crowds a viable fifth) (trails b whole out) = absurd (out viable)
broken_once before token kind other (crowds a viable fifth) (misfits b not_whole out) = absurd (out viable)
broken_once before token kind other (crowds a viable fifth) (crowds b v f) = a ∙ sym b
broken_once before token kind other (crowds a viable fifth) (deepens b v low high) =
    absurd (deep_opens before token low high (value_opens before token fifth))
broken_once before token kind other (crowds a viable fifth) (adds b v few many) =
    absurd (many_counts before token few many (value_counts before token fifth))
broken_once before token kind other (deepens a viable low high) (trails b whole out) = absurd (out viable)
broken_once before token kind other (deepens a viable low high) (misfits b not_whole out) = absurd (out viable)
broken_once before token kind other (deepens a viable low high) (crowds b v fifth) =
    absurd (deep_opens before token low high (value_opens before token fifth))
broken_once before token kind other (deepens a viable low high) (deepens b v l h) = a ∙ sym b
broken_once before token kind other (deepens a viable low high) (adds b v few many) =
    absurd (both_limits before token low high few many)
broken_once before token kind other (adds a viable few many) (trails b whole out) = absurd (out viable)
broken_once before token kind other (adds a viable few many) (misfits b not_whole out) = absurd (out viable)
broken_once before token kind other (adds a viable few many) (crowds b v fifth) =
    absurd (many_counts before token few many (value_counts before token fifth))
broken_once before token kind other (adds a viable few many) (deepens b v low high) =
    absurd (both_limits before token low high few many)
broken_once before token kind other (adds a viable few many) (adds b v f m) = a ∙ sym b

breaks_once : (before : List Token) (next : Found) (place at : ℕ) (kind other : Kind) → Breaks before next place kind → Breaks before next at other → (place ≡ at) × (kind ≡ other)
breaks_once before (token_at offset token) place at kind other one two =
    (one.0 ∙ sym two.0, broken_once before token kind other (broken before token kind one.1) (broken before token other two.1))
breaks_once before (refused_at offset refusal) place at kind other one two = (one.0 ∙ sym two.0, one.1 ∙ sym two.1)
breaks_once before (ends_at offset) place at kind other one two = (one.0 ∙ sym two.0, one.1 ∙ sym two.1)

refuses_once : (before : List Token) (all : List Found) (place at : ℕ) (kind other : Kind) → Refuses before all place kind → Refuses before all at other → (place ≡ at) × (kind ≡ other)
refuses_once before [] place at kind other one two = absurd one
refuses_once before (next ∷ rest) place at kind other (inl one) (inl two) =
    breaks_once before next place at kind other one two
refuses_once before (next ∷ rest) place at kind other (inl one) (inr two) = absurd (two.0 place kind one)
refuses_once before (next ∷ rest) place at kind other (inr one) (inl two) = absurd (one.0 at other two)
refuses_once before (next ∷ rest) place at kind other (inr one) (inr two) =
    refuses_once (behind before next) rest place at kind other one.1 two.1

pub refused_once : (text : List ℕ) (place at : ℕ) (kind other : Kind) → IsRefusal text place kind → IsRefusal text at other → (place ≡ at) × (kind ≡ other)
refused_once text place at kind other (inl one) (inl two) = (one.1 ∙ sym two.1, one.2 ∙ sym two.2)
refused_once text place at kind other (inl one) (inr two) =
    let long = one.0 in
    let short = two.0 in
    absurd (omega arith)
refused_once text place at kind other (inr one) (inl two) =
    let short = one.0 in
    let long = two.0 in
    absurd (omega arith)
refused_once text place at kind other (inr one) (inr two) =
    refuses_once [] (found 0 0 text) place at kind other one.1 two.1
