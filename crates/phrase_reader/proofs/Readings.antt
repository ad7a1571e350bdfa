-- A text has one reading at most: one phrase, or one refusal.
use Rattle.std.proofs.Common.{◌≡◌, ◌≤◌, ◌<◌, ◌++◌, ℕ, List, [], ◌∷◌, refl, ap, ◌∙◌, sym, arith, inl, inr}
use Rattle.phrase_tree.specs.declared.phrase.TheConstants.{EVENTS, BRACKETS}
use Rattle.phrase_tree.specs.Term.{Term}
use Rattle.phrase_reader.specs.declared.refusal.Kind.{Kind}
use Rattle.phrase_reader.specs.declared.refusal.Kind.TheVariants.{Char, Word, Expected, Trailing, TooManyArgs, NumberTooLarge, TooDeep, TooLong, TooManyEvents}
use Rattle.phrase_reader.specs.declared.token.Token.{Token}
use Rattle.phrase_reader.specs.declared.token.Token.TheVariants as tokens
use Rattle.phrase_reader.specs.Tokens.{Found, token_at, refused_at, ends_at, found, tokens_of}
use Rattle.phrase_reader.specs.Grammar.{IsBranch}
use Rattle.phrase_reader.specs.Refusal.{token_events, events_in, opens, open_in, IsFifthArgument, BreaksRule, Breaks, Refuses, IsRefusal, IsRead}
use Rattle.phrase_reader.specs.Machine.{finished}
use Rattle.phrase_reader.proofs.Drives.{some_same, whole_runs}
use Rattle.phrase_reader.proofs.Counts.{events_joined, opened_joined, closed_joined}

-- tokens spell one phrase at most
branch_one : (spelled : List Token) (phrase other : Term) → IsBranch spelled phrase → IsBranch spelled other → phrase ≡ other
branch_one spelled phrase other b c =
    let v = whole_runs spelled phrase b in
    let w = whole_runs spelled other c in
    some_same phrase other
    (sym v.2 ∙ (ap finished (some_same v.0 w.0 (sym v.1 ∙ w.1)) ∙ w.2))

pub phrase_one : (text : List ℕ) (phrase other : Term) → IsRead text phrase → IsRead text other → phrase ≡ other
phrase_one text phrase other r s = branch_one (tokens_of (found 0 0 text)) phrase other r.spelled s.spelled

-- a token that opens no bracket opens no 65th
not_deeper : (before : List Token) (token : Token) → opens token ≡ 0 → open_in before ≤ BRACKETS → BRACKETS < open_in (before ++ token ∷ []) → ⊥
not_deeper before token o few more =
    omega (arith, o, few, more, opened_joined before (token ∷ []), closed_joined before (token ∷ []))

-- a token that counts no events passes no count
not_more : (before : List Token) (token : Token) → token_events token ≡ 0 → events_in before ≤ EVENTS → EVENTS < events_in (before ++ token ∷ []) → ⊥
not_more before token o few more = omega (arith, o, few, more, events_joined before (token ∷ []))

-- a token that opens a bracket counts no events
opens_or_counts : (before : List Token) (token : Token) → BreaksRule before token TooDeep → BreaksRule before token TooManyEvents → ⊥
opens_or_counts before tokens.OpenRound b c = not_more before tokens.OpenRound refl c.1 c.2
opens_or_counts before tokens.OpenSquare b c = not_more before tokens.OpenSquare refl c.1 c.2
opens_or_counts before (tokens.Leaf which) b c = not_deeper before (tokens.Leaf which) refl b.1 b.2
opens_or_counts before tokens.Usm b c = not_deeper before tokens.Usm refl b.1 b.2
opens_or_counts before tokens.Kim b c = not_deeper before tokens.Kim refl b.1 b.2
opens_or_counts before tokens.At b c = not_deeper before tokens.At refl b.1 b.2
opens_or_counts before tokens.CloseRound b c = not_deeper before tokens.CloseRound refl b.1 b.2
opens_or_counts before tokens.CloseSquare b c = not_deeper before tokens.CloseSquare refl b.1 b.2
opens_or_counts before tokens.Arrow b c = not_deeper before tokens.Arrow refl b.1 b.2
opens_or_counts before (tokens.Op op) b c = not_deeper before (tokens.Op op) refl b.1 b.2
opens_or_counts before (tokens.Value value) b c = not_deeper before (tokens.Value value) refl b.1 b.2

fifth_opens : (before : List Token) (token : Token) → IsFifthArgument before token → opens token ≡ 0
fifth_opens before token fifth = ap opens fifth.1

fifth_events : (before : List Token) (token : Token) → IsFifthArgument before token → token_events token ≡ 0
fifth_events before token fifth = ap token_events fifth.1

-- a token breaks one rule at most
rule_one : (before : List Token) (token : Token) (kind other : Kind) → BreaksRule before token kind → BreaksRule before token other → kind ≡ other
rule_one before token Trailing Trailing b c = refl
rule_one before token Trailing Expected b c = absurd (c.0 b.0)
rule_one before token Trailing TooManyArgs b c = absurd (b.1 c.0)
rule_one before token Trailing TooDeep b c = absurd (b.1 c.0)
rule_one before token Trailing TooManyEvents b c = absurd (b.1 c.0)
rule_one before token Expected Trailing b c = absurd (b.0 c.0)
rule_one before token Expected Expected b c = refl
rule_one before token Expected TooManyArgs b c = absurd (b.1 c.0)
rule_one before token Expected TooDeep b c = absurd (b.1 c.0)
rule_one before token Expected TooManyEvents b c = absurd (b.1 c.0)
rule_one before token TooManyArgs Trailing b c = absurd (c.1 b.0)
rule_one before token TooManyArgs Expected b c = absurd (c.1 b.0)
rule_one before token TooManyArgs TooManyArgs b c = refl
rule_one before token TooManyArgs TooDeep b c = absurd (not_deeper before token (fifth_opens before token b.1) c.1 c.2)
rule_one before token TooManyArgs TooManyEvents b c = absurd (not_more before token (fifth_events before token b.1) c.1 c.2)
rule_one before token TooDeep Trailing b c = absurd (c.1 b.0)
rule_one before token TooDeep Expected b c = absurd (c.1 b.0)
rule_one before token TooDeep TooManyArgs b c = absurd (not_deeper before token (fifth_opens before token c.1) b.1 b.2)
rule_one before token TooDeep TooDeep b c = refl
rule_one before token TooDeep TooManyEvents b c = absurd (opens_or_counts before token b c)
rule_one before token TooManyEvents Trailing b c = absurd (c.1 b.0)
rule_one before token TooManyEvents Expected b c = absurd (c.1 b.0)
rule_one before token TooManyEvents TooManyArgs b c = absurd (not_more before token (fifth_events before token c.1) b.1 b.2)
rule_one before token TooManyEvents TooDeep b c = absurd (opens_or_counts before token c b)
rule_one before token TooManyEvents TooManyEvents b c = refl
rule_one before token Char _ b c = absurd b
rule_one before token Word _ b c = absurd b
rule_one before token NumberTooLarge _ b c = absurd b
rule_one before token TooLong _ b c = absurd b
rule_one before token _ Char b c = absurd c
rule_one before token _ Word b c = absurd c
rule_one before token _ NumberTooLarge b c = absurd c
rule_one before token _ TooLong b c = absurd c

break_one : (before : List Token) (next : Found) (place q : ℕ) (kind k : Kind) → Breaks before next place kind → Breaks before next q k → (place ≡ q) × (kind ≡ k)
break_one before (token_at offset token) place q kind k b c = (b.0 ∙ sym c.0, rule_one before token kind k b.1 c.1)
break_one before (refused_at offset refusal) place q kind k b c = (b.0 ∙ sym c.0, b.1 ∙ sym c.1)
break_one before (ends_at offset) place q kind k b c = (b.0 ∙ sym c.0, b.1 ∙ sym c.1)

refuses_one : (before : List Token) (all : List Found) (place q : ℕ) (kind k : Kind) → Refuses before all place kind → Refuses before all q k → (place ≡ q) × (kind ≡ k)
refuses_one before [] place q kind k b c = absurd b
refuses_one before (next ∷ rest) place q kind k (inl b) (inl c) = break_one before next place q kind k b c
refuses_one before (next ∷ rest) place q kind k (inl b) (inr more) = absurd (more.0 place kind b)
refuses_one before (next ∷ rest) place q kind k (inr more) (inl c) = absurd (more.0 q k c)
refuses_one before (token_at offset token ∷ rest) place q kind k (inr b) (inr c) = refuses_one (before ++ token ∷ []) rest place q kind k b.1 c.1
refuses_one before (refused_at offset refusal ∷ rest) place q kind k (inr b) (inr c) = refuses_one before rest place q kind k b.1 c.1
refuses_one before (ends_at offset ∷ rest) place q kind k (inr b) (inr c) = refuses_one before rest place q kind k b.1 c.1

pub refusal_one : (text : List ℕ) (place q : ℕ) (kind k : Kind) → IsRefusal text place kind → IsRefusal text q k → (place ≡ q) × (kind ≡ k)
refusal_one text place q kind k (inl b) (inl c) = (b.1 ∙ sym c.1, b.2 ∙ sym c.2)
refusal_one text place q kind k (inl b) (inr c) = absurd (omega (arith, b.0, c.0))
refusal_one text place q kind k (inr b) (inl c) = absurd (omega (arith, b.0, c.0))
refusal_one text place q kind k (inr b) (inr c) = refuses_one [] (found 0 0 text) place q kind k b.1 c.1

pub read_or_refused : (text : List ℕ) (phrase : Term) (place : ℕ) (kind : Kind) → IsRead text phrase → ¬ (IsRefusal text place kind)
read_or_refused text phrase place kind r = r.accepted place kind
