-- Each text has a reading: a phrase, or a refusal.
use Rattle.std.proofs.Common.{◌≡◌, ◌≤◌, ◌<◌, ◌+◌, ◌-◌, ◌++◌, ◌⊎◌, ℕ, zero, suc, Bool, true, false, List, [], ◌∷◌, Option, Some, None, length, nat_lt, refl, ap, ◌∙◌, sym, subst, append_assoc, arith, inl, inr}
use Rattle.std.proofs.lemmas.Bool.{cond-true, cases_lt, lt-ltb}
use Rattle.std.proofs.lemmas.List.{append-nil}
use Rattle.phrase_tree.specs.declared.phrase.TheConstants.{EVENTS, BRACKETS}
use Rattle.phrase_reader.specs.declared.reader.TheConstants.{TEXT_BYTES}
use Rattle.phrase_tree.specs.Term.{Term}
use Rattle.phrase_reader.specs.declared.refusal.Kind.{Kind}
use Rattle.phrase_reader.specs.declared.refusal.Kind.TheVariants.{Expected, TooManyEvents, TooLong}
use Rattle.phrase_reader.specs.declared.token.Token.{Token}
use Rattle.phrase_reader.specs.declared.lexeme.Lexeme.{Lexeme}
use Rattle.phrase_reader.specs.declared.lexeme.Lexeme.TheVariants.{Read, Refused, End}
use Rattle.phrase_reader.specs.Tokens.{is_blank, front, Found, token_at, refused_at, ends_at, found_with, found, tokens_of}
use Rattle.phrase_reader.specs.Grammar.{IsBranch}
use Rattle.phrase_reader.specs.Refusal.{token_events, events_in, Refuses, IsRefusal, IsRead}
use Rattle.phrase_reader.specs.Machine.{State, start, finished, step, limit, limited, unfit, verdict_on, verdict}
use Rattle.phrase_reader.proofs.Counts.{events_joined}
use Rattle.phrase_reader.proofs.Sized.{Within}
use Rattle.phrase_reader.proofs.Verdicts.{Reached, phrase_whole, not_whole, reached_next, verdict_fits, verdict_rule, next_low}
use Rattle.phrase_reader.proofs.Progress.{within_none, within_next, within_height, breaks_none, no_limit}

-- tokens, and then a refusal or the end
abbrev Ends : List Found → Type 0
Ends [] = ⊥
Ends (token_at offset token ∷ rest) = Ends rest
Ends (refused_at offset kind ∷ rest) = rest ≡ []
Ends (ends_at offset ∷ rest) = rest ≡ []

one_ends : (offset : ℕ) (lexeme : Lexeme) (rest : ℕ → List Found) → ((n : ℕ) → Ends (rest n)) → Ends (found_with offset lexeme rest)
one_ends offset (Read token len) rest h = h (len - 1)
one_ends offset (Refused kind past) rest h = refl
one_ends offset End rest h = refl

either_ends : (v : Bool) (one other : List Found) → Ends one → Ends other → Ends (elim v [ true ↦ one | false ↦ other ])
either_ends true one other h g = h
either_ends false one other h g = g

found_ends : (offset skip : ℕ) (text : List ℕ) → Ends (found offset skip text)
found_ends offset skip [] = refl
found_ends offset (suc skip) (byte ∷ rest) = found_ends (offset + 1) skip rest
found_ends offset zero (byte ∷ rest) =
    either_ends (is_blank byte) (found (offset + 1) 0 rest) (found_with offset (front (byte ∷ rest)) (λ skip. found (offset + 1) skip rest))
    (found_ends (offset + 1) 0 rest)
    (one_ends offset (front (byte ∷ rest)) (λ skip. found (offset + 1) skip rest) (λ skip. found_ends (offset + 1) skip rest))

-- what was read keeps the limits
record Ready (before : List Token) (state : State) : Type 0 where
  reached : Reached before state
  within : Within BRACKETS 0 before
  few : events_in before ≤ EVENTS

-- what is found behind these tokens is refused, or completes them to a phrase
abbrev Settles : List Token → List Found → Type 0
Settles before all =
    ((place : ℕ) × (kind : Kind) × Refuses before all place kind) ⊎ ((phrase : Term) × IsBranch (before ++ tokens_of all) phrase × ((place : ℕ) (kind : Kind) → ¬ (Refuses before all place kind)))

few_events : (limits : Option Kind) (events : ℕ) → limited limits events ≡ None → events ≤ EVENTS
few_events (Some kind) events h = cc
few_events None events h = by (cases_lt EVENTS events)
  where
    by : (EVENTS < events) ⊎ (events ≤ EVENTS) → events ≤ EVENTS
    by (inl more) = let e : Some TooManyEvents ≡ None = sym (cond-true (nat_lt EVENTS events) (Some TooManyEvents) None (lt-ltb EVENTS events more)) ∙ h in cc
    by (inr few) = few

ready_next : (before : List Token) (state : State) (token : Token) (next : State) → Ready before state → step state token ≡ Some next → verdict state (events_in before) token ≡ None → Ready (before ++ token ∷ []) next
ready_next before state token next r h v =
    let low = next_low state token next h (no_limit state (events_in before) token next h v) (within_height before state r.reached r.within) in
    record {
      reached = reached_next before state token next r.reached h;
      within = within_next before token next (reached_next before state token next r.reached h) low r.within;
      few = omega (arith, events_joined before (token ∷ []), few_events (limit state token) (events_in before + token_events token) (sym (verdict_fits state (events_in before) token next h) ∙ v));
    }

-- a token with no verdict leads on
fits_next : (state : State) (events : ℕ) (token : Token) (o : Option State) → step state token ≡ o → verdict state events token ≡ None → (next : State) × (step state token ≡ Some next)
fits_next state events token (Some next) h v = (next, h)
fits_next state events token None h v =
    let e : Some (unfit (finished state)) ≡ None =
    sym (ap (λ o. verdict_on o (unfit (finished state)) (limited (limit state token) (events + token_events token))) h) ∙ v in
    cc

settles_on : (before : List Token) (state : State) (token : Token) (place : ℕ) (rest : List Found) → Ready before state → verdict state (events_in before) token ≡ None → Settles (before ++ token ∷ []) rest → Settles before (token_at place token ∷ rest)
settles_on before state token place rest r v (inl refused) =
    inl (refused.0, refused.1, inr (breaks_none before state (events_in before) token place r.reached refl v, refused.2))
settles_on before state token place rest r v (inr whole) =
    inr (whole.0, subst (λ l. IsBranch l whole.0) (append_assoc before (token ∷ []) (tokens_of rest)) whole.1, none)
  where
    none : (q : ℕ) (k : Kind) → ¬ (Refuses before (token_at place token ∷ rest) q k)
    none q k (inl b) = breaks_none before state (events_in before) token place r.reached refl v q k b
    none q k (inr more) = whole.2 q k more.1

settles_end : (before : List Token) (state : State) (offset : ℕ) (o : Option Term) → Ready before state → finished state ≡ o → Settles before (ends_at offset ∷ [])
settles_end before state offset None r h = inl (offset, Expected, inl (refl, refl, not_whole before state r.reached h))
settles_end before state offset (Some phrase) r h =
    let b = phrase_whole before state phrase r.reached h in
    inr (phrase, subst (λ l. IsBranch l phrase) (sym (append-nil before)) b, none b)
  where
    none : IsBranch before phrase → (q : ℕ) (k : Kind) → ¬ (Refuses before (ends_at offset ∷ []) q k)
    none b q k (inl broken) = broken.2 (phrase, b)
    none b q k (inr more) = more.1

settles : (all : List Found) (before : List Token) (state : State) → Ends all → Ready before state → Settles before all
settles [] before state e r = absurd e
settles (refused_at offset kind ∷ rest) before state e r = inl (offset, kind, inl (refl, refl))
settles (ends_at offset ∷ rest) before state e r =
    subst (λ l. Settles before (ends_at offset ∷ l)) (sym e) (settles_end before state offset (finished state) r refl)
settles (token_at place token ∷ rest) before state e r = by (verdict state (events_in before) token) refl (λ next. settles rest (before ++ token ∷ []) next e)
  where
    by : (o : Option Kind) → verdict state (events_in before) token ≡ o → ((next : State) → Ready (before ++ token ∷ []) next → Settles (before ++ token ∷ []) rest) → Settles before (token_at place token ∷ rest)
    by (Some kind) v more =
        inl (place, kind, inl (refl, verdict_rule before state token kind r.reached (within_height before state r.reached r.within) r.few v))
    by None v more =
        let next = fits_next state (events_in before) token (step state token) refl v in
        settles_on before state token place rest r v (more next.0 (ready_next before state token next.0 r next.1 v))

ready_start : Ready [] start
ready_start = record { reached = record { runs = refl }; within = within_none; few = omega arith }

abbrev pub HasReading : List ℕ → Type 0
HasReading text = ((phrase : Term) × IsRead text phrase) ⊎ ((place : ℕ) × (kind : Kind) × IsRefusal text place kind)

short_reading : (text : List ℕ) → length text ≤ TEXT_BYTES → Settles [] (found 0 0 text) → HasReading text
short_reading text short (inl refused) = inr (refused.0, refused.1, inr (short, refused.2))
short_reading text short (inr whole) = inl (whole.0, record { accepted = none; spelled = whole.1 })
  where
    none : (place : ℕ) (kind : Kind) → ¬ (IsRefusal text place kind)
    none place kind (inl long) = omega (arith, short, long.0)
    none place kind (inr h) = whole.2 place kind h.1

pub has_reading : (text : List ℕ) → HasReading text
has_reading text = by (cases_lt TEXT_BYTES (length text))
  where
    by : (TEXT_BYTES < length text) ⊎ (length text ≤ TEXT_BYTES) → HasReading text
    by (inl long) = inr (TEXT_BYTES, TooLong, inl (long, refl, refl))
    by (inr short) = short_reading text short (settles (found 0 0 text) [] start (found_ends 0 0 text) ready_start)
