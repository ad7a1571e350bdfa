-- How far a text was read: what comes of the rest comes of the whole.
use Rattle.std.proofs.Common.{◌≡◌, ◌≤◌, ◌<◌, ◌+◌, ◌++◌, ◌⊎◌, ◌↔◌, ℕ, List, [], ◌∷◌, Option, Some, None, Result, Ok, Err, length, drop, refl, ap, ◌∙◌, sym, subst, append_assoc, arith, inl, inr}
use Rattle.std.proofs.lemmas.List.{append-nil}
use Rattle.phrase_tree.specs.declared.phrase.TheConstants.{EVENTS, BRACKETS}
use Rattle.phrase_reader.specs.declared.reader.TheConstants.{TEXT_BYTES}
use Rattle.phrase_tree.specs.declared.phrase.Phrase.{Phrase}
use Rattle.phrase_tree.specs.Term.{Term, term}
use Rattle.phrase_reader.specs.declared.refusal.Kind.{Kind}
use Rattle.phrase_reader.specs.declared.refusal.Kind.TheVariants.{Expected, TooLong}
use Rattle.phrase_reader.specs.declared.refusal.ReadError.{ReadError}
use Rattle.phrase_reader.specs.declared.refusal.ReadError.TheVariants.{Refused, NoMemory}
use Rattle.phrase_reader.specs.declared.token.Token.{Token}
use Rattle.phrase_reader.specs.declared.reader.Reader.{Reader}
use Rattle.phrase_reader.specs.Tokens.{Found, token_at, refused_at, ends_at, found, tokens_of}
use Rattle.phrase_reader.specs.Grammar.{IsBranch, IsWhole}
use Rattle.phrase_reader.specs.Refusal.{token_events, events_in, opened_in, closed_in, Breaks, BreaksNone, Refuses, IsRefusal, IsRead}
use Rattle.phrase_reader.specs.Machine.{State, start, finished, step, limit, limited, verdict}
use Rattle.phrase_reader.specs.Answer.{AnswersWith, UnlessNoMemory}
use Rattle.phrase_reader.specs.Reading.{Reads, Accepts, Finishes}
use Rattle.phrase_reader.proofs.Drives.{some_same}
use Rattle.phrase_reader.proofs.Counts.{events_joined, height, run_height}
use Rattle.phrase_reader.proofs.Sized.{Within, spelled_sized}
use Rattle.phrase_reader.proofs.Verdicts.{Reached, whole_phrase, phrase_whole, not_whole, reached_next, verdict_fits, rule_verdict, verdict_rule, next_low}

list_head : (a b : Token) (xs ys : List Token) → a ∷ xs ≡ b ∷ ys → a ≡ b
list_head a b xs ys e = cc

list_tail : (a b : Token) (xs ys : List Token) → a ∷ xs ≡ b ∷ ys → xs ≡ ys
list_tail a b xs ys e = cc

front_alone : (token first : Token) (back : List Token) → token ∷ [] ≡ first ∷ back → first ∷ [] ≡ token ∷ []
front_alone token first back e = ap (λ t. t ∷ []) (sym (list_head token first [] back e))

front_short : (token first second : Token) (more back : List Token) → token ∷ [] ≡ first ∷ (second ∷ (more ++ back)) → ⊥
front_short token first second more back e = cc

front_on : (head first : Token) (before front : List Token) (token : Token) → head ≡ first → (front ≡ before ++ token ∷ []) ⊎ ((rest : List Token) × (before ≡ front ++ rest)) → (first ∷ front ≡ head ∷ (before ++ token ∷ [])) ⊎ ((rest : List Token) × (head ∷ before ≡ first ∷ (front ++ rest)))
front_on head first before front token e (inl whole) = inl (ap (λ t. t ∷ front) (sym e) ∙ ap (λ l. head ∷ l) whole)
front_on head first before front token e (inr more) = inr (more.0, ap (λ t. t ∷ before) e ∙ ap (λ l. first ∷ l) more.1)

-- a front of a list with one more token is the list, or a front of the list before it
front_of : (before front back : List Token) (token : Token) → before ++ token ∷ [] ≡ front ++ back → (front ≡ before ++ token ∷ []) ⊎ ((rest : List Token) × (before ≡ front ++ rest))
front_of before [] back token e = inr (before, refl)
front_of [] (first ∷ []) back token e = inl (front_alone token first back e)
front_of [] (first ∷ (second ∷ more)) back token e = absurd (front_short token first second more back e)
front_of (head ∷ before) (first ∷ front) back token e =
    front_on head first before front token (list_head head first (before ++ token ∷ []) (front ++ back) e) (front_of before front back token (list_tail head first (before ++ token ∷ []) (front ++ back) e))

pub within_next : (before : List Token) (token : Token) (next : State) → Reached (before ++ token ∷ []) next → height next ≤ BRACKETS → Within BRACKETS 0 before → Within BRACKETS 0 (before ++ token ∷ [])
within_next before token next r low w front back e = by (front_of before front back token e)
  where
    by : (front ≡ before ++ token ∷ []) ⊎ ((rest : List Token) × (before ≡ front ++ rest)) → 0 + opened_in front ≤ BRACKETS + closed_in front
    by (inl whole) = omega (arith, low, ap opened_in whole, ap closed_in whole, run_height (before ++ token ∷ []) start next r.runs)
    by (inr more) = w front more.0 more.1

pub within_height : (before : List Token) (state : State) → Reached before state → Within BRACKETS 0 before → height state ≤ BRACKETS
within_height before state r w =
    omega (arith, w before [] (sym (append-nil before)), run_height before start state r.runs)

-- what was read of a text up to an offset
pub record Progress (text : List ℕ) (offset : ℕ) (state : State) (events : ℕ) : Type 0 where
  pub before : List Token
  pub reached : Reached before state
  pub counted : events ≡ events_in before
  pub few : events ≤ EVENTS
  pub within : Within BRACKETS 0 before
  pub spelled : before ++ tokens_of (found offset 0 (drop offset text)) ≡ tokens_of (found 0 0 text)
  pub onward : (place : ℕ) (kind : Kind) → Refuses before (found offset 0 (drop offset text)) place kind → Refuses [] (found 0 0 text) place kind
  pub back : (place : ℕ) (kind : Kind) → Refuses [] (found 0 0 text) place kind → Refuses before (found offset 0 (drop offset text)) place kind

nothing_open : (front back : List Token) → [] ≡ front ++ back → 0 + opened_in front ≤ BRACKETS + closed_in front
nothing_open [] back e = omega arith
nothing_open (first ∷ rest) back e = cc

pub within_none : Within BRACKETS 0 []
within_none front back e = nothing_open front back e

pub progress_start : (text : List ℕ) (state : State) → state ≡ start → Progress text 0 state 0
progress_start text state e = record {
  before = [];
  reached = record { runs = ap Some (sym e) };
  counted = refl;
  few = omega arith;
  within = within_none;
  spelled = refl;
  onward = λ place kind h. h;
  back = λ place kind h. h;
}

-- a token with no verdict breaks no rule
pub breaks_none : (before : List Token) (state : State) (events : ℕ) (token : Token) (place : ℕ) → Reached before state → events ≡ events_in before → verdict state events token ≡ None → BreaksNone before (token_at place token)
breaks_none before state events token place r c v p k b =
    let e : None ≡ Some k = sym v ∙ (ap (λ n. verdict state n token) c ∙ rule_verdict before state token k r b.1) in
    cc

none_limited : (o : Option Kind) (events : ℕ) → limited o events ≡ None → o ≡ None
none_limited None events h = refl
none_limited (Some kind) events h = cc

pub no_limit : (state : State) (events : ℕ) (token : Token) (next : State) → step state token ≡ Some next → verdict state events token ≡ None → limit state token ≡ None
no_limit state events token next h v =
    none_limited (limit state token) (events + token_events token) (sym (verdict_fits state events token next h) ∙ v)

passed : (before : List Token) (token : Token) (place : ℕ) (rest : List Found) (q : ℕ) (k : Kind) → BreaksNone before (token_at place token) → Refuses before (token_at place token ∷ rest) q k → Refuses (before ++ token ∷ []) rest q k
passed before token place rest q k none (inl b) = absurd (none q k b)
passed before token place rest q k none (inr more) = more.1

pub progress_next : (text : List ℕ) (offset : ℕ) (state : State) (events : ℕ) (token : Token) (place onward : ℕ) (next : State) (counted : ℕ) → Progress text offset state events → found offset 0 (drop offset text) ≡ token_at place token ∷ found onward 0 (drop onward text) → step state token ≡ Some next → verdict state events token ≡ None → counted ≡ events + token_events token → counted ≤ EVENTS → Progress text onward next counted
progress_next text offset state events token place onward next counted p f h v c few =
    let before = p.before in
    let r = reached_next before state token next p.reached h in
    let none = breaks_none before state events token place p.reached p.counted v in
    let rest = found onward 0 (drop onward text) in
    let low = next_low state token next h (no_limit state events token next h v) (within_height before state p.reached p.within) in
    record {
      before = before ++ token ∷ [];
      reached = r;
      counted = omega (arith, c, p.counted, events_joined before (token ∷ []));
      few = few;
      within = within_next before token next r low p.within;
      spelled = append_assoc before (token ∷ []) (tokens_of rest) ∙ (ap (λ l. before ++ tokens_of l) (sym f) ∙ p.spelled);
      onward = λ q k g. p.onward q k (subst (λ l. Refuses before l q k) (sym f) (inr (none, g)));
      back = λ q k g. passed before token place rest q k none (subst (λ l. Refuses before l q k) f (p.back q k g));
    }

first_only : (before : List Token) (next : Found) (rest : List Found) (place : ℕ) (kind : Kind) (q : ℕ) (k : Kind) → Breaks before next place kind → ((q : ℕ) (k : Kind) → Breaks before next q k → (place ≡ q) × (kind ≡ k)) → Refuses before (next ∷ rest) q k → (place ≡ q) × (kind ≡ k)
first_only before next rest place kind q k b one (inl broken) = one q k broken
first_only before next rest place kind q k b one (inr more) = absurd (more.0 place kind b)

-- one rule that the next breaks, and no other, is the refusal of the text, and the only one
settled : (text : List ℕ) (offset : ℕ) (state : State) (events : ℕ) (next : Found) (rest : List Found) (place : ℕ) (kind : Kind) (p : Progress text offset state events) → found offset 0 (drop offset text) ≡ next ∷ rest → Breaks p.before next place kind → ((q : ℕ) (k : Kind) → Breaks p.before next q k → (place ≡ q) × (kind ≡ k)) → (q : ℕ) (k : Kind) → Refuses [] (found 0 0 text) q k ↔ ((place ≡ q) × (kind ≡ k))
settled text offset state events next rest place kind p f b one q k = (
  λ g. first_only p.before next rest place kind q k b one (subst (λ l. Refuses p.before l q k) f (p.back q k g)),
  λ e. subst (λ m. Refuses [] (found 0 0 text) m k) e.0 (subst (λ m. Refuses [] (found 0 0 text) place m) e.1 (p.onward place kind (subst (λ l. Refuses p.before l place kind) (sym f) (inl b)))),
)

pub progress_stops : (text : List ℕ) (offset : ℕ) (state : State) (events : ℕ) (token : Token) (place : ℕ) (rest : List Found) (kind : Kind) → Progress text offset state events → found offset 0 (drop offset text) ≡ token_at place token ∷ rest → verdict state events token ≡ Some kind → (q : ℕ) (k : Kind) → Refuses [] (found 0 0 text) q k ↔ ((place ≡ q) × (kind ≡ k))
progress_stops text offset state events token place rest kind p f v =
    let w : verdict state (events_in p.before) token ≡ Some kind = ap (λ n. verdict state n token) (sym p.counted) ∙ v in
    settled text offset state events (token_at place token) rest place kind p f
    (refl, verdict_rule p.before state token kind p.reached (within_height p.before state p.reached p.within) (omega (arith, p.counted, p.few)) w)
    (λ q k b. (sym b.0, some_same kind k (sym w ∙ rule_verdict p.before state token k p.reached b.1)))

pub progress_refused : (text : List ℕ) (offset : ℕ) (state : State) (events : ℕ) (place : ℕ) (kind : Kind) → Progress text offset state events → found offset 0 (drop offset text) ≡ refused_at place kind ∷ [] → (q : ℕ) (k : Kind) → Refuses [] (found 0 0 text) q k ↔ ((place ≡ q) × (kind ≡ k))
progress_refused text offset state events place kind p f =
    settled text offset state events (refused_at place kind) [] place kind p f (refl, refl) (λ q k b. (sym b.0, sym b.1))

pub progress_unfinished : (text : List ℕ) (offset : ℕ) (state : State) (events : ℕ) (place : ℕ) → Progress text offset state events → found offset 0 (drop offset text) ≡ ends_at place ∷ [] → finished state ≡ None → (q : ℕ) (k : Kind) → Refuses [] (found 0 0 text) q k ↔ ((place ≡ q) × (Expected ≡ k))
progress_unfinished text offset state events place p f n =
    settled text offset state events (ends_at place) [] place Expected p f
    (refl, refl, not_whole p.before state p.reached n)
    (λ q k b. (sym b.0, sym b.1))

ended_whole : (before : List Token) (place q : ℕ) (k : Kind) → IsWhole before → Refuses before (ends_at place ∷ []) q k → ⊥
ended_whole before place q k w (inl b) = b.2 w
ended_whole before place q k w (inr more) = more.1

pub progress_finished : (text : List ℕ) (offset : ℕ) (state : State) (events : ℕ) (place : ℕ) (phrase : Phrase) → Progress text offset state events → found offset 0 (drop offset text) ≡ ends_at place ∷ [] → finished state ≡ Some (term phrase) → Reads (Ok phrase) (found 0 0 text)
progress_finished text offset state events place phrase p f h =
    let d = phrase_whole p.before state (term phrase) p.reached h in
    let same : p.before ≡ tokens_of (found 0 0 text) = sym (append-nil p.before) ∙ (ap (λ l. p.before ++ tokens_of l) (sym f) ∙ p.spelled) in (
      spelled_sized p.before (term phrase) d (omega (arith, p.counted, p.few)) p.within,
      λ q k g. ended_whole p.before place q k (term phrase, d) (subst (λ l. Refuses p.before l q k) f (p.back q k g)),
      λ t. (
        λ b. some_same (term phrase) t (sym h ∙ whole_phrase p.before state t p.reached (subst (λ l. IsBranch l t) (sym same) b)),
        λ e. subst (λ l. IsBranch l t) same (subst (λ u. IsBranch p.before u) e d),
      ),
    )

-- the answer at the end of the text
pub progress_ends : (text : List ℕ) (offset : ℕ) (state : State) (events : ℕ) (place : ℕ) (r : Result Phrase ReadError) → Progress text offset state events → found offset 0 (drop offset text) ≡ ends_at place ∷ [] → Finishes state place r → Reads r (found 0 0 text)
progress_ends text offset state events place (Ok phrase) p f h = progress_finished text offset state events place phrase p f h
progress_ends text offset state events place (Err (Refused other kind)) p f h =
    let u = progress_unfinished text offset state events place p f h.2 in
    λ q k. (
      λ g. let e = (u q k).0 g in (h.0 ∙ e.0, h.1 ∙ e.1),
      λ e. (u q k).1 (sym h.0 ∙ e.0, sym h.1 ∙ e.1),
    )
progress_ends text offset state events place (Err NoMemory) p f h = tt

-- the answer to a token that the reader did not take
pub progress_rejects : (A : Type 0) (text : List ℕ) (offset : ℕ) (state : State) (events : ℕ) (token : Token) (place : ℕ) (rest : List Found) (next : Reader) (error : ReadError) → Progress text offset state events → found offset 0 (drop offset text) ≡ token_at place token ∷ rest → Accepts {A = A} state events token place next (Err error) → Reads (Err error) (found 0 0 text)
progress_rejects A text offset state events token place rest next (Refused other kind) p f h =
    let u = progress_stops text offset state events token place rest kind p f h.1 in
    λ q k. (
      λ g. let e = (u q k).0 g in (h.0 ∙ e.0, e.1),
      λ e. (u q k).1 (sym h.0 ∙ e.0, e.1),
    )
progress_rejects A text offset state events token place rest next NoMemory p f h = tt

pub too_long_found : (text : List ℕ) → TEXT_BYTES < length text → (phrase : Term) → (⊥ → IsRead text phrase) × (IsRead text phrase → ⊥)
too_long_found text long phrase = (λ b. absurd b, λ r. r.accepted TEXT_BYTES TooLong (inl (long, refl, refl)))

-- a text of few bytes has no refusal but that of its tokens
few_refused : (text : List ℕ) (place : ℕ) (kind : Kind) → length text ≤ TEXT_BYTES → IsRefusal text place kind → Refuses [] (found 0 0 text) place kind
few_refused text place kind few (inl long) = absurd (omega (arith, long.0))
few_refused text place kind few (inr more) = more.1

pub read_found : (text : List ℕ) (r : Result Phrase ReadError) → length text ≤ TEXT_BYTES → Reads r (found 0 0 text) → (phrase : Term) → UnlessNoMemory r (AnswersWith r phrase ↔ IsRead text phrase)
read_found text (Ok phrase) few h spelled = (
  λ e. record {
    accepted = λ q k g. h.1 q k (few_refused text q k few g);
    spelled = (h.2 spelled).1 e;
  },
  λ i. (h.2 spelled).0 i.spelled,
)
read_found text (Err (Refused place kind)) few h spelled =
    (λ b. absurd b, λ i. i.accepted place kind (inr (few, (h place kind).1 (refl, refl))))
read_found text (Err NoMemory) few h spelled = tt

abbrev refusal : ℕ → Kind → Result Phrase ReadError
refusal place kind = Err (Refused place kind)

same_refusal : (place q : ℕ) (kind k : Kind) → refusal place kind ≡ refusal q k → (place ≡ q) × (kind ≡ k)
same_refusal place q kind k e = (cc, cc)

refusal_same : (place q : ℕ) (kind k : Kind) → (place ≡ q) × (kind ≡ k) → refusal place kind ≡ refusal q k
refusal_same place q kind k e = cc

pub read_refused : (text : List ℕ) (r : Result Phrase ReadError) → length text ≤ TEXT_BYTES → Reads r (found 0 0 text) → (place : ℕ) (kind : Kind) → UnlessNoMemory r ((r ≡ Err (Refused place kind)) ↔ IsRefusal text place kind)
read_refused text (Ok phrase) few h q k =
    (λ e. cc, λ g. absurd (h.1 q k (few_refused text q k few g)))
read_refused text (Err (Refused place kind)) few h q k = (
  λ e. inr (few, (h q k).1 (same_refusal place q kind k e)),
  λ g. refusal_same place q kind k ((h q k).0 (few_refused text q k few g)),
)
read_refused text (Err NoMemory) few h q k = tt
