-- The reader's verdict on a token is the rule that the token breaks.
use Rattle.std.proofs.Common.{◌≡◌, ◌≤◌, ◌<◌, ◌+◌, ◌++◌, ◌⊎◌, ℕ, Bool, true, false, cond, List, [], ◌∷◌, Option, Some, None, length, nat_le, nat_lt, refl, ap, ◌∙◌, sym, subst, append_assoc, arith, option_and_then, inl, inr}
use Rattle.std.proofs.lemmas.Bool.{cond-true, le-leb, leb-true, lt-ltb, ltb-true, cases_lt}
use Rattle.phrase_tree.specs.declared.phrase.TheConstants.{EVENTS, BRACKETS}
use Rattle.phrase_tree.specs.declared.measurement.Asp.{Asp}
use Rattle.phrase_tree.specs.Term.{Term}
use Rattle.phrase_reader.specs.declared.refusal.Kind.{Kind}
use Rattle.phrase_reader.specs.declared.refusal.Kind.TheVariants.{Char, Word, Expected, Trailing, TooManyArgs, NumberTooLarge, TooDeep, TooLong, TooManyEvents}
use Rattle.phrase_reader.specs.declared.token.Token.{Token}
use Rattle.phrase_reader.specs.declared.token.Token.TheVariants as tokens
use Rattle.phrase_reader.specs.Grammar.{IsBranch, IsWhole, IsViable, measurement_tokens}
use Rattle.phrase_reader.specs.Refusal.{token_events, events_in, IsFifthArgument, BreaksRule}
use Rattle.phrase_reader.specs.Machine.{Parts, Frame, Stage, State, unit_next, place_next, square_next, target_next, service_next, measured, ended, start, finished, unit_of, step, run, too_many, too_deep, limit, limited, unfit, verdict_on, verdict}
use Rattle.phrase_reader.proofs.Drives.{some_same, state_at, run_joined, whole_runs, measurement_run}
use Rattle.phrase_reader.proofs.Meaning.{StateMeans, StageTokens, start_means, step_means, run_means, finished_read}
use Rattle.phrase_reader.proofs.Closing.{state_viable}
use Rattle.phrase_reader.proofs.Counts.{events_joined, height, step_height, open_height}

-- the tokens before lead from the start to the state
pub record Reached (before : List Token) (state : State) : Type 0 where
  pub runs : run start before ≡ Some state

pub reached_means : (before : List Token) (state : State) → Reached before state → StateMeans state before
reached_means before state r = run_means before start state [] start_means r.runs

viable : (before : List Token) (state : State) (token : Token) (next : State) → Reached before state → step state token ≡ Some next → IsViable (before ++ token ∷ [])
viable before state token next r h =
    state_viable next (before ++ token ∷ []) (step_means state token next before (reached_means before state r) h)

not_viable : (before : List Token) (state : State) (token : Token) → Reached before state → step state token ≡ None → ¬ (IsViable (before ++ token ∷ []))
not_viable before state token r h v =
    let w = whole_runs ((before ++ token ∷ []) ++ v.0) v.1 v.2 in
    let e : run start ((before ++ token ∷ []) ++ v.0) ≡ None =
    ap (run start) (append_assoc before (token ∷ []) v.0)
    ∙ (run_joined start before (token ∷ v.0) state r.runs ∙ ap (option_and_then (λ s. run s v.0)) h) in
    let f : Some w.0 ≡ None = sym w.1 ∙ e in
    cc

-- the phrase that the tokens before spell is the one that has ended
pub whole_phrase : (before : List Token) (state : State) (phrase : Term) → Reached before state → IsBranch before phrase → finished state ≡ Some phrase
whole_phrase before state phrase r d =
    let w = whole_runs before phrase d in
    ap finished (some_same state w.0 (sym r.runs ∙ w.1)) ∙ w.2

pub phrase_whole : (before : List Token) (state : State) (phrase : Term) → Reached before state → finished state ≡ Some phrase → IsBranch before phrase
phrase_whole before state phrase r h =
    finished_read state.stack state.inner state.stage (unit_of state.stage) phrase before (reached_means before state r) refl h

pub not_whole : (before : List Token) (state : State) → Reached before state → finished state ≡ None → ¬ (IsWhole before)
not_whole before state r h w =
    let e : None ≡ Some w.0 = sym h ∙ whole_phrase before state w.0 r w.1 in
    cc

pub not_finished : (before : List Token) (state : State) → Reached before state → ¬ (IsWhole before) → finished state ≡ None
not_finished before state r n = by (finished state) refl
  where
    by : (o : Option Term) → finished state ≡ o → o ≡ None
    by None e = refl
    by (Some phrase) e = absurd (n (phrase, phrase_whole before state phrase r e))

fits : (before : List Token) (state : State) (token : Token) → Reached before state → IsViable (before ++ token ∷ []) → (next : State) × (step state token ≡ Some next)
fits before state token r v = by (step state token) refl
  where
    by : (o : Option State) → step state token ≡ o → (next : State) × (step state token ≡ Some next)
    by None e = absurd (not_viable before state token r e v)
    by (Some next) e = (next, e)

misfits : (before : List Token) (state : State) (token : Token) → Reached before state → ¬ (IsViable (before ++ token ∷ [])) → step state token ≡ None
misfits before state token r n = by (step state token) refl
  where
    by : (o : Option State) → step state token ≡ o → o ≡ None
    by None e = refl
    by (Some next) e = absurd (n (viable before state token next r e))

pub verdict_fits : (state : State) (events : ℕ) (token : Token) (next : State) → step state token ≡ Some next → verdict state events token ≡ limited (limit state token) (events + token_events token)
verdict_fits state events token next h =
    ap (λ o. verdict_on o (unfit (finished state)) (limited (limit state token) (events + token_events token))) h

verdict_misfits : (state : State) (events : ℕ) (token : Token) → step state token ≡ None → verdict state events token ≡ Some (unfit (finished state))
verdict_misfits state events token h =
    ap (λ o. verdict_on o (unfit (finished state)) (limited (limit state token) (events + token_events token))) h

-- a run that goes over a joined list stops between its parts
run_parted : (front back : List Token) (state next : State) → run state (front ++ back) ≡ Some next → (between : State) × (run state front ≡ Some between) × (run between back ≡ Some next)
run_parted [] back state next h = (state, refl, h)
run_parted (token ∷ rest) back state next h = by (step state token) refl h (λ s g. run_parted rest back s next g)
  where
    by : (o : Option State) → step state token ≡ o → option_and_then (λ s. run s (rest ++ back)) o ≡ Some next → ((s : State) → run s (rest ++ back) ≡ Some next → (between : State) × (run s rest ≡ Some between) × (run between back ≡ Some next)) → (between : State) × (option_and_then (λ s. run s rest) (step state token) ≡ Some between) × (run between back ≡ Some next)
    by None e g f = cc
    by (Some s) e g f =
        let b = f s g in
        (b.0, ap (option_and_then (λ s. run s rest)) e ∙ b.1, b.2)

measured_stage : (target : Option (List ℕ)) (asp : Asp) (stage : Stage) (inner : Parts) (stack : List Frame) (next : State) → run (state_at inner stack stage) (measurement_tokens target asp) ≡ Some next → next.stage ≡ measured target asp
measured_stage None asp unit_next inner stack next h =
    ap (λ s. s.stage) (some_same next (state_at inner stack (measured None asp)) (sym h ∙ measurement_run inner stack None asp))
measured_stage (Some target) asp unit_next inner stack next h =
    ap (λ s. s.stage) (some_same next (state_at inner stack (measured (Some target) asp)) (sym h ∙ measurement_run inner stack (Some target) asp))
measured_stage None asp _ inner stack next h = cc
measured_stage (Some target) asp _ inner stack next h = cc

args_limit : (before : List Token) (state : State) (token : Token) → Reached before state → IsFifthArgument before token → limit state token ≡ Some TooManyArgs
args_limit before state token r fifth =
    let front = fifth.2 in
    let target = fifth.3 in
    let asp = fifth.4 in
    let parted = run_parted front (measurement_tokens target asp) start state (ap (run start) (sym fifth.6) ∙ r.runs) in
    let stage = measured_stage target asp parted.0.stage parted.0.inner parted.0.stack state parted.2 in
    ap (limit state) fifth.1
    ∙ (ap too_many stage ∙ cond-true (nat_le 4 (length asp.args)) (Some TooManyArgs) None (le-leb 4 (length asp.args) fifth.5))

pub deep_limit : (state : State) (token : Token) (next : State) → step state token ≡ Some next → height state ≤ BRACKETS → BRACKETS < height next → limit state token ≡ Some TooDeep
deep_limit s tokens.OpenRound next h few more =
    cond-true (nat_le BRACKETS (length s.stack)) (Some TooDeep) None (le-leb BRACKETS (length s.stack) (omega (arith, step_height s tokens.OpenRound next h)))
deep_limit s tokens.OpenSquare next h few more =
    cond-true (nat_le BRACKETS (length s.stack)) (Some TooDeep) None (le-leb BRACKETS (length s.stack) (omega (arith, step_height s tokens.OpenSquare next h)))
deep_limit s (tokens.Leaf which) next h few more = absurd (omega (arith, step_height s (tokens.Leaf which) next h))
deep_limit s tokens.Usm next h few more = absurd (omega (arith, step_height s tokens.Usm next h))
deep_limit s tokens.Kim next h few more = absurd (omega (arith, step_height s tokens.Kim next h))
deep_limit s tokens.At next h few more = absurd (omega (arith, step_height s tokens.At next h))
deep_limit s tokens.CloseRound next h few more = absurd (omega (arith, step_height s tokens.CloseRound next h))
deep_limit s tokens.CloseSquare next h few more = absurd (omega (arith, step_height s tokens.CloseSquare next h))
deep_limit s tokens.Arrow next h few more = absurd (omega (arith, step_height s tokens.Arrow next h))
deep_limit s (tokens.Op op) next h few more = absurd (omega (arith, step_height s (tokens.Op op) next h))
deep_limit s (tokens.Value value) next h few more = absurd (omega (arith, step_height s (tokens.Value value) next h))

events_limit : (state : State) (token : Token) → 0 < token_events token → limit state token ≡ None
events_limit s (tokens.Leaf which) h = refl
events_limit s tokens.Usm h = refl
events_limit s tokens.Kim h = refl
events_limit s tokens.At h = refl
events_limit s (tokens.Op op) h = refl
events_limit s tokens.OpenRound h = absurd (omega arith)
events_limit s tokens.OpenSquare h = absurd (omega arith)
events_limit s tokens.CloseRound h = absurd (omega arith)
events_limit s tokens.CloseSquare h = absurd (omega arith)
events_limit s tokens.Arrow h = absurd (omega arith)
events_limit s (tokens.Value value) h = absurd (omega arith)

pub reached_next : (before : List Token) (state : State) (token : Token) (next : State) → Reached before state → step state token ≡ Some next → Reached (before ++ token ∷ []) next
reached_next before state token next r h = record {
  runs = run_joined start before (token ∷ []) state r.runs ∙ ap (option_and_then (λ s. run s [])) h;
}

-- the rule that a token breaks is the verdict
pub rule_verdict : (before : List Token) (state : State) (token : Token) (kind : Kind) → Reached before state → BreaksRule before token kind → verdict state (events_in before) token ≡ Some kind
rule_verdict before state token Trailing r b =
    verdict_misfits state (events_in before) token (misfits before state token r b.1)
    ∙ ap (λ o. Some (unfit o)) (whole_phrase before state b.0.0 r b.0.1)
rule_verdict before state token Expected r b =
    verdict_misfits state (events_in before) token (misfits before state token r b.1)
    ∙ ap (λ o. Some (unfit o)) (not_finished before state r b.0)
rule_verdict before state token TooManyArgs r b =
    let f = fits before state token r b.0 in
    verdict_fits state (events_in before) token f.0 f.1
    ∙ ap (λ l. limited l (events_in before + token_events token)) (args_limit before state token r b.1)
rule_verdict before state token TooDeep r b =
    let f = fits before state token r b.0 in
    let next = reached_next before state token f.0 r f.1 in
    verdict_fits state (events_in before) token f.0 f.1
    ∙ ap (λ l. limited l (events_in before + token_events token))
    (deep_limit state token f.0 f.1 (omega (arith, b.1, open_height before state r.runs)) (omega (arith, b.2, open_height (before ++ token ∷ []) f.0 next.runs)))
rule_verdict before state token TooManyEvents r b =
    let f = fits before state token r b.0 in
    verdict_fits state (events_in before) token f.0 f.1
    ∙ (ap (λ l. limited l (events_in before + token_events token)) (events_limit state token (omega (arith, b.1, b.2, events_joined before (token ∷ []))))
    ∙ cond-true (nat_lt EVENTS (events_in before + token_events token)) (Some TooManyEvents) None (lt-ltb EVENTS (events_in before + token_events token) (omega (arith, b.2, events_joined before (token ∷ [])))))
rule_verdict before state token Char r b = absurd b
rule_verdict before state token Word r b = absurd b
rule_verdict before state token NumberTooLarge r b = absurd b
rule_verdict before state token TooLong r b = absurd b

-- a choice that gave something went to its first branch
chosen : {A : Type 0} (b : Bool) (x y : A) → cond b (Some x) None ≡ Some y → (b ≡ true) × (x ≡ y)
chosen true x y h = (refl, some_same x y h)
chosen false x y h = cc

many_rule : (stage : Stage) (kind : Kind) (last : List Token) → too_many stage ≡ Some kind → StageTokens stage last → (TooManyArgs ≡ kind) × (target : Option (List ℕ)) × (asp : Asp) × (4 ≤ length asp.args) × (last ≡ measurement_tokens target asp)
many_rule (measured target asp) kind last h read =
    let c = chosen (nat_le 4 (length asp.args)) TooManyArgs kind h in
    (c.1, target, asp, leb-true 4 (length asp.args) c.0, read)
many_rule unit_next kind last h read = cc
many_rule place_next kind last h read = cc
many_rule (square_next place) kind last h read = cc
many_rule target_next kind last h read = cc
many_rule (service_next target) kind last h read = cc
many_rule (ended unit) kind last h read = cc

rule_at : (before : List Token) (token : Token) (rule kind : Kind) → rule ≡ kind → BreaksRule before token rule → BreaksRule before token kind
rule_at before token rule kind e b = subst (λ k. BreaksRule before token k) e b

opened_rule : (before : List Token) (state : State) (token : Token) (next : State) (kind : Kind) → Reached before state → step state token ≡ Some next → 1 + height state ≡ height next → height state ≤ BRACKETS → too_deep state.stack ≡ Some kind → BreaksRule before token kind
opened_rule before state token next kind r h up low e =
    let c = chosen (nat_le BRACKETS (length state.stack)) TooDeep kind e in
    let after = reached_next before state token next r h in
    rule_at before token TooDeep kind c.1 (
      viable before state token next r h,
      omega (arith, low, open_height before state r.runs),
      omega (arith, up, leb-true BRACKETS (length state.stack) c.0, open_height (before ++ token ∷ []) next after.runs),
    )

limit_rule : (before : List Token) (state : State) (token : Token) (next : State) (kind : Kind) → Reached before state → step state token ≡ Some next → height state ≤ BRACKETS → limit state token ≡ Some kind → BreaksRule before token kind
limit_rule before s (tokens.Value value) next kind r h low e =
    let m = reached_means before s r in
    let f = many_rule s.stage kind m.last e m.stage_read in
    rule_at before (tokens.Value value) TooManyArgs kind f.0 (
      viable before s (tokens.Value value) next r h,
      (value, refl, m.before ++ m.parts, f.1, f.2, f.3, m.all ∙ ap (λ l. (m.before ++ m.parts) ++ l) f.4),
    )
limit_rule before s tokens.OpenRound next kind r h low e =
    opened_rule before s tokens.OpenRound next kind r h (omega (arith, step_height s tokens.OpenRound next h)) low e
limit_rule before s tokens.OpenSquare next kind r h low e =
    opened_rule before s tokens.OpenSquare next kind r h (omega (arith, step_height s tokens.OpenSquare next h)) low e
limit_rule before s (tokens.Leaf which) next kind r h low e = cc
limit_rule before s tokens.Usm next kind r h low e = cc
limit_rule before s tokens.Kim next kind r h low e = cc
limit_rule before s tokens.At next kind r h low e = cc
limit_rule before s tokens.CloseRound next kind r h low e = cc
limit_rule before s tokens.CloseSquare next kind r h low e = cc
limit_rule before s tokens.Arrow next kind r h low e = cc
limit_rule before s (tokens.Op op) next kind r h low e = cc

limits_rule : (before : List Token) (state : State) (token : Token) (next : State) (kind : Kind) (o : Option Kind) → Reached before state → step state token ≡ Some next → height state ≤ BRACKETS → events_in before ≤ EVENTS → limit state token ≡ o → limited o (events_in before + token_events token) ≡ Some kind → BreaksRule before token kind
limits_rule before state token next kind None r h low few l e =
    let c = chosen (nat_lt EVENTS (events_in before + token_events token)) TooManyEvents kind e in
    rule_at before token TooManyEvents kind c.1 (
      viable before state token next r h,
      few,
      omega (arith, ltb-true EVENTS (events_in before + token_events token) c.0, events_joined before (token ∷ [])),
    )
limits_rule before state token next kind (Some rule) r h low few l e =
    limit_rule before state token next kind r h low (l ∙ e)

misfit_rule : (before : List Token) (state : State) (token : Token) (kind : Kind) (o : Option Term) → Reached before state → step state token ≡ None → finished state ≡ o → unfit o ≡ kind → BreaksRule before token kind
misfit_rule before state token kind None r h f e =
    rule_at before token Expected kind e (not_whole before state r f, not_viable before state token r h)
misfit_rule before state token kind (Some phrase) r h f e =
    rule_at before token Trailing kind e ((phrase, phrase_whole before state phrase r f), not_viable before state token r h)

-- the verdict is a rule that the token breaks
pub verdict_rule : (before : List Token) (state : State) (token : Token) (kind : Kind) → Reached before state → height state ≤ BRACKETS → events_in before ≤ EVENTS → verdict state (events_in before) token ≡ Some kind → BreaksRule before token kind
verdict_rule before state token kind r low few v = by (step state token) refl
  where
    by : (o : Option State) → step state token ≡ o → BreaksRule before token kind
    by None h =
        misfit_rule before state token kind (finished state) r h refl
        (some_same (unfit (finished state)) kind (sym (verdict_misfits state (events_in before) token h) ∙ v))
    by (Some next) h =
        limits_rule before state token next kind (limit state token) r h low few refl
        (sym (verdict_fits state (events_in before) token next h) ∙ v)

-- a token with no verdict leads to a state with few open brackets
pub next_low : (state : State) (token : Token) (next : State) → step state token ≡ Some next → limit state token ≡ None → height state ≤ BRACKETS → height next ≤ BRACKETS
next_low state token next h l low = by (cases_lt BRACKETS (height next))
  where
    by : (BRACKETS < height next) ⊎ (height next ≤ BRACKETS) → height next ≤ BRACKETS
    by (inl more) = let e : None ≡ Some TooDeep = sym l ∙ deep_limit state token next h low more in cc
    by (inr few) = few
