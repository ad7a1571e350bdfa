-- The events that come next are apart, and within the phrase's numbers; so are the numbers of blocks that started.
use Rattle.std.proofs.Common.{◌≡◌, ℕ, zero, suc, ◌+◌, ◌≤◌, ◌<◌, List, [], ◌∷◌, refl, sym, ◌∙◌, ap, subst, arith}
use Rattle.std.specs.Prelude.{Bool, true, false, Option, None, Some, nat_eq, nat_lt, if◌then◌else◌}
use Rattle.std.proofs.lemmas.Bool.{eqb-true, ltb-true, ltb-false}
use Rattle.phrase_tree.specs.Term.{Term, leaf, at, chain, seq, par}
use Rattle.phrase_tree.specs.Numbering.{event_count}
use Rattle.evidence_types.specs.Evidence.{Evidence}
use Rattle.session_model.specs.Session.{Session}
use Rattle.avm_code.specs.declared.instr.Instr.{Instr}
use Rattle.avm_code.specs.declared.instr.Instr.TheVariants.{Copy, Usm, Kim, Sign, Hash, Null, Split, Swap, JoinSeq, Send, Recv, Fork, JoinPar, End}
use Rattle.machine_tables.specs.Tables.{BlockState, not_started, running, over, Tables, result_of, is_asked, Next, next_unless, next_with, next_by, next_in, next_at, next_of}
use Rattle.machine_tables.specs.Allowed.{Measures}
use Rattle.session_runs.specs.Moves.{Step, run as run_step, ask as ask_step}
use Rattle.session_runs.specs.Standing.{Block, root, of, Entry, is_open, Standing, is_in_flight}
use Rattle.session_runs.specs.MoveOrder.{Ready}
use Rattle.session_runs.specs.Owner.{only_at, split_at, owner}
use Rattle.session_runs.proofs.Rest.{rest_of}
use Rattle.session_runs.proofs.RestLaws.{count, asked_counted}
use Rattle.session_runs.proofs.TraceLaws.{occurrences, told_after_history, phrase_within}
use Rattle.session_runs.proofs.RecordLaws.{in_flight_there}
use Rattle.session_runs.proofs.RoomLaws.{history_roomy}
use Rattle.session_runs.proofs.OwnerLaws.{history_owned}
use Rattle.session_tables.specs.NextFits.{FirstMeasures, IsAsking}
use Rattle.session_tables.specs.Played.{IsPlayed}
use Rattle.session_tables.proofs.Readiness.{ready_shown}
use Rattle.session_tables.proofs.LightBlocks.{asking_shown}
use Rattle.session_tables.proofs.Freshness.{history_fresh}
use Rattle.session_tables.proofs.Touching.{named_name, measures, asker_owner}
use Rattle.session_tables.proofs.Results.{asks_fly}

-- ---- an event that is owned is one of the phrase's

abbrev Within : ℕ → ℕ → ℕ → Type 0
Within low high n = (low ≤ n) × (n < high)

only_within : (i n : ℕ) (b o : Block) → only_at i b n ≡ Some o → n ≡ i
only_within i n b o e = by_test (nat_eq n i) refl e
  where
    by_test : (t : Bool) → nat_eq n i ≡ t → (if t then Some b else None) ≡ Some o → n ≡ i
    by_test true is h = eqb-true n i is
    by_test false is h = absurd (cc)

split_within : (Q : Type 0) (bound n : ℕ) (low high : Option Block) (o : Block) → (n < bound → low ≡ Some o → Q) → (bound ≤ n → high ≡ Some o → Q) → split_at bound n low high ≡ Some o → Q
split_within Q bound n low high o below above e = by_test (nat_lt n bound) refl e
  where
    by_test : (t : Bool) → nat_lt n bound ≡ t → (if t then low else high) ≡ Some o → Q
    by_test true is h = below (ltb-true n bound is) h
    by_test false is h = above (ltb-false n bound is) h

pub owner_within : (phrase : Term) (b : Block) (i n : ℕ) (o : Block) → owner phrase b i n ≡ Some o → Within i (i + event_count phrase) n
owner_within (leaf form) b i n o e =
    let is : n ≡ i = only_within i n b o e in
    (omega (arith, is), omega (arith, is))
owner_within (at place body) b i n o e =
    let last = i + 1 + event_count body in
    split_within (Within i (i + event_count (at place body)) n) (i + 1) n (only_at i b n) (split_at last n (owner body (of i) (i + 1) n) (only_at last b n)) o
    (λ below h. let is : n ≡ i = only_within i n b o h in (omega (arith, is), omega (arith, is)))
    (λ above.
    split_within (Within i (i + event_count (at place body)) n) last n (owner body (of i) (i + 1) n) (only_at last b n) o
    (λ below h. let w : Within (i + 1) (i + 1 + event_count body) n = owner_within body (of i) (i + 1) n o h in (omega (arith, w.0), omega (arith, w.1)))
    (λ past h. let is : n ≡ last = only_within last n b o h in (omega (arith, is), omega (arith, is))))
    e
owner_within (chain left right) b i n o e =
    let middle = i + event_count left in
    split_within (Within i (i + event_count (chain left right)) n) middle n (owner left b i n) (owner right b middle n) o
    (λ below h. let w : Within i middle n = owner_within left b i n o h in (omega (arith, w.0), omega (arith, w.1)))
    (λ above h. let w : Within middle (middle + event_count right) n = owner_within right b middle n o h in (omega (arith, w.0), omega (arith, w.1)))
    e
owner_within (seq split left right) b i n o e =
    let middle = i + 1 + event_count left in
    let last = i + 1 + event_count left + event_count right in
    split_within (Within i (i + event_count (seq split left right)) n) (i + 1) n (only_at i b n) (split_at middle n (owner left b (i + 1) n) (split_at last n (owner right b middle n) (only_at last b n))) o
    (λ below h. let is : n ≡ i = only_within i n b o h in (omega (arith, is), omega (arith, is)))
    (λ above.
    split_within (Within i (i + event_count (seq split left right)) n) middle n (owner left b (i + 1) n) (split_at last n (owner right b middle n) (only_at last b n)) o
    (λ below h. let w : Within (i + 1) (i + 1 + event_count left) n = owner_within left b (i + 1) n o h in (omega (arith, w.0), omega (arith, w.1)))
    (λ past.
    split_within (Within i (i + event_count (seq split left right)) n) last n (owner right b middle n) (only_at last b n) o
    (λ below h. let w : Within middle (middle + event_count right) n = owner_within right b middle n o h in (omega (arith, w.0), omega (arith, w.1)))
    (λ beyond h. let is : n ≡ last = only_within last n b o h in (omega (arith, is), omega (arith, is)))))
    e
owner_within (par split left right) b i n o e =
    let middle = i + 1 + event_count left in
    let last = i + 1 + event_count left + event_count right in
    split_within (Within i (i + event_count (par split left right)) n) (i + 1) n (only_at i b n) (split_at middle n (owner left b (i + 1) n) (split_at last n (owner right (of i) middle n) (only_at last b n))) o
    (λ below h. let is : n ≡ i = only_within i n b o h in (omega (arith, is), omega (arith, is)))
    (λ above.
    split_within (Within i (i + event_count (par split left right)) n) middle n (owner left b (i + 1) n) (split_at last n (owner right (of i) middle n) (only_at last b n)) o
    (λ below h. let w : Within (i + 1) (i + 1 + event_count left) n = owner_within left b (i + 1) n o h in (omega (arith, w.0), omega (arith, w.1)))
    (λ past.
    split_within (Within i (i + event_count (par split left right)) n) last n (owner right (of i) middle n) (only_at last b n) o
    (λ below h. let w : Within middle (middle + event_count right) n = owner_within right (of i) middle n o h in (omega (arith, w.0), omega (arith, w.1)))
    (λ beyond h. let is : n ≡ last = only_within last n b o h in (omega (arith, is), omega (arith, is)))))
    e

-- ---- what comes next

some_block : (a b : Block) → ◌≡◌ {A = Option Block} (Some a) (Some b) → a ≡ b
some_block a b e = cc

some_event : (a b : ℕ) → ◌≡◌ {A = Option ℕ} (Some a) (Some b) → a ≡ b
some_event a b e = cc

abbrev event_from : Next → Option ℕ
event_from None = None
event_from (Some next) = next.1

abbrev step_from : Next → Option Step
step_from None = None
step_from (Some next) = Some next.0

abbrev is_next : Next → Bool
is_next None = false
is_next (Some next) = true

true_false : true ≡ false → ⊥
true_false h = cc

no_next : (x y : Next) → x ≡ None → x ≡ y → is_next y ≡ false
no_next x y none e = ap is_next (sym e ∙ none)

-- what is asked for isn't asked for yet, and is measured next
unless_asks : (flies : Bool) (i : ℕ) (step : Step) (n : ℕ) → next_unless flies i ≡ Some (step, Some n) → (flies ≡ false) × (i ≡ n)
unless_asks true i step n e = absurd (cc)
unless_asks false i step n e = (refl, some_event i n (ap event_from e))

with_runs : (value : Option Evidence) (j n : ℕ) → next_with value j ≡ Some (ask_step, Some n) → ⊥
with_runs None j n e = cc
with_runs (Some v) j n e = steps_apart (ap step_from e)
  where
    steps_apart : ◌≡◌ {A = Option Step} (Some run_step) (Some ask_step) → ⊥
    steps_apart e = cc

runs_no_ask : (event : Option ℕ) (n : ℕ) → ◌≡◌ {A = Next} (Some (run_step, event)) (Some (ask_step, Some n)) → ⊥
runs_no_ask event n e = steps_apart (ap step_from e)
  where
    steps_apart : ◌≡◌ {A = Option Step} (Some run_step) (Some ask_step) → ⊥
    steps_apart e = cc

module _ (t : Tables) (n : ℕ) where
  asks_unless : (i : ℕ) → next_unless (is_asked (t.in_flight i)) i ≡ Some (ask_step, Some n) → (is_asked (t.in_flight n) ≡ false) × (i ≡ n)
  asks_unless i e =
      let w : (is_asked (t.in_flight i) ≡ false) × (i ≡ n) = unless_asks (is_asked (t.in_flight i)) i ask_step n e in
      (subst (λ k. is_asked (t.in_flight k) ≡ false) w.1 w.0, w.1)

  instr_asks : (instr : Instr) → next_by t instr ≡ Some (ask_step, Some n) → (is_asked (t.in_flight n) ≡ false) × Measures n instr
  instr_asks (Copy i) e = absurd (runs_no_ask (Some i) n e)
  instr_asks (Usm i asp) e = asks_unless i e
  instr_asks (Kim i target asp) e = asks_unless i e
  instr_asks (Sign i) e = absurd (runs_no_ask (Some i) n e)
  instr_asks (Hash i) e = absurd (runs_no_ask (Some i) n e)
  instr_asks (Null i) e = absurd (runs_no_ask (Some i) n e)
  instr_asks (Split i split) e = absurd (runs_no_ask (Some i) n e)
  instr_asks Swap e = absurd (runs_no_ask None n e)
  instr_asks (JoinSeq i) e = absurd (runs_no_ask (Some i) n e)
  instr_asks (Send i place) e = absurd (runs_no_ask (Some i) n e)
  instr_asks (Recv j i) e = absurd (with_runs (t.replies i) j n e)
  instr_asks (Fork i split) e = absurd (runs_no_ask (Some i) n e)
  instr_asks (JoinPar j i) e = absurd (with_runs (result_of (t.blocks (of i))) j n e)
  instr_asks End e = absurd (runs_no_ask None n e)

  state_asks : (state : BlockState) → next_at t state ≡ Some (ask_step, Some n) → (is_asked (t.in_flight n) ≡ false) × IsAsking n state
  state_asks not_started e = absurd (cc)
  state_asks (running flag l) e = by_code l.rest e
    where
      by_code : (code : List Instr) → next_in t code ≡ Some (ask_step, Some n) → (is_asked (t.in_flight n) ≡ false) × FirstMeasures n code
      by_code [] e = absurd (cc)
      by_code (instr ∷ rest) e = instr_asks instr e
  state_asks (over result) e = absurd (cc)

  pub next_asks : (name : Block) → next_of t name ≡ Some (ask_step, Some n) → IsAsking n (t.blocks name)
  next_asks name e = (state_asks (t.blocks name) e).1

  -- a block that waits for an answer can do nothing
  measures_waits : (instr : Instr) → Measures n instr → is_asked (t.in_flight n) ≡ true → next_by t instr ≡ None
  measures_waits (Usm i asp) m flies = ap (λ k. next_unless (is_asked (t.in_flight k)) k) m ∙ ap (λ b. next_unless b n) flies
  measures_waits (Kim i target asp) m flies = ap (λ k. next_unless (is_asked (t.in_flight k)) k) m ∙ ap (λ b. next_unless b n) flies
  measures_waits (Copy i) m flies = absurd m
  measures_waits (Sign i) m flies = absurd m
  measures_waits (Hash i) m flies = absurd m
  measures_waits (Null i) m flies = absurd m
  measures_waits (Split i split) m flies = absurd m
  measures_waits Swap m flies = absurd m
  measures_waits (JoinSeq i) m flies = absurd m
  measures_waits (Send i place) m flies = absurd m
  measures_waits (Recv j i) m flies = absurd m
  measures_waits (Fork i split) m flies = absurd m
  measures_waits (JoinPar j i) m flies = absurd m
  measures_waits End m flies = absurd m

  asking_waits : (state : BlockState) → IsAsking n state → is_asked (t.in_flight n) ≡ true → next_at t state ≡ None
  asking_waits not_started m flies = refl
  asking_waits (running flag l) m flies = by_code l.rest m
    where
      by_code : (code : List Instr) → FirstMeasures n code → next_in t code ≡ None
      by_code [] m = absurd m
      by_code (instr ∷ rest) m = measures_waits instr m flies
  asking_waits (over result) m flies = refl

module _ (session : Session) (keys : List (List ℕ × List ℕ)) (history : List Entry) (s : Standing) (t : Tables) (p : IsPlayed session keys history s t) where
  next_owned : (name : Block) (step : Step) (event : ℕ) → s.state ≡ is_open → next_of t name ≡ Some (step, Some event) → owner session.phrase root 0 event ≡ Some name
  next_owned name step event still e =
      let one : Ready = record { block = name; step = step; event = Some event } in
      history_owned session keys history s one event p.stands ((ready_shown session keys history s t one p.stands still p.shown).1 e) refl

  pub next_apart : (one other : Block) (step other_step : Step) (event : ℕ) → s.state ≡ is_open → next_of t one ≡ Some (step, Some event) → next_of t other ≡ Some (other_step, Some event) → one ≡ other
  next_apart one other step other_step event still e f =
      some_block one other (sym (next_owned one step event still e) ∙ next_owned other other_step event still f)

  pub next_within : (name : Block) (step : Step) (event : ℕ) → s.state ≡ is_open → next_of t name ≡ Some (step, Some event) → event < event_count session.phrase
  next_within name step event still e =
      let w : Within 0 (0 + event_count session.phrase) event = owner_within session.phrase root 0 event name (next_owned name step event still e) in
      omega (arith, w.1)

  counted_within : (n : ℕ) → 1 ≤ count (rest_of session.phrase 0) n → n < event_count session.phrase
  counted_within n h = phrase_within session.phrase n h

  pub started_within : (number : ℕ) → (t.blocks (of number) ≡ not_started → ⊥) → number < event_count session.phrase
  started_within number started = by_count (occurrences t.trace number) refl
    where
      by_count : (k : ℕ) → occurrences t.trace number ≡ k → number < event_count session.phrase
      by_count zero is = absurd (started ((history_fresh session keys history t p.holds).unstarted number is))
      by_count (suc k) is =
          counted_within number (omega (arith, is, ap (λ xs. occurrences xs number) p.shown.trace, (told_after_history session keys history s p.stands).counted number))

  pub next_block_within : (number : ℕ) (step : Step) (event : Option ℕ) → next_of t (of number) ≡ Some (step, event) → number < event_count session.phrase
  next_block_within number step event e =
      started_within number (λ idle. true_false (no_next (next_of t (of number)) (Some (step, event)) (ap (λ state. next_at t state) idle) e))

  pub asked_within : (event pass : ℕ) (name : Block) → t.in_flight event ≡ Some (pass, name) → event < event_count session.phrase
  asked_within event pass name flies =
      let flying : is_in_flight s.in_flight pass event ≡ true = (asks_fly session keys history s t p pass event).1 (record { name = name; there = flies }) in
      counted_within event (omega (arith, in_flight_there s.in_flight pass event flying, (history_roomy session keys history s p.stands).held.asked event, asked_counted (rest_of session.phrase 0) event))

  asker_owns : (event pass : ℕ) (name : Block) → s.state ≡ is_open → t.in_flight event ≡ Some (pass, name) → owner session.phrase root 0 event ≡ Some name
  asker_owns event pass name still flies =
      let open_so : t.state ≡ is_open = p.shown.state ∙ still in
      asker_owner session keys history t t p.holds open_so open_so name event name (t.blocks name) (asking_shown session keys history s t event pass name p.stands still p.shown flies) (measures session keys history t t p.holds open_so open_so name name)
      ∙ ap (λ b. Some b) (named_name name)

  -- no event that comes next is asked for already
  pub next_unasked : (name : Block) (step : Step) (event : ℕ) → s.state ≡ is_open → next_of t name ≡ Some (step, Some event) → t.in_flight event ≡ None
  next_unasked name step event still e = by_asked (t.in_flight event) refl
    where
      by_asked : (asked : Option (ℕ × Block)) → t.in_flight event ≡ asked → t.in_flight event ≡ None
      by_asked None is = is
      by_asked (Some asked) is =
          let same : asked.1 ≡ name = some_block asked.1 name (sym (asker_owns event asked.0 asked.1 still is) ∙ next_owned name step event still e) in
          let asking : IsAsking event (t.blocks name) = subst (λ b. IsAsking event (t.blocks b)) same (asking_shown session keys history s t event asked.0 asked.1 p.stands still p.shown is) in
          absurd (true_false (no_next (next_of t name) (Some (step, Some event)) (asking_waits t event (t.blocks name) asking (ap is_asked is)) e))
