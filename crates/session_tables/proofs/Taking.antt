-- What the machines can take next, read off the next instructions, and what it adds.
use Rattle.std.proofs.Common.{◌≡◌, ℕ, List, [], ◌∷◌, refl, sym, ◌∙◌, ap, subst}
use Rattle.std.proofs.Math.Path.{fun_ext}
use Rattle.std.specs.Prelude.{Bool, true, false, Option, None, Some}
use Rattle.evidence_types.specs.Evidence.{Evidence}
use Rattle.session_model.specs.Value.{Makings}
use Rattle.avm_code.specs.declared.instr.Instr.{Instr}
use Rattle.avm_code.specs.declared.instr.Instr.TheVariants.{Copy, Usm, Kim, Sign, Hash, Null, Split, Swap, JoinSeq, Send, Recv, Fork, JoinPar, End}
use Rattle.avm_code.specs.declared.program.Block.{Block as CodeBlock}
use Rattle.avm_code.specs.Order.{place_called}
use Rattle.machine_tables.specs.Row.{Setting, Local, row, replied as replied_machine, joined}
use Rattle.machine_tables.specs.Tables.{BlockState, not_started, running, over, Tables, put_block, put_ask, block_name, Change, nothing, posts, forks, takes, joins, lifts, ends, Acted, result_of, is_asked, acts, acts_unless, acts_with, act_on, act_with, act, trace_after, after_change, after_machine, after_step, step_in, step_of, tables_while, step_tables, Next, next_of}
use Rattle.session_runs.specs.Moves.{Step, run as run_step, ask as ask_step, Effect, silent, happens, sends, asks, answers, starts}
use Rattle.session_runs.specs.Standing.{Block, root, of, ask, played, is_open}
use Rattle.session_runs.specs.MoveOrder.{move_by}
use Rattle.session_runs.proofs.ReadyLaws.{event_in}
use Rattle.session_tables.specs.Played.{CanTake}
use Rattle.session_tables.specs.Takes.{AddsTo, TakesStep}
use Rattle.session_tables.proofs.Readiness.{acted_event, acted_in, state_next, event_next, next_event}
use Rattle.session_tables.proofs.Steps.{put_block_law}
use Rattle.session_tables.proofs.Freshness.{some_acted, change_trace}

-- a step that runs on has an event that happens or none, and lifts no ask; one that asks lifts its ask, and the machine
-- holds what it held
abbrev pub HappensOrNot : Effect → Type 0
HappensOrNot (asks n) = ⊥
HappensOrNot (answers n bytes) = ⊥
HappensOrNot (starts n) = ⊥
HappensOrNot _ = Unit {0}

abbrev pub LiftsNone : Change → Type 0
LiftsNone (lifts n) = ⊥
LiftsNone _ = Unit {0}

pub record Asks (l : Local) (effect : Effect) (change : Change) (after : Local) : Type 0 where
  pub event : ℕ
  pub effect_is : effect ≡ asks event
  pub change_is : change ≡ lifts event
  pub after_is : after ≡ l

abbrev pub Did : Step → Local → Effect × Change × Local → Type 0
Did run_step l a = HappensOrNot a.0 × LiftsNone a.1
Did ask_step l a = Asks l a.0 a.1 a.2

acts_did : (step : Step) (l : Local) (effect : Effect) (change : Change) (after : Local) (a : Effect × Change × Local) → HappensOrNot effect → LiftsNone change → acts step effect change after ≡ Some a → Did step l a
acts_did run_step l effect change after a h k e = subst (λ x. HappensOrNot x.0 × LiftsNone x.1) (some_acted (effect, change, after) a e) (h, k)
acts_did ask_step l effect change after a h k e = absurd (cc)

unless_did : (flies : Bool) (step : Step) (i : ℕ) (l : Local) (a : Effect × Change × Local) → acts_unless flies step (asks i) (lifts i) l ≡ Some a → Did step l a
unless_did true step i l a e = absurd (cc)
unless_did false run_step i l a e = absurd (cc)
unless_did false ask_step i l a e =
    subst (λ x. Asks l x.0 x.1 x.2) (some_acted (asks i, lifts i, l) a e) (record { event = i; effect_is = refl; change_is = refl; after_is = refl })

with_did : (value : Option Evidence) (f : Evidence → Acted) (step : Step) (l : Local) (a : Effect × Change × Local) → ((v : Evidence) → f v ≡ Some a → Did step l a) → acts_with value f ≡ Some a → Did step l a
with_did None f step l a h e = absurd (cc)
with_did (Some v) f step l a h e = h v e

instr_did : (setting : Setting) (t : Tables) (step : Step) (l : Local) (instr : Instr) (a : Effect × Change × Local) → act_on t step l (row setting instr l).0 (row setting instr l).1 ≡ Some a → Did step l a
instr_did setting t step l (Copy i) a e = acts_did step l (happens i) nothing _ a tt tt e
instr_did setting t step l (Usm i asp) a e = unless_did (is_asked (t.in_flight i)) step i l a e
instr_did setting t step l (Kim i target asp) a e = unless_did (is_asked (t.in_flight i)) step i l a e
instr_did setting t step l (Sign i) a e = acts_did step l (happens i) nothing _ a tt tt e
instr_did setting t step l (Hash i) a e = acts_did step l (happens i) nothing _ a tt tt e
instr_did setting t step l (Null i) a e = acts_did step l (happens i) nothing _ a tt tt e
instr_did setting t step l (Split i split) a e = acts_did step l (happens i) nothing _ a tt tt e
instr_did setting t step l Swap a e = acts_did step l silent nothing _ a tt tt e
instr_did setting t step l (JoinSeq i) a e = acts_did step l (happens i) nothing _ a tt tt e
instr_did setting t step l (Send i place) a e = acts_did step l (sends place i) (posts place i l.evidence) _ a tt tt e
instr_did setting t step l (Recv j i) a e = with_did (t.replies i) (λ v. acts step (happens j) (takes i) (replied_machine v l)) step l a (λ v k. acts_did step l (happens j) (takes i) (replied_machine v l) a tt tt k) e
instr_did setting t step l (Fork i split) a e = acts_did step l (happens i) (forks i _) _ a tt tt e
instr_did setting t step l (JoinPar j i) a e = with_did (result_of (t.blocks (of i))) (λ v. acts step (happens j) (joins i) (joined v l)) step l a (λ v k. acts_did step l (happens j) (joins i) (joined v l) a tt tt k) e
instr_did setting t step l End a e = acts_did step l silent (ends l.evidence) _ a tt tt e

code_did : (setting : Setting) (t : Tables) (step : Step) (l : Local) (code : List Instr) (a : Effect × Change × Local) → act_with setting t step l code ≡ Some a → Did step l a
code_did setting t step l [] a e = absurd (cc)
code_did setting t step l (instr ∷ rest) a e = instr_did setting t step l instr a e

-- a step that runs on adds its event to the trace alone
change_flies : (all : List CodeBlock) (pass : ℕ) (u : Tables) (name : Block) (flag : Bool) (change : Change) → LiftsNone change → (after_change all pass name flag change u).in_flight ≡ u.in_flight
change_flies all pass u name flag nothing h = refl
change_flies all pass u name flag (posts place n before) h = refl
change_flies all pass u name flag (forks n before) h = refl
change_flies all pass u name flag (takes n) h = refl
change_flies all pass u name flag (joins n) h = refl
change_flies all pass u name flag (lifts n) h = absurd h
change_flies all pass u root flag (ends result) h = refl
change_flies all pass u (of m) true (ends result) h = refl
change_flies all pass u (of m) false (ends result) h = refl

run_adds : (pass : ℕ) (name : Block) (effect : Effect) (t later : Tables) → HappensOrNot effect → later.trace ≡ trace_after t.trace effect → later.in_flight ≡ t.in_flight → AddsTo (event_in effect) run_step pass name t later
run_adds pass name silent t later h traced flies = (traced, flies)
run_adds pass name (happens n) t later h traced flies = (traced, flies)
run_adds pass name (sends place n) t later h traced flies = (traced, flies)
run_adds pass name (asks n) t later h traced flies = absurd h
run_adds pass name (answers n bytes) t later h traced flies = absurd h
run_adds pass name (starts n) t later h traced flies = absurd h

-- what is put where it is changes nothing
put_same : (name : Block) (state : BlockState) (blocks : Block → BlockState) → blocks name ≡ state → put_block name state blocks ≡ blocks
put_same name state blocks e =
    fun_ext (λ other. put_block_law (λ one put. put ≡ blocks one) name state blocks (sym e) (λ one ne. refl) other)

-- the event of what can come next
abbrev event_from : Next → Option ℕ
event_from None = None
event_from (Some next) = next.1

module _ (all : List CodeBlock) (from : Makings) (t : Tables) (still : t.state ≡ is_open) (pass : ℕ) (name : Block) where
  abbrev setting : Setting
  setting = record { place = place_called all (block_name name); from = from }

  stepped : (step : Step) → step_tables all from t (played pass (move_by step name)) ≡ step_of all from pass step name t
  stepped run_step = ap (λ x. tables_while x (step_of all from pass run_step name t)) still
  stepped ask_step = ap (λ x. tables_while x (step_of all from pass ask_step name t)) still

  -- a step that the machine takes
  pub record Acts (step : Step) : Type 0 where
    pub flag : Bool
    pub local : Local
    pub acted : Effect × Change × Local
    pub runs : t.blocks name ≡ running flag local
    pub act_is : act setting t step local ≡ Some acted
    pub did : Did step local acted
    pub next_is : next_of t name ≡ Some (step, event_in acted.0)
    pub stepped_is : step_tables all from t (played pass (move_by step name)) ≡ Some (after_change all pass name flag acted.1 (after_machine name flag acted.0 acted.2 t))

  acts_so : (step : Step) (flag : Bool) (l : Local) (a : Effect × Change × Local) → t.blocks name ≡ running flag l → act setting t step l ≡ Some a → Acts step
  acts_so step flag l a runs e = record {
    flag = flag;
    local = l;
    acted = a;
    runs = runs;
    act_is = e;
    did = code_did setting t step l l.rest a e;
    next_is = event_next step (next_of t name) (event_in a.0) (sym (state_next setting t step (t.blocks name)) ∙ ap (λ x. acted_in setting t step x) runs ∙ ap acted_event e);
    stepped_is = stepped step ∙ ap (λ x. step_in all from pass step name t x) runs ∙ ap (λ x. after_step all pass name flag t x) e;
  }

  -- by what it can do next
  acts_next : (step : Step) (event : Option ℕ) → next_of t name ≡ Some (step, event) → Acts step
  acts_next step event e = by_state (t.blocks name) refl (state_next setting t step (t.blocks name) ∙ next_event step (next_of t name) event e)
    where
      by_act : (flag : Bool) (l : Local) → t.blocks name ≡ running flag l → (x : Acted) → act setting t step l ≡ x → acted_event x ≡ Some event → Acts step
      by_act flag l runs None same h = absurd (cc)
      by_act flag l runs (Some a) same h = acts_so step flag l a runs same

      by_state : (state : BlockState) → t.blocks name ≡ state → acted_in setting t step state ≡ Some event → Acts step
      by_state not_started runs h = absurd (cc)
      by_state (running flag l) runs h = by_act flag l runs (act setting t step l) refl h
      by_state (over result) runs h = absurd (cc)

  -- and where it takes the step
  acts_taken : (step : Step) (later : Tables) → step_tables all from t (played pass (move_by step name)) ≡ Some later → Acts step
  acts_taken step later e = by_state (t.blocks name) refl (sym (stepped step) ∙ e)
    where
      by_act : (flag : Bool) (l : Local) → t.blocks name ≡ running flag l → (x : Acted) → act setting t step l ≡ x → after_step all pass name flag t x ≡ Some later → Acts step
      by_act flag l runs None same h = absurd (cc)
      by_act flag l runs (Some a) same h = acts_so step flag l a runs same

      by_state : (state : BlockState) → t.blocks name ≡ state → step_in all from pass step name t state ≡ Some later → Acts step
      by_state not_started runs h = absurd (cc)
      by_state (running flag l) runs h = by_act flag l runs (act setting t step l) refl h
      by_state (over result) runs h = absurd (cc)

  -- what is asked for
  abbrev asked_tables : ℕ → Tables
  asked_tables n = record t { in_flight = put_ask n (Some (pass, name)) t.in_flight }

  asked_so : (a : Acts ask_step) → after_change all pass name a.flag a.acted.1 (after_machine name a.flag a.acted.0 a.acted.2 t) ≡ asked_tables a.did.event
  asked_so a =
      ap (λ c. after_change all pass name a.flag c (after_machine name a.flag a.acted.0 a.acted.2 t)) a.did.change_is
      ∙ ap (λ e. after_change all pass name a.flag (lifts a.did.event) (after_machine name a.flag e a.acted.2 t)) a.did.effect_is
      ∙ ap (λ blocks. put_asked blocks) (ap (λ l. put_block name (running a.flag l) t.blocks) a.did.after_is ∙ put_same name (running a.flag a.local) t.blocks a.runs)
    where
      put_asked : (Block → BlockState) → Tables
      put_asked blocks = record t { blocks = blocks; in_flight = put_ask a.did.event (Some (pass, name)) t.in_flight }

  asks_event : (a : Acts ask_step) → event_in a.acted.0 ≡ Some a.did.event
  asks_event a = ap event_in a.did.effect_is

  next_same : (step : Step) (event other : Option ℕ) → next_of t name ≡ Some (step, event) → next_of t name ≡ Some (step, other) → other ≡ event
  next_same step event other e o = ap event_from (sym o ∙ e)

  pub asks_taken : (n : ℕ) → next_of t name ≡ Some (ask_step, Some n) → step_tables all from t (played pass (ask name)) ≡ Some (asked_tables n)
  asks_taken n e =
      let a : Acts ask_step = acts_next ask_step (Some n) e in
      let is : Some a.did.event ≡ Some n = sym (asks_event a) ∙ next_same ask_step (Some n) (event_in a.acted.0) e a.next_is in
      a.stepped_is ∙ ap (λ x. Some x) (asked_so a ∙ ap asked_tables (some_number a.did.event n is))
    where
      some_number : (a b : ℕ) → ◌≡◌ {A = Option ℕ} (Some a) (Some b) → a ≡ b
      some_number a b e = cc

  pub step_taken : (step : Step) (event : Option ℕ) → next_of t name ≡ Some (step, event) → TakesStep all from t pass name step event
  step_taken run_step event e =
      let a : Acts run_step = acts_next run_step event e in
      let later : Tables = after_change all pass name a.flag a.acted.1 (after_machine name a.flag a.acted.0 a.acted.2 t) in
      record {
        later = later;
        taken = a.stepped_is;
        adds = subst (λ x. AddsTo x run_step pass name t later) (next_same run_step event (event_in a.acted.0) e a.next_is) (run_adds pass name a.acted.0 t later a.did.0 (change_trace all pass (after_machine name a.flag a.acted.0 a.acted.2 t) name a.flag a.acted.1) (change_flies all pass (after_machine name a.flag a.acted.0 a.acted.2 t) name a.flag a.acted.1 a.did.1));
      }
  step_taken ask_step event e =
      let a : Acts ask_step = acts_next ask_step event e in
      let later : Tables = after_change all pass name a.flag a.acted.1 (after_machine name a.flag a.acted.0 a.acted.2 t) in
      record {
        later = later;
        taken = a.stepped_is;
        adds = subst (λ x. AddsTo x ask_step pass name t later) (sym (asks_event a) ∙ next_same ask_step event (event_in a.acted.0) e a.next_is) (subst (λ x. AddsTo (Some a.did.event) ask_step pass name t x) (sym (asked_so a)) (refl, refl));
      }

  pub next_taken : (step : Step) → CanTake all from t (played pass (move_by step name)) → (event : Option ℕ) × (next_of t name ≡ Some (step, event))
  next_taken step can =
      let a : Acts step = acts_taken step can.later can.taken in
      (event_in a.acted.0, a.next_is)
