-- What is ready by the configuration is ready by the next instructions.
use Rattle.std.proofs.Common.{◌≡◌, ℕ, ◌≤◌, inl, inr, List, [], ◌∷◌, refl, sym, ◌∙◌, ap, subst}
use Rattle.std.specs.Prelude.{Bool, true, false, Option, None, Some, Contains, ◌↔◌}
use Rattle.phrase_tree.specs.Numbering.{event_count}
use Rattle.evidence_types.specs.Evidence.{Evidence}
use Rattle.session_model.specs.Session.{Session}
use Rattle.session_model.specs.Value.{Makings}
use Rattle.avm_code.specs.declared.instr.Instr.{Instr}
use Rattle.avm_code.specs.declared.instr.Instr.TheVariants.{Copy, Usm, Kim, Sign, Hash, Null, Split, Swap, JoinSeq, Send, Recv, Fork, JoinPar, End}
use Rattle.avm_code.specs.declared.program.Block.{Block as CodeBlock}
use Rattle.avm_compile.specs.Program.{program_of}
use Rattle.machine_tables.specs.Row.{Setting, Local, row, replied as replied_machine, joined}
use Rattle.machine_tables.specs.Tables.{BlockState, not_started, running, over, Tables, block_name, Change, takes, joins, lifts, Acted, result_of, is_asked, acts, acts_unless, acts_with, act_on, act_with, act, Next, next_unless, next_with, next_by, next_in, next_at, next_of}
use Rattle.avm_code.specs.Order.{place_called}
use Rattle.session_runs.specs.Configuration.{Configuration, finished, once_finished}
use Rattle.session_runs.specs.Moves.{Step, run as run_step, ask as ask_step, in_block, silent, happens, asks, Moved, on_run, only_if, inside, own_moves, inner_moves}
use Rattle.session_runs.specs.Standing.{Block, root, of, Entry, is_open, Standing, makings}
use Rattle.session_runs.specs.History.{standing_after}
use Rattle.session_runs.specs.MoveOrder.{Ready, ready_to, ready_in, ready_of}
use Rattle.session_runs.specs.Progress.{movers_in}
use Rattle.session_runs.proofs.Induction.{Made}
use Rattle.session_runs.proofs.ChoiceLaws.{history_one_mover}
use Rattle.session_runs.proofs.ListingLaws.{IsAmong, contains_among, among_contains, among_ready, one_event}
use Rattle.session_runs.proofs.ProgressLaws.{IsGoing}
use Rattle.session_runs.proofs.ReadyLaws.{IsReady, event_in, CanStep, own_step, inner_step, until_inner, once_ready, own_ready, inner_ready, ready_steps}
use Rattle.session_tables.specs.Left.{held, told_or, left_of}
use Rattle.session_tables.specs.Found.{View, unseen, asks_for, waits, runs, replied, joinable, found}
use Rattle.session_tables.specs.Shown.{IsIdle, Stands, IsMadeOf, IsShown}
use Rattle.session_tables.proofs.Starting.{going_or, until_finished}
use Rattle.session_tables.proofs.Fitting.{Fits, SessionFits, fits_after_history}
use Rattle.session_tables.proofs.Deeds.{suits, no_deed}
use Rattle.session_tables.proofs.Frames.{spot}
use Rattle.session_tables.proofs.OwnMoves.{as_did, own_change}
use Rattle.session_tables.proofs.Blocks.{BlockIn, block_in}
use Rattle.session_tables.proofs.Steps.{made_still}
use Rattle.session_tables.proofs.Sites.{Site, end_of, by_machine, site_acts, end_acts, root_site, block_site}

abbrev some_event_of : Option ℕ → Option (Option ℕ)
some_event_of event = Some event

abbrev next_to : Step → Option ℕ → Next
next_to step event = Some (step, event)

abbrev ready_one : Block → Step → Option ℕ → Ready
ready_one block step event = record { block = block; step = step; event = event }

-- the event of a step, where the step is possible
abbrev pub event_of : Moved → Option (Option ℕ)
event_of None = None
event_of (Some move) = Some (event_in move.0)

abbrev pub acted_event : Acted → Option (Option ℕ)
acted_event None = None
acted_event (Some step) = Some (event_in step.0)

abbrev pub event_if : Step → Step → Option ℕ → Option (Option ℕ)
event_if run_step run_step event = Some event
event_if run_step ask_step event = None
event_if ask_step run_step event = None
event_if ask_step ask_step event = Some event

abbrev pub event_by : Step → Next → Option (Option ℕ)
event_by step None = None
event_by step (Some next) = event_if next.0 step next.1

unless_next : (b : Bool) (step : Step) (i : ℕ) (l : Local) → acted_event (acts_unless b step (asks i) (lifts i) l) ≡ event_by step (next_unless b i)
unless_next true step i l = refl
unless_next false run_step i l = refl
unless_next false ask_step i l = refl

with_next : (x : Option Evidence) (step : Step) (j : ℕ) (change : Change) (f : Evidence → Local) → acted_event (acts_with x (λ v. acts step (happens j) change (f v))) ≡ event_by step (next_with x j)
with_next None step j change f = refl
with_next (Some v) run_step j change f = refl
with_next (Some v) ask_step j change f = refl

instr_next : (setting : Setting) (t : Tables) (step : Step) (l : Local) (instr : Instr) → acted_event (act_on t step l (row setting instr l).0 (row setting instr l).1) ≡ event_by step (next_by t instr)
instr_next setting t run_step l (Copy i) = refl
instr_next setting t ask_step l (Copy i) = refl
instr_next setting t step l (Usm i asp) = unless_next (is_asked (t.in_flight i)) step i l
instr_next setting t step l (Kim i target asp) = unless_next (is_asked (t.in_flight i)) step i l
instr_next setting t run_step l (Sign i) = refl
instr_next setting t ask_step l (Sign i) = refl
instr_next setting t run_step l (Hash i) = refl
instr_next setting t ask_step l (Hash i) = refl
instr_next setting t run_step l (Null i) = refl
instr_next setting t ask_step l (Null i) = refl
instr_next setting t run_step l (Split i split) = refl
instr_next setting t ask_step l (Split i split) = refl
instr_next setting t run_step l Swap = refl
instr_next setting t ask_step l Swap = refl
instr_next setting t run_step l (JoinSeq i) = refl
instr_next setting t ask_step l (JoinSeq i) = refl
instr_next setting t run_step l (Send i place) = refl
instr_next setting t ask_step l (Send i place) = refl
instr_next setting t step l (Recv j i) = with_next (t.replies i) step j (takes i) (λ v. replied_machine v l)
instr_next setting t run_step l (Fork i split) = refl
instr_next setting t ask_step l (Fork i split) = refl
instr_next setting t step l (JoinPar j i) = with_next (result_of (t.blocks (of i))) step j (joins i) (λ v. joined v l)
instr_next setting t run_step l End = refl
instr_next setting t ask_step l End = refl

code_next : (setting : Setting) (t : Tables) (step : Step) (l : Local) (code : List Instr) → acted_event (act_with setting t step l code) ≡ event_by step (next_in t code)
code_next setting t step l [] = refl
code_next setting t step l (instr ∷ rest) = instr_next setting t step l instr

-- the event of a step of a block, by the tables
abbrev pub acted_in : Setting → Tables → Step → BlockState → Option (Option ℕ)
acted_in setting t step not_started = None
acted_in setting t step (running flag l) = acted_event (act setting t step l)
acted_in setting t step (over result) = None

pub state_next : (setting : Setting) (t : Tables) (step : Step) (state : BlockState) → acted_in setting t step state ≡ event_by step (next_at t state)
state_next setting t step not_started = refl
state_next setting t step (running flag l) = code_next setting t step l l.rest
state_next setting t step (over result) = refl

inner_is : (a b : Option ℕ) → ◌≡◌ {A = Option (Option ℕ)} (Some a) (Some b) → a ≡ b
inner_is a b e = cc

pub event_next : (step : Step) (x : Next) (event : Option ℕ) → event_by step x ≡ Some event → x ≡ Some (step, event)
event_next step None event e = absurd (cc)
event_next step (Some next) event e = by_steps next.0 step next.1 e
  where
    by_steps : (a b : Step) (other : Option ℕ) → event_if a b other ≡ Some event → ◌≡◌ {A = Next} (Some (a, other)) (Some (b, event))
    by_steps run_step run_step other h = ap (λ (o : Option ℕ). next_to run_step o) (inner_is other event h)
    by_steps run_step ask_step other h = absurd (cc)
    by_steps ask_step run_step other h = absurd (cc)
    by_steps ask_step ask_step other h = ap (λ (o : Option ℕ). next_to ask_step o) (inner_is other event h)

pub next_event : (step : Step) (x : Next) (event : Option ℕ) → x ≡ Some (step, event) → event_by step x ≡ Some event
next_event step x event e = ap (λ y. event_by step y) e ∙ itself step
  where
    itself : (step : Step) → event_if step step event ≡ Some event
    itself run_step = refl
    itself ask_step = refl

did_event : (change : Change) (k : List Instr) (u : List Evidence) (e : Evidence) (x : Moved) → acted_event (as_did change k u e x) ≡ event_of x
did_event change k u e None = refl
did_event change k u e (Some move) = refl

inside_event : (whole : Configuration → Configuration) (x : Moved) → event_of (inside whole x) ≡ event_of x
inside_event whole None = refl
inside_event whole (Some move) = refl

moved_from : (x : Moved) (event : Option ℕ) → event_of x ≡ Some event → (m : Made) × (x ≡ Some m) × (event_in m.0 ≡ event)
moved_from None event e = absurd (cc)
moved_from (Some m) event e = (m, refl, some_event_is m event e)
  where
    some_event_is : (m : Made) (event : Option ℕ) → ◌≡◌ {A = Option (Option ℕ)} (Some (event_in m.0)) (Some event) → event_in m.0 ≡ event
    some_event_is m event e = cc

end_event : (step : Step) (result : Evidence) (l : Local) (c : Configuration) → acted_event (end_of step result l) ≡ event_of (on_run step silent c)
end_event run_step result l c = refl
end_event ask_step result l c = refl

module _ (all : List CodeBlock) (from : Makings) (place : List ℕ) (low high : ℕ) (t : Tables) (s : Standing) (shown : IsShown t s) (still : s.state ≡ is_open) (cells : IsMadeOf s.configuration t) (fits : Fits all place s.configuration low high) (one : (block : Block) → movers_in block (ready_of s.configuration) ≤ 1) where
  going_event : (name : Block) (site : Site all name s.configuration) → IsGoing site.inner → (step : Step) → acted_in (record { place = place_called all (block_name name); from = from }) t step (t.blocks name) ≡ event_of (own_moves from site.place site.inner step)
  going_event name site going step =
      by_machine all from t s shown still cells 0 (λ state. acted_in (record { place = place_called all (block_name name); from = from }) t step state ≡ event_of (own_moves from site.place site.inner step)) site.for_request (left_of site.inner) (t.blocks name) (subst (λ v. Stands v (t.blocks name)) site.was (cells.blocks name))
      (λ l holds. ap acted_event (site_acts all from t s shown still cells 0 name site going step l holds) ∙ did_event (own_change site.inner) (End ∷ []) [] (told_or (held site.inner) l.evidence) (own_moves from site.place site.inner step))

  finished_event : (name : Block) (for_request : Bool) (result : Evidence) (c : Configuration) → Stands (runs for_request (left_of (finished result))) (t.blocks name) → (step : Step) → acted_in (record { place = place_called all (block_name name); from = from }) t step (t.blocks name) ≡ event_of (on_run step silent c)
  finished_event name for_request result c stands step =
      by_machine all from t s shown still cells 0 (λ state. acted_in (record { place = place_called all (block_name name); from = from }) t step state ≡ event_of (on_run step silent c)) for_request (left_of (finished result)) (t.blocks name) stands
      (λ l holds. ap acted_event (end_acts all from t s shown still cells 0 (place_called all (block_name name)) result step l holds) ∙ end_event step result l c)

  running_event : (m : ℕ) (v : View) → found root s.configuration m ≡ v → BlockIn all from m v (spot root place s.configuration low high) → (step : Step) → acted_in (record { place = place_called all (block_name (of m)); from = from }) t step (t.blocks (of m)) ≡ event_of (inner_moves from place s.configuration (in_block m step))
  running_event m v said b step = elim (going_or b.inner) [
    | inl going ↦
        going_event (of m) (block_site all from place low high t s shown still cells fits 0 m v said b) going step
        ∙ sym (inside_event (λ d. b.whole d false) (own_moves from b.place b.inner step))
        ∙ sym (ap event_of (b.steps step ∙ until_finished Moved (inside (λ d. b.whole d false) (own_moves from b.place b.inner step)) (λ result. only_if true (on_run step silent (b.whole (finished result) true))) b.inner going))
    | inr w ↦
        finished_event (of m) b.for_request w.0 (b.whole (finished w.0) true) (subst (λ x. Stands x (t.blocks (of m))) (said ∙ b.view ∙ ap (λ c. runs b.for_request (left_of c)) w.1) (cells.blocks (of m))) step
        ∙ sym (ap event_of (b.steps step ∙ ap (λ c. once_finished c (inside (λ d. b.whole d false) (own_moves from b.place b.inner step)) (λ result. only_if true (on_run step silent (b.whole (finished result) true)))) w.1))
  ]

  idle_event : (m : ℕ) (step : Step) → IsIdle (t.blocks (of m)) → suits (found root s.configuration m) (in_block m step) ≡ false → acted_in (record { place = place_called all (block_name (of m)); from = from }) t step (t.blocks (of m)) ≡ event_of (inner_moves from place s.configuration (in_block m step))
  idle_event m step idle unsuited = idle_none (t.blocks (of m)) idle ∙ sym (ap event_of (no_deed all from root place s.configuration low high (in_block m step) fits unsuited))
    where
      idle_none : (state : BlockState) → IsIdle state → acted_in (record { place = place_called all (block_name (of m)); from = from }) t step state ≡ None
      idle_none not_started i = refl
      idle_none (running flag l) i = absurd i
      idle_none (over result) i = refl

  block_event : (m : ℕ) (step : Step) → acted_in (record { place = place_called all (block_name (of m)); from = from }) t step (t.blocks (of m)) ≡ event_of (inner_moves from place s.configuration (in_block m step))
  block_event m step = by_view (found root s.configuration m) refl (cells.blocks (of m))
    where
      by_view : (v : View) → found root s.configuration m ≡ v → Stands v (t.blocks (of m)) → acted_in (record { place = place_called all (block_name (of m)); from = from }) t step (t.blocks (of m)) ≡ event_of (inner_moves from place s.configuration (in_block m step))
      by_view unseen e stands = idle_event m step stands (ap (λ v. suits v (in_block m step)) e)
      by_view (asks_for name) e stands = idle_event m step stands (ap (λ v. suits v (in_block m step)) e)
      by_view (waits before) e stands = idle_event m step stands (ap (λ v. suits v (in_block m step)) e)
      by_view (runs for_request l) e stands = running_event m (runs for_request l) e (block_in all from m for_request l root place s.configuration low high fits e) step
      by_view (replied result) e stands = idle_event m step stands (ap (λ v. suits v (in_block m step)) e)
      by_view (joinable result) e stands = idle_event m step (subst IsIdle (sym stands) tt) (ap (λ v. suits v (in_block m step)) e)

  -- by the configuration: what is ready is a move
  of_is : (a k : ℕ) → of a ≡ of k → a ≡ k
  of_is a k e = cc

  root_of : (n : ℕ) → root ≡ of n → ⊥
  root_of n e = cc

  of_root : (n : ℕ) → of n ≡ root → ⊥
  of_root n e = cc

  going_list : IsGoing s.configuration → ready_of s.configuration ≡ ready_in root s.configuration
  going_list going = until_finished (List Ready) (ready_in root s.configuration) (λ value. ready_to root run_step None) s.configuration going

  same_event : (block : Block) (step : Step) (a b : Option ℕ) → IsReady (ready_of s.configuration) block step a → IsReady (ready_of s.configuration) block step b → ◌≡◌ {A = Option (Option ℕ)} (Some a) (Some b)
  same_event block step a b f g = ap (λ (o : Option ℕ). some_event_of o) (one_event (ready_of s.configuration) block step step a b (one block) f g)

  root_to : (step : Step) (event : Option ℕ) → IsGoing s.configuration → IsReady (ready_in root s.configuration) root step event → event_of (own_moves from place s.configuration step) ≡ Some event
  root_to step event going h = by_can (ready_steps from place root s.configuration root step event h)
    where
      by_can : CanStep from place root s.configuration root step → event_of (own_moves from place s.configuration step) ≡ Some event
      by_can (own_step same m e) =
          ap event_of e ∙ same_event root step (event_in m.0) event (subst (λ xs. IsReady xs root step (event_in m.0)) (sym (going_list going)) (own_ready from place root s.configuration step m e)) (subst (λ xs. IsReady xs root step event) (sym (going_list going)) h)
      by_can (inner_step n same m e) = absurd (of_root n same)

  block_to : (m : ℕ) (step : Step) (event : Option ℕ) → IsGoing s.configuration → IsReady (ready_in root s.configuration) (of m) step event → event_of (inner_moves from place s.configuration (in_block m step)) ≡ Some event
  block_to m step event going h = by_can (ready_steps from place root s.configuration (of m) step event h)
    where
      by_can : CanStep from place root s.configuration (of m) step → event_of (inner_moves from place s.configuration (in_block m step)) ≡ Some event
      by_can (own_step same k e) = absurd (root_of m same)
      by_can (inner_step n same k e) =
          let here : inner_moves from place s.configuration (in_block m step) ≡ Some k = subst (λ j. inner_moves from place s.configuration (in_block j step) ≡ Some k) (of_is n m same) e in
          ap event_of here ∙ same_event (of m) step (event_in k.0) event (subst (λ xs. IsReady xs (of m) step (event_in k.0)) (sym (going_list going)) (inner_ready from place root s.configuration m step k here)) (subst (λ xs. IsReady xs (of m) step event) (sym (going_list going)) h)

  -- the block of the root
  root_event_going : place_called all (block_name root) ≡ place → IsGoing s.configuration → (step : Step) → acted_in (record { place = place_called all (block_name root); from = from }) t step (t.blocks root) ≡ event_of (own_moves from place s.configuration step)
  root_event_going placed going step = going_event root (root_site all from place low high t s shown still cells fits 0 placed) going step

  root_event_over : (value : Evidence) → s.configuration ≡ finished value → (step : Step) → acted_in (record { place = place_called all (block_name root); from = from }) t step (t.blocks root) ≡ event_of (on_run step silent (finished value))
  root_event_over value is step = finished_event root false value (finished value) (subst (λ c. Stands (runs false (left_of c)) (t.blocks root)) is (cells.blocks root)) step

  over_to : (block : Block) (step : Step) (event : Option ℕ) (value : Evidence) → IsReady (ready_to root run_step None) block step event → (root ≡ block) × (event_of (on_run step silent (finished value)) ≡ Some event)
  over_to block step event value (inl h) = (h.0, subst (λ x. event_of (on_run x silent (finished value)) ≡ Some event) h.1 (ap (λ (o : Option ℕ). some_event_of o) h.2))
  over_to block step event value (inr h) = absurd h

  over_from : (step : Step) (event : Option ℕ) (value : Evidence) → event_of (on_run step silent (finished value)) ≡ Some event → IsReady (ready_to root run_step None) root step event
  over_from run_step event value e = inl (refl, refl, none_is event e)
    where
      none_is : (event : Option ℕ) → ◌≡◌ {A = Option (Option ℕ)} (Some None) (Some event) → None ≡ event
      none_is event e = cc
  over_from ask_step event value e = absurd (cc)

  pub ready_to_acted : place_called all (block_name root) ≡ place → (name : Block) (step : Step) (event : Option ℕ) → IsReady (ready_of s.configuration) name step event → acted_in (record { place = place_called all (block_name name); from = from }) t step (t.blocks name) ≡ Some event
  ready_to_acted placed root step event h =
      once_ready (acted_in (record { place = place_called all (block_name root); from = from }) t step (t.blocks root) ≡ Some event) s.configuration (ready_in root s.configuration) (λ value. ready_to root run_step None) root step event
      (λ going k. root_event_going placed going step ∙ root_to step event going k)
      (λ value is k. root_event_over value is step ∙ (over_to root step event value k).1)
      h
  ready_to_acted placed (of m) step event h =
      once_ready (acted_in (record { place = place_called all (block_name (of m)); from = from }) t step (t.blocks (of m)) ≡ Some event) s.configuration (ready_in root s.configuration) (λ value. ready_to root run_step None) (of m) step event
      (λ going k. block_event m step ∙ block_to m step event going k)
      (λ value is k. absurd (root_of m (over_to (of m) step event value k).0))
      h

  pub acted_to_ready : place_called all (block_name root) ≡ place → (name : Block) (step : Step) (event : Option ℕ) → acted_in (record { place = place_called all (block_name name); from = from }) t step (t.blocks name) ≡ Some event → IsReady (ready_of s.configuration) name step event
  acted_to_ready placed root step event e = elim (going_or s.configuration) [
    | inl going ↦
        let w = moved_from (own_moves from place s.configuration step) event (sym (root_event_going placed going step) ∙ e) in
        subst (λ xs. IsReady xs root step event) (sym (going_list going)) (subst (λ o. IsReady (ready_in root s.configuration) root step o) w.2 (own_ready from place root s.configuration step w.0 w.1))
    | inr u ↦
        subst (λ c. IsReady (ready_of c) root step event) (sym u.1) (over_from step event u.0 (sym (root_event_over u.0 u.1 step) ∙ e))
  ]
  acted_to_ready placed (of m) step event e =
      let w = moved_from (inner_moves from place s.configuration (in_block m step)) event (sym (block_event m step) ∙ e) in
      subst (λ xs. IsReady xs (of m) step event) (sym (until_inner from place s.configuration m step w.0 (List Ready) (ready_in root s.configuration) (λ value. ready_to root run_step None) w.1)) (subst (λ o. IsReady (ready_in root s.configuration) (of m) step o) w.2 (inner_ready from place root s.configuration m step w.0 w.1))

ready_among : (xs : List Ready) (one : Ready) → IsReady xs one.block one.step one.event → IsAmong xs one
ready_among [] one h = absurd h
ready_among (x ∷ xs) one (inl h) = inl (same_ready x one h.0 h.1 h.2)
  where
    same_ready : (a b : Ready) → a.block ≡ b.block → a.step ≡ b.step → a.event ≡ b.event → a ≡ b
    same_ready a b p q r =
        ap (λ (x : Block). ready_one x a.step a.event) p ∙ ap (λ (x : Step). ready_one b.block x a.event) q ∙ ap (λ (x : Option ℕ). ready_one b.block b.step x) r
ready_among (x ∷ xs) one (inr h) = inr (ready_among xs one h)

-- what is ready is just what the tables show as next
pub ready_shown : (session : Session) (keys : List (List ℕ × List ℕ)) (history : List Entry) (s : Standing) (t : Tables) (one : Ready) → standing_after session keys history ≡ Some s → s.state ≡ is_open → IsShown t s → Contains (ready_of s.configuration) one ↔ (next_of t one.block ≡ Some (one.step, one.event))
ready_shown session keys history s t one e still shown =
    let cells : IsMadeOf s.configuration t = made_still s.state s.configuration t still shown.made in
    let fits : SessionFits session s = fits_after_history session keys history s e in
    let movers : (block : Block) → movers_in block (ready_of s.configuration) ≤ 1 = λ block. history_one_mover session keys history s block e in
    let same : acted_in (record { place = place_called (program_of session.phrase session.root) (block_name one.block); from = makings session keys }) t one.step (t.blocks one.block) ≡ event_by one.step (next_of t one.block) = state_next (record { place = place_called (program_of session.phrase session.root) (block_name one.block); from = makings session keys }) t one.step (t.blocks one.block) in (
      λ h. event_next one.step (next_of t one.block) one.event (sym same ∙ ready_to_acted (program_of session.phrase session.root) (makings session keys) session.root 0 (event_count session.phrase) t s shown still cells fits movers refl one.block one.step one.event (among_ready (ready_of s.configuration) one (among_contains Ready (ready_of s.configuration) one h))),
      λ h. contains_among Ready (ready_of s.configuration) one (ready_among (ready_of s.configuration) one (acted_to_ready (program_of session.phrase session.root) (makings session keys) session.root 0 (event_count session.phrase) t s shown still cells fits movers refl one.block one.step one.event (same ∙ next_event one.step (next_of t one.block) one.event h))),
    )
