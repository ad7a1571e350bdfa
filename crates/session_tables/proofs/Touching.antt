-- What an entry changes of the tables, and that no other block reads it.
use Rattle.std.proofs.Common.{◌≡◌, ℕ, inl, inr, List, [], ◌∷◌, ◌++◌, refl, sym, ◌∙◌, ap, subst}
use Rattle.std.specs.Prelude.{Bool, true, false, Option, None, Some, drop, nat_eq, ◌||◌, if◌then◌else◌}
use Rattle.std.specs.Cmp.Lexicographic.{pointwise}
use Rattle.evidence_types.specs.Evidence.{Evidence, nonce}
use Rattle.session_model.specs.Session.{Session}
use Rattle.session_model.specs.Value.{Makings}
use Rattle.avm_code.specs.declared.instr.Instr.{Instr}
use Rattle.avm_code.specs.declared.instr.Instr.TheVariants.{Copy, Usm, Kim, Sign, Hash, Null, Split, Swap, JoinSeq, Send, Recv, Fork, JoinPar, End}
use Rattle.avm_code.specs.declared.program.Block.{Block as CodeBlock}
use Rattle.avm_code.specs.Blocks.{waiting_for, WaitsAs}
use Rattle.avm_code.specs.Order.{place_called}
use Rattle.avm_compile.specs.Program.{program_of}
use Rattle.avm_compile.proofs.WaitLaws.{waiting_blocks_are_known}
use Rattle.machine_tables.specs.Row.{Setting, Local, row, replied as replied_machine, joined, answered}
use Rattle.machine_tables.specs.Tables.{BlockState, not_started, running, over, Tables, same_name, put_block, block_name, started, Change, nothing, posts, forks, takes, joins, lifts, ends, Acted, result_of, is_asked, acts, acts_unless, acts_with, act_on, act_with, act, after_end, after_change, after_machine, after_step, step_in, deliver_first, by_asker, answer_at, answer_in, stop_tables, enter_tables, step_tables, tables_after, Next, next_unless, next_with, next_by, next_in, next_at, next_of}
use Rattle.session_runs.specs.Moves.{Step, run as run_step, ask as ask_step, Effect, happens, sends, asks}
use Rattle.session_runs.specs.Owner.{owner}
use Rattle.session_runs.specs.Standing.{Block, root, of, run, ask, deliver, Entry, opened, played, answered as was_answered, failed, starved, State, is_open, has_failed, has_starved, Standing, makings}
use Rattle.session_runs.specs.History.{standing_after}
use Rattle.session_runs.proofs.OwnerLaws.{owner_owns}
use Rattle.machine_tables.specs.Allowed.{Measures as MeasuresEvent}
use Rattle.session_tables.specs.NextFits.{FirstMeasures, IsAsking}
use Rattle.session_tables.specs.Shown.{AreShown}
use Rattle.session_tables.specs.Touched.{named, waiting_block, touched_in, touched_at, first_block, asking_block, touched, changed_at, any_waits, sends_in, sends_at, waits_after}
use Rattle.std.specs.List.{AllByRecursion}
use Rattle.std.proofs.lemmas.Bool.{eq-eqb}
use Rattle.session_tables.proofs.Lists.{if_true, if_false, either_way}
use Rattle.session_tables.proofs.Steps.{put_block_law, put_at_law}
use Rattle.session_tables.proofs.Freshness.{Agrees, some_acted, some_tables, while_is, put_other, code_agrees, delivery_fresh, fork_fresh}
use Rattle.session_tables.proofs.Entries.{history_shown}
use Rattle.session_tables.proofs.LightBlocks.{asking_shown}
use Rattle.session_tables.proofs.OwnCode.{Measures, program_measures, program_has, CodeHas, history_kept}

-- ---- names

pub named_name : (name : Block) → named (block_name name) ≡ name
named_name root = refl
named_name (of n) = refl

same_code_name : (a b : Block) → block_name a ≡ block_name b → a ≡ b
same_code_name a b e = sym (named_name a) ∙ ap named e ∙ named_name b

some_block : (a b : Block) → ◌≡◌ {A = Option Block} (Some a) (Some b) → a ≡ b
some_block a b e = cc

of_number : (a b : ℕ) → of a ≡ of b → a ≡ b
of_number a b e = cc

-- the block is none of these
abbrev IsNone : List Block → Block → Type 0
IsNone [] block = Unit {0}
IsNone (name ∷ rest) block = (name ≡ block → ⊥) × IsNone rest block

same_self : (a b : Block) → a ≡ b → same_name a b ≡ true
same_self a b e = subst (λ x. same_name a x ≡ true) e (itself a)
  where
    itself : (one : Block) → same_name one one ≡ true
    itself root = refl
    itself (of n) = eq-eqb n n refl

changed_law : (names_of : List Block) (new old : Block → Next) (block : Block) → (IsNone names_of block → new block ≡ old block) → new block ≡ changed_at names_of new old block
changed_law [] new old block f = f tt
changed_law (name ∷ rest) new old block f = elim (either_way (same_name name block)) [
  | inl e ↦ sym (if_true Next (same_name name block) (new block) (changed_at rest new old block) e)
  | inr e ↦
      changed_law rest new old block (λ none. f ((λ is. unlike e is), none))
      ∙ sym (if_false Next (same_name name block) (new block) (changed_at rest new old block) e)
]
  where
    unlike : same_name name block ≡ false → name ≡ block → ⊥
    unlike e is =
        let t : same_name name block ≡ true = same_self name block is in
        absurd (cc)

-- ---- what a block can do next stays where nothing changes of what its next instruction reads

first_of : (Q : Instr → Type 0) (code : List Instr) (instr : Instr) (rest : List Instr) → code ≡ instr ∷ rest → AllByRecursion Q code → Q instr
first_of Q code instr rest e h =
    let k : AllByRecursion Q (instr ∷ rest) = subst (λ xs. AllByRecursion Q xs) e h in
    k.0

record StaysFor (all : List CodeBlock) (F : ℕ → Option Block) (t u : Tables) (block : Block) : Type 0 where
  own : u.blocks block ≡ t.blocks block
  asks_stay : (n : ℕ) → F n ≡ Some (named (block_name block)) → is_asked (u.in_flight n) ≡ is_asked (t.in_flight n)
  replies_stay : (n : ℕ) → waiting_for n all ≡ block_name block → u.replies n ≡ t.replies n
  results_stay : (n : ℕ) → waiting_for n all ≡ block_name block → result_of (u.blocks (of n)) ≡ result_of (t.blocks (of n))

module _ (all : List CodeBlock) (F : ℕ → Option Block) (t u : Tables) (block : Block) (s : StaysFor all F t u block) where
  instr_stays : (instr : Instr) → Measures F (block_name block) instr → WaitsAs all (block_name block) instr → next_by u instr ≡ next_by t instr
  instr_stays (Copy i) m w = refl
  instr_stays (Usm i asp) m w = ap (λ b. next_unless b i) (s.asks_stay i m)
  instr_stays (Kim i target asp) m w = ap (λ b. next_unless b i) (s.asks_stay i m)
  instr_stays (Sign i) m w = refl
  instr_stays (Hash i) m w = refl
  instr_stays (Null i) m w = refl
  instr_stays (Split i split) m w = refl
  instr_stays Swap m w = refl
  instr_stays (JoinSeq i) m w = refl
  instr_stays (Send i place) m w = refl
  instr_stays (Recv j i) m w = ap (λ x. next_with x j) (s.replies_stay i w)
  instr_stays (Fork i split) m w = refl
  instr_stays (JoinPar j i) m w = ap (λ x. next_with x j) (s.results_stay i w)
  instr_stays End m w = refl

  next_stays : CodeHas (Measures F) block (t.blocks block) → CodeHas (WaitsAs all) block (t.blocks block) → next_of u block ≡ next_of t block
  next_stays m w = ap (λ state. next_at u state) s.own ∙ at_state (t.blocks block) m w
    where
      in_code : (code : List Instr) (flag : Bool) (l : Local) → l.rest ≡ code → CodeHas (Measures F) block (running flag l) → CodeHas (WaitsAs all) block (running flag l) → next_in u code ≡ next_in t code
      in_code [] flag l e m w = refl
      in_code (instr ∷ rest) flag l e m w = instr_stays instr (first_of (Measures F (block_name block)) l.rest instr rest e m) (first_of (WaitsAs all (block_name block)) l.rest instr rest e w)

      at_state : (state : BlockState) → CodeHas (Measures F) block state → CodeHas (WaitsAs all) block state → next_at u state ≡ next_at t state
      at_state not_started m w = refl
      at_state (running flag l) m w = in_code l.rest flag l refl m w
      at_state (over result) m w = refl

-- ---- what a change reads of the code

abbrev names_by : List CodeBlock → Block → Step → List Instr → List Block
names_by all name run_step code = touched_in all name code
names_by all name ask_step code = []

abbrev IsLinked : List CodeBlock → (ℕ → Option Block) → Block → List Block → Change → Type 0
IsLinked all F name names_of nothing = Unit {0}
IsLinked all F name names_of (posts place n before) = Unit {0}
IsLinked all F name names_of (forks n before) = names_of ≡ of n ∷ []
IsLinked all F name names_of (takes n) = waiting_for n all ≡ block_name name
IsLinked all F name names_of (joins n) = Unit {0}
IsLinked all F name names_of (lifts n) = F n ≡ Some (named (block_name name))
IsLinked all F name names_of (ends result) = names_of ≡ waiting_block all name

-- a fact of the step and its change, by each instruction
module _ (R : Step → Change → Type 0) where
  acts_of : (step : Step) (effect : Effect) (change : Change) (l : Local) (a : Effect × Change × Local) → acts step effect change l ≡ Some a → R run_step change → R step a.1
  acts_of run_step effect change l a e h = subst (λ x. R run_step x.1) (some_acted (effect, change, l) a e) h
  acts_of ask_step effect change l a e h = absurd (cc)

  unless_of : (b : Bool) (step : Step) (i : ℕ) (l : Local) (a : Effect × Change × Local) → acts_unless b step (asks i) (lifts i) l ≡ Some a → R ask_step (lifts i) → R step a.1
  unless_of true step i l a e h = absurd (cc)
  unless_of false run_step i l a e h = absurd (cc)
  unless_of false ask_step i l a e h = subst (λ x. R ask_step x.1) (some_acted (asks i, lifts i, l) a e) h

  with_of : (x : Option Evidence) (f : Evidence → Acted) (step : Step) (a : Effect × Change × Local) → ((v : Evidence) → f v ≡ Some a → R step a.1) → acts_with x f ≡ Some a → R step a.1
  with_of None f step a h e = absurd (cc)
  with_of (Some v) f step a h e = h v e

  -- what an instruction changes
  abbrev AtInstr : Instr → Local → Setting → Type 0
  AtInstr (Usm i asp) l setting = R ask_step (lifts i)
  AtInstr (Kim i target asp) l setting = R ask_step (lifts i)
  AtInstr (Send i place) l setting = R run_step (posts place i l.evidence)
  AtInstr (Recv j i) l setting = R run_step (takes i)
  AtInstr (Fork i split) l setting = (before : Evidence) → R run_step (forks i before)
  AtInstr (JoinPar j i) l setting = R run_step (joins i)
  AtInstr End l setting = R run_step (ends l.evidence)
  AtInstr _ l setting = R run_step nothing

  instr_of : (setting : Setting) (t : Tables) (step : Step) (l : Local) (instr : Instr) (a : Effect × Change × Local) → act_on t step l (row setting instr l).0 (row setting instr l).1 ≡ Some a → AtInstr instr l setting → R step a.1
  instr_of setting t step l (Copy i) a e h = acts_of step _ _ _ a e h
  instr_of setting t step l (Usm i asp) a e h = unless_of (is_asked (t.in_flight i)) step i l a e h
  instr_of setting t step l (Kim i target asp) a e h = unless_of (is_asked (t.in_flight i)) step i l a e h
  instr_of setting t step l (Sign i) a e h = acts_of step _ _ _ a e h
  instr_of setting t step l (Hash i) a e h = acts_of step _ _ _ a e h
  instr_of setting t step l (Null i) a e h = acts_of step _ _ _ a e h
  instr_of setting t step l (Split i split) a e h = acts_of step _ _ _ a e h
  instr_of setting t step l Swap a e h = acts_of step _ _ _ a e h
  instr_of setting t step l (JoinSeq i) a e h = acts_of step _ _ _ a e h
  instr_of setting t step l (Send i place) a e h = acts_of step (sends place i) (posts place i l.evidence) _ a e h
  instr_of setting t step l (Recv j i) a e h = with_of (t.replies i) (λ v. acts step (happens j) (takes i) (replied_machine v l)) step a (λ v k. acts_of step (happens j) (takes i) (replied_machine v l) a k h) e
  instr_of setting t step l (Fork i split) a e h = acts_of step (happens i) (forks i _) _ a e (h _)
  instr_of setting t step l (JoinPar j i) a e h = with_of (result_of (t.blocks (of i))) (λ v. acts step (happens j) (joins i) (joined v l)) step a (λ v k. acts_of step (happens j) (joins i) (joined v l) a k h) e
  instr_of setting t step l End a e h = acts_of step _ _ _ a e h

module _ (all : List CodeBlock) (F : ℕ → Option Block) (name : Block) where
  instr_linked : (setting : Setting) (t : Tables) (step : Step) (l : Local) (instr : Instr) (rest : List Instr) (a : Effect × Change × Local) → act_on t step l (row setting instr l).0 (row setting instr l).1 ≡ Some a → Measures F (block_name name) instr → WaitsAs all (block_name name) instr → IsLinked all F name (names_by all name step (instr ∷ rest)) a.1
  instr_linked setting t step l instr rest a e m w = instr_of (λ s change. IsLinked all F name (names_by all name s (instr ∷ rest)) change) setting t step l instr a e (by_instr instr m w)
    where
      by_instr : (one : Instr) → Measures F (block_name name) one → WaitsAs all (block_name name) one → AtInstr (λ s change. IsLinked all F name (names_by all name s (one ∷ rest)) change) one l setting
      by_instr (Copy i) m w = tt
      by_instr (Usm i asp) m w = m
      by_instr (Kim i target asp) m w = m
      by_instr (Sign i) m w = tt
      by_instr (Hash i) m w = tt
      by_instr (Null i) m w = tt
      by_instr (Split i split) m w = tt
      by_instr Swap m w = tt
      by_instr (JoinSeq i) m w = tt
      by_instr (Send i place) m w = tt
      by_instr (Recv j i) m w = w
      by_instr (Fork i split) m w = λ before. refl
      by_instr (JoinPar j i) m w = tt
      by_instr End m w = refl

  code_linked : (setting : Setting) (t : Tables) (step : Step) (l : Local) (code : List Instr) (a : Effect × Change × Local) → act_with setting t step l code ≡ Some a → AllByRecursion (Measures F (block_name name)) code → AllByRecursion (WaitsAs all (block_name name)) code → IsLinked all F name (names_by all name step code) a.1
  code_linked setting t step l [] a e m w = absurd (cc)
  code_linked setting t step l (instr ∷ rest) a e m w = instr_linked setting t step l instr rest a e m.0 w.0

-- ---- a step of a block leaves the others as they were

running_reads : (t : Tables) (name : Block) (flag : Bool) (l after : Local) → t.blocks name ≡ running flag l → (other : Block) → result_of (put_block name (running flag after) t.blocks other) ≡ result_of (t.blocks other)
running_reads t name flag l after runs =
    put_block_law (λ other state. result_of state ≡ result_of (t.blocks other)) name (running flag after) t.blocks (sym (ap result_of runs)) (λ other ne. refl)

module _ (all : List CodeBlock) (F : ℕ → Option Block) (t : Tables) (block : Block) where
  machine_stays : (name : Block) (flag : Bool) (l after : Local) (effect : Effect) → t.blocks name ≡ running flag l → (name ≡ block → ⊥) → StaysFor all F t (after_machine name flag effect after t) block
  machine_stays name flag l after effect runs ne = record {
    own = put_other name (running flag after) t.blocks block ne;
    asks_stay = λ n m. refl;
    replies_stay = λ n w. refl;
    results_stay = λ n w. running_reads t name flag l after runs (of n);
  }

  -- the waiting block of a number isn't this one
  abbrev NotWaiting : ℕ → Type 0
  NotWaiting n = waiting_for n all ≡ block_name block → ⊥

  over_reads : (u : Tables) (m : ℕ) (result : Evidence) → NotWaiting m → ((n : ℕ) → waiting_for n all ≡ block_name block → result_of (u.blocks (of n)) ≡ result_of (t.blocks (of n))) → (n : ℕ) → waiting_for n all ≡ block_name block → result_of (put_block (of m) (over result) u.blocks (of n)) ≡ result_of (t.blocks (of n))
  over_reads u m result unread before n w =
      put_block_law (λ other state. other ≡ of n → result_of state ≡ result_of (t.blocks (of n))) (of m) (over result) u.blocks
      (λ is. absurd (unread (subst (λ k. waiting_for k all ≡ block_name block) (sym (of_number m n is)) w)))
      (λ other ne is. ap (λ x. result_of (u.blocks x)) is ∙ before n w)
      (of n) refl

  end_stays : (name : Block) (flag : Bool) (result : Evidence) (u : Tables) → StaysFor all F t u block → (name ≡ block → ⊥) → IsNone (waiting_block all name) block → (after_end name flag result u).state ≡ is_open → StaysFor all F t (after_end name flag result u) block
  end_stays root flag result u s ne none still = absurd (cc)
  end_stays (of m) true result u s ne none still = record {
    own = put_other (of m) (over result) u.blocks block ne ∙ s.own;
    asks_stay = s.asks_stay;
    replies_stay = λ n w. put_at_law (Option Evidence) (λ k x. waiting_for k all ≡ block_name block → x ≡ t.replies k) m (Some result) u.replies (λ v. absurd (none.0 (ap named v ∙ named_name block))) (λ k apart v. s.replies_stay k v) n w;
    results_stay = over_reads u m result (λ v. none.0 (ap named v ∙ named_name block)) s.results_stay;
  }
  end_stays (of m) false result u s ne none still = record {
    own = put_other (of m) (over result) u.blocks block ne ∙ s.own;
    asks_stay = s.asks_stay;
    replies_stay = s.replies_stay;
    results_stay = over_reads u m result (λ v. none.0 (ap named v ∙ named_name block)) s.results_stay;
  }

  change_stays : (pass : ℕ) (name : Block) (flag : Bool) (change : Change) (names_of : List Block) (u : Tables) → StaysFor all F t u block → (name ≡ block → ⊥) → IsNone names_of block → IsLinked all F name names_of change → ((n : ℕ) (before : Evidence) → change ≡ forks n before → t.blocks (of n) ≡ not_started) → (after_change all pass name flag change u).state ≡ is_open → ((n : ℕ) → is_asked (u.in_flight n) ≡ is_asked (t.in_flight n)) → ((n : ℕ) → u.replies n ≡ t.replies n) → ((other : Block) → result_of (u.blocks other) ≡ result_of (t.blocks other)) → StaysFor all F t (after_change all pass name flag change u) block
  change_stays pass name flag nothing names_of u s ne none link fresh still flies replies reads = s
  change_stays pass name flag (posts place n before) names_of u s ne none link fresh still flies replies reads = record {
    own = s.own;
    asks_stay = s.asks_stay;
    replies_stay = s.replies_stay;
    results_stay = s.results_stay;
  }
  change_stays pass name flag (forks n before) names_of u s ne none link fresh still flies replies reads =
      let apart : IsNone (of n ∷ []) block = subst (λ xs. IsNone xs block) link none in
      record {
        own = put_other (of n) (running false (started all (of n) before)) u.blocks block apart.0 ∙ s.own;
        asks_stay = s.asks_stay;
        replies_stay = s.replies_stay;
        results_stay = λ k w. put_block_law (λ other state. result_of state ≡ result_of (t.blocks other)) (of n) (running false (started all (of n) before)) u.blocks (sym (ap result_of (fresh n before refl))) (λ other apart. reads other) (of k);
      }
  change_stays pass name flag (takes n) names_of u s ne none link fresh still flies replies reads = record {
    own = s.own;
    asks_stay = s.asks_stay;
    replies_stay = λ k w. put_at_law (Option Evidence) (λ j x. waiting_for j all ≡ block_name block → x ≡ t.replies j) n None u.replies (λ v. absurd (ne (same_code_name name block (sym link ∙ v)))) (λ j apart v. replies j) k w;
    results_stay = s.results_stay;
  }
  change_stays pass name flag (joins n) names_of u s ne none link fresh still flies replies reads = s
  change_stays pass name flag (lifts n) names_of u s ne none link fresh still flies replies reads = record {
    own = s.own;
    asks_stay = λ k m. put_at_law (Option (ℕ × Block)) (λ j x. F j ≡ Some (named (block_name block)) → is_asked x ≡ is_asked (t.in_flight j)) n (Some (pass, name)) u.in_flight (λ v. absurd (ne (owner_is name (sym link ∙ v)))) (λ j apart v. flies j) k m;
    replies_stay = s.replies_stay;
    results_stay = s.results_stay;
  }
    where
      owner_is : (other : Block) → ◌≡◌ {A = Option Block} (Some (named (block_name other))) (Some (named (block_name block))) → other ≡ block
      owner_is other e = sym (named_name other) ∙ some_block (named (block_name other)) (named (block_name block)) e ∙ named_name block
  change_stays pass name flag (ends result) names_of u s ne none link fresh still flies replies reads =
      end_stays name flag result u s ne (subst (λ xs. IsNone xs block) link none) still

module _ (session : Session) (keys : List (List ℕ × List ℕ)) (history : List Entry) (t u : Tables) (after : tables_after (program_of session.phrase session.root) (makings session keys) (nonce session.nonce) history ≡ Some t) (open_before : t.state ≡ is_open) (open_after : u.state ≡ is_open) (block : Block) where
  abbrev all : List CodeBlock
  all = program_of session.phrase session.root

  abbrev from : Makings
  from = makings session keys

  abbrev F : ℕ → Option Block
  F n = owner session.phrase root 0 n

  pub measures : (name : Block) → CodeHas (Measures F) name (t.blocks name)
  measures = history_kept all from (Measures F) (program_has (Measures F) session.phrase session.root (program_measures F session.phrase session.root (owner_owns session.phrase root 0 F (λ n least below. refl)))) (nonce session.nonce) history t after

  waits : (name : Block) → CodeHas (WaitsAs all) name (t.blocks name)
  waits = history_kept all from (WaitsAs all) (program_has (WaitsAs all) session.phrase session.root (waiting_blocks_are_known session.phrase session.root)) (nonce session.nonce) history t after

  stays_next : StaysFor all F t u block → next_of u block ≡ next_of t block
  stays_next s = next_stays all F t u block s (measures block) (waits block)

  -- a step
  step_touches : (pass : ℕ) (step : Step) (name : Block) (state : BlockState) → t.blocks name ≡ state → step_in all from pass step name t state ≡ Some u → (name ≡ block → ⊥) → ((flag : Bool) (l : Local) → state ≡ running flag l → IsNone (names_by all name step l.rest) block) → StaysFor all F t u block
  step_touches pass step name not_started is e ne none = absurd (cc)
  step_touches pass step name (over result) is e ne none = absurd (cc)
  step_touches pass step name (running flag l) is e ne none = by_act (act (record { place = place_called all (block_name name); from = from }) t step l) refl e
    where
      forked : (step : Step) (a : Effect × Change × Local) → act (record { place = place_called all (block_name name); from = from }) t step l ≡ Some a → IsLinked all F name (names_by all name step l.rest) a.1 → (n : ℕ) (before : Evidence) → a.1 ≡ forks n before → t.blocks (of n) ≡ not_started
      forked run_step a same link n before e =
          let agree : a.0 ≡ happens n = subst (λ c. Agrees a.0 c) e (code_agrees (record { place = place_called all (block_name name); from = from }) t run_step l l.rest a same) in
          fork_fresh session keys history t name flag l n before a.2 after open_before is
          (same ∙ ap (λ (x : Effect). some_act (x, a.1, a.2)) agree ∙ ap (λ (c : Change). some_act (happens n, c, a.2)) e)
        where
          some_act : Effect × Change × Local → Acted
          some_act x = Some x
      forked ask_step a same link n before e =
          let none_is : [] ≡ of n ∷ [] = subst (λ c. IsLinked all F name [] c) e link in
          absurd (cc)

      by_act : (x : Acted) → act (record { place = place_called all (block_name name); from = from }) t step l ≡ x → after_step all pass name flag t x ≡ Some u → StaysFor all F t u block
      by_act None same h = absurd (cc)
      by_act (Some a) same h =
          let there : after_change all pass name flag a.1 (after_machine name flag a.0 a.2 t) ≡ u = some_tables (after_change all pass name flag a.1 (after_machine name flag a.0 a.2 t)) u h in
          let link : IsLinked all F name (names_by all name step l.rest) a.1 = code_linked all F name (record { place = place_called all (block_name name); from = from }) t step l l.rest a same (subst (λ s. CodeHas (Measures F) name s) is (measures name)) (subst (λ s. CodeHas (WaitsAs all) name s) is (waits name)) in
          subst (λ x. StaysFor all F t x block) there
          (change_stays all F t block pass name flag a.1 (names_by all name step l.rest) (after_machine name flag a.0 a.2 t) (machine_stays all F t block name flag l a.2 a.0 is ne) ne (none flag l refl) link (forked step a same link) (ap (λ x. x.state) there ∙ open_after) (λ n. refl) (λ n. refl) (running_reads t name flag l a.2 is))

  -- a delivery
  delivery_touches : (place : List ℕ) (waiting : List (ℕ × Evidence)) → t.requests place ≡ waiting → deliver_first all place t waiting ≡ Some u → IsNone (first_block waiting) block → StaysFor all F t u block
  delivery_touches place [] is e none = absurd (cc)
  delivery_touches place (request ∷ rest) is e none = subst (λ x. StaysFor all F t x block) (some_tables _ u e) (record {
    own = put_other (of request.0) (running true (started all (of request.0) request.1)) t.blocks block none.0;
    asks_stay = λ n m. refl;
    replies_stay = λ n w. refl;
    results_stay = λ n w. put_block_law (λ other state. result_of state ≡ result_of (t.blocks other)) (of request.0) (running true (started all (of request.0) request.1)) t.blocks (sym (ap result_of (delivery_fresh session keys history t place request rest after is))) (λ other ne. refl) (of n);
  })

  -- an answer
  measured_owner : (n : ℕ) (name : Block) (instr : Instr) → MeasuresEvent n instr → Measures F (block_name name) instr → F n ≡ Some (named (block_name name))
  measured_owner n name (Usm i asp) h m = subst (λ k. F k ≡ Some (named (block_name name))) h m
  measured_owner n name (Kim i target asp) h m = subst (λ k. F k ≡ Some (named (block_name name))) h m
  measured_owner n name (Copy i) h m = absurd h
  measured_owner n name (Sign i) h m = absurd h
  measured_owner n name (Hash i) h m = absurd h
  measured_owner n name (Null i) h m = absurd h
  measured_owner n name (Split i split) h m = absurd h
  measured_owner n name Swap h m = absurd h
  measured_owner n name (JoinSeq i) h m = absurd h
  measured_owner n name (Send i place) h m = absurd h
  measured_owner n name (Recv j i) h m = absurd h
  measured_owner n name (Fork i split) h m = absurd h
  measured_owner n name (JoinPar j i) h m = absurd h
  measured_owner n name End h m = absurd h

  pub asker_owner : (n : ℕ) (name : Block) (state : BlockState) → IsAsking n state → CodeHas (Measures F) name state → F n ≡ Some (named (block_name name))
  asker_owner n name not_started h m = absurd h
  asker_owner n name (running flag l) h m = by_code l.rest h m
    where
      by_code : (code : List Instr) → FirstMeasures n code → AllByRecursion (Measures F (block_name name)) code → F n ≡ Some (named (block_name name))
      by_code [] h m = absurd h
      by_code (instr ∷ rest) h m = measured_owner n name instr h m.0
  asker_owner n name (over result) h m = absurd h

  asking : (n pass : ℕ) (name : Block) → t.in_flight n ≡ Some (pass, name) → IsAsking n (t.blocks name)
  asking n pass name is = by_standing (standing_after session keys history) refl (subst (λ x. AreShown x (standing_after session keys history)) after (history_shown session keys history))
    where
      by_standing : (y : Option Standing) → standing_after session keys history ≡ y → AreShown (Some t) y → IsAsking n (t.blocks name)
      by_standing None e shown = absurd shown
      by_standing (Some s) e shown = asking_shown session keys history s t n pass name e (sym shown.state ∙ open_before) shown is

  answer_touches : (n : ℕ) (bytes : List ℕ) (name : Block) (state : BlockState) → t.blocks name ≡ state → F n ≡ Some (named (block_name name)) → answer_in n bytes name t state ≡ Some u → (name ≡ block → ⊥) → StaysFor all F t u block
  answer_touches n bytes name not_started is owned e ne = absurd (cc)
  answer_touches n bytes name (over result) is owned e ne = absurd (cc)
  answer_touches n bytes name (running flag l) is owned e ne = by_code l.rest e
    where
      owner_is : ◌≡◌ {A = Option Block} (Some (named (block_name name))) (Some (named (block_name block))) → name ≡ block
      owner_is e = sym (named_name name) ∙ some_block (named (block_name name)) (named (block_name block)) e ∙ named_name block

      by_code : (code : List Instr) → answer_at n bytes name flag l t code ≡ Some u → StaysFor all F t u block
      by_code [] h = absurd (cc)
      by_code (instr ∷ rest) h = subst (λ x. StaysFor all F t x block) (some_tables _ u h) (record {
        own = put_other name (running flag (answered instr bytes l)) t.blocks block ne;
        asks_stay = λ k m. put_at_law (Option (ℕ × Block)) (λ j x. F j ≡ Some (named (block_name block)) → is_asked x ≡ is_asked (t.in_flight j)) n None t.in_flight (λ v. absurd (ne (owner_is (sym owned ∙ v)))) (λ j apart v. refl) k m;
        replies_stay = λ k w. refl;
        results_stay = λ k w. running_reads t name flag l (answered instr bytes l) is (of k);
      })

  asked_touches : (pass n : ℕ) (bytes : List ℕ) (asked : Option (ℕ × Block)) → t.in_flight n ≡ asked → by_asker pass asked (λ name. answer_in n bytes name t (t.blocks name)) ≡ Some u → IsNone (asking_block asked) block → StaysFor all F t u block
  asked_touches pass n bytes None is e none = absurd (cc)
  asked_touches pass n bytes (Some a) is e none = by_test (nat_eq a.0 pass) e
    where
      by_test : (b : Bool) → (if b then answer_in n bytes a.1 t (t.blocks a.1) else None) ≡ Some u → StaysFor all F t u block
      by_test true k = answer_touches n bytes a.1 (t.blocks a.1) refl (asker_owner n a.1 (t.blocks a.1) (asking n a.0 a.1 is) (measures a.1)) k none.0
      by_test false k = absurd (cc)

  stop_touches : (n : ℕ) (state : State) (pass : ℕ) (asked : Option (ℕ × Block)) → (state ≡ is_open → ⊥) → by_asker pass asked (λ name. stop_tables n state t) ≡ Some u → StaysFor all F t u block
  stop_touches n state pass None closed e = absurd (cc)
  stop_touches n state pass (Some a) closed e = by_test (nat_eq a.0 pass) e
    where
      by_test : (b : Bool) → (if b then stop_tables n state t else None) ≡ Some u → StaysFor all F t u block
      by_test true k = absurd (closed (ap (λ x. x.state) (some_tables _ u k) ∙ open_after))
      by_test false k = absurd (cc)

  state_code : (name : Block) (state : BlockState) (flag : Bool) (l : Local) → state ≡ running flag l → IsNone (touched_at all name state) block → IsNone (touched_in all name l.rest) block
  state_code name state flag l e none = subst (λ s. IsNone (touched_at all name s) block) e none

  enter_touches : (entry : Entry) → enter_tables all from t entry ≡ Some u → IsNone (touched all t entry) block → StaysFor all F t u block
  enter_touches opened e none = absurd (cc)
  enter_touches (played pass (run name)) e none = step_touches pass run_step name (t.blocks name) refl e none.0 (λ flag l is. state_code name (t.blocks name) flag l is none.1)
  enter_touches (played pass (ask name)) e none = step_touches pass ask_step name (t.blocks name) refl e none.0 (λ flag l is. tt)
  enter_touches (played pass (deliver place)) e none = delivery_touches place (t.requests place) refl e none
  enter_touches (was_answered pass n bytes) e none = asked_touches pass n bytes (t.in_flight n) refl e none
  enter_touches (failed pass n fault) e none = stop_touches n (has_failed n fault) pass (t.in_flight n) (λ c. absurd (cc)) e
  enter_touches (starved pass n) e none = stop_touches n (has_starved n) pass (t.in_flight n) (λ c. absurd (cc)) e

-- after an entry the blocks that it doesn't touch can do next what they could before
pub entry_touches : (session : Session) (keys : List (List ℕ × List ℕ)) (history : List Entry) (t u : Tables) (entry : Entry) (block : Block) → tables_after (program_of session.phrase session.root) (makings session keys) (nonce session.nonce) history ≡ Some t → step_tables (program_of session.phrase session.root) (makings session keys) t entry ≡ Some u → u.state ≡ is_open → next_of u block ≡ changed_at (touched (program_of session.phrase session.root) t entry) (next_of u) (next_of t) block
entry_touches session keys history t u entry block after stepped still =
    let k = while_is t.state (enter_tables (program_of session.phrase session.root) (makings session keys) t entry) u stepped in
    changed_law (touched (program_of session.phrase session.root) t entry) (next_of u) (next_of t) block (λ none. stays_next session keys history t u after k.0 still block (enter_touches session keys history t u after k.0 still block entry k.1 none))

-- ---- the places at which requests wait

abbrev IsSent : List ℕ → Bool → Change → Type 0
IsSent place sent (posts at n before) = sent ≡ pointwise nat_eq at place
IsSent place sent _ = sent ≡ false

abbrev sent_by : List ℕ → Step → List Instr → Bool
sent_by place run_step code = sends_in place code
sent_by place ask_step code = false

module _ (place : List ℕ) where
  code_sent : (setting : Setting) (t : Tables) (step : Step) (l : Local) (code : List Instr) (a : Effect × Change × Local) → act_with setting t step l code ≡ Some a → IsSent place (sent_by place step code) a.1
  code_sent setting t step l [] a e = absurd (cc)
  code_sent setting t step l (instr ∷ rest) a e = instr_of (λ s change. IsSent place (sent_by place s (instr ∷ rest)) change) setting t step l instr a e (by_instr instr)
    where
      by_instr : (one : Instr) → AtInstr (λ s change. IsSent place (sent_by place s (one ∷ rest)) change) one l setting
      by_instr (Copy i) = refl
      by_instr (Usm i asp) = refl
      by_instr (Kim i target asp) = refl
      by_instr (Sign i) = refl
      by_instr (Hash i) = refl
      by_instr (Null i) = refl
      by_instr (Split i split) = refl
      by_instr Swap = refl
      by_instr (JoinSeq i) = refl
      by_instr (Send i at) = refl
      by_instr (Recv j i) = refl
      by_instr (Fork i split) = λ before. refl
      by_instr (JoinPar j i) = refl
      by_instr End = refl

  more_waits_there : (xs : List (ℕ × Evidence)) (one : ℕ × Evidence) → any_waits (xs ++ one ∷ []) ≡ true
  more_waits_there [] one = refl
  more_waits_there (x ∷ xs) one = refl

  unsent : (sent : Bool) (xs ys : List (ℕ × Evidence)) → sent ≡ false → xs ≡ ys → any_waits xs ≡ (sent || any_waits ys)
  unsent true xs ys e same = absurd (cc)
  unsent false xs ys e same = ap any_waits same

  change_sends : (all : List CodeBlock) (pass : ℕ) (name : Block) (flag : Bool) (change : Change) (u : Tables) (sent : Bool) → IsSent place sent change → any_waits ((after_change all pass name flag change u).requests place) ≡ (sent || any_waits (u.requests place))
  change_sends all pass name flag nothing u sent e = unsent sent _ _ e refl
  change_sends all pass name flag (posts at n before) u sent e = by_test (pointwise nat_eq at place) sent e
    where
      by_test : (b sent : Bool) → sent ≡ b → any_waits (if b then u.requests at ++ (n, before) ∷ [] else u.requests place) ≡ (sent || any_waits (u.requests place))
      by_test true true e = more_waits_there (u.requests at) (n, before)
      by_test false false e = refl
      by_test true false e = absurd (cc)
      by_test false true e = absurd (cc)
  change_sends all pass name flag (forks n before) u sent e = unsent sent _ _ e refl
  change_sends all pass name flag (takes n) u sent e = unsent sent _ _ e refl
  change_sends all pass name flag (joins n) u sent e = unsent sent _ _ e refl
  change_sends all pass name flag (lifts n) u sent e = unsent sent _ _ e refl
  change_sends all pass root flag (ends result) u sent e = unsent sent _ _ e refl
  change_sends all pass (of m) true (ends result) u sent e = unsent sent _ _ e refl
  change_sends all pass (of m) false (ends result) u sent e = unsent sent _ _ e refl

  module _ (all : List CodeBlock) (from : Makings) (t u : Tables) where
    step_sends : (pass : ℕ) (step : Step) (name : Block) (state : BlockState) → step_in all from pass step name t state ≡ Some u → (sent : Bool) → ((flag : Bool) (l : Local) → state ≡ running flag l → sent_by place step l.rest ≡ sent) → any_waits (u.requests place) ≡ (sent || any_waits (t.requests place))
    step_sends pass step name not_started e sent f = absurd (cc)
    step_sends pass step name (over result) e sent f = absurd (cc)
    step_sends pass step name (running flag l) e sent f = by_act (act (record { place = place_called all (block_name name); from = from }) t step l) refl e
      where
        by_act : (x : Acted) → act (record { place = place_called all (block_name name); from = from }) t step l ≡ x → after_step all pass name flag t x ≡ Some u → any_waits (u.requests place) ≡ (sent || any_waits (t.requests place))
        by_act None same h = absurd (cc)
        by_act (Some a) same h =
            let there : after_change all pass name flag a.1 (after_machine name flag a.0 a.2 t) ≡ u = some_tables (after_change all pass name flag a.1 (after_machine name flag a.0 a.2 t)) u h in
            ap (λ x. any_waits (x.requests place)) (sym there)
            ∙ change_sends all pass name flag a.1 (after_machine name flag a.0 a.2 t) sent (subst (λ b. IsSent place b a.1) (f flag l refl) (code_sent (record { place = place_called all (block_name name); from = from }) t step l l.rest a same))

    delivery_sends : (at : List ℕ) (waiting : List (ℕ × Evidence)) → t.requests at ≡ waiting → deliver_first all at t waiting ≡ Some u → any_waits (u.requests place) ≡ any_waits (if pointwise nat_eq at place then drop 1 (t.requests at) else t.requests place)
    delivery_sends at [] is e = absurd (cc)
    delivery_sends at (request ∷ rest) is e =
        ap (λ x. any_waits (x.requests place)) (sym (some_tables _ u e))
        ∙ ap (λ xs. any_waits (if pointwise nat_eq at place then xs else t.requests place)) (sym (ap (λ xs. drop 1 xs) is))

    answer_sends : (n : ℕ) (bytes : List ℕ) (name : Block) (state : BlockState) → answer_in n bytes name t state ≡ Some u → any_waits (u.requests place) ≡ any_waits (t.requests place)
    answer_sends n bytes name not_started e = absurd (cc)
    answer_sends n bytes name (over result) e = absurd (cc)
    answer_sends n bytes name (running flag l) e = by_code l.rest e
      where
        by_code : (code : List Instr) → answer_at n bytes name flag l t code ≡ Some u → any_waits (u.requests place) ≡ any_waits (t.requests place)
        by_code [] h = absurd (cc)
        by_code (instr ∷ rest) h = ap (λ x. any_waits (x.requests place)) (sym (some_tables _ u h))

    asker_sends : (pass : ℕ) (asked : Option (ℕ × Block)) (g : Block → Option Tables) → ((name : Block) → g name ≡ Some u → any_waits (u.requests place) ≡ any_waits (t.requests place)) → by_asker pass asked g ≡ Some u → any_waits (u.requests place) ≡ any_waits (t.requests place)
    asker_sends pass None g h e = absurd (cc)
    asker_sends pass (Some a) g h e = by_test (nat_eq a.0 pass) e
      where
        by_test : (b : Bool) → (if b then g a.1 else None) ≡ Some u → any_waits (u.requests place) ≡ any_waits (t.requests place)
        by_test true k = h a.1 k
        by_test false k = absurd (cc)

    enter_sends : (entry : Entry) → enter_tables all from t entry ≡ Some u → any_waits (u.requests place) ≡ waits_after t entry place
    enter_sends opened e = absurd (cc)
    enter_sends (played pass (run name)) e = step_sends pass run_step name (t.blocks name) e (sends_at place (t.blocks name)) (λ flag l is. sym (ap (λ s. sends_at place s) is))
    enter_sends (played pass (ask name)) e = step_sends pass ask_step name (t.blocks name) e false (λ flag l is. refl)
    enter_sends (played pass (deliver at)) e = delivery_sends at (t.requests at) refl e
    enter_sends (was_answered pass n bytes) e = asker_sends pass (t.in_flight n) (λ name. answer_in n bytes name t (t.blocks name)) (λ name h. answer_sends n bytes name (t.blocks name) h) e
    enter_sends (failed pass n fault) e = asker_sends pass (t.in_flight n) (λ name. stop_tables n (has_failed n fault) t) (λ name h. ap (λ x. any_waits (x.requests place)) (sym (some_tables _ u h))) e
    enter_sends (starved pass n) e = asker_sends pass (t.in_flight n) (λ name. stop_tables n (has_starved n) t) (λ name h. ap (λ x. any_waits (x.requests place)) (sym (some_tables _ u h))) e

-- where requests wait after an entry
pub entry_sends : (session : Session) (keys : List (List ℕ × List ℕ)) (t u : Tables) (entry : Entry) (place : List ℕ) → step_tables (program_of session.phrase session.root) (makings session keys) t entry ≡ Some u → any_waits (u.requests place) ≡ waits_after t entry place
entry_sends session keys t u entry place stepped =
    enter_sends place (program_of session.phrase session.root) (makings session keys) t u entry (while_is t.state (enter_tables (program_of session.phrase session.root) (makings session keys) t entry) u stepped).1
