-- A block starts only once: what starts it finds it not started.
use Rattle.std.proofs.Common.{◌≡◌, ℕ, ◌+◌, ◌≤◌, inl, inr, List, [], ◌∷◌, ◌++◌, refl, sym, ◌∙◌, ap, subst, arith}
use Rattle.std.specs.Prelude.{Bool, true, false, Option, None, Some, nat_eq, if◌then◌else◌}
use Rattle.std.specs.Cmp.Lexicographic.{pointwise}
use Rattle.evidence_types.specs.Evidence.{Evidence, nonce}
use Rattle.session_model.specs.Session.{Session}
use Rattle.session_model.specs.Value.{Makings}
use Rattle.avm_code.specs.declared.instr.Instr.{Instr}
use Rattle.avm_code.specs.declared.instr.Instr.TheVariants.{Copy, Usm, Kim, Sign, Hash, Null, Split, Swap, JoinSeq, Send, Recv, Fork, JoinPar, End}
use Rattle.avm_code.specs.declared.program.Block.{Block as CodeBlock}
use Rattle.avm_compile.specs.Program.{program_of}
use Rattle.machine_tables.specs.Row.{Setting, Local, row, replied as replied_machine, joined, answered}
use Rattle.machine_tables.specs.Tables.{BlockState, not_started, running, over, Tables, put_block, put_place, block_name, started, Change, nothing, posts, forks, takes, joins, lifts, ends, Acted, result_of, is_asked, acts, acts_unless, acts_with, act_on, act_with, act, trace_after, after_end, after_change, after_machine, after_step, step_in, step_of, deliver_first, by_asker, answer_at, answer_in, stop_tables, enter_tables, tables_while, step_tables, opening_tables, tables_further, tables_after}
use Rattle.avm_code.specs.Order.{place_called}
use Rattle.session_runs.specs.Moves.{Step, run as run_step, ask as ask_step, Effect, silent, happens, sends, asks, answers, starts}
use Rattle.session_runs.specs.Standing.{Block, root, of, run, ask, deliver, Entry, opened, played, answered as was_answered, failed, starved, State, is_open, is_done, has_failed, has_starved, Standing, opening, makings, next}
use Rattle.session_runs.specs.History.{standing_after}
use Rattle.session_runs.proofs.HistoryLaws.{after_more}
use Rattle.session_runs.proofs.RestLaws.{same, same_one}
use Rattle.session_runs.proofs.Waiting.{request_count}
use Rattle.session_runs.proofs.TraceLaws.{occurrences, occurrences_more, told_after_history, phrase_once}
use Rattle.session_tables.specs.Shown.{numbers, IsShown, AreShown}
use Rattle.session_tables.proofs.Lists.{if_true, if_false, either_way, times, behind_front, beside_front}
use Rattle.session_tables.proofs.Steps.{put_block_law}
use Rattle.session_tables.proofs.Entries.{requests_once, entry_shown, opening_shown, history_shown}

-- each request that waits has happened, and its block isn't started
abbrev pub AllFresh : Tables → List (ℕ × Evidence) → Type 0
AllFresh t [] = Unit {0}
AllFresh t (request ∷ rest) =
    (t.blocks (of request.0) ≡ not_started) × (1 ≤ occurrences t.trace request.0) × AllFresh t rest

-- a block whose event hasn't happened isn't started
pub record IsFresh (t : Tables) : Type 0 where
  pub unstarted : (n : ℕ) → occurrences t.trace n ≡ 0 → t.blocks (of n) ≡ not_started
  pub waiting : (place : List ℕ) → AllFresh t (t.requests place)

all_keep : (t u : Tables) (xs : List (ℕ × Evidence)) → ((n : ℕ) → t.blocks (of n) ≡ not_started → 1 ≤ occurrences t.trace n → (u.blocks (of n) ≡ not_started) × (1 ≤ occurrences u.trace n)) → AllFresh t xs → AllFresh u xs
all_keep t u [] f h = tt
all_keep t u (request ∷ rest) f h =
    let k = f request.0 h.0 h.1 in
    (k.0, k.1, all_keep t u rest f h.2)

all_but : (t u : Tables) (m : ℕ) (xs : List (ℕ × Evidence)) → times m (numbers xs) ≡ 0 → ((n : ℕ) → (n ≡ m → ⊥) → t.blocks (of n) ≡ not_started → 1 ≤ occurrences t.trace n → (u.blocks (of n) ≡ not_started) × (1 ≤ occurrences u.trace n)) → AllFresh t xs → AllFresh u xs
all_but t u m [] none f h = tt
all_but t u m (request ∷ rest) none f h =
    let k = f request.0 (λ e. omega (arith, none, same_one request.0 m e)) h.0 h.1 in
    (k.0, k.1, all_but t u m rest (omega (arith, none)) f h.2)

pub put_other : (name : Block) (state : BlockState) (blocks : Block → BlockState) (other : Block) → (name ≡ other → ⊥) → put_block name state blocks other ≡ blocks other
put_other name state blocks = put_block_law (λ other x. (name ≡ other → ⊥) → x ≡ blocks other) name state blocks (λ ne. absurd (ne refl)) (λ other ne also. refl)

put_self : (name : Block) (state : BlockState) (blocks : Block → BlockState) → put_block name state blocks name ≡ state
put_self name state blocks = put_block_law (λ other x. name ≡ other → x ≡ state) name state blocks (λ e. refl) (λ other ne e. absurd (ne e)) name refl

runs_not : (state : BlockState) (flag : Bool) (l : Local) → state ≡ running flag l → state ≡ not_started → ⊥
runs_not state flag l e f = apart flag l (sym e ∙ f)
  where
    apart : (flag : Bool) (l : Local) → running flag l ≡ not_started → ⊥
    apart flag l h = cc

more_happens : (xs : List ℕ) (effect : Effect) (n : ℕ) → occurrences xs n ≤ occurrences (trace_after xs effect) n
more_happens xs silent n = omega arith
more_happens xs (happens k) n = omega (arith, occurrences_more xs k n)
more_happens xs (sends place k) n = omega (arith, occurrences_more xs k n)
more_happens xs (asks k) n = omega arith
more_happens xs (answers k bytes) n = omega (arith, occurrences_more xs k n)
more_happens xs (starts k) n = omega arith

-- a block that isn't started isn't one that runs
not_this : (t : Tables) (name : Block) (flag : Bool) (l : Local) → t.blocks name ≡ running flag l → (n : ℕ) → t.blocks (of n) ≡ not_started → name ≡ of n → ⊥
not_this t name flag l runs n fresh is = runs_not (t.blocks (of n)) flag l (subst (λ x. t.blocks x ≡ running flag l) is runs) fresh

-- another state of a block that runs, and a longer trace
changed_fresh : (t u : Tables) → IsFresh t → (name : Block) (flag : Bool) (l : Local) (state : BlockState) → t.blocks name ≡ running flag l → ((other : Block) → u.blocks other ≡ put_block name state t.blocks other) → ((n : ℕ) → occurrences t.trace n ≤ occurrences u.trace n) → ((place : List ℕ) → u.requests place ≡ t.requests place) → IsFresh u
changed_fresh t u f name flag l state runs blocks grows requests = record {
  unstarted = λ n e. keeps n (f.unstarted n (omega (arith, e, grows n)));
  waiting = λ place. subst (λ xs. AllFresh u xs) (sym (requests place)) (all_keep t u (t.requests place) (λ n fresh there. (keeps n fresh, omega (arith, there, grows n))) (f.waiting place));
}
  where
    keeps : (n : ℕ) → t.blocks (of n) ≡ not_started → u.blocks (of n) ≡ not_started
    keeps n fresh = blocks (of n) ∙ put_other name state t.blocks (of n) (not_this t name flag l runs n fresh) ∙ fresh

-- the same blocks, trace and requests
same_fresh : (u w : Tables) → IsFresh u → ((other : Block) → w.blocks other ≡ u.blocks other) → w.trace ≡ u.trace → ((place : List ℕ) → w.requests place ≡ u.requests place) → IsFresh w
same_fresh u w g blocks trace requests = record {
  unstarted = λ n e. blocks (of n) ∙ g.unstarted n (sym (ap (λ xs. occurrences xs n) trace) ∙ e);
  waiting = λ place. subst (λ xs. AllFresh w xs) (sym (requests place)) (all_keep u w (u.requests place) (λ n fresh there. (blocks (of n) ∙ fresh, subst (λ xs. 1 ≤ occurrences xs n) (sym trace) there)) (g.waiting place));
}

machine_fresh : (t : Tables) → IsFresh t → (name : Block) (flag : Bool) (l : Local) → t.blocks name ≡ running flag l → (effect : Effect) (after : Local) → IsFresh (after_machine name flag effect after t)
machine_fresh t f name flag l runs effect after =
    changed_fresh t (after_machine name flag effect after t) f name flag l (running flag after) runs (λ other. refl) (λ n. more_happens t.trace effect n) (λ place. refl)

-- the effects by which requests are posted and arms start
abbrev pub Agrees : Effect → Change → Type 0
Agrees effect (posts place n before) = effect ≡ sends place n
Agrees effect (forks n before) = effect ≡ happens n
Agrees effect _ = Unit {0}

pub some_acted : (a b : Effect × Change × Local) → ◌≡◌ {A = Acted} (Some a) (Some b) → a ≡ b
some_acted a b e = cc

acts_agree : (step : Step) (effect : Effect) (change : Change) (l : Local) (a : Effect × Change × Local) → acts step effect change l ≡ Some a → Agrees effect change → Agrees a.0 a.1
acts_agree run_step effect change l a e h = subst (λ x. Agrees x.0 x.1) (some_acted (effect, change, l) a e) h
acts_agree ask_step effect change l a e h = absurd (cc)

unless_agree : (b : Bool) (step : Step) (i : ℕ) (l : Local) (a : Effect × Change × Local) → acts_unless b step (asks i) (lifts i) l ≡ Some a → Agrees a.0 a.1
unless_agree true step i l a e = absurd (cc)
unless_agree false run_step i l a e = absurd (cc)
unless_agree false ask_step i l a e = subst (λ x. Agrees x.0 x.1) (some_acted (asks i, lifts i, l) a e) tt

with_agree : (x : Option Evidence) (f : Evidence → Acted) (a : Effect × Change × Local) → ((v : Evidence) → f v ≡ Some a → Agrees a.0 a.1) → acts_with x f ≡ Some a → Agrees a.0 a.1
with_agree None f a h e = absurd (cc)
with_agree (Some v) f a h e = h v e

instr_agrees : (setting : Setting) (t : Tables) (step : Step) (l : Local) (instr : Instr) (a : Effect × Change × Local) → act_on t step l (row setting instr l).0 (row setting instr l).1 ≡ Some a → Agrees a.0 a.1
instr_agrees setting t step l (Copy i) a e = acts_agree step _ _ _ a e tt
instr_agrees setting t step l (Usm i asp) a e = unless_agree (is_asked (t.in_flight i)) step i l a e
instr_agrees setting t step l (Kim i target asp) a e = unless_agree (is_asked (t.in_flight i)) step i l a e
instr_agrees setting t step l (Sign i) a e = acts_agree step _ _ _ a e tt
instr_agrees setting t step l (Hash i) a e = acts_agree step _ _ _ a e tt
instr_agrees setting t step l (Null i) a e = acts_agree step _ _ _ a e tt
instr_agrees setting t step l (Split i split) a e = acts_agree step _ _ _ a e tt
instr_agrees setting t step l Swap a e = acts_agree step _ _ _ a e tt
instr_agrees setting t step l (JoinSeq i) a e = acts_agree step _ _ _ a e tt
instr_agrees setting t step l (Send i place) a e = acts_agree step (sends place i) (posts place i l.evidence) _ a e refl
instr_agrees setting t step l (Recv j i) a e = with_agree (t.replies i) (λ v. acts step (happens j) (takes i) (replied_machine v l)) a (λ v h. acts_agree step (happens j) (takes i) (replied_machine v l) a h tt) e
instr_agrees setting t step l (Fork i split) a e = acts_agree step (happens i) (forks i _) _ a e refl
instr_agrees setting t step l (JoinPar j i) a e = with_agree (result_of (t.blocks (of i))) (λ v. acts step (happens j) (joins i) (joined v l)) a (λ v h. acts_agree step (happens j) (joins i) (joined v l) a h tt) e
instr_agrees setting t step l End a e = acts_agree step _ _ _ a e tt

pub code_agrees : (setting : Setting) (t : Tables) (step : Step) (l : Local) (code : List Instr) (a : Effect × Change × Local) → act_with setting t step l code ≡ Some a → Agrees a.0 a.1
code_agrees setting t step l [] a e = absurd (cc)
code_agrees setting t step l (instr ∷ rest) a e = instr_agrees setting t step l instr a e

module _ (all : List CodeBlock) (pass : ℕ) where
  -- a change by a block that runs
  change_fresh : (t : Tables) → IsFresh t → (name : Block) (flag : Bool) (l : Local) → t.blocks name ≡ running flag l → (effect : Effect) (change : Change) (after : Local) → Agrees effect change → ((n : ℕ) → occurrences (trace_after t.trace effect) n ≤ 1) → IsFresh (after_change all pass name flag change (after_machine name flag effect after t))
  change_fresh t f name flag l runs effect nothing after agrees once = machine_fresh t f name flag l runs effect after
  change_fresh t f name flag l runs effect (posts place n before) after agrees once =
      let u = after_machine name flag effect after t in
      let g : IsFresh u = machine_fresh t f name flag l runs effect after in
      let new : occurrences (trace_after t.trace effect) n ≡ occurrences t.trace n + same n n = ap (λ x. occurrences (trace_after t.trace x) n) agrees ∙ occurrences_more t.trace n n in
      let first : occurrences t.trace n ≡ 0 = omega (arith, new, once n, same_one n n refl) in
      let fresh : u.blocks (of n) ≡ not_started = put_other name (running flag after) t.blocks (of n) (not_this t name flag l runs n (f.unstarted n first)) ∙ f.unstarted n first in
      posted_fresh u (after_change all pass name flag (posts place n before) u) g place n before fresh (omega (arith, new, same_one n n refl))
    where
      posted_fresh : (u w : Tables) → IsFresh u → (place : List ℕ) (n : ℕ) (before : Evidence) → u.blocks (of n) ≡ not_started → 1 ≤ occurrences u.trace n → IsFresh (record u { requests = put_place place (u.requests place ++ (n, before) ∷ []) u.requests })
      posted_fresh u w g place n before fresh there = record {
        unstarted = g.unstarted;
        waiting = λ other. in_place other (pointwise nat_eq place other);
      }
        where
          more : (xs : List (ℕ × Evidence)) → AllFresh u xs → AllFresh (record u { requests = put_place place (u.requests place ++ (n, before) ∷ []) u.requests }) (xs ++ (n, before) ∷ [])
          more [] h = (fresh, there, tt)
          more (x ∷ xs) h = (h.0, h.1, more xs h.2)

          in_place : (other : List ℕ) (b : Bool) → AllFresh (record u { requests = put_place place (u.requests place ++ (n, before) ∷ []) u.requests }) (if b then u.requests place ++ (n, before) ∷ [] else u.requests other)
          in_place other true = more (u.requests place) (g.waiting place)
          in_place other false = all_keep u (record u { requests = put_place place (u.requests place ++ (n, before) ∷ []) u.requests }) (u.requests other) (λ k h t. (h, t)) (g.waiting other)
  change_fresh t f name flag l runs effect (forks n before) after agrees once =
      let new : occurrences (trace_after t.trace effect) n ≡ occurrences t.trace n + same n n = ap (λ x. occurrences (trace_after t.trace x) n) agrees ∙ occurrences_more t.trace n n in
      let first : occurrences t.trace n ≡ 0 = omega (arith, new, once n, same_one n n refl) in
      forked_fresh t f (after_machine name flag effect after t) (machine_fresh t f name flag l runs effect after) n (running false (started all (of n) before)) first (omega (arith, new, same_one n n refl)) (λ k. more_happens t.trace effect k) (λ place. refl) (λ k fresh. put_other name (running flag after) t.blocks (of k) (not_this t name flag l runs k fresh) ∙ fresh)
    where
      forked_fresh : (t : Tables) → IsFresh t → (u : Tables) → IsFresh u → (n : ℕ) (state : BlockState) → occurrences t.trace n ≡ 0 → 1 ≤ occurrences u.trace n → ((k : ℕ) → occurrences t.trace k ≤ occurrences u.trace k) → ((place : List ℕ) → u.requests place ≡ t.requests place) → ((k : ℕ) → t.blocks (of k) ≡ not_started → u.blocks (of k) ≡ not_started) → IsFresh (record u { blocks = put_block (of n) state u.blocks })
      forked_fresh t f u g n state first there grows requests keeps = record {
        unstarted = λ k e. put_other (of n) state u.blocks (of k) (λ is. omega (arith, there, e, ap (λ j. occurrences u.trace j) (of_number n k is))) ∙ g.unstarted k e;
        waiting = λ place. subst (λ xs. AllFresh (record u { blocks = put_block (of n) state u.blocks }) xs) (sym (requests place)) (all_keep t (record u { blocks = put_block (of n) state u.blocks }) (t.requests place) (λ k fresh happened. (put_other (of n) state u.blocks (of k) (λ is. omega (arith, first, happened, ap (λ j. occurrences t.trace j) (of_number n k is))) ∙ keeps k fresh, omega (arith, happened, grows k))) (f.waiting place));
      }
        where
          of_number : (a b : ℕ) → of a ≡ of b → a ≡ b
          of_number a b e = cc
  change_fresh t f name flag l runs effect (takes n) after agrees once = same_fresh (after_machine name flag effect after t) _ (machine_fresh t f name flag l runs effect after) (λ other. refl) refl (λ place. refl)
  change_fresh t f name flag l runs effect (joins n) after agrees once = machine_fresh t f name flag l runs effect after
  change_fresh t f name flag l runs effect (lifts n) after agrees once = same_fresh (after_machine name flag effect after t) _ (machine_fresh t f name flag l runs effect after) (λ other. refl) refl (λ place. refl)
  change_fresh t f name flag l runs effect (ends result) after agrees once =
      ended_fresh name flag (after_machine name flag effect after t) (machine_fresh t f name flag l runs effect after) (put_self name (running flag after) t.blocks)
    where
      ended_fresh : (name : Block) (flag : Bool) (u : Tables) → IsFresh u → u.blocks name ≡ running flag after → IsFresh (after_end name flag result u)
      ended_fresh root flag u g runs_on = changed_fresh u (after_end root flag result u) g root flag after (over result) runs_on (λ other. refl) (λ n. omega arith) (λ place. refl)
      ended_fresh (of m) true u g runs_on = changed_fresh u (after_end (of m) true result u) g (of m) true after (over result) runs_on (λ other. refl) (λ n. omega arith) (λ place. refl)
      ended_fresh (of m) false u g runs_on = changed_fresh u (after_end (of m) false result u) g (of m) false after (over result) runs_on (λ other. refl) (λ n. omega arith) (λ place. refl)

  pub change_trace : (u : Tables) (name : Block) (flag : Bool) (change : Change) → (after_change all pass name flag change u).trace ≡ u.trace
  change_trace u name flag nothing = refl
  change_trace u name flag (posts place n before) = refl
  change_trace u name flag (forks n before) = refl
  change_trace u name flag (takes n) = refl
  change_trace u name flag (joins n) = refl
  change_trace u name flag (lifts n) = refl
  change_trace u root flag (ends result) = refl
  change_trace u (of m) true (ends result) = refl
  change_trace u (of m) false (ends result) = refl

pub some_tables : (t u : Tables) → ◌≡◌ {A = Option Tables} (Some t) (Some u) → t ≡ u
some_tables t u e = cc

-- the tables after a delivery
abbrev pub delivered_tables : List CodeBlock → Tables → List ℕ → ℕ × Evidence → List (ℕ × Evidence) → Tables
delivered_tables all t place request rest =
    record t { requests = put_place place rest t.requests; blocks = put_block (of request.0) (running true (started all (of request.0) request.1)) t.blocks }

-- requests that wait are of numbers of their own
pub record AreApart (t : Tables) : Type 0 where
  pub behind : (place : List ℕ) (request : ℕ × Evidence) (rest : List (ℕ × Evidence)) → t.requests place ≡ request ∷ rest → times request.0 (numbers rest) ≡ 0
  pub beside : (place other : List ℕ) (request : ℕ × Evidence) (rest : List (ℕ × Evidence)) → t.requests place ≡ request ∷ rest → pointwise nat_eq place other ≡ false → times request.0 (numbers (t.requests other)) ≡ 0

module _ (all : List CodeBlock) (from : Makings) (t : Tables) (f : IsFresh t) (d : AreApart t) (w : Tables) (once : (n : ℕ) → occurrences w.trace n ≤ 1) where
  step_fresh : (pass : ℕ) (step : Step) (name : Block) (state : BlockState) → t.blocks name ≡ state → step_in all from pass step name t state ≡ Some w → IsFresh w
  step_fresh pass step name not_started is e = absurd (cc)
  step_fresh pass step name (over result) is e = absurd (cc)
  step_fresh pass step name (running flag l) is e = by_act (act (record { place = place_called all (block_name name); from = from }) t step l) refl e
    where
      by_act : (x : Acted) → act (record { place = place_called all (block_name name); from = from }) t step l ≡ x → after_step all pass name flag t x ≡ Some w → IsFresh w
      by_act None same h = absurd (cc)
      by_act (Some a) same h =
          let there : after_change all pass name flag a.1 (after_machine name flag a.0 a.2 t) ≡ w = some_tables (after_change all pass name flag a.1 (after_machine name flag a.0 a.2 t)) w h in
          let traced : trace_after t.trace a.0 ≡ w.trace = sym (change_trace all pass (after_machine name flag a.0 a.2 t) name flag a.1) ∙ ap (λ x. x.trace) there in
          subst IsFresh there (change_fresh all pass t f name flag l is a.0 a.1 a.2 (code_agrees (record { place = place_called all (block_name name); from = from }) t step l l.rest a same) (λ n. subst (λ xs. occurrences xs n ≤ 1) (sym traced) (once n)))

  deliver_fresh : (place : List ℕ) (waiting : List (ℕ × Evidence)) → t.requests place ≡ waiting → deliver_first all place t waiting ≡ Some w → IsFresh w
  deliver_fresh place [] is e = absurd (cc)
  deliver_fresh place (request ∷ rest) is e =
      subst IsFresh (some_tables (delivered_tables all t place request rest) w e) (record {
        unstarted = λ k none. put_other (of request.0) (running true (started all (of request.0) request.1)) t.blocks (of k) (λ same. omega (arith, none, first.1, ap (λ j. occurrences t.trace j) (of_number request.0 k same))) ∙ f.unstarted k none;
        waiting = λ other. elim (either_way (pointwise nat_eq place other)) [
          | inl here ↦ subst (λ xs. AllFresh (delivered_tables all t place request rest) xs) (sym (if_true (List (ℕ × Evidence)) (pointwise nat_eq place other) rest (t.requests other) here)) (all_but t (delivered_tables all t place request rest) request.0 rest (d.behind place request rest is) keeps first.2)
          | inr elsewhere ↦ subst (λ xs. AllFresh (delivered_tables all t place request rest) xs) (sym (if_false (List (ℕ × Evidence)) (pointwise nat_eq place other) rest (t.requests other) elsewhere)) (all_but t (delivered_tables all t place request rest) request.0 (t.requests other) (d.beside place other request rest is elsewhere) keeps (f.waiting other))
        ];
      })
    where
      of_number : (a b : ℕ) → of a ≡ of b → a ≡ b
      of_number a b e = cc

      first : AllFresh t (request ∷ rest)
      first = subst (λ xs. AllFresh t xs) is (f.waiting place)

      keeps : (n : ℕ) → (n ≡ request.0 → ⊥) → t.blocks (of n) ≡ not_started → 1 ≤ occurrences t.trace n → (put_block (of request.0) (running true (started all (of request.0) request.1)) t.blocks (of n) ≡ not_started) × (1 ≤ occurrences t.trace n)
      keeps n ne fresh there = (put_other (of request.0) (running true (started all (of request.0) request.1)) t.blocks (of n) (λ same. ne (sym (of_number request.0 n same))) ∙ fresh, there)

  answer_fresh : (n : ℕ) (bytes : List ℕ) (name : Block) (state : BlockState) → t.blocks name ≡ state → answer_in n bytes name t state ≡ Some w → IsFresh w
  answer_fresh n bytes name not_started is e = absurd (cc)
  answer_fresh n bytes name (over result) is e = absurd (cc)
  answer_fresh n bytes name (running flag l) is e = by_code l.rest e
    where
      by_code : (code : List Instr) → answer_at n bytes name flag l t code ≡ Some w → IsFresh w
      by_code [] h = absurd (cc)
      by_code (instr ∷ rest) h =
          subst IsFresh (some_tables _ w h) (changed_fresh t _ f name flag l (running flag (answered instr bytes l)) is (λ other. refl) (λ k. omega (arith, occurrences_more t.trace n k)) (λ place. refl))

  asked_fresh : (pass : ℕ) (asked : Option (ℕ × Block)) (g : Block → Option Tables) → ((name : Block) → g name ≡ Some w → IsFresh w) → by_asker pass asked g ≡ Some w → IsFresh w
  asked_fresh pass None g h e = absurd (cc)
  asked_fresh pass (Some a) g h e = by_test (nat_eq a.0 pass) e
    where
      by_test : (b : Bool) → (if b then g a.1 else None) ≡ Some w → IsFresh w
      by_test true k = h a.1 k
      by_test false k = absurd (cc)

  stop_fresh : (n : ℕ) (state : State) → stop_tables n state t ≡ Some w → IsFresh w
  stop_fresh n state e = subst IsFresh (some_tables _ w e) (same_fresh t _ f (λ other. refl) refl (λ place. refl))

  pub enter_fresh : (entry : Entry) → enter_tables all from t entry ≡ Some w → IsFresh w
  enter_fresh opened e = absurd (cc)
  enter_fresh (played pass (run name)) e = step_fresh pass run_step name (t.blocks name) refl e
  enter_fresh (played pass (ask name)) e = step_fresh pass ask_step name (t.blocks name) refl e
  enter_fresh (played pass (deliver place)) e = deliver_fresh place (t.requests place) refl e
  enter_fresh (was_answered pass n bytes) e = asked_fresh pass (t.in_flight n) (λ name. answer_in n bytes name t (t.blocks name)) (λ name h. answer_fresh n bytes name (t.blocks name) refl h) e
  enter_fresh (failed pass n fault) e = asked_fresh pass (t.in_flight n) (λ name. stop_tables n (has_failed n fault) t) (λ name h. stop_fresh n (has_failed n fault) h) e
  enter_fresh (starved pass n) e = asked_fresh pass (t.in_flight n) (λ name. stop_tables n (has_starved n) t) (λ name h. stop_fresh n (has_starved n) h) e

pub while_is : (state : State) (x : Option Tables) (w : Tables) → tables_while state x ≡ Some w → (state ≡ is_open) × (x ≡ Some w)
while_is is_open x w e = (refl, e)
while_is (is_done value) x w e = absurd (cc)
while_is (has_failed event fault) x w e = absurd (cc)
while_is (has_starved event) x w e = absurd (cc)

-- each number happens once
once_in : (session : Session) (keys : List (List ℕ × List ℕ)) (history : List Entry) (w : Tables) (y : Option Standing) → standing_after session keys history ≡ y → AreShown (Some w) y → (n : ℕ) → occurrences w.trace n ≤ 1
once_in session keys history w None e shown n = absurd shown
once_in session keys history w (Some s) e shown n =
    subst (λ xs. occurrences xs n ≤ 1) (sym shown.trace) (omega (arith, (told_after_history session keys history s e).counted n, phrase_once session.phrase n))

apart_in : (t : Tables) (s : Standing) → IsShown t s → ((n : ℕ) → request_count s.requests n ≤ 1) → AreApart t
apart_in t s shown once = record {
  behind = λ place request rest is. behind_front s.requests place request.0 (numbers rest) (once request.0) (sym (shown.requests place) ∙ ap numbers is);
  beside = λ place other request rest is apart. ap (λ xs. times request.0 xs) (shown.requests other) ∙ beside_front s.requests place other request.0 (numbers rest) (once request.0) (sym (shown.requests place) ∙ ap numbers is) apart;
}

entry_fresh : (session : Session) (keys : List (List ℕ × List ℕ)) (history : List Entry) (s : Standing) (t : Tables) (entry : Entry) (w : Tables) → standing_after session keys history ≡ Some s → IsShown t s → IsFresh t → step_tables (program_of session.phrase session.root) (makings session keys) t entry ≡ Some w → IsFresh w
entry_fresh session keys history s t entry w e shown f h =
    let k = while_is t.state (enter_tables (program_of session.phrase session.root) (makings session keys) t entry) w h in
    let once : (n : ℕ) → occurrences w.trace n ≤ 1 = once_in session keys (history ++ entry ∷ []) w (next session keys s entry) (after_more session keys history s entry e) (subst (λ x. AreShown x (next session keys s entry)) h (entry_shown session keys history s t entry e shown)) in
    enter_fresh (program_of session.phrase session.root) (makings session keys) t f (apart_in t s shown (requests_once session keys history s e (sym shown.state ∙ k.0))) w once entry k.1

further_fresh : (session : Session) (keys : List (List ℕ × List ℕ)) (history : List Entry) (x : Option Tables) (y : Option Standing) (entries : List Entry) (w : Tables) → standing_after session keys history ≡ y → AreShown x y → ((t : Tables) → x ≡ Some t → IsFresh t) → tables_further (program_of session.phrase session.root) (makings session keys) x entries ≡ Some w → IsFresh w
further_fresh session keys history None y entries w e shown f h = absurd (cc)
further_fresh session keys history (Some t) None entries w e shown f h = absurd shown
further_fresh session keys history (Some t) (Some s) [] w e shown f h = f w h
further_fresh session keys history (Some t) (Some s) (entry ∷ entries) w e shown f h =
    further_fresh session keys (history ++ entry ∷ []) (step_tables (program_of session.phrase session.root) (makings session keys) t entry) (next session keys s entry) entries w (after_more session keys history s entry e) (entry_shown session keys history s t entry e shown) (λ v is. entry_fresh session keys history s t entry v e shown (f t refl) is) h

opening_fresh : (session : Session) → IsFresh (opening_tables (program_of session.phrase session.root) (nonce session.nonce))
opening_fresh session = record { unstarted = λ n e. refl; waiting = λ place. tt }

pub history_fresh : (session : Session) (keys : List (List ℕ × List ℕ)) (history : List Entry) (t : Tables) → tables_after (program_of session.phrase session.root) (makings session keys) (nonce session.nonce) history ≡ Some t → IsFresh t
history_fresh session keys [] t e = absurd (cc)
history_fresh session keys (opened ∷ entries) t e =
    further_fresh session keys (opened ∷ []) (Some (opening_tables (program_of session.phrase session.root) (nonce session.nonce))) (Some (opening session)) entries t refl (opening_shown session) (λ u is. subst IsFresh (some_tables _ u is) (opening_fresh session)) e
history_fresh session keys (played pass move ∷ entries) t e = absurd (cc)
history_fresh session keys (was_answered pass n bytes ∷ entries) t e = absurd (cc)
history_fresh session keys (failed pass n fault ∷ entries) t e = absurd (cc)
history_fresh session keys (starved pass n ∷ entries) t e = absurd (cc)

-- a delivery starts a block that isn't started
pub delivery_fresh : (session : Session) (keys : List (List ℕ × List ℕ)) (history : List Entry) (t : Tables) (place : List ℕ) (request : ℕ × Evidence) (rest : List (ℕ × Evidence)) → tables_after (program_of session.phrase session.root) (makings session keys) (nonce session.nonce) history ≡ Some t → t.requests place ≡ request ∷ rest → t.blocks (of request.0) ≡ not_started
delivery_fresh session keys history t place request rest e is =
    let all : AllFresh t (request ∷ rest) = subst (λ xs. AllFresh t xs) is ((history_fresh session keys history t e).waiting place) in
    all.0

-- so does a fork
pub fork_fresh : (session : Session) (keys : List (List ℕ × List ℕ)) (history : List Entry) (t : Tables) (name : Block) (flag : Bool) (l : Local) (n : ℕ) (before : Evidence) (after : Local) → tables_after (program_of session.phrase session.root) (makings session keys) (nonce session.nonce) history ≡ Some t → t.state ≡ is_open → t.blocks name ≡ running flag l → act (record { place = place_called (program_of session.phrase session.root) (block_name name); from = makings session keys }) t run_step l ≡ Some (happens n, forks n before, after) → t.blocks (of n) ≡ not_started
fork_fresh session keys history t name flag l n before after e still runs acted =
    by_standing (standing_after session keys history) refl (subst (λ x. AreShown x (standing_after session keys history)) e (history_shown session keys history))
  where
    stepped : step_tables (program_of session.phrase session.root) (makings session keys) t (played 0 (run name)) ≡ Some (after_change (program_of session.phrase session.root) 0 name flag (forks n before) (after_machine name flag (happens n) after t))
    stepped =
        ap (λ x. tables_while x (step_of (program_of session.phrase session.root) (makings session keys) 0 run_step name t)) still
        ∙ ap (λ x. step_in (program_of session.phrase session.root) (makings session keys) 0 run_step name t x) runs
        ∙ ap (λ x. after_step (program_of session.phrase session.root) 0 name flag t x) acted

    by_standing : (y : Option Standing) → standing_after session keys history ≡ y → AreShown (Some t) y → t.blocks (of n) ≡ not_started
    by_standing None is shown = absurd shown
    by_standing (Some s) is shown =
        let once : (k : ℕ) → occurrences (t.trace ++ n ∷ []) k ≤ 1 = once_in session keys (history ++ played 0 (run name) ∷ []) (after_change (program_of session.phrase session.root) 0 name flag (forks n before) (after_machine name flag (happens n) after t)) (next session keys s (played 0 (run name))) (after_more session keys history s (played 0 (run name)) is) (subst (λ x. AreShown x (next session keys s (played 0 (run name)))) stepped (entry_shown session keys history s t (played 0 (run name)) is shown)) in
        (history_fresh session keys history t e).unstarted n (omega (arith, once n, occurrences_more t.trace n n, same_one n n refl))
