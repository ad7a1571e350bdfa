-- What holds of each instruction of each block's code holds of what is left of it in the tables, after every
-- history; and measurements stand in the block that owns their event.
use Rattle.std.proofs.Common.{◌≡◌, ℕ, ◌+◌, List, [], ◌∷◌, cond, refl, ap, subst}
use Rattle.std.specs.Prelude.{Bool, true, false, Option, None, Some, drop, nat_eq, if◌then◌else◌}
use Rattle.std.specs.List.{AllByRecursion}
use Rattle.std.proofs.lemmas.Bool.{eqb-true}
use Rattle.phrase_tree.specs.Term.{Term, Leaf, cpy, sig, hsh, nul, usm, kim, leaf, at, chain, seq, par}
use Rattle.phrase_tree.specs.Numbering.{event_count}
use Rattle.evidence_types.specs.Evidence.{Evidence}
use Rattle.session_model.specs.Value.{Makings}
use Rattle.avm_code.specs.declared.instr.BlockName.{BlockName}
use Rattle.avm_code.specs.declared.instr.BlockName.TheVariants.{Root, Of}
use Rattle.avm_code.specs.declared.instr.Instr.{Instr}
use Rattle.avm_code.specs.declared.instr.Instr.TheVariants.{Copy, Usm, Kim, Sign, Hash, Null, Split, Swap, JoinSeq, Send, Recv, Fork, JoinPar, End}
use Rattle.avm_code.specs.declared.program.Block.{Block as CodeBlock}
use Rattle.avm_code.specs.Blocks.{is_named, blocks_named}
use Rattle.avm_code.specs.Order.{first_code, code_called, place_called}
use Rattle.avm_compile.specs.Program.{last_of_branch, leaf_instr, code_of, blocks_of, program_of}
use Rattle.avm_compile.proofs.EndLaws.{both}
use Rattle.machine_tables.specs.Row.{Setting, Local, row, replied as replied_machine, joined, answered}
use Rattle.machine_tables.specs.Tables.{BlockState, not_started, running, over, Tables, put_block, block_name, started, Change, nothing, posts, forks, takes, joins, lifts, ends, Acted, result_of, is_asked, acts, acts_unless, acts_with, act_on, act_with, act, after_end, after_change, after_machine, after_step, step_in, deliver_first, by_asker, answer_at, answer_in, stop_tables, enter_tables, step_tables, opening_tables, tables_further, tables_after}
use Rattle.session_runs.specs.Moves.{Step, run as run_step, ask as ask_step, Effect, happens, asks}
use Rattle.session_runs.specs.Standing.{Block, root, of, run, ask, deliver, Entry, opened, played, answered as was_answered, failed, starved, State, has_failed, has_starved}
use Rattle.session_runs.proofs.OwnerLaws.{OwnsPhrase}
use Rattle.session_tables.specs.Touched.{named}
use Rattle.session_tables.proofs.Steps.{put_block_law}
use Rattle.session_tables.proofs.Freshness.{some_acted, some_tables, while_is}

-- ---- a measurement stands in the block that owns its event

abbrev pub Measures : (ℕ → Option Block) → BlockName → Instr → Type 0
Measures F name (Usm n asp) = F n ≡ Some (named name)
Measures F name (Kim n target asp) = F n ≡ Some (named name)
Measures F name _ = Unit {0}

abbrev AllMeasure : (ℕ → Option Block) → CodeBlock → Type 0
AllMeasure F one = AllByRecursion (Measures F one.name) one.code

module _ (F : ℕ → Option Block) where
  leaf_measures : (name : BlockName) (form : Leaf) (i : ℕ) → F i ≡ Some (named name) → Measures F name (leaf_instr form i)
  leaf_measures name cpy i h = tt
  leaf_measures name sig i h = tt
  leaf_measures name hsh i h = tt
  leaf_measures name nul i h = tt
  leaf_measures name (usm asp) i h = h
  leaf_measures name (kim target asp) i h = h

  code_measures : (name : BlockName) (phrase : Term) (i : ℕ) (rest : List Instr) → OwnsPhrase F (named name) phrase i → AllByRecursion (Measures F name) rest → AllByRecursion (Measures F name) (code_of phrase i rest)
  code_measures name (leaf form) i rest h more = (leaf_measures name form i h, more)
  code_measures name (at asked body) i rest h more = (tt, (tt, more))
  code_measures name (chain left right) i rest h more =
      code_measures name left i (code_of right (i + event_count left) rest) h.0 (code_measures name right (i + event_count left) rest h.1 more)
  code_measures name (seq split left right) i rest h more =
      let last = last_of_branch left right i in
      (tt, code_measures name left (i + 1) (Swap ∷ code_of right (i + 1 + event_count left) (JoinSeq last ∷ rest)) h.1 (tt, code_measures name right (i + 1 + event_count left) (JoinSeq last ∷ rest) h.2 (tt, more)))
  code_measures name (par split left right) i rest h more =
      (tt, code_measures name left (i + 1) (JoinPar (last_of_branch left right i) i ∷ rest) h.1 (tt, more))

  blocks_measure : (name : BlockName) (phrase : Term) (place : List ℕ) (i : ℕ) → OwnsPhrase F (named name) phrase i → AllByRecursion (AllMeasure F) (blocks_of phrase place i)
  blocks_measure name (leaf form) place i h = tt
  blocks_measure name (at asked body) place i h =
      (code_measures (Of i) body (i + 1) (End ∷ []) h.1 (tt, tt), blocks_measure (Of i) body asked (i + 1) h.1)
  blocks_measure name (chain left right) place i h =
      both (AllMeasure F) (blocks_of left place i) (blocks_of right place (i + event_count left)) (blocks_measure name left place i h.0) (blocks_measure name right place (i + event_count left) h.1)
  blocks_measure name (seq split left right) place i h =
      both (AllMeasure F) (blocks_of left place (i + 1)) (blocks_of right place (i + 1 + event_count left)) (blocks_measure name left place (i + 1) h.1) (blocks_measure name right place (i + 1 + event_count left) h.2)
  blocks_measure name (par split left right) place i h = (
    code_measures (Of i) right (i + 1 + event_count left) (End ∷ []) h.2 (tt, tt),
    both (AllMeasure F) (blocks_of left place (i + 1)) (blocks_of right place (i + 1 + event_count left)) (blocks_measure name left place (i + 1) h.1) (blocks_measure (Of i) right place (i + 1 + event_count left) h.2),
  )

  pub program_measures : (phrase : Term) (place : List ℕ) → OwnsPhrase F root phrase 0 → AllByRecursion (λ one. AllByRecursion (Measures F one.name) one.code) (program_of phrase place)
  program_measures phrase place h =
      (code_measures Root phrase 0 (End ∷ []) h (tt, tt), blocks_measure Root phrase place 0 h)

-- ---- from the blocks of a program to the code of a name

abbrev AllHave : (BlockName → Instr → Type 0) → CodeBlock → Type 0
AllHave P one = AllByRecursion (P one.name) one.code

name_is : (n : ℕ) (name : BlockName) → is_named n name ≡ true → name ≡ Of n
name_is n Root e = absurd (cc)
name_is n (Of m) e = ap Of (eqb-true m n e)

named_have : (P : BlockName → Instr → Type 0) (n : ℕ) (blocks : List CodeBlock) → AllByRecursion (AllHave P) blocks → AllByRecursion (P (Of n)) (first_code (blocks_named n blocks))
named_have P n [] h = tt
named_have P n (one ∷ rest) h = by_first (is_named n one.name) refl (named_have P n rest h.1)
  where
    by_first : (b : Bool) → is_named n one.name ≡ b → AllByRecursion (P (Of n)) (first_code (blocks_named n rest)) → AllByRecursion (P (Of n)) (first_code (cond b (one ∷ blocks_named n rest) (blocks_named n rest)))
    by_first true e more = subst (λ name. AllByRecursion (P name) one.code) (name_is n one.name e) h.0
    by_first false e more = more

pub program_has : (P : BlockName → Instr → Type 0) (phrase : Term) (place : List ℕ) → AllByRecursion (λ one. AllByRecursion (P one.name) one.code) (program_of phrase place) → (name : Block) → AllByRecursion (P (block_name name)) (code_called (program_of phrase place) (block_name name))
program_has P phrase place h root = h.0
program_has P phrase place h (of n) = named_have P n (program_of phrase place) h

-- ---- what is left of the code of a block that runs

abbrev pub CodeHas : (BlockName → Instr → Type 0) → Block → BlockState → Type 0
CodeHas P name not_started = Unit {0}
CodeHas P name (running flag l) = AllByRecursion (P (block_name name)) l.rest
CodeHas P name (over result) = Unit {0}

drop_has : (Q : Instr → Type 0) (code : List Instr) → AllByRecursion Q code → AllByRecursion Q (drop 1 code)
drop_has Q [] h = tt
drop_has Q (instr ∷ rest) h = h.1

-- what a machine holds after a step has no more code than before
module _ (Q : Instr → Type 0) where
  acts_have : (step : Step) (effect : Effect) (change : Change) (l : Local) (a : Effect × Change × Local) → acts step effect change l ≡ Some a → AllByRecursion Q l.rest → AllByRecursion Q a.2.rest
  acts_have run_step effect change l a e h = subst (λ x. AllByRecursion Q x.2.rest) (some_acted (effect, change, l) a e) h
  acts_have ask_step effect change l a e h = absurd (cc)

  unless_have : (b : Bool) (step : Step) (i : ℕ) (l : Local) (a : Effect × Change × Local) → acts_unless b step (asks i) (lifts i) l ≡ Some a → AllByRecursion Q l.rest → AllByRecursion Q a.2.rest
  unless_have true step i l a e h = absurd (cc)
  unless_have false run_step i l a e h = absurd (cc)
  unless_have false ask_step i l a e h = subst (λ x. AllByRecursion Q x.2.rest) (some_acted (asks i, lifts i, l) a e) h

  with_have : (x : Option Evidence) (f : Evidence → Acted) (a : Effect × Change × Local) → ((v : Evidence) → f v ≡ Some a → AllByRecursion Q a.2.rest) → acts_with x f ≡ Some a → AllByRecursion Q a.2.rest
  with_have None f a h e = absurd (cc)
  with_have (Some v) f a h e = h v e

  instr_have : (setting : Setting) (t : Tables) (step : Step) (l : Local) (instr : Instr) (a : Effect × Change × Local) → act_on t step l (row setting instr l).0 (row setting instr l).1 ≡ Some a → AllByRecursion Q l.rest → AllByRecursion Q a.2.rest
  instr_have setting t step l (Copy i) a e h = acts_have step _ _ _ a e (drop_has Q l.rest h)
  instr_have setting t step l (Usm i asp) a e h = unless_have (is_asked (t.in_flight i)) step i l a e h
  instr_have setting t step l (Kim i target asp) a e h = unless_have (is_asked (t.in_flight i)) step i l a e h
  instr_have setting t step l (Sign i) a e h = acts_have step _ _ _ a e (drop_has Q l.rest h)
  instr_have setting t step l (Hash i) a e h = acts_have step _ _ _ a e (drop_has Q l.rest h)
  instr_have setting t step l (Null i) a e h = acts_have step _ _ _ a e (drop_has Q l.rest h)
  instr_have setting t step l (Split i split) a e h = acts_have step _ _ _ a e (drop_has Q l.rest h)
  instr_have setting t step l Swap a e h = acts_have step _ _ _ a e (drop_has Q l.rest h)
  instr_have setting t step l (JoinSeq i) a e h = acts_have step _ _ _ a e (drop_has Q l.rest h)
  instr_have setting t step l (Send i place) a e h = acts_have step _ _ _ a e (drop_has Q l.rest h)
  instr_have setting t step l (Recv j i) a e h = with_have (t.replies i) (λ v. acts step (happens j) (takes i) (replied_machine v l)) a (λ v k. acts_have step (happens j) (takes i) (replied_machine v l) a k (drop_has Q l.rest h)) e
  instr_have setting t step l (Fork i split) a e h = acts_have step _ _ _ a e (drop_has Q l.rest h)
  instr_have setting t step l (JoinPar j i) a e h = with_have (result_of (t.blocks (of i))) (λ v. acts step (happens j) (joins i) (joined v l)) a (λ v k. acts_have step (happens j) (joins i) (joined v l) a k (drop_has Q l.rest h)) e
  instr_have setting t step l End a e h = acts_have step _ _ _ a e h

  code_have : (setting : Setting) (t : Tables) (step : Step) (l : Local) (code : List Instr) (a : Effect × Change × Local) → act_with setting t step l code ≡ Some a → AllByRecursion Q l.rest → AllByRecursion Q a.2.rest
  code_have setting t step l [] a e h = absurd (cc)
  code_have setting t step l (instr ∷ rest) a e h = instr_have setting t step l instr a e h

module _ (all : List CodeBlock) (from : Makings) (P : BlockName → Instr → Type 0) (of_code : (name : Block) → AllByRecursion (P (block_name name)) (code_called all (block_name name))) where
  abbrev Kept : Tables → Type 0
  Kept t = (name : Block) → CodeHas P name (t.blocks name)

  put_kept : (name : Block) (state : BlockState) (blocks : Block → BlockState) → CodeHas P name state → ((other : Block) → CodeHas P other (blocks other)) → (other : Block) → CodeHas P other (put_block name state blocks other)
  put_kept name state blocks here there = put_block_law (λ other s. CodeHas P other s) name state blocks here (λ other ne. there other)

  ended_kept : (name : Block) (flag : Bool) (result : Evidence) (u : Tables) → Kept u → Kept (after_end name flag result u)
  ended_kept root flag result u f = put_kept root (over result) u.blocks tt f
  ended_kept (of m) true result u f = put_kept (of m) (over result) u.blocks tt f
  ended_kept (of m) false result u f = put_kept (of m) (over result) u.blocks tt f

  change_kept : (pass : ℕ) (name : Block) (flag : Bool) (change : Change) (u : Tables) → Kept u → Kept (after_change all pass name flag change u)
  change_kept pass name flag nothing u f = f
  change_kept pass name flag (posts place n before) u f = f
  change_kept pass name flag (forks n before) u f =
      put_kept (of n) (running false (started all (of n) before)) u.blocks (of_code (of n)) f
  change_kept pass name flag (takes n) u f = f
  change_kept pass name flag (joins n) u f = f
  change_kept pass name flag (lifts n) u f = f
  change_kept pass name flag (ends result) u f = ended_kept name flag result u f

  module _ (t w : Tables) (f : Kept t) where
    step_kept : (pass : ℕ) (step : Step) (name : Block) (state : BlockState) → CodeHas P name state → step_in all from pass step name t state ≡ Some w → Kept w
    step_kept pass step name not_started has e = absurd (cc)
    step_kept pass step name (over result) has e = absurd (cc)
    step_kept pass step name (running flag l) has e = by_act (act (record { place = place_called all (block_name name); from = from }) t step l) refl e
      where
        by_act : (x : Acted) → act (record { place = place_called all (block_name name); from = from }) t step l ≡ x → after_step all pass name flag t x ≡ Some w → Kept w
        by_act None same h = absurd (cc)
        by_act (Some a) same h =
            let more : AllByRecursion (P (block_name name)) a.2.rest = code_have (P (block_name name)) (record { place = place_called all (block_name name); from = from }) t step l l.rest a same has in
            subst Kept (some_tables (after_change all pass name flag a.1 (after_machine name flag a.0 a.2 t)) w h) (change_kept pass name flag a.1 (after_machine name flag a.0 a.2 t) (put_kept name (running flag a.2) t.blocks more f))

    deliver_kept : (place : List ℕ) (waiting : List (ℕ × Evidence)) → deliver_first all place t waiting ≡ Some w → Kept w
    deliver_kept place [] e = absurd (cc)
    deliver_kept place (request ∷ rest) e =
        subst Kept (some_tables _ w e) (put_kept (of request.0) (running true (started all (of request.0) request.1)) t.blocks (of_code (of request.0)) f)

    answer_kept : (n : ℕ) (bytes : List ℕ) (name : Block) (state : BlockState) → CodeHas P name state → answer_in n bytes name t state ≡ Some w → Kept w
    answer_kept n bytes name not_started has e = absurd (cc)
    answer_kept n bytes name (over result) has e = absurd (cc)
    answer_kept n bytes name (running flag l) has e = by_code l.rest e
      where
        by_code : (code : List Instr) → answer_at n bytes name flag l t code ≡ Some w → Kept w
        by_code [] h = absurd (cc)
        by_code (instr ∷ rest) h =
            subst Kept (some_tables _ w h) (put_kept name (running flag (answered instr bytes l)) t.blocks (drop_has (P (block_name name)) l.rest has) f)

    asker_kept : (pass : ℕ) (asked : Option (ℕ × Block)) (g : Block → Option Tables) → ((name : Block) → g name ≡ Some w → Kept w) → by_asker pass asked g ≡ Some w → Kept w
    asker_kept pass None g h e = absurd (cc)
    asker_kept pass (Some a) g h e = by_test (nat_eq a.0 pass) e
      where
        by_test : (b : Bool) → (if b then g a.1 else None) ≡ Some w → Kept w
        by_test true k = h a.1 k
        by_test false k = absurd (cc)

    stop_kept : (n : ℕ) (state : State) → stop_tables n state t ≡ Some w → Kept w
    stop_kept n state e = subst Kept (some_tables _ w e) f

    enter_kept : (entry : Entry) → enter_tables all from t entry ≡ Some w → Kept w
    enter_kept opened e = absurd (cc)
    enter_kept (played pass (run name)) e = step_kept pass run_step name (t.blocks name) (f name) e
    enter_kept (played pass (ask name)) e = step_kept pass ask_step name (t.blocks name) (f name) e
    enter_kept (played pass (deliver place)) e = deliver_kept place (t.requests place) e
    enter_kept (was_answered pass n bytes) e = asker_kept pass (t.in_flight n) (λ name. answer_in n bytes name t (t.blocks name)) (λ name h. answer_kept n bytes name (t.blocks name) (f name) h) e
    enter_kept (failed pass n fault) e = asker_kept pass (t.in_flight n) (λ name. stop_tables n (has_failed n fault) t) (λ name h. stop_kept n (has_failed n fault) h) e
    enter_kept (starved pass n) e = asker_kept pass (t.in_flight n) (λ name. stop_tables n (has_starved n) t) (λ name h. stop_kept n (has_starved n) h) e

  further_kept : (x : Option Tables) (entries : List Entry) (w : Tables) → ((t : Tables) → x ≡ Some t → Kept t) → tables_further all from x entries ≡ Some w → Kept w
  further_kept None entries w f e = absurd (cc)
  further_kept (Some t) [] w f e = f w e
  further_kept (Some t) (entry ∷ entries) w f e =
      further_kept (step_tables all from t entry) entries w (λ u is. enter_kept t u (f t refl) entry (while_is t.state (enter_tables all from t entry) u is).1) e

  pub history_kept : (before : Evidence) (history : List Entry) (t : Tables) → tables_after all from before history ≡ Some t → (name : Block) → CodeHas P name (t.blocks name)
  history_kept before [] t e = absurd (cc)
  history_kept before (opened ∷ entries) t e =
      further_kept (Some (opening_tables all before)) entries t (λ u is. subst Kept (some_tables _ u is) (put_kept root (running false (started all root before)) (λ name. not_started) (of_code root) (λ other. tt))) e
  history_kept before (played pass move ∷ entries) t e = absurd (cc)
  history_kept before (was_answered pass n bytes ∷ entries) t e = absurd (cc)
  history_kept before (failed pass n fault ∷ entries) t e = absurd (cc)
  history_kept before (starved pass n ∷ entries) t e = absurd (cc)
