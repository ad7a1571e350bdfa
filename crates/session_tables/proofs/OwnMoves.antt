-- A machine's step is that of what is left of its block: it is possible just where the configuration moves, with
-- the same effect, and holds what is left then. What the move changes of what is said of numbers is what the step
-- changes in the tables.
use Rattle.std.proofs.Common.{◌≡◌, ℕ, ◌+◌, ◌≤◌, ◌<◌, inl, inr, List, ◌∷◌, refl, sym, ◌∙◌, ap, subst, arith}
use Rattle.std.specs.Prelude.{Bool, true, false, Option, None, Some, if◌then◌else◌}
use Rattle.std.proofs.lemmas.Bool.{cases_lt}
use Rattle.phrase_tree.specs.Term.{Leaf, cpy, sig, hsh, nul, usm, kim, is_measurement, Term, leaf, at, chain, seq, par}
use Rattle.phrase_tree.specs.Numbering.{event_count}
use Rattle.event_system.proofs.OrderLaws.{some_event}
use Rattle.evidence_types.specs.Evidence.{Evidence, seq_pair, par_pair}
use Rattle.session_model.specs.Value.{Makings, part}
use Rattle.avm_code.specs.declared.instr.Instr.{Instr}
use Rattle.avm_code.specs.declared.instr.Instr.TheVariants.{Swap, JoinSeq, JoinPar}
use Rattle.avm_code.specs.declared.program.Block.{Block as CodeBlock}
use Rattle.avm_compile.specs.Laws.{IsBlockOf}
use Rattle.avm_compile.specs.Program.{code_of}
use Rattle.machine_tables.specs.Row.{Setting, Local}
use Rattle.machine_tables.specs.Tables.{BlockState, not_started, running, over, Tables, Change, nothing, posts, forks, takes, joins, lifts, ends, Acted, result_of, is_asked, acts, acts_unless, acts_with, act}
use Rattle.session_runs.specs.Configuration.{Configuration, todo, asked, posted, remote, first, left_arm, right_arm, both_arms, finished, start, once_finished}
use Rattle.session_runs.specs.Moves.{Step, run as run_step, ask as ask_step, Effect, silent, happens, sends, asks, Moved, on_run, only_if, inside, own_moves}
use Rattle.session_runs.specs.Standing.{Block, of}
use Rattle.session_runs.proofs.Induction.{Made, no_move, on_run_law, on_ask_law, inside_law, own_law}
use Rattle.session_runs.proofs.ProgressLaws.{IsGoing}
use Rattle.session_tables.specs.Left.{code_left, held, stack_left, told_or, Left, left_of}
use Rattle.session_tables.specs.Found.{View, unseen, asks_for, waits, runs, replied, joinable, seen_or, block_view, found}
use Rattle.session_tables.specs.Shown.{Stands, RunsOn, reply_in, asker_in, asker_of}
use Rattle.session_tables.proofs.Starting.{IsNoChain, going_or, until_finished, start_code, start_held, start_stack, start_found}
use Rattle.session_tables.proofs.Fitting.{IsOver, Fits, StaysFit, fit_law, IsOutside, if_other, if_same}
use Rattle.session_tables.proofs.Frames.{Spot, spot, Around, Own, own_first, own_left, own_right, own_both}
use Rattle.session_tables.proofs.Zoom.{InRange}

abbrev pub local : List Instr → Evidence → List Evidence → Local
local code evidence stack = record { rest = code; evidence = evidence; stack = stack }

pub local_same : (r r' : List Instr) (e e' : Evidence) (s s' : List Evidence) → r ≡ r' → e ≡ e' → s ≡ s' → local r e s ≡ local r' e' s'
local_same r r' e e' s s' p q t = ap (λ x. local x e s) p ∙ ap (λ x. local r' x s) q ∙ ap (λ x. local r' e' x) t

-- the tables' change at the next move of a configuration in its own block
abbrev pub own_change : Configuration → Change
own_change (todo (leaf form) i before) = if is_measurement form then lifts i else nothing
own_change (todo (at asked_place body) i before) = posts asked_place i before
own_change (todo (par split l r) i before) = forks i (part split.right before)
own_change (todo _ i before) = nothing
own_change (asked form i before) = nothing
own_change (posted asked_place i body before) = nothing
own_change (remote asked_place i last inner ended) = takes i
own_change (first inner right i) = own_change inner
own_change (left_arm inner right i before last) = own_change inner
own_change (right_arm left_result inner last) = own_change inner
own_change (both_arms i last l r ended) = once_finished l (own_change l) (λ result. joins i)
own_change (finished result) = nothing

-- a machine's step by a move of what is left of its block
abbrev pub as_did : Change → List Instr → List Evidence → Evidence → Moved → Acted
as_did change behind under before None = None
as_did change behind under before (Some move) =
    Some (move.0, change, local (code_left move.1 behind) (told_or (held move.1) before) (stack_left move.1 under))

-- the tables hold what the configuration says of the numbers in its range
pub record Cells (t : Tables) (s : Spot) : Type 0 where
  pub blocks : (n : ℕ) → s.low ≤ n → n < s.high → Stands (found s.name s.now n) (t.blocks (of n))
  pub replies : (n : ℕ) → s.low ≤ n → n < s.high → t.replies n ≡ reply_in (found s.name s.now n)
  pub in_flight : (n : ℕ) → s.low ≤ n → n < s.high → asker_of (t.in_flight n) ≡ asker_in (found s.name s.now n)

-- what a move changes of what is said of one number, and of no other
pub record IsTouched (name : Block) (c d : Configuration) (low high i : ℕ) (old new : View) : Type 0 where
  pub range : InRange low high i
  pub was : found name c i ≡ old
  pub now : found name d i ≡ new
  pub others : (n : ℕ) → (n ≡ i → ⊥) → found name d n ≡ found name c n

-- the effects that change nothing of what waits
abbrev pub IsPlain : Effect → Type 0
IsPlain silent = Unit {0}
IsPlain (happens n) = Unit {0}
IsPlain _ = ⊥

pub by_range : (Q : Type 0) (low high n : ℕ) → (InRange low high n → Q) → (IsOutside low high n → Q) → Q
by_range Q low high n f g = elim (cases_lt n low) [
  | inl below ↦ g (λ le. omega (arith, below, le))
  | inr least ↦ elim (cases_lt n high) [
    | inl most ↦ f (record { least = least; most = most })
    | inr above ↦ g (λ le. above)
  ]
]

is_free : (x : Option (ℕ × Block)) → asker_of x ≡ None → is_asked x ≡ false
is_free None e = refl
is_free (Some a) e = absurd (cc)

is_taken : (name : Block) (x : Option (ℕ × Block)) → asker_of x ≡ Some name → is_asked x ≡ true
is_taken name None e = absurd (cc)
is_taken name (Some a) e = refl

unless_runs : (b : Bool) (effect : Effect) (change : Change) (l : Local) → acts_unless b run_step effect change l ≡ None
unless_runs true effect change l = refl
unless_runs false effect change l = refl

running_none : (for_request : Bool) (left : Left) (state : BlockState) → RunsOn for_request left state → result_of state ≡ None
running_none for_request left not_started h = absurd h
running_none for_request left (running flag l) h = refl
running_none for_request left (over result) h = absurd h

never : (c : Configuration) (moved : Evidence → Moved) → once_finished c None (λ result. only_if false (moved result)) ≡ None
never c moved = elim (going_or c) [
  | inl going ↦ until_finished Moved None (λ result. only_if false (moved result)) c going
  | inr w ↦ ap (λ d. once_finished d None (λ result. only_if false (moved result))) w.1
]

abbrev pub did : Effect → Change → Local → Acted
did effect change l = Some (effect, change, l)

acted_same : (effect : Effect) (change : Change) (r r' : List Instr) (e e' : Evidence) (s s' : List Evidence) → r ≡ r' → e ≡ e' → s ≡ s' → did effect change (local r e s) ≡ did effect change (local r' e' s')
acted_same effect change r r' e e' s s' p q t = ap (λ (l : Local). did effect change l) (local_same r r' e e' s s' p q t)

told_same : (x : Option Evidence) (v e : Evidence) → x ≡ Some v → v ≡ told_or x e
told_same x v e p = sym (ap (λ y. told_or y e) p)

module _ (all : List CodeBlock) (from : Makings) where
  abbrev pub setting : List ℕ → Setting
  setting place = record { place = place; from = from }

  pub cells_part : (t : Tables) (s u : Spot) → Around all from s u → Cells t s → Cells t u
  cells_part t s u a c = record {
    blocks = λ n le lt. subst (λ v. Stands v (t.blocks (of n))) (a.was_within n le lt) (c.blocks n (omega (arith, a.least, le)) (omega (arith, a.most, lt)));
    replies = λ n le lt. c.replies n (omega (arith, a.least, le)) (omega (arith, a.most, lt)) ∙ ap reply_in (a.was_within n le lt);
    in_flight = λ n le lt. c.in_flight n (omega (arith, a.least, le)) (omega (arith, a.most, lt)) ∙ ap asker_in (a.was_within n le lt);
  }

  -- each step of a machine that holds what is left of this is that of its next move
  abbrev pub ActsAs : Tables → List ℕ → Configuration → Type 0
  ActsAs t place c =
      (step : Step) (k : List Instr) (s : List Evidence) (e : Evidence) → act (setting place) t step (local (code_left c k) (told_or (held c) e) (stack_left c s)) ≡ as_did (own_change c) k s (told_or (held c) e) (own_moves from place c step)

  todo_acts : (t : Tables) (place : List ℕ) (phrase : Term) (i : ℕ) (before : Evidence) → IsNoChain phrase → asker_of (t.in_flight i) ≡ None → ActsAs t place (todo phrase i before)
  todo_acts t place (leaf cpy) i before no_chain free run_step k s e = refl
  todo_acts t place (leaf cpy) i before no_chain free ask_step k s e = refl
  todo_acts t place (leaf sig) i before no_chain free run_step k s e = refl
  todo_acts t place (leaf sig) i before no_chain free ask_step k s e = refl
  todo_acts t place (leaf hsh) i before no_chain free run_step k s e = refl
  todo_acts t place (leaf hsh) i before no_chain free ask_step k s e = refl
  todo_acts t place (leaf nul) i before no_chain free run_step k s e = refl
  todo_acts t place (leaf nul) i before no_chain free ask_step k s e = refl
  todo_acts t place (leaf (usm asp)) i before no_chain free run_step k s e = unless_runs (is_asked (t.in_flight i)) (asks i) (lifts i) (local (code_of (leaf (usm asp)) i k) before s)
  todo_acts t place (leaf (usm asp)) i before no_chain free ask_step k s e =
      ap (λ b. acts_unless b ask_step (asks i) (lifts i) (local (code_of (leaf (usm asp)) i k) before s)) (is_free (t.in_flight i) free)
  todo_acts t place (leaf (kim target asp)) i before no_chain free run_step k s e = unless_runs (is_asked (t.in_flight i)) (asks i) (lifts i) (local (code_of (leaf (kim target asp)) i k) before s)
  todo_acts t place (leaf (kim target asp)) i before no_chain free ask_step k s e =
      ap (λ b. acts_unless b ask_step (asks i) (lifts i) (local (code_of (leaf (kim target asp)) i k) before s)) (is_free (t.in_flight i) free)
  todo_acts t place (at asked_place body) i before no_chain free run_step k s e = refl
  todo_acts t place (at asked_place body) i before no_chain free ask_step k s e = refl
  todo_acts t place (chain l r) i before no_chain free step k s e = absurd no_chain
  todo_acts t place (seq split l r) i before no_chain free run_step k s e =
      acted_same (happens i) nothing _ _ _ _ _ _
      (sym (start_code l (i + 1) (part split.left before) (Swap ∷ code_of r (i + 1 + event_count l) (JoinSeq (i + 1 + event_count l + event_count r) ∷ k))))
      (told_same (held (start l (i + 1) (part split.left before))) (part split.left before) before (start_held l (i + 1) (part split.left before)))
      (sym (start_stack l (i + 1) (part split.left before) (part split.right before ∷ s)))
  todo_acts t place (seq split l r) i before no_chain free ask_step k s e = refl
  todo_acts t place (par split l r) i before no_chain free run_step k s e =
      acted_same (happens i) (forks i (part split.right before)) _ _ _ _ _ _
      (sym (start_code l (i + 1) (part split.left before) (JoinPar (i + 1 + event_count l + event_count r) i ∷ k)))
      (told_same (held (start l (i + 1) (part split.left before))) (part split.left before) before (start_held l (i + 1) (part split.left before)))
      (sym (start_stack l (i + 1) (part split.left before) s))
  todo_acts t place (par split l r) i before no_chain free ask_step k s e = refl

  asked_acts : (t : Tables) (name : Block) (place : List ℕ) (form : Leaf) (i : ℕ) (before : Evidence) → is_measurement form ≡ true → asker_of (t.in_flight i) ≡ Some name → ActsAs t place (asked form i before)
  asked_acts t name place cpy i before measures taken step k s e = absurd (cc)
  asked_acts t name place sig i before measures taken step k s e = absurd (cc)
  asked_acts t name place hsh i before measures taken step k s e = absurd (cc)
  asked_acts t name place nul i before measures taken step k s e = absurd (cc)
  asked_acts t name place (usm asp) i before measures taken step k s e =
      ap (λ b. acts_unless b step (asks i) (lifts i) (local (code_of (leaf (usm asp)) i k) before s)) (is_taken name (t.in_flight i) taken)
  asked_acts t name place (kim target asp) i before measures taken step k s e =
      ap (λ b. acts_unless b step (asks i) (lifts i) (local (code_of (leaf (kim target asp)) i k) before s)) (is_taken name (t.in_flight i) taken)

  reply_acts : (t : Tables) (place asked_place : List ℕ) (i last : ℕ) (result : Evidence) → t.replies i ≡ Some result → ActsAs t place (remote asked_place i last (finished result) true)
  reply_acts t place asked_place i last result there run_step k s e =
      ap (λ x. acts_with x (λ reply. acts run_step (happens last) (takes i) (local k reply s))) there
  reply_acts t place asked_place i last result there ask_step k s e =
      ap (λ x. acts_with x (λ reply. acts ask_step (happens last) (takes i) (local k reply s))) there

  swap_acts : (t : Tables) (place : List ℕ) (result : Evidence) (right : Term) (i : ℕ) (before : Evidence) (last : ℕ) → ActsAs t place (left_arm (finished result) right i before last)
  swap_acts t place result right i before last run_step k s e =
      acted_same silent nothing _ _ _ _ _ _
      (sym (start_code right i before (JoinSeq last ∷ k)))
      (told_same (held (start right i before)) before result (start_held right i before))
      (sym (start_stack right i before (result ∷ s)))
  swap_acts t place result right i before last ask_step k s e = refl

  sequence_acts : (t : Tables) (place : List ℕ) (left_result result : Evidence) (last : ℕ) → ActsAs t place (right_arm left_result (finished result) last)
  sequence_acts t place left_result result last run_step k s e = refl
  sequence_acts t place left_result result last ask_step k s e = refl

  join_acts : (t : Tables) (place : List ℕ) (i last : ℕ) (left_result result : Evidence) → t.blocks (of i) ≡ over result → ActsAs t place (both_arms i last (finished left_result) (finished result) true)
  join_acts t place i last left_result result there run_step k s e =
      ap (λ x. acts_with (result_of x) (λ u. acts run_step (happens last) (joins i) (local k (par_pair left_result u) s))) there
  join_acts t place i last left_result result there ask_step k s e =
      ap (λ x. acts_with (result_of x) (λ u. acts ask_step (happens last) (joins i) (local k (par_pair left_result u) s))) there

  wait_acts : (t : Tables) (place : List ℕ) (i last : ℕ) (left_result : Evidence) (r : Configuration) → result_of (t.blocks (of i)) ≡ None → ActsAs t place (both_arms i last (finished left_result) r false)
  wait_acts t place i last left_result r there step k s e =
      ap (λ x. acts_with x (λ u. acts step (happens last) (joins i) (local k (par_pair left_result u) s))) there
      ∙ sym (ap (λ x. as_did (joins i) k s left_result x) (never r (λ u. on_run step (happens last) (finished (par_pair left_result u)))))

  as_did_whole : (name : Block) (place : List ℕ) (c : Configuration) (low high : ℕ) (inner : Configuration) (from_low from_high : ℕ) (o : Own all from name place c low high inner from_low from_high) (change : Change) (k : List Instr) (s : List Evidence) (e : Evidence) (x : Moved) → as_did change (o.behind k) (o.under s) e x ≡ as_did change k s e (inside o.around.whole x)
  as_did_whole name place c low high inner from_low from_high o change k s e None = refl
  as_did_whole name place c low high inner from_low from_high o change k s e (Some m) =
      acted_same m.0 change _ _ _ _ _ _ (sym (o.code m.1 k)) (sym (ap (λ x. told_or x e) (o.evidence m.1))) (sym (o.stack m.1 s))

  whole_acts : (t : Tables) (name : Block) (place : List ℕ) (c : Configuration) (low high : ℕ) (inner : Configuration) (from_low from_high : ℕ) → Own all from name place c low high inner from_low from_high → own_change c ≡ own_change inner → ActsAs t place inner → ActsAs t place c
  whole_acts t name place c low high inner from_low from_high o changes acted step k s e =
      let same_evidence : told_or (held c) e ≡ told_or (held inner) e = ap (λ x. told_or x e) o.was_evidence in
      ap (λ (l : Local). act (setting place) t step l) (local_same (code_left c k) (code_left inner (o.behind k)) (told_or (held c) e) (told_or (held inner) e) (stack_left c s) (stack_left inner (o.under s)) (o.was_code k) same_evidence (o.was_stack s))
      ∙ acted step (o.behind k) (o.under s) e
      ∙ as_did_whole name place c low high inner from_low from_high o (own_change inner) k s (told_or (held inner) e) (own_moves from place inner step)
      ∙ ap (λ x. as_did x k s (told_or (held inner) e) (inside o.around.whole (own_moves from place inner step))) (sym changes)
      ∙ ap (λ x. as_did (own_change c) k s x (inside o.around.whole (own_moves from place inner step))) (sym same_evidence)
      ∙ ap (λ x. as_did (own_change c) k s (told_or (held c) e) x) (sym (o.steps step))

  pub own_acts : (t : Tables) (name : Block) (place : List ℕ) (c : Configuration) (low high : ℕ) → Fits all place c low high → IsGoing c → Cells t (spot name place c low high) → ActsAs t place c
  own_acts t name place (todo phrase i before) low high h going cells =
      todo_acts t place phrase i before h.0 (cells.in_flight i h.1 (omega (arith, h.2, some_event phrase)))
  own_acts t name place (asked form i before) low high h going cells =
      asked_acts t name place form i before h.0 (cells.in_flight i h.1 (omega (arith, h.2)) ∙ ap asker_in (if_same View i i (asks_for name) unseen refl))
  own_acts t name place (posted asked_place i body before) low high h going cells = λ step k s e.
      ap (λ x. acts_with x (λ reply. acts step (happens (i + 1 + event_count body)) (takes i) (local k reply s))) (cells.replies i h.0 (omega (arith, h.1)) ∙ ap reply_in (if_same View i i (waits before) unseen refl))
  own_acts t name place (remote asked_place i last inner false) low high h going cells = λ step k s e.
      ap (λ x. acts_with x (λ reply. acts step (happens last) (takes i) (local k reply s))) (cells.replies i h.0 (omega (arith, h.1, h.5)) ∙ ap reply_in (if_same View i i (block_view true inner false) (found (of i) inner i) refl))
      ∙ sym (ap (λ x. as_did (takes i) k s e x) (never inner (λ result. on_run step (happens last) (finished result))))
  own_acts t name place (remote asked_place i last inner true) low high h going cells = elim (going_or inner) [
    | inl inner_going ↦ absurd (h.3 inner_going)
    | inr w ↦
        let there : t.replies i ≡ reply_in (block_view true inner true) = cells.replies i h.0 (omega (arith, h.1, h.5)) ∙ ap reply_in (if_same View i i (block_view true inner true) (found (of i) inner i) refl) in
        subst (λ d. ActsAs t place (remote asked_place i last d true)) (sym w.1) (reply_acts t place asked_place i last w.0 (there ∙ ap (λ d. reply_in (block_view true d true)) w.1))
  ]
  own_acts t name place (first inner right i) low high h going cells =
      let o = own_first all from name place inner right i low high h in
      whole_acts t name place (first inner right i) low high inner low i o refl (own_acts t name place inner low i h.4 h.0 (cells_part t _ _ o.around cells))
  own_acts t name place (left_arm inner right i before last) low high h going cells = elim (going_or inner) [
    | inl inner_going ↦
        let o = own_left all from name place inner right i before last low high h inner_going in
        whole_acts t name place (left_arm inner right i before last) low high inner low i o refl (own_acts t name place inner low i h.4 inner_going (cells_part t _ _ o.around cells))
    | inr w ↦ subst (λ d. ActsAs t place (left_arm d right i before last)) (sym w.1) (swap_acts t place w.0 right i before last)
  ]
  own_acts t name place (right_arm left_result inner last) low high h going cells = elim (going_or inner) [
    | inl inner_going ↦
        let o = own_right all from name place left_result inner last low high h inner_going in
        whole_acts t name place (right_arm left_result inner last) low high inner low last o refl (own_acts t name place inner low last h.1 inner_going (cells_part t _ _ o.around cells))
    | inr w ↦ subst (λ d. ActsAs t place (right_arm left_result d last)) (sym w.1) (sequence_acts t place left_result w.0 last)
  ]
  own_acts t name place (both_arms i last l r ended) low high h going cells = elim (going_or l) [
    | inl left_going ↦
        let o = own_both all from name place i last l r ended low high h left_going in
        whole_acts t name place (both_arms i last l r ended) low high l (i + 1) h.4.0 o (until_finished Change (own_change l) (λ result. joins i) l left_going) (own_acts t name place l (i + 1) h.4.0 h.4.3 left_going (cells_part t _ _ o.around cells))
    | inr w ↦
        let stands : Stands (block_view false r ended) (t.blocks (of i)) = subst (λ v. Stands v (t.blocks (of i))) (if_same View i i (block_view false r ended) (seen_or (found name l i) (found (of i) r i)) refl) (cells.blocks i h.0 (omega (arith, h.1, h.4.1, h.4.2))) in
        subst (λ d. ActsAs t place (both_arms i last d r ended)) (sym w.1) (arm_acts t place i last w.0 r ended h.3 stands)
  ]
    where
      arm_acts : (t : Tables) (place : List ℕ) (i last : ℕ) (left_result : Evidence) (r : Configuration) (ended : Bool) → IsOver ended r → Stands (block_view false r ended) (t.blocks (of i)) → ActsAs t place (both_arms i last (finished left_result) r ended)
      arm_acts t place i last left_result r false is_over stands = wait_acts t place i last left_result r (running_none false (left_of r) (t.blocks (of i)) stands)
      arm_acts t place i last left_result r true is_over stands = elim (going_or r) [
        | inl right_going ↦ absurd (is_over right_going)
        | inr u ↦ subst (λ d. ActsAs t place (both_arms i last (finished left_result) d true)) (sym u.1) (join_acts t place i last left_result u.0 (stands_over left_result u.0 r u.1 stands))
      ]
        where
          stands_over : (left_result result : Evidence) (r : Configuration) → r ≡ finished result → Stands (block_view false r true) (t.blocks (of i)) → t.blocks (of i) ≡ over result
          stands_over left_result result r is stands = subst (λ d. Stands (block_view false d true) (t.blocks (of i))) is stands
  own_acts t name place (finished result) low high h going cells = absurd going

  -- what a change of the tables is of what is said of numbers, and by which effect it comes
  abbrev pub Touches : Block → List ℕ → Configuration → Configuration → ℕ → ℕ → Effect → Change → Type 0
  Touches name place c d low high effect nothing = IsPlain effect × ((n : ℕ) → found name d n ≡ found name c n)
  Touches name place c d low high effect (posts asked_place i before) =
      (effect ≡ sends asked_place i) × IsTouched name c d low high i unseen (waits before)
  Touches name place c d low high effect (forks i before) =
      IsPlain effect × (right : Term) × (j : ℕ) × IsBlockOf all i place right j × IsTouched name c d low high i unseen (runs false (left_of (start right j before)))
  Touches name place c d low high effect (takes i) =
      IsPlain effect × (result : Evidence) × IsTouched name c d low high i (replied result) unseen
  Touches name place c d low high effect (joins i) =
      IsPlain effect × (result : Evidence) × IsTouched name c d low high i (joinable result) unseen
  Touches name place c d low high effect (lifts i) = (effect ≡ asks i) × IsTouched name c d low high i unseen (asks_for name)
  Touches name place c d low high effect (ends result) = ⊥

  pub touched_whole : (s u : Spot) (a : Around all from s u) (d : Configuration) (i : ℕ) (old new : View) → ((n : ℕ) → IsOutside u.low u.high n → found s.name (a.whole d) n ≡ found s.name s.now n) → IsTouched u.name u.now d u.low u.high i old new → IsTouched s.name s.now (a.whole d) s.low s.high i old new
  touched_whole s u a d i old new outside x = record {
    range = record { least = omega (arith, a.least, x.range.least); most = omega (arith, a.most, x.range.most) };
    was = a.was_within i x.range.least x.range.most ∙ x.was;
    now = a.within d i x.range.least x.range.most ∙ x.now;
    others = λ n ne. by_range (found s.name (a.whole d) n ≡ found s.name s.now n) u.low u.high n
        (λ r. a.within d n r.least r.most ∙ x.others n ne ∙ sym (a.was_within n r.least r.most))
        (outside n);
  }

  touches_whole : (name : Block) (place : List ℕ) (c : Configuration) (low high : ℕ) (inner : Configuration) (from_low from_high : ℕ) (o : Own all from name place c low high inner from_low from_high) (d : Configuration) → Fits all place d from_low from_high → (effect : Effect) (change : Change) → Touches name place inner d from_low from_high effect change → Touches name place c (o.around.whole d) low high effect change
  touches_whole name place c low high inner from_low from_high o d f effect nothing h = (
    h.0,
    λ n. by_range (found name (o.around.whole d) n ≡ found name c n) from_low from_high n
        (λ r. o.around.within d n r.least r.most ∙ h.1 n ∙ sym (o.around.was_within n r.least r.most))
        (λ out. o.outside d n f out),
  )
  touches_whole name place c low high inner from_low from_high o d f effect (posts asked_place i before) h = (h.0, touched_whole _ _ o.around d i _ _ (λ n out. o.outside d n f out) h.1)
  touches_whole name place c low high inner from_low from_high o d f effect (forks i before) h = (h.0, h.1, h.2, h.3, touched_whole _ _ o.around d i _ _ (λ n out. o.outside d n f out) h.4)
  touches_whole name place c low high inner from_low from_high o d f effect (takes i) h = (h.0, h.1, touched_whole _ _ o.around d i _ _ (λ n out. o.outside d n f out) h.2)
  touches_whole name place c low high inner from_low from_high o d f effect (joins i) h = (h.0, h.1, touched_whole _ _ o.around d i _ _ (λ n out. o.outside d n f out) h.2)
  touches_whole name place c low high inner from_low from_high o d f effect (lifts i) h = (h.0, touched_whole _ _ o.around d i _ _ (λ n out. o.outside d n f out) h.1)
  touches_whole name place c low high inner from_low from_high o d f effect (ends result) h = absurd h

  whole_touches : (name : Block) (place : List ℕ) (c : Configuration) (low high : ℕ) (inner : Configuration) (from_low from_high : ℕ) (o : Own all from name place c low high inner from_low from_high) → own_change c ≡ own_change inner → Fits all place inner from_low from_high → (step : Step) (m : Made) → own_moves from place c step ≡ Some m → ((n : Made) → own_moves from place inner step ≡ Some n → Touches name place inner n.1 from_low from_high n.0 (own_change inner)) → Touches name place c m.1 low high m.0 (own_change c)
  whole_touches name place c low high inner from_low from_high o changes h step m e touched =
      inside_law (λ n. Touches name place c n.1 low high n.0 (own_change c)) o.around.whole (own_moves from place inner step) m
      (λ n g. subst (λ x. Touches name place c (o.around.whole n.1) low high n.0 x) (sym changes) (touches_whole name place c low high inner from_low from_high o n.1 ((own_law from (StaysFit all) (fit_law all from) place inner step n g).1 from_low from_high h) n.0 (own_change inner) (touched n g)))
      (sym (o.steps step) ∙ e)

  todo_touches : (name : Block) (place : List ℕ) (phrase : Term) (i : ℕ) (before : Evidence) (low high : ℕ) → Fits all place (todo phrase i before) low high → (step : Step) (m : Made) → own_moves from place (todo phrase i before) step ≡ Some m → Touches name place (todo phrase i before) m.1 low high m.0 (own_change (todo phrase i before))
  todo_touches name place (leaf cpy) i before low high h step m e = on_run_law (λ x. Touches name place (todo (leaf cpy) i before) x.1 low high x.0 nothing) step _ _ m (tt, λ n. refl) e
  todo_touches name place (leaf sig) i before low high h step m e = on_run_law (λ x. Touches name place (todo (leaf sig) i before) x.1 low high x.0 nothing) step _ _ m (tt, λ n. refl) e
  todo_touches name place (leaf hsh) i before low high h step m e = on_run_law (λ x. Touches name place (todo (leaf hsh) i before) x.1 low high x.0 nothing) step _ _ m (tt, λ n. refl) e
  todo_touches name place (leaf nul) i before low high h step m e = on_run_law (λ x. Touches name place (todo (leaf nul) i before) x.1 low high x.0 nothing) step _ _ m (tt, λ n. refl) e
  todo_touches name place (leaf (usm asp)) i before low high h step m e =
      on_ask_law (λ x. Touches name place (todo (leaf (usm asp)) i before) x.1 low high x.0 (lifts i)) step _ _ m
      (refl, record { range = record { least = h.1; most = omega (arith, h.2) }; was = refl; now = if_same View i i (asks_for name) unseen refl; others = λ n ne. if_other View n i (asks_for name) unseen ne })
      e
  todo_touches name place (leaf (kim target asp)) i before low high h step m e =
      on_ask_law (λ x. Touches name place (todo (leaf (kim target asp)) i before) x.1 low high x.0 (lifts i)) step _ _ m
      (refl, record { range = record { least = h.1; most = omega (arith, h.2) }; was = refl; now = if_same View i i (asks_for name) unseen refl; others = λ n ne. if_other View n i (asks_for name) unseen ne })
      e
  todo_touches name place (at asked_place body) i before low high h step m e =
      on_run_law (λ x. Touches name place (todo (at asked_place body) i before) x.1 low high x.0 (posts asked_place i before)) step _ _ m
      (refl, record { range = record { least = h.1; most = omega (arith, h.2) }; was = refl; now = if_same View i i (waits before) unseen refl; others = λ n ne. if_other View n i (waits before) unseen ne })
      e
  todo_touches name place (chain l r) i before low high h step m e = absurd h.0
  todo_touches name place (seq split l r) i before low high h step m e =
      on_run_law (λ x. Touches name place (todo (seq split l r) i before) x.1 low high x.0 nothing) step _ _ m (tt, λ n. start_found name n l (i + 1) (part split.left before)) e
  todo_touches name place (par split l r) i before low high h step m e =
      on_run_law (λ x. Touches name place (todo (par split l r) i before) x.1 low high x.0 (forks i (part split.right before))) step _ _ m (
        tt,
        r,
        i + 1 + event_count l,
        h.3.0,
        record {
          range = record { least = h.1; most = omega (arith, h.2) };
          was = refl;
          now = if_same View i i (block_view false (start r (i + 1 + event_count l) (part split.right before)) false) (seen_or (found name (start l (i + 1) (part split.left before)) i) (found (of i) (start r (i + 1 + event_count l) (part split.right before)) i)) refl;
          others = λ n ne.
              if_other View n i (block_view false (start r (i + 1 + event_count l) (part split.right before)) false) (seen_or (found name (start l (i + 1) (part split.left before)) n) (found (of i) (start r (i + 1 + event_count l) (part split.right before)) n)) ne
              ∙ ap (λ v. seen_or v (found (of i) (start r (i + 1 + event_count l) (part split.right before)) n)) (start_found name n l (i + 1) (part split.left before))
              ∙ start_found (of i) n r (i + 1 + event_count l) (part split.right before);
        },
      )
      e

  reply_touches : (name : Block) (place asked_place : List ℕ) (i last : ℕ) (result : Evidence) (ended : Bool) (low high : ℕ) → Fits all place (remote asked_place i last (finished result) ended) low high → (step : Step) (m : Made) → only_if ended (on_run step (happens last) (finished result)) ≡ Some m → Touches name place (remote asked_place i last (finished result) ended) m.1 low high m.0 (takes i)
  reply_touches name place asked_place i last result false low high h step m e = no_move (Touches name place (remote asked_place i last (finished result) false) m.1 low high m.0 (takes i)) m e
  reply_touches name place asked_place i last result true low high h step m e =
      on_run_law (λ x. Touches name place (remote asked_place i last (finished result) true) x.1 low high x.0 (takes i)) step (happens last) (finished result) m (
        tt,
        result,
        record {
          range = record { least = h.0; most = omega (arith, h.1, h.5) };
          was = if_same View i i (block_view true (finished result) true) unseen refl;
          now = refl;
          others = λ n ne. sym (if_other View n i (block_view true (finished result) true) unseen ne);
        },
      )
      e

  join_touches : (name : Block) (place : List ℕ) (i last : ℕ) (left_result result : Evidence) (ended : Bool) (low high : ℕ) → Fits all place (both_arms i last (finished left_result) (finished result) ended) low high → (step : Step) (m : Made) → only_if ended (on_run step (happens last) (finished (par_pair left_result result))) ≡ Some m → Touches name place (both_arms i last (finished left_result) (finished result) ended) m.1 low high m.0 (joins i)
  join_touches name place i last left_result result false low high h step m e = no_move (Touches name place (both_arms i last (finished left_result) (finished result) false) m.1 low high m.0 (joins i)) m e
  join_touches name place i last left_result result true low high h step m e =
      on_run_law (λ x. Touches name place (both_arms i last (finished left_result) (finished result) true) x.1 low high x.0 (joins i)) step (happens last) (finished (par_pair left_result result)) m (
        tt,
        result,
        record {
          range = record { least = h.0; most = omega (arith, h.1, h.4.1, h.4.2) };
          was = if_same View i i (block_view false (finished result) true) unseen refl;
          now = refl;
          others = λ n ne. sym (if_other View n i (block_view false (finished result) true) unseen ne);
        },
      )
      e

  pub own_touches : (name : Block) (place : List ℕ) (c : Configuration) (low high : ℕ) → Fits all place c low high → (step : Step) (m : Made) → own_moves from place c step ≡ Some m → Touches name place c m.1 low high m.0 (own_change c)
  own_touches name place (todo phrase i before) low high h step m e = todo_touches name place phrase i before low high h step m e
  own_touches name place (asked form i before) low high h step m e = no_move (Touches name place (asked form i before) m.1 low high m.0 nothing) m e
  own_touches name place (posted asked_place i body before) low high h step m e = no_move (Touches name place (posted asked_place i body before) m.1 low high m.0 nothing) m e
  own_touches name place (remote asked_place i last inner ended) low high h step m e = elim (going_or inner) [
    | inl inner_going ↦ no_move (Touches name place (remote asked_place i last inner ended) m.1 low high m.0 (takes i)) m (sym (until_finished Moved None (λ result. only_if ended (on_run step (happens last) (finished result))) inner inner_going) ∙ e)
    | inr w ↦
        subst (λ d. Fits all place (remote asked_place i last d ended) low high → own_moves from place (remote asked_place i last d ended) step ≡ Some m → Touches name place (remote asked_place i last d ended) m.1 low high m.0 (takes i)) (sym w.1)
        (λ g f. reply_touches name place asked_place i last w.0 ended low high g step m f) h e
  ]
  own_touches name place (first inner right i) low high h step m e =
      whole_touches name place (first inner right i) low high inner low i (own_first all from name place inner right i low high h) refl h.4 step m e (λ n g. own_touches name place inner low i h.4 step n g)
  own_touches name place (left_arm inner right i before last) low high h step m e = elim (going_or inner) [
    | inl inner_going ↦ whole_touches name place (left_arm inner right i before last) low high inner low i (own_left all from name place inner right i before last low high h inner_going) refl h.4 step m e (λ n g. own_touches name place inner low i h.4 step n g)
    | inr w ↦
        subst (λ d. own_moves from place (left_arm d right i before last) step ≡ Some m → Touches name place (left_arm d right i before last) m.1 low high m.0 (own_change d)) (sym w.1)
        (λ f. on_run_law (λ x. Touches name place (left_arm (finished w.0) right i before last) x.1 low high x.0 nothing) step silent (right_arm w.0 (start right i before) last) m (tt, λ n. start_found name n right i before) f) e
  ]
  own_touches name place (right_arm left_result inner last) low high h step m e = elim (going_or inner) [
    | inl inner_going ↦ whole_touches name place (right_arm left_result inner last) low high inner low last (own_right all from name place left_result inner last low high h inner_going) refl h.1 step m e (λ n g. own_touches name place inner low last h.1 step n g)
    | inr w ↦
        subst (λ d. own_moves from place (right_arm left_result d last) step ≡ Some m → Touches name place (right_arm left_result d last) m.1 low high m.0 (own_change d)) (sym w.1)
        (λ f. on_run_law (λ x. Touches name place (right_arm left_result (finished w.0) last) x.1 low high x.0 nothing) step (happens last) (finished (seq_pair left_result w.0)) m (tt, λ n. refl) f) e
  ]
  own_touches name place (both_arms i last l r ended) low high h step m e = elim (going_or l) [
    | inl left_going ↦ whole_touches name place (both_arms i last l r ended) low high l (i + 1) h.4.0 (own_both all from name place i last l r ended low high h left_going) (until_finished Change (own_change l) (λ result. joins i) l left_going) h.4.3 step m e (λ n g. own_touches name place l (i + 1) h.4.0 h.4.3 step n g)
    | inr w ↦
        subst (λ d. Fits all place (both_arms i last d r ended) low high → own_moves from place (both_arms i last d r ended) step ≡ Some m → Touches name place (both_arms i last d r ended) m.1 low high m.0 (own_change (both_arms i last d r ended))) (sym w.1)
        (λ g f. elim (going_or r) [
          | inl right_going ↦ no_move (Touches name place (both_arms i last (finished w.0) r ended) m.1 low high m.0 (joins i)) m (sym (until_finished Moved None (λ result. only_if ended (on_run step (happens last) (finished (par_pair w.0 result)))) r right_going) ∙ f)
          | inr u ↦
              subst (λ d. Fits all place (both_arms i last (finished w.0) d ended) low high → own_moves from place (both_arms i last (finished w.0) d ended) step ≡ Some m → Touches name place (both_arms i last (finished w.0) d ended) m.1 low high m.0 (joins i)) (sym u.1)
              (λ g' f'. join_touches name place i last w.0 u.0 ended low high g' step m f') g f
        ])
        h e
  ]
  own_touches name place (finished result) low high h step m e = no_move (Touches name place (finished result) m.1 low high m.0 nothing) m e
