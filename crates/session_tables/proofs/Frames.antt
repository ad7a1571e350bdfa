-- A part of a configuration in its whole: its moves are moves of the whole, and change nothing of what the whole says
-- outside the part.
use Rattle.std.proofs.Common.{◌≡◌, ℕ, ◌+◌, ◌≤◌, ◌<◌, inl, inr, List, [], ◌∷◌, refl, sym, ◌∙◌, ap, arith}
use Rattle.std.specs.Prelude.{Bool, true, false, None, nat_eq, if◌then◌else◌}
use Rattle.std.proofs.lemmas.Bool.{cases_eq}
use Rattle.phrase_tree.specs.Term.{Term}
use Rattle.evidence_types.specs.Evidence.{Evidence}
use Rattle.session_model.specs.Value.{Makings}
use Rattle.avm_code.specs.declared.instr.Instr.{Instr}
use Rattle.avm_code.specs.declared.instr.Instr.TheVariants.{Swap, JoinSeq, JoinPar, End}
use Rattle.avm_code.specs.declared.program.Block.{Block as CodeBlock}
use Rattle.avm_compile.specs.Program.{code_of}
use Rattle.session_runs.specs.Configuration.{Configuration, remote, first, left_arm, right_arm, both_arms, followed_by}
use Rattle.session_runs.specs.Moves.{Step, Deed, Moved, on_step, inside, own_moves, block_moves, inner_moves}
use Rattle.session_runs.specs.Standing.{Block, of}
use Rattle.session_runs.proofs.ProgressLaws.{IsGoing}
use Rattle.session_tables.specs.Left.{code_left, held, stack_left, left, left_of}
use Rattle.session_tables.specs.Found.{View, runs, seen_or, block_view, found}
use Rattle.session_tables.proofs.Starting.{until_finished, followed_code, followed_held, followed_stack, followed_found}
use Rattle.session_tables.proofs.Fitting.{Fits, followed_fits, IsOutside, if_other, if_same, seen_or_none, outside}
use Rattle.session_tables.proofs.Deeds.{deed_number, suits_none, none_inside, none_else, else_none, other_step, no_deed}

-- the same is left of both
pub record Same (c d : Configuration) : Type 0 where
  pub code : (behind : List Instr) → code_left c behind ≡ code_left d behind
  pub evidence : held c ≡ held d
  pub stack : (under : List Evidence) → stack_left c under ≡ stack_left d under

pub same_left : (c d : Configuration) → Same c d → left_of c ≡ left_of d
same_left c d h =
    ap (λ x. left x (held c) (stack_left c [])) (h.code (End ∷ []))
    ∙ ap (λ x. left (code_left d (End ∷ [])) x (stack_left c [])) h.evidence
    ∙ ap (λ x. left (code_left d (End ∷ [])) (held d) x) (h.stack [])

-- a configuration that a block runs at a place, with the range of its numbers
pub record Spot : Type 0 where
  pub name : Block
  pub place : List ℕ
  pub now : Configuration
  pub low : ℕ
  pub high : ℕ

abbrev pub spot : Block → List ℕ → Configuration → ℕ → ℕ → Spot
spot name place now low high = record { name = name; place = place; now = now; low = low; high = high }

abbrev pub SpotFits : List CodeBlock → Spot → Type 0
SpotFits all s = Fits all s.place s.now s.low s.high

-- the second stands in the first
pub record Around (all : List CodeBlock) (from : Makings) (s t : Spot) : Type 0 where
  pub whole : Configuration → Configuration
  pub least : s.low ≤ t.low
  pub most : t.high ≤ s.high
  pub fits : (d : Configuration) → Fits all t.place d t.low t.high → Fits all s.place (whole d) s.low s.high
  pub deeds : (deed : Deed) → t.low ≤ deed_number deed → deed_number deed < t.high → inner_moves from s.place s.now deed ≡ inside whole (inner_moves from t.place t.now deed)
  pub within : (d : Configuration) (n : ℕ) → t.low ≤ n → n < t.high → found s.name (whole d) n ≡ found t.name d n
  pub was_within : (n : ℕ) → t.low ≤ n → n < t.high → found s.name s.now n ≡ found t.name t.now n
  pub outside : (d : Configuration) (n : ℕ) → Fits all t.place d t.low t.high → Same d t.now → IsOutside t.low t.high n → found s.name (whole d) n ≡ found s.name s.now n
  pub same : (d : Configuration) → Same d t.now → Same (whole d) s.now

-- it stands there in the same block, and is the next to move in it
pub record Own (all : List CodeBlock) (from : Makings) (name : Block) (place : List ℕ) (c : Configuration) (low high : ℕ) (part : Configuration) (from_low from_high : ℕ) : Type 0 where
  pub around : Around all from (spot name place c low high) (spot name place part from_low from_high)
  pub behind : List Instr → List Instr
  pub under : List Evidence → List Evidence
  pub steps : (step : Step) → own_moves from place c step ≡ inside around.whole (own_moves from place part step)
  pub code : (d : Configuration) (k : List Instr) → code_left (around.whole d) k ≡ code_left d (behind k)
  pub was_code : (k : List Instr) → code_left c k ≡ code_left part (behind k)
  pub evidence : (d : Configuration) → held (around.whole d) ≡ held d
  pub was_evidence : held c ≡ held part
  pub stack : (d : Configuration) (s : List Evidence) → stack_left (around.whole d) s ≡ stack_left d (under s)
  pub was_stack : (s : List Evidence) → stack_left c s ≡ stack_left part (under s)
  pub outside : (d : Configuration) (n : ℕ) → Fits all place d from_low from_high → IsOutside from_low from_high n → found name (around.whole d) n ≡ found name c n

-- it is what a block of its own there runs, which hasn't ended
pub record Cross (all : List CodeBlock) (from : Makings) (s : Spot) (i : ℕ) (place : List ℕ) (c : Configuration) (low high : ℕ) : Type 0 where
  pub around : Around all from s (spot (of i) place c low high)
  pub least : s.low ≤ i
  pub below : i + 1 ≤ low
  pub for_request : Bool
  pub view : (d : Configuration) → found s.name (around.whole d) i ≡ runs for_request (left_of d)
  pub was_view : found s.name s.now i ≡ runs for_request (left_of c)
  pub same : (d : Configuration) → Same (around.whole d) s.now
  pub outside : (d : Configuration) (n : ℕ) → Fits all place d low high → (n ≡ i → ⊥) → IsOutside low high n → found s.name (around.whole d) n ≡ found s.name s.now n

module _ (all : List CodeBlock) (from : Makings) where
  -- nothing of a number that isn't in the range
  pub unseen_both : (name : Block) (place : List ℕ) (c d : Configuration) (low high n : ℕ) → Fits all place c low high → Fits all place d low high → IsOutside low high n → found name c n ≡ found name d n
  unseen_both name place c d low high n f g out =
      outside all name place c low high n f out ∙ sym (outside all name place d low high n g out)

  pub no_move_outside : (name : Block) (place : List ℕ) (c : Configuration) (low high : ℕ) (deed : Deed) → Fits all place c low high → IsOutside low high (deed_number deed) → inner_moves from place c deed ≡ None
  no_move_outside name place c low high deed f out =
      no_deed all from name place c low high deed f (suits_none (found name c (deed_number deed)) deed (outside all name place c low high (deed_number deed) f out))

  pub remote_outside : (name : Block) (asked_place : List ℕ) (i last : ℕ) (c d : Configuration) (n : ℕ) → Fits all asked_place c (i + 1) last → Fits all asked_place d (i + 1) last → (n ≡ i → ⊥) → IsOutside (i + 1) last n → found name (remote asked_place i last d false) n ≡ found name (remote asked_place i last c false) n
  remote_outside name asked_place i last c d n h f ne out =
      if_other View n i (block_view true d false) (found (of i) d n) ne ∙ unseen_both (of i) asked_place d c (i + 1) last n f h out ∙ sym (if_other View n i (block_view true c false) (found (of i) c n) ne)

  pub arm_outside : (name : Block) (place : List ℕ) (i last : ℕ) (l c d : Configuration) (low high n : ℕ) → Fits all place c low high → Fits all place d low high → (n ≡ i → ⊥) → IsOutside low high n → found name (both_arms i last l d false) n ≡ found name (both_arms i last l c false) n
  arm_outside name place i last l c d low high n h f ne out =
      if_other View n i (block_view false d false) (seen_or (found name l n) (found (of i) d n)) ne ∙ ap (λ v. seen_or (found name l n) v) (unseen_both (of i) place d c low high n f h out) ∙ sym (if_other View n i (block_view false c false) (seen_or (found name l n) (found (of i) c n)) ne)

  abbrev pub around_remote : (name : Block) (place asked_place : List ℕ) (i last : ℕ) (inner : Configuration) (low high : ℕ) → Fits all place (remote asked_place i last inner false) low high → Around all from (spot name place (remote asked_place i last inner false) low high) (spot (of i) asked_place inner (i + 1) last)
  around_remote name place asked_place i last inner low high h = record {
    whole = λ d. remote asked_place i last d false;
    least = omega (arith, h.0);
    most = omega (arith, h.1);
    fits = λ d f. (h.0, h.1, h.2, tt, f, h.5);
    deeds = λ deed le lt. else_none (inside (λ after. remote asked_place i last after false) (inner_moves from asked_place inner deed)) (on_step deed i (block_moves inner false (λ after over. remote asked_place i last after over) (own_moves from asked_place inner))) (other_step deed i _ (λ e. omega (arith, e, le)));
    within = λ d n le lt. if_other View n i (block_view true d false) (found (of i) d n) (λ e. omega (arith, e, le));
    was_within = λ n le lt. if_other View n i (block_view true inner false) (found (of i) inner n) (λ e. omega (arith, e, le));
    outside = λ d n f same out. elim (cases_eq n i) [
      | inl is ↦ if_same View n i (block_view true d false) (found (of i) d n) is ∙ ap (λ x. runs true x) (same_left d inner same) ∙ sym (if_same View n i (block_view true inner false) (found (of i) inner n) is)
      | inr ne ↦ remote_outside name asked_place i last inner d n h.4 f ne out
    ];
    same = λ d same. record { code = λ k. refl; evidence = refl; stack = λ s. refl };
  }

  abbrev pub around_arm : (name : Block) (place : List ℕ) (i last : ℕ) (l r : Configuration) (low high : ℕ) (h : Fits all place (both_arms i last l r false) low high) → Around all from (spot name place (both_arms i last l r false) low high) (spot (of i) place r h.4.0 last)
  around_arm name place i last l r low high h = record {
    whole = λ d. both_arms i last l d false;
    least = omega (arith, h.0, h.4.1);
    most = omega (arith, h.1);
    fits = λ d f. (h.0, h.1, h.2, tt, (h.4.0, h.4.1, h.4.2, h.4.3, f));
    deeds = λ deed le lt.
        none_else (inside (λ after. both_arms i last after r false) (inner_moves from place l deed)) _ (none_inside (λ after. both_arms i last after r false) (inner_moves from place l deed) (no_move_outside name place l (i + 1) h.4.0 deed h.4.3 (λ g. le)))
        ∙ else_none (inside (λ after. both_arms i last l after false) (inner_moves from place r deed)) _ (other_step deed i (block_moves r false (λ after over. both_arms i last l after over) (own_moves from place r)) (λ e. omega (arith, e, le, h.4.1)));
    within = λ d n le lt.
        if_other View n i (block_view false d false) (seen_or (found name l n) (found (of i) d n)) (λ e. omega (arith, e, le, h.4.1))
        ∙ ap (λ v. seen_or v (found (of i) d n)) (outside all name place l (i + 1) h.4.0 n h.4.3 (λ g. le));
    was_within = λ n le lt.
        if_other View n i (block_view false r false) (seen_or (found name l n) (found (of i) r n)) (λ e. omega (arith, e, le, h.4.1))
        ∙ ap (λ v. seen_or v (found (of i) r n)) (outside all name place l (i + 1) h.4.0 n h.4.3 (λ g. le));
    outside = λ d n f same out. elim (cases_eq n i) [
      | inl is ↦ if_same View n i (block_view false d false) (seen_or (found name l n) (found (of i) d n)) is ∙ ap (λ x. runs false x) (same_left d r same) ∙ sym (if_same View n i (block_view false r false) (seen_or (found name l n) (found (of i) r n)) is)
      | inr ne ↦ arm_outside name place i last l r d h.4.0 last n h.4.4 f ne out
    ];
    same = λ d same. record { code = λ k. refl; evidence = refl; stack = λ s. refl };
  }

  abbrev pub around_first : (name : Block) (place : List ℕ) (inner : Configuration) (right : Term) (i low high : ℕ) → Fits all place (first inner right i) low high → Around all from (spot name place (first inner right i) low high) (spot name place inner low i)
  around_first name place inner right i low high h = record {
    whole = λ d. followed_by d right i;
    least = omega arith;
    most = omega (arith, h.2);
    fits = λ d f. followed_fits all place low high right i d h.1 h.2 h.3 f;
    deeds = λ deed le lt. refl;
    within = λ d n le lt. followed_found name n right i d;
    was_within = λ n le lt. refl;
    outside = λ d n f same out. followed_found name n right i d ∙ unseen_both name place d inner low i n f h.4 out;
    same = λ d same. record { code = λ k. followed_code right i d k ∙ same.code (code_of right i k); evidence = followed_held right i d ∙ same.evidence; stack = λ s. followed_stack right i d s ∙ same.stack s };
  }

  abbrev pub around_left : (name : Block) (place : List ℕ) (inner : Configuration) (right : Term) (i : ℕ) (before : Evidence) (last low high : ℕ) → Fits all place (left_arm inner right i before last) low high → Around all from (spot name place (left_arm inner right i before last) low high) (spot name place inner low i)
  around_left name place inner right i before last low high h = record {
    whole = λ d. left_arm d right i before last;
    least = omega arith;
    most = omega (arith, h.1, h.2);
    fits = λ d f. (h.0, h.1, h.2, h.3, f);
    deeds = λ deed le lt. refl;
    within = λ d n le lt. refl;
    was_within = λ n le lt. refl;
    outside = λ d n f same out. unseen_both name place d inner low i n f h.4 out;
    same = λ d same. record { code = λ k. same.code (Swap ∷ code_of right i (JoinSeq last ∷ k)); evidence = same.evidence; stack = λ s. same.stack (before ∷ s) };
  }

  abbrev pub around_right : (name : Block) (place : List ℕ) (left_result : Evidence) (inner : Configuration) (last low high : ℕ) → Fits all place (right_arm left_result inner last) low high → Around all from (spot name place (right_arm left_result inner last) low high) (spot name place inner low last)
  around_right name place left_result inner last low high h = record {
    whole = λ d. right_arm left_result d last;
    least = omega arith;
    most = omega (arith, h.0);
    fits = λ d f. (h.0, f);
    deeds = λ deed le lt. refl;
    within = λ d n le lt. refl;
    was_within = λ n le lt. refl;
    outside = λ d n f same out. unseen_both name place d inner low last n f h.1 out;
    same = λ d same. record { code = λ k. same.code (JoinSeq last ∷ k); evidence = same.evidence; stack = λ s. same.stack (left_result ∷ s) };
  }

  pub both_outside : (name : Block) (place : List ℕ) (i last : ℕ) (l d r : Configuration) (ended : Bool) (low high n : ℕ) → Fits all place l low high → Fits all place d low high → IsOutside low high n → found name (both_arms i last d r ended) n ≡ found name (both_arms i last l r ended) n
  both_outside name place i last l d r ended low high n h f out =
      ap (λ v. if nat_eq n i then block_view false r ended else seen_or v (found (of i) r n)) (unseen_both name place d l low high n f h out)

  abbrev pub around_both : (name : Block) (place : List ℕ) (i last : ℕ) (l r : Configuration) (ended : Bool) (low high : ℕ) (h : Fits all place (both_arms i last l r ended) low high) → Around all from (spot name place (both_arms i last l r ended) low high) (spot name place l (i + 1) h.4.0)
  around_both name place i last l r ended low high h = record {
    whole = λ d. both_arms i last d r ended;
    least = omega (arith, h.0);
    most = omega (arith, h.1, h.4.2);
    fits = λ d f. (h.0, h.1, h.2, h.3, (h.4.0, h.4.1, h.4.2, f, h.4.4));
    deeds = λ deed le lt.
        else_none (inside (λ after. both_arms i last after r ended) (inner_moves from place l deed)) _
        (none_else (inside (λ after. both_arms i last l after ended) (inner_moves from place r deed)) _ (none_inside (λ after. both_arms i last l after ended) (inner_moves from place r deed) (no_move_outside (of i) place r h.4.0 last deed h.4.4 (λ g. omega (arith, g, lt))))
        ∙ other_step deed i (block_moves r ended (λ after over. both_arms i last l after over) (own_moves from place r)) (λ e. omega (arith, e, le)));
    within = λ d n le lt.
        if_other View n i (block_view false r ended) (seen_or (found name d n) (found (of i) r n)) (λ e. omega (arith, e, le))
        ∙ ap (λ v. seen_or (found name d n) v) (outside all (of i) place r h.4.0 last n h.4.4 (λ g. omega (arith, g, lt)))
        ∙ seen_or_none (found name d n);
    was_within = λ n le lt.
        if_other View n i (block_view false r ended) (seen_or (found name l n) (found (of i) r n)) (λ e. omega (arith, e, le))
        ∙ ap (λ v. seen_or (found name l n) v) (outside all (of i) place r h.4.0 last n h.4.4 (λ g. omega (arith, g, lt)))
        ∙ seen_or_none (found name l n);
    outside = λ d n f same out. both_outside name place i last l d r ended (i + 1) h.4.0 n h.4.3 f out;
    same = λ d same. record { code = λ k. same.code (JoinPar last i ∷ k); evidence = same.evidence; stack = λ s. same.stack s };
  }

  pub own_first : (name : Block) (place : List ℕ) (inner : Configuration) (right : Term) (i low high : ℕ) → Fits all place (first inner right i) low high → Own all from name place (first inner right i) low high inner low i
  own_first name place inner right i low high h = record {
    around = around_first name place inner right i low high h;
    behind = λ k. code_of right i k;
    under = λ s. s;
    steps = λ step. refl;
    code = λ d k. followed_code right i d k;
    was_code = λ k. refl;
    evidence = λ d. followed_held right i d;
    was_evidence = refl;
    stack = λ d s. followed_stack right i d s;
    was_stack = λ s. refl;
    outside = λ d n f out. followed_found name n right i d ∙ unseen_both name place d inner low i n f h.4 out;
  }

  pub own_left : (name : Block) (place : List ℕ) (inner : Configuration) (right : Term) (i : ℕ) (before : Evidence) (last low high : ℕ) → Fits all place (left_arm inner right i before last) low high → IsGoing inner → Own all from name place (left_arm inner right i before last) low high inner low i
  own_left name place inner right i before last low high h going = record {
    around = around_left name place inner right i before last low high h;
    behind = λ k. Swap ∷ code_of right i (JoinSeq last ∷ k);
    under = λ s. before ∷ s;
    steps = λ step. until_finished Moved _ _ inner going;
    code = λ d k. refl;
    was_code = λ k. refl;
    evidence = λ d. refl;
    was_evidence = refl;
    stack = λ d s. refl;
    was_stack = λ s. refl;
    outside = λ d n f out. unseen_both name place d inner low i n f h.4 out;
  }

  pub own_right : (name : Block) (place : List ℕ) (left_result : Evidence) (inner : Configuration) (last low high : ℕ) → Fits all place (right_arm left_result inner last) low high → IsGoing inner → Own all from name place (right_arm left_result inner last) low high inner low last
  own_right name place left_result inner last low high h going = record {
    around = around_right name place left_result inner last low high h;
    behind = λ k. JoinSeq last ∷ k;
    under = λ s. left_result ∷ s;
    steps = λ step. until_finished Moved _ _ inner going;
    code = λ d k. refl;
    was_code = λ k. refl;
    evidence = λ d. refl;
    was_evidence = refl;
    stack = λ d s. refl;
    was_stack = λ s. refl;
    outside = λ d n f out. unseen_both name place d inner low last n f h.1 out;
  }

  pub own_both : (name : Block) (place : List ℕ) (i last : ℕ) (l r : Configuration) (ended : Bool) (low high : ℕ) (h : Fits all place (both_arms i last l r ended) low high) → IsGoing l → Own all from name place (both_arms i last l r ended) low high l (i + 1) h.4.0
  own_both name place i last l r ended low high h going = record {
    around = around_both name place i last l r ended low high h;
    behind = λ k. JoinPar last i ∷ k;
    under = λ s. s;
    steps = λ step. until_finished Moved _ _ l going;
    code = λ d k. refl;
    was_code = λ k. refl;
    evidence = λ d. refl;
    was_evidence = refl;
    stack = λ d s. refl;
    was_stack = λ s. refl;
    outside = λ d n f out. both_outside name place i last l d r ended (i + 1) h.4.0 n h.4.3 f out;
  }

  pub cross_remote : (name : Block) (place asked_place : List ℕ) (i last : ℕ) (inner : Configuration) (low high : ℕ) → Fits all place (remote asked_place i last inner false) low high → Cross all from (spot name place (remote asked_place i last inner false) low high) i asked_place inner (i + 1) last
  cross_remote name place asked_place i last inner low high h = record {
    around = around_remote name place asked_place i last inner low high h;
    least = h.0;
    below = omega arith;
    for_request = true;
    view = λ d. if_same View i i (block_view true d false) (found (of i) d i) refl;
    was_view = if_same View i i (block_view true inner false) (found (of i) inner i) refl;
    same = λ d. record { code = λ k. refl; evidence = refl; stack = λ s. refl };
    outside = λ d n f ne out. remote_outside name asked_place i last inner d n h.4 f ne out;
  }

  pub cross_arm : (name : Block) (place : List ℕ) (i last : ℕ) (l r : Configuration) (low high : ℕ) (h : Fits all place (both_arms i last l r false) low high) → Cross all from (spot name place (both_arms i last l r false) low high) i place r h.4.0 last
  cross_arm name place i last l r low high h = record {
    around = around_arm name place i last l r low high h;
    least = h.0;
    below = h.4.1;
    for_request = false;
    view = λ d. if_same View i i (block_view false d false) (seen_or (found name l i) (found (of i) d i)) refl;
    was_view = if_same View i i (block_view false r false) (seen_or (found name l i) (found (of i) r i)) refl;
    same = λ d. record { code = λ k. refl; evidence = refl; stack = λ s. refl };
    outside = λ d n f ne out. arm_outside name place i last l r d h.4.0 last n h.4.4 f ne out;
  }
