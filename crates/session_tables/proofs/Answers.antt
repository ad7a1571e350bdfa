-- The answer of an ask in flight: the block that asked goes on, in the configuration itself or in a block below.
use Rattle.std.proofs.Common.{◌≡◌, ℕ, List, [], ◌∷◌, refl, sym, ◌∙◌, ap, arith}
use Rattle.std.specs.Prelude.{Bool, true, false, None, Some}
use Rattle.phrase_tree.specs.Term.{Leaf, cpy, sig, hsh, nul, usm, kim, is_measurement}
use Rattle.evidence_types.specs.Evidence.{Evidence}
use Rattle.session_model.specs.Value.{Makings}
use Rattle.avm_code.specs.declared.instr.Instr.{Instr}
use Rattle.avm_code.specs.declared.instr.Instr.TheVariants.{Usm, Kim, End}
use Rattle.avm_code.specs.declared.program.Block.{Block as CodeBlock}
use Rattle.machine_tables.specs.Row.{measured}
use Rattle.session_runs.specs.Configuration.{Configuration, asked, finished, measurement}
use Rattle.session_runs.specs.Moves.{answer, answers, Moved, inside, inner_moves}
use Rattle.session_runs.specs.Standing.{Block, of}
use Rattle.session_tables.specs.Left.{code_left, held, stack_left, Left, left_of}
use Rattle.machine_tables.specs.Allowed.{Measures}
use Rattle.session_tables.specs.Found.{View, unseen, asks_for, runs, block_view, found}
use Rattle.session_tables.proofs.Fitting.{Fits, if_other, if_same}
use Rattle.session_tables.proofs.Frames.{Same, Spot, spot, Around, Own, Cross}
use Rattle.session_tables.proofs.Zoom.{InRange, IsZoom, zoom}
use Rattle.session_tables.proofs.OwnMoves.{IsTouched, by_range, touched_whole}

-- the answer of an ask by the block that runs this
pub record OwnAnswer (all : List CodeBlock) (from : Makings) (n : ℕ) (s : Spot) : Type 0 where
  pub instr : Instr
  pub before : Evidence
  pub measures : Measures n instr
  pub after : List ℕ → Configuration
  pub code : (bytes : List ℕ) (k : List Instr) → code_left s.now k ≡ instr ∷ code_left (after bytes) k
  pub was_held : held s.now ≡ Some before
  pub now_held : (bytes : List ℕ) → held (after bytes) ≡ Some (measured instr bytes before)
  pub stack : (bytes : List ℕ) (u : List Evidence) → stack_left s.now u ≡ stack_left (after bytes) u
  pub moves : (bytes : List ℕ) → inner_moves from s.place s.now (answer n bytes) ≡ Some (answers n bytes, after bytes)
  pub kept : (bytes : List ℕ) → Fits all s.place (after bytes) s.low s.high
  pub touched : (bytes : List ℕ) → IsTouched s.name s.now (after bytes) s.low s.high n (asks_for s.name) unseen

-- what is left of a block is less by the measurement that was answered
pub record IsAnswered (n : ℕ) (was now : Left) (bytes : List ℕ) : Type 0 where
  pub instr : Instr
  pub before : Evidence
  pub measures : Measures n instr
  pub code : was.code ≡ instr ∷ now.code
  pub was_held : was.evidence ≡ Some before
  pub now_held : now.evidence ≡ Some (measured instr bytes before)
  pub stack : was.stack ≡ now.stack

-- the answer of an ask by a block below
pub record LowerAnswer (all : List CodeBlock) (from : Makings) (n m : ℕ) (s : Spot) : Type 0 where
  pub for_request : Bool
  pub was : Left
  pub now : List ℕ → Left
  pub after : List ℕ → Configuration
  pub goes_on : (bytes : List ℕ) → IsAnswered n was (now bytes) bytes
  pub block_range : InRange s.low s.high m
  pub apart : n ≡ m → ⊥
  pub block_was : found s.name s.now m ≡ runs for_request was
  pub block_now : (bytes : List ℕ) → found s.name (after bytes) m ≡ runs for_request (now bytes)
  pub gone : (bytes : List ℕ) → found s.name (after bytes) n ≡ unseen
  pub others : (bytes : List ℕ) (k : ℕ) → (k ≡ n → ⊥) → (k ≡ m → ⊥) → found s.name (after bytes) k ≡ found s.name s.now k
  pub moves : (bytes : List ℕ) → inner_moves from s.place s.now (answer n bytes) ≡ Some (answers n bytes, after bytes)
  pub kept : (bytes : List ℕ) → Fits all s.place (after bytes) s.low s.high
  pub same : (bytes : List ℕ) → Same (after bytes) s.now

pub data Answered (all : List CodeBlock) (from : Makings) (n : ℕ) (asker : Block) (s : Spot) : Type 0 where
  by_own : asker ≡ s.name → OwnAnswer all from n s → Answered all from n asker s
  by_lower : (m : ℕ) → asker ≡ of m → LowerAnswer all from n m s → Answered all from n asker s

module _ (all : List CodeBlock) (from : Makings) where
  own_asked : (n : ℕ) (name : Block) (place : List ℕ) (form : Leaf) (before : Evidence) (low high : ℕ) → Fits all place (asked form n before) low high → OwnAnswer all from n (spot name place (asked form n before) low high)
  own_asked n name place cpy before low high h = not_asked h.0
    where
      not_asked : is_measurement cpy ≡ true → OwnAnswer all from n (spot name place (asked cpy n before) low high)
      not_asked e = absurd (cc)
  own_asked n name place sig before low high h = not_asked h.0
    where
      not_asked : is_measurement sig ≡ true → OwnAnswer all from n (spot name place (asked sig n before) low high)
      not_asked e = absurd (cc)
  own_asked n name place hsh before low high h = not_asked h.0
    where
      not_asked : is_measurement hsh ≡ true → OwnAnswer all from n (spot name place (asked hsh n before) low high)
      not_asked e = absurd (cc)
  own_asked n name place nul before low high h = not_asked h.0
    where
      not_asked : is_measurement nul ≡ true → OwnAnswer all from n (spot name place (asked nul n before) low high)
      not_asked e = absurd (cc)
  own_asked n name place (usm asp) before low high h = record {
    instr = Usm n asp;
    before = before;
    measures = refl;
    after = λ bytes. finished (measurement (usm asp) n bytes before);
    code = λ bytes k. refl;
    was_held = refl;
    now_held = λ bytes. refl;
    stack = λ bytes u. refl;
    moves = λ bytes. if_same Moved n n _ None refl;
    kept = λ bytes. tt;
    touched = λ bytes. record { range = record { least = h.1; most = omega (arith, h.2) }; was = if_same View n n (asks_for name) unseen refl; now = refl; others = λ k ne. sym (if_other View k n (asks_for name) unseen ne) };
  }
  own_asked n name place (kim target asp) before low high h = record {
    instr = Kim n target asp;
    before = before;
    measures = refl;
    after = λ bytes. finished (measurement (kim target asp) n bytes before);
    code = λ bytes k. refl;
    was_held = refl;
    now_held = λ bytes. refl;
    stack = λ bytes u. refl;
    moves = λ bytes. if_same Moved n n _ None refl;
    kept = λ bytes. tt;
    touched = λ bytes. record { range = record { least = h.1; most = omega (arith, h.2) }; was = if_same View n n (asks_for name) unseen refl; now = refl; others = λ k ne. sym (if_other View k n (asks_for name) unseen ne) };
  }

  own_whole : (n : ℕ) (name : Block) (place : List ℕ) (c : Configuration) (low high : ℕ) (part : Configuration) (from_low from_high : ℕ) → Own all from name place c low high part from_low from_high → InRange from_low from_high n → OwnAnswer all from n (spot name place part from_low from_high) → OwnAnswer all from n (spot name place c low high)
  own_whole n name place c low high part from_low from_high o r a = record {
    instr = a.instr;
    before = a.before;
    measures = a.measures;
    after = λ bytes. o.around.whole (a.after bytes);
    code = λ bytes k. o.was_code k ∙ a.code bytes (o.behind k) ∙ ap (λ x. a.instr ∷ x) (sym (o.code (a.after bytes) k));
    was_held = o.was_evidence ∙ a.was_held;
    now_held = λ bytes. o.evidence (a.after bytes) ∙ a.now_held bytes;
    stack = λ bytes u. o.was_stack u ∙ a.stack bytes (o.under u) ∙ sym (o.stack (a.after bytes) u);
    moves = λ bytes. o.around.deeds (answer n bytes) r.least r.most ∙ ap (λ x. inside o.around.whole x) (a.moves bytes);
    kept = λ bytes. o.around.fits (a.after bytes) (a.kept bytes);
    touched = λ bytes. touched_whole all from (spot name place c low high) (spot name place part from_low from_high) o.around (a.after bytes) n (asks_for name) unseen (λ k out. o.outside (a.after bytes) k (a.kept bytes) out) (a.touched bytes);
  }

  pub answered_left : (n : ℕ) (s : Spot) (a : OwnAnswer all from n s) (bytes : List ℕ) → IsAnswered n (left_of s.now) (left_of (a.after bytes)) bytes
  answered_left n s a bytes = record {
    instr = a.instr;
    before = a.before;
    measures = a.measures;
    code = a.code bytes (End ∷ []);
    was_held = a.was_held;
    now_held = a.now_held bytes;
    stack = a.stack bytes [];
  }

  -- an ask of a block is one below what the block stands in
  lower_cross : (n : ℕ) (s : Spot) (i : ℕ) (place : List ℕ) (c : Configuration) (low high : ℕ) → Cross all from s i place c low high → InRange low high n → OwnAnswer all from n (spot (of i) place c low high) → LowerAnswer all from n i s
  lower_cross n s i place c low high x r a = record {
    for_request = x.for_request;
    was = left_of c;
    now = λ bytes. left_of (a.after bytes);
    after = λ bytes. x.around.whole (a.after bytes);
    goes_on = λ bytes. answered_left n (spot (of i) place c low high) a bytes;
    block_range = record { least = x.least; most = omega (arith, x.below, r.least, r.most, x.around.most) };
    apart = λ e. omega (arith, e, x.below, r.least);
    block_was = x.was_view;
    block_now = λ bytes. x.view (a.after bytes);
    gone = λ bytes. x.around.within (a.after bytes) n r.least r.most ∙ (a.touched bytes).now;
    others = λ bytes k ne other. by_range (found s.name (x.around.whole (a.after bytes)) k ≡ found s.name s.now k) low high k
        (λ q. x.around.within (a.after bytes) k q.least q.most ∙ (a.touched bytes).others k ne ∙ sym (x.around.was_within k q.least q.most))
        (λ q. x.outside (a.after bytes) k (a.kept bytes) other q);
    moves = λ bytes. x.around.deeds (answer n bytes) r.least r.most ∙ ap (λ y. inside x.around.whole y) (a.moves bytes);
    kept = λ bytes. x.around.fits (a.after bytes) (a.kept bytes);
    same = λ bytes. x.same (a.after bytes);
  }

  lower_around : (n m : ℕ) (s u : Spot) → Around all from s u → InRange u.low u.high n → LowerAnswer all from n m u → LowerAnswer all from n m s
  lower_around n m s u a r l = record {
    for_request = l.for_request;
    was = l.was;
    now = l.now;
    after = λ bytes. a.whole (l.after bytes);
    goes_on = l.goes_on;
    block_range = record { least = omega (arith, a.least, l.block_range.least); most = omega (arith, a.most, l.block_range.most) };
    apart = l.apart;
    block_was = a.was_within m l.block_range.least l.block_range.most ∙ l.block_was;
    block_now = λ bytes. a.within (l.after bytes) m l.block_range.least l.block_range.most ∙ l.block_now bytes;
    gone = λ bytes. a.within (l.after bytes) n r.least r.most ∙ l.gone bytes;
    others = λ bytes k ne other. by_range (found s.name (a.whole (l.after bytes)) k ≡ found s.name s.now k) u.low u.high k
        (λ q. a.within (l.after bytes) k q.least q.most ∙ l.others bytes k ne other ∙ sym (a.was_within k q.least q.most))
        (λ q. a.outside (l.after bytes) k (l.kept bytes) (l.same bytes) q);
    moves = λ bytes. a.deeds (answer n bytes) r.least r.most ∙ ap (λ y. inside a.whole y) (l.moves bytes);
    kept = λ bytes. a.fits (l.after bytes) (l.kept bytes);
    same = λ bytes. a.same (l.after bytes) (l.same bytes);
  }

  in_own_block : (n : ℕ) (asker : Block) (name : Block) (place : List ℕ) (c : Configuration) (low high : ℕ) (part : Configuration) (from_low from_high : ℕ) → Own all from name place c low high part from_low from_high → InRange from_low from_high n → Answered all from n asker (spot name place part from_low from_high) → Answered all from n asker (spot name place c low high)
  in_own_block n asker name place c low high part from_low from_high o r (by_own e a) = by_own e (own_whole n name place c low high part from_low from_high o r a)
  in_own_block n asker name place c low high part from_low from_high o r (by_lower m e l) = by_lower m e (lower_around n m _ _ o.around r l)

  in_other_block : (n : ℕ) (asker : Block) (s : Spot) (i : ℕ) (place : List ℕ) (c : Configuration) (low high : ℕ) → Cross all from s i place c low high → InRange low high n → Answered all from n asker (spot (of i) place c low high) → Answered all from n asker s
  in_other_block n asker s i place c low high x r (by_own e a) = by_lower i e (lower_cross n s i place c low high x r a)
  in_other_block n asker s i place c low high x r (by_lower m e l) = by_lower m e (lower_around n m s (spot (of i) place c low high) x.around r l)

  same_asker : (a b : Block) → asks_for a ≡ asks_for b → b ≡ a
  same_asker a b e = cc

  answered_zoom : (n : ℕ) (asker : Block) → IsZoom all from n (asks_for asker) (Answered all from n asker)
  answered_zoom n asker = record {
    at_ask = λ name place form before low high h e. by_own (same_asker name asker e) (own_asked n name place form before low high h);
    at_post = λ name place asked_place body before low high h e. absurd (cc);
    at_remote = λ name place asked_place last inner ended low high h e. absurd (remote_asks inner ended e);
    at_arm = λ name place last l r ended low high h e. absurd (arm_asks r ended e);
    in_own = λ name place c low high part from_low from_high o r a. in_own_block n asker name place c low high part from_low from_high o r a;
    in_other = λ s i place c low high x r a. in_other_block n asker s i place c low high x r a;
  }
    where
      remote_asks : (inner : Configuration) (ended : Bool) → block_view true inner ended ≡ asks_for asker → ⊥
      remote_asks inner true e = cc
      remote_asks inner false e = cc

      arm_asks : (inner : Configuration) (ended : Bool) → block_view false inner ended ≡ asks_for asker → ⊥
      arm_asks inner true e = cc
      arm_asks inner false e = cc

  -- the ask of which is said that it is in flight
  pub answered_in : (n : ℕ) (asker : Block) (name : Block) (place : List ℕ) (c : Configuration) (low high : ℕ) → Fits all place c low high → found name c n ≡ asks_for asker → Answered all from n asker (spot name place c low high)
  answered_in n asker = zoom all from n (asks_for asker) tt (Answered all from n asker) (answered_zoom n asker)
