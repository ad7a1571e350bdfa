-- A block that runs below, in its whole: its moves are moves of the whole, and change what is said of itself and of the
-- numbers inside it alone.
use Rattle.std.proofs.Common.{◌≡◌, ℕ, ◌+◌, ◌≤◌, ◌<◌, inl, inr, List, refl, sym, ◌∙◌, ap, subst, arith}
use Rattle.std.specs.Prelude.{Bool, true, false, not, None, Some}
use Rattle.phrase_tree.specs.Term.{Term}
use Rattle.phrase_tree.specs.Numbering.{event_count}
use Rattle.evidence_types.specs.Evidence.{Evidence}
use Rattle.session_model.specs.Value.{Makings}
use Rattle.avm_code.specs.declared.program.Block.{Block as CodeBlock}
use Rattle.avm_code.specs.Blocks.{place_named}
use Rattle.avm_compile.specs.Laws.{IsBlockOf}
use Rattle.session_runs.specs.Configuration.{Configuration, posted, remote, both_arms, finished, start}
use Rattle.session_runs.specs.Moves.{Step, run as run_step, ask as ask_step, in_block, delivery, silent, starts, Moved, on_run, only_if, inside, own_moves, block_moves, inner_moves}
use Rattle.session_runs.specs.Standing.{Block, of}
use Rattle.session_tables.specs.Left.{Left, left_of}
use Rattle.session_tables.specs.Found.{View, unseen, waits, runs, seen_or, block_view, found}
use Rattle.session_tables.proofs.Starting.{going_or, until_finished, start_found}
use Rattle.session_tables.proofs.Fitting.{IsOver, Fits, start_fits, block_place, IsOutside, if_other, if_same, outside}
use Rattle.session_tables.proofs.Deeds.{none_inside, none_else}
use Rattle.session_tables.proofs.Frames.{Same, Spot, spot, Around, unseen_both, no_move_outside}
use Rattle.session_tables.proofs.Zoom.{InRange, IsZoom, zoom}
use Rattle.session_tables.proofs.OwnMoves.{IsTouched, by_range, touched_whole}

pub record BlockIn (all : List CodeBlock) (from : Makings) (m : ℕ) (v : View) (s : Spot) : Type 0 where
  pub for_request : Bool
  pub place : List ℕ
  pub inner : Configuration
  pub low : ℕ
  pub high : ℕ
  pub whole : Configuration → Bool → Configuration
  pub view : v ≡ runs for_request (left_of inner)
  pub placed : place_named all m ≡ place
  pub fits : Fits all place inner low high
  pub least : s.low ≤ m
  pub below : m + 1 ≤ low
  pub most : high ≤ s.high
  pub steps : (step : Step) → inner_moves from s.place s.now (in_block m step) ≡ block_moves inner false whole (own_moves from place inner) step
  pub now : (d : Configuration) (ended : Bool) → found s.name (whole d ended) m ≡ block_view for_request d ended
  pub within : (d : Configuration) (ended : Bool) (n : ℕ) → low ≤ n → n < high → found s.name (whole d ended) n ≡ found (of m) d n
  pub was_within : (n : ℕ) → low ≤ n → n < high → found s.name s.now n ≡ found (of m) inner n
  pub others : (d : Configuration) (ended : Bool) (n : ℕ) → IsOver ended d → Fits all place d low high → (n ≡ m → ⊥) → IsOutside low high n → found s.name (whole d ended) n ≡ found s.name s.now n
  pub kept : (d : Configuration) (ended : Bool) → IsOver ended d → Fits all place d low high → Fits all s.place (whole d ended) s.low s.high
  pub same : (d : Configuration) (ended : Bool) → Same (whole d ended) s.now

inside_twice : (f g : Configuration → Configuration) (x : Moved) → inside f (inside g x) ≡ inside (λ d. f (g d)) x
inside_twice f g None = refl
inside_twice f g (Some move) = refl

inside_end : (f : Configuration → Configuration) (ended : Bool) (step : Step) (c : Configuration) → inside f (only_if (not ended) (on_run step silent c)) ≡ only_if (not ended) (on_run step silent (f c))
inside_end f true step c = refl
inside_end f false run_step c = refl
inside_end f false ask_step c = refl

inside_block : (f : Configuration → Configuration) (c : Configuration) (ended : Bool) (whole : Configuration → Bool → Configuration) (moves : Step → Moved) (step : Step) → inside f (block_moves c ended whole moves step) ≡ block_moves c ended (λ d over. f (whole d over)) moves step
inside_block f c ended whole moves step = elim (going_or c) [
  | inl going ↦
      ap (λ x. inside f x) (until_finished Moved (inside (λ after. whole after ended) (moves step)) (λ result. only_if (not ended) (on_run step silent (whole (finished result) true))) c going)
      ∙ inside_twice f (λ after. whole after ended) (moves step)
      ∙ sym (until_finished Moved (inside (λ after. f (whole after ended)) (moves step)) (λ result. only_if (not ended) (on_run step silent (f (whole (finished result) true)))) c going)
  | inr w ↦
      subst (λ d. inside f (block_moves d ended whole moves step) ≡ block_moves d ended (λ d over. f (whole d over)) moves step) (sym w.1) (inside_end f ended step (whole (finished w.0) true))
]

module _ (all : List CodeBlock) (from : Makings) where
  block_remote : (m : ℕ) (v : View) (name : Block) (place asked_place : List ℕ) (last : ℕ) (inner : Configuration) (low high : ℕ) → Fits all place (remote asked_place m last inner false) low high → block_view true inner false ≡ v → BlockIn all from m v (spot name place (remote asked_place m last inner false) low high)
  block_remote m v name place asked_place last inner low high h e = record {
    for_request = true;
    place = asked_place;
    inner = inner;
    low = m + 1;
    high = last;
    whole = λ d over. remote asked_place m last d over;
    view = sym e;
    placed = h.2;
    fits = h.4;
    least = h.0;
    below = omega arith;
    most = omega (arith, h.1);
    steps = λ step.
        none_else (inside (λ after. remote asked_place m last after false) (inner_moves from asked_place inner (in_block m step))) _ (none_inside (λ after. remote asked_place m last after false) (inner_moves from asked_place inner (in_block m step)) (no_move_outside all from (of m) asked_place inner (m + 1) last (in_block m step) h.4 (λ le. omega (arith, le))))
        ∙ if_same Moved m m (block_moves inner false (λ d over. remote asked_place m last d over) (own_moves from asked_place inner) step) None refl;
    now = λ d over. if_same View m m (block_view true d over) (found (of m) d m) refl;
    within = λ d over n le lt. if_other View n m (block_view true d over) (found (of m) d n) (λ e. omega (arith, e, le));
    was_within = λ n le lt. if_other View n m (block_view true inner false) (found (of m) inner n) (λ e. omega (arith, e, le));
    others = λ d over n ended f ne out.
        if_other View n m (block_view true d over) (found (of m) d n) ne ∙ unseen_both all from (of m) asked_place d inner (m + 1) last n f h.4 out ∙ sym (if_other View n m (block_view true inner false) (found (of m) inner n) ne);
    kept = λ d over ended f. (h.0, h.1, h.2, ended, f, h.5);
    same = λ d over. record { code = λ k. refl; evidence = refl; stack = λ s. refl };
  }

  block_arm : (m : ℕ) (v : View) (name : Block) (place : List ℕ) (last : ℕ) (l r : Configuration) (low high : ℕ) → Fits all place (both_arms m last l r false) low high → block_view false r false ≡ v → BlockIn all from m v (spot name place (both_arms m last l r false) low high)
  block_arm m v name place last l r low high h e = record {
    for_request = false;
    place = place;
    inner = r;
    low = h.4.0;
    high = last;
    whole = λ d over. both_arms m last l d over;
    view = sym e;
    placed = h.2;
    fits = h.4.4;
    least = h.0;
    below = h.4.1;
    most = omega (arith, h.1);
    steps = λ step.
        none_else (inside (λ after. both_arms m last after r false) (inner_moves from place l (in_block m step))) _ (none_inside (λ after. both_arms m last after r false) (inner_moves from place l (in_block m step)) (no_move_outside all from name place l (m + 1) h.4.0 (in_block m step) h.4.3 (λ le. omega (arith, le))))
        ∙ none_else (inside (λ after. both_arms m last l after false) (inner_moves from place r (in_block m step))) _ (none_inside (λ after. both_arms m last l after false) (inner_moves from place r (in_block m step)) (no_move_outside all from (of m) place r h.4.0 last (in_block m step) h.4.4 (λ le. omega (arith, le, h.4.1))))
        ∙ if_same Moved m m (block_moves r false (λ d over. both_arms m last l d over) (own_moves from place r) step) None refl;
    now = λ d over. if_same View m m (block_view false d over) (seen_or (found name l m) (found (of m) d m)) refl;
    within = λ d over n le lt.
        if_other View n m (block_view false d over) (seen_or (found name l n) (found (of m) d n)) (λ e. omega (arith, e, le, h.4.1))
        ∙ ap (λ v. seen_or v (found (of m) d n)) (outside all name place l (m + 1) h.4.0 n h.4.3 (λ g. le));
    was_within = λ n le lt.
        if_other View n m (block_view false r false) (seen_or (found name l n) (found (of m) r n)) (λ e. omega (arith, e, le, h.4.1))
        ∙ ap (λ v. seen_or v (found (of m) r n)) (outside all name place l (m + 1) h.4.0 n h.4.3 (λ g. le));
    others = λ d over n ended f ne out.
        if_other View n m (block_view false d over) (seen_or (found name l n) (found (of m) d n)) ne
        ∙ ap (λ v. seen_or (found name l n) v) (unseen_both all from (of m) place d r h.4.0 last n f h.4.4 out)
        ∙ sym (if_other View n m (block_view false r false) (seen_or (found name l n) (found (of m) r n)) ne);
    kept = λ d over ended f. (h.0, h.1, h.2, ended, (h.4.0, h.4.1, h.4.2, h.4.3, f));
    same = λ d over. record { code = λ k. refl; evidence = refl; stack = λ s. refl };
  }

  block_around : (m : ℕ) (v : View) (s u : Spot) → Around all from s u → InRange u.low u.high m → BlockIn all from m v u → BlockIn all from m v s
  block_around m v s u a r b = record {
    for_request = b.for_request;
    place = b.place;
    inner = b.inner;
    low = b.low;
    high = b.high;
    whole = λ d over. a.whole (b.whole d over);
    view = b.view;
    placed = b.placed;
    fits = b.fits;
    least = omega (arith, a.least, b.least);
    below = b.below;
    most = omega (arith, a.most, b.most);
    steps = λ step. a.deeds (in_block m step) r.least r.most ∙ ap (λ x. inside a.whole x) (b.steps step) ∙ inside_block a.whole b.inner false b.whole (own_moves from b.place b.inner) step;
    now = λ d over. a.within (b.whole d over) m r.least r.most ∙ b.now d over;
    within = λ d over n le lt. a.within (b.whole d over) n (omega (arith, le, b.below, r.least)) (omega (arith, lt, b.most)) ∙ b.within d over n le lt;
    was_within = λ n le lt. a.was_within n (omega (arith, le, b.below, r.least)) (omega (arith, lt, b.most)) ∙ b.was_within n le lt;
    others = λ d over n ended f ne out. by_range (found s.name (a.whole (b.whole d over)) n ≡ found s.name s.now n) u.low u.high n
        (λ q. a.within (b.whole d over) n q.least q.most ∙ b.others d over n ended f ne out ∙ sym (a.was_within n q.least q.most))
        (λ q. a.outside (b.whole d over) n (b.kept d over ended f) (b.same d over) q);
    kept = λ d over ended f. a.fits (b.whole d over) (b.kept d over ended f);
    same = λ d over. a.same (b.whole d over) (b.same d over);
  }

  block_zoom : (m : ℕ) (for_request : Bool) (l : Left) → IsZoom all from m (runs for_request l) (BlockIn all from m (runs for_request l))
  block_zoom m for_request l = record {
    at_ask = λ name place form before low high h e. absurd (cc);
    at_post = λ name place asked_place body before low high h e. absurd (cc);
    at_remote = λ name place asked_place last inner ended low high h e. remote_running name place asked_place last inner ended low high h e;
    at_arm = λ name place last l r ended low high h e. arm_running name place last l r ended low high h e;
    in_own = λ name place c low high part from_low from_high o r b. block_around m (runs for_request l) _ _ o.around r b;
    in_other = λ s i place c low high x r b. block_around m (runs for_request l) s (spot (of i) place c low high) x.around r b;
  }
    where
      remote_running : (name : Block) (place asked_place : List ℕ) (last : ℕ) (inner : Configuration) (ended : Bool) (low high : ℕ) → Fits all place (remote asked_place m last inner ended) low high → block_view true inner ended ≡ runs for_request l → BlockIn all from m (runs for_request l) (spot name place (remote asked_place m last inner ended) low high)
      remote_running name place asked_place last inner true low high h e = absurd (cc)
      remote_running name place asked_place last inner false low high h e = block_remote m (runs for_request l) name place asked_place last inner low high h e

      arm_running : (name : Block) (place : List ℕ) (last : ℕ) (a r : Configuration) (ended : Bool) (low high : ℕ) → Fits all place (both_arms m last a r ended) low high → block_view false r ended ≡ runs for_request l → BlockIn all from m (runs for_request l) (spot name place (both_arms m last a r ended) low high)
      arm_running name place last a r true low high h e = absurd (cc)
      arm_running name place last a r false low high h e = block_arm m (runs for_request l) name place last a r low high h e

  -- the block of which is said that it runs
  pub block_in : (m : ℕ) (for_request : Bool) (l : Left) (name : Block) (place : List ℕ) (c : Configuration) (low high : ℕ) → Fits all place c low high → found name c m ≡ runs for_request l → BlockIn all from m (runs for_request l) (spot name place c low high)
  block_in m for_request l = zoom all from m (runs for_request l) tt (BlockIn all from m (runs for_request l)) (block_zoom m for_request l)

-- the delivery of a request: its block starts, and nothing else changes
pub record Delivered (all : List CodeBlock) (from : Makings) (n : ℕ) (v : View) (s : Spot) : Type 0 where
  pub asked_place : List ℕ
  pub body : Term
  pub before : Evidence
  pub after : Configuration
  pub view : v ≡ waits before
  pub block : IsBlockOf all n asked_place body (n + 1)
  pub moves : inner_moves from s.place s.now (delivery n) ≡ Some (starts n, after)
  pub kept : Fits all s.place after s.low s.high
  pub same : Same after s.now
  pub touched : IsTouched s.name s.now after s.low s.high n (waits before) (runs true (left_of (start body (n + 1) before)))

module _ (all : List CodeBlock) (from : Makings) where
  delivered_post : (n : ℕ) (v : View) (name : Block) (place asked_place : List ℕ) (body : Term) (before : Evidence) (low high : ℕ) → Fits all place (posted asked_place n body before) low high → waits before ≡ v → Delivered all from n v (spot name place (posted asked_place n body before) low high)
  delivered_post n v name place asked_place body before low high h e = record {
    asked_place = asked_place;
    body = body;
    before = before;
    after = remote asked_place n (n + 1 + event_count body) (start body (n + 1) before) false;
    view = sym e;
    block = h.2;
    moves = if_same Moved n n _ None refl;
    kept = (h.0, omega (arith, h.1), block_place all n asked_place body (n + 1) h.2, tt, start_fits all asked_place body (n + 1) before (n + 1) (n + 1 + event_count body) (omega arith) (omega arith) h.3, omega arith);
    same = record { code = λ k. refl; evidence = refl; stack = λ s. refl };
    touched = record {
      range = record { least = h.0; most = omega (arith, h.1) };
      was = if_same View n n (waits before) unseen refl;
      now = if_same View n n (block_view true (start body (n + 1) before) false) (found (of n) (start body (n + 1) before) n) refl;
      others = λ k ne. if_other View k n (block_view true (start body (n + 1) before) false) (found (of n) (start body (n + 1) before) k) ne ∙ start_found (of n) k body (n + 1) before ∙ sym (if_other View k n (waits before) unseen ne);
    };
  }

  delivered_around : (n : ℕ) (v : View) (s u : Spot) → Around all from s u → InRange u.low u.high n → Delivered all from n v u → Delivered all from n v s
  delivered_around n v s u a r d = record {
    asked_place = d.asked_place;
    body = d.body;
    before = d.before;
    after = a.whole d.after;
    view = d.view;
    block = d.block;
    moves = a.deeds (delivery n) r.least r.most ∙ ap (λ x. inside a.whole x) d.moves;
    kept = a.fits d.after d.kept;
    same = a.same d.after d.same;
    touched = touched_whole all from s u a d.after n _ _ (λ k out. a.outside d.after k d.kept d.same out) d.touched;
  }

  delivered_zoom : (n : ℕ) (before : Evidence) → IsZoom all from n (waits before) (Delivered all from n (waits before))
  delivered_zoom n before = record {
    at_ask = λ name place form asked_before low high h e. absurd (cc);
    at_post = λ name place asked_place body posted_before low high h e. delivered_post n (waits before) name place asked_place body posted_before low high h e;
    at_remote = λ name place asked_place last inner ended low high h e. absurd (remote_waits inner ended e);
    at_arm = λ name place last l r ended low high h e. absurd (arm_waits r ended e);
    in_own = λ name place c low high part from_low from_high o r d. delivered_around n (waits before) _ _ o.around r d;
    in_other = λ s i place c low high x r d. delivered_around n (waits before) s (spot (of i) place c low high) x.around r d;
  }
    where
      remote_waits : (inner : Configuration) (ended : Bool) → block_view true inner ended ≡ waits before → ⊥
      remote_waits inner true e = cc
      remote_waits inner false e = cc

      arm_waits : (inner : Configuration) (ended : Bool) → block_view false inner ended ≡ waits before → ⊥
      arm_waits inner true e = cc
      arm_waits inner false e = cc

  -- the request of which is said that it waits
  pub delivered_in : (n : ℕ) (before : Evidence) (name : Block) (place : List ℕ) (c : Configuration) (low high : ℕ) → Fits all place c low high → found name c n ≡ waits before → Delivered all from n (waits before) (spot name place c low high)
  delivered_in n before = zoom all from n (waits before) tt (Delivered all from n (waits before)) (delivered_zoom n before)
