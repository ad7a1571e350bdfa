-- The passes as a cell is opened.
use Rattle.std.proofs.Common.{◌≡◌, ℕ, zero, suc, ◌+◌, ◌⊎◌, ⊎_elim, inl, inr, List, [], ◌∷◌, ◌++◌, length, length-append, Some, refl, sym, ap, subst, ◌∙◌, arith}
use Rattle.std.specs.Prelude.{slice_get}
use Rattle.turn_cell.specs.declared.chronicle.Entry.{Entry}
use Rattle.turn_cell.specs.declared.pass.CellPass.{CellPass}
use Rattle.turn_cell.specs.declared.cell.TurnCell.{TurnCell}
use Rattle.turn_cell.specs.Passes.{MadeBy, IsReady, IsNew, AreNew}
use Rattle.turn_cell.specs.Steps.{newcomer, maker_after}

slice_end : {A : Type 0} (l : List A) (a b : A) (j : ℕ) → slice_get (l ++ a ∷ []) j ≡ Some b → (slice_get l j ≡ Some b) ⊎ ((j ≡ length l) × (a ≡ b))
slice_end [] a b zero e = inr (refl, cc)
slice_end [] a b (suc j) e = cc
slice_end (x ∷ xs) a b zero e = inl e
slice_end (x ∷ xs) a b (suc j) e = ⊎_elim (λ t. inl t) (λ t. inr (ap suc t.0, t.1)) (slice_end xs a b j e)

module _ (S O I : Type 0) where
  pub none_new : (opening : List (Entry O I)) (cell : TurnCell S O I) → AreNew opening 0 cell []
  none_new opening cell = record { count = refl; made = λ n pass e. cc; new = λ n pass e. cc }

  pub one_more : (opening : List (Entry O I)) (n : ℕ) (cell : TurnCell S O I) (passes : List (CellPass S O I)) (pass : CellPass S O I) → AreNew opening n cell passes → MadeBy cell pass → IsNew opening n pass
      → AreNew opening (n + 1) cell (passes ++ pass ∷ [])
  one_more opening n cell passes pass r made new =
      let long : length passes ≡ n = r.count in
      record {
        count = length-append passes (pass ∷ []) ∙ (omega arith);
        made = λ k p e. ⊎_elim (λ t. r.made k p t) (λ t. subst (λ (q : CellPass S O I). MadeBy cell q) t.1 made) (slice_end passes pass p k e);
        new = λ k p e. ⊎_elim (λ t. r.new k p t) (λ t. subst (λ (j : ℕ). IsNew opening j p) (sym (t.0 ∙ long)) (subst (λ (q : CellPass S O I). IsNew opening n q) t.1 new)) (slice_end passes pass p k e);
      }

  -- the pass that the maker makes next
  pub new_pass : (opening : List (Entry O I)) (n : ℕ) (pass : CellPass S O I) → pass.ticket.seat.me.0 ≡ newcomer (maker_after opening n) → IsNew opening n pass
  new_pass opening n pass is = record {
    number_is = ap (λ v. v.number) is;
    seen_is = ap (λ v. v.seen) is;
    mine_is = ap (λ v. v.mine) is;
    holds_not = ap (λ v. v.holds) is;
    takings_is = ap (λ v. v.takings) is;
    last_is = ap (λ v. v.last) is;
    losses_is = ap (λ v. v.losses) is;
    met_is = ap (λ v. v.met) is;
  }

-- three passes, as they are taken off the end of their list
pub three_passes : {A : Type 0} (passes two one none : List A) (first second third : A) → length passes ≡ 3 → passes ≡ two ++ third ∷ [] → two ≡ one ++ second ∷ [] → one ≡ none ++ first ∷ []
    → (slice_get passes 0 ≡ Some first) × (slice_get passes 1 ≡ Some second) × (slice_get passes 2 ≡ Some third)
three_passes passes two one [] first second third three a b c =
    let all : passes ≡ first ∷ second ∷ third ∷ [] = a ∙ ap (λ l. l ++ third ∷ []) b ∙ ap (λ l. (l ++ second ∷ []) ++ third ∷ []) c in
    (ap (λ l. slice_get l 0) all, ap (λ l. slice_get l 1) all, ap (λ l. slice_get l 2) all)
three_passes passes two one (x ∷ xs) first second third three a b c =
    let k : length passes ≡ length two + 1 = ap length a ∙ length-append two (third ∷ []) in
    let m : length two ≡ length one + 1 = ap length b ∙ length-append one (second ∷ []) in
    let n : length one ≡ suc (length xs) + 1 = ap length c ∙ length-append (x ∷ xs) (first ∷ []) in
    absurd (omega arith)

module _ (S O I : Type 0) where
  pub ready : (opening : List (Entry O I)) (seats : ℕ) (cell : TurnCell S O I) (passes : List (CellPass S O I)) (n : ℕ) (pass : CellPass S O I) → AreNew opening seats cell passes → slice_get passes n ≡ Some pass → IsReady cell pass n
  ready opening seats cell passes n pass r at = let new = r.new n pass at in record { made = r.made n pass at; idle = new.holds_not; number_is = new.number_is }
