-- Passes of a desk as it is opened.
use Rattle.std.proofs.Common.{◌≡◌, ℕ, zero, suc, ◌+◌, ◌<◌, ◌≤◌, ◌⊎◌, inl, inr, List, [], ◌∷◌, ◌++◌, map, length, refl, sym, ◌∙◌, ap, subst, arith, length-append, length-set, reverse, append_assoc, append-nil}
use Rattle.std.specs.Prelude.{Some, slice_get, slice_set}
use Rattle.atomic_table.specs.Seated.{TableId}
use Rattle.turn_cell.specs.declared.pass.CellPass.{CellPass}
use Rattle.turn_cell.specs.declared.cell.TurnCell.{TurnCell}
use Rattle.turn_cell.specs.History as cell
use Rattle.turn_cell.specs.Passes as seat
use Rattle.session_book.specs.declared.entry.Entry.{Entry}
use Rattle.session_core.specs.Session.{Seen}
use Rattle.session_core.specs.Chronicle.{chronicle_of}
use Rattle.session_desk.specs.Views.{View, Known}
use Rattle.session_desk.specs.Cells.{ids_of}
use Rattle.session_desk.specs.Seats.{items_in, view_of, IsSeat}
use Rattle.session_desk.specs.Opening.{new_view, new_views, AreOpened, AreJustOpened, seated, IsSeated, AreSeatedFrom}

some_same : {A : Type 0} (a b : A) → Some a ≡ Some b → a ≡ b
some_same a b e = cc

eq_or_less : (m n : ℕ) → m ≤ n → (n ≡ m) ⊎ (suc m ≤ n)
eq_or_less zero zero h = inl refl
eq_or_less zero (suc n) h = inr (omega arith)
eq_or_less (suc m) zero h = absurd (omega arith)
eq_or_less (suc m) (suc n) h = elim (eq_or_less m n (omega arith)) [ inl e ↦ inl (ap suc e) | inr l ↦ inr (omega (arith, l)) ]

get_set_same : {A : Type 0} (xs : List A) (i : ℕ) (y x : A) → slice_get (slice_set xs i y) i ≡ Some x → x ≡ y
get_set_same [] i y x at = absurd (cc)
get_set_same (z ∷ zs) zero y x at = sym (some_same y x at)
get_set_same (z ∷ zs) (suc i) y x at = get_set_same zs i y x at

get_set_other : {A : Type 0} (xs : List A) (i k : ℕ) (y : A) → (k ≡ i → ⊥) → slice_get (slice_set xs i y) k ≡ slice_get xs k
get_set_other [] i k y other = refl
get_set_other (z ∷ zs) zero zero y other = absurd (other refl)
get_set_other (z ∷ zs) zero (suc k) y other = refl
get_set_other (z ∷ zs) (suc i) zero y other = refl
get_set_other (z ∷ zs) (suc i) (suc k) y other = get_set_other zs i k y (λ e. other (ap suc e))

get_there : {A : Type 0} (xs rest : List A) (x : A) → slice_get (xs ++ x ∷ [] ++ rest) (length xs) ≡ Some x
get_there [] rest x = refl
get_there (y ∷ ys) rest x = get_there ys rest x

set_length : {A : Type 0} (xs : List A) (i : ℕ) (y : A) → length (slice_set xs i y) ≡ length xs
set_length [] i y = refl
set_length (x ∷ xs) zero y = refl
set_length (x ∷ xs) (suc i) y = ap suc (set_length xs i y)

-- ---- the seats of a cell are dealt

-- a list begins with another
pub record Begins {A : Type 0} (all part : List A) : Type 0 where
  pub rest : List A
  pub is : all ≡ part ++ rest

pub begins_whole : {A : Type 0} (xs : List A) → Begins xs xs
begins_whole xs = record { rest = []; is = sym (append-nil xs) }

module _ {O : Type 0} (passes : List (Known O)) (seats : List (CellPass (Seen O) O Entry)) (cur left : List (CellPass (Seen O) O Entry)) (one : CellPass (Seen O) O Entry) (begins : Begins seats cur) (popped : cur ≡ left ++ one ∷ []) where
  longer : length cur ≡ length left + 1
  longer = ap length popped ∙ length-append left (one ∷ [])

  pub begins_less : Begins seats left
  begins_less = record { rest = one ∷ begins.rest; is = begins.is ∙ ap (λ xs. xs ++ begins.rest) popped ∙ append_assoc left (one ∷ []) begins.rest }

  pub seat_there : slice_get seats (length left) ≡ Some one
  seat_there = ap (λ xs. slice_get xs (length left)) (begins.is ∙ ap (λ xs. xs ++ begins.rest) popped) ∙ get_there left begins.rest one

  module _ (after : List (Known O)) (from : AreSeatedFrom (length cur) passes seats after) where
    pub pass_there : (pass : Known O) → slice_get after (length left) ≡ Some pass → slice_get passes (length left) ≡ Some pass
    pass_there pass at = let h = longer in from.before (length left) pass (omega (arith, h)) at

    pub within : length seats ≡ length passes → length left < length after
    within same =
        let a = longer in
        let b = from.count in
        let c = ap length begins.is ∙ length-append cur begins.rest in
        omega (arith, a, b, c, same)

    pub dealt : (pass next : Known O) → slice_get after (length left) ≡ Some pass → next ≡ seated pass one → AreSeatedFrom (length left) passes seats (slice_set after (length left) next)
    dealt pass next at is =
        record {
          count = set_length after (length left) next ∙ from.count;
          before = λ k p lt e. let h = longer in from.before k p (omega (arith, h, lt)) (sym (get_set_other after (length left) k next (λ same. omega (arith, same, lt))) ∙ e);
          behind = λ k p le e. behind_from k p (eq_or_less (length left) k le) e;
        }
      where
        behind_from : (k : ℕ) (p : Known O) → (k ≡ length left) ⊎ (suc (length left) ≤ k) → slice_get (slice_set after (length left) next) k ≡ Some p → IsSeated passes seats k p
        behind_from k p (inl same) e =
            subst (λ n. IsSeated passes seats n p) (sym same)
            (record {
              pass = pass;
              seat = one;
              pass_at = pass_there pass at;
              seat_at = seat_there;
              is = get_set_same after (length left) next p (subst (λ n. slice_get (slice_set after (length left) next) n ≡ Some p) same e) ∙ is;
            })
        behind_from k p (inr less) e =
            let h = longer in
            from.behind k p (omega (arith, h, less)) (sym (get_set_other after (length left) k next (λ same. omega (arith, same, less))) ∙ e)

pub none_dealt : {O : Type 0} (passes : List (Known O)) (seats : List (CellPass (Seen O) O Entry)) → length seats ≡ length passes → AreSeatedFrom (length seats) passes seats passes
none_dealt passes seats same =
    record {
      count = refl;
      before = λ k p lt e. e;
      behind = λ k p le e. absurd (past passes k p e (omega (arith, le, same)));
    }
  where
    past : {A : Type 0} (xs : List A) (k : ℕ) (x : A) → slice_get xs k ≡ Some x → length xs ≤ k → ⊥
    past [] k x e le = cc
    past (y ∷ ys) zero x e le = omega (arith, le)
    past (y ∷ ys) (suc k) x e le = past ys k x e (omega (arith, le))

-- ---- what a new seat knows

module _ {O : Type 0} (opening : O) (number : ℕ) (pass : CellPass (Seen O) O Entry) (new : seat.IsNew (chronicle_of opening []) number pass) where
  pub new_seat : IsSeat number pass
  new_seat =
      record {
        number_is = new.number_is;
        idle = new.holds_not;
        begun = opening;
        seen_is = new.seen_is ∙ ap (λ h. chronicle_of opening (items_in h)) (sym new.seen_is);
        own = new.mine_is ∙ ap (cell.made_by number) (sym new.seen_is);
      }

  pub seat_view : (id : TableId) → seat.maker_id pass ≡ id → view_of pass ≡ new_view id opening
  seat_view id made =
      λ i. record {
        cell = made i;
        opening = cell.opening_of (new.seen_is i);
        seen = items_in (new.seen_is i);
        mine = items_in (new.mine_is i);
        takings = new.takings_is i;
        last = new.last_is i;
        losses = new.losses_is i;
        met = new.met_is i;
      }

new_views_push : {O : Type 0} (desk : List TableId) (sessions : List (Seen O)) (id : TableId) (session : Seen O) → length desk ≡ length sessions → new_views (desk ++ id ∷ []) (sessions ++ session ∷ []) ≡ new_views desk sessions ++ new_view id session.opening ∷ []
new_views_push [] [] id session same = refl
new_views_push [] (y ∷ ys) id session same = absurd (omega (arith, same))
new_views_push (x ∷ xs) [] id session same = absurd (omega (arith, same))
new_views_push (x ∷ xs) (y ∷ ys) id session same = ap (λ vs. new_view x y.opening ∷ vs) (new_views_push xs ys id session (omega (arith, same)))

module _ {O : Type 0} (session : Seen O) (count : ℕ) (it : TurnCell (Seen O) O Entry) (seats : List (CellPass (Seen O) O Entry)) (just : session.items ≡ []) (new : seat.AreNew (chronicle_of session.opening session.items) count it seats) (passes after : List (Known O)) where
  new_at : (k : ℕ) (one : CellPass (Seen O) O Entry) → slice_get seats k ≡ Some one → seat.IsNew (chronicle_of session.opening []) k one
  new_at k one at = subst (λ items. seat.IsNew (chronicle_of session.opening items) k one) just (new.new k one at)

  pub seats_fit : ((at : ℕ) (pass : Known O) → slice_get passes at ≡ Some pass → pass.number ≡ at) → (at : ℕ) (pass : Known O) (one : CellPass (Seen O) O Entry) → slice_get passes at ≡ Some pass → slice_get seats at ≡ Some one → IsSeat pass.number one
  seats_fit numbered at pass one here there = subst (λ n. IsSeat n one) (sym (numbered at pass here)) (new_seat session.opening at one (new_at at one there))

  pub added : (from : AreSeatedFrom 0 passes seats after) (desk : List TableId) (sessions : List (Seen O)) → AreOpened sessions count desk passes → AreOpened (sessions ++ session ∷ []) count (desk ++ seat.cell_id it ∷ []) after
  added from desk sessions opened =
      record {
        cells = length-append desk (seat.cell_id it ∷ []) ∙ ap (λ n. n + 1) opened.cells ∙ sym (length-append sessions (session ∷ []));
        count = from.count ∙ opened.count;
        each = λ k p at.
            let s = from.behind k p (omega arith) at in
            let was = opened.each k s.pass s.pass_at in
            let view = seat_view session.opening k s.seat (new_at k s.seat s.seat_at) (seat.cell_id it) (new.made k s.seat s.seat_at) in
            s.is
            ∙ (λ i. record { number = (was i).number; views = (was i).views ++ view i ∷ [] })
            ∙ ap (λ vs. record { number = k; views = vs }) (sym (new_views_push desk sessions (seat.cell_id it) session opened.cells));
      }
