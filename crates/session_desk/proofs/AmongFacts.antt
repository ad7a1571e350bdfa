-- One seat of many.
use Rattle.std.proofs.Common.{◌≡◌, ℕ, zero, suc, ◌<◌, List, [], ◌∷◌, map, length, refl, sym, ◌∙◌, ap, subst, arith, get_or}
use Rattle.std.specs.Prelude.{Option, None, Some, slice_get, slice_set}
use Rattle.std.specs.Option.{option_map}
use Rattle.std.proofs.lemmas.Option.{slice_get-map, slice_get_within, slice_get_read}
use Rattle.std.proofs.lemmas.List.{map-set}
use Rattle.turn_cell.specs.declared.pass.CellPass.{CellPass}
use Rattle.turn_cell.specs.declared.cell.TurnCell.{TurnCell}
use Rattle.turn_cell.specs.Passes as seat
use Rattle.session_book.specs.declared.entry.Entry.{Entry}
use Rattle.session_core.specs.Session.{Seen}
use Rattle.session_desk.specs.Views.{View, cells_of}
use Rattle.session_desk.specs.Cells.{ids_of}
use Rattle.session_desk.specs.Seats.{view_of, views_of, IsSeat, AreSeats}
use Rattle.session_desk.specs.Taking.{ChangesOne}
use Rattle.session_desk.specs.Answers.{IsAt}

some_same : {A : Type 0} (a b : A) → Some a ≡ Some b → a ≡ b
some_same a b e = cc

set_same : {A : Type 0} (xs : List A) (i : ℕ) (x : A) → slice_get xs i ≡ Some x → slice_set xs i x ≡ xs
set_same [] i x at = refl
set_same (y ∷ ys) zero x at = ap (λ z. z ∷ ys) (sym (some_same y x at))
set_same (y ∷ ys) (suc i) x at = ap (λ zs. y ∷ zs) (set_same ys i x at)

all_set : {A : Type 0} (P : A → Type 0) (xs : List A) (i : ℕ) (y : A) → P y → ((k : ℕ) (x : A) → slice_get xs k ≡ Some x → P x) → (k : ℕ) (x : A) → slice_get (slice_set xs i y) k ≡ Some x → P x
all_set P [] i y is all k x at = absurd (cc)
all_set P (z ∷ zs) zero y is all zero x at = subst P (some_same y x at) is
all_set P (z ∷ zs) zero y is all (suc k) x at = all (suc k) x at
all_set P (z ∷ zs) (suc i) y is all zero x at = all zero x at
all_set P (z ∷ zs) (suc i) y is all (suc k) x at = all_set P zs i y is (λ j w. all (suc j) w) k x at

module _ {O : Type 0} (index : ℕ) (seats0 : List (CellPass (Seen O) O Entry)) (seat0 : CellPass (Seen O) O Entry) (at : slice_get seats0 index ≡ Some seat0) where
  pub view_at : slice_get (views_of seats0) index ≡ Some (view_of seat0)
  view_at = slice_get-map view_of seats0 index ∙ ap (option_map view_of) at

  cell_at : slice_get (cells_of (views_of seats0)) index ≡ Some (seat.maker_id seat0)
  cell_at = slice_get-map (λ (v : View O). v.cell) (views_of seats0) index ∙ ap (option_map (λ (v : View O). v.cell)) view_at

  pub made_at : (cells : List (TurnCell (Seen O) O Entry)) (cell : TurnCell (Seen O) O Entry) → slice_get cells index ≡ Some cell → cells_of (views_of seats0) ≡ ids_of cells → seat.MadeBy cell seat0
  made_at cells cell here made =
      some_same (seat.maker_id seat0) (seat.cell_id cell) (sym cell_at ∙ ap (λ ids. slice_get ids index) made ∙ slice_get-map seat.cell_id cells index ∙ ap (option_map seat.cell_id) here)

  pub of_view : (Is : View O → Type 0) → IsAt index Is (views_of seats0) → Is (view_of seat0)
  of_view Is there = subst Is (some_same there.view (view_of seat0) (sym there.at ∙ view_at)) there.is

  module _ (seats1 : List (CellPass (Seen O) O Entry)) (seat1 : CellPass (Seen O) O Entry) (set : seats1 ≡ slice_set seats0 index seat1) where
    views_set : views_of seats1 ≡ slice_set (views_of seats0) index (view_of seat1)
    views_set = ap views_of set ∙ map-set view_of seats0 index seat1

    pub changed : (Changes : View O → View O → Type 0) → Changes (view_of seat0) (view_of seat1) → ChangesOne index Changes (views_of seats0) (views_of seats1)
    changed Changes changes = record { old = view_of seat0; new = view_of seat1; was = view_at; others_stay = views_set; changes = changes }

    pub cells_stay : seat.maker_id seat1 ≡ seat.maker_id seat0 → cells_of (views_of seats1) ≡ cells_of (views_of seats0)
    cells_stay same =
        ap cells_of views_set
        ∙ map-set (λ (v : View O). v.cell) (views_of seats0) index (view_of seat1)
        ∙ ap (slice_set (cells_of (views_of seats0)) index) same
        ∙ set_same (cells_of (views_of seats0)) index (seat.maker_id seat0) cell_at

    pub seats_stay : (number : ℕ) → AreSeats number seats0 → IsSeat number seat1 → AreSeats number seats1
    seats_stay number are is =
        let P : List (CellPass (Seen O) O Entry) → Type 0 = λ (seats : List (CellPass (Seen O) O Entry)). AreSeats number seats in
        subst P (sym set) (all_set (IsSeat number) seats0 index seat1 is are)

length_map : {A C : Type 0} (f : A → C) (xs : List A) → length (map f xs) ≡ length xs
length_map f [] = refl
length_map f (x ∷ xs) = ap suc (length_map f xs)

pub as_many : {O : Type 0} (seats : List (CellPass (Seen O) O Entry)) (cells : List (TurnCell (Seen O) O Entry)) → cells_of (views_of seats) ≡ ids_of cells → length seats ≡ length cells
as_many {O} seats cells made =
    sym (length_map (λ (v : View O). v.cell) (views_of seats) ∙ length_map view_of seats) ∙ ap length made ∙ length_map seat.cell_id cells

-- what an index gives
pub seat_here : {O : Type 0} (index : ℕ) (seats : List (CellPass (Seen O) O Entry)) (cells : List (TurnCell (Seen O) O Entry)) → cells_of (views_of seats) ≡ ids_of cells → index < length cells → (seat : CellPass (Seen O) O Entry) → seat ≡ get_or seats index seat → slice_get seats index ≡ Some seat
seat_here index seats cells made within seat is = slice_get_read seats (length seats) index seat refl (subst (λ n. index < n) (sym (as_many seats cells made)) within) is

pub cell_here : {O : Type 0} (index : ℕ) (cells : List (TurnCell (Seen O) O Entry)) → index < length cells → (cell : TurnCell (Seen O) O Entry) → cell ≡ get_or cells index cell → slice_get cells index ≡ Some cell
cell_here index cells within cell is = slice_get_read cells (length cells) index cell refl within is

pub within_seats : {O : Type 0} (index : ℕ) (seats : List (CellPass (Seen O) O Entry)) (cells : List (TurnCell (Seen O) O Entry)) → cells_of (views_of seats) ≡ ids_of cells → index < length cells → index < length seats
within_seats index seats cells made within = subst (λ n. index < n) (sym (as_many seats cells made)) within
