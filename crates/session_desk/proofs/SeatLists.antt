-- Seats of one number.
use Rattle.std.proofs.Common.{◌≡◌, ℕ, zero, suc, List, [], ◌∷◌, ◌++◌, subst, sym}
use Rattle.std.specs.Prelude.{Bool, true, false, if◌then◌else◌, Some, slice_get}
use Rattle.turn_cell.specs.declared.pass.CellPass.{CellPass}
use Rattle.session_book.specs.declared.entry.Entry.{Entry}
use Rattle.session_core.specs.Session.{Seen}
use Rattle.session_desk.specs.Seats.{IsSeat, AreSeats}

some_same : {A : Type 0} (a b : A) → Some a ≡ Some b → a ≡ b
some_same a b e = cc

all_push : {A : Type 0} (P : A → Type 0) (xs : List A) (y : A) → P y → ((k : ℕ) (x : A) → slice_get xs k ≡ Some x → P x) → (k : ℕ) (x : A) → slice_get (xs ++ y ∷ []) k ≡ Some x → P x
all_push P [] y is all zero x at = subst P (some_same y x at) is
all_push P [] y is all (suc k) x at = absurd (cc)
all_push P (z ∷ zs) y is all zero x at = all zero x at
all_push P (z ∷ zs) y is all (suc k) x at = all_push P zs y is (λ j w. all (suc j) w) k x at

pub seats_pushed : {O : Type 0} (number : ℕ) (before after : List (CellPass (Seen O) O Entry)) (one : CellPass (Seen O) O Entry) (pushed : Bool) → after ≡ (if pushed then before ++ one ∷ [] else before) → AreSeats number before → IsSeat number one → AreSeats number after
seats_pushed {O} number before after one true is are it =
    let P : List (CellPass (Seen O) O Entry) → Type 0 = λ (seats : List (CellPass (Seen O) O Entry)). AreSeats number seats in
    subst P (sym is) (all_push (IsSeat number) before one it are)
seats_pushed {O} number before after one false is are it =
    let P : List (CellPass (Seen O) O Entry) → Type 0 = λ (seats : List (CellPass (Seen O) O Entry)). AreSeats number seats in
    subst P (sym is) are
