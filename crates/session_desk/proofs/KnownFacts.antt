-- What a pass knows of each session.
use Rattle.std.proofs.Common.{◌≡◌, ℕ, List, refl, sym, ◌∙◌, ap, subst, map}
use Rattle.std.specs.Prelude.{Option, None, Some, slice_get}
use Rattle.std.specs.Option.{option_map}
use Rattle.std.proofs.lemmas.Option.{slice_get-map}
use Rattle.turn_cell.specs.declared.pass.CellPass.{CellPass}
use Rattle.turn_cell.specs.History as cell
use Rattle.turn_cell.specs.Passes as seat
use Rattle.session_book.specs.declared.entry.Entry.{Entry}
use Rattle.session_core.specs.Session.{Seen}
use Rattle.session_desk.specs.Views.{View, Known, IsKnown}
use Rattle.session_desk.specs.Seats.{items_in, view_of, views_of, IsSeat, AreSeats}
use Rattle.session_desk.proofs.SeatFacts.{own_items}

some_same : {A : Type 0} (a b : A) → Some a ≡ Some b → a ≡ b
some_same a b e = cc

module _ {O : Type 0} (number : ℕ) where
  of_seat : (pass : CellPass (Seen O) O Entry) → IsSeat number pass → IsKnown number (view_of pass)
  of_seat pass is =
      record {
        opening = is.begun;
        opened = ap cell.opening_of is.seen_is;
        own_is = ap items_in (is.own ∙ ap (cell.made_by number) is.seen_is) ∙ own_items O number (items_in (seat.seen pass));
      }

  pub known_at : (seats : List (CellPass (Seen O) O Entry)) → AreSeats number seats → (at : ℕ) (view : View O) → slice_get (views_of seats) at ≡ Some view → IsKnown number view
  known_at seats are at view here = by_seat (slice_get seats at) refl (sym (slice_get-map view_of seats at) ∙ here)
    where
      by_seat : (found : Option (CellPass (Seen O) O Entry)) → slice_get seats at ≡ found → option_map view_of found ≡ Some view → IsKnown number view
      by_seat None is e = absurd (cc)
      by_seat (Some pass) is e = subst (λ (v : View O). IsKnown number v) (some_same (view_of pass) view e) (of_seat pass (are at pass is))

  pub known_of : (seats : List (CellPass (Seen O) O Entry)) (known : Known O) → record { number = number; views = views_of seats } ≡ known → AreSeats number seats → (at : ℕ) (view : View O) → slice_get known.views at ≡ Some view → IsKnown known.number view
  known_of seats known is are =
      subst (λ (k : Known O). (at : ℕ) (view : View O) → slice_get k.views at ≡ Some view → IsKnown k.number view) is (known_at seats are)
