-- What a turn makes of a seat, and of what its pass knows of the session.
use Rattle.std.proofs.Common.{◌≡◌, ℕ, ◌+◌, ◌<◌, ◌==◌, Bool, true, false, List, [], ◌∷◌, ◌++◌, map, refl, sym, ◌∙◌, ap, subst, if◌then◌else◌, append_assoc, arith, length, length-append}
use Rattle.std.specs.Prelude.{Option, Some}
use Rattle.turn_cell.specs.declared.chronicle.Entry.{Entry as CellEntry}
use Rattle.turn_cell.specs.declared.chronicle.Entry.TheVariants.{Opened, Made}
use Rattle.turn_cell.specs.declared.pass.CellPass.{CellPass}
use Rattle.turn_cell.specs.Rule.{IsTaking}
use Rattle.turn_cell.specs.History as cell
use Rattle.turn_cell.specs.Passes as seat
use Rattle.session_book.specs.declared.entry.Entry.{Entry}
use Rattle.session_core.specs.Session.{Seen, pass_of}
use Rattle.session_core.specs.Chronicle.{with_pass, chronicle_of}
use Rattle.session_desk.specs.Views.{View, own, as_seen}
use Rattle.session_desk.specs.Seats.{items_in, view_of, IsSeat}
use Rattle.session_desk.specs.Taking.{AreBy, GoesOn, Takes, Loses}

module _ (O : Type 0) where
  -- the items of two histories joined
  pub items_append : (xs ys : List (CellEntry O Entry)) → items_in (xs ++ ys) ≡ items_in xs ++ items_in ys
  items_append [] ys = refl
  items_append (Opened opening ∷ xs) ys = items_append xs ys
  items_append (Made number item ∷ xs) ys = ap (λ l. item ∷ l) (items_append xs ys)

  pub items_of_entries : (items : List Entry) → items_in {O = O} (cell.entries (map with_pass items)) ≡ items
  items_of_entries [] = refl
  items_of_entries (item ∷ items) = ap (λ l. item ∷ l) (items_of_entries items)

  pub items_own : (number : ℕ) (items : List Entry) → items_in {O = O} (cell.own number items) ≡ items
  items_own number [] = refl
  items_own number (item ∷ items) = ap (λ l. item ∷ l) (items_own number items)

  -- the own items among those of a history
  pub own_items : (number : ℕ) (items : List Entry) → items_in {O = O} (cell.made_by number (cell.entries (map with_pass items))) ≡ own number items
  own_items number [] = refl
  own_items number (item ∷ items) = by_test (own_items number items) (pass_of item == number)
    where
      by_test : items_in {O = O} (cell.made_by number (cell.entries (map with_pass items))) ≡ own number items → (b : Bool) → items_in {O = O} (if b then Made (pass_of item) item ∷ cell.made_by number (cell.entries (map with_pass items)) else cell.made_by number (cell.entries (map with_pass items))) ≡ (if b then item ∷ own number items else own number items)
      by_test rest true = ap (λ l. item ∷ l) rest
      by_test rest false = rest

  -- items of one pass as entries of it
  pub entries_by : (number : ℕ) (made : List Entry) → AreBy number made → cell.entries {O = O} (map with_pass made) ≡ cell.own number made
  entries_by number [] by = refl
  entries_by number (item ∷ items) by = ap (λ n. Made n item ∷ cell.entries (map with_pass items)) by.0 ∙ ap (λ l. Made number item ∷ l) (entries_by number items by.1)

  pub entries_append : (items made : List Entry) → cell.entries {O = O} (map with_pass (items ++ made)) ≡ cell.entries (map with_pass items) ++ cell.entries (map with_pass made)
  entries_append [] made = refl
  entries_append (item ∷ items) made = ap (λ l. Made (pass_of item) item ∷ l) (entries_append items made)

pub own_append : (number : ℕ) (xs ys : List Entry) → own number (xs ++ ys) ≡ own number xs ++ own number ys
own_append number [] ys = refl
own_append number (x ∷ xs) ys = by_test (own_append number xs ys) (pass_of x == number)
  where
    by_test : own number (xs ++ ys) ≡ own number xs ++ own number ys → (b : Bool) → (if b then x ∷ own number (xs ++ ys) else own number (xs ++ ys)) ≡ (if b then x ∷ own number xs else own number xs) ++ own number ys
    by_test rest true = ap (λ l. x ∷ l) rest
    by_test rest false = rest

-- what makes a list no longer is empty
pub no_more : {A : Type 0} (xs ys : List A) → xs ++ ys ≡ xs → ys ≡ []
no_more xs [] e = refl
no_more xs (y ∷ ys) e = absurd (omega (arith, length-append xs (y ∷ ys), ap length e))

module _ {O : Type 0} (number : ℕ) (seat0 seat1 : CellPass (Seen O) O Entry) (old : Seen O) (is : IsSeat number seat0) (took : seat.Takes (chronicle_of old.opening old.items) seat0 seat1) where
  -- the session taken goes on from what was seen
  pub grown : old.items ≡ items_in (seat.seen seat0) ++ items_in took.continues.rest
  grown = sym (items_of_entries O old.items) ∙ ap items_in took.continues.is ∙ items_append O (seat.seen seat0) took.continues.rest

  pub none_of_others : own number (items_in took.continues.rest) ≡ []
  none_of_others =
      no_more (own number (items_in (seat.seen seat0))) (own number (items_in took.continues.rest))
      (sym (own_append number (items_in (seat.seen seat0)) (items_in took.continues.rest))
      ∙ ap (own number) (sym grown)
      ∙ sym (own_items O number old.items)
      ∙ ap (λ n. items_in (cell.made_by n (chronicle_of old.opening old.items))) (sym is.number_is)
      ∙ ap items_in (took.mine_in_it ∙ is.own)
      ∙ ap (λ h. items_in (cell.made_by number h)) is.seen_is
      ∙ own_items O number (items_in (seat.seen seat0)))

module _ {O : Type 0} (number : ℕ) (Tells : List Entry → Seen O → Type 0) (seat0 seat1 : CellPass (Seen O) O Entry) (old new : Seen O) (is : IsSeat number seat0) (took : seat.Takes (chronicle_of old.opening old.items) seat0 seat1) (went : GoesOn number Tells old new) where
  -- and the entries are the pass's own
  pub history_is : chronicle_of new.opening new.items ≡ seat.got seat1 ++ cell.own (seat.number seat1) went.made
  history_is =
      ap (λ o. chronicle_of o new.items) went.opening
      ∙ ap (λ l. Opened old.opening ∷ cell.entries (map with_pass l)) went.items
      ∙ ap (λ l. Opened old.opening ∷ l) (entries_append O old.items went.made ∙ ap (λ l. cell.entries (map with_pass old.items) ++ l) (entries_by O number went.made went.by))
      ∙ ap (λ h. h ++ cell.own number went.made) (sym took.got_is)
      ∙ ap (λ n. seat.got seat1 ++ cell.own n went.made) (sym (took.number_stays ∙ is.number_is))

  pub extends : cell.Extends (seat.number seat1) (seat.got seat1) (chronicle_of new.opening new.items)
  extends = record { items = went.made; is = history_is }

  module _ (seat2 : CellPass (Seen O) O Entry) (put : seat.Puts (chronicle_of new.opening new.items) seat1 seat2) where
    seen_now : items_in (seat.seen seat2) ≡ new.items
    seen_now = ap items_in put.seen_is ∙ items_of_entries O new.items

    opening_then : seat.opening seat0 ≡ Some old.opening
    opening_then = sym took.begins

    opening_now : seat.opening seat2 ≡ Some old.opening
    opening_now = put.begins ∙ ap cell.opening_of took.seen_stays ∙ opening_then

    left : new ≡ as_seen old.opening (items_in (seat.seen seat2))
    left = ap (λ o. as_seen o new.items) went.opening ∙ ap (as_seen old.opening) (sym seen_now)

    pub view_taken : (Holds : Seen O → Type 0) → seat.maker_id seat2 ≡ seat.maker_id seat0 → Holds new → Takes number Holds Tells (view_of seat0) (view_of seat2)
    view_taken Holds same_cell holds =
        record {
          opening = old.opening;
          others = items_in took.continues.rest;
          made = went.made;
          opened = opening_then;
          opened_still = opening_now;
          seen = seen_now ∙ went.items ∙ ap (λ l. l ++ went.made) (grown number seat0 seat1 old is took);
          by_others = none_of_others number seat0 seat1 old is took;
          by = went.by;
          mine = ap items_in (put.mine_grew went.made history_is) ∙ items_append O (seat.mine seat1) (cell.own (seat.number seat1) went.made) ∙ ap (λ l. items_in l ++ items_in {O = O} (cell.own (seat.number seat1) went.made)) took.mine_stays ∙ ap (λ l. items_in (seat.mine seat0) ++ l) (items_own O (seat.number seat1) went.made);
          holds = subst Holds left holds;
          tells = subst (λ l. Tells went.made (as_seen old.opening l)) (grown number seat0 seat1 old is took) went.tells;
          cell_stays = same_cell;
          takings_rose = put.takings_stay ∙ took.takings_rose;
          last_rose = subst (λ n. seat.last seat0 < n) (sym put.last_stays) took.last_rose;
          last_is_taking = subst IsTaking (sym put.last_stays) took.last_is_taking;
          losses_stay = put.losses_stay ∙ took.losses_stay;
          met_stays = put.met_stays ∙ took.met_stays;
        }

    pub seat_put : IsSeat number seat2
    seat_put =
        record {
          number_is = put.number_stays ∙ took.number_stays ∙ is.number_is;
          idle = put.holds_not;
          begun = new.opening;
          seen_is = put.seen_is ∙ ap (chronicle_of new.opening) (sym seen_now);
          own = put.mine_is ∙ ap (λ n. cell.made_by n (chronicle_of new.opening new.items)) (took.number_stays ∙ is.number_is) ∙ ap (cell.made_by number) (sym put.seen_is);
        }

module _ {O : Type 0} (number : ℕ) (seat0 seat1 : CellPass (Seen O) O Entry) (lost : seat.Loses seat0 seat1) (same_cell : seat.maker_id seat1 ≡ seat.maker_id seat0) where
  pub view_lost : Loses (view_of seat0) (view_of seat1)
  view_lost =
      record {
        losses_rose = lost.losses_rose;
        met_is_taking = lost.met_is_taking;
        met_another = lost.met_another;
        cell_stays = same_cell;
        opening_stays = ap cell.opening_of lost.seen_stays;
        seen_stays = ap items_in lost.seen_stays;
        mine_stays = ap items_in lost.mine_stays;
        takings_stay = lost.takings_stay;
        last_stays = lost.last_stays;
      }

  pub seat_lost : IsSeat number seat0 → IsSeat number seat1
  seat_lost is =
      record {
        number_is = lost.number_stays ∙ is.number_is;
        idle = lost.holds_stays ∙ is.idle;
        begun = is.begun;
        seen_is = lost.seen_stays ∙ is.seen_is ∙ ap (λ h. chronicle_of is.begun (items_in h)) (sym lost.seen_stays);
        own = lost.mine_stays ∙ is.own ∙ ap (cell.made_by number) (sym lost.seen_stays);
      }
