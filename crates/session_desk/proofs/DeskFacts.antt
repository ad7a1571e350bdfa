-- A desk while its sessions are opened.
use Rattle.std.proofs.Common.{◌≡◌, ℕ, suc, ◌+◌, ◌≤◌, List, [], ◌∷◌, ◌++◌, map, length, reverse, refl, sym, ◌∙◌, ap, subst, arith, append_assoc, append-nil, length-append}
use Rattle.std.specs.Prelude.{Some, slice_get, Result}
use Rattle.bench_trait.specs.declared.bench.MeasureError.{MeasureError}
use Rattle.session_model.specs.declared.record.Record.{Record}
use Rattle.session_core.specs.declared.opened.Opened.{Opened}
use Rattle.std.proofs.lemmas.List.{reverse-append, reverse-reverse, map_push}
use Rattle.atomic_table.specs.Seated.{TableId}
use Rattle.turn_cell.specs.declared.cell.TurnCell.{TurnCell}
use Rattle.turn_cell.specs.Passes.{cell_id}
use Rattle.session_book.specs.declared.entry.Entry.{Entry}
use Rattle.session_core.specs.Session.{Seen}
use Rattle.session_desk.specs.declared.hand.Hand.{Hand}
use Rattle.session_desk.specs.declared.hand.Turned.{Turned}
use Rattle.session_desk.specs.declared.hand.Recorded.{Recorded}
use Rattle.session_desk.specs.declared.hand.DeskError.{DeskError}
use Rattle.session_desk.specs.Views.{View, Known}
use Rattle.session_desk.specs.Taking.{ChangesOne, ChangesAt}
use Rattle.session_desk.specs.Answers.{Turns, Records, Outcomes}
use Rattle.session_desk.specs.Cells.{ids_of}
use Rattle.session_desk.specs.Opening.{AreOpened, AreJustOpened}

-- of these sessions all but those left have their cells, and the passes their seats; those left stand in the other order
pub record Opens {O : Type 0} (all left : List (Seen O)) (many : ℕ) (cells : List (TurnCell (Seen O) O Entry)) (passes : List (Known O)) : Type 0 where
  pub done : List (Seen O)
  pub is : all ≡ done ++ reverse left
  pub opened : AreOpened done many (ids_of cells) passes

pub opens_all : {O : Type 0} (all left : List (Seen O)) (many : ℕ) (cells : List (TurnCell (Seen O) O Entry)) (passes : List (Known O)) → left ≡ reverse all → cells ≡ [] → AreOpened [] many [] passes → Opens all left many cells passes
opens_all all left many cells passes is none opened =
    record { done = []; is = sym (reverse-reverse all) ∙ ap reverse (sym is); opened = subst (λ ids. AreOpened [] many ids passes) (sym (ap ids_of none)) opened }

just_opened : {O : Type 0} (done more : List (Seen O)) (session : Seen O) → AreJustOpened (done ++ session ∷ more) → session.items ≡ []
just_opened [] more session just = just.0
just_opened (x ∷ xs) more session just = just_opened xs more session just.1

module _ {O : Type 0} (all cur left : List (Seen O)) (many : ℕ) (cells : List (TurnCell (Seen O) O Entry)) (passes : List (Known O)) (opens : Opens all cur many cells passes) (session : Seen O) (popped : cur ≡ left ++ session ∷ []) where
  next_is : all ≡ opens.done ++ session ∷ reverse left
  next_is = opens.is ∙ ap (λ l. opens.done ++ l) (ap reverse popped ∙ reverse-append left (session ∷ []))

  pub next_just : AreJustOpened all → session.items ≡ []
  next_just just = just_opened opens.done (reverse left) session (subst (λ l. AreJustOpened l) next_is just)

  pub numbered : (at : ℕ) (pass : Known O) → slice_get passes at ≡ Some pass → pass.number ≡ at
  numbered at pass here = ap (λ (k : Known O). k.number) (opens.opened.each at pass here)

  pub next_opens : (cell : TurnCell (Seen O) O Entry) (after : List (Known O)) (more : List (TurnCell (Seen O) O Entry)) → more ≡ cells ++ cell ∷ [] → AreOpened (opens.done ++ session ∷ []) many (ids_of cells ++ cell_id cell ∷ []) after → Opens all left many more after
  next_opens cell after more is opened =
      record {
        done = opens.done ++ session ∷ [];
        is = next_is ∙ sym (append_assoc opens.done (session ∷ []) (reverse left));
        opened = subst (λ ids. AreOpened (opens.done ++ session ∷ []) many ids after) (sym (ap ids_of is ∙ map_push cell_id cells cell)) opened;
      }

pub all_open : {O : Type 0} (all left : List (Seen O)) (many : ℕ) (cells : List (TurnCell (Seen O) O Entry)) (passes : List (Known O)) → Opens all left many cells passes → left ≡ [] → AreOpened all many (ids_of cells) passes
all_open all left many cells passes opens none =
    subst (λ l. AreOpened l many (ids_of cells) passes) (sym (opens.is ∙ ap (λ l. opens.done ++ reverse l) none ∙ append-nil opens.done)) opens.opened

length_map : {A C : Type 0} (f : A → C) (xs : List A) → length (map f xs) ≡ length xs
length_map f [] = refl
length_map f (x ∷ xs) = ap suc (length_map f xs)

pub few_cells : {O : Type 0} (all left : List (Seen O)) (many : ℕ) (cells : List (TurnCell (Seen O) O Entry)) (passes : List (Known O)) → Opens all left many cells passes → length all ≤ 4294967295 → length cells ≤ 4294967295
few_cells all left many cells passes opens few =
    let a = sym (length_map cell_id cells) ∙ opens.opened.cells in
    let b = ap length opens.is ∙ length-append opens.done (reverse left) in
    omega (arith, a, b, few)

-- ---- what is said of a pass by its seats is said of what is seen of it

module _ {B : Type 0} (Holds : Seen (Opened B) → Type 0) (index number : ℕ) (before : Known (Opened B)) (views after : List (View (Opened B))) (is : record { number = number; views = views } ≡ before) where
  pub turn_seen : (answer : Turned) → ChangesOne index (Turns Holds index number answer) views after → ChangesAt index (Turns Holds index before.number answer) before (record { number = number; views = after })
  turn_seen answer one =
      subst (λ (k : Known (Opened B)). ChangesAt index (Turns Holds index k.number answer) k (record { number = number; views = after })) is (record { number_stays = refl; one = one })

  pub record_seen : (hand : Hand) (measured : Result (List ℕ) MeasureError) (answer : Recorded) → ChangesOne index (Records Holds number hand measured answer) views after → ChangesAt index (Records Holds before.number hand measured answer) before (record { number = number; views = after })
  record_seen hand measured answer one =
      subst (λ (k : Known (Opened B)). ChangesAt index (Records Holds k.number hand measured answer) k (record { number = number; views = after })) is (record { number_stays = refl; one = one })

  pub outcome_seen : (answer : Result Record DeskError) → ChangesOne index (Outcomes Holds number answer) views after → ChangesAt index (Outcomes Holds before.number answer) before (record { number = number; views = after })
  outcome_seen answer one =
      subst (λ (k : Known (Opened B)). ChangesAt index (Outcomes Holds k.number answer) k (record { number = number; views = after })) is (record { number_stays = refl; one = one })
