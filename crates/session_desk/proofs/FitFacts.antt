-- The passes of a desk just opened.
use Rattle.std.proofs.Common.{◌≡◌, ℕ, ◌<◌, suc, List, [], ◌∷◌, map, length, refl, sym, ◌∙◌, ap, subst, arith}
use Rattle.std.specs.Prelude.{Some, slice_get}
use Rattle.std.proofs.lemmas.Option.{slice_get_within}
use Rattle.atomic_table.specs.Seated.{TableId}
use Rattle.bench_trait.specs.declared.artefacts.Artefact.{Artefact}
use Rattle.turn_cell.specs.declared.cell.TurnCell.{TurnCell}
use Rattle.turn_cell.specs.Passes.{cell_id}
use Rattle.session_book.specs.declared.entry.Entry.{Entry}
use Rattle.session_core.specs.declared.opened.Opened.{Opened}
use Rattle.session_core.specs.Session.{Seen}
use Rattle.session_desk.specs.Views.{View, Known, cells_of, openings_of}
use Rattle.session_desk.specs.Cells.{ids_of}
use Rattle.session_desk.specs.Answers.{AreOver, IsAt}
use Rattle.session_desk.specs.Opening.{new_views, AreOpened, AreOpenedOver, IsFit}

cells_new : {O : Type 0} (desk : List TableId) (sessions : List (Seen O)) → length desk ≡ length sessions → cells_of (new_views desk sessions) ≡ desk
cells_new [] sessions same = refl
cells_new (x ∷ xs) [] same = absurd (omega (arith, same))
cells_new (x ∷ xs) (y ∷ ys) same = ap (λ l. x ∷ l) (cells_new xs ys (omega (arith, same)))

over_new : {B : Type 0} (bench : B) (artefacts : List Artefact) (desk : List TableId) (sessions : List (Seen (Opened B))) → AreOpenedOver bench artefacts sessions → AreOver bench artefacts (openings_of (new_views desk sessions))
over_new bench artefacts [] sessions over = tt
over_new bench artefacts (x ∷ xs) [] over = tt
over_new bench artefacts (x ∷ xs) (y ∷ ys) over = (over.0, over_new bench artefacts xs ys over.1)

pub fit_new : {B : Type 0} (bench : B) (artefacts : List Artefact) (sessions : List (Seen (Opened B))) (many : ℕ) (desk : List TableId) (passes : List (Known (Opened B))) (number : ℕ) (pass : Known (Opened B)) → AreOpened sessions many desk passes → AreOpenedOver bench artefacts sessions → slice_get passes number ≡ Some pass → IsFit bench artefacts desk pass
fit_new {B} bench artefacts sessions many desk passes number pass opened over at =
    let is = ap (λ (k : Known (Opened B)). k.views) (opened.each number pass at) in
    record {
      made = ap cells_of is ∙ cells_new desk sessions opened.cells;
      over = subst (λ vs. AreOver bench artefacts (openings_of vs)) (sym is) (over_new bench artefacts desk sessions over);
    }

length_map : {A C : Type 0} (f : A → C) (xs : List A) → length (map f xs) ≡ length xs
length_map f [] = refl
length_map f (x ∷ xs) = ap suc (length_map f xs)

-- an index of a view is one of a cell
pub in_range : {O : Type 0} (index : ℕ) (Is : View O → Type 0) (views : List (View O)) (desk : List TableId) (cells : List (TurnCell (Seen O) O Entry)) → IsAt index Is views → cells_of views ≡ desk → ids_of cells ≡ desk → index < length cells
in_range {O} index Is views desk cells there made are =
    let few = slice_get_within views index there.view there.at in
    let same = sym (length_map (λ (v : View O). v.cell) views) ∙ ap length (made ∙ sym are) ∙ length_map cell_id cells in
    subst (λ n. index < n) same few
