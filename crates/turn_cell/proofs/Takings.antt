-- What a pass knows after it won the turn.
use Rattle.std.proofs.Common.{◌≡◌, ℕ, List, [], ◌∷◌, Some, IfSome, Option, sym, ap, subst, ◌∙◌, ◌<◌, ◌≤◌}
use Rattle.atomic_table.specs.Table.{Me}
use Rattle.turn_cell.specs.declared.chronicle.Entry.{Entry}
use Rattle.turn_cell.specs.declared.pass.Known.{Known}
use Rattle.turn_cell.specs.declared.pass.CellPass.{CellPass}
use Rattle.turn_cell.specs.Rule.{last_number}
use Rattle.turn_cell.specs.Passes.{Takes}
use Rattle.turn_cell.specs.Steps.{Wins, after_winning}

abbrev head_or : {A : Type 0} → A → List (ℕ × A) → A
head_or a [] = a
head_or a (x ∷ xs) = x.1

first_is : {A : Type 0} (a b : A) (xs ys : List (ℕ × A)) → (0, a) ∷ xs ≡ (0, b) ∷ ys → a ≡ b
first_is a b xs ys e = ap (head_or b) e

module _ (S O I : Type 0) (history_of : S → List (Entry O I)) where
  won : (before after : CellPass S O I) (middle : Me (Option S) (Known O I)) (taking : ℕ) (w : Wins history_of before.ticket.seat.me middle taking) → after.ticket.seat.me.0 ≡ middle.0 → Takes (history_of w.state) before after
  won before after middle taking w is =
      let view : after.ticket.seat.me.0 ≡ after_winning before.ticket.seat.me.0 (history_of w.state) taking = is ∙ w.view in
      record {
        holds_now = ap (λ v. v.holds) view;
        got_is = ap (λ v. v.got) view;
        begins = w.begins;
        continues = w.continues;
        others_behind = w.others;
        mine_in_it = w.mine;
        takings_rose = ap (λ v. v.takings) view;
        last_is_taking = subst (λ (n : ℕ). (0 < n) × (n ≤ last_number)) (sym (ap (λ v. v.last) view)) w.is_taking;
        last_rose = subst (λ (n : ℕ). before.ticket.seat.me.0.last < n) (sym (ap (λ v. v.last) view)) w.later;
        number_stays = ap (λ v. v.number) view;
        seen_stays = ap (λ v. v.seen) view;
        mine_stays = ap (λ v. v.mine) view;
        losses_stay = ap (λ v. v.losses) view;
        met_stays = ap (λ v. v.met) view;
      }

  -- and the state that it has in hand
  pub taken : (before after : CellPass S O I) (middle : Me (Option S) (Known O I)) (taking : ℕ) (result : Option S) (more : List (ℕ × Option S)) → Wins history_of before.ticket.seat.me middle taking → middle.1 ≡ (0, result) ∷ more → after.ticket.seat.me.0 ≡ middle.0
      → IfSome result (λ state. Takes (history_of state) before after)
  taken before after middle taking result more w has is =
      let same : result ≡ Some w.state = first_is result (Some w.state) more before.ticket.seat.me.1 (sym has ∙ w.hand) in
      subst (λ (r : Option S). IfSome r (λ state. Takes (history_of state) before after)) (sym same) (won before after middle taking w is)
