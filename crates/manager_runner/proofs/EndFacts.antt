-- What a desk's answers say of sessions that came to their end.
use Rattle.std.proofs.Common.{◌≡◌, ◌≢◌, ℕ, zero, suc, List, [], ◌∷◌, ◌++◌, refl, sym, ◌∙◌, ap, subst, append-nil}
use Rattle.std.specs.Prelude.{Some, Result, Ok, slice_get, slice_set}
use Rattle.bench_trait.specs.declared.ask.Ask.{Ask as Question}
use Rattle.bench_trait.specs.declared.bench.BenchFault.{BenchFault}
use Rattle.session_model.specs.Session.{Session}
use Rattle.session_model.specs.declared.record.Record.{Record}
use Rattle.session_runs.specs.Standing.{Standing}
use Rattle.session_book.specs.declared.entry.Entry.{Entry}
use Rattle.session_core.specs.declared.opened.Opened.{Opened}
use Rattle.session_core.specs.Session.{Seen, session_in, StandsAt}
use Rattle.session_desk.specs.declared.hand.Turned.TheVariants as turned
use Rattle.session_desk.specs.declared.hand.DeskError.{DeskError}
use Rattle.session_desk.specs.Views.{View, Known, as_seen}
use Rattle.session_desk.specs.Taking.{Takes, ChangesAt}
use Rattle.session_desk.specs.Answers.{IsLegalSeen, Finds, IsClosed, IsRecord, TurnTells, Turns, OutcomeTells, Outcomes, IsAt}
use Rattle.manager_runner.specs.Ended.{HasEnded, HasRecord}

some_same : {A : Type 0} (a b : A) → Some a ≡ Some b → a ≡ b
some_same a b e = cc

get_set : {A : Type 0} (xs : List A) (i : ℕ) (x y : A) → slice_get xs i ≡ Some x → slice_get (slice_set xs i y) i ≡ Some y
get_set [] i x y at = absurd (cc)
get_set (z ∷ zs) zero x y at = refl
get_set (z ∷ zs) (suc i) x y at = get_set zs i x y at

module _ {B : Type 0} (Gives : Opened B → Question → List ℕ → Type 0) (Fails : Opened B → Question → BenchFault → Type 0) (Starves : Opened B → Question → Type 0) where
  -- what was found of the session taken holds of what the pass has seen
  found_of : (Is : Session → Standing → Type 0) (Tells : List Entry → Seen (Opened B) → Type 0) → ((made : List Entry) (taken : Seen (Opened B)) → Tells made taken → Finds Is made taken) → (number : ℕ) (old new : View (Opened B)) (takes : Takes number (IsLegalSeen Gives Fails Starves) Tells old new) → Is (session_in takes.opening) takes.holds.0
  found_of Is Tells tells number old new takes =
      let found = tells takes.made (as_seen takes.opening (old.seen ++ takes.others)) takes.tells in
      let seen : new.seen ≡ old.seen ++ takes.others = takes.seen ∙ ap (λ made. old.seen ++ takes.others ++ made) found.idle ∙ append-nil (old.seen ++ takes.others) in
      let stands : StandsAt (as_seen takes.opening new.seen) found.standing = subst (λ l. StandsAt (as_seen takes.opening l) found.standing) (sym seen) found.stands in
      subst (λ standing. Is (session_in takes.opening) standing) (some_same found.standing takes.holds.0 (sym stands ∙ takes.holds.1.stands)) found.is

  ended_of : (index number : ℕ) (old new : View (Opened B)) → Turns (IsLegalSeen Gives Fails Starves) index number turned.Finished old new → HasEnded Gives Fails Starves new
  ended_of index number old new takes =
      record {
        opening = takes.opening;
        opened = takes.opened_still;
        standing = takes.holds.0;
        legal = takes.holds.1;
        closed = found_of IsClosed (TurnTells index number turned.Finished) (λ made taken tells. tells) number old new takes;
      }

  record_of_view : (number : ℕ) (found : Record) (old new : View (Opened B)) → Outcomes (IsLegalSeen Gives Fails Starves) number (Ok found) old new → HasRecord Gives Fails Starves found new
  record_of_view number found old new takes =
      record {
        opening = takes.opening;
        opened = takes.opened_still;
        standing = takes.holds.0;
        legal = takes.holds.1;
        is = found_of (IsRecord found) (OutcomeTells (Ok found)) (λ made taken tells. tells) number old new takes;
      }

  -- a turn that finds the session finished
  pub ended_here : (index number : ℕ) (before after : Known (Opened B)) → ChangesAt index (Turns (IsLegalSeen Gives Fails Starves) index number turned.Finished) before after → IsAt index (HasEnded Gives Fails Starves) after.views
  ended_here index number before after changes =
      record {
        view = changes.one.new;
        at = ap (λ views. slice_get views index) changes.one.others_stay ∙ get_set before.views index changes.one.old changes.one.new changes.one.was;
        is = ended_of index number changes.one.old changes.one.new changes.one.changes;
      }

  -- an outcome with a record
  pub record_here : (index number : ℕ) (found : Record) (before after : Known (Opened B)) → ChangesAt index (Outcomes (IsLegalSeen Gives Fails Starves) number (Ok found)) before after → IsAt index (HasRecord Gives Fails Starves found) after.views
  record_here index number found before after changes =
      record {
        view = changes.one.new;
        at = ap (λ views. slice_get views index) changes.one.others_stay ∙ get_set before.views index changes.one.old changes.one.new changes.one.was;
        is = record_of_view number found changes.one.old changes.one.new changes.one.changes;
      }
