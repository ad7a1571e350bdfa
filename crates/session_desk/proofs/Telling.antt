-- What was told of the session taken is what the answer says.
use Rattle.std.proofs.Common.{◌≡◌, ℕ, List, subst, sym}
use Rattle.std.specs.Prelude.{Bool, true, false, Result, Ok, Err}
use Rattle.bench_trait.specs.declared.bench.MeasureError.{MeasureError}
use Rattle.session_model.specs.declared.record.Record.{Record}
use Rattle.session_core.specs.declared.opened.Opened.{Opened}
use Rattle.session_core.specs.Session.{Seen}
use Rattle.session_desk.specs.declared.hand.Hand.{Hand}
use Rattle.session_desk.specs.declared.hand.Turned.{Turned}
use Rattle.session_desk.specs.declared.hand.Turned.TheVariants as turned
use Rattle.session_desk.specs.declared.hand.Recorded.{Recorded}
use Rattle.session_desk.specs.declared.hand.DeskError.{DeskError}
use Rattle.session_desk.specs.declared.hand.DeskError.TheVariants as desk
use Rattle.session_desk.specs.Views.{View}
use Rattle.session_desk.specs.Taking.{Takes}
use Rattle.session_desk.specs.Words.{kept_or_ended}
use Rattle.session_desk.specs.Answers.{TurnTells, Turns, RecordTells, Records, OutcomeTells, Outcomes}

module _ {B : Type 0} (Holds : Seen (Opened B) → Type 0) (number : ℕ) (before after : View (Opened B)) where
  pub turns : (index : ℕ) (answer : Turned) → Takes number Holds (TurnTells index number answer) before after → Turns Holds index number answer before after
  turns index turned.Moved takes = takes
  turns index (turned.ToMeasure ask hand) takes = takes
  turns index turned.Waiting takes = takes
  turns index turned.Finished takes = takes
  turns index turned.Busy takes = absurd takes.tells

  kept_records : (hand : Hand) (measured : Result (List ℕ) MeasureError) (kept : Bool) → Takes number Holds (RecordTells number hand.event measured kept) before after → Records Holds number hand measured (kept_or_ended kept) before after
  kept_records hand measured true takes = takes
  kept_records hand measured false takes = takes

  pub records : (hand : Hand) (measured : Result (List ℕ) MeasureError) (kept : Bool) (answer : Recorded) → answer ≡ kept_or_ended kept → Takes number Holds (RecordTells number hand.event measured kept) before after → Records Holds number hand measured answer before after
  records hand measured kept answer is takes = subst (λ (a : Recorded). Records Holds number hand measured a before after) (sym is) (kept_records hand measured kept takes)

  pub outcomes : (answer : Result Record DeskError) → Takes number Holds (OutcomeTells answer) before after → Outcomes Holds number answer before after
  outcomes (Ok found) takes = takes
  outcomes (Err desk.NotFinished) takes = takes
  outcomes (Err desk.NoMemory) takes = takes
  outcomes (Err desk.Busy) takes = absurd takes.tells
