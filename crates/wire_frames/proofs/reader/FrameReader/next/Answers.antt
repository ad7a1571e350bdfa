use Rattle.std.proofs.Common.{◌≡◌, ℕ, List, Result, refl, sym, ap, subst, ◌∙◌}
use Rattle.wire_frames.specs.declared.reader.NextFrame.{NextFrame}
use Rattle.wire_frames.specs.declared.reader.FrameError.{FrameError}
use Rattle.wire_frames.specs.Reading.{IsPart, Gives}
use Rattle.wire_frames.specs.Front.{IsWhole}
use Rattle.wire_frames.proofs.FrontLemmas.{no_whole, no_bad_part}
use Rattle.wire_frames.proofs.reader.FrameReader.next.Goals as goal

pub returns-in-Part-clause-reads : goal.returns-in-Part-clause-reads
returns-in-Part-clause-reads c = (subst IsPart c.rest.ensures c.in-Part.ensures, refl)

pub returns-in-Part-clause-more : goal.returns-in-Part-clause-more
returns-in-Part-clause-more c = ((λ _. subst IsPart c.rest.ensures c.in-Part.ensures), (λ _. refl))

pub returns-in-Part-clause-bad : goal.returns-in-Part-clause-bad
returns-in-Part-clause-bad c = λ at. ((λ e. absurd cc), (λ bad. absurd (no_bad_part c.args.self.now at (subst IsPart c.rest.ensures c.in-Part.ensures) bad)))

pub returns-in-Whole-clause-more : goal.returns-in-Whole-clause-more
returns-in-Whole-clause-more c = (
  (λ e. absurd (subst (λ (r : Result NextFrame FrameError). Gives c.args.self.now r c.take.new.self) e c.take.ensures)),
  (λ part. absurd (no_whole c.args.self.now.rest c.in-Whole.size part (subst (λ (s : List ℕ). IsWhole s c.in-Whole.size) c.rest.ensures c.in-Whole.ensures))),
)
