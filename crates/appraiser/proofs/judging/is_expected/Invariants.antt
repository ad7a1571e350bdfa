-- None of the references before is the answer.
use Rattle.std.proofs.Common.{◌≡◌, drop}
use Rattle.std.specs.List.{list_any}
use Rattle.reference_book.specs.References.{answers_for}
use Rattle.appraiser.specs.Verdicts.{same}
use Rattle.appraiser.proofs.judging.is_expected.Given as goal

abbrev pub invariant-loop-index : goal.invariant-loop-index
invariant-loop-index l =
    list_any (λ other. same other l.answer) (drop l.index (answers_for l.references l.place l.kind l.asp)) ≡ list_any (λ other. same other l.answer) (answers_for l.references l.place l.kind l.asp)
