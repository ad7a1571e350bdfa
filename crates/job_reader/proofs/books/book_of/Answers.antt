-- The artefacts go into the book one by one.
use Rattle.std.proofs.Common.{◌≡◌, ◌∷◌, ◌++◌, [], length, ap, ◌∙◌, append_assoc, arith}
use Rattle.std.specs.Vec.Iter.{into_iter_items}
use Rattle.job_reader.proofs.RepeatLemmas.{book_more, book_repeats}
use Rattle.job_reader.proofs.books.book_of.Goals as goal

pub loop-artefact-preserved : goal.loop-artefact-preserved
loop-artefact-preserved c =
    let at = c.loop-artefact in
    let x = c.in-Some.artefact in
    let steps : into_iter_items at.artefact-iterator ≡ x ∷ into_iter_items c.next.new.self = c.in-Some.ensures.steps.0 in
    let gone = c.in-Some.ensures.steps.1 in
    let short = ap length steps in
    let counted = at.invariant.passed.counted in record {
      passed = record {
        joined = append_assoc at.yielded (x ∷ []) _ ∙ rw (← steps) at.invariant.passed.joined;
        counted = omega arith;
      };
      book = book_more at.yielded at.book at.second x c.add.new.self at.invariant.book c.in-Ok.ensures.0 c.in-Ok.ensures.1;
    }

pub returns-in-Err-Repeated : goal.returns-in-Err-Repeated
returns-in-Err-Repeated c =
    let at = c.loop-artefact in
    let x = c.in-Some.artefact in
    let steps : into_iter_items at.artefact-iterator ≡ x ∷ into_iter_items c.next.new.self = c.in-Some.ensures.steps.0 in
    let joined : at.yielded ++ x ∷ into_iter_items c.next.new.self ≡ c.args.artefacts.items =
    rw (← steps) at.invariant.passed.joined ∙ c.into_iter-artefact-iterator.ensures.into_iter_gives.0 in
    let known = rw c.in-Err-Repeated.field-0-is at c.in-Err-Repeated.ensures in
    λ other. book_repeats at.yielded at.book at.second c.in-Err-Repeated.first x _ _ at.invariant.book known.0 joined
