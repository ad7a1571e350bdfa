-- The first event over and the greatest weight of a chain and of a branch are found part by part.
use Rattle.std.proofs.Common.{◌≡◌, ℕ, IfOk, max, subst, ap, ◌∙◌, inl, inr, arith}
use Rattle.phrase_tree.specs.Term.{term, seq}
use Rattle.evidence_types.specs.Measure.{greatest, counts_from, count_after, of_arm, of_pair}
use Rattle.evidence_types.proofs.MeasureLemmas.{chain-over-left, chain-over-right, greatest-chain, branch-over-left, branch-over-right, branch-over-join, greatest-branch, joined}
use Rattle.evidence_types.proofs.weight.+count.Goals as goal

pub returns-in-Err-count-clause-over : goal.returns-in-Err-count-clause-over
returns-in-Err-count-clause-over t c =
    rw c.in-Then.is (chain-over-left c.args.measure (term c.in-Then.left.value) (term c.in-Then.right.value) c.args.number c.args.before c.in-Err-count.event (rw c.deref-in-Then.ensures at c.in-Err-count.ensures.over))

pub returns-in-Err-count-2-clause-over : goal.returns-in-Err-count-2-clause-over
returns-in-Err-count-2-clause-over t c =
    rw c.in-Then.is (chain-over-right c.args.measure (term c.in-Then.left.value) (term c.in-Then.right.value) c.args.number c.args.before _ (rw c.deref-in-Then.ensures at c.in-Ok-count.ensures.over) (rw (c.deref-in-Then-2.ensures, c.in-Ok-count.ensures.next, c.in-Ok-count.ensures.after, c.deref-in-Then.ensures) at c.in-Err-count-2.ensures.over))

pub returns-in-Ok-count-2-clause-over : goal.returns-in-Ok-count-2-clause-over
returns-in-Ok-count-2-clause-over t c =
    rw c.in-Then.is (chain-over-right c.args.measure (term c.in-Then.left.value) (term c.in-Then.right.value) c.args.number c.args.before _ (rw c.deref-in-Then.ensures at c.in-Ok-count.ensures.over) (rw (c.deref-in-Then-2.ensures, c.in-Ok-count.ensures.next, c.in-Ok-count.ensures.after, c.deref-in-Then.ensures) at c.in-Ok-count-2.ensures.over))

pub returns-in-Ok-count-2-clause-worst : goal.returns-in-Ok-count-2-clause-worst
returns-in-Ok-count-2-clause-worst t c =
    let first = rw c.deref-in-Then.ensures at c.in-Ok-count.ensures.worst in
    let second = rw (c.deref-in-Then-2.ensures, c.in-Ok-count.ensures.next, c.in-Ok-count.ensures.after, c.deref-in-Then.ensures) at c.in-Ok-count-2.ensures.worst in
    rw c.in-Then.is (omega (arith, first, second, c.max.ensures, greatest-chain c.args.measure (term c.in-Then.left.value) (term c.in-Then.right.value) c.args.number c.args.before))

pub returns-in-Err-count-3-clause-over : goal.returns-in-Err-count-3-clause-over
returns-in-Err-count-3-clause-over t c =
    let over = branch-over-left c.args.measure c.in-Seq.split (term c.in-Seq.left.value) (term c.in-Seq.right.value) c.args.number c.args.before c.in-Err-count-3.event (rw (c.deref-in-Seq.ensures, c.arm.ensures) at c.in-Err-count-3.ensures.over) in
    elim c.in-Seq.is [ inl is ↦ rw is over | inr is ↦ rw is over ]

pub returns-in-Err-count-4-clause-over : goal.returns-in-Err-count-4-clause-over
returns-in-Err-count-4-clause-over t c =
    let over = branch-over-right c.args.measure c.in-Seq.split (term c.in-Seq.left.value) (term c.in-Seq.right.value) c.args.number c.args.before c.in-Err-count-4.event (rw (c.deref-in-Seq.ensures, c.arm.ensures) at c.in-Ok-count-3.ensures.over) (rw (c.deref-in-Seq-2.ensures, c.arm-in-Seq.ensures, c.in-Ok-count-3.ensures.next, c.deref-in-Seq.ensures) at c.in-Err-count-4.ensures.over) in
    elim c.in-Seq.is [ inl is ↦ rw is over | inr is ↦ rw is over ]

pub returns-in-Ok-count-4-clause-over : goal.returns-in-Ok-count-4-clause-over
returns-in-Ok-count-4-clause-over t c =
    let none_left = rw (c.deref-in-Seq.ensures, c.arm.ensures) at c.in-Ok-count-3.ensures.over in
    let none_right = rw (c.deref-in-Seq-2.ensures, c.arm-in-Seq.ensures, c.in-Ok-count-3.ensures.next, c.deref-in-Seq.ensures) at c.in-Ok-count-4.ensures.over in
    let next_left = rw c.deref-in-Seq.ensures at c.in-Ok-count-3.ensures.next in
    let next_right = rw c.deref-in-Seq-2.ensures at c.in-Ok-count-4.ensures.next in
    let after_left = rw (c.deref-in-Seq.ensures, c.arm.ensures) at c.in-Ok-count-3.ensures.after in
    let after_right = rw (c.deref-in-Seq-2.ensures, c.arm-in-Seq.ensures) at c.in-Ok-count-4.ensures.after in
    let over = branch-over-join c.args.measure c.in-Seq.split (term c.in-Seq.left.value) (term c.in-Seq.right.value) c.args.number c.args.before c.in-Ok-count-4.found.next c.in-Ok-count-3.found.after c.in-Ok-count-4.found.after _ none_left none_right (omega (arith, next_left, next_right)) after_left after_right c.count_join.ensures.over in
    elim c.in-Seq.is [ inl is ↦ rw is over | inr is ↦ rw is over ]

pub returns-in-Ok-count-4-clause-worst : goal.returns-in-Ok-count-4-clause-worst
returns-in-Ok-count-4-clause-worst t c =
    let m = c.args.measure in
    let split = c.in-Seq.split in
    let left = term c.in-Seq.left.value in
    let right = term c.in-Seq.right.value in
    let before = c.args.before in
    let worst_left = rw (c.deref-in-Seq.ensures, c.arm.ensures) at c.in-Ok-count-3.ensures.worst in
    let worst_right = rw (c.deref-in-Seq-2.ensures, c.arm-in-Seq.ensures, c.in-Ok-count-3.ensures.next, c.deref-in-Seq.ensures) at c.in-Ok-count-4.ensures.worst in
    let after_left = rw (c.deref-in-Seq.ensures, c.arm.ensures) at c.in-Ok-count-3.ensures.after in
    let after_right = rw (c.deref-in-Seq-2.ensures, c.arm-in-Seq.ensures) at c.in-Ok-count-4.ensures.after in
    let pair : of_pair m c.in-Ok-count-3.found.after c.in-Ok-count-4.found.after ≡ joined m split left right before =
    ap (λ x. of_pair m x c.in-Ok-count-4.found.after) after_left ∙ ap (λ x. of_pair m (count_after m left (of_arm split.left before)) x) after_right in
    let most : max c.in-Ok-count-3.found.worst (max c.in-Ok-count-4.found.worst (of_pair m c.in-Ok-count-3.found.after c.in-Ok-count-4.found.after)) ≡ greatest (counts_from m (seq split left right) c.args.number before) = omega (arith, worst_left, worst_right, pair, greatest-branch m split left right c.args.number before) in
    let family : ℕ → Type 0 = λ n. IfOk c.count_join.result (λ found. found.worst ≡ n) in
    let worst = subst family most c.count_join.ensures.worst in
    elim c.in-Seq.is [ inl is ↦ rw is worst | inr is ↦ rw is worst ]
