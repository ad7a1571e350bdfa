-- What is found in a part of a phrase, or passed there, is found or passed in the phrase.
use Rattle.std.proofs.Common.{inl, inr}
use Rattle.phrase_tree.specs.Term.{term}
use Rattle.phrase_tree.specs.declared.phrase.Split.{Split}
use Rattle.bench_trait.proofs.SeekLemmas.{request_sought, chain_found, chain_passed, arms_found, arms_passed}
use Rattle.bench_trait.proofs.asking.+seek.Goals as goal

pub returns-in-At : goal.returns-in-At
returns-in-At t c =
    rw c.in-At.is
    (request_sought c.args.nonce.now c.in-At.asked c.args.place (term c.in-At.body.value) c.args.first c.args.event c.seek.result c.past_last.result (rw c.deref-in-At.ensures at c.seek.ensures) c.past_last.ensures)

pub returns-in-Found : goal.returns-in-Found
returns-in-Found t c =
    rw c.in-Then.is
    (chain_found c.args.nonce.now c.args.place (term c.in-Then.left.value) (term c.in-Then.right.value) c.args.first c.args.event c.in-Found.ask (rw c.deref-in-Then.ensures at c.in-Found.ensures))

pub returns-in-Passed : goal.returns-in-Passed
returns-in-Passed t c =
    let passed = rw c.deref-in-Then.ensures at c.in-Passed.ensures in
    rw c.in-Then.is
    (chain_passed c.args.nonce.now c.args.place (term c.in-Then.left.value) (term c.in-Then.right.value) c.args.first c.in-Passed.next c.args.event c.seek-in-Passed.result passed.0 passed.1 (rw c.deref-in-Passed.ensures at c.seek-in-Passed.ensures))

pub returns-in-Found-seek : goal.returns-in-Found-seek
returns-in-Found-seek t c =
    let found = λ (split : Split). arms_found c.args.nonce.now c.args.place split (term c.in-Seq.left.value) (term c.in-Seq.right.value) c.args.first c.args.event c.in-Found-seek.ask (rw c.deref-in-Seq.ensures at c.in-Found-seek.ensures) in
    elim c.in-Seq.is [ inl (split, is) ↦ rw is (found split).0 | inr (split, is) ↦ rw is (found split).1 ]

pub returns-in-Passed-seek : goal.returns-in-Passed-seek
returns-in-Passed-seek t c =
    let left = rw c.deref-in-Seq.ensures at c.in-Passed-seek.ensures in
    let passed = λ (split : Split). arms_passed c.args.nonce.now c.args.place split (term c.in-Seq.left.value) (term c.in-Seq.right.value) c.args.first c.in-Passed-seek.next c.args.event c.seek-in-Passed-seek.result c.past_last-in-Passed-seek.result left.0 left.1 (rw c.deref-in-Passed-seek.ensures at c.seek-in-Passed-seek.ensures) c.past_last-in-Passed-seek.ensures in
    elim c.in-Seq.is [ inl (split, is) ↦ rw is (passed split).0 | inr (split, is) ↦ rw is (passed split).1 ]
