-- Each form of phrase goes on in its own way.
use Rattle.std.proofs.Common.{inl, inr, refl}
use Rattle.phrase_tree.specs.Term.{cpy, sig, hsh, nul, term}
use Rattle.plain_eval.specs.Asks.{all_coming}
use Rattle.plain_eval.proofs.AskLemmas.{leaf_goes, request_goes, chain_goes, seq_goes, par_goes}
use Rattle.plain_eval.proofs.asks.begin.Goals as goal

pub returns-in-Cpy : goal.returns-in-Cpy
returns-in-Cpy c =
    let parts = all_coming c.args.asks.now.parts.items in
    elim c.in-Cpy.is [
      | inl is ↦ rw is (leaf_goes c.args.asks.now c.event-in-Cpy.new.asks cpy c.args.place parts refl c.event-in-Cpy.ensures.sets)
      | inr (inl is) ↦ rw is (leaf_goes c.args.asks.now c.event-in-Cpy.new.asks sig c.args.place parts refl c.event-in-Cpy.ensures.sets)
      | inr (inr (inl is)) ↦ rw is (leaf_goes c.args.asks.now c.event-in-Cpy.new.asks hsh c.args.place parts refl c.event-in-Cpy.ensures.sets)
      | inr (inr (inr is)) ↦ rw is (leaf_goes c.args.asks.now c.event-in-Cpy.new.asks nul c.args.place parts refl c.event-in-Cpy.ensures.sets)
    ]

pub returns-in_ok-request-in-At : goal.returns-in_ok-request-in-At
returns-in_ok-request-in-At c =
    let parts = all_coming c.args.asks.now.parts.items in
    rw c.in-At.is
    (request_goes c.args.asks.now c.request.new.asks c.in-At.asked c.args.place (term c.in-At.body.value) parts (rw c.deref-in-At.ensures at c.in_ok-request-in-At.ensures))

pub returns-in_ok-chain-in-Then : goal.returns-in_ok-chain-in-Then
returns-in_ok-chain-in-Then c =
    let parts = all_coming c.args.asks.now.parts.items in
    rw c.in-Then.is
    (chain_goes c.args.asks.now c.chain.new.asks c.args.place (term c.in-Then.left.value) (term c.in-Then.right.value) parts (rw (c.deref-in-Then.ensures, c.deref-in-Then-2.ensures) at c.in_ok-chain-in-Then.ensures))

pub returns-in_ok-branch-in-Seq : goal.returns-in_ok-branch-in-Seq
returns-in_ok-branch-in-Seq c =
    let parts = all_coming c.args.asks.now.parts.items in
    let left = term c.in-Seq.left.value in
    let right = term c.in-Seq.right.value in
    let sets = rw (c.deref-in-Seq.ensures, c.deref-in-Seq-2.ensures) at c.in_ok-branch-in-Seq.ensures in
    elim c.in-Seq.is [
      | inl (split, is) ↦ rw is (seq_goes c.args.asks.now c.branch-asks.new.asks c.args.place split left right parts sets)
      | inr (split, is) ↦ rw is (par_goes c.args.asks.now c.branch-asks.new.asks c.args.place split left right parts sets)
    ]
