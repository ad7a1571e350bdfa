-- The first rule that a request, a chain or a branch breaks is found part by part.
use Rattle.std.proofs.Common.{inl, inr}
use Rattle.phrase_tree.specs.Term.{term}
use Rattle.place_check.proofs.RuleLemmas.{branch-left, branch-right, chain-left, chain-right, request-body}
use Rattle.place_check.proofs.walk.+walk.Goals as goal

pub returns-in-Ok-walk-clause-fault : goal.returns-in-Ok-walk-clause-fault
returns-in-Ok-walk-clause-fault t c =
    rw c.in-At.is (request-body c.args.places.now c.in-At.asked c.args.place (term c.in-At.body.value) c.args.number _ (rw c.request_fault.ensures at c.in-Ok.ensures.fault) (rw (c.deref-in-At.ensures, c.in-Ok.ensures.next) at c.in-Ok-walk.ensures.fault))

pub returns-in-Err-walk-clause-fault : goal.returns-in-Err-walk-clause-fault
returns-in-Err-walk-clause-fault t c =
    rw c.in-At.is (request-body c.args.places.now c.in-At.asked c.args.place (term c.in-At.body.value) c.args.number _ (rw c.request_fault.ensures at c.in-Ok.ensures.fault) (rw (c.deref-in-At.ensures, c.in-Ok.ensures.next) at c.in-Err-walk.ensures.fault))

pub returns-in-Err-walk-2-clause-fault : goal.returns-in-Err-walk-2-clause-fault
returns-in-Err-walk-2-clause-fault t c =
    rw c.in-Then.is (chain-left c.args.places.now (term c.in-Then.left.value) (term c.in-Then.right.value) c.args.place c.args.number c.in-Err-walk-2.fault (rw c.deref-in-Then.ensures at c.in-Err-walk-2.ensures.fault))

pub returns-in-Ok-walk-2-clause-fault : goal.returns-in-Ok-walk-2-clause-fault
returns-in-Ok-walk-2-clause-fault t c =
    rw c.in-Then.is (chain-right c.args.places.now (term c.in-Then.left.value) (term c.in-Then.right.value) c.args.place c.args.number _ (rw c.deref-in-Then.ensures at c.in-Ok-walk-2.ensures.fault) (rw (c.deref-in-Ok-walk-2.ensures, c.in-Ok-walk-2.ensures.next, c.deref-in-Then.ensures) at c.walk-in-Ok-walk-2.ensures.fault))

pub returns-in-Err-walk-3-clause-fault : goal.returns-in-Err-walk-3-clause-fault
returns-in-Err-walk-3-clause-fault t c =
    let broken = rw c.deref-in-Seq.ensures at c.in-Err-walk-3.ensures.fault in
    elim c.in-Seq.is [
      | inl is ↦ rw is.1 (branch-left c.args.places.now is.0 (term c.in-Seq.left.value) (term c.in-Seq.right.value) c.args.place c.args.number c.in-Err-walk-3.fault broken)
      | inr is ↦ rw is.1 (branch-left c.args.places.now is.0 (term c.in-Seq.left.value) (term c.in-Seq.right.value) c.args.place c.args.number c.in-Err-walk-3.fault broken)
    ]

pub returns-in-Ok-walk-4-clause-fault : goal.returns-in-Ok-walk-4-clause-fault
returns-in-Ok-walk-4-clause-fault t c =
    let none = rw c.deref-in-Seq.ensures at c.in-Ok-walk-3.ensures.fault in
    let behind = rw (c.deref-in-Seq-2.ensures, c.in-Ok-walk-3.ensures.next, c.deref-in-Seq.ensures) at c.in-Ok-walk-4.ensures.fault in
    elim c.in-Seq.is [
      | inl is ↦ rw is.1 (branch-right c.args.places.now is.0 (term c.in-Seq.left.value) (term c.in-Seq.right.value) c.args.place c.args.number _ none behind)
      | inr is ↦ rw is.1 (branch-right c.args.places.now is.0 (term c.in-Seq.left.value) (term c.in-Seq.right.value) c.args.place c.args.number _ none behind)
    ]

pub returns-in-Err-walk-4-clause-fault : goal.returns-in-Err-walk-4-clause-fault
returns-in-Err-walk-4-clause-fault t c =
    let none = rw c.deref-in-Seq.ensures at c.in-Ok-walk-3.ensures.fault in
    let behind = rw (c.deref-in-Seq-2.ensures, c.in-Ok-walk-3.ensures.next, c.deref-in-Seq.ensures) at c.in-Err-walk-4.ensures.fault in
    elim c.in-Seq.is [
      | inl is ↦ rw is.1 (branch-right c.args.places.now is.0 (term c.in-Seq.left.value) (term c.in-Seq.right.value) c.args.place c.args.number _ none behind)
      | inr is ↦ rw is.1 (branch-right c.args.places.now is.0 (term c.in-Seq.left.value) (term c.in-Seq.right.value) c.args.place c.args.number _ none behind)
    ]
