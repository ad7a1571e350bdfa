use Rattle.std.proofs.Common.{ℕ, List, IsTrue, length, refl, sym, subst, ap, arith}
use Rattle.std.specs.List.{AllByRecursion}
use Rattle.phrase_tree.specs.Term.{Term, term}
use Rattle.phrase_tree.specs.Numbering.{IsSized, event_count}
use Rattle.phrase_tree.specs.Events.{events_of}
use Rattle.session_runs.specs.Standing.{root, of}
use Rattle.avm_compile.specs.Program.{program_of}
use Rattle.avm_core.specs.Programs.{IsKeyed}
use Rattle.machine_world.specs.declared.tests.TheConstants.{NONCE}
use Rattle.machine_world.specs.Cells.{makings_of}
use Rattle.machine_world.specs.Playable.{asks_listed}
use Rattle.machine_world.proofs.Playing.{Given, IsShort, start, ran, got, arms, arms_of, arms_0, arms_1, arms_2, arms_3, arms_4, arms_5, arms_may_0, arms_may_1, arms_may_2, arms_may_3, arms_may_4, arms_may_5, sized_arms, keyed_arms, asks_arms, may_answer, runs_on, is_started}
use Rattle.machine_world.proofs.tests.expect_joined.Goals as goal

pub opened-requires-clause-sized : goal.opened-requires-clause-sized
opened-requires-clause-sized g c = subst IsSized (sym c.in_ok-phrase.ensures) (sized_arms c.in_ok-a.a c.in_ok-b.b)

pub opened-requires-clause-keyed : goal.opened-requires-clause-keyed
opened-requires-clause-keyed g c =
    subst (λ (t : Term). AllByRecursion (IsKeyed c.of-keys.result) (program_of t c.in_ok-bank.bank)) (sym c.in_ok-phrase.ensures) (keyed_arms c.in_ok-a.a c.in_ok-b.b c.in_ok-bank.bank c.of-keys.result)

pub opened-requires-clause-asks : goal.opened-requires-clause-asks
opened-requires-clause-asks g c =
    subst (λ (t : Term). AllByRecursion (λ one. IsTrue (asks_listed c.in_ok-places.places.items one.kind)) (events_of t c.in_ok-bank.bank 0)) (sym c.in_ok-phrase.ensures) (asks_arms c.in_ok-a.a c.in_ok-b.b c.in_ok-bank.bank c.in_ok-places.places.items)

pub opened-requires-clause-counted : goal.opened-requires-clause-counted
opened-requires-clause-counted g c = ap event_count c.in_ok-phrase.ensures

pub run-forked-requires-clause-may_run : goal.run-forked-requires-clause-may_run
run-forked-requires-clause-may_run g c =
    let given : Given = record { a = c.in_ok-a.a; b = c.in_ok-b.b; place = c.in_ok-bank.bank; bytes = NONCE; left = c.in_ok-left.left; right = c.in_ok-right.right; from = makings_of c.of-keys.result NONCE } in
    let short : IsShort given = record { bytes = omega arith; left = omega (arith, ap (λ (bytes : List ℕ). length bytes) c.in_ok-left.ensures); right = omega (arith, ap (λ (bytes : List ℕ). length bytes) c.in_ok-right.ensures) } in
    let s0 = start (term c.in_ok-phrase.phrase) (arms given.a given.b) given.place c.in_ok-world.world _ c.in_ok-world.ensures.program c.in_ok-world.ensures.opens c.in_ok-phrase.ensures in
    runs_on (arms_of given) c.in_ok-world.world given.from (arms_0 given) root s0 (arms_may_0 given short)

pub waiter-requires-clause-started : goal.waiter-requires-clause-started
waiter-requires-clause-started g c =
    let given : Given = record { a = c.in_ok-a.a; b = c.in_ok-b.b; place = c.in_ok-bank.bank; bytes = NONCE; left = c.in_ok-left.left; right = c.in_ok-right.right; from = makings_of c.of-keys.result NONCE } in
    let short : IsShort given = record { bytes = omega arith; left = omega (arith, ap (λ (bytes : List ℕ). length bytes) c.in_ok-left.ensures); right = omega (arith, ap (λ (bytes : List ℕ). length bytes) c.in_ok-right.ensures) } in
    let s0 = start (term c.in_ok-phrase.phrase) (arms given.a given.b) given.place c.in_ok-world.world _ c.in_ok-world.ensures.program c.in_ok-world.ensures.opens c.in_ok-phrase.ensures in
    let s1 = ran (arms_of given) c.in_ok-world.world c.run-forked.new.self given.from root _ (arms_0 given) s0 c.run-forked.ensures.program c.run-forked.ensures.moves refl refl in
    is_started (arms_of given) c.run-forked.new.self (arms_1 given) (of 0) s1 tt

pub answer-requires-3-clause-may_answer : goal.answer-requires-3-clause-may_answer
answer-requires-3-clause-may_answer g c =
    let given : Given = record { a = c.in_ok-a.a; b = c.in_ok-b.b; place = c.in_ok-bank.bank; bytes = NONCE; left = c.in_ok-left.left; right = c.in_ok-right.right; from = makings_of c.of-keys.result NONCE } in
    let short : IsShort given = record { bytes = omega arith; left = omega (arith, ap (λ (bytes : List ℕ). length bytes) c.in_ok-left.ensures); right = omega (arith, ap (λ (bytes : List ℕ). length bytes) c.in_ok-right.ensures) } in
    let s0 = start (term c.in_ok-phrase.phrase) (arms given.a given.b) given.place c.in_ok-world.world _ c.in_ok-world.ensures.program c.in_ok-world.ensures.opens c.in_ok-phrase.ensures in
    let s1 = ran (arms_of given) c.in_ok-world.world c.run-forked.new.self given.from root _ (arms_0 given) s0 c.run-forked.ensures.program c.run-forked.ensures.moves refl refl in
    (1, may_answer (arms_of given) c.run-forked.new.self (arms_1 given) 1 given.left root s1 (arms_may_1 given short))

pub answer-requires-4-clause-may_answer : goal.answer-requires-4-clause-may_answer
answer-requires-4-clause-may_answer g c =
    let given : Given = record { a = c.in_ok-a.a; b = c.in_ok-b.b; place = c.in_ok-bank.bank; bytes = NONCE; left = c.in_ok-left.left; right = c.in_ok-right.right; from = makings_of c.of-keys.result NONCE } in
    let short : IsShort given = record { bytes = omega arith; left = omega (arith, ap (λ (bytes : List ℕ). length bytes) c.in_ok-left.ensures); right = omega (arith, ap (λ (bytes : List ℕ). length bytes) c.in_ok-right.ensures) } in
    let s0 = start (term c.in_ok-phrase.phrase) (arms given.a given.b) given.place c.in_ok-world.world _ c.in_ok-world.ensures.program c.in_ok-world.ensures.opens c.in_ok-phrase.ensures in
    let s1 = ran (arms_of given) c.in_ok-world.world c.run-forked.new.self given.from root _ (arms_0 given) s0 c.run-forked.ensures.program c.run-forked.ensures.moves refl refl in
    let s2 = got (arms_of given) c.run-forked.new.self c.answer-3.new.self given.from 1 given.left root _ (arms_1 given) s1 c.answer-3.ensures.program (λ book still asked. c.answer-3.ensures.answers book given.from 0 1 still asked) refl refl in
    (2, may_answer (arms_of given) c.answer-3.new.self (arms_2 given) 2 given.right (of 0) s2 (arms_may_2 given short))

pub run-over-requires-clause-may_run : goal.run-over-requires-clause-may_run
run-over-requires-clause-may_run g c =
    let given : Given = record { a = c.in_ok-a.a; b = c.in_ok-b.b; place = c.in_ok-bank.bank; bytes = NONCE; left = c.in_ok-left.left; right = c.in_ok-right.right; from = makings_of c.of-keys.result NONCE } in
    let short : IsShort given = record { bytes = omega arith; left = omega (arith, ap (λ (bytes : List ℕ). length bytes) c.in_ok-left.ensures); right = omega (arith, ap (λ (bytes : List ℕ). length bytes) c.in_ok-right.ensures) } in
    let s0 = start (term c.in_ok-phrase.phrase) (arms given.a given.b) given.place c.in_ok-world.world _ c.in_ok-world.ensures.program c.in_ok-world.ensures.opens c.in_ok-phrase.ensures in
    let s1 = ran (arms_of given) c.in_ok-world.world c.run-forked.new.self given.from root _ (arms_0 given) s0 c.run-forked.ensures.program c.run-forked.ensures.moves refl refl in
    let s2 = got (arms_of given) c.run-forked.new.self c.answer-3.new.self given.from 1 given.left root _ (arms_1 given) s1 c.answer-3.ensures.program (λ book still asked. c.answer-3.ensures.answers book given.from 0 1 still asked) refl refl in
    let s3 = got (arms_of given) c.answer-3.new.self c.answer-4.new.self given.from 2 given.right (of 0) _ (arms_2 given) s2 c.answer-4.ensures.program (λ book still asked. c.answer-4.ensures.answers book given.from 0 2 still asked) refl refl in
    runs_on (arms_of given) c.answer-4.new.self given.from (arms_3 given) (of 0) s3 (arms_may_3 given short)

pub run-joined-requires-clause-may_run : goal.run-joined-requires-clause-may_run
run-joined-requires-clause-may_run g c =
    let given : Given = record { a = c.in_ok-a.a; b = c.in_ok-b.b; place = c.in_ok-bank.bank; bytes = NONCE; left = c.in_ok-left.left; right = c.in_ok-right.right; from = makings_of c.of-keys.result NONCE } in
    let short : IsShort given = record { bytes = omega arith; left = omega (arith, ap (λ (bytes : List ℕ). length bytes) c.in_ok-left.ensures); right = omega (arith, ap (λ (bytes : List ℕ). length bytes) c.in_ok-right.ensures) } in
    let s0 = start (term c.in_ok-phrase.phrase) (arms given.a given.b) given.place c.in_ok-world.world _ c.in_ok-world.ensures.program c.in_ok-world.ensures.opens c.in_ok-phrase.ensures in
    let s1 = ran (arms_of given) c.in_ok-world.world c.run-forked.new.self given.from root _ (arms_0 given) s0 c.run-forked.ensures.program c.run-forked.ensures.moves refl refl in
    let s2 = got (arms_of given) c.run-forked.new.self c.answer-3.new.self given.from 1 given.left root _ (arms_1 given) s1 c.answer-3.ensures.program (λ book still asked. c.answer-3.ensures.answers book given.from 0 1 still asked) refl refl in
    let s3 = got (arms_of given) c.answer-3.new.self c.answer-4.new.self given.from 2 given.right (of 0) _ (arms_2 given) s2 c.answer-4.ensures.program (λ book still asked. c.answer-4.ensures.answers book given.from 0 2 still asked) refl refl in
    let s4 = ran (arms_of given) c.answer-4.new.self c.run-over.new.self given.from (of 0) _ (arms_3 given) s3 c.run-over.ensures.program c.run-over.ensures.moves refl refl in
    runs_on (arms_of given) c.run-over.new.self given.from (arms_4 given) root s4 (arms_may_4 given short)

pub run-moved-requires-clause-may_run : goal.run-moved-requires-clause-may_run
run-moved-requires-clause-may_run g c =
    let given : Given = record { a = c.in_ok-a.a; b = c.in_ok-b.b; place = c.in_ok-bank.bank; bytes = NONCE; left = c.in_ok-left.left; right = c.in_ok-right.right; from = makings_of c.of-keys.result NONCE } in
    let short : IsShort given = record { bytes = omega arith; left = omega (arith, ap (λ (bytes : List ℕ). length bytes) c.in_ok-left.ensures); right = omega (arith, ap (λ (bytes : List ℕ). length bytes) c.in_ok-right.ensures) } in
    let s0 = start (term c.in_ok-phrase.phrase) (arms given.a given.b) given.place c.in_ok-world.world _ c.in_ok-world.ensures.program c.in_ok-world.ensures.opens c.in_ok-phrase.ensures in
    let s1 = ran (arms_of given) c.in_ok-world.world c.run-forked.new.self given.from root _ (arms_0 given) s0 c.run-forked.ensures.program c.run-forked.ensures.moves refl refl in
    let s2 = got (arms_of given) c.run-forked.new.self c.answer-3.new.self given.from 1 given.left root _ (arms_1 given) s1 c.answer-3.ensures.program (λ book still asked. c.answer-3.ensures.answers book given.from 0 1 still asked) refl refl in
    let s3 = got (arms_of given) c.answer-3.new.self c.answer-4.new.self given.from 2 given.right (of 0) _ (arms_2 given) s2 c.answer-4.ensures.program (λ book still asked. c.answer-4.ensures.answers book given.from 0 2 still asked) refl refl in
    let s4 = ran (arms_of given) c.answer-4.new.self c.run-over.new.self given.from (of 0) _ (arms_3 given) s3 c.run-over.ensures.program c.run-over.ensures.moves refl refl in
    let s5 = ran (arms_of given) c.run-over.new.self c.run-joined.new.self given.from root _ (arms_4 given) s4 c.run-joined.ensures.program c.run-joined.ensures.moves refl refl in
    runs_on (arms_of given) c.run-joined.new.self given.from (arms_5 given) root s5 (arms_may_5 given short)
