use Rattle.std.proofs.Common.{ℕ, List, [], IsTrue, length, refl, sym, subst, ap, arith}
use Rattle.std.specs.List.{AllByRecursion}
use Rattle.phrase_tree.specs.Term.{Term, term}
use Rattle.phrase_tree.specs.Numbering.{IsSized, event_count}
use Rattle.phrase_tree.specs.Events.{events_of}
use Rattle.session_runs.specs.Standing.{root}
use Rattle.avm_compile.specs.Program.{program_of}
use Rattle.avm_core.specs.Programs.{IsKeyed}
use Rattle.machine_world.specs.Cells.{makings_of, with_answer}
use Rattle.machine_world.specs.Playable.{asks_listed}
use Rattle.machine_world.proofs.Playing.{start, got, sized_alone, keyed_alone, asks_alone, alone, alone_waits, alone_ends, may_answer, runs_on}
use Rattle.machine_world.proofs.tests.expect_measured.Goals as goal

pub opened-requires-clause-sized : goal.opened-requires-clause-sized
opened-requires-clause-sized g c = subst IsSized (sym c.in_ok-phrase.ensures) (sized_alone c.in_ok-scan.scan)

pub opened-requires-clause-keyed : goal.opened-requires-clause-keyed
opened-requires-clause-keyed g c =
    subst (λ (t : Term). AllByRecursion (IsKeyed c.of-keys.result) (program_of t c.in_ok-bank.bank)) (sym c.in_ok-phrase.ensures) (keyed_alone c.in_ok-scan.scan c.in_ok-bank.bank c.of-keys.result)

pub opened-requires-clause-asks : goal.opened-requires-clause-asks
opened-requires-clause-asks g c =
    subst (λ (t : Term). AllByRecursion (λ one. IsTrue (asks_listed c.in_ok-places.places.items one.kind)) (events_of t c.in_ok-bank.bank 0)) (sym c.in_ok-phrase.ensures)
    (asks_alone c.in_ok-scan.scan c.in_ok-bank.bank c.in_ok-places.places.items)

pub opened-requires-clause-counted : goal.opened-requires-clause-counted
opened-requires-clause-counted g c = ap event_count c.in_ok-phrase.ensures

pub answer-requires-2-clause-may_answer : goal.answer-requires-2-clause-may_answer
answer-requires-2-clause-may_answer g c =
    let a = c.in_ok-scan.scan in
    let place = c.in_ok-bank.bank in
    let shows = start (term c.in_ok-phrase.phrase) (alone a) place c.in_ok-world.world _ c.in_ok-world.ensures.program c.in_ok-world.ensures.opens c.in_ok-phrase.ensures in
    (0, may_answer _ c.in_ok-world.world _ 0 c.in_ok-given.given root shows (alone_waits a place _ c.in_ok-given.given (omega (arith, ap (λ (bytes : List ℕ). length bytes) c.in_ok-given.ensures)) (omega arith)))

pub run-moved-requires-clause-may_run : goal.run-moved-requires-clause-may_run
run-moved-requires-clause-may_run g c =
    let a = c.in_ok-scan.scan in
    let place = c.in_ok-bank.bank in
    let given = c.in_ok-given.given in
    let from = makings_of c.of-keys.result [] in
    let shows = start (term c.in_ok-phrase.phrase) (alone a) place c.in_ok-world.world _ c.in_ok-world.ensures.program c.in_ok-world.ensures.opens c.in_ok-phrase.ensures in
    let next = got _ c.in_ok-world.world c.answer-2.new.self from 0 given root (with_answer 0 given) _ shows c.answer-2.ensures.program (λ book still asked. c.answer-2.ensures.answers book from 0 0 still asked) refl refl in
    runs_on _ c.answer-2.new.self _ _ root next (alone_ends a place _ given from _ (omega (arith, ap (λ (bytes : List ℕ). length bytes) c.in_ok-given.ensures)) (omega arith))
