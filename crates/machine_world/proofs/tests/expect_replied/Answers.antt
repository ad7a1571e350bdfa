use Rattle.std.proofs.Common.{ℕ, List, [], IsTrue, length, refl, sym, ◌∙◌, subst, ap, arith}
use Rattle.std.specs.List.{AllByRecursion}
use Rattle.phrase_tree.specs.Term.{Term, term}
use Rattle.phrase_tree.specs.Numbering.{IsSized, event_count}
use Rattle.phrase_tree.specs.Events.{events_of}
use Rattle.session_runs.specs.Standing.{root, of}
use Rattle.avm_compile.specs.Program.{program_of}
use Rattle.avm_core.specs.Programs.{IsKeyed}
use Rattle.machine_world.specs.declared.tests.TheConstants.{NONCE}
use Rattle.machine_world.specs.Cells.{makings_of}
use Rattle.machine_world.specs.Playable.{asks_listed}
use Rattle.machine_world.proofs.Playing.{Given, IsShort, q_text, start, ran, got, delivered, asked, asked_of, asked_0, asked_1, asked_2, asked_3, asked_4, asked_5, asked_may_0, asked_may_1, asked_may_2, asked_may_3, asked_may_4, asked_may_5, sized_asked, keyed_asked, asks_asked, q_is_second, may_answer, may_deliver, runs_on, is_started, same_places}
use Rattle.machine_world.proofs.tests.expect_replied.Goals as goal

pub opened-requires-clause-sized : goal.opened-requires-clause-sized
opened-requires-clause-sized g c = subst IsSized (sym c.in_ok-phrase.ensures) (sized_asked c.in_ok-q.q c.in_ok-scan.scan)

pub opened-requires-clause-keyed : goal.opened-requires-clause-keyed
opened-requires-clause-keyed g c =
    subst (λ (t : Term). AllByRecursion (IsKeyed c.of-keys.result) (program_of t c.in_ok-bank.bank)) (sym c.in_ok-phrase.ensures) (keyed_asked c.in_ok-q.q c.in_ok-scan.scan c.in_ok-bank.bank c.of-keys.result)

pub opened-requires-clause-asks : goal.opened-requires-clause-asks
opened-requires-clause-asks g c =
    subst (λ (t : Term). AllByRecursion (λ one. IsTrue (asks_listed c.in_ok-places.places.items one.kind)) (events_of t c.in_ok-bank.bank 0)) (sym c.in_ok-phrase.ensures)
    (asks_asked c.in_ok-places.places.items c.in_ok-bank.bank c.in_ok-q.q c.in_ok-bank.bank c.in_ok-scan.scan c.in_ok-bank.ensures c.in_ok-q.ensures c.in_ok-places.ensures.items)

pub opened-requires-clause-counted : goal.opened-requires-clause-counted
opened-requires-clause-counted g c = ap event_count c.in_ok-phrase.ensures

pub run-sent-requires-clause-may_run : goal.run-sent-requires-clause-may_run
run-sent-requires-clause-may_run g c =
    let given : Given = record { a = c.in_ok-scan.scan; b = c.in_ok-scan.scan; place = c.in_ok-bank.bank; bytes = NONCE; left = c.in_ok-given.given; right = []; from = makings_of c.of-keys.result NONCE } in
    let short : IsShort given = record { bytes = omega arith; left = omega (arith, ap (λ (bytes : List ℕ). length bytes) c.in_ok-given.ensures); right = omega arith } in
    let s0 = start (term c.in_ok-phrase.phrase) (asked q_text given.a) given.place c.in_ok-world.world _ c.in_ok-world.ensures.program c.in_ok-world.ensures.opens (c.in_ok-phrase.ensures ∙ ap (λ (q : List ℕ). asked q given.a) c.in_ok-q.ensures) in
    runs_on (asked_of given) c.in_ok-world.world given.from (asked_0 given) root s0 (asked_may_0 given short)

pub deliver-number-requires-clause-may_deliver : goal.deliver-number-requires-clause-may_deliver
deliver-number-requires-clause-may_deliver g c =
    let given : Given = record { a = c.in_ok-scan.scan; b = c.in_ok-scan.scan; place = c.in_ok-bank.bank; bytes = NONCE; left = c.in_ok-given.given; right = []; from = makings_of c.of-keys.result NONCE } in
    let short : IsShort given = record { bytes = omega arith; left = omega (arith, ap (λ (bytes : List ℕ). length bytes) c.in_ok-given.ensures); right = omega arith } in
    let s0 = start (term c.in_ok-phrase.phrase) (asked q_text given.a) given.place c.in_ok-world.world _ c.in_ok-world.ensures.program c.in_ok-world.ensures.opens (c.in_ok-phrase.ensures ∙ ap (λ (q : List ℕ). asked q given.a) c.in_ok-q.ensures) in
    let s1 = ran (asked_of given) c.in_ok-world.world c.run-sent.new.self given.from root _ (asked_0 given) s0 c.run-sent.ensures.program c.run-sent.ensures.moves refl refl in
    let there = (q_is_second c.run-sent.new.self.places.items c.in_ok-bank.bank c.in_ok-q.q c.in_ok-bank.ensures c.in_ok-q.ensures (same_places c.run-sent.new.self c.in_ok-world.world c.run-sent.ensures.places ∙ c.in_ok-world.ensures.places ∙ c.in_ok-places.ensures.items)) in
    (q_text, there, may_deliver (asked_of given) c.run-sent.new.self (asked_1 given) q_text s1 (asked_may_1 given))

pub waiter-requires-clause-started : goal.waiter-requires-clause-started
waiter-requires-clause-started g c =
    let given : Given = record { a = c.in_ok-scan.scan; b = c.in_ok-scan.scan; place = c.in_ok-bank.bank; bytes = NONCE; left = c.in_ok-given.given; right = []; from = makings_of c.of-keys.result NONCE } in
    let short : IsShort given = record { bytes = omega arith; left = omega (arith, ap (λ (bytes : List ℕ). length bytes) c.in_ok-given.ensures); right = omega arith } in
    let s0 = start (term c.in_ok-phrase.phrase) (asked q_text given.a) given.place c.in_ok-world.world _ c.in_ok-world.ensures.program c.in_ok-world.ensures.opens (c.in_ok-phrase.ensures ∙ ap (λ (q : List ℕ). asked q given.a) c.in_ok-q.ensures) in
    let s1 = ran (asked_of given) c.in_ok-world.world c.run-sent.new.self given.from root _ (asked_0 given) s0 c.run-sent.ensures.program c.run-sent.ensures.moves refl refl in
    let there = (q_is_second c.run-sent.new.self.places.items c.in_ok-bank.bank c.in_ok-q.q c.in_ok-bank.ensures c.in_ok-q.ensures (same_places c.run-sent.new.self c.in_ok-world.world c.run-sent.ensures.places ∙ c.in_ok-world.ensures.places ∙ c.in_ok-places.ensures.items)) in
    let s2 = delivered (asked_of given) c.run-sent.new.self c.deliver-number.new.self given.from q_text c.deliver-number.result (asked_1 given) s1 c.deliver-number.ensures.program (λ book still. c.deliver-number.ensures.delivers book given.from 0 q_text still there) refl refl in
    is_started (asked_of given) c.deliver-number.new.self (asked_2 given) (of 0) s2 tt

pub answer-requires-2-clause-may_answer : goal.answer-requires-2-clause-may_answer
answer-requires-2-clause-may_answer g c =
    let given : Given = record { a = c.in_ok-scan.scan; b = c.in_ok-scan.scan; place = c.in_ok-bank.bank; bytes = NONCE; left = c.in_ok-given.given; right = []; from = makings_of c.of-keys.result NONCE } in
    let short : IsShort given = record { bytes = omega arith; left = omega (arith, ap (λ (bytes : List ℕ). length bytes) c.in_ok-given.ensures); right = omega arith } in
    let s0 = start (term c.in_ok-phrase.phrase) (asked q_text given.a) given.place c.in_ok-world.world _ c.in_ok-world.ensures.program c.in_ok-world.ensures.opens (c.in_ok-phrase.ensures ∙ ap (λ (q : List ℕ). asked q given.a) c.in_ok-q.ensures) in
    let s1 = ran (asked_of given) c.in_ok-world.world c.run-sent.new.self given.from root _ (asked_0 given) s0 c.run-sent.ensures.program c.run-sent.ensures.moves refl refl in
    let there = (q_is_second c.run-sent.new.self.places.items c.in_ok-bank.bank c.in_ok-q.q c.in_ok-bank.ensures c.in_ok-q.ensures (same_places c.run-sent.new.self c.in_ok-world.world c.run-sent.ensures.places ∙ c.in_ok-world.ensures.places ∙ c.in_ok-places.ensures.items)) in
    let s2 = delivered (asked_of given) c.run-sent.new.self c.deliver-number.new.self given.from q_text c.deliver-number.result (asked_1 given) s1 c.deliver-number.ensures.program (λ book still. c.deliver-number.ensures.delivers book given.from 0 q_text still there) refl refl in
    (1, may_answer (asked_of given) c.deliver-number.new.self (asked_2 given) 1 given.left (of 0) s2 (asked_may_2 given short))

pub run-over-requires-clause-may_run : goal.run-over-requires-clause-may_run
run-over-requires-clause-may_run g c =
    let given : Given = record { a = c.in_ok-scan.scan; b = c.in_ok-scan.scan; place = c.in_ok-bank.bank; bytes = NONCE; left = c.in_ok-given.given; right = []; from = makings_of c.of-keys.result NONCE } in
    let short : IsShort given = record { bytes = omega arith; left = omega (arith, ap (λ (bytes : List ℕ). length bytes) c.in_ok-given.ensures); right = omega arith } in
    let s0 = start (term c.in_ok-phrase.phrase) (asked q_text given.a) given.place c.in_ok-world.world _ c.in_ok-world.ensures.program c.in_ok-world.ensures.opens (c.in_ok-phrase.ensures ∙ ap (λ (q : List ℕ). asked q given.a) c.in_ok-q.ensures) in
    let s1 = ran (asked_of given) c.in_ok-world.world c.run-sent.new.self given.from root _ (asked_0 given) s0 c.run-sent.ensures.program c.run-sent.ensures.moves refl refl in
    let there = (q_is_second c.run-sent.new.self.places.items c.in_ok-bank.bank c.in_ok-q.q c.in_ok-bank.ensures c.in_ok-q.ensures (same_places c.run-sent.new.self c.in_ok-world.world c.run-sent.ensures.places ∙ c.in_ok-world.ensures.places ∙ c.in_ok-places.ensures.items)) in
    let s2 = delivered (asked_of given) c.run-sent.new.self c.deliver-number.new.self given.from q_text c.deliver-number.result (asked_1 given) s1 c.deliver-number.ensures.program (λ book still. c.deliver-number.ensures.delivers book given.from 0 q_text still there) refl refl in
    let s3 = got (asked_of given) c.deliver-number.new.self c.answer-2.new.self given.from 1 given.left (of 0) _ (asked_2 given) s2 c.answer-2.ensures.program (λ book still asked. c.answer-2.ensures.answers book given.from 0 1 still asked) refl refl in
    runs_on (asked_of given) c.answer-2.new.self given.from (asked_3 given) (of 0) s3 (asked_may_3 given short)

pub run-replied-requires-clause-may_run : goal.run-replied-requires-clause-may_run
run-replied-requires-clause-may_run g c =
    let given : Given = record { a = c.in_ok-scan.scan; b = c.in_ok-scan.scan; place = c.in_ok-bank.bank; bytes = NONCE; left = c.in_ok-given.given; right = []; from = makings_of c.of-keys.result NONCE } in
    let short : IsShort given = record { bytes = omega arith; left = omega (arith, ap (λ (bytes : List ℕ). length bytes) c.in_ok-given.ensures); right = omega arith } in
    let s0 = start (term c.in_ok-phrase.phrase) (asked q_text given.a) given.place c.in_ok-world.world _ c.in_ok-world.ensures.program c.in_ok-world.ensures.opens (c.in_ok-phrase.ensures ∙ ap (λ (q : List ℕ). asked q given.a) c.in_ok-q.ensures) in
    let s1 = ran (asked_of given) c.in_ok-world.world c.run-sent.new.self given.from root _ (asked_0 given) s0 c.run-sent.ensures.program c.run-sent.ensures.moves refl refl in
    let there = (q_is_second c.run-sent.new.self.places.items c.in_ok-bank.bank c.in_ok-q.q c.in_ok-bank.ensures c.in_ok-q.ensures (same_places c.run-sent.new.self c.in_ok-world.world c.run-sent.ensures.places ∙ c.in_ok-world.ensures.places ∙ c.in_ok-places.ensures.items)) in
    let s2 = delivered (asked_of given) c.run-sent.new.self c.deliver-number.new.self given.from q_text c.deliver-number.result (asked_1 given) s1 c.deliver-number.ensures.program (λ book still. c.deliver-number.ensures.delivers book given.from 0 q_text still there) refl refl in
    let s3 = got (asked_of given) c.deliver-number.new.self c.answer-2.new.self given.from 1 given.left (of 0) _ (asked_2 given) s2 c.answer-2.ensures.program (λ book still asked. c.answer-2.ensures.answers book given.from 0 1 still asked) refl refl in
    let s4 = ran (asked_of given) c.answer-2.new.self c.run-over.new.self given.from (of 0) _ (asked_3 given) s3 c.run-over.ensures.program c.run-over.ensures.moves refl refl in
    runs_on (asked_of given) c.run-over.new.self given.from (asked_4 given) root s4 (asked_may_4 given short)

pub run-moved-requires-clause-may_run : goal.run-moved-requires-clause-may_run
run-moved-requires-clause-may_run g c =
    let given : Given = record { a = c.in_ok-scan.scan; b = c.in_ok-scan.scan; place = c.in_ok-bank.bank; bytes = NONCE; left = c.in_ok-given.given; right = []; from = makings_of c.of-keys.result NONCE } in
    let short : IsShort given = record { bytes = omega arith; left = omega (arith, ap (λ (bytes : List ℕ). length bytes) c.in_ok-given.ensures); right = omega arith } in
    let s0 = start (term c.in_ok-phrase.phrase) (asked q_text given.a) given.place c.in_ok-world.world _ c.in_ok-world.ensures.program c.in_ok-world.ensures.opens (c.in_ok-phrase.ensures ∙ ap (λ (q : List ℕ). asked q given.a) c.in_ok-q.ensures) in
    let s1 = ran (asked_of given) c.in_ok-world.world c.run-sent.new.self given.from root _ (asked_0 given) s0 c.run-sent.ensures.program c.run-sent.ensures.moves refl refl in
    let there = (q_is_second c.run-sent.new.self.places.items c.in_ok-bank.bank c.in_ok-q.q c.in_ok-bank.ensures c.in_ok-q.ensures (same_places c.run-sent.new.self c.in_ok-world.world c.run-sent.ensures.places ∙ c.in_ok-world.ensures.places ∙ c.in_ok-places.ensures.items)) in
    let s2 = delivered (asked_of given) c.run-sent.new.self c.deliver-number.new.self given.from q_text c.deliver-number.result (asked_1 given) s1 c.deliver-number.ensures.program (λ book still. c.deliver-number.ensures.delivers book given.from 0 q_text still there) refl refl in
    let s3 = got (asked_of given) c.deliver-number.new.self c.answer-2.new.self given.from 1 given.left (of 0) _ (asked_2 given) s2 c.answer-2.ensures.program (λ book still asked. c.answer-2.ensures.answers book given.from 0 1 still asked) refl refl in
    let s4 = ran (asked_of given) c.answer-2.new.self c.run-over.new.self given.from (of 0) _ (asked_3 given) s3 c.run-over.ensures.program c.run-over.ensures.moves refl refl in
    let s5 = ran (asked_of given) c.run-over.new.self c.run-replied.new.self given.from root _ (asked_4 given) s4 c.run-replied.ensures.program c.run-replied.ensures.moves refl refl in
    runs_on (asked_of given) c.run-replied.new.self given.from (asked_5 given) root s5 (asked_may_5 given short)
