-- Small phrases as the schedules of the numbers 0 to 9 play them, written down from another program: an
-- edit of the definitions is refused here.
use Rattle.std.proofs.Common.{◌≡◌, ℕ, List, [], ◌∷◌, ◌++◌, refl}
use Rattle.std.specs.Prelude.{codes, true, false, Option, None, Some, Result, Ok, Err, nat_eq, if◌then◌else◌}
use Rattle.phrase_tree.specs.declared.measurement.Asp.{Asp}
use Rattle.phrase_tree.specs.declared.phrase.Split.{Split}
use Rattle.phrase_tree.specs.Term.{Term, cpy, sig, hsh, nul, usm, kim, leaf, at, chain, seq, par}
use Rattle.bench_trait.specs.declared.bench.BenchFault.TheVariants.{NoArtefact}
use Rattle.bench_trait.specs.declared.bench.MeasureError.{MeasureError}
use Rattle.bench_trait.specs.declared.bench.MeasureError.TheVariants.{Fault, NoMemory}
use Rattle.session_model.specs.Session.{Session}
use Rattle.session_model.specs.Record.{Record, failed as failed_record}
use Rattle.session_runs.specs.Standing.{root, of, Move, run, ask, deliver, Entry, State, is_open, has_starved, Standing, opening, next}
use Rattle.session_runs.specs.History.{record_of}
use Rattle.session_runs.specs.MoveOrder.{possible_moves}
use Rattle.session_runs.specs.Schedule.{Walked, scheduled}

abbrev bank : List ℕ
bank = codes "bank"

abbrev q : List ℕ
q = codes "q"

abbrev places : List (List ℕ)
places = bank ∷ q ∷ []

abbrev plain : List ℕ → Asp
plain name = record { name = name; args = [] }

abbrev first_one : Asp
first_one = plain (codes "a")

abbrev second_one : Asp
second_one = plain (codes "b")

abbrev scan : Asp
scan = plain (codes "scan")

abbrev to_both : Split
to_both = record { left = true; right = true }

abbrev to_left : Split
to_left = record { left = true; right = false }

abbrev to_right : Split
to_right = record { left = false; right = true }

abbrev to_none : Split
to_none = record { left = false; right = false }

abbrev session_of : Term → Session
session_of phrase = record { root = bank; nonce = []; phrase = phrase }

-- each event has its own number as its answer
abbrev number_each : ℕ → ℕ → Result (List ℕ) MeasureError
number_each session event = Ok (event ∷ [])

abbrev traces_in : List Walked → List (List ℕ)
traces_in [] = []
traces_in (walked ∷ rest) = walked.standing.trace ∷ traces_in rest

abbrev traces_under : List Term → ℕ → List (List ℕ)
traces_under [] number = []
traces_under (phrase ∷ rest) number = traces_in (scheduled places [] number_each (session_of phrase ∷ []) number) ++ traces_under rest number

abbrev traces_of : Term → List (List ℕ)
traces_of phrase =
    traces_under (phrase ∷ []) 0 ++ traces_under (phrase ∷ []) 1 ++ traces_under (phrase ∷ []) 2 ++ traces_under (phrase ∷ []) 3 ++ traces_under (phrase ∷ []) 4 ++ traces_under (phrase ∷ []) 5 ++ traces_under (phrase ∷ []) 6 ++ traces_under (phrase ∷ []) 7 ++ traces_under (phrase ∷ []) 8 ++ traces_under (phrase ∷ []) 9

abbrev moves_from : Session → Option Standing → List Entry → List (List Move)
moves_from session None entries = []
moves_from session (Some standing) [] = possible_moves places standing ∷ []
moves_from session (Some standing) (entry ∷ entries) = possible_moves places standing ∷ moves_from session (next session [] standing entry) entries

abbrev later : List Entry → List Entry
later [] = []
later (entry ∷ entries) = entries

abbrev moves_in : List Walked → List (List Move)
moves_in [] = []
moves_in (walked ∷ rest) = moves_from walked.session (Some (opening walked.session)) (later walked.history) ++ moves_in rest

abbrev moves_of : Term → ℕ → List (List Move)
moves_of phrase number = moves_in (scheduled places [] number_each (session_of phrase ∷ []) number)

moves_0_0 : moves_of (leaf cpy) 0 ≡ (run root ∷ []) ∷ (run root ∷ []) ∷ ([]) ∷ []
moves_0_0 = refl

moves_0_3 : moves_of (leaf cpy) 3 ≡ (run root ∷ []) ∷ (run root ∷ []) ∷ ([]) ∷ []
moves_0_3 = refl

-- CPY
traces_0 : traces_of (leaf cpy) ≡ (0 ∷ []) ∷ (0 ∷ []) ∷ (0 ∷ []) ∷ (0 ∷ []) ∷ (0 ∷ []) ∷ (0 ∷ []) ∷ (0 ∷ []) ∷ (0 ∷ []) ∷ (0 ∷ []) ∷ (0 ∷ []) ∷ []
traces_0 = refl

moves_1_0 : moves_of (leaf sig) 0 ≡ (run root ∷ []) ∷ (run root ∷ []) ∷ ([]) ∷ []
moves_1_0 = refl

moves_1_3 : moves_of (leaf sig) 3 ≡ (run root ∷ []) ∷ (run root ∷ []) ∷ ([]) ∷ []
moves_1_3 = refl

-- SIG
traces_1 : traces_of (leaf sig) ≡ (0 ∷ []) ∷ (0 ∷ []) ∷ (0 ∷ []) ∷ (0 ∷ []) ∷ (0 ∷ []) ∷ (0 ∷ []) ∷ (0 ∷ []) ∷ (0 ∷ []) ∷ (0 ∷ []) ∷ (0 ∷ []) ∷ []
traces_1 = refl

moves_2_0 : moves_of (leaf hsh) 0 ≡ (run root ∷ []) ∷ (run root ∷ []) ∷ ([]) ∷ []
moves_2_0 = refl

moves_2_3 : moves_of (leaf hsh) 3 ≡ (run root ∷ []) ∷ (run root ∷ []) ∷ ([]) ∷ []
moves_2_3 = refl

-- HSH
traces_2 : traces_of (leaf hsh) ≡ (0 ∷ []) ∷ (0 ∷ []) ∷ (0 ∷ []) ∷ (0 ∷ []) ∷ (0 ∷ []) ∷ (0 ∷ []) ∷ (0 ∷ []) ∷ (0 ∷ []) ∷ (0 ∷ []) ∷ (0 ∷ []) ∷ []
traces_2 = refl

moves_of_nul : moves_of (leaf nul) 0 ≡ (run root ∷ []) ∷ (run root ∷ []) ∷ ([]) ∷ []
moves_of_nul = refl

moves_3_0 : moves_of (leaf (usm first_one)) 0 ≡ (ask root ∷ []) ∷ ([]) ∷ (run root ∷ []) ∷ ([]) ∷ []
moves_3_0 = refl

moves_3_3 : moves_of (leaf (usm first_one)) 3 ≡ (ask root ∷ []) ∷ ([]) ∷ (run root ∷ []) ∷ ([]) ∷ []
moves_3_3 = refl

-- USM a
traces_3 : traces_of (leaf (usm first_one)) ≡ (0 ∷ []) ∷ (0 ∷ []) ∷ (0 ∷ []) ∷ (0 ∷ []) ∷ (0 ∷ []) ∷ (0 ∷ []) ∷ (0 ∷ []) ∷ (0 ∷ []) ∷ (0 ∷ []) ∷ (0 ∷ []) ∷ []
traces_3 = refl

moves_4_0 : moves_of (leaf (kim q second_one)) 0 ≡ (ask root ∷ []) ∷ ([]) ∷ (run root ∷ []) ∷ ([]) ∷ []
moves_4_0 = refl

moves_4_3 : moves_of (leaf (kim q second_one)) 3 ≡ (ask root ∷ []) ∷ ([]) ∷ (run root ∷ []) ∷ ([]) ∷ []
moves_4_3 = refl

-- KIM q b
traces_4 : traces_of (leaf (kim q second_one)) ≡ (0 ∷ []) ∷ (0 ∷ []) ∷ (0 ∷ []) ∷ (0 ∷ []) ∷ (0 ∷ []) ∷ (0 ∷ []) ∷ (0 ∷ []) ∷ (0 ∷ []) ∷ (0 ∷ []) ∷ (0 ∷ []) ∷ []
traces_4 = refl

moves_5_0 : moves_of (at q (leaf (usm first_one))) 0 ≡ (run root ∷ []) ∷ (deliver q ∷ []) ∷ (ask (of 0) ∷ []) ∷ ([]) ∷ (run (of 0) ∷ []) ∷ (run root ∷ []) ∷ (run root ∷ []) ∷ ([]) ∷ []
moves_5_0 = refl

moves_5_3 : moves_of (at q (leaf (usm first_one))) 3 ≡ (run root ∷ []) ∷ (deliver q ∷ []) ∷ (ask (of 0) ∷ []) ∷ ([]) ∷ (run (of 0) ∷ []) ∷ (run root ∷ []) ∷ (run root ∷ []) ∷ ([]) ∷ []
moves_5_3 = refl

-- @q [USM a]
traces_5 : traces_of (at q (leaf (usm first_one))) ≡ (0 ∷ 1 ∷ 2 ∷ []) ∷ (0 ∷ 1 ∷ 2 ∷ []) ∷ (0 ∷ 1 ∷ 2 ∷ []) ∷ (0 ∷ 1 ∷ 2 ∷ []) ∷ (0 ∷ 1 ∷ 2 ∷ []) ∷ (0 ∷ 1 ∷ 2 ∷ []) ∷ (0 ∷ 1 ∷ 2 ∷ []) ∷ (0 ∷ 1 ∷ 2 ∷ []) ∷ (0 ∷ 1 ∷ 2 ∷ []) ∷ (0 ∷ 1 ∷ 2 ∷ []) ∷ []
traces_5 = refl

moves_6_0 : moves_of (chain (leaf (usm first_one)) (leaf sig)) 0 ≡ (ask root ∷ []) ∷ ([]) ∷ (run root ∷ []) ∷ (run root ∷ []) ∷ ([]) ∷ []
moves_6_0 = refl

moves_6_3 : moves_of (chain (leaf (usm first_one)) (leaf sig)) 3 ≡ (ask root ∷ []) ∷ ([]) ∷ (run root ∷ []) ∷ (run root ∷ []) ∷ ([]) ∷ []
moves_6_3 = refl

-- USM a -> SIG
traces_6 : traces_of (chain (leaf (usm first_one)) (leaf sig)) ≡ (0 ∷ 1 ∷ []) ∷ (0 ∷ 1 ∷ []) ∷ (0 ∷ 1 ∷ []) ∷ (0 ∷ 1 ∷ []) ∷ (0 ∷ 1 ∷ []) ∷ (0 ∷ 1 ∷ []) ∷ (0 ∷ 1 ∷ []) ∷ (0 ∷ 1 ∷ []) ∷ (0 ∷ 1 ∷ []) ∷ (0 ∷ 1 ∷ []) ∷ []
traces_6 = refl

moves_7_0 : moves_of (par to_left (leaf (usm first_one)) (leaf (usm second_one))) 0 ≡ (run root ∷ []) ∷ (ask root ∷ ask (of 0) ∷ []) ∷ (ask (of 0) ∷ []) ∷ (ask (of 0) ∷ []) ∷ ([]) ∷ (run (of 0) ∷ []) ∷ (run root ∷ []) ∷ (run root ∷ []) ∷ ([]) ∷ []
moves_7_0 = refl

moves_7_3 : moves_of (par to_left (leaf (usm first_one)) (leaf (usm second_one))) 3 ≡ (run root ∷ []) ∷ (ask root ∷ ask (of 0) ∷ []) ∷ (ask root ∷ []) ∷ (run (of 0) ∷ ask root ∷ []) ∷ (run (of 0) ∷ []) ∷ ([]) ∷ (run root ∷ []) ∷ (run root ∷ []) ∷ ([]) ∷ []
moves_7_3 = refl

-- USM a +~- USM b
traces_7 : traces_of (par to_left (leaf (usm first_one)) (leaf (usm second_one))) ≡ (0 ∷ 1 ∷ 2 ∷ 3 ∷ []) ∷ (0 ∷ 1 ∷ 2 ∷ 3 ∷ []) ∷ (0 ∷ 1 ∷ 2 ∷ 3 ∷ []) ∷ (0 ∷ 2 ∷ 1 ∷ 3 ∷ []) ∷ (0 ∷ 1 ∷ 2 ∷ 3 ∷ []) ∷ (0 ∷ 2 ∷ 1 ∷ 3 ∷ []) ∷ (0 ∷ 1 ∷ 2 ∷ 3 ∷ []) ∷ (0 ∷ 2 ∷ 1 ∷ 3 ∷ []) ∷ (0 ∷ 1 ∷ 2 ∷ 3 ∷ []) ∷ (0 ∷ 2 ∷ 1 ∷ 3 ∷ []) ∷ []
traces_7 = refl

moves_8_0 : moves_of (seq to_right (leaf (usm first_one)) (leaf (usm second_one))) 0 ≡ (run root ∷ []) ∷ (ask root ∷ []) ∷ ([]) ∷ (run root ∷ []) ∷ (ask root ∷ []) ∷ ([]) ∷ (run root ∷ []) ∷ (run root ∷ []) ∷ ([]) ∷ []
moves_8_0 = refl

moves_8_3 : moves_of (seq to_right (leaf (usm first_one)) (leaf (usm second_one))) 3 ≡ (run root ∷ []) ∷ (ask root ∷ []) ∷ ([]) ∷ (run root ∷ []) ∷ (ask root ∷ []) ∷ ([]) ∷ (run root ∷ []) ∷ (run root ∷ []) ∷ ([]) ∷ []
moves_8_3 = refl

-- USM a -<+ USM b
traces_8 : traces_of (seq to_right (leaf (usm first_one)) (leaf (usm second_one))) ≡ (0 ∷ 1 ∷ 2 ∷ 3 ∷ []) ∷ (0 ∷ 1 ∷ 2 ∷ 3 ∷ []) ∷ (0 ∷ 1 ∷ 2 ∷ 3 ∷ []) ∷ (0 ∷ 1 ∷ 2 ∷ 3 ∷ []) ∷ (0 ∷ 1 ∷ 2 ∷ 3 ∷ []) ∷ (0 ∷ 1 ∷ 2 ∷ 3 ∷ []) ∷ (0 ∷ 1 ∷ 2 ∷ 3 ∷ []) ∷ (0 ∷ 1 ∷ 2 ∷ 3 ∷ []) ∷ (0 ∷ 1 ∷ 2 ∷ 3 ∷ []) ∷ (0 ∷ 1 ∷ 2 ∷ 3 ∷ []) ∷ []
traces_8 = refl

moves_9_0 : moves_of (at q (at bank (at q (leaf cpy)))) 0 ≡ (run root ∷ []) ∷ (deliver q ∷ []) ∷ (run (of 0) ∷ []) ∷ (deliver bank ∷ []) ∷ (run (of 1) ∷ []) ∷ (deliver q ∷ []) ∷ (run (of 2) ∷ []) ∷ (run (of 2) ∷ []) ∷ (run (of 1) ∷ []) ∷ (run (of 1) ∷ []) ∷ (run (of 0) ∷ []) ∷ (run (of 0) ∷ []) ∷ (run root ∷ []) ∷ (run root ∷ []) ∷ ([]) ∷ []
moves_9_0 = refl

moves_9_3 : moves_of (at q (at bank (at q (leaf cpy)))) 3 ≡ (run root ∷ []) ∷ (deliver q ∷ []) ∷ (run (of 0) ∷ []) ∷ (deliver bank ∷ []) ∷ (run (of 1) ∷ []) ∷ (deliver q ∷ []) ∷ (run (of 2) ∷ []) ∷ (run (of 2) ∷ []) ∷ (run (of 1) ∷ []) ∷ (run (of 1) ∷ []) ∷ (run (of 0) ∷ []) ∷ (run (of 0) ∷ []) ∷ (run root ∷ []) ∷ (run root ∷ []) ∷ ([]) ∷ []
moves_9_3 = refl

-- @q [@bank [@q [CPY]]]
traces_9 : traces_of (at q (at bank (at q (leaf cpy)))) ≡ (0 ∷ 1 ∷ 2 ∷ 3 ∷ 4 ∷ 5 ∷ 6 ∷ []) ∷ (0 ∷ 1 ∷ 2 ∷ 3 ∷ 4 ∷ 5 ∷ 6 ∷ []) ∷ (0 ∷ 1 ∷ 2 ∷ 3 ∷ 4 ∷ 5 ∷ 6 ∷ []) ∷ (0 ∷ 1 ∷ 2 ∷ 3 ∷ 4 ∷ 5 ∷ 6 ∷ []) ∷ (0 ∷ 1 ∷ 2 ∷ 3 ∷ 4 ∷ 5 ∷ 6 ∷ []) ∷ (0 ∷ 1 ∷ 2 ∷ 3 ∷ 4 ∷ 5 ∷ 6 ∷ []) ∷ (0 ∷ 1 ∷ 2 ∷ 3 ∷ 4 ∷ 5 ∷ 6 ∷ []) ∷ (0 ∷ 1 ∷ 2 ∷ 3 ∷ 4 ∷ 5 ∷ 6 ∷ []) ∷ (0 ∷ 1 ∷ 2 ∷ 3 ∷ 4 ∷ 5 ∷ 6 ∷ []) ∷ (0 ∷ 1 ∷ 2 ∷ 3 ∷ 4 ∷ 5 ∷ 6 ∷ []) ∷ []
traces_9 = refl

moves_10_0 : moves_of (par to_left (par to_both (leaf (usm first_one)) (leaf (usm second_one))) (leaf (usm scan))) 0 ≡ (run root ∷ []) ∷ (run root ∷ ask (of 0) ∷ []) ∷ (ask root ∷ ask (of 1) ∷ ask (of 0) ∷ []) ∷ (ask (of 1) ∷ ask (of 0) ∷ []) ∷ (ask (of 1) ∷ ask (of 0) ∷ []) ∷ (ask (of 0) ∷ []) ∷ (run (of 1) ∷ ask (of 0) ∷ []) ∷ (run root ∷ ask (of 0) ∷ []) ∷ (ask (of 0) ∷ []) ∷ ([]) ∷ (run (of 0) ∷ []) ∷ (run root ∷ []) ∷ (run root ∷ []) ∷ ([]) ∷ []
moves_10_0 = refl

moves_10_3 : moves_of (par to_left (par to_both (leaf (usm first_one)) (leaf (usm second_one))) (leaf (usm scan))) 3 ≡ (run root ∷ []) ∷ (run root ∷ ask (of 0) ∷ []) ∷ (run root ∷ []) ∷ (run (of 0) ∷ run root ∷ []) ∷ (run (of 0) ∷ ask root ∷ ask (of 1) ∷ []) ∷ (ask root ∷ ask (of 1) ∷ []) ∷ (ask root ∷ []) ∷ (run (of 1) ∷ ask root ∷ []) ∷ (run (of 1) ∷ []) ∷ ([]) ∷ (run root ∷ []) ∷ (run root ∷ []) ∷ (run root ∷ []) ∷ ([]) ∷ []
moves_10_3 = refl

-- (USM a +~+ USM b) +~- USM scan
traces_10 : traces_of (par to_left (par to_both (leaf (usm first_one)) (leaf (usm second_one))) (leaf (usm scan))) ≡ (0 ∷ 1 ∷ 2 ∷ 3 ∷ 4 ∷ 5 ∷ 6 ∷ []) ∷ (0 ∷ 1 ∷ 2 ∷ 3 ∷ 5 ∷ 4 ∷ 6 ∷ []) ∷ (0 ∷ 1 ∷ 5 ∷ 2 ∷ 3 ∷ 4 ∷ 6 ∷ []) ∷ (0 ∷ 5 ∷ 1 ∷ 3 ∷ 2 ∷ 4 ∷ 6 ∷ []) ∷ (0 ∷ 1 ∷ 2 ∷ 3 ∷ 5 ∷ 4 ∷ 6 ∷ []) ∷ (0 ∷ 1 ∷ 2 ∷ 3 ∷ 5 ∷ 4 ∷ 6 ∷ []) ∷ (0 ∷ 1 ∷ 5 ∷ 3 ∷ 2 ∷ 4 ∷ 6 ∷ []) ∷ (0 ∷ 5 ∷ 1 ∷ 2 ∷ 3 ∷ 4 ∷ 6 ∷ []) ∷ (0 ∷ 1 ∷ 3 ∷ 5 ∷ 2 ∷ 4 ∷ 6 ∷ []) ∷ (0 ∷ 1 ∷ 2 ∷ 3 ∷ 4 ∷ 5 ∷ 6 ∷ []) ∷ []
traces_10 = refl

moves_11_0 : moves_of (par to_both (at q (leaf cpy)) (at q (leaf (usm first_one)))) 0 ≡ (run root ∷ []) ∷ (run root ∷ run (of 0) ∷ []) ∷ (deliver q ∷ run (of 0) ∷ []) ∷ (run (of 1) ∷ run (of 0) ∷ []) ∷ (run (of 1) ∷ run (of 0) ∷ []) ∷ (run root ∷ run (of 0) ∷ []) ∷ (run (of 0) ∷ []) ∷ (deliver q ∷ []) ∷ (ask (of 4) ∷ []) ∷ ([]) ∷ (run (of 4) ∷ []) ∷ (run (of 0) ∷ []) ∷ (run (of 0) ∷ []) ∷ (run root ∷ []) ∷ (run root ∷ []) ∷ ([]) ∷ []
moves_11_0 = refl

moves_11_3 : moves_of (par to_both (at q (leaf cpy)) (at q (leaf (usm first_one)))) 3 ≡ (run root ∷ []) ∷ (run root ∷ run (of 0) ∷ []) ∷ (deliver q ∷ run root ∷ []) ∷ (run root ∷ ask (of 4) ∷ []) ∷ (run root ∷ []) ∷ (deliver q ∷ []) ∷ (run (of 1) ∷ []) ∷ (run (of 4) ∷ run (of 1) ∷ []) ∷ (run (of 1) ∷ run (of 4) ∷ []) ∷ (run (of 1) ∷ run (of 0) ∷ []) ∷ (run root ∷ run (of 0) ∷ []) ∷ (run (of 0) ∷ []) ∷ (run (of 0) ∷ []) ∷ (run root ∷ []) ∷ (run root ∷ []) ∷ ([]) ∷ []
moves_11_3 = refl

-- @q [CPY] +~+ @q [USM a]
traces_11 : traces_of (par to_both (at q (leaf cpy)) (at q (leaf (usm first_one)))) ≡ (0 ∷ 1 ∷ 2 ∷ 3 ∷ 4 ∷ 5 ∷ 6 ∷ 7 ∷ []) ∷ (0 ∷ 1 ∷ 2 ∷ 4 ∷ 3 ∷ 5 ∷ 6 ∷ 7 ∷ []) ∷ (0 ∷ 1 ∷ 2 ∷ 4 ∷ 3 ∷ 5 ∷ 6 ∷ 7 ∷ []) ∷ (0 ∷ 4 ∷ 1 ∷ 5 ∷ 2 ∷ 3 ∷ 6 ∷ 7 ∷ []) ∷ (0 ∷ 4 ∷ 1 ∷ 2 ∷ 5 ∷ 6 ∷ 3 ∷ 7 ∷ []) ∷ (0 ∷ 1 ∷ 4 ∷ 2 ∷ 5 ∷ 3 ∷ 6 ∷ 7 ∷ []) ∷ (0 ∷ 4 ∷ 1 ∷ 2 ∷ 3 ∷ 5 ∷ 6 ∷ 7 ∷ []) ∷ (0 ∷ 4 ∷ 5 ∷ 1 ∷ 6 ∷ 2 ∷ 3 ∷ 7 ∷ []) ∷ (0 ∷ 1 ∷ 2 ∷ 4 ∷ 5 ∷ 3 ∷ 6 ∷ 7 ∷ []) ∷ (0 ∷ 1 ∷ 4 ∷ 2 ∷ 5 ∷ 6 ∷ 3 ∷ 7 ∷ []) ∷ []
traces_11 = refl

moves_12_0 : moves_of (par to_both (chain (leaf (usm first_one)) (leaf hsh)) (chain (at q (leaf sig)) (leaf (usm second_one)))) 0 ≡ (run root ∷ []) ∷ (ask root ∷ run (of 0) ∷ []) ∷ (run (of 0) ∷ []) ∷ (run root ∷ run (of 0) ∷ []) ∷ (run (of 0) ∷ []) ∷ (deliver q ∷ []) ∷ (run (of 3) ∷ []) ∷ (run (of 3) ∷ []) ∷ (run (of 0) ∷ []) ∷ (ask (of 0) ∷ []) ∷ ([]) ∷ (run (of 0) ∷ []) ∷ (run root ∷ []) ∷ (run root ∷ []) ∷ ([]) ∷ []
moves_12_0 = refl

moves_12_3 : moves_of (par to_both (chain (leaf (usm first_one)) (leaf hsh)) (chain (at q (leaf sig)) (leaf (usm second_one)))) 3 ≡ (run root ∷ []) ∷ (ask root ∷ run (of 0) ∷ []) ∷ (deliver q ∷ ask root ∷ []) ∷ (ask root ∷ run (of 3) ∷ []) ∷ (run (of 3) ∷ ask root ∷ []) ∷ (run (of 3) ∷ []) ∷ (run (of 0) ∷ []) ∷ (run root ∷ run (of 0) ∷ []) ∷ (run root ∷ ask (of 0) ∷ []) ∷ (run root ∷ []) ∷ (run (of 0) ∷ run root ∷ []) ∷ (run root ∷ []) ∷ (run root ∷ []) ∷ (run root ∷ []) ∷ ([]) ∷ []
moves_12_3 = refl

-- (USM a -> HSH) +~+ (@q [SIG] -> USM b)
traces_12 : traces_of (par to_both (chain (leaf (usm first_one)) (leaf hsh)) (chain (at q (leaf sig)) (leaf (usm second_one)))) ≡ (0 ∷ 1 ∷ 2 ∷ 3 ∷ 4 ∷ 5 ∷ 6 ∷ 7 ∷ []) ∷ (0 ∷ 1 ∷ 2 ∷ 3 ∷ 4 ∷ 5 ∷ 6 ∷ 7 ∷ []) ∷ (0 ∷ 1 ∷ 2 ∷ 3 ∷ 4 ∷ 5 ∷ 6 ∷ 7 ∷ []) ∷ (0 ∷ 3 ∷ 4 ∷ 1 ∷ 5 ∷ 6 ∷ 2 ∷ 7 ∷ []) ∷ (0 ∷ 3 ∷ 1 ∷ 2 ∷ 4 ∷ 5 ∷ 6 ∷ 7 ∷ []) ∷ (0 ∷ 3 ∷ 1 ∷ 4 ∷ 2 ∷ 5 ∷ 6 ∷ 7 ∷ []) ∷ (0 ∷ 3 ∷ 1 ∷ 2 ∷ 4 ∷ 5 ∷ 6 ∷ 7 ∷ []) ∷ (0 ∷ 3 ∷ 4 ∷ 1 ∷ 5 ∷ 6 ∷ 2 ∷ 7 ∷ []) ∷ (0 ∷ 1 ∷ 2 ∷ 3 ∷ 4 ∷ 5 ∷ 6 ∷ 7 ∷ []) ∷ (0 ∷ 3 ∷ 1 ∷ 4 ∷ 5 ∷ 6 ∷ 2 ∷ 7 ∷ []) ∷ []
traces_12 = refl

-- (@q [KIM q b]) -> (USM a)
traces_13 : traces_of (chain (at q (leaf (kim q second_one))) (leaf (usm first_one))) ≡ (0 ∷ 1 ∷ 2 ∷ 3 ∷ []) ∷ (0 ∷ 1 ∷ 2 ∷ 3 ∷ []) ∷ (0 ∷ 1 ∷ 2 ∷ 3 ∷ []) ∷ (0 ∷ 1 ∷ 2 ∷ 3 ∷ []) ∷ (0 ∷ 1 ∷ 2 ∷ 3 ∷ []) ∷ (0 ∷ 1 ∷ 2 ∷ 3 ∷ []) ∷ (0 ∷ 1 ∷ 2 ∷ 3 ∷ []) ∷ (0 ∷ 1 ∷ 2 ∷ 3 ∷ []) ∷ (0 ∷ 1 ∷ 2 ∷ 3 ∷ []) ∷ (0 ∷ 1 ∷ 2 ∷ 3 ∷ []) ∷ []
traces_13 = refl

-- ((CPY) +<+ (HSH)) -~+ (@bank [USM a])
traces_14 : traces_of (par to_right (seq to_both (leaf cpy) (leaf hsh)) (at bank (leaf (usm first_one)))) ≡ (0 ∷ 1 ∷ 2 ∷ 3 ∷ 4 ∷ 5 ∷ 6 ∷ 7 ∷ 8 ∷ []) ∷ (0 ∷ 1 ∷ 2 ∷ 5 ∷ 3 ∷ 4 ∷ 6 ∷ 7 ∷ 8 ∷ []) ∷ (0 ∷ 1 ∷ 2 ∷ 5 ∷ 3 ∷ 4 ∷ 6 ∷ 7 ∷ 8 ∷ []) ∷ (0 ∷ 5 ∷ 1 ∷ 2 ∷ 6 ∷ 7 ∷ 3 ∷ 4 ∷ 8 ∷ []) ∷ (0 ∷ 5 ∷ 1 ∷ 2 ∷ 6 ∷ 7 ∷ 3 ∷ 4 ∷ 8 ∷ []) ∷ (0 ∷ 1 ∷ 5 ∷ 2 ∷ 6 ∷ 3 ∷ 4 ∷ 7 ∷ 8 ∷ []) ∷ (0 ∷ 5 ∷ 1 ∷ 2 ∷ 3 ∷ 4 ∷ 6 ∷ 7 ∷ 8 ∷ []) ∷ (0 ∷ 5 ∷ 6 ∷ 1 ∷ 7 ∷ 2 ∷ 3 ∷ 4 ∷ 8 ∷ []) ∷ (0 ∷ 1 ∷ 2 ∷ 3 ∷ 5 ∷ 6 ∷ 4 ∷ 7 ∷ 8 ∷ []) ∷ (0 ∷ 1 ∷ 5 ∷ 2 ∷ 6 ∷ 7 ∷ 3 ∷ 4 ∷ 8 ∷ []) ∷ []
traces_14 = refl

-- (USM a) -> ((SIG) -> (CPY))
traces_15 : traces_of (chain (leaf (usm first_one)) (chain (leaf sig) (leaf cpy))) ≡ (0 ∷ 1 ∷ 2 ∷ []) ∷ (0 ∷ 1 ∷ 2 ∷ []) ∷ (0 ∷ 1 ∷ 2 ∷ []) ∷ (0 ∷ 1 ∷ 2 ∷ []) ∷ (0 ∷ 1 ∷ 2 ∷ []) ∷ (0 ∷ 1 ∷ 2 ∷ []) ∷ (0 ∷ 1 ∷ 2 ∷ []) ∷ (0 ∷ 1 ∷ 2 ∷ []) ∷ (0 ∷ 1 ∷ 2 ∷ []) ∷ (0 ∷ 1 ∷ 2 ∷ []) ∷ []
traces_15 = refl

moves_16_0 : moves_of (seq to_left (at bank (leaf (usm first_one))) (leaf (kim q second_one))) 0 ≡ (run root ∷ []) ∷ (run root ∷ []) ∷ (deliver bank ∷ []) ∷ (ask (of 1) ∷ []) ∷ ([]) ∷ (run (of 1) ∷ []) ∷ (run root ∷ []) ∷ (run root ∷ []) ∷ (ask root ∷ []) ∷ ([]) ∷ (run root ∷ []) ∷ (run root ∷ []) ∷ ([]) ∷ []
moves_16_0 = refl

moves_16_3 : moves_of (seq to_left (at bank (leaf (usm first_one))) (leaf (kim q second_one))) 3 ≡ (run root ∷ []) ∷ (run root ∷ []) ∷ (deliver bank ∷ []) ∷ (ask (of 1) ∷ []) ∷ ([]) ∷ (run (of 1) ∷ []) ∷ (run root ∷ []) ∷ (run root ∷ []) ∷ (ask root ∷ []) ∷ ([]) ∷ (run root ∷ []) ∷ (run root ∷ []) ∷ ([]) ∷ []
moves_16_3 = refl

-- (@bank [USM a]) +<- (KIM q b)
traces_16 : traces_of (seq to_left (at bank (leaf (usm first_one))) (leaf (kim q second_one))) ≡ (0 ∷ 1 ∷ 2 ∷ 3 ∷ 4 ∷ 5 ∷ []) ∷ (0 ∷ 1 ∷ 2 ∷ 3 ∷ 4 ∷ 5 ∷ []) ∷ (0 ∷ 1 ∷ 2 ∷ 3 ∷ 4 ∷ 5 ∷ []) ∷ (0 ∷ 1 ∷ 2 ∷ 3 ∷ 4 ∷ 5 ∷ []) ∷ (0 ∷ 1 ∷ 2 ∷ 3 ∷ 4 ∷ 5 ∷ []) ∷ (0 ∷ 1 ∷ 2 ∷ 3 ∷ 4 ∷ 5 ∷ []) ∷ (0 ∷ 1 ∷ 2 ∷ 3 ∷ 4 ∷ 5 ∷ []) ∷ (0 ∷ 1 ∷ 2 ∷ 3 ∷ 4 ∷ 5 ∷ []) ∷ (0 ∷ 1 ∷ 2 ∷ 3 ∷ 4 ∷ 5 ∷ []) ∷ (0 ∷ 1 ∷ 2 ∷ 3 ∷ 4 ∷ 5 ∷ []) ∷ []
traces_16 = refl

-- ((KIM q b) -> (USM a)) +~+ (KIM q b)
traces_17 : traces_of (par to_both (chain (leaf (kim q second_one)) (leaf (usm first_one))) (leaf (kim q second_one))) ≡ (0 ∷ 1 ∷ 2 ∷ 3 ∷ 4 ∷ []) ∷ (0 ∷ 1 ∷ 2 ∷ 3 ∷ 4 ∷ []) ∷ (0 ∷ 1 ∷ 2 ∷ 3 ∷ 4 ∷ []) ∷ (0 ∷ 3 ∷ 1 ∷ 2 ∷ 4 ∷ []) ∷ (0 ∷ 1 ∷ 3 ∷ 2 ∷ 4 ∷ []) ∷ (0 ∷ 3 ∷ 1 ∷ 2 ∷ 4 ∷ []) ∷ (0 ∷ 1 ∷ 3 ∷ 2 ∷ 4 ∷ []) ∷ (0 ∷ 3 ∷ 1 ∷ 2 ∷ 4 ∷ []) ∷ (0 ∷ 1 ∷ 2 ∷ 3 ∷ 4 ∷ []) ∷ (0 ∷ 3 ∷ 1 ∷ 2 ∷ 4 ∷ []) ∷ []
traces_17 = refl

-- ((SIG) +~+ (HSH)) +~+ (@bank [KIM q b])
traces_18 : traces_of (par to_both (par to_both (leaf sig) (leaf hsh)) (at bank (leaf (kim q second_one)))) ≡ (0 ∷ 1 ∷ 2 ∷ 3 ∷ 4 ∷ 5 ∷ 6 ∷ 7 ∷ 8 ∷ []) ∷ (0 ∷ 1 ∷ 3 ∷ 5 ∷ 2 ∷ 4 ∷ 6 ∷ 7 ∷ 8 ∷ []) ∷ (0 ∷ 1 ∷ 5 ∷ 2 ∷ 3 ∷ 4 ∷ 6 ∷ 7 ∷ 8 ∷ []) ∷ (0 ∷ 5 ∷ 1 ∷ 6 ∷ 3 ∷ 2 ∷ 4 ∷ 7 ∷ 8 ∷ []) ∷ (0 ∷ 5 ∷ 1 ∷ 2 ∷ 3 ∷ 6 ∷ 4 ∷ 7 ∷ 8 ∷ []) ∷ (0 ∷ 1 ∷ 2 ∷ 5 ∷ 6 ∷ 7 ∷ 3 ∷ 4 ∷ 8 ∷ []) ∷ (0 ∷ 5 ∷ 1 ∷ 6 ∷ 7 ∷ 2 ∷ 3 ∷ 4 ∷ 8 ∷ []) ∷ (0 ∷ 5 ∷ 6 ∷ 1 ∷ 2 ∷ 7 ∷ 3 ∷ 4 ∷ 8 ∷ []) ∷ (0 ∷ 1 ∷ 3 ∷ 2 ∷ 5 ∷ 6 ∷ 4 ∷ 7 ∷ 8 ∷ []) ∷ (0 ∷ 1 ∷ 5 ∷ 2 ∷ 6 ∷ 3 ∷ 4 ∷ 7 ∷ 8 ∷ []) ∷ []
traces_18 = refl

-- ((HSH) +<- (CPY)) +<+ (@q [SIG])
traces_19 : traces_of (seq to_both (seq to_left (leaf hsh) (leaf cpy)) (at q (leaf sig))) ≡ (0 ∷ 1 ∷ 2 ∷ 3 ∷ 4 ∷ 5 ∷ 6 ∷ 7 ∷ 8 ∷ []) ∷ (0 ∷ 1 ∷ 2 ∷ 3 ∷ 4 ∷ 5 ∷ 6 ∷ 7 ∷ 8 ∷ []) ∷ (0 ∷ 1 ∷ 2 ∷ 3 ∷ 4 ∷ 5 ∷ 6 ∷ 7 ∷ 8 ∷ []) ∷ (0 ∷ 1 ∷ 2 ∷ 3 ∷ 4 ∷ 5 ∷ 6 ∷ 7 ∷ 8 ∷ []) ∷ (0 ∷ 1 ∷ 2 ∷ 3 ∷ 4 ∷ 5 ∷ 6 ∷ 7 ∷ 8 ∷ []) ∷ (0 ∷ 1 ∷ 2 ∷ 3 ∷ 4 ∷ 5 ∷ 6 ∷ 7 ∷ 8 ∷ []) ∷ (0 ∷ 1 ∷ 2 ∷ 3 ∷ 4 ∷ 5 ∷ 6 ∷ 7 ∷ 8 ∷ []) ∷ (0 ∷ 1 ∷ 2 ∷ 3 ∷ 4 ∷ 5 ∷ 6 ∷ 7 ∷ 8 ∷ []) ∷ (0 ∷ 1 ∷ 2 ∷ 3 ∷ 4 ∷ 5 ∷ 6 ∷ 7 ∷ 8 ∷ []) ∷ (0 ∷ 1 ∷ 2 ∷ 3 ∷ 4 ∷ 5 ∷ 6 ∷ 7 ∷ 8 ∷ []) ∷ []
traces_19 = refl

moves_20_0 : moves_of (at bank (at q (leaf (kim q second_one)))) 0 ≡ (run root ∷ []) ∷ (deliver bank ∷ []) ∷ (run (of 0) ∷ []) ∷ (deliver q ∷ []) ∷ (ask (of 1) ∷ []) ∷ ([]) ∷ (run (of 1) ∷ []) ∷ (run (of 0) ∷ []) ∷ (run (of 0) ∷ []) ∷ (run root ∷ []) ∷ (run root ∷ []) ∷ ([]) ∷ []
moves_20_0 = refl

moves_20_3 : moves_of (at bank (at q (leaf (kim q second_one)))) 3 ≡ (run root ∷ []) ∷ (deliver bank ∷ []) ∷ (run (of 0) ∷ []) ∷ (deliver q ∷ []) ∷ (ask (of 1) ∷ []) ∷ ([]) ∷ (run (of 1) ∷ []) ∷ (run (of 0) ∷ []) ∷ (run (of 0) ∷ []) ∷ (run root ∷ []) ∷ (run root ∷ []) ∷ ([]) ∷ []
moves_20_3 = refl

-- @bank [@q [KIM q b]]
traces_20 : traces_of (at bank (at q (leaf (kim q second_one)))) ≡ (0 ∷ 1 ∷ 2 ∷ 3 ∷ 4 ∷ []) ∷ (0 ∷ 1 ∷ 2 ∷ 3 ∷ 4 ∷ []) ∷ (0 ∷ 1 ∷ 2 ∷ 3 ∷ 4 ∷ []) ∷ (0 ∷ 1 ∷ 2 ∷ 3 ∷ 4 ∷ []) ∷ (0 ∷ 1 ∷ 2 ∷ 3 ∷ 4 ∷ []) ∷ (0 ∷ 1 ∷ 2 ∷ 3 ∷ 4 ∷ []) ∷ (0 ∷ 1 ∷ 2 ∷ 3 ∷ 4 ∷ []) ∷ (0 ∷ 1 ∷ 2 ∷ 3 ∷ 4 ∷ []) ∷ (0 ∷ 1 ∷ 2 ∷ 3 ∷ 4 ∷ []) ∷ (0 ∷ 1 ∷ 2 ∷ 3 ∷ 4 ∷ []) ∷ []
traces_20 = refl

-- (USM a) -> ((HSH) -> (CPY))
traces_21 : traces_of (chain (leaf (usm first_one)) (chain (leaf hsh) (leaf cpy))) ≡ (0 ∷ 1 ∷ 2 ∷ []) ∷ (0 ∷ 1 ∷ 2 ∷ []) ∷ (0 ∷ 1 ∷ 2 ∷ []) ∷ (0 ∷ 1 ∷ 2 ∷ []) ∷ (0 ∷ 1 ∷ 2 ∷ []) ∷ (0 ∷ 1 ∷ 2 ∷ []) ∷ (0 ∷ 1 ∷ 2 ∷ []) ∷ (0 ∷ 1 ∷ 2 ∷ []) ∷ (0 ∷ 1 ∷ 2 ∷ []) ∷ (0 ∷ 1 ∷ 2 ∷ []) ∷ []
traces_21 = refl

-- @q [(HSH) -~- (SIG)]
traces_22 : traces_of (at q (par to_none (leaf hsh) (leaf sig))) ≡ (0 ∷ 1 ∷ 2 ∷ 3 ∷ 4 ∷ 5 ∷ []) ∷ (0 ∷ 1 ∷ 2 ∷ 3 ∷ 4 ∷ 5 ∷ []) ∷ (0 ∷ 1 ∷ 2 ∷ 3 ∷ 4 ∷ 5 ∷ []) ∷ (0 ∷ 1 ∷ 3 ∷ 2 ∷ 4 ∷ 5 ∷ []) ∷ (0 ∷ 1 ∷ 3 ∷ 2 ∷ 4 ∷ 5 ∷ []) ∷ (0 ∷ 1 ∷ 2 ∷ 3 ∷ 4 ∷ 5 ∷ []) ∷ (0 ∷ 1 ∷ 3 ∷ 2 ∷ 4 ∷ 5 ∷ []) ∷ (0 ∷ 1 ∷ 3 ∷ 2 ∷ 4 ∷ 5 ∷ []) ∷ (0 ∷ 1 ∷ 2 ∷ 3 ∷ 4 ∷ 5 ∷ []) ∷ (0 ∷ 1 ∷ 2 ∷ 3 ∷ 4 ∷ 5 ∷ []) ∷ []
traces_22 = refl

-- @q [(HSH) +<+ (CPY)]
traces_23 : traces_of (at q (seq to_both (leaf hsh) (leaf cpy))) ≡ (0 ∷ 1 ∷ 2 ∷ 3 ∷ 4 ∷ 5 ∷ []) ∷ (0 ∷ 1 ∷ 2 ∷ 3 ∷ 4 ∷ 5 ∷ []) ∷ (0 ∷ 1 ∷ 2 ∷ 3 ∷ 4 ∷ 5 ∷ []) ∷ (0 ∷ 1 ∷ 2 ∷ 3 ∷ 4 ∷ 5 ∷ []) ∷ (0 ∷ 1 ∷ 2 ∷ 3 ∷ 4 ∷ 5 ∷ []) ∷ (0 ∷ 1 ∷ 2 ∷ 3 ∷ 4 ∷ 5 ∷ []) ∷ (0 ∷ 1 ∷ 2 ∷ 3 ∷ 4 ∷ 5 ∷ []) ∷ (0 ∷ 1 ∷ 2 ∷ 3 ∷ 4 ∷ 5 ∷ []) ∷ (0 ∷ 1 ∷ 2 ∷ 3 ∷ 4 ∷ 5 ∷ []) ∷ (0 ∷ 1 ∷ 2 ∷ 3 ∷ 4 ∷ 5 ∷ []) ∷ []
traces_23 = refl

moves_24_0 : moves_of (seq to_none (leaf (usm first_one)) (chain (leaf (usm first_one)) (leaf hsh))) 0 ≡ (run root ∷ []) ∷ (ask root ∷ []) ∷ ([]) ∷ (run root ∷ []) ∷ (ask root ∷ []) ∷ ([]) ∷ (run root ∷ []) ∷ (run root ∷ []) ∷ (run root ∷ []) ∷ ([]) ∷ []
moves_24_0 = refl

moves_24_3 : moves_of (seq to_none (leaf (usm first_one)) (chain (leaf (usm first_one)) (leaf hsh))) 3 ≡ (run root ∷ []) ∷ (ask root ∷ []) ∷ ([]) ∷ (run root ∷ []) ∷ (ask root ∷ []) ∷ ([]) ∷ (run root ∷ []) ∷ (run root ∷ []) ∷ (run root ∷ []) ∷ ([]) ∷ []
moves_24_3 = refl

-- (USM a) -<- ((USM a) -> (HSH))
traces_24 : traces_of (seq to_none (leaf (usm first_one)) (chain (leaf (usm first_one)) (leaf hsh))) ≡ (0 ∷ 1 ∷ 2 ∷ 3 ∷ 4 ∷ []) ∷ (0 ∷ 1 ∷ 2 ∷ 3 ∷ 4 ∷ []) ∷ (0 ∷ 1 ∷ 2 ∷ 3 ∷ 4 ∷ []) ∷ (0 ∷ 1 ∷ 2 ∷ 3 ∷ 4 ∷ []) ∷ (0 ∷ 1 ∷ 2 ∷ 3 ∷ 4 ∷ []) ∷ (0 ∷ 1 ∷ 2 ∷ 3 ∷ 4 ∷ []) ∷ (0 ∷ 1 ∷ 2 ∷ 3 ∷ 4 ∷ []) ∷ (0 ∷ 1 ∷ 2 ∷ 3 ∷ 4 ∷ []) ∷ (0 ∷ 1 ∷ 2 ∷ 3 ∷ 4 ∷ []) ∷ (0 ∷ 1 ∷ 2 ∷ 3 ∷ 4 ∷ []) ∷ []
traces_24 = refl

-- @bank [@bank [SIG]]
traces_25 : traces_of (at bank (at bank (leaf sig))) ≡ (0 ∷ 1 ∷ 2 ∷ 3 ∷ 4 ∷ []) ∷ (0 ∷ 1 ∷ 2 ∷ 3 ∷ 4 ∷ []) ∷ (0 ∷ 1 ∷ 2 ∷ 3 ∷ 4 ∷ []) ∷ (0 ∷ 1 ∷ 2 ∷ 3 ∷ 4 ∷ []) ∷ (0 ∷ 1 ∷ 2 ∷ 3 ∷ 4 ∷ []) ∷ (0 ∷ 1 ∷ 2 ∷ 3 ∷ 4 ∷ []) ∷ (0 ∷ 1 ∷ 2 ∷ 3 ∷ 4 ∷ []) ∷ (0 ∷ 1 ∷ 2 ∷ 3 ∷ 4 ∷ []) ∷ (0 ∷ 1 ∷ 2 ∷ 3 ∷ 4 ∷ []) ∷ (0 ∷ 1 ∷ 2 ∷ 3 ∷ 4 ∷ []) ∷ []
traces_25 = refl

-- (KIM q b) -> (USM a)
traces_26 : traces_of (chain (leaf (kim q second_one)) (leaf (usm first_one))) ≡ (0 ∷ 1 ∷ []) ∷ (0 ∷ 1 ∷ []) ∷ (0 ∷ 1 ∷ []) ∷ (0 ∷ 1 ∷ []) ∷ (0 ∷ 1 ∷ []) ∷ (0 ∷ 1 ∷ []) ∷ (0 ∷ 1 ∷ []) ∷ (0 ∷ 1 ∷ []) ∷ (0 ∷ 1 ∷ []) ∷ (0 ∷ 1 ∷ []) ∷ []
traces_26 = refl

-- (@q [KIM q b]) +~- (@q [CPY])
traces_27 : traces_of (par to_left (at q (leaf (kim q second_one))) (at q (leaf cpy))) ≡ (0 ∷ 1 ∷ 2 ∷ 3 ∷ 4 ∷ 5 ∷ 6 ∷ 7 ∷ []) ∷ (0 ∷ 1 ∷ 4 ∷ 2 ∷ 5 ∷ 3 ∷ 6 ∷ 7 ∷ []) ∷ (0 ∷ 1 ∷ 4 ∷ 2 ∷ 3 ∷ 5 ∷ 6 ∷ 7 ∷ []) ∷ (0 ∷ 4 ∷ 5 ∷ 1 ∷ 6 ∷ 2 ∷ 3 ∷ 7 ∷ []) ∷ (0 ∷ 4 ∷ 1 ∷ 5 ∷ 2 ∷ 6 ∷ 3 ∷ 7 ∷ []) ∷ (0 ∷ 1 ∷ 4 ∷ 2 ∷ 3 ∷ 5 ∷ 6 ∷ 7 ∷ []) ∷ (0 ∷ 4 ∷ 1 ∷ 2 ∷ 3 ∷ 5 ∷ 6 ∷ 7 ∷ []) ∷ (0 ∷ 4 ∷ 5 ∷ 1 ∷ 6 ∷ 2 ∷ 3 ∷ 7 ∷ []) ∷ (0 ∷ 1 ∷ 2 ∷ 4 ∷ 5 ∷ 3 ∷ 6 ∷ 7 ∷ []) ∷ (0 ∷ 1 ∷ 4 ∷ 2 ∷ 5 ∷ 3 ∷ 6 ∷ 7 ∷ []) ∷ []
traces_27 = refl

moves_28_0 : moves_of (chain (seq to_none (leaf cpy) (leaf (usm first_one))) (leaf (usm first_one))) 0 ≡ (run root ∷ []) ∷ (run root ∷ []) ∷ (run root ∷ []) ∷ (ask root ∷ []) ∷ ([]) ∷ (run root ∷ []) ∷ (ask root ∷ []) ∷ ([]) ∷ (run root ∷ []) ∷ ([]) ∷ []
moves_28_0 = refl

moves_28_3 : moves_of (chain (seq to_none (leaf cpy) (leaf (usm first_one))) (leaf (usm first_one))) 3 ≡ (run root ∷ []) ∷ (run root ∷ []) ∷ (run root ∷ []) ∷ (ask root ∷ []) ∷ ([]) ∷ (run root ∷ []) ∷ (ask root ∷ []) ∷ ([]) ∷ (run root ∷ []) ∷ ([]) ∷ []
moves_28_3 = refl

-- ((CPY) -<- (USM a)) -> (USM a)
traces_28 : traces_of (chain (seq to_none (leaf cpy) (leaf (usm first_one))) (leaf (usm first_one))) ≡ (0 ∷ 1 ∷ 2 ∷ 3 ∷ 4 ∷ []) ∷ (0 ∷ 1 ∷ 2 ∷ 3 ∷ 4 ∷ []) ∷ (0 ∷ 1 ∷ 2 ∷ 3 ∷ 4 ∷ []) ∷ (0 ∷ 1 ∷ 2 ∷ 3 ∷ 4 ∷ []) ∷ (0 ∷ 1 ∷ 2 ∷ 3 ∷ 4 ∷ []) ∷ (0 ∷ 1 ∷ 2 ∷ 3 ∷ 4 ∷ []) ∷ (0 ∷ 1 ∷ 2 ∷ 3 ∷ 4 ∷ []) ∷ (0 ∷ 1 ∷ 2 ∷ 3 ∷ 4 ∷ []) ∷ (0 ∷ 1 ∷ 2 ∷ 3 ∷ 4 ∷ []) ∷ (0 ∷ 1 ∷ 2 ∷ 3 ∷ 4 ∷ []) ∷ []
traces_28 = refl

-- @q [KIM q b]
traces_29 : traces_of (at q (leaf (kim q second_one))) ≡ (0 ∷ 1 ∷ 2 ∷ []) ∷ (0 ∷ 1 ∷ 2 ∷ []) ∷ (0 ∷ 1 ∷ 2 ∷ []) ∷ (0 ∷ 1 ∷ 2 ∷ []) ∷ (0 ∷ 1 ∷ 2 ∷ []) ∷ (0 ∷ 1 ∷ 2 ∷ []) ∷ (0 ∷ 1 ∷ 2 ∷ []) ∷ (0 ∷ 1 ∷ 2 ∷ []) ∷ (0 ∷ 1 ∷ 2 ∷ []) ∷ (0 ∷ 1 ∷ 2 ∷ []) ∷ []
traces_29 = refl

-- three sessions of one job
three_sessions : List Session
three_sessions = session_of (par to_left (leaf (usm first_one)) (leaf (usm second_one))) ∷ session_of (chain (at q (leaf cpy)) (leaf (usm first_one))) ∷ session_of (seq to_right (leaf (kim q second_one)) (leaf sig)) ∷ []

three_after_one : traces_in (scheduled places [] number_each three_sessions 1) ≡ (0 ∷ 2 ∷ 1 ∷ 3 ∷ []) ∷ (0 ∷ 1 ∷ 2 ∷ 3 ∷ []) ∷ (0 ∷ 1 ∷ 2 ∷ 3 ∷ []) ∷ []
unfolding three_sessions
three_after_one = refl

-- (USM a +~+ USM b) +~- USM scan, of which the measurement of one event fails, or starves
three : Session
three = session_of (par to_left (par to_both (leaf (usm first_one)) (leaf (usm second_one))) (leaf (usm scan)))

abbrev without : ℕ → ℕ → ℕ → Result (List ℕ) MeasureError
without lacking session event = if nat_eq event lacking then Err (Fault NoArtefact) else Ok (event ∷ [])

abbrev starved_at : ℕ → ℕ → ℕ → Result (List ℕ) MeasureError
starved_at lacking session event = if nat_eq event lacking then Err NoMemory else Ok (event ∷ [])

abbrev records_in : List Walked → List (Option Record)
records_in [] = []
records_in (walked ∷ rest) = record_of walked.session walked.standing walked.standing.state ∷ records_in rest

without_two : records_in (scheduled places [] (without 2) (three ∷ []) 0) ≡ Some (failed_record 2 NoArtefact (0 ∷ 1 ∷ [])) ∷ []
unfolding three
without_two = refl

without_three : records_in (scheduled places [] (without 3) (three ∷ []) 0) ≡ Some (failed_record 3 NoArtefact (0 ∷ 1 ∷ 2 ∷ [])) ∷ []
unfolding three
without_three = refl

without_five : records_in (scheduled places [] (without 5) (three ∷ []) 0) ≡ Some (failed_record 5 NoArtefact (0 ∷ 1 ∷ 2 ∷ 3 ∷ 4 ∷ [])) ∷ []
unfolding three
without_five = refl

-- a session that starves ends the whole schedule
abbrev states_in : List Walked → List State
states_in [] = []
states_in (walked ∷ rest) = walked.standing.state ∷ states_in rest

starved_at_three : states_in (scheduled places [] (starved_at 3) (three ∷ three ∷ []) 0) ≡ has_starved 3 ∷ is_open ∷ []
unfolding three
starved_at_three = refl
