-- Small phrases as the schedules of the numbers 0 to 6 play them over links, written down from another program:
-- an edit of the definitions is refused here.
use Rattle.std.proofs.Common.{◌≡◌, ℕ, List, [], ◌∷◌, refl}
use Rattle.std.specs.Prelude.{codes, true, false, Result, Ok, Err}
use Rattle.phrase_tree.specs.Term.{Term, cpy, sig, hsh, usm, leaf, at, chain, par}
use Rattle.bench_trait.specs.declared.bench.BenchFault.TheVariants.{NoArtefact}
use Rattle.bench_trait.specs.declared.bench.MeasureError.{MeasureError}
use Rattle.bench_trait.specs.declared.bench.MeasureError.TheVariants.{Fault}
use Rattle.session_model.specs.Session.{Session}
use Rattle.wire_manager.specs.WireSchedule.{Linked, wire_scheduled}

abbrev bank : List ℕ
bank = codes "bank"

abbrev q : List ℕ
q = codes "q"

abbrev session_of : Term → Session
session_of phrase = record { root = bank; nonce = []; phrase = phrase }

-- each event has its own number as its answer
abbrev number_each : ℕ → ℕ → Result (List ℕ) MeasureError
number_each session event = Ok (event ∷ [])

-- no event has an answer
abbrev none_each : ℕ → ℕ → Result (List ℕ) MeasureError
none_each session event = Err (Fault NoArtefact)

-- what happened in each session; how many frames it sent, lost, and had arrive that stayed
abbrev figures : List Linked → List (List ℕ × List ℕ)
figures [] = []
figures (linked ∷ rest) = (linked.walked.standing.trace, linked.sent ∷ linked.lost ∷ linked.stayed ∷ []) ∷ figures rest

abbrev plays : Term → ℕ → List (List ℕ × List ℕ)
plays phrase number = figures (wire_scheduled (bank ∷ q ∷ []) [] number_each (session_of phrase ∷ []) number)

-- @q [USM scan -> SIG]
abbrev asked : Term
asked = at q (chain (leaf (usm (record { name = codes "scan"; args = [] }))) (leaf sig))

-- @q [@bank [@q [CPY]]]
abbrev nested : Term
nested = at q (at bank (at q (leaf cpy)))

-- @q [CPY] +~- @q [HSH]
abbrev at_once : Term
at_once = par (record { left = true; right = false }) (at q (leaf cpy)) (at q (leaf hsh))

asked-0 : plays asked 0 ≡ (0 ∷ 1 ∷ 2 ∷ 3 ∷ [], 2 ∷ 0 ∷ 0 ∷ []) ∷ []
asked-0 = refl

asked-1 : plays asked 1 ≡ (0 ∷ 1 ∷ 2 ∷ 3 ∷ [], 4 ∷ 2 ∷ 1 ∷ []) ∷ []
asked-1 = refl

asked-2 : plays asked 2 ≡ (0 ∷ 1 ∷ 2 ∷ 3 ∷ [], 4 ∷ 2 ∷ 0 ∷ []) ∷ []
asked-2 = refl

asked-3 : plays asked 3 ≡ (0 ∷ 1 ∷ 2 ∷ 3 ∷ [], 2 ∷ 0 ∷ 2 ∷ []) ∷ []
asked-3 = refl

asked-4 : plays asked 4 ≡ (0 ∷ 1 ∷ 2 ∷ 3 ∷ [], 2 ∷ 0 ∷ 1 ∷ []) ∷ []
asked-4 = refl

asked-5 : plays asked 5 ≡ (0 ∷ 1 ∷ 2 ∷ 3 ∷ [], 3 ∷ 2 ∷ 2 ∷ []) ∷ []
asked-5 = refl

asked-6 : plays asked 6 ≡ (0 ∷ 1 ∷ 2 ∷ 3 ∷ [], 2 ∷ 0 ∷ 1 ∷ []) ∷ []
asked-6 = refl

nested-0 : plays nested 0 ≡ (0 ∷ 1 ∷ 2 ∷ 3 ∷ 4 ∷ 5 ∷ 6 ∷ [], 6 ∷ 0 ∷ 0 ∷ []) ∷ []
nested-0 = refl

nested-1 : plays nested 1 ≡ (0 ∷ 1 ∷ 2 ∷ 3 ∷ 4 ∷ 5 ∷ 6 ∷ [], 9 ∷ 3 ∷ 5 ∷ []) ∷ []
nested-1 = refl

nested-2 : plays nested 2 ≡ (0 ∷ 1 ∷ 2 ∷ 3 ∷ 4 ∷ 5 ∷ 6 ∷ [], 11 ∷ 6 ∷ 1 ∷ []) ∷ []
nested-2 = refl

nested-3 : plays nested 3 ≡ (0 ∷ 1 ∷ 2 ∷ 3 ∷ 4 ∷ 5 ∷ 6 ∷ [], 9 ∷ 3 ∷ 2 ∷ []) ∷ []
nested-3 = refl

nested-4 : plays nested 4 ≡ (0 ∷ 1 ∷ 2 ∷ 3 ∷ 4 ∷ 5 ∷ 6 ∷ [], 10 ∷ 4 ∷ 1 ∷ []) ∷ []
nested-4 = refl

nested-5 : plays nested 5 ≡ (0 ∷ 1 ∷ 2 ∷ 3 ∷ 4 ∷ 5 ∷ 6 ∷ [], 9 ∷ 5 ∷ 2 ∷ []) ∷ []
nested-5 = refl

nested-6 : plays nested 6 ≡ (0 ∷ 1 ∷ 2 ∷ 3 ∷ 4 ∷ 5 ∷ 6 ∷ [], 9 ∷ 3 ∷ 3 ∷ []) ∷ []
nested-6 = refl

at_once-0 : plays at_once 0 ≡ (0 ∷ 1 ∷ 4 ∷ 2 ∷ 5 ∷ 3 ∷ 6 ∷ 7 ∷ [], 4 ∷ 0 ∷ 0 ∷ []) ∷ []
at_once-0 = refl

at_once-1 : plays at_once 1 ≡ (0 ∷ 1 ∷ 4 ∷ 2 ∷ 5 ∷ 6 ∷ 3 ∷ 7 ∷ [], 5 ∷ 0 ∷ 6 ∷ []) ∷ []
at_once-1 = refl

at_once-2 : plays at_once 2 ≡ (0 ∷ 1 ∷ 4 ∷ 2 ∷ 5 ∷ 3 ∷ 6 ∷ 7 ∷ [], 5 ∷ 1 ∷ 2 ∷ []) ∷ []
at_once-2 = refl

at_once-3 : plays at_once 3 ≡ (0 ∷ 4 ∷ 1 ∷ 5 ∷ 2 ∷ 3 ∷ 6 ∷ 7 ∷ [], 4 ∷ 0 ∷ 1 ∷ []) ∷ []
at_once-3 = refl

at_once-4 : plays at_once 4 ≡ (0 ∷ 4 ∷ 5 ∷ 1 ∷ 6 ∷ 2 ∷ 3 ∷ 7 ∷ [], 5 ∷ 2 ∷ 3 ∷ []) ∷ []
at_once-4 = refl

at_once-5 : plays at_once 5 ≡ (0 ∷ 1 ∷ 2 ∷ 4 ∷ 5 ∷ 3 ∷ 6 ∷ 7 ∷ [], 4 ∷ 2 ∷ 3 ∷ []) ∷ []
at_once-5 = refl

at_once-6 : plays at_once 6 ≡ (0 ∷ 4 ∷ 1 ∷ 5 ∷ 2 ∷ 6 ∷ 3 ∷ 7 ∷ [], 4 ∷ 0 ∷ 1 ∷ []) ∷ []
at_once-6 = refl

-- sessions one after the other, which draw from one number
abbrev three : ℕ → List (List ℕ × List ℕ)
three number = figures (wire_scheduled (bank ∷ q ∷ []) [] none_each (session_of (at q (leaf cpy)) ∷ session_of (leaf cpy) ∷ session_of (at q (leaf hsh)) ∷ []) number)

three-0 : three 0 ≡ (0 ∷ 1 ∷ 2 ∷ [], 2 ∷ 0 ∷ 0 ∷ []) ∷ (0 ∷ [], 0 ∷ 0 ∷ 0 ∷ []) ∷ (0 ∷ 1 ∷ 2 ∷ [], 2 ∷ 0 ∷ 0 ∷ []) ∷ []
three-0 = refl

three-1 : three 1 ≡ (0 ∷ 1 ∷ 2 ∷ [], 4 ∷ 2 ∷ 1 ∷ []) ∷ (0 ∷ [], 0 ∷ 0 ∷ 0 ∷ []) ∷ (0 ∷ 1 ∷ 2 ∷ [], 2 ∷ 1 ∷ 1 ∷ []) ∷ []
three-1 = refl

three-2 : three 2 ≡ (0 ∷ 1 ∷ 2 ∷ [], 4 ∷ 2 ∷ 0 ∷ []) ∷ (0 ∷ [], 0 ∷ 0 ∷ 0 ∷ []) ∷ (0 ∷ 1 ∷ 2 ∷ [], 4 ∷ 2 ∷ 0 ∷ []) ∷ []
three-2 = refl

three-3 : three 3 ≡ (0 ∷ 1 ∷ 2 ∷ [], 2 ∷ 0 ∷ 2 ∷ []) ∷ (0 ∷ [], 0 ∷ 0 ∷ 0 ∷ []) ∷ (0 ∷ 1 ∷ 2 ∷ [], 3 ∷ 1 ∷ 0 ∷ []) ∷ []
three-3 = refl
