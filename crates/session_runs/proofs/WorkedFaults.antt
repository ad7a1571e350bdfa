-- The traces of small jobs by the events that fail, written down from another program: an edit of the definitions is
-- refused here.
use Rattle.std.proofs.Common.{◌≡◌, ℕ, zero, suc, List, [], ◌∷◌, refl}
use Rattle.std.specs.Prelude.{codes, true, false, Option, None, Some}
use Rattle.phrase_tree.specs.declared.measurement.Asp.{Asp}
use Rattle.phrase_tree.specs.Term.{Term, cpy, usm, kim, leaf, at, chain, par}
use Rattle.session_model.specs.Session.{Session}
use Rattle.session_runs.specs.ByFaults.{scheduled_traces}

abbrev bank : List ℕ
bank = codes "bank"

abbrev q : List ℕ
q = codes "q"

abbrev places : List (List ℕ)
places = bank ∷ q ∷ []

abbrev asp_a : Asp
asp_a = record { name = codes "a"; args = [] }

abbrev asp_b : Asp
asp_b = record { name = codes "b"; args = [] }

abbrev session_of : List ℕ → ℕ → Term → Session
session_of place number phrase = record { root = place; nonce = number ∷ []; phrase = phrase }

-- the failed event of each session, by its number
abbrev named_in : List (Option ℕ) → ℕ → Option ℕ
named_in [] number = None
named_in (fault ∷ faults) zero = fault
named_in (fault ∷ faults) (suc number) = named_in faults number

-- USM a +~+ USM b; @q [USM a] -> USM b, by the schedule of 4
by_schedule_0 : scheduled_traces places (named_in (None ∷ None ∷ [])) (session_of bank 0 (par (record { left = true; right = true }) (leaf (usm asp_a)) (leaf (usm asp_b))) ∷ session_of bank 1 (chain (at q (leaf (usm asp_a))) (leaf (usm asp_b))) ∷ []) 4 ≡ (0 ∷ 1 ∷ 2 ∷ 3 ∷ []) ∷ (0 ∷ 1 ∷ 2 ∷ 3 ∷ []) ∷ []
by_schedule_0 = refl

-- USM a +~+ USM b; @q [USM a] -> USM b, by the schedule of 3
by_schedule_1 : scheduled_traces places (named_in (Some 2 ∷ None ∷ [])) (session_of bank 0 (par (record { left = true; right = true }) (leaf (usm asp_a)) (leaf (usm asp_b))) ∷ session_of bank 1 (chain (at q (leaf (usm asp_a))) (leaf (usm asp_b))) ∷ []) 3 ≡ (0 ∷ []) ∷ (0 ∷ 1 ∷ 2 ∷ 3 ∷ []) ∷ []
by_schedule_1 = refl

-- USM a +~+ USM b; @q [USM a] -> USM b; @bank [CPY] +~- KIM q b, by the schedule of 7
by_schedule_2 : scheduled_traces places (named_in (Some 1 ∷ Some 3 ∷ None ∷ [])) (session_of bank 0 (par (record { left = true; right = true }) (leaf (usm asp_a)) (leaf (usm asp_b))) ∷ session_of bank 1 (chain (at q (leaf (usm asp_a))) (leaf (usm asp_b))) ∷ session_of q 2 (par (record { left = true; right = false }) (at bank (leaf cpy)) (leaf (kim q asp_b))) ∷ []) 7 ≡ (0 ∷ []) ∷ (0 ∷ 1 ∷ 2 ∷ []) ∷ (0 ∷ 1 ∷ 4 ∷ 2 ∷ 3 ∷ 5 ∷ []) ∷ []
by_schedule_2 = refl

-- USM a +~+ USM b; @q [USM a] -> USM b, by the schedule of 0
by_schedule_3 : scheduled_traces places (named_in (None ∷ Some 1 ∷ [])) (session_of bank 0 (par (record { left = true; right = true }) (leaf (usm asp_a)) (leaf (usm asp_b))) ∷ session_of bank 1 (chain (at q (leaf (usm asp_a))) (leaf (usm asp_b))) ∷ []) 0 ≡ (0 ∷ 1 ∷ 2 ∷ 3 ∷ []) ∷ (0 ∷ []) ∷ []
by_schedule_3 = refl
