-- Small phrases worked by hand: an edit of the definitions is refused here.
use Rattle.std.proofs.Common.{◌≡◌, ℕ, zero, suc, ◌<◌, true, [], ◌∷◌, get_or, map, inl, inr, refl, Some, None, arith}
use Rattle.phrase_tree.specs.declared.phrase.Split.{Split}
use Rattle.phrase_tree.specs.Term.{Term, cpy, sig, leaf, at, chain, seq, par}
use Rattle.event_system.specs.Order.{IsBefore}
use Rattle.event_system.specs.Trace.{IsTraceSoFar}
use Rattle.event_system.specs.Needs.{only, needs_of}

both : Split
both = record { left = true; right = true }

-- a request to a place, two leaves there, and its reply
abbrev remote : Term
remote = at (113 ∷ []) (chain (leaf cpy) (leaf sig))

-- a split, two arms of one leaf, and a join
abbrev fork : Term
fork = par both (leaf cpy) (leaf cpy)

abbrev row : Term
row = seq both (leaf cpy) (leaf cpy)

remote_needs : map (needs_of remote) (0 ∷ 1 ∷ 2 ∷ 3 ∷ 4 ∷ []) ≡ only None ∷ only (Some 0) ∷ only (Some 1) ∷ only (Some 2) ∷ only None ∷ []
remote_needs = refl

fork_needs : map (needs_of fork) (0 ∷ 1 ∷ 2 ∷ 3 ∷ 4 ∷ []) ≡ only None ∷ only (Some 0) ∷ only (Some 0) ∷ (record { first = Some 1; second = Some 2 }) ∷ only None ∷ []
fork_needs = refl

row_needs : map (needs_of row) (0 ∷ 1 ∷ 2 ∷ 3 ∷ 4 ∷ []) ≡ only None ∷ only (Some 0) ∷ only (Some 1) ∷ only (Some 2) ∷ only None ∷ []
row_needs = refl

-- a leaf after a fork needs its join
after_fork : needs_of (chain fork (leaf cpy)) 4 ≡ only (Some 3)
after_fork = refl

row_in_order : IsBefore row 0 1 2
row_in_order = inr (inr (inl (record { from = omega arith; left = omega arith; right = omega arith; below = omega arith })))

fork_split_first : IsBefore fork 0 0 2
fork_split_first = inl (record { first = refl; later = omega arith; below = omega arith })

fork_join_last : IsBefore fork 0 1 3
fork_join_last = inr (inl (record { from = omega arith; earlier = omega arith; last = refl }))

fork_apart : IsBefore fork 0 1 2 → ⊥
fork_apart (inl o) = omega arith
fork_apart (inr (inl c)) = omega arith
fork_apart (inr (inr (inl b))) = b
fork_apart (inr (inr (inr b))) = b

no_two : (k : ℕ) → k < 2 → ◌≡◌ {A = ℕ} (get_or (0 ∷ 1 ∷ []) k 2) 2 → ⊥
no_two zero lt e = omega (arith, e)
no_two (suc zero) lt e = omega (arith, e)
no_two (suc (suc n)) lt e = omega arith

-- a join ahead of an arm is no trace so far
join_too_early : IsTraceSoFar fork 0 (0 ∷ 1 ∷ 3 ∷ 2 ∷ []) → ⊥
join_too_early s =
    let w = (s.each 2 (omega arith)).ready 2 (inr (inl (record { from = omega arith; earlier = omega arith; last = refl }))) in
    no_two w.0 w.1 w.2

-- nor is one that has an event twice
event_twice : IsTraceSoFar fork 0 (0 ∷ 1 ∷ 1 ∷ []) → ⊥
event_twice s = (s.each 2 (omega arith)).once (1, omega arith, refl)

-- nor is a list with a number that is no event
no_event : IsTraceSoFar fork 0 (0 ∷ 4 ∷ []) → ⊥
no_event s = let h = (s.each 1 (omega arith)).event in omega arith
