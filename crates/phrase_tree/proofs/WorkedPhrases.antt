-- Phrases whose counts, numbers, kinds, places and brackets were written down outside this project,
-- by hand from the rules: an edit of the definitions is refused here.
use Rattle.std.proofs.Common.{◌≡◌, ℕ, List, [], ◌∷◌, refl}
use Rattle.std.specs.Prelude.{codes, true, false}
use Rattle.phrase_tree.specs.declared.measurement.Asp.{Asp}
use Rattle.phrase_tree.specs.declared.measurement.Arg.TheVariants.{Word}
use Rattle.phrase_tree.specs.declared.phrase.Split.{Split}
use Rattle.phrase_tree.specs.Term.{Term, cpy, sig, hsh, nul, usm, kim, leaf, at, chain, seq, par}
use Rattle.phrase_tree.specs.Numbering.{event_count, depth}
use Rattle.phrase_tree.specs.Events.{event, copies, measures, measures_at, seals, hashes, empties, requests, replies, splits, joins, events_of}

abbrev bank : List ℕ
bank = codes "bank"

abbrev q : List ℕ
q = codes "q"

abbrev measurement : List ℕ → Asp
measurement name = record { name = name; args = [] }

abbrev to_both : Split
to_both = record { left = true; right = true }

abbrev to_left : Split
to_left = record { left = true; right = false }

abbrev to_right : Split
to_right = record { left = false; right = true }

-- @q [USM scan -> SIG]
abbrev asked : Term
asked = at q (chain (leaf (usm (measurement (codes "scan")))) (leaf sig))

asked_counts : event_count asked ≡ 4
asked_counts = refl

asked_nests : depth asked ≡ 1
asked_nests = refl

asked_happens : events_of asked bank 0 ≡ event 0 (requests q) bank ∷ event 1 (measures (measurement (codes "scan"))) q ∷ event 2 seals q ∷ event 3 (replies q) bank ∷ []
asked_happens = refl

-- USM a +~- USM b
abbrev in_parallel : Term
in_parallel = par to_left (leaf (usm (measurement (codes "a")))) (leaf (usm (measurement (codes "b"))))

in_parallel_counts : event_count in_parallel ≡ 4
in_parallel_counts = refl

in_parallel_happens : events_of in_parallel bank 0 ≡ event 0 splits bank ∷ event 1 (measures (measurement (codes "a"))) bank ∷ event 2 (measures (measurement (codes "b"))) bank ∷ event 3 joins bank ∷ []
in_parallel_happens = refl

-- USM a -<+ USM b
abbrev in_sequence : Term
in_sequence = seq to_right (leaf (usm (measurement (codes "a")))) (leaf (usm (measurement (codes "b"))))

in_sequence_counts : event_count in_sequence ≡ 4
in_sequence_counts = refl

in_sequence_happens : events_of in_sequence bank 0 ≡ event 0 splits bank ∷ event 1 (measures (measurement (codes "a"))) bank ∷ event 2 (measures (measurement (codes "b"))) bank ∷ event 3 joins bank ∷ []
in_sequence_happens = refl

-- @q [@bank [@q [CPY]]]
abbrev asked_back : Term
asked_back = at q (at bank (at q (leaf cpy)))

asked_back_counts : event_count asked_back ≡ 7
asked_back_counts = refl

asked_back_nests : depth asked_back ≡ 3
asked_back_nests = refl

asked_back_happens : events_of asked_back bank 0 ≡ event 0 (requests q) bank ∷ event 1 (requests bank) q ∷ event 2 (requests q) bank ∷ event 3 copies q ∷ event 4 (replies q) bank ∷ event 5 (replies bank) q ∷ event 6 (replies q) bank ∷ []
asked_back_happens = refl

-- (CPY +<+ CPY) -> HSH
abbrev hashed : Term
hashed = chain (seq to_both (leaf cpy) (leaf cpy)) (leaf hsh)

hashed_counts : event_count hashed ≡ 5
hashed_counts = refl

hashed_happens : events_of hashed bank 0 ≡ event 0 splits bank ∷ event 1 copies bank ∷ event 2 copies bank ∷ event 3 joins bank ∷ event 4 hashes bank ∷ []
hashed_happens = refl

-- @ks [KIM us kernel -> SIG] +<+ @us [USM scanner -> USM files etc -> SIG]
abbrev ks : List ℕ
ks = codes "ks"

abbrev us : List ℕ
us = codes "us"

abbrev files : Asp
files = record { name = codes "files"; args = Word (codes "etc") ∷ [] }

abbrev of_a_bank : Term
of_a_bank =
    seq to_both
    (at ks (chain (leaf (kim us (measurement (codes "kernel")))) (leaf sig)))
    (at us (chain (chain (leaf (usm (measurement (codes "scanner")))) (leaf (usm files))) (leaf sig)))

of_a_bank_counts : event_count of_a_bank ≡ 11
of_a_bank_counts = refl

of_a_bank_nests : depth of_a_bank ≡ 1
of_a_bank_nests = refl

of_a_bank_happens : events_of of_a_bank bank 0 ≡ event 0 splits bank ∷ event 1 (requests ks) bank ∷ event 2 (measures_at us (measurement (codes "kernel"))) ks ∷ event 3 seals ks ∷ event 4 (replies ks) bank ∷ event 5 (requests us) bank ∷ event 6 (measures (measurement (codes "scanner"))) us ∷ event 7 (measures files) us ∷ event 8 seals us ∷ event 9 (replies us) bank ∷ event 10 joins bank ∷ []
of_a_bank_happens = refl

-- USM a -> SIG +<+ CPY
chain_as_an_arm : depth (seq to_both (chain (leaf (usm (measurement (codes "a")))) (leaf sig)) (leaf cpy)) ≡ 0
chain_as_an_arm = refl

-- CPY -> CPY -> CPY, and CPY -> (CPY -> CPY)
chain_on_the_left : depth (chain (chain (leaf cpy) (leaf cpy)) (leaf cpy)) ≡ 0
chain_on_the_left = refl

chain_on_the_right : depth (chain (leaf cpy) (chain (leaf cpy) (leaf cpy))) ≡ 1
chain_on_the_right = refl

-- (CPY +<+ CPY) -> HSH, and CPY -> (CPY +~- CPY)
branch_on_the_left : depth hashed ≡ 1
branch_on_the_left = refl

branch_on_the_right : depth (chain (leaf cpy) (par to_left (leaf cpy) (leaf cpy))) ≡ 1
branch_on_the_right = refl

-- (CPY +~- CPY) +<+ CPY, and CPY +~- (CPY -<+ CPY)
branch_as_the_left_arm : depth (seq to_both (par to_left (leaf cpy) (leaf cpy)) (leaf cpy)) ≡ 1
branch_as_the_left_arm = refl

branch_as_the_right_arm : depth (par to_left (leaf cpy) (seq to_right (leaf cpy) (leaf cpy))) ≡ 1
branch_as_the_right_arm = refl

-- @q [CPY +<+ CPY], and HSH -> (CPY +<+ (CPY +~- @q [CPY]))
branch_that_is_asked : depth (at q (seq to_both (leaf cpy) (leaf cpy))) ≡ 1
branch_that_is_asked = refl

one_in_the_other : depth (chain (leaf hsh) (seq to_both (leaf cpy) (par to_left (leaf cpy) (at q (leaf cpy))))) ≡ 3
one_in_the_other = refl

-- USM scan -> NUL
abbrev emptied : Term
emptied = chain (leaf (usm (measurement (codes "scan")))) (leaf nul)

emptied_counts : event_count emptied ≡ 2
emptied_counts = refl

emptied_happens : events_of emptied bank 0 ≡ event 0 (measures (measurement (codes "scan"))) bank ∷ event 1 empties bank ∷ []
emptied_happens = refl
