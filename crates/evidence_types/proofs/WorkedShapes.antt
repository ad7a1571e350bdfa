-- Shapes, their texts and weights, worked outside this project: an edit of the definitions is refused here.
use Rattle.std.proofs.Common.{◌≡◌, ℕ, List, [], ◌∷◌, map, None, Some, suc, zero, true, false, refl}
use Rattle.std.specs.Prelude.{codes}
use Rattle.std.specs.Fmt.{digits}
use Rattle.phrase_tree.specs.declared.measurement.Arg.TheVariants.{Word}
use Rattle.phrase_tree.specs.declared.measurement.Arg.{Arg}
use Rattle.phrase_tree.specs.declared.measurement.Asp.{Asp}
use Rattle.phrase_tree.specs.declared.phrase.Split.{Split}
use Rattle.phrase_tree.specs.Term.{Term, cpy, sig, hsh, nul, usm, kim, leaf, at, chain, seq, par}
use Rattle.evidence_types.specs.Evidence.{empty, nonce, usm as usm_value, hash, par_pair, seq_pair}
use Rattle.evidence_types.specs.Shape.{Fits, shape_at, shapes_from, the_nonce}
use Rattle.evidence_types.specs.ShapeText.{shape_text}
use Rattle.evidence_types.specs.declared.measure.Measure.TheVariants.{Weight, Nest}
use Rattle.evidence_types.specs.Measure.{counts, oversize_at, worst_weight}

abbrev both : Split
both = record { left = true; right = true }

abbrev left_only : Split
left_only = record { left = true; right = false }

abbrev right_only : Split
right_only = record { left = false; right = true }

abbrev neither : Split
neither = record { left = false; right = false }

abbrev asp : List ℕ → List Arg → Asp
asp name args = record { name = name; args = args }

abbrev scan_and_seal : Term
scan_and_seal = chain (leaf (usm (asp (codes "scan") []))) (leaf sig)

sealed_scan : shape_text (shape_at scan_and_seal (codes "bank")) ≡ codes "G(bank,1,U(bank,0,scan,N))"
unfolding digits
sealed_scan = refl

sealed_scan_weighs : counts Weight scan_and_seal ≡ (0, 1048) ∷ (1, 1085) ∷ []
sealed_scan_weighs = refl

abbrev two_arms : Term
two_arms = par left_only (leaf (usm (asp (codes "a") []))) (leaf (usm (asp (codes "b") [])))

left_arm_alone_gets_the_nonce : shape_text (shape_at two_arms (codes "bank")) ≡ codes "P(U(bank,1,a,N),U(bank,2,b,E))"
unfolding digits
left_arm_alone_gets_the_nonce = refl

two_arms_weigh : counts Weight two_arms ≡ (1, 1048) ∷ (2, 1032) ∷ (3, 2081) ∷ []
two_arms_weigh = refl

two_arms_make : map {B = ℕ × List ℕ} (λ made. (made.0, shape_text made.1)) (shapes_from two_arms (codes "bank") 0 the_nonce) ≡ (1, codes "U(bank,1,a,N)") ∷ (2, codes "U(bank,2,b,E)") ∷ (3, codes "P(U(bank,1,a,N),U(bank,2,b,E))") ∷ []
unfolding digits
two_arms_make = refl

neither_arm_gets_the_nonce : shape_text (shape_at (seq neither (leaf cpy) (leaf cpy)) (codes "bank")) ≡ codes "S(E,E)"
neither_arm_gets_the_nonce = refl

right_arm_alone_gets_the_nonce : shape_text (shape_at (seq right_only (leaf cpy) (leaf cpy)) (codes "bank")) ≡ codes "S(E,N)"
right_arm_alone_gets_the_nonce = refl

abbrev hashed_pair : Term
hashed_pair = chain (seq both (leaf cpy) (leaf cpy)) (leaf hsh)

both_arms_get_the_nonce : shape_text (shape_at hashed_pair (codes "bank")) ≡ codes "H(bank,4,S(N,N))"
unfolding digits
both_arms_get_the_nonce = refl

under_a_hash_the_weight_counts : counts Weight hashed_pair ≡ (1, 17) ∷ (2, 17) ∷ (3, 35) ∷ (4, 72) ∷ []
under_a_hash_the_weight_counts = refl

abbrev bank_job : Term
bank_job =
    seq both
    (at (codes "ks") (chain (leaf (kim (codes "us") (asp (codes "kernel") []))) (leaf sig)))
    (at (codes "us") (chain (chain (leaf (usm (asp (codes "scanner") []))) (leaf (usm (asp (codes "files") (Word (codes "etc") ∷ []))))) (leaf sig)))

bank_job_shape : shape_text (shape_at bank_job (codes "bank")) ≡ codes "S(G(ks,3,K(ks,2,us,kernel,N)),G(us,8,U(us,7,files etc,U(us,6,scanner,N))))"
unfolding digits
bank_job_shape = refl

bank_job_weighs : worst_weight bank_job ≡ 3202
bank_job_weighs = refl

-- a phrase, and then another one so many times
abbrev followed : Term → Term → ℕ → Term
followed first next zero = first
followed first next (suc n) = chain (followed first next n) next

abbrev measured_often : ℕ → Term
measured_often n = followed (leaf (usm (asp (codes "a") []))) (leaf (usm (asp (codes "a") []))) n

full : worst_weight (followed (measured_often 232) (leaf sig) 592) ≡ 262144
full = refl

full_is_not_over : oversize_at (followed (measured_often 232) (leaf sig) 592) ≡ None
full_is_not_over = refl

first_of_many_over : oversize_at (chain (followed (followed (measured_often 232) (leaf sig) 591) (seq right_only (leaf cpy) (leaf cpy)) 19) (leaf hsh)) ≡ Some 899
first_of_many_over = refl

-- a NUL leaves no evidence, and the shape is E
abbrev emptied : Term
emptied = chain (leaf (usm (asp (codes "scan") []))) (leaf nul)

emptied_weighs : counts Weight emptied ≡ (0, 1048) ∷ (1, 1) ∷ []
emptied_weighs = refl

emptied_nests : counts Nest emptied ≡ (0, 2) ∷ (1, 1) ∷ []
emptied_nests = refl

emptied_is : shape_text (shape_at emptied (codes "bank")) ≡ codes "E"
emptied_is = refl

-- seals nest: with 1,025 the last one is over, though they weigh little
deepest : oversize_at (followed (leaf sig) (leaf sig) 1023) ≡ None
deepest = refl

too_deep : oversize_at (followed (leaf sig) (leaf sig) 1024) ≡ Some 1024
too_deep = refl

too_deep_weighs : worst_weight (followed (leaf sig) (leaf sig) 1024) ≡ 37942
too_deep_weighs = refl

-- a pair nests by its deeper part, on whichever side it stands
two_arms_nest : counts Nest (seq right_only (leaf cpy) (chain (leaf sig) (leaf hsh))) ≡ (1, 1) ∷ (2, 2) ∷ (3, 3) ∷ (4, 4) ∷ []
two_arms_nest = refl

many_measurements : worst_weight (measured_often 253) ≡ 261891
many_measurements = refl

one_more : oversize_at (measured_often 254) ≡ Some 254
one_more = refl

-- what fits, and what does not
fits_the_two_arms : Fits (par_pair (usm_value 1 (17 ∷ []) (nonce [])) (usm_value 2 (34 ∷ []) empty)) (shape_at two_arms (codes "bank"))
fits_the_two_arms = ((refl, tt), (refl, tt))

a_hash_fits : Fits (hash 4 []) (shape_at hashed_pair (codes "bank"))
a_hash_fits = refl

a_pair_of_the_other_branch_does_not_fit : Fits (seq_pair (usm_value 1 (17 ∷ []) (nonce [])) (usm_value 2 (34 ∷ []) empty)) (shape_at two_arms (codes "bank")) ≡ ⊥
a_pair_of_the_other_branch_does_not_fit = refl
