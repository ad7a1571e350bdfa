-- Bundles that were made outside this project, by hand from the format: an edit of the definitions is refused here.
use Rattle.std.proofs.Common.{◌≡◌, ℕ, List, [], ◌∷◌, ◌++◌, replicate, refl}
use Rattle.evidence_types.specs.Evidence.{empty, nonce, usm, kim, seal, hash, seq_pair, par_pair}
use Rattle.evidence_types.specs.Bytes.{bundle, encoding, nesting}
use Rattle.evidence_types.specs.Marked.{marked_bundle, marked_encoding}
use Rattle.evidence_types.specs.Answers.{answer_at, answered}

abbrev first_nonce : List ℕ
first_nonce = 0 ∷ 1 ∷ 2 ∷ 3 ∷ 4 ∷ 5 ∷ 6 ∷ 7 ∷ 8 ∷ 9 ∷ 10 ∷ 11 ∷ 12 ∷ 13 ∷ 14 ∷ 15 ∷ []

of_the_nonce : bundle (nonce first_nonce) ≡ 67 ∷ 80 ∷ 76 ∷ 66 ∷ 1 ∷ 0 ∷ 0 ∷ 0 ∷ 17 ∷ 1 ∷ 0 ∷ 1 ∷ 2 ∷ 3 ∷ 4 ∷ 5 ∷ 6 ∷ 7 ∷ 8 ∷ 9 ∷ 10 ∷ 11 ∷ 12 ∷ 13 ∷ 14 ∷ 15 ∷ []
of_the_nonce = refl

measured : bundle (usm 0 (170 ∷ 187 ∷ []) (nonce first_nonce)) ≡ 67 ∷ 80 ∷ 76 ∷ 66 ∷ 1 ∷ 0 ∷ 0 ∷ 0 ∷ 26 ∷ 2 ∷ 0 ∷ 0 ∷ 0 ∷ 0 ∷ 0 ∷ 2 ∷ 170 ∷ 187 ∷ 1 ∷ 0 ∷ 1 ∷ 2 ∷ 3 ∷ 4 ∷ 5 ∷ 6 ∷ 7 ∷ 8 ∷ 9 ∷ 10 ∷ 11 ∷ 12 ∷ 13 ∷ 14 ∷ 15 ∷ []
measured = refl

two_arms_in_parallel : bundle (par_pair (usm 1 (17 ∷ []) (nonce first_nonce)) (usm 2 (34 ∷ []) empty)) ≡ 67 ∷ 80 ∷ 76 ∷ 66 ∷ 1 ∷ 0 ∷ 0 ∷ 0 ∷ 35 ∷ 7 ∷ 2 ∷ 0 ∷ 0 ∷ 0 ∷ 1 ∷ 0 ∷ 1 ∷ 17 ∷ 1 ∷ 0 ∷ 1 ∷ 2 ∷ 3 ∷ 4 ∷ 5 ∷ 6 ∷ 7 ∷ 8 ∷ 9 ∷ 10 ∷ 11 ∷ 12 ∷ 13 ∷ 14 ∷ 15 ∷ 2 ∷ 0 ∷ 0 ∷ 0 ∷ 2 ∷ 0 ∷ 1 ∷ 34 ∷ 0 ∷ []
two_arms_in_parallel = refl

two_arms_in_sequence : bundle (seq_pair (usm 1 (17 ∷ []) empty) (usm 2 (34 ∷ []) (nonce first_nonce))) ≡ 67 ∷ 80 ∷ 76 ∷ 66 ∷ 1 ∷ 0 ∷ 0 ∷ 0 ∷ 35 ∷ 6 ∷ 2 ∷ 0 ∷ 0 ∷ 0 ∷ 1 ∷ 0 ∷ 1 ∷ 17 ∷ 0 ∷ 2 ∷ 0 ∷ 0 ∷ 0 ∷ 2 ∷ 0 ∷ 1 ∷ 34 ∷ 1 ∷ 0 ∷ 1 ∷ 2 ∷ 3 ∷ 4 ∷ 5 ∷ 6 ∷ 7 ∷ 8 ∷ 9 ∷ 10 ∷ 11 ∷ 12 ∷ 13 ∷ 14 ∷ 15 ∷ []
two_arms_in_sequence = refl

-- 32 bytes in place of a seal or a hash
abbrev digest : List ℕ
digest = replicate 32 9

a_target_measured : encoding (kim 258 (170 ∷ []) empty) ≡ 3 ∷ 0 ∷ 0 ∷ 1 ∷ 2 ∷ 0 ∷ 1 ∷ 170 ∷ 0 ∷ []
a_target_measured = refl

sealed : bundle (seal 2 digest (usm 1 (17 ∷ []) (nonce first_nonce))) ≡ 67 ∷ 80 ∷ 76 ∷ 66 ∷ 1 ∷ 0 ∷ 0 ∷ 0 ∷ 62 ∷ 4 ∷ 0 ∷ 0 ∷ 0 ∷ 2 ∷ (digest ++ (2 ∷ 0 ∷ 0 ∷ 0 ∷ 1 ∷ 0 ∷ 1 ∷ 17 ∷ 1 ∷ first_nonce))
sealed = refl

hashed : bundle (hash 4 digest) ≡ 67 ∷ 80 ∷ 76 ∷ 66 ∷ 1 ∷ 0 ∷ 0 ∷ 0 ∷ 37 ∷ 5 ∷ 0 ∷ 0 ∷ 0 ∷ 4 ∷ digest
hashed = refl

three_deep : nesting (seq_pair (hash 1 digest) (kim 2 [] (nonce first_nonce))) ≡ 3
three_deep = refl

answer_of_an_event : answer_at ((0, 170 ∷ []) ∷ (7, 17 ∷ []) ∷ []) 7 ≡ 17 ∷ []
answer_of_an_event = refl

events_with_an_answer : answered ((0, 170 ∷ []) ∷ (7, 17 ∷ []) ∷ []) ≡ 0 ∷ 7 ∷ []
events_with_an_answer = refl

-- a measurement that carries the mark 0, as a bundle of version 2
measured_with_a_mark : marked_bundle (usm 0 (170 ∷ 187 ∷ []) (nonce first_nonce)) (0 ∷ []) ≡ 67 ∷ 80 ∷ 76 ∷ 66 ∷ 2 ∷ 0 ∷ 0 ∷ 0 ∷ 27 ∷ 2 ∷ 0 ∷ 0 ∷ 0 ∷ 0 ∷ 0 ∷ 0 ∷ 2 ∷ 170 ∷ 187 ∷ 1 ∷ 0 ∷ 1 ∷ 2 ∷ 3 ∷ 4 ∷ 5 ∷ 6 ∷ 7 ∷ 8 ∷ 9 ∷ 10 ∷ 11 ∷ 12 ∷ 13 ∷ 14 ∷ 15 ∷ []
measured_with_a_mark = refl

-- marks are taken from the left part before the right one
marks_from_the_left : marked_encoding (seq_pair (usm 1 (17 ∷ []) (kim 2 [] empty)) (seal 4 digest (usm 3 [] empty))) (9 ∷ 8 ∷ 7 ∷ []) ≡ 6 ∷ 2 ∷ 0 ∷ 0 ∷ 0 ∷ 1 ∷ 9 ∷ 0 ∷ 1 ∷ 17 ∷ 3 ∷ 0 ∷ 0 ∷ 0 ∷ 2 ∷ 8 ∷ 0 ∷ 0 ∷ 0 ∷ 4 ∷ 0 ∷ 0 ∷ 0 ∷ 4 ∷ (digest ++ (2 ∷ 0 ∷ 0 ∷ 0 ∷ 3 ∷ 7 ∷ 0 ∷ 0 ∷ 0 ∷ []))
marks_from_the_left = refl
