-- Stores that were worked by hand: an edit of the definitions is refused here.
use Rattle.std.proofs.Common.{◌≡◌, [], ◌∷◌, true, false, refl}
use Rattle.evidence_types.specs.Evidence.{empty, nonce, usm, kim, seal, hash, seq_pair, par_pair}
use Rattle.evidence_store.specs.Kept.{value_at, measured, paired}
use Rattle.evidence_store.specs.Nodes.{empty_node, nonce_node, usm_node, kim_node, seal_node, hash_node, seq_node, par_node, values_of}

-- two nodes stand on the first, and a part that is used twice is there twice
shared : values_of (nonce_node (9 ∷ []) ∷ usm_node 0 (170 ∷ 187 ∷ []) 0 ∷ kim_node 1 [] 0 ∷ seq_node 1 2 ∷ par_node 3 3 ∷ [])
    ≡ nonce (9 ∷ []) ∷ usm 0 (170 ∷ 187 ∷ []) (nonce (9 ∷ [])) ∷ kim 1 [] (nonce (9 ∷ []))
    ∷ seq_pair (usm 0 (170 ∷ 187 ∷ []) (nonce (9 ∷ []))) (kim 1 [] (nonce (9 ∷ [])))
    ∷ par_pair (seq_pair (usm 0 (170 ∷ 187 ∷ []) (nonce (9 ∷ []))) (kim 1 [] (nonce (9 ∷ [])))) (seq_pair (usm 0 (170 ∷ 187 ∷ []) (nonce (9 ∷ []))) (kim 1 [] (nonce (9 ∷ []))))
    ∷ []
shared = refl

without_parts : values_of (empty_node ∷ hash_node 4 (1 ∷ 2 ∷ []) ∷ seal_node 5 (3 ∷ []) 1 ∷ []) ≡ empty ∷ hash 4 (1 ∷ 2 ∷ []) ∷ seal 5 (3 ∷ []) (hash 4 (1 ∷ 2 ∷ [])) ∷ []
without_parts = refl

second : value_at (empty ∷ nonce (9 ∷ []) ∷ []) 1 ≡ nonce (9 ∷ [])
second = refl

of_a_target : measured true 2 (7 ∷ []) empty ≡ kim 2 (7 ∷ []) empty
of_a_target = refl

of_the_place : measured false 2 (7 ∷ []) empty ≡ usm 2 (7 ∷ []) empty
of_the_place = refl

in_parallel : paired true empty (nonce []) ≡ par_pair empty (nonce [])
in_parallel = refl

in_sequence : paired false empty (nonce []) ≡ seq_pair empty (nonce [])
in_sequence = refl
