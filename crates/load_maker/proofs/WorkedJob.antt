-- Parts of made jobs that were worked by another program: an edit of the definitions is refused here.
use Rattle.std.proofs.Common.{◌≡◌, ℕ, [], ◌∷◌, Some, true, false, refl}
use Rattle.std.specs.Prelude.{codes}
use Rattle.phrase_tree.specs.Term.{Term, hsh, sig, usm, kim, leaf, at, chain, seq, par}
use Rattle.load_maker.specs.Artefacts.{drawn_bytes}
use Rattle.load_maker.specs.Made.{listed, made}
use Rattle.load_maker.specs.Names.{asp_name, place_name, plain_asp}
use Rattle.load_maker.specs.Phrases.{drawn_phrase, signs}
use Rattle.load_maker.specs.Places.{key_bytes}
use Rattle.load_maker.specs.Sessions.{made_nonce}

the_last_place : place_name 7 ≡ codes "p7"
the_last_place = refl

the_first_measurement : asp_name 0 ≡ codes "a0"
the_first_measurement = refl

the_first_bytes_of_job_7 : (drawn_bytes 4 (Some 7)).thing ≡ 32 ∷ 218 ∷ 204 ∷ 78 ∷ []
unfolding drawn_bytes
the_first_bytes_of_job_7 = refl

the_key_of_place_1 : key_bytes 1 ≡ 16 ∷ 17 ∷ 18 ∷ 19 ∷ 20 ∷ 21 ∷ 22 ∷ 23 ∷ 24 ∷ 25 ∷ 26 ∷ 27 ∷ 28 ∷ 29 ∷ 30 ∷ 31 ∷ 32 ∷ 33 ∷ 34 ∷ 35 ∷ 36 ∷ 37 ∷ 38 ∷ 39 ∷ 40 ∷ 41 ∷ 42 ∷ 43 ∷ 44 ∷ 45 ∷ 46 ∷ 47 ∷ []
unfolding key_bytes listed
the_key_of_place_1 = refl

the_nonce_of_a_last_session : made_nonce 7 255 ≡ 0 ∷ 0 ∷ 0 ∷ 0 ∷ 0 ∷ 0 ∷ 0 ∷ 7 ∷ 0 ∷ 0 ∷ 0 ∷ 0 ∷ 0 ∷ 0 ∷ 0 ∷ 255 ∷ []
the_nonce_of_a_last_session = refl

-- a measurement of a drawn phrase
abbrev own : ℕ → Term
own asp = leaf (usm (plain_asp asp))

abbrev of : ℕ → ℕ → Term
of target asp = leaf (kim (place_name target) (plain_asp asp))

a_chain : drawn_phrase 1 (Some 7) ≡ made (chain (own 4) (own 1)) (Some 211918734)
unfolding drawn_phrase
a_chain = refl

a_request : drawn_phrase 1 (Some 3) ≡ made (at (place_name 1) (own 7)) (Some 3345418727)
unfolding drawn_phrase
a_request = refl

a_sequential_branch : drawn_phrase 1 (Some 4) ≡ made (seq (signs true false) (of 0 1) (own 0)) (Some 291516865)
unfolding drawn_phrase
a_sequential_branch = refl

a_branch_without_signs : drawn_phrase 1 (Some 8) ≡ made (seq (signs false false) (of 0 7) (own 1)) (Some 3401709397)
unfolding drawn_phrase
a_branch_without_signs = refl

a_parallel_branch : drawn_phrase 1 (Some 39) ≡ made (par (signs false true) (of 3 2) (of 7 0)) (Some 1589142703)
unfolding drawn_phrase
a_parallel_branch = refl

a_seal : drawn_phrase 1 (Some 1) ≡ made (chain (own 6) (leaf sig)) (Some 2165703038)
unfolding drawn_phrase
a_seal = refl

a_hash : drawn_phrase 1 (Some 2) ≡ made (chain (own 7) (leaf hsh)) (Some 811535379)
unfolding drawn_phrase
a_hash = refl
