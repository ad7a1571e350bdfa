-- Listings that were made outside this project, by hand from the format: an edit of the definitions is refused here.
use Rattle.std.proofs.Common.{◌≡◌, ℕ, List, [], ◌∷◌, true, false, refl}
use Rattle.std.specs.Prelude.{codes}
use Rattle.std.specs.Fmt.{digits}
use Rattle.phrase_tree.specs.declared.measurement.Arg.TheVariants.{Word, Number}
use Rattle.phrase_tree.specs.declared.measurement.Asp.{Asp}
use Rattle.avm_code.specs.declared.instr.BlockName.TheVariants.{Root, Of}
use Rattle.avm_code.specs.declared.instr.Instr.TheVariants.{Copy, Usm, Kim, Sign, Hash, Split, Swap, JoinSeq, Send, Recv, Fork, JoinPar, End}
use Rattle.avm_code.specs.Blocks.{block}
use Rattle.avm_code.specs.Listing.{listing_text, code_text}

abbrev plain : List ℕ → Asp
plain name = record { name = name; args = [] }

a_request : listing_text (block Root (codes "bank") (Send 0 (codes "q") ∷ Recv 3 0 ∷ End ∷ []) ∷ block (Of 0) (codes "q") (Usm 1 (plain (codes "scan")) ∷ Sign 2 ∷ End ∷ []) ∷ []) ≡ codes "block root at bank\nsend 0 q\nrecv 3 0\nend\nblock 0 at q\nusm 1 scan\nsign 2\nend\n"
unfolding digits
a_request = refl

two_arms_in_parallel : listing_text (block Root (codes "bank") (Fork 0 (record { left = true; right = false }) ∷ Usm 1 (plain (codes "a")) ∷ JoinPar 3 0 ∷ End ∷ []) ∷ block (Of 0) (codes "bank") (Usm 2 (plain (codes "b")) ∷ End ∷ []) ∷ []) ≡ codes "block root at bank\nfork 0 +-\nusm 1 a\njoinpar 3 0\nend\nblock 0 at bank\nusm 2 b\nend\n"
unfolding digits
two_arms_in_parallel = refl

two_arms_in_sequence : listing_text (block Root (codes "bank") (Split 0 (record { left = false; right = true }) ∷ Usm 1 (plain (codes "a")) ∷ Swap ∷ Usm 2 (plain (codes "b")) ∷ JoinSeq 3 ∷ End ∷ []) ∷ []) ≡ codes "block root at bank\nsplit 0 -+\nusm 1 a\nswap\nusm 2 b\njoinseq 3\nend\n"
unfolding digits
two_arms_in_sequence = refl

the_other_leaves : code_text (Copy 0 ∷ Kim 10 (codes "us") (record { name = codes "files"; args = Word (codes "etc") ∷ Number 4294967295 ∷ [] }) ∷ Hash 205 ∷ []) ≡ codes "copy 0\nkim 10 us files etc 4294967295\nhash 205\n"
unfolding digits
the_other_leaves = refl
