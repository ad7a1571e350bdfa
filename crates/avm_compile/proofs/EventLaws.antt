-- The instructions of a program make the events of its phrase, each once.
use Rattle.std.proofs.Common.{◌≡◌, ◌+◌, ◌<◌, ◌++◌, Bool, cond, eqb, ltb, ℕ, List, [], ◌∷◌, refl, ap, arith}
use Rattle.std.proofs.lemmas.Bool.Decides.{nat_tests}
use Rattle.std.proofs.lemmas.List.Sums.{sum_by-append}
use Rattle.std.specs.List.{count_by}
use Rattle.std.specs.Prelude.{nat_eq}
use Rattle.phrase_tree.specs.Term.{Term, Leaf, cpy, sig, hsh, nul, usm, kim, leaf, at, chain, seq, par}
use Rattle.phrase_tree.specs.Numbering.{event_count}
use Rattle.phrase_tree.specs.Events.{Event, Kind, event, events_of, requests, replies, splits, joins, leaf_kind}
use Rattle.avm_code.specs.declared.instr.Instr.{Instr}
use Rattle.avm_code.specs.declared.instr.Instr.TheVariants.{Split, Swap, JoinSeq, Send, Recv, Fork, JoinPar, End}
use Rattle.avm_code.specs.declared.instr.BlockName.TheVariants.{Root, Of}
use Rattle.avm_code.specs.declared.program.Block.{Block}
use Rattle.avm_code.specs.Blocks.{block, first_place, place_named}
use Rattle.avm_code.specs.Made.{made_by, made_in, made_by_blocks, made_by_program}
use Rattle.avm_compile.specs.Program.{last_of_request, last_of_branch, leaf_instr, code_of, whole_code, blocks_of, program_of}
use Rattle.avm_compile.specs.Laws.{MakesTheEvents, MakesEachEventOnce}
use Rattle.avm_compile.proofs.BlockLaws.{AreOf, of_body, of_chain_left, of_chain_right, of_seq_left, of_seq_right, of_par_left, of_par_right, of_request, of_program}

-- how many events pass a test, by recursion over the list
unfoldable pub tally : (Event → Bool) → List Event → ℕ
tally test [] = 0
tally test (one ∷ rest) = cond (test one) 1 0 + tally test rest

pub tally_is : (test : Event → Bool) (events : List Event) → count_by test events ≡ tally test events
unfolding tally
tally_is test [] = refl
tally_is test (one ∷ rest) =
    let apart : count_by test ((one ∷ []) ++ rest) ≡ count_by test (one ∷ []) + count_by test rest = sum_by-append (λ x. cond (test x) 1 0) (one ∷ []) rest in
    omega (arith, apart, tally_is test rest)

tally_none : (test : Event → Bool) → tally test [] ≡ 0
unfolding tally
tally_none test = refl

tally_append : (test : Event → Bool) (xs ys : List Event) → tally test (xs ++ ys) ≡ tally test xs + tally test ys
unfolding tally
tally_append test [] ys = omega arith
tally_append test (one ∷ xs) ys = omega (arith, tally_append test xs ys)

tally_around : (test : Event → Bool) (first last : Event) (inside : List Event) → tally test (first ∷ (inside ++ last ∷ [])) ≡ tally test (first ∷ []) + tally test inside + tally test (last ∷ [])
tally_around test first last inside =
    omega (arith, tally_append test (first ∷ []) (inside ++ last ∷ []), tally_append test inside (last ∷ []))

-- how many of the events that code makes, and that blocks make, pass a test
in_code : (ℕ → List ℕ) → (Event → Bool) → List ℕ → List Instr → ℕ
in_code places test place code = tally test (made_in places place code)

in_blocks : (ℕ → List ℕ) → (Event → Bool) → List Block → ℕ
in_blocks places test blocks = tally test (made_by_blocks places blocks)

code_first : (places : ℕ → List ℕ) (test : Event → Bool) (place : List ℕ) (first : Instr) (rest : List Instr) → in_code places test place (first ∷ rest) ≡ tally test (made_by places place first) + in_code places test place rest
unfolding in_code
code_first places test place first rest =
    tally_append test (made_by places place first) (made_in places place rest)

code_end : (places : ℕ → List ℕ) (test : Event → Bool) (place : List ℕ) → in_code places test place (End ∷ []) ≡ 0
unfolding in_code
code_end places test place = tally_none test

blocks_none : (places : ℕ → List ℕ) (test : Event → Bool) → in_blocks places test [] ≡ 0
unfolding in_blocks
blocks_none places test = tally_none test

first_block : (places : ℕ → List ℕ) (test : Event → Bool) (one : Block) (rest : List Block) → in_blocks places test (one ∷ rest) ≡ in_code places test one.place one.code + in_blocks places test rest
unfolding in_blocks in_code
first_block places test one rest =
    tally_append test (made_in places one.place one.code) (made_by_blocks places rest)

in_both : (places : ℕ → List ℕ) (test : Event → Bool) (xs ys : List Block) → in_blocks places test (xs ++ ys) ≡ in_blocks places test xs + in_blocks places test ys
in_both places test [] ys = omega (arith, blocks_none places test)
in_both places test (one ∷ xs) ys =
    omega (arith, in_both places test xs ys, first_block places test one (xs ++ ys), first_block places test one xs)

replied : (all : List Block) (asked : List ℕ) (body : Term) (place : List ℕ) (i : ℕ) → AreOf all (at asked body) place i → place_named all i ≡ asked
replied all asked body place i a = ap first_place (of_request all asked body place i a)

-- the instruction of a leaf makes its one event
leaf_made : (places : ℕ → List ℕ) (form : Leaf) (place : List ℕ) (i : ℕ) → made_by places place (leaf_instr form i) ≡ event i (leaf_kind form) place ∷ []
leaf_made places cpy place i = refl
leaf_made places sig place i = refl
leaf_made places hsh place i = refl
leaf_made places nul place i = refl
leaf_made places (usm asp) place i = refl
leaf_made places (kim target asp) place i = refl

-- what a part's code and its blocks make is what the part has, beside what the code behind it makes
makes_ahead : (all : List Block) (test : Event → Bool) (phrase : Term) (place : List ℕ) (i : ℕ) (rest : List Instr) → AreOf all phrase place i → in_code (place_named all) test place (code_of phrase i rest) + in_blocks (place_named all) test (blocks_of phrase place i) ≡ tally test (events_of phrase place i) + in_code (place_named all) test place rest
makes_ahead all test (leaf form) place i rest a =
    omega (arith, ap (tally test) (leaf_made (place_named all) form place i), code_first (place_named all) test place (leaf_instr form i) rest, blocks_none (place_named all) test)
makes_ahead all test (at asked body) place i rest a =
    let places = place_named all in
    let last = last_of_request body i in
    let same : tally test (event last (replies (places i)) place ∷ []) ≡ tally test (event last (replies asked) place ∷ []) = ap (λ q. tally test (event last (replies q) place ∷ [])) (replied all asked body place i a) in
    omega (arith, same, code_first places test place (Send i asked) (Recv last i ∷ rest), code_first places test place (Recv last i) rest, first_block places test (block (Of i) asked (whole_code body (i + 1))) (blocks_of body asked (i + 1)), makes_ahead all test body asked (i + 1) (End ∷ []) (of_body all asked body place i a), code_end places test asked, tally_around test (event i (requests asked) place) (event last (replies asked) place) (events_of body asked (i + 1)))
makes_ahead all test (chain left right) place i rest a =
    let places = place_named all in
    omega (arith, makes_ahead all test left place i (code_of right (i + event_count left) rest) (of_chain_left all left right place i a), makes_ahead all test right place (i + event_count left) rest (of_chain_right all left right place i a), in_both places test (blocks_of left place i) (blocks_of right place (i + event_count left)), tally_append test (events_of left place i) (events_of right place (i + event_count left)))
makes_ahead all test (seq split left right) place i rest a =
    let places = place_named all in
    let last = last_of_branch left right i in
    let behind = code_of right (i + 1 + event_count left) (JoinSeq last ∷ rest) in
    omega (arith, code_first places test place (Split i split) (code_of left (i + 1) (Swap ∷ behind)), makes_ahead all test left place (i + 1) (Swap ∷ behind) (of_seq_left all split left right place i a), code_first places test place Swap behind, tally_none test, makes_ahead all test right place (i + 1 + event_count left) (JoinSeq last ∷ rest) (of_seq_right all split left right place i a), code_first places test place (JoinSeq last) rest, in_both places test (blocks_of left place (i + 1)) (blocks_of right place (i + 1 + event_count left)), tally_around test (event i splits place) (event last joins place) (events_of left place (i + 1) ++ events_of right place (i + 1 + event_count left)), tally_append test (events_of left place (i + 1)) (events_of right place (i + 1 + event_count left)))
makes_ahead all test (par split left right) place i rest a =
    let places = place_named all in
    let last = last_of_branch left right i in
    let inside = blocks_of left place (i + 1) ++ blocks_of right place (i + 1 + event_count left) in
    omega (arith, code_first places test place (Fork i split) (code_of left (i + 1) (JoinPar last i ∷ rest)), makes_ahead all test left place (i + 1) (JoinPar last i ∷ rest) (of_par_left all split left right place i a), code_first places test place (JoinPar last i) rest, first_block places test (block (Of i) place (whole_code right (i + 1 + event_count left))) inside, in_both places test (blocks_of left place (i + 1)) (blocks_of right place (i + 1 + event_count left)), makes_ahead all test right place (i + 1 + event_count left) (End ∷ []) (of_par_right all split left right place i a), code_end places test place, tally_around test (event i splits place) (event last joins place) (events_of left place (i + 1) ++ events_of right place (i + 1 + event_count left)), tally_append test (events_of left place (i + 1)) (events_of right place (i + 1 + event_count left)))

made : (test : Event → Bool) (blocks : List Block) → tally test (made_by_program blocks) ≡ in_blocks (place_named blocks) test blocks
unfolding in_blocks
made test blocks = refl

pub makes_the_events : MakesTheEvents
makes_the_events phrase place test =
    let all = program_of phrase place in
    omega (arith, tally_is test (made_by_program all), tally_is test (events_of phrase place 0), made test all, first_block (place_named all) test (block Root place (whole_code phrase 0)) (blocks_of phrase place 0), makes_ahead all test phrase place 0 (End ∷ []) (of_program phrase place), code_end (place_named all) test place)

abbrev has : ℕ → Event → Bool
has n one = nat_eq one.number n

-- whether a number is below another, as a number
below : ℕ → ℕ → ℕ
below n k = cond (ltb n k) 1 0

one_more : (n i : ℕ) → cond (eqb i n) 1 0 + 0 + cond (ltb n i) 1 0 ≡ cond (ltb n (i + 1)) 1 0
one_more n i = grind (arith, nat_tests)

one_number : (n i : ℕ) (kind : Kind) (place : List ℕ) → tally (has n) (event i kind place ∷ []) + below n i ≡ below n (i + 1)
unfolding tally below
one_number n i kind place = one_more n i

-- the two arms of a branch between its split and its join
in_branch : (n : ℕ) (left right : Term) (place : List ℕ) (i : ℕ) → tally (has n) (events_of left place (i + 1)) + below n (i + 1) ≡ below n (i + 1 + event_count left) → tally (has n) (events_of right place (i + 1 + event_count left)) + below n (i + 1 + event_count left) ≡ below n (i + 1 + event_count left + event_count right) → tally (has n) (event i splits place ∷ (events_of left place (i + 1) ++ events_of right place (i + 1 + event_count left) ++ event (last_of_branch left right i) joins place ∷ [])) + below n i ≡ below n (i + (2 + event_count left + event_count right))
in_branch n left right place i l r =
    let last = last_of_branch left right i in
    let same : last + 1 ≡ i + (2 + event_count left + event_count right) = omega arith in
    omega (arith, ap (below n) same, one_number n i splits place, one_number n last joins place, tally_around (has n) (event i splits place) (event last joins place) (events_of left place (i + 1) ++ events_of right place (i + 1 + event_count left)), tally_append (has n) (events_of left place (i + 1)) (events_of right place (i + 1 + event_count left)))

-- the numbers of a part's events are those from its first on, each once
numbered : (n : ℕ) (phrase : Term) (place : List ℕ) (i : ℕ) → tally (has n) (events_of phrase place i) + below n i ≡ below n (i + event_count phrase)
numbered n (leaf form) place i = one_number n i (leaf_kind form) place
numbered n (at asked body) place i =
    let last = last_of_request body i in
    let same : last + 1 ≡ i + (2 + event_count body) = omega arith in
    omega (arith, ap (below n) same, one_number n i (requests asked) place, numbered n body asked (i + 1), one_number n last (replies asked) place, tally_around (has n) (event i (requests asked) place) (event last (replies asked) place) (events_of body asked (i + 1)))
numbered n (chain left right) place i =
    let same : i + event_count left + event_count right ≡ i + (event_count left + event_count right) = omega arith in
    omega (arith, ap (below n) same, numbered n left place i, numbered n right place (i + event_count left), tally_append (has n) (events_of left place i) (events_of right place (i + event_count left)))
numbered n (seq split left right) place i = in_branch n left right place i (numbered n left place (i + 1)) (numbered n right place (i + 1 + event_count left))
numbered n (par split left right) place i = in_branch n left right place i (numbered n left place (i + 1)) (numbered n right place (i + 1 + event_count left))

below_itself : (n k : ℕ) → n < k → cond {A = ℕ} (ltb n k) 1 0 ≡ 1
below_itself n k h = grind (arith, nat_tests)

none_below_zero : (n : ℕ) → cond {A = ℕ} (ltb n 0) 1 0 ≡ 0
none_below_zero n = grind (arith, nat_tests)

there : (n k : ℕ) → n < k → below n (0 + k) ≡ 1
unfolding below
there n k h = let e : 0 + k ≡ k = omega arith in rw e (below_itself n k h)

not_yet : (n : ℕ) → below n 0 ≡ 0
unfolding below
not_yet n = none_below_zero n

pub makes_each_event_once : MakesEachEventOnce
makes_each_event_once phrase place n inside =
    omega (arith, makes_the_events phrase place (has n), tally_is (has n) (events_of phrase place 0), numbered n phrase place 0, there n (event_count phrase) inside, not_yet n)
