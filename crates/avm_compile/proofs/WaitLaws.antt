-- Each block but the root's is awaited by exactly one instruction.
use Rattle.std.proofs.Common.{◌≡◌, ◌+◌, ◌≤◌, ◌<◌, ◌++◌, ◌∙◌, ◌||◌, Bool, true, false, cond, eqb, ℕ, List, [], ◌∷◌, length, length-append, refl, ap, arith}
use Rattle.std.proofs.lemmas.Bool.Decides.{nat_tests}
use Rattle.std.specs.List.{AllByRecursion, list_any}
use Rattle.phrase_tree.specs.Term.{Term, Leaf, cpy, sig, hsh, nul, usm, kim, leaf, at, chain, seq, par}
use Rattle.phrase_tree.specs.Numbering.{event_count}
use Rattle.avm_code.specs.declared.instr.BlockName.{BlockName}
use Rattle.avm_code.specs.declared.instr.BlockName.TheVariants.{Root, Of}
use Rattle.avm_code.specs.declared.instr.Instr.{Instr}
use Rattle.avm_code.specs.declared.instr.Instr.TheVariants.{Recv, JoinPar, Swap, JoinSeq, End}
use Rattle.avm_code.specs.declared.program.Block.{Block}
use Rattle.avm_code.specs.Blocks.{block, is_named, blocks_named, awaits, waits_in, waits_among, waiting_for, WaitsAs}
use Rattle.avm_code.specs.Order.{number_after, NamesRise}
use Rattle.avm_compile.specs.Program.{last_of_branch, leaf_instr, code_of, whole_code, blocks_of, program_of}
use Rattle.avm_compile.specs.Laws.{EachBlockIsAwaitedOnce, NamesAreUnlike, WaitingBlocksAreKnown}
use Rattle.avm_compile.proofs.BlockLaws.{named_append, none_below}
use Rattle.avm_compile.proofs.NameLaws.{rise_within}

-- ---- as many wait as there are blocks

leaf_waits : (n : ℕ) (form : Leaf) (i : ℕ) → awaits n (leaf_instr form i) ≡ false
leaf_waits n cpy i = refl
leaf_waits n sig i = refl
leaf_waits n hsh i = refl
leaf_waits n nul i = refl
leaf_waits n (usm asp) i = refl
leaf_waits n (kim target asp) i = refl

-- one block more, of this number or of another
one_more : (b : Bool) (one : Block) (xs : List Block) → length (cond b (one ∷ xs) xs) ≡ cond {A = ℕ} b 1 0 + length xs
one_more true one xs = omega arith
one_more false one xs = omega arith

waits_append : (n : ℕ) (xs ys : List Block) → waits_among n (xs ++ ys) ≡ waits_among n xs + waits_among n ys
waits_append n [] ys = omega arith
waits_append n (one ∷ xs) ys = let h = waits_append n xs ys in omega arith

count_append : (n : ℕ) (xs ys : List Block) → length (blocks_named n (xs ++ ys)) ≡ length (blocks_named n xs) + length (blocks_named n ys)
count_append n xs ys = ap length (named_append n xs ys) ∙ length-append (blocks_named n xs) (blocks_named n ys)

waits_ahead : (n : ℕ) (phrase : Term) (place : List ℕ) (i : ℕ) (rest : List Instr) → waits_in n (code_of phrase i rest) + waits_among n (blocks_of phrase place i) ≡ length (blocks_named n (blocks_of phrase place i)) + waits_in n rest
waits_ahead n (leaf form) place i rest =
    omega (arith, ap (λ b. cond {A = ℕ} b 1 0) (leaf_waits n form i))
waits_ahead n (at asked body) place i rest =
    omega (arith, one_more (eqb i n) (block (Of i) asked (whole_code body (i + 1))) (blocks_named n (blocks_of body asked (i + 1))), waits_ahead n body asked (i + 1) (End ∷ []))
waits_ahead n (chain left right) place i rest =
    let j = i + event_count left in
    omega (arith, waits_append n (blocks_of left place i) (blocks_of right place j), count_append n (blocks_of left place i) (blocks_of right place j), waits_ahead n left place i (code_of right j rest), waits_ahead n right place j rest)
waits_ahead n (seq split left right) place i rest =
    let j = i + 1 + event_count left in
    let last = last_of_branch left right i in
    omega (arith, waits_append n (blocks_of left place (i + 1)) (blocks_of right place j), count_append n (blocks_of left place (i + 1)) (blocks_of right place j), waits_ahead n left place (i + 1) (Swap ∷ code_of right j (JoinSeq last ∷ rest)), waits_ahead n right place j (JoinSeq last ∷ rest))
waits_ahead n (par split left right) place i rest =
    let j = i + 1 + event_count left in
    let last = last_of_branch left right i in
    let inside = blocks_of left place (i + 1) ++ blocks_of right place j in
    omega (arith, one_more (eqb i n) (block (Of i) place (whole_code right j)) (blocks_named n inside), waits_append n (blocks_of left place (i + 1)) (blocks_of right place j), count_append n (blocks_of left place (i + 1)) (blocks_of right place j), waits_ahead n left place (i + 1) (JoinPar last i ∷ rest), waits_ahead n right place j (End ∷ []))

pub awaited_once : EachBlockIsAwaitedOnce
awaited_once phrase place n = omega (arith, waits_ahead n phrase place 0 (End ∷ []))

-- ---- no number twice

is_rank : (n : ℕ) (name : BlockName) → is_named n name ≡ true → number_after name ≡ n + 1
is_rank n Root e = cc
is_rank n (Of number) e = let same : number ≡ n = grind (arith, nat_tests) in ap (λ (k : ℕ). k + 1) same

at_most_one : (first end n : ℕ) (blocks : List Block) → NamesRise first end blocks → length (blocks_named n blocks) ≤ 1
at_most_one first end n [] h = omega arith
at_most_one first end n (one ∷ rest) h = by_first (is_named n one.name) refl (at_most_one (number_after one.name) end n rest h.1)
  where
    by_first : (b : Bool) → is_named n one.name ≡ b → length (blocks_named n rest) ≤ 1 → length (cond b (one ∷ blocks_named n rest) (blocks_named n rest)) ≤ 1
    by_first true e few =
        let none : blocks_named n rest ≡ [] = none_below (number_after one.name) end n rest (let k = is_rank n one.name e in omega arith) h.1 in
        let zero_of : length (blocks_named n rest) ≡ 0 = ap length none in
        omega arith
    by_first false e few = few

pub names_are_unlike : NamesAreUnlike
names_are_unlike phrase place n = at_most_one 0 (0 + event_count phrase) n (blocks_of phrase place 0) (rise_within phrase place 0)

-- ---- which block waits

either : (b r : Bool) (k : ℕ) → 1 ≤ cond {A = ℕ} b 1 0 + k → (1 ≤ k → r ≡ true) → (b || r) ≡ true
either true r k h more = refl
either false r k h more = more (omega arith)

neither : (b r : Bool) (k : ℕ) → cond {A = ℕ} b 1 0 + k ≡ 0 → (k ≡ 0 → r ≡ false) → (b || r) ≡ false
neither true r k h more = absurd (omega arith)
neither false r k h more = more (omega arith)

some_waits : (n : ℕ) (code : List Instr) → 1 ≤ waits_in n code → list_any (awaits n) code ≡ true
some_waits n [] h = absurd (omega arith)
some_waits n (first ∷ rest) h = either (awaits n first) (list_any (awaits n) rest) (waits_in n rest) h (some_waits n rest)

none_waits : (n : ℕ) (code : List Instr) → waits_in n code ≡ 0 → list_any (awaits n) code ≡ false
none_waits n [] h = refl
none_waits n (first ∷ rest) h = neither (awaits n first) (list_any (awaits n) rest) (waits_in n rest) h (none_waits n rest)

itself : (n : ℕ) → eqb n n ≡ true
itself n = grind (arith, nat_tests)

-- where an instruction waits, one more does
one_waits : (n : ℕ) (b : Bool) (k : ℕ) → b ≡ true → 1 ≤ cond {A = ℕ} b 1 0 + k
one_waits n true k e = omega arith
one_waits n false k e = cc

first_known : (all : List Block) (name : BlockName) (first : Instr) (rest : List Instr) → ((n : ℕ) → 1 ≤ waits_in n (first ∷ rest) → waiting_for n all ≡ name) → WaitsAs all name first
first_known all name (Recv event n) rest h = h n (one_waits n (eqb n n) (waits_in n rest) (itself n))
first_known all name (JoinPar event n) rest h = h n (one_waits n (eqb n n) (waits_in n rest) (itself n))
first_known all name _ rest h = tt

code_known : (all : List Block) (name : BlockName) (code : List Instr) → ((n : ℕ) → 1 ≤ waits_in n code → waiting_for n all ≡ name) → AllByRecursion (WaitsAs all name) code
code_known all name [] h = tt
code_known all name (first ∷ rest) h =
    (first_known all name first rest h, code_known all name rest (λ n later. h n (omega arith)))

blocks_known : (all blocks : List Block) → ((n : ℕ) → waits_among n blocks ≤ 1) → ((n : ℕ) → 1 ≤ waits_among n blocks → waiting_for n all ≡ waiting_for n blocks) → AllByRecursion (λ one. AllByRecursion (WaitsAs all one.name) one.code) blocks
blocks_known all [] few same = tt
blocks_known all (one ∷ rest) few same = (
  code_known all one.name one.code (λ n here. same n (omega arith) ∙ ap (λ b. cond b one.name (waiting_for n rest)) (some_waits n one.code here)),
  blocks_known all rest (λ n. let h = few n in omega arith) (λ n later.
      let h = few n in
      let none : waits_in n one.code ≡ 0 = omega arith in
      same n (omega arith) ∙ ap (λ b. cond b one.name (waiting_for n rest)) (none_waits n one.code none)),
)

pub waiting_blocks_are_known : WaitingBlocksAreKnown
waiting_blocks_are_known phrase place =
    blocks_known (program_of phrase place) (program_of phrase place) (λ n. omega (arith, awaited_once phrase place n, names_are_unlike phrase place n)) (λ n h. refl)
