-- Each block that an instruction names is in the program once, where the instruction says.
use Rattle.std.proofs.Common.{◌≡◌, ◌+◌, ◌≤◌, ◌<◌, ◌++◌, ◌∙◌, Bool, true, false, cond, eqb, ℕ, List, [], ◌∷◌, refl, ap, sym, arith}
use Rattle.std.proofs.lemmas.Bool.Decides.{nat_tests}
use Rattle.std.proofs.lemmas.List.{append-nil}
use Rattle.std.specs.List.{AllByRecursion}
use Rattle.phrase_tree.specs.Term.{Term, cpy, sig, hsh, nul, usm, kim, leaf, at, chain, seq, par}
use Rattle.phrase_tree.specs.declared.phrase.Split.{Split}
use Rattle.phrase_tree.specs.Numbering.{event_count}
use Rattle.avm_code.specs.declared.instr.BlockName.{BlockName}
use Rattle.avm_code.specs.declared.instr.BlockName.TheVariants.{Root, Of}
use Rattle.avm_code.specs.declared.instr.Instr.{Instr}
use Rattle.avm_code.specs.declared.instr.Instr.TheVariants.{End}
use Rattle.avm_code.specs.declared.program.Block.{Block}
use Rattle.avm_code.specs.Blocks.{block, is_named, blocks_named, first_place, HasOne, NamesBlock}
use Rattle.avm_compile.specs.Program.{code_of, whole_code, blocks_of, program_of}
use Rattle.avm_code.specs.Order.{IsWithin, number_after, NamesRise}
use Rattle.avm_compile.specs.Laws.{NamedBlocksAreThere, HasBlocks, PhrasesHaveBlocks}
use Rattle.avm_compile.proofs.EndLaws.{both}
use Rattle.avm_compile.proofs.NameLaws.{rise_within}

added_named : (test : Bool) (one : Block) (xs ys zs : List Block) → zs ≡ xs ++ ys → cond test (one ∷ zs) zs ≡ cond test (one ∷ xs) xs ++ ys
added_named true one xs ys zs e = ap (λ l. one ∷ l) e
added_named false one xs ys zs e = e

pub named_append : (n : ℕ) (xs ys : List Block) → blocks_named n (xs ++ ys) ≡ blocks_named n xs ++ blocks_named n ys
named_append n [] ys = refl
named_append n (one ∷ xs) ys =
    added_named (is_named n one.name) one (blocks_named n xs) (blocks_named n ys) (blocks_named n (xs ++ ys)) (named_append n xs ys)

apart : (a b : ℕ) → (a ≡ b → ⊥) → eqb a b ≡ false
apart a b h = grind (arith, nat_tests)

not_named : (n : ℕ) (one : Block) (xs : List Block) → is_named n one.name ≡ false → blocks_named n (one ∷ xs) ≡ blocks_named n xs
not_named n one xs e = ap (λ b. cond b (one ∷ blocks_named n xs) (blocks_named n xs)) e

unnamed_below : (first end n : ℕ) (name : BlockName) → n < first → IsWithin first end name → is_named n name ≡ false
unnamed_below first end n Root below h = absurd h
unnamed_below first end n (Of number) below h = apart number n (λ e. omega arith)

unnamed_above : (first end n : ℕ) (name : BlockName) → end ≤ n → IsWithin first end name → is_named n name ≡ false
unnamed_above first end n Root above h = absurd h
unnamed_above first end n (Of number) above h = apart number n (λ e. omega arith)

after_first : (first end n : ℕ) (name : BlockName) → n < first → IsWithin first end name → n < number_after name
after_first first end n Root below h = absurd h
after_first first end n (Of number) below h = omega arith

pub none_below : (first end n : ℕ) (blocks : List Block) → n < first → NamesRise first end blocks → blocks_named n blocks ≡ []
none_below first end n [] below h = refl
none_below first end n (one ∷ rest) below h =
    not_named n one rest (unnamed_below first end n one.name below h.0) ∙ none_below (number_after one.name) end n rest (after_first first end n one.name below h.0) h.1

none_above : (first end n : ℕ) (blocks : List Block) → end ≤ n → NamesRise first end blocks → blocks_named n blocks ≡ []
none_above first end n [] above h = refl
none_above first end n (one ∷ rest) above h =
    not_named n one rest (unnamed_above first end n one.name above h.0) ∙ none_above (number_after one.name) end n rest above h.1

-- the numbers of a part are found among all blocks where they are found among the part's
pub record AreOf (all : List Block) (phrase : Term) (place : List ℕ) (i : ℕ) : Type 0 where
  pub found : (n : ℕ) → i ≤ n → n < i + event_count phrase → blocks_named n all ≡ blocks_named n (blocks_of phrase place i)

in_left : (n : ℕ) (left right : Term) (place : List ℕ) (i j : ℕ) → n < j → blocks_named n (blocks_of left place i ++ blocks_of right place j) ≡ blocks_named n (blocks_of left place i)
in_left n left right place i j below =
    named_append n (blocks_of left place i) (blocks_of right place j) ∙ ap (λ ys. blocks_named n (blocks_of left place i) ++ ys) (none_below j (j + event_count right) n (blocks_of right place j) below (rise_within right place j)) ∙ append-nil (blocks_named n (blocks_of left place i))

in_right : (n : ℕ) (left right : Term) (place : List ℕ) (i j : ℕ) → i + event_count left ≤ n → blocks_named n (blocks_of left place i ++ blocks_of right place j) ≡ blocks_named n (blocks_of right place j)
in_right n left right place i j above =
    named_append n (blocks_of left place i) (blocks_of right place j) ∙ ap (λ xs. xs ++ blocks_named n (blocks_of right place j)) (none_above i (i + event_count left) n (blocks_of left place i) above (rise_within left place i))

behind_first : (n i : ℕ) (place : List ℕ) (code : List Instr) (rest : List Block) → i < n → blocks_named n (block (Of i) place code ∷ rest) ≡ blocks_named n rest
behind_first n i place code rest above =
    not_named n (block (Of i) place code) rest (apart i n (λ e. omega arith))

itself : (i : ℕ) → eqb i i ≡ true
itself i = grind (arith, nat_tests)

at_first : (i end : ℕ) (place : List ℕ) (code : List Instr) (rest : List Block) → NamesRise (i + 1) end rest → blocks_named i (block (Of i) place code ∷ rest) ≡ block (Of i) place code ∷ []
at_first i end place code rest rises =
    ap (λ b. cond b (block (Of i) place code ∷ blocks_named i rest) (blocks_named i rest)) (itself i) ∙ ap (λ xs. block (Of i) place code ∷ xs) (none_below (i + 1) end i rest (omega arith) rises)

pub of_body : (all : List Block) (asked : List ℕ) (body : Term) (place : List ℕ) (i : ℕ) → AreOf all (at asked body) place i → AreOf all body asked (i + 1)
of_body all asked body place i a = record {
  found = λ n le lt. a.found n (omega arith) (omega arith) ∙ behind_first n i asked (whole_code body (i + 1)) (blocks_of body asked (i + 1)) (omega arith);
}

pub of_chain_left : (all : List Block) (left right : Term) (place : List ℕ) (i : ℕ) → AreOf all (chain left right) place i → AreOf all left place i
of_chain_left all left right place i a = record {
  found = λ n le lt. a.found n le (omega arith) ∙ in_left n left right place i (i + event_count left) lt;
}

pub of_chain_right : (all : List Block) (left right : Term) (place : List ℕ) (i : ℕ) → AreOf all (chain left right) place i → AreOf all right place (i + event_count left)
of_chain_right all left right place i a = record {
  found = λ n le lt. a.found n (omega arith) (omega arith) ∙ in_right n left right place i (i + event_count left) le;
}

pub of_seq_left : (all : List Block) (split : Split) (left right : Term) (place : List ℕ) (i : ℕ) → AreOf all (seq split left right) place i → AreOf all left place (i + 1)
of_seq_left all split left right place i a = record {
  found = λ n le lt. a.found n (omega arith) (omega arith) ∙ in_left n left right place (i + 1) (i + 1 + event_count left) lt;
}

pub of_seq_right : (all : List Block) (split : Split) (left right : Term) (place : List ℕ) (i : ℕ) → AreOf all (seq split left right) place i → AreOf all right place (i + 1 + event_count left)
of_seq_right all split left right place i a = record {
  found = λ n le lt. a.found n (omega arith) (omega arith) ∙ in_right n left right place (i + 1) (i + 1 + event_count left) le;
}

pub of_par_left : (all : List Block) (split : Split) (left right : Term) (place : List ℕ) (i : ℕ) → AreOf all (par split left right) place i → AreOf all left place (i + 1)
of_par_left all split left right place i a = record {
  found = λ n le lt. a.found n (omega arith) (omega arith) ∙ behind_first n i place (whole_code right (i + 1 + event_count left)) (blocks_of left place (i + 1) ++ blocks_of right place (i + 1 + event_count left)) (omega arith) ∙ in_left n left right place (i + 1) (i + 1 + event_count left) lt;
}

pub of_par_right : (all : List Block) (split : Split) (left right : Term) (place : List ℕ) (i : ℕ) → AreOf all (par split left right) place i → AreOf all right place (i + 1 + event_count left)
of_par_right all split left right place i a = record {
  found = λ n le lt. a.found n (omega arith) (omega arith) ∙ behind_first n i place (whole_code right (i + 1 + event_count left)) (blocks_of left place (i + 1) ++ blocks_of right place (i + 1 + event_count left)) (omega arith) ∙ in_right n left right place (i + 1) (i + 1 + event_count left) le;
}

-- the one block of a request
pub of_request : (all : List Block) (asked : List ℕ) (body : Term) (place : List ℕ) (i : ℕ) → AreOf all (at asked body) place i → blocks_named i all ≡ block (Of i) asked (whole_code body (i + 1)) ∷ []
of_request all asked body place i a =
    a.found i (omega arith) (omega arith) ∙ at_first i (i + 1 + event_count body) asked (whole_code body (i + 1)) (blocks_of body asked (i + 1)) (rise_within body asked (i + 1))

-- the one block of a right arm
pub of_arm : (all : List Block) (split : Split) (left right : Term) (place : List ℕ) (i : ℕ) → AreOf all (par split left right) place i → blocks_named i all ≡ block (Of i) place (whole_code right (i + 1 + event_count left)) ∷ []
of_arm all split left right place i a =
    let rises : NamesRise i (i + event_count (par split left right)) (blocks_of (par split left right) place i) = rise_within (par split left right) place i in
    a.found i (omega arith) (omega arith) ∙ at_first i (i + event_count (par split left right)) place (whole_code right (i + 1 + event_count left)) (blocks_of left place (i + 1) ++ blocks_of right place (i + 1 + event_count left)) rises.1

one_at : (all : List Block) (n : ℕ) (one : Block) → blocks_named n all ≡ one ∷ [] → HasOne all n one.place
one_at all n one e = record { one = one; only = e; there = refl }

one_somewhere : (all : List Block) (n : ℕ) (one : Block) → blocks_named n all ≡ one ∷ [] → HasOne all n (first_place (blocks_named n all))
one_somewhere all n one e = record { one = one; only = e; there = sym (ap first_place e) }

abbrev Names : List Block → List ℕ → List Instr → Type 0
Names all place code = AllByRecursion (NamesBlock all place) code

names_ahead : (all : List Block) (phrase : Term) (place : List ℕ) (i : ℕ) (rest : List Instr) → AreOf all phrase place i → Names all place rest → Names all place (code_of phrase i rest)
names_ahead all (leaf cpy) place i rest a h = (tt, h)
names_ahead all (leaf sig) place i rest a h = (tt, h)
names_ahead all (leaf hsh) place i rest a h = (tt, h)
names_ahead all (leaf nul) place i rest a h = (tt, h)
names_ahead all (leaf (usm asp)) place i rest a h = (tt, h)
names_ahead all (leaf (kim target asp)) place i rest a h = (tt, h)
names_ahead all (at asked body) place i rest a h =
    let e = of_request all asked body place i a in
    (one_at all i _ e, (one_somewhere all i _ e, h))
names_ahead all (chain left right) place i rest a h =
    names_ahead all left place i _ (of_chain_left all left right place i a) (names_ahead all right place (i + event_count left) rest (of_chain_right all left right place i a) h)
names_ahead all (seq split left right) place i rest a h =
    (tt, names_ahead all left place (i + 1) _ (of_seq_left all split left right place i a) (tt, names_ahead all right place (i + 1 + event_count left) _ (of_seq_right all split left right place i a) (tt, h)))
names_ahead all (par split left right) place i rest a h =
    let e = of_arm all split left right place i a in
    (one_at all i _ e, names_ahead all left place (i + 1) _ (of_par_left all split left right place i a) (one_at all i _ e, h))

abbrev BlockNames : List Block → Block → Type 0
BlockNames all one = Names all one.place one.code

whole_names : (all : List Block) (phrase : Term) (place : List ℕ) (i : ℕ) → AreOf all phrase place i → Names all place (whole_code phrase i)
whole_names all phrase place i a = names_ahead all phrase place i (End ∷ []) a (tt, tt)

blocks_name : (all : List Block) (phrase : Term) (place : List ℕ) (i : ℕ) → AreOf all phrase place i → AllByRecursion (BlockNames all) (blocks_of phrase place i)
blocks_name all (leaf form) place i a = tt
blocks_name all (at asked body) place i a =
    let b = of_body all asked body place i a in
    (whole_names all body asked (i + 1) b, blocks_name all body asked (i + 1) b)
blocks_name all (chain left right) place i a =
    both (BlockNames all) _ _ (blocks_name all left place i (of_chain_left all left right place i a)) (blocks_name all right place (i + event_count left) (of_chain_right all left right place i a))
blocks_name all (seq split left right) place i a =
    both (BlockNames all) _ _ (blocks_name all left place (i + 1) (of_seq_left all split left right place i a)) (blocks_name all right place (i + 1 + event_count left) (of_seq_right all split left right place i a))
blocks_name all (par split left right) place i a =
    let r = of_par_right all split left right place i a in
    (whole_names all right place (i + 1 + event_count left) r, both (BlockNames all) _ _ (blocks_name all left place (i + 1) (of_par_left all split left right place i a)) (blocks_name all right place (i + 1 + event_count left) r))

-- the root block has no number, so all numbers are found among the blocks behind it
pub of_program : (phrase : Term) (place : List ℕ) → AreOf (program_of phrase place) phrase place 0
of_program phrase place = record { found = λ n le lt. refl }

pub named_blocks_are_there : NamedBlocksAreThere
named_blocks_are_there phrase place =
    let a = of_program phrase place in
    (whole_names (program_of phrase place) phrase place 0 a, blocks_name (program_of phrase place) phrase place 0 a)

has_blocks : (all : List Block) (phrase : Term) (place : List ℕ) (i : ℕ) → AreOf all phrase place i → HasBlocks all phrase place i
has_blocks all (leaf form) place i a = tt
has_blocks all (at asked body) place i a =
    (of_request all asked body place i a, has_blocks all body asked (i + 1) (of_body all asked body place i a))
has_blocks all (chain left right) place i a =
    (has_blocks all left place i (of_chain_left all left right place i a), has_blocks all right place (i + event_count left) (of_chain_right all left right place i a))
has_blocks all (seq split left right) place i a =
    (has_blocks all left place (i + 1) (of_seq_left all split left right place i a), has_blocks all right place (i + 1 + event_count left) (of_seq_right all split left right place i a))
has_blocks all (par split left right) place i a =
    (of_arm all split left right place i a, has_blocks all left place (i + 1) (of_par_left all split left right place i a), has_blocks all right place (i + 1 + event_count left) (of_par_right all split left right place i a))

pub phrases_have_blocks : PhrasesHaveBlocks
phrases_have_blocks phrase place = has_blocks (program_of phrase place) phrase place 0 (of_program phrase place)
