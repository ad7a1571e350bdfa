-- The blocks that places are asked to run are those of the phrase's requests.
use Rattle.std.proofs.Common.{◌≡◌, ◌+◌, ◌++◌, ◌∙◌, ◌||◌, Bool, true, false, cond, ltb, ℕ, List, [], ◌∷◌, refl, ap, sym, arith}
use Rattle.std.proofs.lemmas.Bool.Decides.{nat_tests}
use Rattle.std.proofs.lemmas.List.Folds.{list_any-append}
use Rattle.std.specs.List.{list_any}
use Rattle.phrase_tree.specs.Events.{Event, events_of}
use Rattle.avm_code.specs.declared.instr.Instr.{Instr}
use Rattle.avm_code.specs.declared.instr.Instr.TheVariants.{Send}
use Rattle.avm_code.specs.declared.program.Block.{Block}
use Rattle.avm_code.specs.Blocks.{asks_for, is_remote, place_named}
use Rattle.avm_code.specs.Made.{made_by, made_in, made_by_blocks, made_by_program}
use Rattle.avm_compile.specs.Program.{program_of}
use Rattle.avm_compile.specs.Laws.{is_request, RemoteBlocksAreRequests}
use Rattle.avm_compile.proofs.EventLaws.{tally, tally_is, makes_the_events}

one_of_both : (b : Bool) (n : ℕ) → (b || ltb 0 n) ≡ ltb 0 (cond b 1 0 + n)
one_of_both true n = let lt : ltb 0 (1 + n) ≡ true = grind (arith, nat_tests) in sym lt
one_of_both false n = let same : 0 + n ≡ n = omega arith in sym (ap (ltb 0) same)

-- some event passes a test where more than none do
any_is : (test : Event → Bool) (events : List Event) → list_any test events ≡ ltb 0 (tally test events)
unfolding tally
any_is test [] = refl
any_is test (one ∷ rest) = ap (λ b. test one || b) (any_is test rest) ∙ one_of_both (test one) (tally test rest)

made_first : (places : ℕ → List ℕ) (place : List ℕ) (n : ℕ) (first : Instr) (more : List Event) → (asks_for n first || list_any (is_request n) more) ≡ list_any (is_request n) (made_by places place first ++ more)
made_first places place n (Send event asked) more = refl
made_first places place n _ more = refl

in_code : (places : ℕ → List ℕ) (place : List ℕ) (n : ℕ) (code : List Instr) → list_any (asks_for n) code ≡ list_any (is_request n) (made_in places place code)
in_code places place n [] = refl
in_code places place n (first ∷ rest) =
    ap (λ b. asks_for n first || b) (in_code places place n rest) ∙ made_first places place n first (made_in places place rest)

in_blocks : (places : ℕ → List ℕ) (n : ℕ) (blocks : List Block) → is_remote blocks n ≡ list_any (is_request n) (made_by_blocks places blocks)
in_blocks places n [] = refl
in_blocks places n (one ∷ rest) =
    ap (λ b. list_any (asks_for n) one.code || b) (in_blocks places n rest) ∙ ap (λ b. b || list_any (is_request n) (made_by_blocks places rest)) (in_code places one.place n one.code) ∙ sym (list_any-append (is_request n) (made_in places one.place one.code) (made_by_blocks places rest))

pub remote_blocks_are_requests : RemoteBlocksAreRequests
remote_blocks_are_requests phrase place n =
    let all = program_of phrase place in
    let same : tally (is_request n) (made_by_program all) ≡ tally (is_request n) (events_of phrase place 0) = sym (tally_is (is_request n) (made_by_program all)) ∙ makes_the_events phrase place (is_request n) ∙ tally_is (is_request n) (events_of phrase place 0) in
    in_blocks (place_named all) n all ∙ any_is (is_request n) (made_by_program all) ∙ ap (ltb 0) same ∙ sym (any_is (is_request n) (events_of phrase place 0))
