-- A block that was opened ahead of the blocks inside it is filled in its place.
use Rattle.std.proofs.Common.{◌≡◌, ◌+◌, ◌++◌, ◌∙◌, ℕ, List, [], ◌∷◌, length, set, ap, sym, append_assoc}
use Rattle.std.proofs.lemmas.List.{set_at}
use Rattle.phrase_tree.specs.Term.{Term, term}
use Rattle.phrase_tree.specs.Numbering.{event_count}
use Rattle.avm_code.specs.declared.instr.BlockName.{BlockName}
use Rattle.avm_code.specs.declared.instr.BlockName.TheVariants.{Of}
use Rattle.avm_code.specs.declared.instr.Instr.{Instr}
use Rattle.avm_code.specs.declared.instr.Instr.TheVariants.{End}
use Rattle.avm_code.specs.declared.program.Block.{Block}
use Rattle.avm_code.specs.Blocks.{block}
use Rattle.avm_compile.specs.Program.{code_of, whole_code, blocks_of}
use Rattle.avm_compile.proofs.compiler.+compiling.Goals as goal

slot_filled : (old opened inside now more : List Block) (empty : Block) (slot : ℕ) (name : BlockName) (place : List ℕ) (code whole : List Instr) → slot ≡ length old → opened ≡ old ++ empty ∷ [] → inside ≡ opened ++ more → code ≡ whole → now ≡ set inside slot (block name place code) → now ≡ old ++ block name place whole ∷ more
slot_filled old opened inside now more empty slot name place code whole at_end opens inner same filled =
    let ahead : inside ≡ old ++ empty ∷ more = inner ∙ ap (λ xs. xs ++ more) opens ∙ append_assoc old (empty ∷ []) more in
    filled ∙ ap (λ xs. set xs slot (block name place code)) ahead ∙ set_at old empty more (block name place code) slot (sym at_end) ∙ ap (λ xs. old ++ block name place xs ∷ more) same

-- the code of a block that was empty before
whole_inside : (was code : List Instr) (phrase : Term) (i : ℕ) → was ≡ [] → ((rest : List Instr) → code ++ rest ≡ was ++ code_of phrase i rest) → code ++ End ∷ [] ≡ whole_code phrase i
whole_inside was code phrase i empty grew =
    grew (End ∷ []) ∙ ap (λ xs. xs ++ code_of phrase i (End ∷ [])) empty

request_filled : (old opened inside now : List Block) (body : Term) (asked : List ℕ) (i slot : ℕ) (empty : Block) (was code : List Instr) → slot ≡ length old → opened ≡ old ++ empty ∷ [] → was ≡ [] → inside ≡ opened ++ blocks_of body asked (i + 1) → ((rest : List Instr) → code ++ rest ≡ was ++ code_of body (i + 1) rest) → now ≡ set inside slot (block (Of i) asked (code ++ End ∷ [])) → now ≡ old ++ block (Of i) asked (whole_code body (i + 1)) ∷ blocks_of body asked (i + 1)
request_filled old opened inside now body asked i slot empty was code at_end opens fresh inner grew filled =
    slot_filled old opened inside now (blocks_of body asked (i + 1)) empty slot (Of i) asked (code ++ End ∷ []) (whole_code body (i + 1)) at_end opens inner (whole_inside was code body (i + 1) fresh grew) filled

arm_filled : (old opened mid inside now : List Block) (left right : Term) (place : List ℕ) (i next slot : ℕ) (empty : Block) (was code : List Instr) → slot ≡ length old → opened ≡ old ++ empty ∷ [] → next ≡ i + 1 + event_count left → was ≡ [] → mid ≡ opened ++ blocks_of left place (i + 1) → inside ≡ mid ++ blocks_of right place next → ((rest : List Instr) → code ++ rest ≡ was ++ code_of right next rest) → now ≡ set inside slot (block (Of i) place (code ++ End ∷ [])) → now ≡ old ++ block (Of i) place (whole_code right (i + 1 + event_count left)) ∷ (blocks_of left place (i + 1) ++ blocks_of right place (i + 1 + event_count left))
arm_filled old opened mid inside now left right place i next slot empty was code at_end opens follows fresh inner outer grew filled =
    let same : code ++ End ∷ [] ≡ whole_code right (i + 1 + event_count left) = whole_inside was code right next fresh grew ∙ ap (whole_code right) follows in
    let ahead : inside ≡ opened ++ (blocks_of left place (i + 1) ++ blocks_of right place (i + 1 + event_count left)) = outer ∙ ap (λ n. mid ++ blocks_of right place n) follows ∙ ap (λ xs. xs ++ blocks_of right place (i + 1 + event_count left)) inner ∙ append_assoc opened (blocks_of left place (i + 1)) (blocks_of right place (i + 1 + event_count left)) in
    slot_filled old opened inside now (blocks_of left place (i + 1) ++ blocks_of right place (i + 1 + event_count left)) empty slot (Of i) place (code ++ End ∷ []) (whole_code right (i + 1 + event_count left)) at_end opens ahead same filled

pub part-returns-in_ok-push_instr-in-At-2-clause-blocks :
    goal.part-returns-in_ok-push_instr-in-At-2-clause-blocks
part-returns-in_ok-push_instr-in-At-2-clause-blocks t c =
    rw (c.in-At.is, ← c.deref-in-At.ensures) (request_filled _ _ _ _ (term c.deref-in-At.result.now) c.in-At.asked c.args.number _ _ c.new-inner.result.items c.part.new.code.items c.in_ok-slot-in-At.ensures.slot c.in_ok-slot-in-At.ensures.blocks c.new-inner.ensures.items c.in_ok-last-in-At.ensures.blocks c.in_ok-last-in-At.ensures.code c.in_ok-close_block-in-At.ensures)

pub part-returns-in_ok-push_instr-in-Par-2-clause-blocks :
    goal.part-returns-in_ok-push_instr-in-Par-2-clause-blocks
part-returns-in_ok-push_instr-in-Par-2-clause-blocks t c =
    rw (c.in-Par.is, ← c.deref-in-Par.ensures, ← c.deref-in-Par-2.ensures) (arm_filled _ _ _ _ _ (term c.deref-in-Par.result.now) (term c.deref-in-Par-2.result.now) c.args.place c.args.number c.in_ok-next-in-Par.next _ _ c.new-arm.result.items c.part-in-Par-2.new.code.items c.in_ok-slot-in-Par.ensures.slot c.in_ok-slot-in-Par.ensures.blocks c.in_ok-next-in-Par.ensures.next c.new-arm.ensures.items c.in_ok-next-in-Par.ensures.blocks c.in_ok-last-in-Par.ensures.blocks c.in_ok-last-in-Par.ensures.code c.in_ok-close_block-in-Par.ensures)
