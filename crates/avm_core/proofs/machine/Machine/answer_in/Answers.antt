use Rattle.std.proofs.Common.{◌≡◌, ◌∙◌, refl, sym, ap, subst, slice_index_or, Result, ℕ, List}
use Rattle.phrase_tree.specs.declared.memory.NoMemory.{NoMemory}
use Rattle.evidence_types.specs.Evidence.{Evidence}
use Rattle.avm_code.specs.declared.instr.Instr.{Instr}
use Rattle.avm_code.specs.declared.instr.Instr.TheVariants.{End}
use Rattle.evidence_store.specs.Kept.{Kept, Adds, value_at}
use Rattle.machine_tables.specs.Row.{measured, answered}
use Rattle.avm_core.specs.declared.machine.Machine.{Machine}
use Rattle.avm_core.specs.Machine.{local_in}
use Rattle.avm_core.specs.Steps.{Gives}
use Rattle.avm_core.proofs.StepLemmas.{Gives-turned}
use Rattle.avm_core.proofs.machine.Machine.answer_in.Goals as goal
use Rattle.avm_core.proofs.machine.Machine.answer_in.Goals.{in-Usm, in-Kim}

-- an addition, of a value and with an outcome that are equal to these
adds_as : (before after after' : Kept) (value value' : Evidence) (made made' : Result ℕ NoMemory) → after' ≡ after → value' ≡ value → made' ≡ made → Adds before value made after → Adds before value' made' after'
adds_as before after after' value value' made made' a v m adds =
    subst (λ (k : Kept). Adds before value' made' k) (sym a) (subst (λ (r : Result ℕ NoMemory). Adds before value' r after) (sym m) (subst (λ (e : Evidence). Adds before e made after) (sym v) adds))

pub returns : goal.returns
returns c =
    let code = c.args.block.now.code in
    let old = c.args.self.now in
    let before = c.args.store.now in
    let instr = slice_index_or code old.at End in
    let value = measured instr c.args.answer.now (value_at before.values old.evidence) in
    let found : instr ≡ c.instr_at.result.now = sym (ap (λ (cs : List Instr). slice_index_or cs old.at End) c.items.ensures) ∙ sym c.instr_at.ensures in
    let adds : Adds before value c.match-instr_at.made c.match-instr_at.store =
    elim c.match-instr_at.branch [
      | in-Usm w ↦ adds_as before w.measured-made.new.self c.match-instr_at.store _ value w.measured-made.result c.match-instr_at.made w.store-is (ap (λ (i : Instr). measured i c.args.answer.now (value_at before.values old.evidence)) (found ∙ w.in-Usm.is)) w.made-is w.measured-made.ensures
      | in-Kim w ↦ adds_as before w.measured-made-in-Kim.new.self c.match-instr_at.store _ value w.measured-made-in-Kim.result c.match-instr_at.made w.store-is (ap (λ (i : Instr). measured i c.args.answer.now (value_at before.values old.evidence)) (found ∙ w.in-Kim.is)) w.made-is w.measured-made-in-Kim.ensures
    ] in
    subst (λ (p : Result (Unit {0}) NoMemory × Machine). Gives code (answered instr c.args.answer.now (local_in code before.values old)) old before p.0 p.1 c.match-instr_at.store) (sym c.go_on_with.ensures)
    (Gives-turned code (answered instr c.args.answer.now (local_in code before.values old)) old before c.match-instr_at.store c.match-instr_at.made value c.requires.within c.requires.knows refl adds)
