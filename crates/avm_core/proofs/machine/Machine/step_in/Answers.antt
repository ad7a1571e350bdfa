use Rattle.std.proofs.Common.{◌≡◌, ◌∙◌, refl, sym, ap, subst, slice_index_or, Result, ℕ, List}
use Rattle.phrase_tree.specs.declared.memory.NoMemory.{NoMemory}
use Rattle.avm_code.specs.declared.instr.Instr.{Instr}
use Rattle.avm_code.specs.declared.instr.Instr.TheVariants.{Sign, Hash, Null, Split, JoinSeq, Fork, End}
use Rattle.evidence_types.specs.Evidence.{empty}
use Rattle.evidence_store.specs.Kept.{value_at}
use Rattle.machine_tables.specs.Row.{hashed}
use Rattle.avm_core.specs.declared.machine.Machine.{Machine}
use Rattle.avm_core.specs.declared.stepped.Stepped.{Stepped}
use Rattle.avm_core.specs.Machine.{setting_in}
use Rattle.avm_core.specs.Steps.{Steps}
use Rattle.avm_core.proofs.Standing.{within_of}
use Rattle.avm_core.proofs.StepLemmas.{Steps-turned}
use Rattle.avm_core.proofs.machine.Machine.step_in.Goals as goal

pub returns-in-Sign : goal.returns-in-Sign
returns-in-Sign c =
    let code = c.args.block.now.code in
    let setting = setting_in c.args.block.now.place c.args.keys.now c.args.nonce.now in
    let within = within_of code c.args.block.now.place c.args.keys.now _ c.args.self.now c.requires.stands in
    let is : slice_index_or code c.args.self.now.at End ≡ Sign c.in-Sign.event =
    sym (ap (λ (cs : List Instr). slice_index_or cs c.args.self.now.at End) c.items.ensures) ∙ sym c.instr_at.ensures ∙ c.in-Sign.is in
    subst (λ (i : Instr). Steps setting code i c.args.self.now c.args.store.now c.sign.result c.sign.new.self c.sign.new.store) (sym is) (c.sign.ensures code within)

pub returns-in-Split : goal.returns-in-Split
returns-in-Split c =
    let code = c.args.block.now.code in
    let setting = setting_in c.args.block.now.place c.args.keys.now c.args.nonce.now in
    let within = within_of code c.args.block.now.place c.args.keys.now _ c.args.self.now c.requires.stands in
    let is : slice_index_or code c.args.self.now.at End ≡ Split c.in-Split.event c.in-Split.split =
    sym (ap (λ (cs : List Instr). slice_index_or cs c.args.self.now.at End) c.items.ensures) ∙ sym c.instr_at.ensures ∙ c.in-Split.is in
    subst (λ (i : Instr). Steps setting code i c.args.self.now c.args.store.now c.split.result c.split.new.self c.split.new.store) (sym is) (c.split.ensures setting code within)

pub returns-in-JoinSeq : goal.returns-in-JoinSeq
returns-in-JoinSeq c =
    let code = c.args.block.now.code in
    let setting = setting_in c.args.block.now.place c.args.keys.now c.args.nonce.now in
    let within = within_of code c.args.block.now.place c.args.keys.now _ c.args.self.now c.requires.stands in
    let is : slice_index_or code c.args.self.now.at End ≡ JoinSeq c.in-JoinSeq.event =
    sym (ap (λ (cs : List Instr). slice_index_or cs c.args.self.now.at End) c.items.ensures) ∙ sym c.instr_at.ensures ∙ c.in-JoinSeq.is in
    subst (λ (i : Instr). Steps setting code i c.args.self.now c.args.store.now c.join_seq.result c.join_seq.new.self c.join_seq.new.store) (sym is) (c.join_seq.ensures setting code within)

pub returns-in-Fork : goal.returns-in-Fork
returns-in-Fork c =
    let code = c.args.block.now.code in
    let setting = setting_in c.args.block.now.place c.args.keys.now c.args.nonce.now in
    let within = within_of code c.args.block.now.place c.args.keys.now _ c.args.self.now c.requires.stands in
    let is : slice_index_or code c.args.self.now.at End ≡ Fork c.in-Fork.event c.in-Fork.split =
    sym (ap (λ (cs : List Instr). slice_index_or cs c.args.self.now.at End) c.items.ensures) ∙ sym c.instr_at.ensures ∙ c.in-Fork.is in
    subst (λ (i : Instr). Steps setting code i c.args.self.now c.args.store.now c.fork.result c.fork.new.self c.fork.new.store) (sym is) (c.fork.ensures setting code within)

pub returns-in-Hash : goal.returns-in-Hash
returns-in-Hash c =
    let code = c.args.block.now.code in
    let setting = setting_in c.args.block.now.place c.args.keys.now c.args.nonce.now in
    let within = within_of code c.args.block.now.place c.args.keys.now _ c.args.self.now c.requires.stands in
    let is : slice_index_or code c.args.self.now.at End ≡ Hash c.in-Hash.event =
    sym (ap (λ (cs : List Instr). slice_index_or cs c.args.self.now.at End) c.items.ensures) ∙ sym c.instr_at.ensures ∙ c.in-Hash.is in
    subst (λ (i : Instr). Steps setting code i c.args.self.now c.args.store.now c.happen_with.result c.happen_with.new.self c.hashed-made.new.self) (sym is)
    (subst (λ (p : Result Stepped NoMemory × Machine). Steps setting code (Hash c.in-Hash.event) c.args.self.now c.args.store.now p.0 p.1 c.hashed-made.new.self) (sym c.happen_with.ensures)
    (Steps-turned setting code (Hash c.in-Hash.event) c.args.self.now c.args.store.now c.hashed-made.new.self c.hashed-made.result c.in-Hash.event (hashed setting c.in-Hash.event (value_at c.args.store.now.values c.args.self.now.evidence)) within c.requires.stands.knows refl c.hashed-made.ensures))

pub returns-in-Null : goal.returns-in-Null
returns-in-Null c =
    let code = c.args.block.now.code in
    let setting = setting_in c.args.block.now.place c.args.keys.now c.args.nonce.now in
    let within = within_of code c.args.block.now.place c.args.keys.now _ c.args.self.now c.requires.stands in
    let is : slice_index_or code c.args.self.now.at End ≡ Null c.in-Null.event =
    sym (ap (λ (cs : List Instr). slice_index_or cs c.args.self.now.at End) c.items.ensures) ∙ sym c.instr_at.ensures ∙ c.in-Null.is in
    subst (λ (i : Instr). Steps setting code i c.args.self.now c.args.store.now c.happen_with-in-Null.result c.happen_with-in-Null.new.self c.empty-made.new.self) (sym is)
    (subst (λ (p : Result Stepped NoMemory × Machine). Steps setting code (Null c.in-Null.event) c.args.self.now c.args.store.now p.0 p.1 c.empty-made.new.self) (sym c.happen_with-in-Null.ensures)
    (Steps-turned setting code (Null c.in-Null.event) c.args.self.now c.args.store.now c.empty-made.new.self c.empty-made.result c.in-Null.event empty within c.requires.stands.knows refl c.empty-made.ensures))
