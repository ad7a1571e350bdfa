use Rattle.std.proofs.Common.{sym, subst, Result, Ok, ℕ, List}
use Rattle.phrase_tree.specs.declared.memory.NoMemory.{NoMemory}
use Rattle.evidence_types.specs.Evidence.{seal}
use Rattle.evidence_types.specs.Bytes.{encoding}
use Rattle.seal_hmac.specs.Seal.{seal_of}
use Rattle.avm_code.specs.declared.instr.Instr.TheVariants.{Sign}
use Rattle.evidence_store.specs.Kept.{Adds, value_at}
use Rattle.machine_tables.specs.Row.{sealed}
use Rattle.avm_core.specs.declared.machine.Machine.{Machine}
use Rattle.avm_core.specs.declared.stepped.Stepped.{Stepped}
use Rattle.avm_core.specs.Machine.{setting_in}
use Rattle.avm_core.specs.Steps.{Steps}
use Rattle.avm_core.proofs.StepLemmas.{Steps-turned}
use Rattle.avm_core.proofs.machine.Machine.sign.Goals as goal
use Rattle.std.proofs.Common.{refl}

pub returns : goal.returns
returns c = λ code within.
    let setting = setting_in c.args.place c.args.keys.now c.args.nonce.now in
    let before = value_at c.args.store.now.values c.args.self.now.evidence in
    let adds = subst (λ (k : List ℕ). Adds c.args.store.now (seal c.args.event (seal_of k c.args.place c.args.nonce.now c.args.event (encoding before)) before) c.sealed-made.result c.sealed-made.new.self) c.key_for-key.ensures c.sealed-made.ensures in
    subst (λ (p : Result Stepped NoMemory × Machine). Steps setting code (Sign c.args.event) c.args.self.now c.args.store.now p.0 p.1 c.sealed-made.new.self) (sym c.happen_with.ensures)
    (Steps-turned setting code (Sign c.args.event) c.args.self.now c.args.store.now c.sealed-made.new.self c.sealed-made.result c.args.event (sealed setting c.args.event before) within c.requires.knows refl adds)
