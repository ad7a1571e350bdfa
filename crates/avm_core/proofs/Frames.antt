-- What a store's growth leaves as it is, and the code behind an instruction.
use Rattle.std.proofs.Common.{◌≡◌, ◌+◌, ◌<◌, ◌≤◌, ◌∙◌, ℕ, suc, List, [], ◌∷◌, ◌++◌, length, drop, reverse, slice_index_or, refl, sym, ap, ap₂, arith, add-one, drop-cons}
use Rattle.std.proofs.lemmas.List.{reverse-append}
use Rattle.evidence_types.specs.Evidence.{Evidence}
use Rattle.avm_code.specs.declared.instr.Instr.{Instr}
use Rattle.avm_code.specs.declared.instr.Instr.TheVariants.{End}
use Rattle.evidence_store.specs.Kept.{Grows, value_at}
use Rattle.machine_tables.specs.Row.{Local, turns_to}
use Rattle.avm_core.specs.declared.machine.Machine.{Machine}
use Rattle.avm_core.specs.Machine.{values_at, local_in, AllBelow, KnowsIds}
use Rattle.avm_core.specs.Arms.{passed}

pub reverse-push : (ids : List ℕ) (id : ℕ) → reverse (ids ++ id ∷ []) ≡ id ∷ reverse ids
reverse-push ids id = reverse-append ids (id ∷ [])

pub values_at-grows : (old new : List Evidence) (ids : List ℕ) → Grows old new → AllBelow (length old) ids → values_at new ids ≡ values_at old ids
values_at-grows old new [] g below = refl
values_at-grows old new (id ∷ rest) g below = ap₂ (λ v vs. v ∷ vs) (g.same id below.0) (values_at-grows old new rest g below.1)

pub AllBelow-more : (low high : ℕ) (ids : List ℕ) → low ≤ high → AllBelow low ids → AllBelow high ids
AllBelow-more low high [] le below = tt
AllBelow-more low high (id ∷ rest) le below =
    let b : id < low = below.0 in (omega arith, AllBelow-more low high rest le below.1)

pub KnowsIds-more : (low high : ℕ) (machine : Machine) → low ≤ high → KnowsIds low machine → KnowsIds high machine
KnowsIds-more low high machine le knows =
    let k : machine.evidence < low = knows.evidence in
    record { evidence = omega arith; stack = AllBelow-more low high machine.stack le knows.stack }

pub length-values_at : (values : List Evidence) (ids : List ℕ) → length (values_at values ids) ≡ length ids
length-values_at values [] = refl
length-values_at values (id ∷ rest) = ap suc (length-values_at values rest)

pub code_behind : (code : List Instr) (at : ℕ) → at < length code → drop at code ≡ slice_index_or code at End ∷ drop (at + 1) code
code_behind code at h = drop-cons code at End h ∙ ap (λ (k : ℕ). slice_index_or code at End ∷ drop k code) (sym (add-one at))

-- where an instruction is over
pub local_in-passed : (code : List Instr) (before after : List Evidence) (old : Machine) (id : ℕ) (stack : List ℕ) (e : Evidence) (s : List Evidence) → old.at < length code → value_at after id ≡ e → values_at after stack ≡ s
    → local_in code after (passed id stack old) ≡ turns_to e s (local_in code before old)
local_in-passed code before after old id stack e s within he hs =
    let behind : drop (old.at + 1) code ≡ drop 1 (drop old.at code) = sym (ap (drop 1) (code_behind code old.at within)) in
    ap₂ (λ (x : Evidence) (xs : List Evidence). let l : Local = record { rest = drop (old.at + 1) code; evidence = x; stack = xs } in l) he hs
    ∙ ap (λ (r : List Instr). let l : Local = record { rest = r; evidence = e; stack = s } in l) behind
