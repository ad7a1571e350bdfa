-- What a machine's small steps come to: the rows of the table, on values.
use Rattle.std.proofs.Common.{◌≡◌, ◌+◌, ◌<◌, ◌≤◌, ◌∙◌, Bool, true, false, ℕ, List, [], ◌∷◌, length, drop, refl, sym, ap, ap₂, subst, arith, Result, Ok, Err, IfOk, OnOk, OnErr, IsOk}
use Rattle.std.proofs.lemmas.Bool.{false≢true}
use Rattle.phrase_tree.specs.declared.memory.NoMemory.{NoMemory}
use Rattle.phrase_tree.specs.declared.phrase.Split.{Split as Signs}
use Rattle.evidence_types.specs.Evidence.{Evidence, seq_pair}
use Rattle.session_model.specs.Value.{part}
use Rattle.avm_code.specs.declared.instr.Instr.{Instr}
use Rattle.avm_code.specs.declared.instr.Instr.TheVariants.{Copy, Split, Swap, JoinSeq, Send, Fork}
use Rattle.evidence_store.specs.Kept.{Kept, Grows, Adds, value_at, paired}
use Rattle.machine_tables.specs.Row.{Setting, Local, Deed, event, silent, sent, forked, row, top, goes_on, turns_to}
use Rattle.avm_core.specs.declared.machine.Machine.{Machine}
use Rattle.avm_core.specs.declared.stepped.Stepped.{Stepped}
use Rattle.avm_core.specs.declared.stepped.Stepped.TheVariants.{Event, Silent, Sent, Forked}
use Rattle.avm_core.specs.Machine.{local_in, values_at, AllBelow, KnowsIds}
use Rattle.avm_core.specs.Steps.{Steps, Gives, Keeps, deed_of, NamesValue, most_added, StaysWhere, IsSame}
use Rattle.avm_core.specs.Arms.{passed, turned, AreParts}
use Rattle.avm_core.proofs.Frames.{values_at-grows, AllBelow-more, KnowsIds-more, local_in-passed}

Grows-refl : (values : List Evidence) → Grows values values
Grows-refl values = record { longer = omega arith; same = λ id h. refl }

-- an instruction is over, with this evidence and this stack, and does this
pub record IsOver (setting : Setting) (code : List Instr) (instr : Instr) (old : Machine) (before after : Kept) (stepped : Stepped) (id : ℕ) (stack : List ℕ) (e : Evidence) (s : List Evidence) : Type 0 where
  pub within : old.at < length code
  pub evidence : value_at after.values id ≡ e
  pub stacked : values_at after.values stack ≡ s
  pub known : id < length after.values
  pub all : AllBelow (length after.values) stack
  pub grows : Grows before.values after.values
  pub named : NamesValue (length after.values) stepped
  pub does : row setting instr (local_in code before.values old) ≡ (deed_of after.values stepped, turns_to e s (local_in code before.values old))
  pub waits : StaysWhere (deed_of after.values stepped) (IsSame old before (passed id stack old) after)
  pub spare : most_added (deed_of after.values stepped) ≤ before.spare → before.spare ≤ after.spare + most_added (deed_of after.values stepped)

pub Steps-over : (setting : Setting) (code : List Instr) (instr : Instr) (old : Machine) (before after : Kept) (stepped : Stepped) (id : ℕ) (stack : List ℕ) (e : Evidence) (s : List Evidence) → IsOver setting code instr old before after stepped id stack e s
    → Steps setting code instr old before (Ok stepped) (passed id stack old) after
Steps-over setting code instr old before after stepped id stack e s over =
    let deed : (row setting instr (local_in code before.values old)).0 ≡ deed_of after.values stepped = ap (λ (p : Deed × Local). p.0) over.does in
    record {
      made = ap (λ (l : Local). (deed_of after.values stepped, l)) (local_in-passed code before.values after.values old id stack e s over.within over.evidence over.stacked) ∙ sym over.does;
      named = over.named;
      waits = subst (λ (d : Deed). StaysWhere d (IsSame old before (passed id stack old) after)) (sym deed) over.waits;
      refused = tt;
      keeps = record { block = refl; grows = over.grows; knows = record { evidence = over.known; stack = over.all } };
      in_spare = subst (λ (d : Deed). most_added d ≤ before.spare → IsOk (let r : Result Stepped NoMemory = Ok stepped in r) × (before.spare ≤ after.spare + most_added d)) (sym deed) (λ h. (refl, over.spare h));
    }

-- there was no memory for the one value that an instruction adds
pub Steps-failed : (setting : Setting) (code : List Instr) (instr : Instr) (old : Machine) (before after : Kept) (error : NoMemory) → KnowsIds (length before.values) old → after.values ≡ before.values → Grows before.values after.values → (1 ≤ before.spare → ⊥)
    → most_added (row setting instr (local_in code before.values old)).0 ≡ 1 → StaysWhere (row setting instr (local_in code before.values old)).0 (IsSame old before old after) → Steps setting code instr old before (Err error) old after
Steps-failed setting code instr old before after error knows same grows none most waits = record {
  made = tt;
  named = tt;
  waits = waits;
  refused = (refl, same);
  keeps = record { block = refl; grows = grows; knows = KnowsIds-more (length before.values) (length after.values) old grows.longer knows };
  in_spare = λ h. absurd (none (omega (arith, most, h)));
}

-- ---- what was added, or not

pub Steps-turned : (setting : Setting) (code : List Instr) (instr : Instr) (old : Machine) (before after : Kept) (made : Result ℕ NoMemory) (i : ℕ) (value : Evidence) → old.at < length code → KnowsIds (length before.values) old
    → row setting instr (local_in code before.values old) ≡ (event i, goes_on value (local_in code before.values old)) → Adds before value made after
    → Steps setting code instr old before (turned (Event i) made old.stack old).0 (turned (Event i) made old.stack old).1 after
Steps-turned setting code instr old before after (Ok id) i value within knows does adds =
    Steps-over setting code instr old before after (Event i) id old.stack value (values_at before.values old.stack) (record {
      within = within;
      evidence = adds.added.stands;
      stacked = values_at-grows before.values after.values old.stack adds.grows knows.stack;
      known = adds.added.within;
      all = AllBelow-more (length before.values) (length after.values) old.stack adds.grows.longer knows.stack;
      grows = adds.grows;
      named = tt;
      does = does;
      waits = tt;
      spare = λ h. let e : before.spare ≡ after.spare + 1 = (adds.in_spare h).1 in omega arith;
    })
Steps-turned setting code instr old before after (Err error) i value within knows does adds =
    let deed : (row setting instr (local_in code before.values old)).0 ≡ event i = ap (λ (p : Deed × Local). p.0) does in
    Steps-failed setting code instr old before after error knows adds.refused adds.grows (λ h. false≢true (adds.in_spare h).0) (ap most_added deed) (subst (λ (d : Deed). StaysWhere d (IsSame old before old after)) (sym deed) tt)

pub Steps-join_seq : (setting : Setting) (code : List Instr) (old : Machine) (before after : Kept) (id left i : ℕ) (rest : List ℕ) → old.at < length code → KnowsIds (length before.values) old → old.stack ≡ left ∷ rest
    → Adds before (paired false (value_at before.values left) (value_at before.values old.evidence)) (Ok id) after → Steps setting code (JoinSeq i) old before (Ok (Event i)) (passed id rest old) after
Steps-join_seq setting code old before after id left i rest within knows stack adds =
    let below : AllBelow (length before.values) (left ∷ rest) = subst (AllBelow (length before.values)) stack knows.stack in
    Steps-over setting code (JoinSeq i) old before after (Event i) id rest (seq_pair (value_at before.values left) (value_at before.values old.evidence)) (values_at before.values rest) (record {
      within = within;
      evidence = adds.added.stands;
      stacked = values_at-grows before.values after.values rest adds.grows below.1;
      known = adds.added.within;
      all = AllBelow-more (length before.values) (length after.values) rest adds.grows.longer below.1;
      grows = adds.grows;
      named = tt;
      does = ap (λ (ids : List ℕ). let p : Deed × Local = (event i, turns_to (seq_pair (top (values_at before.values ids)) (value_at before.values old.evidence)) (drop 1 (values_at before.values ids)) (local_in code before.values old)) in p) stack;
      waits = tt;
      spare = λ h. let e : before.spare ≡ after.spare + 1 = (adds.in_spare h).1 in omega arith;
    })

pub Steps-split : (setting : Setting) (code : List Instr) (old : Machine) (before after : Kept) (split : Signs) (left right i : ℕ) → old.at < length code → KnowsIds (length before.values) old
    → AreParts split before old.evidence (Ok (left, right)) after → Steps setting code (Split i split) old before (Ok (Event i)) (passed left (right ∷ old.stack) old) after
Steps-split setting code old before after split left right i within knows parts =
    Steps-over setting code (Split i split) old before after (Event i) left (right ∷ old.stack) (part split.left (value_at before.values old.evidence)) (part split.right (value_at before.values old.evidence) ∷ values_at before.values old.stack) (record {
      within = within;
      evidence = parts.left.1;
      stacked = ap₂ (λ (x : Evidence) (xs : List Evidence). x ∷ xs) parts.right.1 (values_at-grows before.values after.values old.stack parts.grows knows.stack);
      known = parts.left.0;
      all = (parts.right.0, AllBelow-more (length before.values) (length after.values) old.stack parts.grows.longer knows.stack);
      grows = parts.grows;
      named = tt;
      does = refl;
      waits = tt;
      spare = λ h. (parts.in_spare h).1;
    })

pub Steps-fork : (setting : Setting) (code : List Instr) (old : Machine) (before after : Kept) (split : Signs) (left right i : ℕ) → old.at < length code → KnowsIds (length before.values) old
    → AreParts split before old.evidence (Ok (left, right)) after → Steps setting code (Fork i split) old before (Ok (Forked i right)) (passed left old.stack old) after
Steps-fork setting code old before after split left right i within knows parts =
    Steps-over setting code (Fork i split) old before after (Forked i right) left old.stack (part split.left (value_at before.values old.evidence)) (values_at before.values old.stack) (record {
      within = within;
      evidence = parts.left.1;
      stacked = values_at-grows before.values after.values old.stack parts.grows knows.stack;
      known = parts.left.0;
      all = AllBelow-more (length before.values) (length after.values) old.stack parts.grows.longer knows.stack;
      grows = parts.grows;
      named = parts.right.0;
      does = ap (λ (x : Evidence). let p : Deed × Local = (forked i x, goes_on (part split.left (value_at before.values old.evidence)) (local_in code before.values old)) in p) (sym parts.right.1);
      waits = tt;
      spare = λ h. (parts.in_spare h).1;
    })

-- ---- what a machine is given

pub Gives-turned : (code : List Instr) (wanted : Local) (old : Machine) (before after : Kept) (made : Result ℕ NoMemory) (value : Evidence) → old.at < length code → KnowsIds (length before.values) old
    → wanted ≡ goes_on value (local_in code before.values old) → Adds before value made after
    → Gives code wanted old before (turned {A = Unit {0}} tt made old.stack old).0 (turned {A = Unit {0}} tt made old.stack old).1 after
Gives-turned code wanted old before after (Ok id) value within knows is adds = record {
  made = local_in-passed code before.values after.values old id old.stack value (values_at before.values old.stack) within adds.added.stands (values_at-grows before.values after.values old.stack adds.grows knows.stack) ∙ sym is;
  refused = tt;
  keeps = record { block = refl; grows = adds.grows; knows = record { evidence = adds.added.within; stack = AllBelow-more (length before.values) (length after.values) old.stack adds.grows.longer knows.stack } };
  in_spare = λ h. let e : before.spare ≡ after.spare + 1 = (adds.in_spare h).1 in (refl, omega arith);
}
Gives-turned code wanted old before after (Err error) value within knows is adds = record {
  made = tt;
  refused = (refl, adds.refused);
  keeps = record { block = refl; grows = adds.grows; knows = KnowsIds-more (length before.values) (length after.values) old adds.grows.longer knows };
  in_spare = λ h. absurd (false≢true (adds.in_spare h).0);
}
