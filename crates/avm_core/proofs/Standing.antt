-- A machine that stands, stands after each row.
use Rattle.std.proofs.Common.{◌≡◌, ◌+◌, ◌-◌, ◌<◌, ◌≤◌, ◌^◌, ◌∙◌, Bool, true, false, cond, ℕ, zero, suc, List, [], ◌∷◌, length, drop, slice_index_or, refl, sym, ap, subst, arith, add-one, length-drop, Result, Ok, Err, IfOk, IsTrue, IsSome}
use Rattle.std.proofs.lemmas.Bool.{false≢true}
use Rattle.std.specs.List.{AllByRecursion}
use Rattle.phrase_tree.specs.declared.memory.NoMemory.{NoMemory}
use Rattle.evidence_types.specs.Evidence.{Evidence}
use Rattle.seal_hmac.specs.Keys.{key_of}
use Rattle.avm_code.specs.declared.instr.BlockName.{BlockName}
use Rattle.avm_code.specs.declared.instr.BlockName.TheVariants.{Root, Of}
use Rattle.avm_code.specs.declared.instr.Instr.{Instr}
use Rattle.avm_code.specs.declared.instr.Instr.TheVariants.{Copy, Usm, Kim, Sign, Hash, Null, Split, Swap, JoinSeq, Send, Recv, Fork, JoinPar, End}
use Rattle.avm_code.specs.declared.program.Block.{Block}
use Rattle.avm_code.specs.Blocks.{ends_once, is_end, is_named, blocks_named, first_place}
use Rattle.avm_code.specs.Heights.{HeightsFit, height_after, AllowsInstr}
use Rattle.avm_code.specs.Order.{HasBlock, blocks_called, code_called, place_called, first_code}
use Rattle.evidence_store.specs.Kept.{Kept}
use Rattle.machine_tables.specs.Row.{Setting, Local, Deed, event, silent, sent, forked, needs_answer, needs_reply, needs_child, ended, row}
use Rattle.avm_core.specs.declared.machine.Machine.{Machine}
use Rattle.avm_core.specs.declared.stepped.Stepped.{Stepped}
use Rattle.avm_core.specs.Machine.{local_in, values_at, next_of, CanRun, StandsIn, Stands, StandsForSome, StandsAgain, Runs, RunsBlock, KnowsIds, NeedsKey, HasKeys, AwaitsAnswer, AwaitsReply, AwaitsChild, AllBelow}
use Rattle.avm_core.specs.Steps.{Steps, Gives, Keeps, deed_of, IsSame, IsAwaited, StaysWhere}
use Rattle.avm_core.specs.Arms.{passed}
use Rattle.avm_core.proofs.Frames.{length-values_at, code_behind, KnowsIds-more}

-- the rest of the code isn't over
not_over : (code : List Instr) → IsTrue (ends_once code) → 0 < length code
not_over [] ends = absurd (false≢true ends)
not_over (first ∷ rest) ends = omega arith

pub is_within : (code : List Instr) (at : ℕ) → IsTrue (ends_once (drop at code)) → at < length code
is_within code at ends =
    let some : 0 < length (drop at code) = not_over (drop at code) ends in
    let count : length (drop at code) ≡ length code - at = length-drop at code in
    omega arith

-- the instruction ahead, and what stands behind it
pub here : (code : List Instr) (place : List ℕ) (keys : List (List ℕ × List ℕ)) (count : ℕ) (machine : Machine) → StandsIn code place keys count machine → CanRun keys place (length machine.stack) (slice_index_or code machine.at End ∷ drop (machine.at + 1) code)
here code place keys count machine stands =
    subst (CanRun keys place (length machine.stack)) (code_behind code machine.at (is_within code machine.at stands.can_run.ends)) stands.can_run

pub within_of : (code : List Instr) (place : List ℕ) (keys : List (List ℕ × List ℕ)) (count : ℕ) (machine : Machine) → StandsIn code place keys count machine → machine.at < length code
within_of code place keys count machine stands = is_within code machine.at stands.can_run.ends

-- ---- each row

local : List Instr → Evidence → List Evidence → Local
local rest e s = record { rest = rest; evidence = e; stack = s }

other_height : (keys : List (List ℕ × List ℕ)) (place : List ℕ) (low high : ℕ) (rest : List Instr) → low ≡ high → CanRun keys place low rest → CanRun keys place high rest
other_height keys place low high rest e h = subst (λ (n : ℕ). CanRun keys place n rest) e h

-- what can be run before an instruction can be run after its row
CanRun-row : (setting : Setting) (keys : List (List ℕ × List ℕ)) (place : List ℕ) (instr : Instr) (rest : List Instr) (e : Evidence) (s : List Evidence) → CanRun keys place (length s) (instr ∷ rest)
    → CanRun keys place (length (row setting instr (record { rest = instr ∷ rest; evidence = e; stack = s })).1.stack) (row setting instr (record { rest = instr ∷ rest; evidence = e; stack = s })).1.rest
CanRun-row setting keys place (Copy i) rest e s r = record { ends = r.ends; fits = r.fits.2; keyed = r.keyed.1 }
CanRun-row setting keys place (Usm i asp) rest e s r = r
CanRun-row setting keys place (Kim i target asp) rest e s r = r
CanRun-row setting keys place (Sign i) rest e s r = record { ends = r.ends; fits = r.fits.2; keyed = r.keyed.1 }
CanRun-row setting keys place (Hash i) rest e s r = record { ends = r.ends; fits = r.fits.2; keyed = r.keyed.1 }
CanRun-row setting keys place (Null i) rest e s r = record { ends = r.ends; fits = r.fits.2; keyed = r.keyed.1 }
CanRun-row setting keys place (Split i split) rest e s r =
    other_height keys place (length s + 1) (suc (length s)) rest (add-one (length s)) (record { ends = r.ends; fits = r.fits.2; keyed = r.keyed.1 })
CanRun-row setting keys place Swap rest e s r =
    let some : 1 ≤ length s = r.fits.1 in
    let left : length (drop 1 s) ≡ length s - 1 = length-drop 1 s in
    other_height keys place (length s) (suc (length (drop 1 s))) rest (omega arith) (record { ends = r.ends; fits = r.fits.2; keyed = r.keyed.1 })
CanRun-row setting keys place (JoinSeq i) rest e s r =
    other_height keys place (length s - 1) (length (drop 1 s)) rest (sym (length-drop 1 s)) (record { ends = r.ends; fits = r.fits.2; keyed = r.keyed.1 })
CanRun-row setting keys place (Send i asked) rest e s r = record { ends = r.ends; fits = r.fits.2; keyed = r.keyed.1 }
CanRun-row setting keys place (Recv j i) rest e s r = r
CanRun-row setting keys place (Fork i split) rest e s r = record { ends = r.ends; fits = r.fits.2; keyed = r.keyed.1 }
CanRun-row setting keys place (JoinPar j i) rest e s r = r
CanRun-row setting keys place End rest e s r = r

-- what can be run before an instruction that waits can be run behind it
pub behind_answer : (keys : List (List ℕ × List ℕ)) (place : List ℕ) (instr : Instr) (rest : List Instr) (height : ℕ) → AwaitsAnswer instr → CanRun keys place height (instr ∷ rest) → CanRun keys place height rest
behind_answer keys place (Copy i) rest height w r = absurd w
behind_answer keys place (Usm i asp) rest height w r = record { ends = r.ends; fits = r.fits.2; keyed = r.keyed.1 }
behind_answer keys place (Kim i target asp) rest height w r = record { ends = r.ends; fits = r.fits.2; keyed = r.keyed.1 }
behind_answer keys place (Sign i) rest height w r = absurd w
behind_answer keys place (Hash i) rest height w r = absurd w
behind_answer keys place (Null i) rest height w r = absurd w
behind_answer keys place (Split i split) rest height w r = absurd w
behind_answer keys place Swap rest height w r = absurd w
behind_answer keys place (JoinSeq i) rest height w r = absurd w
behind_answer keys place (Send i asked) rest height w r = absurd w
behind_answer keys place (Recv j i) rest height w r = absurd w
behind_answer keys place (Fork i split) rest height w r = absurd w
behind_answer keys place (JoinPar j i) rest height w r = absurd w
behind_answer keys place End rest height w r = absurd w

behind_reply : (keys : List (List ℕ × List ℕ)) (place : List ℕ) (instr : Instr) (rest : List Instr) (height : ℕ) → AwaitsReply instr → CanRun keys place height (instr ∷ rest) → CanRun keys place height rest
behind_reply keys place (Recv j i) rest height w r = record { ends = r.ends; fits = r.fits.2; keyed = r.keyed.1 }
behind_reply keys place (Copy i) rest height w r = absurd w
behind_reply keys place (Usm i asp) rest height w r = absurd w
behind_reply keys place (Kim i target asp) rest height w r = absurd w
behind_reply keys place (Sign i) rest height w r = absurd w
behind_reply keys place (Hash i) rest height w r = absurd w
behind_reply keys place (Null i) rest height w r = absurd w
behind_reply keys place (Split i split) rest height w r = absurd w
behind_reply keys place Swap rest height w r = absurd w
behind_reply keys place (JoinSeq i) rest height w r = absurd w
behind_reply keys place (Send i asked) rest height w r = absurd w
behind_reply keys place (Fork i split) rest height w r = absurd w
behind_reply keys place (JoinPar j i) rest height w r = absurd w
behind_reply keys place End rest height w r = absurd w

pub behind_child : (keys : List (List ℕ × List ℕ)) (place : List ℕ) (instr : Instr) (rest : List Instr) (height : ℕ) → AwaitsChild instr → CanRun keys place height (instr ∷ rest) → CanRun keys place height rest
behind_child keys place (JoinPar j i) rest height w r = record { ends = r.ends; fits = r.fits.2; keyed = r.keyed.1 }
behind_child keys place (Copy i) rest height w r = absurd w
behind_child keys place (Usm i asp) rest height w r = absurd w
behind_child keys place (Kim i target asp) rest height w r = absurd w
behind_child keys place (Sign i) rest height w r = absurd w
behind_child keys place (Hash i) rest height w r = absurd w
behind_child keys place (Null i) rest height w r = absurd w
behind_child keys place (Split i split) rest height w r = absurd w
behind_child keys place Swap rest height w r = absurd w
behind_child keys place (JoinSeq i) rest height w r = absurd w
behind_child keys place (Send i asked) rest height w r = absurd w
behind_child keys place (Recv j i) rest height w r = absurd w
behind_child keys place (Fork i split) rest height w r = absurd w
behind_child keys place End rest height w r = absurd w

-- ---- standing again

-- what a machine holds on values can be run
abbrev CanRunOn : List (List ℕ × List ℕ) → List ℕ → Local → Type 0
CanRunOn keys place held = CanRun keys place (length held.stack) held.rest

on_values : (keys : List (List ℕ × List ℕ)) (place : List ℕ) (code : List Instr) (values : List Evidence) (machine : Machine) → CanRun keys place (length machine.stack) (drop machine.at code) → CanRunOn keys place (local_in code values machine)
on_values keys place code values machine r =
    other_height keys place (length machine.stack) (length (values_at values machine.stack)) (drop machine.at code) (sym (length-values_at values machine.stack)) r

off_values : (keys : List (List ℕ × List ℕ)) (place : List ℕ) (code : List Instr) (values : List Evidence) (machine : Machine) → CanRunOn keys place (local_in code values machine) → CanRun keys place (length machine.stack) (drop machine.at code)
off_values keys place code values machine r =
    other_height keys place (length (values_at values machine.stack)) (length machine.stack) (drop machine.at code) (length-values_at values machine.stack) r

row_at : (setting : Setting) (keys : List (List ℕ × List ℕ)) (place : List ℕ) (code : List Instr) (at : ℕ) (e : Evidence) (s : List Evidence) → CanRun keys place (length s) (drop at code)
    → CanRunOn keys place (row setting (slice_index_or code at End) (record { rest = drop at code; evidence = e; stack = s })).1
row_at setting keys place code at e s r =
    let split : drop at code ≡ slice_index_or code at End ∷ drop (at + 1) code = code_behind code at (is_within code at r.ends) in
    subst (λ (rest : List Instr). CanRunOn keys place (row setting (slice_index_or code at End) (record { rest = rest; evidence = e; stack = s })).1) (sym split)
    (CanRun-row setting keys place (slice_index_or code at End) (drop (at + 1) code) e s (subst (CanRun keys place (length s)) split r))

pub stands-steps : (setting : Setting) (code : List Instr) (place : List ℕ) (keys : List (List ℕ × List ℕ)) (old : Machine) (before : Kept) (outcome : Result Stepped NoMemory) (new : Machine) (after : Kept) → StandsIn code place keys (length before.values) old
    → Steps setting code (slice_index_or code old.at End) old before outcome new after → StandsIn code place keys (length after.values) new
stands-steps setting code place keys old before (Ok stepped) new after stands steps =
    let held : local_in code after.values new ≡ (row setting (slice_index_or code old.at End) (local_in code before.values old)).1 = ap (λ (p : Deed × Local). p.1) steps.made in
    record {
      can_run = off_values keys place code after.values new (subst (CanRunOn keys place) (sym held)
          (row_at setting keys place code old.at (local_in code before.values old).evidence (local_in code before.values old).stack (on_values keys place code before.values old stands.can_run)));
      short = stands.short;
      knows = steps.keeps.knows;
    }
stands-steps setting code place keys old before (Err error) new after stands steps = record {
  can_run = subst (λ (m : Machine). CanRun keys place (length m.stack) (drop m.at code)) (sym steps.refused.0) stands.can_run;
  short = stands.short;
  knows = steps.keeps.knows;
}

-- the instruction that waits is over, with some evidence
abbrev goes_with : Evidence → Local → Local
goes_with e held = record { rest = drop 1 held.rest; evidence = e; stack = held.stack }

pub stands-passed : (code : List Instr) (place : List ℕ) (keys : List (List ℕ × List ℕ)) (old new : Machine) (before after : List Evidence) (count : ℕ) (e : Evidence) → old.at < length code → length code < 2 ^ 32 → CanRun keys place (length old.stack) (drop (old.at + 1) code)
    → local_in code after new ≡ goes_with e (local_in code before old) → KnowsIds count new → StandsIn code place keys count new
stands-passed code place keys old new before after count e within short r held knows =
    let behind : drop (old.at + 1) code ≡ drop 1 (drop old.at code) = sym (ap (drop 1) (code_behind code old.at within)) in
    record {
      can_run = off_values keys place code after new (subst (CanRunOn keys place) (sym held)
          (other_height keys place (length old.stack) (length (values_at before old.stack)) (drop 1 (drop old.at code)) (sym (length-values_at before old.stack)) (subst (CanRun keys place (length old.stack)) behind r)));
      short = short;
      knows = knows;
    }

pub stands-same : (code : List Instr) (place : List ℕ) (keys : List (List ℕ × List ℕ)) (old new : Machine) (before count : ℕ) → StandsIn code place keys before old → new ≡ old → KnowsIds count new → StandsIn code place keys count new
stands-same code place keys old new before count stands e knows = record {
  can_run = subst (λ (m : Machine). CanRun keys place (length m.stack) (drop m.at code)) (sym e) stands.can_run;
  short = stands.short;
  knows = knows;
}

-- in its program
pub stands-there : (program : List Block) (keys : List (List ℕ × List ℕ)) (before after : ℕ) (old new : Machine) → Stands program keys before old → new.name ≡ old.name
    → StandsIn (code_called program old.name) (place_called program old.name) keys after new → Stands program keys after new
stands-there program keys before after old new stands e inside = record {
  order = stands.order;
  there = subst (HasBlock program) (sym e) stands.there;
  inside = subst (λ (n : BlockName). StandsIn (code_called program n) (place_called program n) keys after new) (sym e) inside;
}

pub stands-given : (program : List Block) (keys : List (List ℕ × List ℕ)) (old : Machine) (before : Kept) (outcome : Result (Unit {0}) NoMemory) (new : Machine) (after : Kept) (e : Evidence) → Stands program keys (length before.values) old
    → CanRun keys (place_called program old.name) (length old.stack) (drop (old.at + 1) (code_called program old.name))
    → Gives (code_called program old.name) (goes_with e (local_in (code_called program old.name) before.values old)) old before outcome new after → Stands program keys (length after.values) new
stands-given program keys old before (Ok done) new after e stands r gives =
    let code = code_called program old.name in
    let place = place_called program old.name in
    stands-there program keys (length before.values) (length after.values) old new stands gives.keeps.block
    (stands-passed code place keys old new before.values after.values (length after.values) e (within_of code place keys (length before.values) old stands.inside) stands.inside.short r gives.made gives.keeps.knows)
stands-given program keys old before (Err error) new after e stands r gives =
    stands-there program keys (length before.values) (length after.values) old new stands gives.keeps.block
    (stands-same (code_called program old.name) (place_called program old.name) keys old new (length before.values) (length after.values) stands.inside gives.refused.0 gives.keeps.knows)

pub stands-replied : (program : List Block) (keys : List (List ℕ × List ℕ)) (count : ℕ) (old : Machine) (id : ℕ) → Stands program keys count old → AwaitsReply (next_of program old) → id < count → Stands program keys count (passed id old.stack old)
stands-replied program keys count old id stands awaits known =
    let code = code_called program old.name in
    let place = place_called program old.name in
    record {
      order = stands.order;
      there = stands.there;
      inside = record {
        can_run = behind_reply keys place (slice_index_or code old.at End) (drop (old.at + 1) code) (length old.stack) awaits (here code place keys count old stands.inside);
        short = stands.inside.short;
        knows = record { evidence = known; stack = stands.inside.knows.stack };
      };
    }

-- ---- what a machine waits for

row_awaits : (setting : Setting) (instr : Instr) (held : Local) → IsAwaited (row setting instr held).0 instr
row_awaits setting (Copy i) held = tt
row_awaits setting (Usm i asp) held = tt
row_awaits setting (Kim i target asp) held = tt
row_awaits setting (Sign i) held = tt
row_awaits setting (Hash i) held = tt
row_awaits setting (Null i) held = tt
row_awaits setting (Split i split) held = tt
row_awaits setting Swap held = tt
row_awaits setting (JoinSeq i) held = tt
row_awaits setting (Send i asked) held = tt
row_awaits setting (Recv j i) held = tt
row_awaits setting (Fork i split) held = tt
row_awaits setting (JoinPar j i) held = tt
row_awaits setting End held = tt

awaits_still : (deed : Deed) (next : Machine → Instr) (old : Machine) (before : Kept) (new : Machine) (after : Kept) → StaysWhere deed (IsSame old before new after) → IsAwaited deed (next old) → IsAwaited deed (next new)
awaits_still (event i) next old before new after same h = tt
awaits_still silent next old before new after same h = tt
awaits_still (sent i place evidence) next old before new after same h = tt
awaits_still (forked i evidence) next old before new after same h = tt
awaits_still (needs_answer i) next old before new after same h = subst (λ (m : Machine). AwaitsAnswer (next m)) (sym same.0) h
awaits_still (needs_reply j i) next old before new after same h = subst (λ (m : Machine). AwaitsReply (next m)) (sym same.0) h
awaits_still (needs_child j i) next old before new after same h = subst (λ (m : Machine). AwaitsChild (next m)) (sym same.0) h
awaits_still (ended result) next old before new after same h = tt

pub awaits-steps : (setting : Setting) (code : List Instr) (next : Machine → Instr) (old : Machine) (before : Kept) (outcome : Result Stepped NoMemory) (new : Machine) (after : Kept) → Steps setting code (next old) old before outcome new after
    → IfOk outcome (λ stepped. IsAwaited (deed_of after.values stepped) (next new))
awaits-steps setting code next old before (Ok stepped) new after steps =
    let held = local_in code before.values old in
    let deed : (row setting (next old) held).0 ≡ deed_of after.values stepped = sym (ap (λ (p : Deed × Local). p.0) steps.made) in
    subst (λ (d : Deed). IsAwaited d (next new)) deed (awaits_still (row setting (next old) held).0 next old before new after steps.waits (row_awaits setting (next old) held))
awaits-steps setting code next old before (Err error) new after steps = tt

-- ---- starting

chosen : (P : Block → Type 0) (one : Block) (rest : List Block) (b : Bool) → P one → AllByRecursion P rest → AllByRecursion P (cond b (one ∷ rest) rest)
chosen P one rest true h all = (h, all)
chosen P one rest false h all = all

named_all : (P : Block → Type 0) (n : ℕ) (blocks : List Block) → AllByRecursion P blocks → AllByRecursion P (blocks_named n blocks)
named_all P n [] all = tt
named_all P n (one ∷ rest) all = chosen P one (blocks_named n rest) (is_named n one.name) all.0 (named_all P n rest all.1)

called_all : (P : Block → Type 0) (name : BlockName) (blocks : List Block) → AllByRecursion P blocks → AllByRecursion P (blocks_called blocks name)
called_all P Root blocks all = all
called_all P (Of n) blocks all = named_all P n blocks all

begun : (keys : List (List ℕ × List ℕ)) (place : List ℕ) (code : List Instr) (machine : Machine) → machine.at ≡ 0 → machine.stack ≡ [] → CanRun keys place 0 code → CanRun keys place (length machine.stack) (drop machine.at code)
begun keys place code machine at stack r =
    subst (λ (ids : List ℕ). CanRun keys place (length ids) (drop machine.at code)) (sym stack) (subst (λ (k : ℕ). CanRun keys place 0 (drop k code)) (sym at) r)

stands-at : (program : List Block) (keys : List (List ℕ × List ℕ)) (count : ℕ) (name : BlockName) (machine : Machine) → Runs program keys → HasBlock program name → machine.name ≡ name
    → StandsIn (code_called program name) (place_called program name) keys count machine → Stands program keys count machine
stands-at program keys count name machine runs there named inside = record {
  order = runs.order;
  there = subst (HasBlock program) (sym named) there;
  inside = subst (λ (n : BlockName). StandsIn (code_called program n) (place_called program n) keys count machine) (sym named) inside;
}

pub stands-started : (program : List Block) (keys : List (List ℕ × List ℕ)) (count : ℕ) (name : BlockName) (machine : Machine) → Runs program keys → HasBlock program name
    → machine.name ≡ name → machine.at ≡ 0 → machine.stack ≡ [] → machine.evidence < count → Stands program keys count machine
stands-started program keys count name machine runs there named at stack known =
    let all : AllByRecursion (RunsBlock keys) (there.one ∷ there.others) = subst (AllByRecursion (RunsBlock keys)) there.there (called_all (RunsBlock keys) name program runs.blocks) in
    let code : code_called program name ≡ there.one.code = ap first_code there.there in
    let place : place_called program name ≡ there.one.place = ap first_place there.there in
    stands-at program keys count name machine runs there named
    (subst (λ (c : List Instr). StandsIn c (place_called program name) keys count machine) (sym code)
    (subst (λ (p : List ℕ). StandsIn there.one.code p keys count machine) (sym place)
    (record {
      can_run = begun keys there.one.place there.one.code machine at stack all.0.can_run;
      short = all.0.short;
      knows = record { evidence = known; stack = subst (AllBelow count) (sym stack) tt };
    })))
