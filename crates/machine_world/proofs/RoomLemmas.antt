-- There is room for what is left of a program, after each change of a world.
use Rattle.std.proofs.Common.{◌≡◌, ℕ, zero, suc, ◌+◌, ◌<◌, ◌≤◌, Bool, true, false, List, [], ◌∷◌, Option, None, Some, IsSome, length, drop, slice_index_or, slice_set, nat_eq, if◌then◌else◌, refl, sym, ap, ◌∙◌, subst, arith, inl, inr}
use Rattle.std.specs.Vec.{with_item}
use Rattle.std.proofs.lemmas.Bool.{cases_Bool}
use Rattle.evidence_store.specs.Kept.{Kept}
use Rattle.rising_list.specs.Rising.{find, replaced, removed}
use Rattle.avm_code.specs.declared.instr.BlockName.{BlockName}
use Rattle.avm_code.specs.declared.instr.BlockName.TheVariants.{Root, Of}
use Rattle.avm_code.specs.declared.instr.Instr.{Instr}
use Rattle.avm_code.specs.declared.instr.Instr.TheVariants.{Copy, Usm, Kim, Sign, Hash, Null, Split, Swap, JoinSeq, Send, Recv, Fork, JoinPar, End}
use Rattle.avm_code.specs.declared.program.Block.{Block}
use Rattle.avm_code.specs.Order.{RootComesFirst, IsInOrder, IsAt, code_called}
use Rattle.machine_tables.specs.Row.{Setting, Local, row}
use Rattle.avm_core.specs.declared.machine.Machine.{Machine}
use Rattle.avm_core.specs.declared.stepped.Stepped.{Stepped}
use Rattle.avm_core.specs.declared.stepped.Stepped.TheVariants.{Event, Silent, Sent, Forked, NeedsAnswer, NeedsReply, NeedsChild, Ended as Finished}
use Rattle.avm_core.specs.Machine.{AwaitsAnswer, AwaitsChild}
use Rattle.avm_core.specs.Steps.{deed_of, most_added}
use Rattle.evidence_types.specs.Evidence.{Evidence}
use Rattle.place_mail.specs.Mail.{Mail, after_reply}
use Rattle.branch_join.specs.declared.state.BlockState.{BlockState}
use Rattle.branch_join.specs.declared.state.BlockState.TheVariants.{NotStarted, Running, Ended}
use Rattle.branch_join.specs.Blocks.{Blocks, state_of, state_or, IsInTable, with_state, put_named, none_started, not_started, is_same}
use Rattle.branch_join.proofs.BlockLemmas.{state_of-with}
use Rattle.machine_world.specs.declared.runner.Runner.{Runner}
use Rattle.machine_world.specs.declared.world.World.{World}
use Rattle.machine_world.specs.Cells.{nobody}
use Rattle.machine_world.specs.World.{events_of, events_in, events_among, events_left, left_among, left_in, one_unless_over, not_over, HasRoomFor, HasRoom, empty_block}
use Rattle.machine_world.specs.Calls.{RunsAt, runner_at, requests_of, replies_of}
use Rattle.machine_world.proofs.NamedLemmas.{if_true, if_false}
use Rattle.machine_world.proofs.BlockFrames.{same_block}

-- ---- the events of code

fewer : (at : ℕ) (code : List Instr) → events_in (drop at code) ≤ events_in code
fewer zero code = omega arith
fewer (suc at) [] = omega arith
fewer (suc at) (instr ∷ rest) = let h : events_in (drop at rest) ≤ events_in rest = fewer at rest in omega arith

over_by : (k : ℕ) (instr : Instr) (rest all : List Instr) → all ≡ instr ∷ rest → k ≤ events_of instr → events_in (drop 1 all) + k ≤ events_in all
over_by k instr rest all e h = subst (λ (l : List Instr). events_in (drop 1 l) + k ≤ events_in l) (sym e) (omega arith)

-- what a row leaves, and what it adds
pub row-left : (setting : Setting) (instr : Instr) (rest : List Instr) (held : Local) → held.rest ≡ instr ∷ rest → events_in (row setting instr held).1.rest + most_added (row setting instr held).0 ≤ events_in held.rest
row-left setting (Copy i) rest held e = over_by 1 (Copy i) rest held.rest e (omega arith)
row-left setting (Usm i asp) rest held e = omega arith
row-left setting (Kim i target asp) rest held e = omega arith
row-left setting (Sign i) rest held e = over_by 1 (Sign i) rest held.rest e (omega arith)
row-left setting (Hash i) rest held e = over_by 1 (Hash i) rest held.rest e (omega arith)
row-left setting (Null i) rest held e = over_by 1 (Null i) rest held.rest e (omega arith)
row-left setting (Split i split) rest held e = over_by 1 (Split i split) rest held.rest e (omega arith)
row-left setting Swap rest held e = over_by 0 Swap rest held.rest e (omega arith)
row-left setting (JoinSeq i) rest held e = over_by 1 (JoinSeq i) rest held.rest e (omega arith)
row-left setting (Send i asked) rest held e = over_by 1 (Send i asked) rest held.rest e (omega arith)
row-left setting (Recv j i) rest held e = omega arith
row-left setting (Fork i split) rest held e = over_by 1 (Fork i split) rest held.rest e (omega arith)
row-left setting (JoinPar j i) rest held e = omega arith
row-left setting End rest held e = omega arith

answer_counts : (instr : Instr) → AwaitsAnswer instr → 1 ≤ events_of instr
answer_counts (Usm i asp) a = omega arith
answer_counts (Kim i target asp) a = omega arith
answer_counts (Copy i) a = elim a [ ]
answer_counts (Sign i) a = elim a [ ]
answer_counts (Hash i) a = elim a [ ]
answer_counts (Null i) a = elim a [ ]
answer_counts (Split i split) a = elim a [ ]
answer_counts Swap a = elim a [ ]
answer_counts (JoinSeq i) a = elim a [ ]
answer_counts (Send i asked) a = elim a [ ]
answer_counts (Recv j i) a = elim a [ ]
answer_counts (Fork i split) a = elim a [ ]
answer_counts (JoinPar j i) a = elim a [ ]
answer_counts End a = elim a [ ]

child_counts : (instr : Instr) → AwaitsChild instr → 1 ≤ events_of instr
child_counts (JoinPar j i) a = omega arith
child_counts (Usm i asp) a = elim a [ ]
child_counts (Kim i target asp) a = elim a [ ]
child_counts (Copy i) a = elim a [ ]
child_counts (Sign i) a = elim a [ ]
child_counts (Hash i) a = elim a [ ]
child_counts (Null i) a = elim a [ ]
child_counts (Split i split) a = elim a [ ]
child_counts Swap a = elim a [ ]
child_counts (JoinSeq i) a = elim a [ ]
child_counts (Send i asked) a = elim a [ ]
child_counts (Recv j i) a = elim a [ ]
child_counts (Fork i split) a = elim a [ ]
child_counts End a = elim a [ ]

pub answered-left : (instr : Instr) (rest all : List Instr) → all ≡ instr ∷ rest → AwaitsAnswer instr → events_in (drop 1 all) + 1 ≤ events_in all
answered-left instr rest all e a = over_by 1 instr rest all e (answer_counts instr a)

pub joined-left : (instr : Instr) (rest all : List Instr) → all ≡ instr ∷ rest → AwaitsChild instr → events_in (drop 1 all) + 1 ≤ events_in all
joined-left instr rest all e a = over_by 1 instr rest all e (child_counts instr a)

pub replied-left : (all : List Instr) → events_in (drop 1 all) + 0 ≤ events_in all
replied-left all = let h : events_in (drop 1 all) ≤ events_in all = fewer 1 all in omega arith

pub sent-added : (values : List Evidence) (stepped : Stepped) → requests_of stepped ≤ most_added (deed_of values stepped)
sent-added values (Event i) = omega arith
sent-added values Silent = omega arith
sent-added values (Sent i place id) = omega arith
sent-added values (Forked i id) = omega arith
sent-added values (NeedsAnswer i) = omega arith
sent-added values (NeedsReply j i) = omega arith
sent-added values (NeedsChild j i) = omega arith
sent-added values (Finished id) = omega arith

-- ---- what is left to blocks

at_most : (block : Block) (state : BlockState) (machine : Machine) → events_left block state machine ≤ events_in block.code
at_most block NotStarted machine = omega arith
at_most block Running machine = fewer machine.at block.code
at_most block (Ended id) machine = omega arith

pub all-left : (table : Blocks) (blocks : List Block) (runners : List Runner) → left_among table blocks runners ≤ events_among blocks
all-left table [] runners = omega arith
all-left table (block ∷ blocks) [] = omega arith
all-left table (block ∷ blocks) (runner ∷ runners) =
    let h : events_left block (state_of table block.name) runner.machine ≤ events_in block.code = at_most block (state_of table block.name) runner.machine in
    let t : left_among table blocks runners ≤ events_among blocks = all-left table blocks runners in
    omega arith

-- one of them
pub one-left : (table : Blocks) (blocks : List Block) (runners : List Runner) (index : ℕ) → index < length blocks → index < length runners
    → events_left (slice_index_or blocks index empty_block) (state_of table (slice_index_or blocks index empty_block).name) (slice_index_or runners index nobody).machine ≤ left_among table blocks runners
one-left table [] runners index h k = absurd (omega arith)
one-left table (block ∷ blocks) [] index h k = absurd (omega arith)
one-left table (block ∷ blocks) (runner ∷ runners) zero h k = omega arith
one-left table (block ∷ blocks) (runner ∷ runners) (suc index) h k =
    let t : events_left (slice_index_or blocks index empty_block) (state_of table (slice_index_or blocks index empty_block).name) (slice_index_or runners index nobody).machine ≤ left_among table blocks runners = one-left table blocks runners index (omega arith) (omega arith) in
    omega arith

-- a machine holds something else
left_set : (table : Blocks) (blocks : List Block) (runners : List Runner) (index k : ℕ) (now : Runner) → index < length blocks → index < length runners
    → events_left (slice_index_or blocks index empty_block) (state_of table (slice_index_or blocks index empty_block).name) now.machine + k ≤ events_left (slice_index_or blocks index empty_block) (state_of table (slice_index_or blocks index empty_block).name) (slice_index_or runners index nobody).machine
    → left_among table blocks (slice_set runners index now) + k ≤ left_among table blocks runners
left_set table [] runners index k now h l e = absurd (omega arith)
left_set table (block ∷ blocks) [] index k now h l e = absurd (omega arith)
left_set table (block ∷ blocks) (runner ∷ runners) zero k now h l e =
    let a : events_left block (state_of table block.name) now.machine + k ≤ events_left block (state_of table block.name) runner.machine = e in omega arith
left_set table (block ∷ blocks) (runner ∷ runners) (suc index) k now h l e =
    let t : left_among table blocks (slice_set runners index now) + k ≤ left_among table blocks runners = left_set table blocks runners index k now (omega arith) (omega arith) e in
    omega arith

-- blocks stand otherwise
left_table : (table changed : Blocks) (blocks : List Block) (runners : List Runner) → ((block : Block) (machine : Machine) → events_left block (state_of changed block.name) machine ≤ events_left block (state_of table block.name) machine) → left_among changed blocks runners ≤ left_among table blocks runners
left_table table changed [] runners f = omega arith
left_table table changed (block ∷ blocks) [] f = omega arith
left_table table changed (block ∷ blocks) (runner ∷ runners) f =
    let h : events_left block (state_of changed block.name) runner.machine ≤ events_left block (state_of table block.name) runner.machine = f block runner.machine in
    let t : left_among changed blocks runners ≤ left_among table blocks runners = left_table table changed blocks runners f in
    omega arith

module _ (table : Blocks) (name : BlockName) (state : BlockState) (there : IsInTable table name) where
  lower : ((block : Block) (machine : Machine) → events_left block state machine ≤ events_left block (state_of table name) machine) → (block : Block) (machine : Machine) → events_left block (state_of (with_state name state table) block.name) machine ≤ events_left block (state_of table block.name) machine
  lower f block machine = elim (cases_Bool (is_same name block.name)) [
    | inl hit ↦
        subst (λ (s : BlockState). events_left block s machine ≤ events_left block (state_of table block.name) machine)
        (sym (state_of-with table name block.name state there ∙ if_true (is_same name block.name) state (state_of table block.name) hit))
        (subst (λ (n : BlockName). events_left block state machine ≤ events_left block (state_of table n) machine) (same_block name block.name hit) (f block machine))
    | inr miss ↦
        subst (λ (s : BlockState). events_left block s machine ≤ events_left block (state_of table block.name) machine)
        (sym (state_of-with table name block.name state there ∙ if_false (is_same name block.name) state (state_of table block.name) miss))
        (omega arith)
  ]

  left_with : (blocks : List Block) (runners : List Runner) → ((block : Block) (machine : Machine) → events_left block state machine ≤ events_left block (state_of table name) machine) → left_among (with_state name state table) blocks runners ≤ left_among table blocks runners
  left_with blocks runners f = left_table table (with_state name state table) blocks runners (lower f)

started_left : (state : BlockState) → state ≡ NotStarted → (block : Block) (machine : Machine) → events_left block Running machine ≤ events_left block state machine
started_left state e block machine = subst (λ (s : BlockState). events_left block Running machine ≤ events_left block s machine) (sym e) (fewer machine.at block.code)

-- ---- blocks that aren't over

some_same : {A : Type 0} {x y : A} → Some x ≡ Some y → x ≡ y
some_same e = cc

over_if : (b : Bool) (entry : ℕ × BlockState) (rest changed : List (ℕ × BlockState)) (number : ℕ) (state was : BlockState) (found : Option BlockState) → (if b then Some entry.1 else found) ≡ Some was → (found ≡ Some was → not_over changed + one_unless_over was ≤ not_over rest + one_unless_over state)
    → not_over (if b then (number, state) ∷ rest else entry ∷ changed) + one_unless_over was ≤ not_over (entry ∷ rest) + one_unless_over state
over_if true entry rest changed number state was found e f =
    let same : one_unless_over entry.1 ≡ one_unless_over was = ap one_unless_over (some_same e) in omega arith
over_if false entry rest changed number state was found e f =
    let h : not_over changed + one_unless_over was ≤ not_over rest + one_unless_over state = f e in omega arith

over_set : (number : ℕ) (state was : BlockState) (entries : List (ℕ × BlockState)) → find number entries ≡ Some was → not_over (replaced number state entries) + one_unless_over was ≤ not_over entries + one_unless_over state
over_set number state was [] e = cc
over_set number state was (entry ∷ rest) e =
    over_if (nat_eq entry.0 number) entry rest (replaced number state rest) number state was (find number rest) e (over_set number state was rest)

found_running : (found : Option BlockState) → state_or found ≡ Running → found ≡ Some Running
found_running None e = cc
found_running (Some state) e = ap Some e

found_not : (found : Option BlockState) → IsSome found → state_or found ≡ NotStarted → found ≡ Some NotStarted
found_not None there e = cc
found_not (Some state) there e = ap Some e

over_started : (table : Blocks) (name : BlockName) → IsInTable table name → state_of table name ≡ NotStarted → not_over (with_state name Running table).others ≤ not_over table.others
over_started table Root there e = omega arith
over_started table (Of number) there e =
    let h : not_over (replaced number Running table.others) + 1 ≤ not_over table.others + 1 = over_set number Running NotStarted table.others (found_not (find number table.others) there e) in
    omega arith

over_ended : (table : Blocks) (name : BlockName) (id : ℕ) → state_of table name ≡ Running → not_over (with_state name (Ended id) table).others + replies_of name ≤ not_over table.others
over_ended table Root id e = omega arith
over_ended table (Of number) id e =
    let h : not_over (replaced number (Ended id) table.others) + 1 ≤ not_over table.others + 0 = over_set number (Ended id) Running table.others (found_running (find number table.others) e) in
    omega arith

-- ---- a world has room

module _ (world : World) where
  -- a reply is taken
  pub room-reply_taken : (mail : Mail) (number : ℕ) → mail ≡ after_reply number world.mail → HasRoom world → HasRoom (record world { mail = mail })
  room-reply_taken mail number e r =
      subst (λ (m : Mail). HasRoom (record world { mail = m })) (sym e) (record { spare = r.spare; posts = r.posts; replies = r.replies })

  -- a block starts
  pub room-begun : (name : BlockName) (index : ℕ) (now : Runner) (table : Blocks) → IsInTable world.table name → state_of world.table name ≡ NotStarted → IsAt world.program name index → index < length world.runners.items → table ≡ with_state name Running world.table → HasRoom world
      → HasRoom (record world { table = table; runners = with_item world.runners index now })
  room-begun name index now table there fresh at within e r =
      let block = slice_index_or world.program index empty_block in
      let fresh_there : state_of world.table block.name ≡ NotStarted = ap (state_of world.table) (at.named empty_block) ∙ fresh in
      let held : left_among world.table world.program (slice_set world.runners.items index now) + 0 ≤ left_in world =
      left_set world.table world.program world.runners.items index 0 now at.within within
      (subst (λ (s : BlockState). events_left block s now.machine + 0 ≤ events_left block s (slice_index_or world.runners.items index nobody).machine) (sym fresh_there) (omega arith)) in
      let begun : left_among (with_state name Running world.table) world.program (slice_set world.runners.items index now) ≤ left_among world.table world.program (slice_set world.runners.items index now) =
      left_with world.table name Running there world.program (slice_set world.runners.items index now) (started_left (state_of world.table name) fresh) in
      let others : not_over (with_state name Running world.table).others ≤ not_over world.table.others = over_started world.table name there fresh in
      let spare : left_in world ≤ world.store.spare = r.spare in
      let posts : left_in world + 0 ≤ world.mail.posts = r.posts in
      let replies : not_over world.table.others + 0 ≤ world.mail.replies = r.replies in
      subst (λ (t : Blocks). HasRoom (record world { table = t; runners = with_item world.runners index now })) (sym e)
      (record { spare = omega arith; posts = omega arith; replies = omega arith })

  -- a block ends
  pub room-ended : (name : BlockName) (id : ℕ) (table : Blocks) → IsInTable world.table name → state_of world.table name ≡ Running → table ≡ with_state name (Ended id) world.table → HasRoom world → HasRoomFor 0 (replies_of name) (record world { table = table })
  room-ended name id table there runs e r =
      let fewer : left_among (with_state name (Ended id) world.table) world.program world.runners.items ≤ left_in world =
      left_with world.table name (Ended id) there world.program world.runners.items (λ block machine. omega arith) in
      let others : not_over (with_state name (Ended id) world.table).others + replies_of name ≤ not_over world.table.others = over_ended world.table name id runs in
      let spare : left_in world ≤ world.store.spare = r.spare in
      let posts : left_in world + 0 ≤ world.mail.posts = r.posts in
      let replies : not_over world.table.others + 0 ≤ world.mail.replies = r.replies in
      subst (λ (t : Blocks). HasRoomFor 0 (replies_of name) (record world { table = t })) (sym e)
      (record { spare = omega arith; posts = omega arith; replies = omega arith })

  -- what is left to a block that runs
  module _ (name : BlockName) (index : ℕ) (at : RunsAt world name index) where
    left_here : (machine : Machine) → events_left (slice_index_or world.program index empty_block) (state_of world.table (slice_index_or world.program index empty_block).name) machine ≡ events_in (drop machine.at (code_called world.program name))
    left_here machine =
        ap (λ (n : BlockName). events_left (slice_index_or world.program index empty_block) (state_of world.table n) machine) (at.is.named empty_block)
        ∙ ap (λ (s : BlockState). events_left (slice_index_or world.program index empty_block) s machine) at.running
        ∙ ap (λ (c : List Instr). events_in (drop machine.at c)) (at.is.code empty_block)

    pub left-here : events_in (drop (runner_at world index).machine.at (code_called world.program name)) ≤ left_in world
    left-here =
        subst (λ (n : ℕ). n ≤ left_in world) (left_here (runner_at world index).machine)
        (one-left world.table world.program world.runners.items index at.is.within at.within)

    -- its machine goes on, and makes so many events
    pub left-held : (now : Runner) (k : ℕ) → events_in (drop now.machine.at (code_called world.program name)) + k ≤ events_in (drop (runner_at world index).machine.at (code_called world.program name)) → left_among world.table world.program (slice_set world.runners.items index now) + k ≤ left_in world
    left-held now k h =
        left_set world.table world.program world.runners.items index k now at.is.within at.within
        (subst (λ (n : ℕ). n + k ≤ events_left (slice_index_or world.program index empty_block) (state_of world.table (slice_index_or world.program index empty_block).name) (runner_at world index).machine) (sym (left_here now.machine))
        (subst (λ (n : ℕ). events_in (drop now.machine.at (code_called world.program name)) + k ≤ n) (sym (left_here (runner_at world index).machine)) h))

    pub room-held : (now : Runner) (k requests : ℕ) (store : Kept) → events_in (drop now.machine.at (code_called world.program name)) + k ≤ events_in (drop (runner_at world index).machine.at (code_called world.program name)) → world.store.spare ≤ store.spare + k → requests ≤ k → HasRoom world
        → HasRoomFor requests 0 (record world { store = store; runners = with_item world.runners index now })
    room-held now k requests store h fell few r =
        let held : left_among world.table world.program (slice_set world.runners.items index now) + k ≤ left_in world = left-held now k h in
        let spare : left_in world ≤ world.store.spare = r.spare in
        let posts : left_in world + 0 ≤ world.mail.posts = r.posts in
        record { spare = omega arith; posts = omega arith; replies = r.replies }

-- ---- a reply that isn't there

gone_if : (b : Bool) (entry : ℕ × ℕ) (rest gone : List (ℕ × ℕ)) (found : Option ℕ) → (if b then Some entry.1 else found) ≡ None → (found ≡ None → gone ≡ rest) → (if b then rest else entry ∷ gone) ≡ entry ∷ rest
gone_if true entry rest gone found e f = cc
gone_if false entry rest gone found e f = ap (λ (t : List (ℕ × ℕ)). entry ∷ t) (f e)

pub removed-none : (number : ℕ) (entries : List (ℕ × ℕ)) → find number entries ≡ None → removed number entries ≡ entries
removed-none number [] e = refl
removed-none number (entry ∷ rest) e = gone_if (nat_eq entry.0 number) entry rest (removed number rest) (find number rest) e (removed-none number rest)

-- ---- a world that opens

none_over : (blocks : List Block) → not_over (none_started blocks) ≤ length blocks
none_over [] = omega arith
none_over (block ∷ rest) = named_over block.name (none_started rest) (length rest) (none_over rest)
  where
    named_over : (name : BlockName) (others : List (ℕ × BlockState)) (count : ℕ) → not_over others ≤ count → not_over (put_named name others) ≤ suc count
    named_over Root others count h = omega arith
    named_over (Of number) others count h = omega arith

none_over_in : (blocks : List Block) (place : List ℕ) (end : ℕ) → RootComesFirst blocks place end → not_over (none_started blocks) + 1 ≤ length blocks
none_over_in [] place end r = elim r [ ]
none_over_in (block ∷ rest) place end r =
    let h : not_over (none_started rest) ≤ length rest = none_over rest in
    subst (λ (n : BlockName). not_over (put_named n (none_started rest)) + 1 ≤ suc (length rest)) (sym r.0) (omega arith)

pub none-over : (blocks : List Block) → IsInOrder blocks → not_over (not_started blocks).others + 1 ≤ length blocks
none-over blocks order = none_over_in blocks order.place order.end order.order
