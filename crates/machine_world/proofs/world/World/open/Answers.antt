use Rattle.std.proofs.Common.{ℕ, List, [], ◌∷◌, ◌++◌, Result, IfOk, length, map, replicate, ap, ◌∙◌, subst, arith}
use Rattle.phrase_tree.specs.declared.memory.NoMemory.{NoMemory}
use Rattle.evidence_types.specs.Evidence.{Evidence, nonce}
use Rattle.evidence_store.specs.Kept.{IsAdded}
use Rattle.avm_code.specs.declared.instr.BlockName.TheVariants.{Root}
use Rattle.avm_code.specs.declared.program.Block.{Block}
use Rattle.branch_join.specs.declared.state.BlockState.TheVariants.{Running}
use Rattle.branch_join.specs.Blocks.{Blocks, with_state}
use Rattle.machine_world.specs.declared.world.World.{World}
use Rattle.machine_world.specs.World.{RunTogether, Starts, waiter_of}
use Rattle.machine_world.proofs.OpenLemmas.{IsOpened, opened-world, opened-room, opened-tables}
use Rattle.machine_world.proofs.world.World.open.Goals as goal

pub returns-clause-world : goal.returns-clause-world
returns-clause-world c =
    let world : World = record { program = c.args.program; places = c.args.places; store = c.nonce.new.self; table = c.start.new.self; mail = c.in_ok-mail.mail; runners = c.in_ok-runners.runners; waiters = c.in_ok-waiters.waiters } in
    let added : IsAdded c.in_ok-store.store.values (nonce c.args.nonce.now) c.nonce.new.self.values c.in_ok-first.first = subst (λ (r : Result ℕ NoMemory). IfOk r (IsAdded c.in_ok-store.store.values (nonce c.args.nonce.now) c.nonce.new.self.values)) c.in_ok-first.was c.nonce.ensures.added in
    let opened : IsOpened world (nonce c.args.nonce.now) c.in_ok-first.first = record {
      values = added.grown ∙ ap (λ (values : List Evidence). values ++ nonce c.args.nonce.now ∷ []) c.in_ok-store.ensures.empty;
      first = added.place ∙ ap length c.in_ok-store.ensures.empty;
      runners = subst (λ (blocks : List Block). RunTogether (Starts c.in_ok-first.first) blocks c.in_ok-runners.runners.items) c.items.ensures c.in_ok-runners.ensures.together;
      arms = c.in_ok-runners.ensures.arms;
      waiters = c.in_ok-waiters.ensures ∙ ap (λ (blocks : List Block). map (waiter_of blocks) blocks) c.items-2.ensures;
      requests = c.in_ok-mail.ensures.empty.0 ∙ ap (λ (n : ℕ). replicate n []) (c.len.ensures ∙ c.args.places.ok.0);
      answers = c.in_ok-mail.ensures.empty.1;
      table = c.start.ensures ∙ ap (λ (t : Blocks). with_state Root Running t) c.in_ok-table.ensures;
    } in
    λ keys can. opened-world world (nonce c.args.nonce.now) c.in_ok-first.first opened keys can

pub returns-clause-room : goal.returns-clause-room
returns-clause-room c =
    let world : World = record { program = c.args.program; places = c.args.places; store = c.nonce.new.self; table = c.start.new.self; mail = c.in_ok-mail.mail; runners = c.in_ok-runners.runners; waiters = c.in_ok-waiters.waiters } in
    let added : IsAdded c.in_ok-store.store.values (nonce c.args.nonce.now) c.nonce.new.self.values c.in_ok-first.first = subst (λ (r : Result ℕ NoMemory). IfOk r (IsAdded c.in_ok-store.store.values (nonce c.args.nonce.now) c.nonce.new.self.values)) c.in_ok-first.was c.nonce.ensures.added in
    let opened : IsOpened world (nonce c.args.nonce.now) c.in_ok-first.first = record {
      values = added.grown ∙ ap (λ (values : List Evidence). values ++ nonce c.args.nonce.now ∷ []) c.in_ok-store.ensures.empty;
      first = added.place ∙ ap length c.in_ok-store.ensures.empty;
      runners = subst (λ (blocks : List Block). RunTogether (Starts c.in_ok-first.first) blocks c.in_ok-runners.runners.items) c.items.ensures c.in_ok-runners.ensures.together;
      arms = c.in_ok-runners.ensures.arms;
      waiters = c.in_ok-waiters.ensures ∙ ap (λ (blocks : List Block). map (waiter_of blocks) blocks) c.items-2.ensures;
      requests = c.in_ok-mail.ensures.empty.0 ∙ ap (λ (n : ℕ). replicate n []) (c.len.ensures ∙ c.args.places.ok.0);
      answers = c.in_ok-mail.ensures.empty.1;
      table = c.start.ensures ∙ ap (λ (t : Blocks). with_state Root Running t) c.in_ok-table.ensures;
    } in
    let order = c.requires.can_play.1.runs.order in
    let taken = (c.nonce.ensures.in_spare (let s = c.in_ok-store.ensures.spare in omega (arith, s))).1 in
    let spare = c.in_ok-store.ensures.spare in
    opened-room world (nonce c.args.nonce.now) c.in_ok-first.first opened c.args.events order c.requires.counted (omega (arith, taken, spare)) c.in_ok-mail.ensures.room.0 c.in_ok-mail.ensures.room.1

pub returns-clause-opens : goal.returns-clause-opens
returns-clause-opens c =
    let world : World = record { program = c.args.program; places = c.args.places; store = c.nonce.new.self; table = c.start.new.self; mail = c.in_ok-mail.mail; runners = c.in_ok-runners.runners; waiters = c.in_ok-waiters.waiters } in
    let added : IsAdded c.in_ok-store.store.values (nonce c.args.nonce.now) c.nonce.new.self.values c.in_ok-first.first = subst (λ (r : Result ℕ NoMemory). IfOk r (IsAdded c.in_ok-store.store.values (nonce c.args.nonce.now) c.nonce.new.self.values)) c.in_ok-first.was c.nonce.ensures.added in
    let opened : IsOpened world (nonce c.args.nonce.now) c.in_ok-first.first = record {
      values = added.grown ∙ ap (λ (values : List Evidence). values ++ nonce c.args.nonce.now ∷ []) c.in_ok-store.ensures.empty;
      first = added.place ∙ ap length c.in_ok-store.ensures.empty;
      runners = subst (λ (blocks : List Block). RunTogether (Starts c.in_ok-first.first) blocks c.in_ok-runners.runners.items) c.items.ensures c.in_ok-runners.ensures.together;
      arms = c.in_ok-runners.ensures.arms;
      waiters = c.in_ok-waiters.ensures ∙ ap (λ (blocks : List Block). map (waiter_of blocks) blocks) c.items-2.ensures;
      requests = c.in_ok-mail.ensures.empty.0 ∙ ap (λ (n : ℕ). replicate n []) (c.len.ensures ∙ c.args.places.ok.0);
      answers = c.in_ok-mail.ensures.empty.1;
      table = c.start.ensures ∙ ap (λ (t : Blocks). with_state Root Running t) c.in_ok-table.ensures;
    } in
    opened-tables world (nonce c.args.nonce.now) c.in_ok-first.first opened c.requires.can_play.1.runs.order
