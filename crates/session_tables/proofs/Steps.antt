-- A step of a block shows the move: what the tables hold afterwards is what the configuration then says.
use Rattle.std.proofs.Common.{◌≡◌, ℕ, ◌⊎◌, inl, inr, List, [], ◌∷◌, ◌++◌, refl, sym, ◌∙◌, ap, subst}
use Rattle.std.specs.Prelude.{Bool, true, false, Option, None, Some, nat_eq, if◌then◌else◌}
use Rattle.std.specs.Cmp.Lexicographic.{pointwise, same_text}
use Rattle.std.proofs.lemmas.Bool.{cases_eq, eq-eqb, eqb-true}
use Rattle.phrase_tree.specs.Term.{Term}
use Rattle.evidence_types.specs.Evidence.{Evidence}
use Rattle.avm_code.specs.declared.instr.Instr.TheVariants.{End}
use Rattle.avm_code.specs.declared.program.Block.{Block as CodeBlock}
use Rattle.avm_compile.specs.Laws.{IsBlockOf}
use Rattle.machine_tables.specs.Row.{Local}
use Rattle.machine_tables.specs.Tables.{BlockState, running, Tables, same_name, put_block, put_ask, started, posts, forks, takes, joins, lifts, trace_after, after_change, after_machine}
use Rattle.avm_code.specs.Order.{first_code}
use Rattle.session_runs.specs.Configuration.{Configuration, start}
use Rattle.session_runs.specs.Moves.{Effect, silent, happens, sends, asks, answers, starts}
use Rattle.session_runs.specs.Standing.{Block, root, of, State, is_open, Standing, after}
use Rattle.session_tables.specs.Left.{told_or, Left, left_of}
use Rattle.session_tables.specs.Found.{View, unseen, asks_for, waits, runs, replied, joinable, found, found_block}
use Rattle.session_tables.specs.Shown.{Holds, IsIdle, Stands, reply_in, asker_in, asker_of, AllWait, IsMadeOf, IsMadeWhile, numbers_at, numbers, passes_for, pass_of, IsShown}
use Rattle.session_tables.proofs.Starting.{start_code, start_held, start_stack}
use Rattle.session_tables.proofs.Fitting.{if_other, if_same}
use Rattle.session_tables.proofs.OwnMoves.{IsPlain}
use Rattle.session_tables.proofs.Lists.{if_true, if_false, either_way, numbers_more, numbers_last, still_wait, more_waits}

same_name_is : (a b : Block) → same_name a b ≡ true → a ≡ b
same_name_is root root e = refl
same_name_is root (of m) e = absurd (cc)
same_name_is (of n) root e = absurd (cc)
same_name_is (of n) (of m) e = ap of (eqb-true n m e)

same_name_itself : (a : Block) → same_name a a ≡ true
same_name_itself root = refl
same_name_itself (of n) = eq-eqb n n refl

-- the same name or not
pub names : (a b : Block) → (a ≡ b) ⊎ (a ≡ b → ⊥)
names a b = elim (either_way (same_name a b)) [
  | inl e ↦ inl (same_name_is a b e)
  | inr e ↦ inr (λ is. true_false (same_name a b) (subst (λ x. same_name a x ≡ true) is (same_name_itself a)) e)
]
  where
    true_false : (b : Bool) → b ≡ true → b ≡ false → ⊥
    true_false b t f = absurd (cc)

-- what holds of a new entry of a table and of the old ones elsewhere
pub put_block_law : (P : Block → BlockState → Type 0) (name : Block) (state : BlockState) (blocks : Block → BlockState) → P name state → ((other : Block) → (name ≡ other → ⊥) → P other (blocks other)) → (other : Block) → P other (put_block name state blocks other)
put_block_law P name state blocks here there other = elim (either_way (same_name name other)) [
  | inl e ↦ subst (λ s. P other s) (sym (if_true BlockState (same_name name other) state (blocks other) e)) (subst (λ x. P x state) (same_name_is name other e) here)
  | inr e ↦ subst (λ s. P other s) (sym (if_false BlockState (same_name name other) state (blocks other) e)) (there other (λ is. not_itself is e))
]
  where
    not_itself : name ≡ other → same_name name other ≡ false → ⊥
    not_itself is e =
        let t : same_name name other ≡ true = subst (λ x. same_name name x ≡ true) is (same_name_itself name) in
        absurd (cc)

pub put_at_law : (A : Type 0) (P : ℕ → A → Type 0) (n : ℕ) (value : A) (values : ℕ → A) → P n value → ((k : ℕ) → (k ≡ n → ⊥) → P k (values k)) → (k : ℕ) → P k (if nat_eq n k then value else values k)
put_at_law A P n value values here there k = elim (cases_eq n k) [
  | inl is ↦ subst (λ x. P k x) (sym (if_same A n k value (values k) is)) (subst (λ j. P j value) is here)
  | inr ne ↦ subst (λ x. P k x) (sym (if_other A n k value (values k) ne)) (there k (λ e. ne (sym e)))
]

-- a step of a block, of what is said of the blocks: it goes on, and all others stay but for the one of a number
pub record Goes (name : Block) (for_request : Bool) (c d : Configuration) (old_left new_left : Left) (spares : ℕ → Type 0) : Type 0 where
  pub was : found_block c name ≡ runs for_request old_left
  pub now : found_block d name ≡ runs for_request new_left
  pub root_stays : (name ≡ root → ⊥) → found_block d root ≡ found_block c root
  pub others : (n : ℕ) → (name ≡ of n → ⊥) → spares n → found root d n ≡ found root c n

pub record GoesAt (name : Block) (for_request : Bool) (c d : Configuration) (old_left new_left : Left) (i : ℕ) (old new : View) : Type 0 where
  pub goes : Goes name for_request c d old_left new_left (λ n. n ≡ i → ⊥)
  pub apart : name ≡ of i → ⊥
  pub was_there : found root c i ≡ old
  pub now_there : found root d i ≡ new

module _ (name : Block) (for_request : Bool) (c d : Configuration) (old_left new_left : Left) (spares : ℕ → Type 0) (g : Goes name for_request c d old_left new_left spares) where
  -- what is read off a number stays
  pub read_same : (A : Type 0) (f : View → A) (z : A) → ((l : Left) → f (runs for_request l) ≡ z) → (n : ℕ) → spares n → f (found root d n) ≡ f (found root c n)
  read_same A f z of_running n spared = elim (names name (of n)) [
    | inl is ↦
        let was_running : found root c n ≡ runs for_request old_left = subst (λ x. found_block c x ≡ runs for_request old_left) is g.was in
        let now_running : found root d n ≡ runs for_request new_left = subst (λ x. found_block d x ≡ runs for_request new_left) is g.now in
        ap f now_running ∙ of_running new_left ∙ sym (ap f was_running ∙ of_running old_left)
    | inr ne ↦ ap f (g.others n ne spared)
  ]

  -- a request that waits isn't the block
  not_waiting : (k : ℕ) (before : Evidence) → found root c k ≡ waits before → name ≡ of k → ⊥
  not_waiting k before e is =
      let was_running : found root c k ≡ runs for_request old_left = subst (λ x. found_block c x ≡ runs for_request old_left) is g.was in
      different (sym was_running ∙ e)
    where
      different : runs for_request old_left ≡ waits before → ⊥
      different h = cc

  pub waits_still : ((k : ℕ) (before : Evidence) → found root c k ≡ waits before → spares k) → (k : ℕ) (before : Evidence) → found root c k ≡ waits before → found root d k ≡ waits before
  waits_still f k before e = g.others k (not_waiting k before e) (f k before e) ∙ e

  -- the blocks, where the machine of this one holds what is left
  pub blocks_stand : (t : Tables) (made : IsMadeOf c t) (l : Local) → Holds new_left l → ((k : ℕ) → (name ≡ of k → ⊥) → Stands (found root d k) (t.blocks (of k)) ⊎ spares k) → (other : Block) → Stands (found_block d other) (put_block name (running for_request l) t.blocks other)
  blocks_stand t made l holds f =
      put_block_law (λ other state. Stands (found_block d other) state) name (running for_request l) t.blocks
      (subst (λ v. Stands v (running for_request l)) (sym g.now) (refl, holds))
      there
    where
      there : (other : Block) → (name ≡ other → ⊥) → Stands (found_block d other) (t.blocks other)
      there root ne = subst (λ v. Stands v (t.blocks root)) (sym (g.root_stays ne)) (made.blocks root)
      there (of k) ne = elim (f k ne) [
        | inl stands ↦ stands
        | inr spared ↦ subst (λ v. Stands v (t.blocks (of k))) (sym (g.others k ne spared)) (made.blocks (of k))
      ]

-- a view that isn't said to wait
never_waits : (v w : View) (before : Evidence) → v ≡ w → v ≡ waits before → (w ≡ waits before → ⊥) → ⊥
never_waits v w before e h f = f (sym e ∙ h)

spared_or : (Q : Type 0) (k i : ℕ) → (k ≡ i → Q) → Q ⊎ (k ≡ i → ⊥)
spared_or Q k i f = elim (cases_eq k i) [
  | inl is ↦ inl (f is)
  | inr ne ↦ inr ne
]

module _ (name : Block) (for_request : Bool) (c d : Configuration) (old_left new_left : Left) where
  -- what waits, where the number that changes doesn't
  wait_spared : (i : ℕ) (old new : View) → GoesAt name for_request c d old_left new_left i old new → ((before : Evidence) → old ≡ waits before → ⊥) → (k : ℕ) (before : Evidence) → found root c k ≡ waits before → found root d k ≡ waits before
  wait_spared i old new g no_wait =
      waits_still name for_request c d old_left new_left (λ n. n ≡ i → ⊥) g.goes (λ k before e is. no_wait before (sym g.was_there ∙ subst (λ n. found root c n ≡ waits before) is e))

  -- the blocks, where the one that changes stands as is said of it now
  stand_at : (i : ℕ) (old new : View) → GoesAt name for_request c d old_left new_left i old new → (t : Tables) → IsMadeOf c t → (l : Local) → Holds new_left l → (Stands old (t.blocks (of i)) → Stands new (t.blocks (of i))) → (other : Block) → Stands (found_block d other) (put_block name (running for_request l) t.blocks other)
  stand_at i old new g t made l holds f =
      blocks_stand name for_request c d old_left new_left (λ n. n ≡ i → ⊥) g.goes t made l holds
      (λ k ne. spared_or (Stands (found root d k) (t.blocks (of k))) k i (λ is. subst (λ n. Stands (found root d n) (t.blocks (of n))) (sym is) (subst (λ v. Stands v (t.blocks (of i))) (sym g.now_there) (f (subst (λ v. Stands v (t.blocks (of i))) g.was_there (made.blocks (of i)))))))

  -- what is read off the numbers, where it is the same of the old and the new
  read_at : (A : Type 0) (f : View → A) (z : A) → ((l : Left) → f (runs for_request l) ≡ z) → (i : ℕ) (old new : View) → GoesAt name for_request c d old_left new_left i old new → f old ≡ f new → (n : ℕ) → f (found root d n) ≡ f (found root c n)
  read_at A f z of_running i old new g same n = elim (cases_eq n i) [
    | inl is ↦ subst (λ k. f (found root d k) ≡ f (found root c k)) (sym is) (ap f g.now_there ∙ sym same ∙ sym (ap f g.was_there))
    | inr ne ↦ read_same name for_request c d old_left new_left (λ k. k ≡ i → ⊥) g.goes A f z of_running n ne
  ]

  pub nothing_made : (t : Tables) → IsMadeOf c t → Goes name for_request c d old_left new_left (λ n. Unit {0}) → (effect : Effect) (l : Local) → Holds new_left l → IsMadeOf d (after_machine name for_request effect l t)
  nothing_made t made g effect l holds = record {
    blocks = blocks_stand name for_request c d old_left new_left (λ n. Unit {0}) g t made l holds (λ k ne. inr tt);
    requests = λ place. still_wait c d (t.requests place) (waits_still name for_request c d old_left new_left (λ n. Unit {0}) g (λ k before e. tt)) (made.requests place);
    replies = λ n. made.replies n ∙ sym (read_same name for_request c d old_left new_left (λ n. Unit {0}) g (Option Evidence) reply_in None (λ l. refl) n tt);
    in_flight = λ n. made.in_flight n ∙ sym (read_same name for_request c d old_left new_left (λ n. Unit {0}) g (Option Block) asker_in None (λ l. refl) n tt);
  }

  pub posts_made : (t : Tables) → IsMadeOf c t → (place : List ℕ) (i : ℕ) (before : Evidence) → GoesAt name for_request c d old_left new_left i unseen (waits before) → (effect : Effect) (l : Local) → Holds new_left l → (program : List CodeBlock) (pass : ℕ) → IsMadeOf d (after_change program pass name for_request (posts place i before) (after_machine name for_request effect l t))
  posts_made t made place i before g effect l holds program pass = record {
    blocks = stand_at i unseen (waits before) g t made l holds (λ idle. idle);
    requests = λ other. waiting other (pointwise nat_eq place other);
    replies = λ n. made.replies n ∙ sym (read_at (Option Evidence) reply_in None (λ l. refl) i unseen (waits before) g refl n);
    in_flight = λ n. made.in_flight n ∙ sym (read_at (Option Block) asker_in None (λ l. refl) i unseen (waits before) g refl n);
  }
    where
      still : (other : List ℕ) → AllWait d (t.requests other)
      still other = still_wait c d (t.requests other) (wait_spared i unseen (waits before) g (λ b e. absurd (cc))) (made.requests other)

      waiting : (other : List ℕ) (b : Bool) → AllWait d (if b then t.requests place ++ (i, before) ∷ [] else t.requests other)
      waiting other true = more_waits d (t.requests place) i before (still place) g.now_there
      waiting other false = still other

  pub forks_made : (t : Tables) → IsMadeOf c t → (program : List CodeBlock) (pass : ℕ) (i : ℕ) (before : Evidence) (place : List ℕ) (right : Term) (j : ℕ) → IsBlockOf program i place right j → GoesAt name for_request c d old_left new_left i unseen (runs false (left_of (start right j before))) → (effect : Effect) (l : Local) → Holds new_left l → IsMadeOf d (after_change program pass name for_request (forks i before) (after_machine name for_request effect l t))
  forks_made t made program pass i before place right j block g effect l holds = record {
    blocks = put_block_law (λ other state. Stands (found_block d other) state) (of i) (running false (started program (of i) before)) (put_block name (running for_request l) t.blocks)
        (subst (λ v. Stands v (running false (started program (of i) before))) (sym g.now_there) (refl, starts_so))
        elsewhere;
    requests = λ other. still_wait c d (t.requests other) (wait_spared i unseen _ g (λ b e. absurd (cc))) (made.requests other);
    replies = λ n. made.replies n ∙ sym (read_at (Option Evidence) reply_in None (λ l. refl) i unseen _ g refl n);
    in_flight = λ n. made.in_flight n ∙ sym (read_at (Option Block) asker_in None (λ l. refl) i unseen _ g refl n);
  }
    where
      starts_so : Holds (left_of (start right j before)) (started program (of i) before)
      starts_so = record {
        code = ap first_code block ∙ sym (start_code right j before (End ∷ []));
        evidence = ap (λ x. told_or x before) (start_held right j before);
        stack = sym (start_stack right j before []);
      }

      elsewhere : (other : Block) → (of i ≡ other → ⊥) → Stands (found_block d other) (put_block name (running for_request l) t.blocks other)
      elsewhere other ne = put_block_law (λ x state. (of i ≡ x → ⊥) → Stands (found_block d x) state) name (running for_request l) t.blocks
          (λ apart. subst (λ v. Stands v (running for_request l)) (sym g.goes.now) (refl, holds))
          there other ne
        where
          there : (x : Block) → (name ≡ x → ⊥) → (of i ≡ x → ⊥) → Stands (found_block d x) (t.blocks x)
          there root not_own apart = subst (λ v. Stands v (t.blocks root)) (sym (g.goes.root_stays not_own)) (made.blocks root)
          there (of k) not_own apart = subst (λ v. Stands v (t.blocks (of k))) (sym (g.goes.others k not_own (λ is. apart (ap of (sym is))))) (made.blocks (of k))

  pub takes_made : (t : Tables) → IsMadeOf c t → (program : List CodeBlock) (pass : ℕ) (i : ℕ) (result : Evidence) → GoesAt name for_request c d old_left new_left i (replied result) unseen → (effect : Effect) (l : Local) → Holds new_left l → IsMadeOf d (after_change program pass name for_request (takes i) (after_machine name for_request effect l t))
  takes_made t made program pass i result g effect l holds = record {
    blocks = stand_at i (replied result) unseen g t made l holds (λ idle. idle);
    requests = λ other. still_wait c d (t.requests other) (wait_spared i (replied result) unseen g (λ b e. absurd (cc))) (made.requests other);
    replies = put_at_law (Option Evidence) (λ n x. x ≡ reply_in (found root d n)) i None t.replies
        (sym (ap reply_in g.now_there))
        (λ n ne. made.replies n ∙ sym (read_same name for_request c d old_left new_left (λ k. k ≡ i → ⊥) g.goes (Option Evidence) reply_in None (λ l. refl) n ne));
    in_flight = λ n. made.in_flight n ∙ sym (read_at (Option Block) asker_in None (λ l. refl) i (replied result) unseen g refl n);
  }

  pub joins_made : (t : Tables) → IsMadeOf c t → (program : List CodeBlock) (pass : ℕ) (i : ℕ) (result : Evidence) → GoesAt name for_request c d old_left new_left i (joinable result) unseen → (effect : Effect) (l : Local) → Holds new_left l → IsMadeOf d (after_change program pass name for_request (joins i) (after_machine name for_request effect l t))
  joins_made t made program pass i result g effect l holds = record {
    blocks = stand_at i (joinable result) unseen g t made l holds (λ e. subst IsIdle (sym e) tt);
    requests = λ other. still_wait c d (t.requests other) (wait_spared i (joinable result) unseen g (λ b e. absurd (cc))) (made.requests other);
    replies = λ n. made.replies n ∙ sym (read_at (Option Evidence) reply_in None (λ l. refl) i (joinable result) unseen g refl n);
    in_flight = λ n. made.in_flight n ∙ sym (read_at (Option Block) asker_in None (λ l. refl) i (joinable result) unseen g refl n);
  }

  pub lifts_made : (t : Tables) → IsMadeOf c t → (program : List CodeBlock) (pass : ℕ) (i : ℕ) → GoesAt name for_request c d old_left new_left i unseen (asks_for name) → (effect : Effect) (l : Local) → Holds new_left l → IsMadeOf d (after_change program pass name for_request (lifts i) (after_machine name for_request effect l t))
  lifts_made t made program pass i g effect l holds = record {
    blocks = stand_at i unseen (asks_for name) g t made l holds (λ idle. idle);
    requests = λ other. still_wait c d (t.requests other) (wait_spared i unseen (asks_for name) g (λ b e. absurd (cc))) (made.requests other);
    replies = λ n. made.replies n ∙ sym (read_at (Option Evidence) reply_in None (λ l. refl) i unseen (asks_for name) g refl n);
    in_flight = put_at_law (Option (ℕ × Block)) (λ n x. asker_of x ≡ asker_in (found root d n)) i (Some (pass, name)) t.in_flight
        (sym (ap asker_in g.now_there))
        (λ n ne. made.in_flight n ∙ sym (read_same name for_request c d old_left new_left (λ k. k ≡ i → ⊥) g.goes (Option Block) asker_in None (λ l. refl) n ne));
  }

module _ (name : Block) (for_request : Bool) (c d : Configuration) (old_left new_left : Left) where
  -- an answer: the ask is in flight no more
  pub answers_made : (t : Tables) → IsMadeOf c t → (n : ℕ) (bytes : List ℕ) → GoesAt name for_request c d old_left new_left n (asks_for name) unseen → (l : Local) → Holds new_left l → IsMadeOf d (record t { blocks = put_block name (running for_request l) t.blocks; in_flight = put_ask n None t.in_flight; trace = t.trace ++ n ∷ []; answers = (n, bytes) ∷ t.answers })
  answers_made t made n bytes g l holds = record {
    blocks = stand_at name for_request c d old_left new_left n (asks_for name) unseen g t made l holds (λ idle. idle);
    requests = λ other. still_wait c d (t.requests other) (wait_spared name for_request c d old_left new_left n (asks_for name) unseen g (λ b e. absurd (cc))) (made.requests other);
    replies = λ k. made.replies k ∙ sym (read_at name for_request c d old_left new_left (Option Evidence) reply_in None (λ l. refl) n (asks_for name) unseen g refl k);
    in_flight = put_at_law (Option (ℕ × Block)) (λ k x. asker_of x ≡ asker_in (found root d k)) n None t.in_flight
        (sym (ap asker_in g.now_there))
        (λ k ne. made.in_flight k ∙ sym (read_same name for_request c d old_left new_left (λ j. j ≡ n → ⊥) g.goes (Option Block) asker_in None (λ l. refl) k ne));
  }

-- an effect on the standing
pub made_while : (state : State) (c : Configuration) (t : Tables) → state ≡ is_open → IsMadeOf c t → IsMadeWhile state c t
made_while state c t e made = subst (λ x. IsMadeWhile x c t) (sym e) made

pub made_still : (state : State) (c : Configuration) (t : Tables) → state ≡ is_open → IsMadeWhile state c t → IsMadeOf c t
made_still state c t e made = subst (λ x. IsMadeWhile x c t) e made

module _ (t : Tables) (s : Standing) (shown : IsShown t s) (still : s.state ≡ is_open) (pass : ℕ) (d : Configuration) where
  pub plain_shown : (effect : Effect) → IsPlain effect → (u : Tables) → u.state ≡ t.state → u.trace ≡ trace_after t.trace effect → u.answers ≡ t.answers → ((place : List ℕ) → u.requests place ≡ t.requests place) → ((n : ℕ) → u.in_flight n ≡ t.in_flight n) → IsMadeOf d u → IsShown u (after pass s effect d)
  plain_shown silent plain u state trace answers_same requests in_flight made = record {
    state = state ∙ shown.state;
    trace = trace ∙ shown.trace;
    answers = answers_same ∙ shown.answers;
    requests = λ place. ap numbers (requests place) ∙ shown.requests place;
    in_flight = λ n. ap pass_of (in_flight n) ∙ shown.in_flight n;
    made = made_while s.state d u still made;
  }
  plain_shown (happens k) plain u state trace answers_same requests in_flight made = record {
    state = state ∙ shown.state;
    trace = trace ∙ ap (λ xs. xs ++ k ∷ []) shown.trace;
    answers = answers_same ∙ shown.answers;
    requests = λ place. ap numbers (requests place) ∙ shown.requests place;
    in_flight = λ n. ap pass_of (in_flight n) ∙ shown.in_flight n;
    made = made_while s.state d u still made;
  }
  plain_shown (sends place k) plain u state trace answers_same requests in_flight made = absurd plain
  plain_shown (asks k) plain u state trace answers_same requests in_flight made = absurd plain
  plain_shown (answers k bytes) plain u state trace answers_same requests in_flight made = absurd plain
  plain_shown (starts k) plain u state trace answers_same requests in_flight made = absurd plain

  pub sends_shown : (program : List CodeBlock) (name : Block) (for_request : Bool) (l : Local) (place : List ℕ) (i : ℕ) (before : Evidence) → IsMadeOf d (after_change program pass name for_request (posts place i before) (after_machine name for_request (sends place i) l t)) → IsShown (after_change program pass name for_request (posts place i before) (after_machine name for_request (sends place i) l t)) (after pass s (sends place i) d)
  sends_shown program name for_request l place i before made = record {
    state = shown.state;
    trace = ap (λ xs. xs ++ i ∷ []) shown.trace;
    answers = shown.answers;
    requests = λ other. elim (either_way (pointwise nat_eq place other)) [
      | inl e ↦
          ap numbers (if_true (List (ℕ × Evidence)) (pointwise nat_eq place other) (t.requests place ++ (i, before) ∷ []) (t.requests other) e)
          ∙ numbers_last (t.requests place) i before
          ∙ ap (λ xs. xs ++ i ∷ []) (shown.requests place ∙ ap (λ x. numbers_at x s.requests) (same_text place other (sym e)))
          ∙ sym (numbers_more s.requests place other i ∙ if_true (List ℕ) (pointwise nat_eq place other) (numbers_at other s.requests ++ i ∷ []) (numbers_at other s.requests) e)
      | inr e ↦
          ap numbers (if_false (List (ℕ × Evidence)) (pointwise nat_eq place other) (t.requests place ++ (i, before) ∷ []) (t.requests other) e)
          ∙ shown.requests other
          ∙ sym (numbers_more s.requests place other i ∙ if_false (List ℕ) (pointwise nat_eq place other) (numbers_at other s.requests ++ i ∷ []) (numbers_at other s.requests) e)
    ];
    in_flight = shown.in_flight;
    made = made_while s.state d _ still made;
  }

  pub asks_shown : (program : List CodeBlock) (name : Block) (for_request : Bool) (l : Local) (i : ℕ) → asker_of (t.in_flight i) ≡ None → IsMadeOf d (after_change program pass name for_request (lifts i) (after_machine name for_request (asks i) l t)) → IsShown (after_change program pass name for_request (lifts i) (after_machine name for_request (asks i) l t)) (after pass s (asks i) d)
  asks_shown program name for_request l i free made = record {
    state = shown.state;
    trace = shown.trace;
    answers = shown.answers;
    requests = shown.requests;
    in_flight = put_at_law (Option (ℕ × Block)) (λ n x. pass_of x ≡ passes_for n ((i, pass) ∷ s.in_flight)) i (Some (pass, name)) t.in_flight
        (ap (λ xs. pass ∷ xs) (sym (none_free (t.in_flight i) free) ∙ shown.in_flight i) ∙ sym (if_same (List ℕ) i i (pass ∷ passes_for i s.in_flight) (passes_for i s.in_flight) refl))
        (λ n ne. shown.in_flight n ∙ sym (if_other (List ℕ) i n (pass ∷ passes_for n s.in_flight) (passes_for n s.in_flight) (λ e. ne (sym e))));
    made = made_while s.state d _ still made;
  }
    where
      none_free : (x : Option (ℕ × Block)) → asker_of x ≡ None → pass_of x ≡ []
      none_free None e = refl
      none_free (Some a) e = absurd (cc)
