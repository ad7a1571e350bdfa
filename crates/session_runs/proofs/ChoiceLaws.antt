-- In each block at most one configuration can move.
use Rattle.std.proofs.Common.{◌≡◌, ℕ, ◌+◌, ◌≤◌, List, [], ◌∷◌, ◌++◌, refl, sym, ap, subst, arith}
use Rattle.std.specs.Prelude.{Bool, true, false, Option, None, Some, if◌then◌else◌}
use Rattle.phrase_tree.specs.Term.{Term, leaf, at, chain, seq, par}
use Rattle.phrase_tree.specs.Numbering.{event_count}
use Rattle.evidence_types.specs.Evidence.{Evidence, nonce}
use Rattle.session_model.specs.Session.{Session}
use Rattle.session_model.specs.Value.{Makings, part}
use Rattle.session_runs.specs.Configuration.{Configuration, todo, asked, posted, remote, first, left_arm, right_arm, both_arms, finished, start, once_finished, followed_by}
use Rattle.session_runs.specs.Moves.{Step, run as run_step, Effect, silent, happens, sends, asks, answers, starts}
use Rattle.session_runs.specs.Standing.{Block, root, of, Entry, Standing, opening, makings, after}
use Rattle.session_runs.specs.History.{standing_after}
use Rattle.session_runs.specs.MoveOrder.{Ready, ready_to, where_true, ready_phrase, ready_block, ready_in, ready_of}
use Rattle.session_runs.specs.Progress.{same_block, movers_in}
use Rattle.session_runs.proofs.Induction.{IsLaw, Together, together}
use Rattle.session_runs.proofs.EntryLaws.{Onward, moved, root_ended, faulted, starves, onward, after_configuration}
use Rattle.session_runs.proofs.Rest.{Rest, rest_of, rest, rest_start, Follows, Leaves, leaves}
use Rattle.session_runs.proofs.RestLaws.{same, count, takes_count}
use Rattle.session_runs.proofs.TraceLaws.{phrase_once, kept_after}
use Rattle.session_runs.proofs.Waiting.{posts}

-- how many blocks of a number run inside a configuration
abbrev pub titles : Configuration → ℕ → ℕ
titles (todo phrase i before) n = 0
titles (asked phrase i before) n = 0
titles (posted asked_place i body before) n = 0
titles (remote asked_place i last inner ended) n = same i n + titles inner n
titles (first inner right i) n = titles inner n
titles (left_arm inner right i before last) n = titles inner n
titles (right_arm left_result inner last) n = titles inner n
titles (both_arms i last left right ended) n = same i n + (titles left n + titles right n)
titles (finished result) n = 0

-- blocks that run and blocks that wait for their delivery
abbrev pub named : Configuration → ℕ → ℕ
named c n = titles c n + posts c n

start_named : (phrase : Term) (i : ℕ) (before : Evidence) (n : ℕ) → named (start phrase i before) n ≡ 0
start_named (leaf form) i before n = refl
start_named (at place body) i before n = refl
start_named (chain left right) i before n = start_named left i before n
start_named (seq split left right) i before n = refl
start_named (par split left right) i before n = refl

followed_named : (c : Configuration) (right : Term) (i n : ℕ) → named (followed_by c right i) n ≡ named c n
followed_named (todo phrase j before) right i n = refl
followed_named (asked phrase j before) right i n = refl
followed_named (posted asked_place j body before) right i n = refl
followed_named (remote asked_place j last inner ended) right i n = refl
followed_named (first inner other j) right i n = refl
followed_named (left_arm inner other j before last) right i n = refl
followed_named (right_arm left_result inner last) right i n = refl
followed_named (both_arms j last left other ended) right i n = refl
followed_named (finished result) right i n = start_named right i result n

-- the event of an effect
abbrev pub happening : Effect → ℕ → ℕ
happening (happens k) n = same k n
happening (sends place k) n = same k n
happening (answers k bytes) n = same k n
happening _ n = 0

-- a block gets its number from the event that opens it
abbrev pub Names : List ℕ → Configuration → Effect → Configuration → Type 0
Names place c effect d = (n : ℕ) → named d n ≤ named c n + happening effect n

names_law : (from : Makings) → IsLaw from Names
names_law from = record {
  runs = λ place form i before other n. omega arith;
  asks_for = λ place form i before measured n. omega arith;
  posts = λ place asked_place body i before n. omega arith;
  splits = λ place split left right i before n. omega (arith, start_named left (i + 1) (part split.left before) n);
  forks = λ place split left right i before n. omega (arith, start_named left (i + 1) (part split.left before) n, start_named right (i + 1 + event_count left) (part split.right before) n);
  answered = λ place phrase i before bytes n. omega arith;
  delivered = λ place asked_place i body before n. omega (arith, start_named body (i + 1) before n);
  ends_remote = λ place asked_place i last result n. omega arith;
  replies = λ place asked_place i last result n. omega arith;
  swaps = λ place result right i before last n. omega (arith, start_named right i before n);
  joins_sequence = λ place left_result right_result last n. omega arith;
  ends_right = λ place i last left result n. omega arith;
  joins_parallel = λ place i last left_result right_result n. omega arith;
  in_remote = λ place asked_place i last c d effect over h n. omega (arith, h n);
  in_first = λ place c d effect right i h n. omega (arith, followed_named d right i n, h n);
  in_left = λ place c d effect right i before last h n. h n;
  in_right = λ place result c d effect last h n. h n;
  in_left_of_both = λ place i last c d right effect over h n. omega (arith, h n);
  in_right_of_both = λ place i last left c d effect over h n. omega (arith, h n);
}

-- a number is that of one block at most, or is still to come
pub record IsNamed (c : Configuration) : Type 0 where
  pub once : (n : ℕ) → named c n + count (rest c) n ≤ 1

named_opening : (session : Session) → IsNamed (opening session).configuration
named_opening session = record {
  once = λ n.
      let is : count (rest (start session.phrase 0 (nonce session.nonce))) n ≡ count (rest_of session.phrase 0) n = ap (λ r. count r n) (rest_start session.phrase 0 (nonce session.nonce)) in
      omega (arith, is, start_named session.phrase 0 (nonce session.nonce) n, phrase_once session.phrase n);
}

counts_follow : (r : Rest) (effect : Effect) (r' : Rest) (n : ℕ) → Follows r effect r' → count r' n + happening effect n ≡ count r n
counts_follow r silent r' n h = omega (arith, ap (λ x. count x n) h)
counts_follow r (asks k) r' n h = omega (arith, ap (λ x. count x n) h)
counts_follow r (starts k) r' n h = omega (arith, ap (λ x. count x n) h)
counts_follow r (happens k) r' n h = takes_count r false k r' n h
counts_follow r (sends place k) r' n h = takes_count r false k r' n h
counts_follow r (answers k bytes) r' n h = takes_count r true k r' n h

named_next : (session : Session) (s : Standing) (entry : Entry) (t : Standing) → IsNamed s.configuration → Onward (Together Leaves Names) session s entry t → IsNamed t.configuration
named_next session s entry t once (moved pass m k fits is) =
    let now : IsNamed m.1 = record { once = λ n. omega (arith, once.once n, k.other n, counts_follow (rest s.configuration) m.0 (rest m.1) n k.one) } in
    let there : IsNamed (after pass s m.0 m.1).configuration = subst IsNamed (sym (after_configuration pass s m.0 m.1)) now in
    subst (λ x. IsNamed x.configuration) (sym is) there
named_next session s entry t once (root_ended value is then_is) = subst (λ x. IsNamed x.configuration) (sym then_is) once
named_next session s entry t once (faulted pass event fault flying of_entry then_is) = subst (λ x. IsNamed x.configuration) (sym then_is) once
named_next session s entry t once (starves pass event flying of_entry then_is) = subst (λ x. IsNamed x.configuration) (sym then_is) once

-- the blocks inside a configuration, by block
abbrev pub inner_blocks : Configuration → Block → ℕ
inner_blocks c root = 0
inner_blocks c (of n) = titles c n

movers_append : (block : Block) (xs ys : List Ready) → movers_in block (xs ++ ys) ≡ movers_in block xs + movers_in block ys
movers_append block [] ys = omega arith
movers_append block (x ∷ xs) ys = omega (arith, movers_append block xs ys)

movers_phrase : (own : Block) (phrase : Term) (i : ℕ) (block : Block) → movers_in block (ready_phrase own phrase i) ≤ same_block own block
movers_phrase own (leaf form) i block = omega arith
movers_phrase own (at place body) i block = omega arith
movers_phrase own (chain left right) i block = omega arith
movers_phrase own (seq split left right) i block = omega arith
movers_phrase own (par split left right) i block = omega arith

movers_where : (b : Bool) (own : Block) (step : Step) (event : Option ℕ) (block : Block) → movers_in block (where_true b (ready_to own step event)) ≤ same_block own block
movers_where true own step event block = omega arith
movers_where false own step event block = omega arith

-- what holds until a configuration is finished and once it is holds of both
once_either : (block : Block) (most : ℕ) (c : Configuration) (until : List Ready) (then_do : Evidence → List Ready) → movers_in block until ≤ most → ((result : Evidence) → movers_in block (then_do result) ≤ most) → movers_in block (once_finished c until then_do) ≤ most
once_either block most (todo phrase i before) until then_do u f = u
once_either block most (asked phrase i before) until then_do u f = u
once_either block most (posted asked_place i body before) until then_do u f = u
once_either block most (remote asked_place i last inner ended) until then_do u f = u
once_either block most (first inner right i) until then_do u f = u
once_either block most (left_arm inner right i before last) until then_do u f = u
once_either block most (right_arm left_result inner last) until then_do u f = u
once_either block most (both_arms i last left right ended) until then_do u f = u
once_either block most (finished result) until then_do u f = f result

movers_end : (i : ℕ) (ended : Bool) (block : Block) → movers_in block (if ended then [] else ready_to (of i) run_step None) ≤ same_block (of i) block
movers_end i true block = omega arith
movers_end i false block = omega arith

movers_block : (i : ℕ) (inner : Configuration) (ended : Bool) (ready : List Ready) (block : Block) (more : ℕ) → movers_in block ready ≤ same_block (of i) block + more → movers_in block (ready_block i inner ended ready) ≤ same_block (of i) block + more
movers_block i inner ended ready block more h =
    once_either block (same_block (of i) block + more) inner ready (λ result. if ended then [] else ready_to (of i) run_step None) h (λ result. omega (arith, movers_end i ended block))

inner_remote : (asked_place : List ℕ) (i last : ℕ) (inner : Configuration) (ended : Bool) (block : Block) → inner_blocks (remote asked_place i last inner ended) block ≡ same_block (of i) block + inner_blocks inner block
inner_remote asked_place i last inner ended root = refl
inner_remote asked_place i last inner ended (of n) = refl

inner_both : (i last : ℕ) (left right : Configuration) (ended : Bool) (block : Block) → inner_blocks (both_arms i last left right ended) block ≡ same_block (of i) block + (inner_blocks left block + inner_blocks right block)
inner_both i last left right ended root = refl
inner_both i last left right ended (of n) = refl

same_inner : (c d : Configuration) (block : Block) → ((n : ℕ) → titles c n ≡ titles d n) → inner_blocks c block ≡ inner_blocks d block
same_inner c d root h = refl
same_inner c d (of n) h = h n

movers_most : (own : Block) (c : Configuration) (block : Block) → movers_in block (ready_in own c) ≤ same_block own block + inner_blocks c block
movers_most own (todo phrase i before) block = omega (arith, movers_phrase own phrase i block)
movers_most own (asked phrase i before) block = omega arith
movers_most own (posted asked_place i body before) block = omega arith
movers_most own (remote asked_place i last inner ended) block =
    let inside : movers_in block (ready_block i inner ended (ready_in (of i) inner)) ≤ same_block (of i) block + inner_blocks inner block = movers_block i inner ended (ready_in (of i) inner) block (inner_blocks inner block) (movers_most (of i) inner block) in
    let reply : movers_in block (once_finished inner [] (λ result. where_true ended (ready_to own run_step (Some last)))) ≤ same_block own block = once_either block (same_block own block) inner [] (λ result. where_true ended (ready_to own run_step (Some last))) (omega arith) (λ result. movers_where ended own run_step (Some last) block) in
    omega (arith, inside, reply, inner_remote asked_place i last inner ended block, movers_append block (ready_block i inner ended (ready_in (of i) inner)) (once_finished inner [] (λ result. where_true ended (ready_to own run_step (Some last)))))
movers_most own (first inner right i) block =
    omega (arith, movers_most own inner block, same_inner (first inner right i) inner block (λ n. refl))
movers_most own (left_arm inner right i before last) block =
    let h : movers_in block (once_finished inner (ready_in own inner) (λ result. ready_to own run_step None)) ≤ same_block own block + inner_blocks inner block = once_either block (same_block own block + inner_blocks inner block) inner (ready_in own inner) (λ result. ready_to own run_step None) (movers_most own inner block) (λ result. omega arith) in
    omega (arith, h, same_inner (left_arm inner right i before last) inner block (λ n. refl))
movers_most own (right_arm left_result inner last) block =
    let h : movers_in block (once_finished inner (ready_in own inner) (λ result. ready_to own run_step (Some last))) ≤ same_block own block + inner_blocks inner block = once_either block (same_block own block + inner_blocks inner block) inner (ready_in own inner) (λ result. ready_to own run_step (Some last)) (movers_most own inner block) (λ result. omega arith) in
    omega (arith, h, same_inner (right_arm left_result inner last) inner block (λ n. refl))
movers_most own (both_arms i last left right ended) block =
    let mine : movers_in block (once_finished left (ready_in own left) (λ left_result. once_finished right [] (λ right_result. where_true ended (ready_to own run_step (Some last))))) ≤ same_block own block + inner_blocks left block = once_either block (same_block own block + inner_blocks left block) left (ready_in own left) (λ left_result. once_finished right [] (λ right_result. where_true ended (ready_to own run_step (Some last)))) (movers_most own left block) (λ left_result. once_either block (same_block own block + inner_blocks left block) right [] (λ right_result. where_true ended (ready_to own run_step (Some last))) (omega arith) (λ right_result. omega (arith, movers_where ended own run_step (Some last) block))) in
    let inside : movers_in block (ready_block i right ended (ready_in (of i) right)) ≤ same_block (of i) block + inner_blocks right block = movers_block i right ended (ready_in (of i) right) block (inner_blocks right block) (movers_most (of i) right block) in
    omega (arith, mine, inside, inner_both i last left right ended block, movers_append block (once_finished left (ready_in own left) (λ left_result. once_finished right [] (λ right_result. where_true ended (ready_to own run_step (Some last))))) (ready_block i right ended (ready_in (of i) right)))
movers_most own (finished result) block = omega arith

movers_once : (c : Configuration) (block : Block) → IsNamed c → movers_in block (ready_of c) ≤ 1
movers_once c root once =
    once_either root 1 c (ready_in root c) (λ value. ready_to root run_step None) (omega (arith, movers_most root c root)) (λ value. omega arith)
movers_once c (of n) once =
    once_either (of n) 1 c (ready_in root c) (λ value. ready_to root run_step None) (omega (arith, movers_most root c (of n), once.once n)) (λ value. omega arith)

-- after every history at most one configuration can move in each block
pub history_one_mover : (session : Session) (keys : List (List ℕ × List ℕ)) (history : List Entry) (s : Standing) (block : Block) → standing_after session keys history ≡ Some s → movers_in block (ready_of s.configuration) ≤ 1
history_one_mover session keys history s block e =
    movers_once s.configuration block (kept_after session keys (λ x. IsNamed x.configuration) (λ u entry t once f. named_next session u entry t once (onward (Together Leaves Names) session keys (together (makings session keys) Leaves Names (leaves (makings session keys)) (names_law (makings session keys))) u entry t f).1) (named_opening session) history s e)
