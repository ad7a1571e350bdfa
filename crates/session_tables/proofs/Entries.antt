-- Each entry of a history: the tables take it just where the session can, and then show how the session stands.
use Rattle.std.proofs.Common.{◌≡◌, ℕ, ◌+◌, ◌≤◌, inl, inr, List, [], ◌∷◌, ◌++◌, refl, sym, ◌∙◌, ap, subst, arith}
use Rattle.std.specs.Prelude.{Bool, true, false, Option, None, Some, nat_eq, ◌||◌, if◌then◌else◌, drop}
use Rattle.std.specs.Cmp.Lexicographic.{pointwise, same_text}
use Rattle.std.proofs.lemmas.Bool.{cases_eq}
use Rattle.phrase_tree.specs.Numbering.{event_count}
use Rattle.evidence_types.specs.Evidence.{Evidence, nonce}
use Rattle.bench_trait.specs.declared.bench.BenchFault.{BenchFault}
use Rattle.session_model.specs.Session.{Session}
use Rattle.session_model.specs.Value.{Makings}
use Rattle.avm_code.specs.declared.instr.Instr.{Instr}
use Rattle.avm_code.specs.declared.instr.Instr.TheVariants.{End}
use Rattle.avm_code.specs.declared.program.Block.{Block as CodeBlock}
use Rattle.avm_compile.specs.Program.{program_of}
use Rattle.machine_tables.specs.Row.{Local, measured, answered}
use Rattle.machine_tables.specs.Tables.{BlockState, not_started, running, over, Tables, put_block, put_place, put_ask, block_name, started, deliver_first, by_asker, answer_at, answer_in, stop_tables, tables_while, enter_tables, step_tables, opening_tables, tables_further, tables_after}
use Rattle.avm_code.specs.Order.{first_code, place_called}
use Rattle.session_runs.specs.Configuration.{Configuration, start}
use Rattle.session_runs.specs.Moves.{run as run_step, ask as ask_step, answer, answers, starts, inner_moves}
use Rattle.session_runs.specs.Standing.{Block, root, of, run, ask, deliver, Entry, opened, played, answered as was_answered, failed, starved, State, is_open, is_done, has_failed, has_starved, Standing, opening, makings, front, without_request, without_ask, is_in_flight, after, made, delivered, entered, where_open, next}
use Rattle.session_runs.specs.History.{further, standing_after}
use Rattle.session_runs.proofs.HistoryLaws.{after_more}
use Rattle.session_runs.proofs.ProgressLaws.{history_sound}
use Rattle.session_runs.proofs.Waiting.{request_count}
use Rattle.session_tables.specs.Left.{told_or, Left, left_of}
use Rattle.session_tables.specs.Found.{View, unseen, asks_for, waits, runs, replied, joinable, found, found_block}
use Rattle.session_tables.specs.Shown.{Holds, RunsOn, Stands, reply_in, asker_in, asker_of, AllWait, IsMadeOf, numbers_at, numbers, passes_for, pass_of, IsShown, AreShown}
use Rattle.session_tables.proofs.Starting.{start_code, start_held, start_stack, start_found}
use Rattle.session_tables.proofs.Fitting.{Fits, fits_after_history}
use Rattle.session_tables.proofs.Frames.{same_left, spot}
use Rattle.session_tables.proofs.Blocks.{Delivered, delivered_in}
use Rattle.session_tables.proofs.Answers.{OwnAnswer, IsAnswered, LowerAnswer, Answered, by_own, by_lower, answered_left, answered_in}
use Rattle.session_tables.proofs.Lists.{if_true, if_false, either_way, front_some, front_none, times, behind_front, beside_front, front_taken, others_kept, others_wait, posts_once, is_pass, flies_by, answered_here, answered_elsewhere}
use Rattle.session_tables.proofs.Steps.{put_block_law, put_at_law, GoesAt, made_while, made_still, answers_made}
use Rattle.session_tables.proofs.Sites.{root_shown, block_shown}

module _ (all : List CodeBlock) (from : Makings) (place : List ℕ) (low high : ℕ) (t : Tables) (s : Standing) (shown : IsShown t s) (still : s.state ≡ is_open) (cells : IsMadeOf s.configuration t) (fits : Fits all place s.configuration low high) (once : (n : ℕ) → request_count s.requests n ≤ 1) (pass : ℕ) where
  -- a delivery: the block of the first request starts
  started_shown : (at_place : List ℕ) (request : ℕ × Evidence) (rest : List (ℕ × Evidence)) → t.requests at_place ≡ request ∷ rest → (d : Delivered all from request.0 (waits request.1) (spot root place s.configuration low high)) → IsShown (record t { requests = put_place at_place rest t.requests; blocks = put_block (of request.0) (running true (started all (of request.0) request.1)) t.blocks }) (after pass s (starts request.0) d.after)
  started_shown at_place request rest waiting d = record {
    state = shown.state;
    trace = shown.trace;
    answers = shown.answers;
    requests = λ other. elim (either_way (pointwise nat_eq at_place other)) [
      | inl e ↦ ap numbers (if_true (List (ℕ × Evidence)) (pointwise nat_eq at_place other) rest (t.requests other) e) ∙ sym (ap (λ x. numbers_at x (without_request request.0 s.requests)) (sym (same_text at_place other (sym e))) ∙ front_taken s.requests at_place request.0 (numbers rest) (once request.0) listed)
      | inr e ↦ ap numbers (if_false (List (ℕ × Evidence)) (pointwise nat_eq at_place other) rest (t.requests other) e) ∙ shown.requests other ∙ sym (others_kept s.requests at_place other request.0 (numbers rest) (once request.0) listed e)
    ];
    in_flight = shown.in_flight;
    made = made_while s.state d.after _ still (record {
      blocks = put_block_law (λ other state. Stands (found_block d.after other) state) (of request.0) (running true (started all (of request.0) request.1)) t.blocks
          (subst (λ v. Stands v (running true (started all (of request.0) request.1))) (sym d.touched.now) (refl, starts_so))
          there;
      requests = λ other. elim (either_way (pointwise nat_eq at_place other)) [
        | inl e ↦ subst (λ xs. AllWait d.after xs) (sym (if_true (List (ℕ × Evidence)) (pointwise nat_eq at_place other) rest (t.requests other) e)) (others_wait s.configuration d.after request.0 rest (behind_front s.requests at_place request.0 (numbers rest) (once request.0) listed) d.touched.others wait.1)
        | inr e ↦ subst (λ xs. AllWait d.after xs) (sym (if_false (List (ℕ × Evidence)) (pointwise nat_eq at_place other) rest (t.requests other) e)) (others_wait s.configuration d.after request.0 (t.requests other) (ap (λ xs. times request.0 xs) (shown.requests other) ∙ beside_front s.requests at_place other request.0 (numbers rest) (once request.0) listed e) d.touched.others (cells.requests other))
      ];
      replies = λ n. cells.replies n ∙ sym (read_same (Option Evidence) reply_in refl n);
      in_flight = λ n. cells.in_flight n ∙ sym (read_same (Option Block) asker_in refl n);
    });
  }
    where
      listed : numbers_at at_place s.requests ≡ request.0 ∷ numbers rest
      listed = sym (shown.requests at_place) ∙ ap numbers waiting

      wait : AllWait s.configuration (request ∷ rest)
      wait = subst (λ xs. AllWait s.configuration xs) waiting (cells.requests at_place)

      same_evidence : (a b : Evidence) → waits a ≡ waits b → a ≡ b
      same_evidence a b e = cc

      is_before : request.1 ≡ d.before
      is_before = same_evidence request.1 d.before d.view

      starts_so : Holds (left_of (start d.body (request.0 + 1) d.before)) (started all (of request.0) request.1)
      starts_so = record {
        code = ap first_code d.block ∙ sym (start_code d.body (request.0 + 1) d.before (End ∷ []));
        evidence = ap (λ x. told_or x request.1) (start_held d.body (request.0 + 1) d.before) ∙ sym is_before;
        stack = sym (start_stack d.body (request.0 + 1) d.before []);
      }

      there : (other : Block) → (of request.0 ≡ other → ⊥) → Stands (found_block d.after other) (t.blocks other)
      there root ne = subst (λ x. Stands (runs false x) (t.blocks root)) (sym (same_left d.after s.configuration d.same)) (cells.blocks root)
      there (of k) ne = subst (λ v. Stands v (t.blocks (of k))) (sym (d.touched.others k (λ is. ne (ap of (sym is))))) (cells.blocks (of k))

      read_same : (A : Type 0) (f : View → A) → f (waits d.before) ≡ f (runs true (left_of (start d.body (request.0 + 1) d.before))) → (n : ℕ) → f (found root d.after n) ≡ f (found root s.configuration n)
      read_same A f same n = elim (cases_eq n request.0) [
        | inl is ↦ subst (λ k. f (found root d.after k) ≡ f (found root s.configuration k)) (sym is) (ap f d.touched.now ∙ sym same ∙ sym (ap f d.touched.was))
        | inr ne ↦ ap f (d.touched.others n ne)
      ]

  deliver_shown : (at_place : List ℕ) (waiting : List (ℕ × Evidence)) → t.requests at_place ≡ waiting → AreShown (deliver_first all at_place t waiting) (delivered from place pass s (front s.requests at_place))
  deliver_shown at_place [] is =
      subst (λ x. AreShown None (delivered from place pass s x)) (sym (front_none s.requests at_place (sym (shown.requests at_place) ∙ ap numbers is))) tt
  deliver_shown at_place (request ∷ rest) is =
      let wait : AllWait s.configuration (request ∷ rest) = subst (λ xs. AllWait s.configuration xs) is (cells.requests at_place) in
      let d = delivered_in all from request.0 request.1 root place s.configuration low high fits wait.0 in
      subst (λ x. AreShown (deliver_first all at_place t (request ∷ rest)) (delivered from place pass s x)) (sym (front_some s.requests at_place request.0 (numbers rest) (sym (shown.requests at_place) ∙ ap numbers is)))
      (subst (λ x. AreShown (deliver_first all at_place t (request ∷ rest)) (made pass s x)) (sym d.moves) (started_shown at_place request rest is d))

  -- a result of an ask in flight, where the pass asked for it
  by_asker_shown : (asked : Option (ℕ × Block)) (f : Block → Option Tables) (y : Option Standing) → ((by : ℕ) (name : Block) → asked ≡ Some (by, name) → AreShown (f name) y) → AreShown (by_asker pass asked f) (if is_pass pass (pass_of asked) then y else None)
  by_asker_shown None f y h = tt
  by_asker_shown (Some a) f y h = split (nat_eq a.0 pass) (h a.0 a.1 refl)
    where
      split : (b : Bool) → AreShown (f a.1) y → AreShown (if b then f a.1 else None) (if b || false then y else None)
      split true g = g
      split false g = tt

  asker_is : (n : ℕ) (f : Block → Option Tables) (y : Option Standing) → ((by : ℕ) (name : Block) → t.in_flight n ≡ Some (by, name) → AreShown (f name) y) → AreShown (by_asker pass (t.in_flight n) f) (if is_in_flight s.in_flight pass n then y else None)
  asker_is n f y h =
      subst (λ b. AreShown (by_asker pass (t.in_flight n) f) (if b then y else None)) (sym (flies_by s.in_flight pass n ∙ ap (λ xs. is_pass pass xs) (sym (shown.in_flight n)))) (by_asker_shown (t.in_flight n) f y h)

  -- the asks in flight without one
  asks_without : (n by : ℕ) (name : Block) → t.in_flight n ≡ Some (by, name) → (k : ℕ) → pass_of (put_ask n None t.in_flight k) ≡ passes_for k (without_ask n s.in_flight)
  asks_without n by name is = put_at_law (Option (ℕ × Block)) (λ k x. pass_of x ≡ passes_for k (without_ask n s.in_flight)) n None t.in_flight
      (sym (answered_here s.in_flight n by [] (sym (shown.in_flight n) ∙ ap pass_of is)))
      (λ k ne. shown.in_flight k ∙ sym (answered_elsewhere s.in_flight n k (λ e. ne (sym e))))

  asker_view : (name : Block) (v : View) → Some name ≡ asker_in v → v ≡ asks_for name
  asker_view name unseen e = absurd (cc)
  asker_view name (asks_for other) e = cc
  asker_view name (waits before) e = absurd (cc)
  asker_view name (runs for_request l) e = absurd (cc)
  asker_view name (replied result) e = absurd (cc)
  asker_view name (joinable result) e = absurd (cc)

  -- the machine that asked holds what is left once it has the answer
  answered_holds : (n : ℕ) (was now : Left) (bytes : List ℕ) (a : IsAnswered n was now bytes) (l : Local) → Holds was l → Holds now (answered a.instr bytes l)
  answered_holds n was now bytes a l h =
      let before_is : a.before ≡ l.evidence = sym (ap (λ x. told_or x l.evidence) a.was_held) ∙ h.evidence in
      record {
        code = ap (λ xs. drop 1 xs) (h.code ∙ a.code);
        evidence = ap (λ x. told_or x (measured a.instr bytes l.evidence)) a.now_held ∙ ap (λ v. measured a.instr bytes v) before_is;
        stack = h.stack ∙ a.stack;
      }

  answer_shown_by : (n : ℕ) (bytes : List ℕ) (name : Block) (by : ℕ) (for_request : Bool) (was now : Left) (d : Configuration) → t.in_flight n ≡ Some (by, name) → IsAnswered n was now bytes → GoesAt name for_request s.configuration d was now n (asks_for name) unseen → AreShown (answer_in n bytes name t (t.blocks name)) (Some (after pass s (answers n bytes) d))
  answer_shown_by n bytes name by for_request was now d is a g =
      by_state (t.blocks name) (subst (λ v. Stands v (t.blocks name)) g.goes.was (cells.blocks name))
    where
      shown_with : (l : Local) → Holds was l → IsShown (record t { blocks = put_block name (running for_request (answered a.instr bytes l)) t.blocks; in_flight = put_ask n None t.in_flight; trace = t.trace ++ n ∷ []; answers = (n, bytes) ∷ t.answers }) (after pass s (answers n bytes) d)
      shown_with l h = record {
        state = shown.state;
        trace = ap (λ xs. xs ++ n ∷ []) shown.trace;
        answers = ap (λ xs. (n, bytes) ∷ xs) shown.answers;
        requests = shown.requests;
        in_flight = asks_without n by name is;
        made = made_while s.state d _ still (answers_made name for_request s.configuration d was now t cells n bytes g (answered a.instr bytes l) (answered_holds n was now bytes a l h));
      }

      by_code : (l : Local) (code : List Instr) → Holds was l → code ≡ a.instr ∷ now.code → AreShown (answer_at n bytes name for_request l t code) (Some (after pass s (answers n bytes) d))
      by_code l code h e = subst (λ xs. AreShown (answer_at n bytes name for_request l t xs) (Some (after pass s (answers n bytes) d))) (sym e) (shown_with l h)

      by_state : (state : BlockState) → RunsOn for_request was state → AreShown (answer_in n bytes name t state) (Some (after pass s (answers n bytes) d))
      by_state not_started h = absurd h
      by_state (running flag l) h = subst (λ b. AreShown (answer_in n bytes name t (running b l)) (Some (after pass s (answers n bytes) d))) (sym h.0) (by_code l l.rest h.1 (h.1.code ∙ a.code))
      by_state (over result) h = absurd h

  own_goes : (n : ℕ) (bytes : List ℕ) (a : OwnAnswer all from n (spot root place s.configuration low high)) → GoesAt root false s.configuration (a.after bytes) (left_of s.configuration) (left_of (a.after bytes)) n (asks_for root) unseen
  own_goes n bytes a = record {
    goes = record {
      was = refl;
      now = refl;
      root_stays = λ ne. absurd (ne refl);
      others = λ k ne spared. (a.touched bytes).others k spared;
    };
    apart = root_is_none n;
    was_there = (a.touched bytes).was;
    now_there = (a.touched bytes).now;
  }
    where
      root_is_none : (n : ℕ) → root ≡ of n → ⊥
      root_is_none n e = cc

  lower_goes : (n m : ℕ) (bytes : List ℕ) (said : found root s.configuration n ≡ asks_for (of m)) (l : LowerAnswer all from n m (spot root place s.configuration low high)) → GoesAt (of m) l.for_request s.configuration (l.after bytes) l.was (l.now bytes) n (asks_for (of m)) unseen
  lower_goes n m bytes said l = record {
    goes = record {
      was = l.block_was;
      now = l.block_now bytes;
      root_stays = λ ne. ap (λ x. runs false x) (same_left (l.after bytes) s.configuration (l.same bytes));
      others = λ k ne spared. l.others bytes k spared (λ e. ne (ap of (sym e)));
    };
    apart = λ e. l.apart (sym (block_is m n e));
    was_there = said;
    now_there = l.gone bytes;
  }
    where
      block_is : (a k : ℕ) → of a ≡ of k → a ≡ k
      block_is a k e = cc

  answer_shown : (n : ℕ) (bytes : List ℕ) (by : ℕ) (name : Block) → t.in_flight n ≡ Some (by, name) → AreShown (answer_in n bytes name t (t.blocks name)) (made pass s (inner_moves from place s.configuration (answer n bytes)))
  answer_shown n bytes by name is = by_answer (answered_in all from n name root place s.configuration low high fits said)
    where
      said : found root s.configuration n ≡ asks_for name
      said = asker_view name (found root s.configuration n) (sym (ap asker_of is) ∙ cells.in_flight n)

      by_answer : Answered all from n name (spot root place s.configuration low high) → AreShown (answer_in n bytes name t (t.blocks name)) (made pass s (inner_moves from place s.configuration (answer n bytes)))
      by_answer (by_own e a) =
          subst (λ x. AreShown (answer_in n bytes name t (t.blocks name)) (made pass s x)) (sym (a.moves bytes))
          (subst (λ x. AreShown (answer_in n bytes x t (t.blocks x)) (Some (after pass s (answers n bytes) (a.after bytes)))) (sym e)
          (answer_shown_by n bytes root by false (left_of s.configuration) (left_of (a.after bytes)) (a.after bytes) (subst (λ x. t.in_flight n ≡ Some (by, x)) e is) (answered_left all from n (spot root place s.configuration low high) a bytes) (own_goes n bytes a)))
      by_answer (by_lower m e l) =
          subst (λ x. AreShown (answer_in n bytes name t (t.blocks name)) (made pass s x)) (sym (l.moves bytes))
          (subst (λ x. AreShown (answer_in n bytes x t (t.blocks x)) (Some (after pass s (answers n bytes) (l.after bytes)))) (sym e)
          (answer_shown_by n bytes (of m) by l.for_request l.was (l.now bytes) (l.after bytes) (subst (λ x. t.in_flight n ≡ Some (by, x)) e is) (l.goes_on bytes) (lower_goes n m bytes (subst (λ x. found root s.configuration n ≡ asks_for x) e said) l)))

  failed_shown : (n by : ℕ) (name : Block) (fault : BenchFault) → t.in_flight n ≡ Some (by, name) → AreShown (stop_tables n (has_failed n fault) t) (Some (record s { in_flight = without_ask n s.in_flight; state = has_failed n fault }))
  failed_shown n by name fault is = record {
    state = refl;
    trace = shown.trace;
    answers = shown.answers;
    requests = shown.requests;
    in_flight = asks_without n by name is;
    made = tt;
  }

  starved_shown : (n by : ℕ) (name : Block) → t.in_flight n ≡ Some (by, name) → AreShown (stop_tables n (has_starved n) t) (Some (record s { in_flight = without_ask n s.in_flight; state = has_starved n }))
  starved_shown n by name is = record {
    state = refl;
    trace = shown.trace;
    answers = shown.answers;
    requests = shown.requests;
    in_flight = asks_without n by name is;
    made = tt;
  }

-- an entry of a session that is open
entered_shown : (all : List CodeBlock) (from : Makings) (place : List ℕ) (low high : ℕ) (t : Tables) (s : Standing) → IsShown t s → s.state ≡ is_open → IsMadeOf s.configuration t → Fits all place s.configuration low high → ((n : ℕ) → request_count s.requests n ≤ 1) → place_called all (block_name root) ≡ place → (entry : Entry) → AreShown (enter_tables all from t entry) (entered from place s entry)
entered_shown all from place low high t s shown still cells fits once placed opened = tt
entered_shown all from place low high t s shown still cells fits once placed (played pass (run root)) = root_shown all from place low high t s shown still cells fits pass placed run_step
entered_shown all from place low high t s shown still cells fits once placed (played pass (run (of m))) = block_shown all from place low high t s shown still cells fits pass m run_step
entered_shown all from place low high t s shown still cells fits once placed (played pass (ask root)) = root_shown all from place low high t s shown still cells fits pass placed ask_step
entered_shown all from place low high t s shown still cells fits once placed (played pass (ask (of m))) = block_shown all from place low high t s shown still cells fits pass m ask_step
entered_shown all from place low high t s shown still cells fits once placed (played pass (deliver at_place)) = deliver_shown all from place low high t s shown still cells fits once pass at_place (t.requests at_place) refl
entered_shown all from place low high t s shown still cells fits once placed (was_answered pass n bytes) =
    asker_is all from place low high t s shown still cells fits once pass n (λ name. answer_in n bytes name t (t.blocks name)) (made pass s (inner_moves from place s.configuration (answer n bytes))) (λ by name is. answer_shown all from place low high t s shown still cells fits once pass n bytes by name is)
entered_shown all from place low high t s shown still cells fits once placed (failed pass n fault) =
    asker_is all from place low high t s shown still cells fits once pass n (λ name. stop_tables n (has_failed n fault) t) (Some (record s { in_flight = without_ask n s.in_flight; state = has_failed n fault })) (λ by name is. failed_shown all from place low high t s shown still cells fits once pass n by name fault is)
entered_shown all from place low high t s shown still cells fits once placed (starved pass n) =
    asker_is all from place low high t s shown still cells fits once pass n (λ name. stop_tables n (has_starved n) t) (Some (record s { in_flight = without_ask n s.in_flight; state = has_starved n })) (λ by name is. starved_shown all from place low high t s shown still cells fits once pass n by name is)

-- only an open session goes on, and so do its tables
while_shown : (state : State) (x : Option Tables) (y : Option Standing) → (state ≡ is_open → AreShown x y) → AreShown (tables_while state x) (where_open state y)
while_shown is_open x y h = h refl
while_shown (is_done value) x y h = tt
while_shown (has_failed event fault) x y h = tt
while_shown (has_starved event) x y h = tt

-- no request waits twice
pub requests_once : (session : Session) (keys : List (List ℕ × List ℕ)) (history : List Entry) (s : Standing) → standing_after session keys history ≡ Some s → s.state ≡ is_open → (n : ℕ) → request_count s.requests n ≤ 1
requests_once session keys history s e still n =
    omega (arith, ((history_sound session keys history s e).sound still).waits.requested n, posts_once (program_of session.phrase session.root) session.root s.configuration 0 (event_count session.phrase) n (fits_after_history session keys history s e))

-- each entry of a session, after every history
pub entry_shown : (session : Session) (keys : List (List ℕ × List ℕ)) (history : List Entry) (s : Standing) (t : Tables) (entry : Entry) → standing_after session keys history ≡ Some s → IsShown t s → AreShown (step_tables (program_of session.phrase session.root) (makings session keys) t entry) (next session keys s entry)
entry_shown session keys history s t entry e shown =
    subst (λ x. AreShown (tables_while x (enter_tables (program_of session.phrase session.root) (makings session keys) t entry)) (next session keys s entry)) (sym shown.state)
    (while_shown s.state (enter_tables (program_of session.phrase session.root) (makings session keys) t entry) (entered (makings session keys) session.root s entry) (λ still.
    entered_shown (program_of session.phrase session.root) (makings session keys) session.root 0 (event_count session.phrase) t s shown still (made_still s.state s.configuration t still shown.made) (fits_after_history session keys history s e) (requests_once session keys history s e still) refl entry))

-- the tables of a session just opened
pub opening_shown : (session : Session) → IsShown (opening_tables (program_of session.phrase session.root) (nonce session.nonce)) (opening session)
opening_shown session = record {
  state = refl;
  trace = refl;
  answers = refl;
  requests = λ place. refl;
  in_flight = λ n. refl;
  made = record {
    blocks = put_block_law (λ name state. Stands (found_block (start session.phrase 0 (nonce session.nonce)) name) state) root (running false (started (program_of session.phrase session.root) root (nonce session.nonce))) (λ name. not_started) (
      refl,
      record {
        code = sym (start_code session.phrase 0 (nonce session.nonce) (End ∷ []));
        evidence = ap (λ x. told_or x (nonce session.nonce)) (start_held session.phrase 0 (nonce session.nonce));
        stack = sym (start_stack session.phrase 0 (nonce session.nonce) []);
      },
    )
        idle;
    requests = λ place. tt;
    replies = λ n. sym (ap reply_in (start_found root n session.phrase 0 (nonce session.nonce)));
    in_flight = λ n. sym (ap asker_in (start_found root n session.phrase 0 (nonce session.nonce)));
  };
}
  where
    idle : (other : Block) → (root ≡ other → ⊥) → Stands (found_block (start session.phrase 0 (nonce session.nonce)) other) not_started
    idle root ne = absurd (ne refl)
    idle (of n) ne = subst (λ v. Stands v not_started) (sym (start_found root n session.phrase 0 (nonce session.nonce))) tt

-- after more entries, of a session that has a history
further_shown : (session : Session) (keys : List (List ℕ × List ℕ)) (history : List Entry) (x : Option Tables) (y : Option Standing) (entries : List Entry) → standing_after session keys history ≡ y → AreShown x y → AreShown (tables_further (program_of session.phrase session.root) (makings session keys) x entries) (further session keys y entries)
further_shown session keys history None None entries e shown = tt
further_shown session keys history None (Some s) entries e shown = absurd shown
further_shown session keys history (Some t) None entries e shown = absurd shown
further_shown session keys history (Some t) (Some s) [] e shown = shown
further_shown session keys history (Some t) (Some s) (entry ∷ entries) e shown =
    further_shown session keys (history ++ entry ∷ []) (step_tables (program_of session.phrase session.root) (makings session keys) t entry) (next session keys s entry) entries (after_more session keys history s entry e) (entry_shown session keys history s t entry e shown)

-- after every history
pub history_shown : (session : Session) (keys : List (List ℕ × List ℕ)) (history : List Entry) → AreShown (tables_after (program_of session.phrase session.root) (makings session keys) (nonce session.nonce) history) (standing_after session keys history)
history_shown session keys [] = tt
history_shown session keys (opened ∷ entries) =
    further_shown session keys (opened ∷ []) (Some (opening_tables (program_of session.phrase session.root) (nonce session.nonce))) (Some (opening session)) entries refl (opening_shown session)
history_shown session keys (played pass move ∷ entries) = tt
history_shown session keys (was_answered pass n bytes ∷ entries) = tt
history_shown session keys (failed pass n fault ∷ entries) = tt
history_shown session keys (starved pass n ∷ entries) = tt
