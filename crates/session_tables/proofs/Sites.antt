-- The step of a block of a session shows the block's move.
use Rattle.std.proofs.Common.{◌≡◌, ℕ, ◌+◌, ◌≤◌, ◌<◌, inl, inr, List, [], ◌∷◌, refl, sym, ◌∙◌, ap, subst, arith}
use Rattle.std.specs.Prelude.{Bool, true, false, Option, None, Some}
use Rattle.std.proofs.lemmas.Bool.{cases_eq}
use Rattle.evidence_types.specs.Evidence.{Evidence}
use Rattle.session_model.specs.Value.{Makings}
use Rattle.avm_code.specs.declared.instr.Instr.TheVariants.{End}
use Rattle.avm_code.specs.declared.program.Block.{Block as CodeBlock}
use Rattle.machine_tables.specs.Row.{Local}
use Rattle.machine_tables.specs.Tables.{BlockState, not_started, running, over, Tables, put_block, block_name, Change, nothing, posts, forks, takes, joins, lifts, ends, Acted, act, after_end, after_change, after_machine, after_step, step_in, step_of}
use Rattle.avm_code.specs.Order.{place_called}
use Rattle.session_runs.specs.Configuration.{Configuration, finished, once_finished}
use Rattle.session_runs.specs.Moves.{Step, run as run_step, ask as ask_step, in_block, Effect, silent, sends, asks, Moved, on_run, only_if, inside, own_moves, inner_moves}
use Rattle.session_runs.specs.Standing.{Block, root, of, is_open, is_done, Standing, after, made, root_step}
use Rattle.session_runs.proofs.Induction.{own_law}
use Rattle.session_runs.proofs.ProgressLaws.{IsGoing}
use Rattle.session_tables.specs.Left.{code_left, held, stack_left, told_or, Left, left_of}
use Rattle.session_tables.specs.Found.{View, unseen, asks_for, waits, runs, replied, joinable, ended_view, found, found_block}
use Rattle.session_tables.specs.Shown.{Holds, IsIdle, RunsOn, AllWait, Stands, reply_in, asker_in, asker_of, IsMadeOf, IsShown, AreShown}
use Rattle.session_tables.proofs.Starting.{going_or, until_finished}
use Rattle.session_tables.proofs.Fitting.{Fits, StaysFit, fit_law, IsOutside, outside}
use Rattle.session_tables.proofs.Deeds.{suits, no_deed}
use Rattle.session_tables.proofs.Frames.{same_left, spot}
use Rattle.session_tables.proofs.OwnMoves.{local, local_same, own_change, as_did, Cells, IsTouched, by_range, setting, own_acts, Touches, own_touches}
use Rattle.session_tables.proofs.Blocks.{BlockIn, block_in}
use Rattle.session_tables.proofs.Lists.{still_wait}
use Rattle.session_tables.proofs.Steps.{put_block_law, put_at_law, Goes, GoesAt, made_while, nothing_made, posts_made, forks_made, takes_made, joins_made, lifts_made, plain_shown, sends_shown, asks_shown}

-- a block of a session that runs, and how its moves change what is said of the session
pub record Site (all : List CodeBlock) (name : Block) (c : Configuration) : Type 0 where
  pub for_request : Bool
  pub place : List ℕ
  pub inner : Configuration
  pub low : ℕ
  pub high : ℕ
  pub whole : Configuration → Configuration
  pub placed : place_called all (block_name name) ≡ place
  pub fits : Fits all place inner low high
  pub was : found_block c name ≡ runs for_request (left_of inner)
  pub now : (d : Configuration) → found_block (whole d) name ≡ runs for_request (left_of d)
  pub root_stays : (d : Configuration) → (name ≡ root → ⊥) → found_block (whole d) root ≡ found_block c root
  pub within : (d : Configuration) (n : ℕ) → low ≤ n → n < high → found root (whole d) n ≡ found name d n
  pub was_within : (n : ℕ) → low ≤ n → n < high → found root c n ≡ found name inner n
  pub others : (d : Configuration) (n : ℕ) → Fits all place d low high → (name ≡ of n → ⊥) → IsOutside low high n → found root (whole d) n ≡ found root c n
  pub apart : (n : ℕ) → low ≤ n → n < high → name ≡ of n → ⊥

-- a step of a machine at its end
abbrev pub end_of : Step → Evidence → Local → Acted
end_of run_step result l = Some (silent, ends result, l)
end_of ask_step result l = None

told_twice : (x : Option Evidence) (e : Evidence) → told_or x (told_or x e) ≡ told_or x e
told_twice None e = refl
told_twice (Some v) e = refl

holds_left : (c : Configuration) (e : Evidence) → Holds (left_of c) (local (code_left c (End ∷ [])) (told_or (held c) e) (stack_left c []))
holds_left c e = record { code = refl; evidence = told_twice (held c) e; stack = refl }

module _ (all : List CodeBlock) (from : Makings) (t : Tables) (s : Standing) (shown : IsShown t s) (still : s.state ≡ is_open) (cells : IsMadeOf s.configuration t) (pass : ℕ) where
  goes_on : (name : Block) (site : Site all name s.configuration) (d : Configuration) (spares : ℕ → Type 0) → Fits all site.place d site.low site.high → ((n : ℕ) → spares n → found name d n ≡ found name site.inner n) → Goes name site.for_request s.configuration (site.whole d) (left_of site.inner) (left_of d) spares
  goes_on name site d spares f h = record {
    was = site.was;
    now = site.now d;
    root_stays = site.root_stays d;
    others = λ n ne spared. by_range (found root (site.whole d) n ≡ found root s.configuration n) site.low site.high n
        (λ r. site.within d n r.least r.most ∙ h n spared ∙ sym (site.was_within n r.least r.most))
        (λ out. site.others d n f ne out);
  }

  goes_at : (name : Block) (site : Site all name s.configuration) (d : Configuration) (i : ℕ) (old new : View) → Fits all site.place d site.low site.high → IsTouched name site.inner d site.low site.high i old new → GoesAt name site.for_request s.configuration (site.whole d) (left_of site.inner) (left_of d) i old new
  goes_at name site d i old new f h = record {
    goes = goes_on name site d (λ n. n ≡ i → ⊥) f h.others;
    apart = site.apart i h.range.least h.range.most;
    was_there = site.was_within i h.range.least h.range.most ∙ h.was;
    now_there = site.within d i h.range.least h.range.most ∙ h.now;
  }

  -- a move of the block, with the change that it makes
  moved_shown : (name : Block) (site : Site all name s.configuration) (effect : Effect) (d : Configuration) (l : Local) → Fits all site.place d site.low site.high → Holds (left_of d) l → (change : Change) → Touches all from name site.place site.inner d site.low site.high effect change → IsShown (after_change all pass name site.for_request change (after_machine name site.for_request effect l t)) (after pass s effect (site.whole d))
  moved_shown name site effect d l f holds nothing h =
      plain_shown t s shown still pass (site.whole d) effect h.0 _ refl refl refl (λ place. refl) (λ n. refl)
      (nothing_made name site.for_request s.configuration (site.whole d) (left_of site.inner) (left_of d) t cells (goes_on name site d (λ n. Unit {0}) f (λ n u. h.1 n)) effect l holds)
  moved_shown name site effect d l f holds (posts place i before) h =
      subst (λ e. IsShown (after_change all pass name site.for_request (posts place i before) (after_machine name site.for_request e l t)) (after pass s e (site.whole d))) (sym h.0)
      (sends_shown t s shown still pass (site.whole d) all name site.for_request l place i before
      (posts_made name site.for_request s.configuration (site.whole d) (left_of site.inner) (left_of d) t cells place i before (goes_at name site d i unseen (waits before) f h.1) (sends place i) l holds all pass))
  moved_shown name site effect d l f holds (forks i before) h =
      plain_shown t s shown still pass (site.whole d) effect h.0 _ refl refl refl (λ place. refl) (λ n. refl)
      (forks_made name site.for_request s.configuration (site.whole d) (left_of site.inner) (left_of d) t cells all pass i before site.place h.1 h.2 h.3 (goes_at name site d i unseen _ f h.4) effect l holds)
  moved_shown name site effect d l f holds (takes i) h =
      plain_shown t s shown still pass (site.whole d) effect h.0 _ refl refl refl (λ place. refl) (λ n. refl)
      (takes_made name site.for_request s.configuration (site.whole d) (left_of site.inner) (left_of d) t cells all pass i h.1 (goes_at name site d i _ unseen f h.2) effect l holds)
  moved_shown name site effect d l f holds (joins i) h =
      plain_shown t s shown still pass (site.whole d) effect h.0 _ refl refl refl (λ place. refl) (λ n. refl)
      (joins_made name site.for_request s.configuration (site.whole d) (left_of site.inner) (left_of d) t cells all pass i h.1 (goes_at name site d i _ unseen f h.2) effect l holds)
  moved_shown name site effect d l f holds (lifts i) h =
      let g = goes_at name site d i unseen (asks_for name) f h.1 in
      subst (λ e. IsShown (after_change all pass name site.for_request (lifts i) (after_machine name site.for_request e l t)) (after pass s e (site.whole d))) (sym h.0)
      (asks_shown t s shown still pass (site.whole d) all name site.for_request l i (cells.in_flight i ∙ ap asker_in g.was_there)
      (lifts_made name site.for_request s.configuration (site.whole d) (left_of site.inner) (left_of d) t cells all pass i g (asks i) l holds))
  moved_shown name site effect d l f holds (ends result) h = absurd h

  site_cells : (name : Block) (site : Site all name s.configuration) → Cells t (spot name site.place site.inner site.low site.high)
  site_cells name site = record {
    blocks = λ n le lt. subst (λ v. Stands v (t.blocks (of n))) (site.was_within n le lt) (cells.blocks (of n));
    replies = λ n le lt. cells.replies n ∙ ap reply_in (site.was_within n le lt);
    in_flight = λ n le lt. cells.in_flight n ∙ ap asker_in (site.was_within n le lt);
  }

  -- what is said of a block that runs holds of its machine
  pub by_machine : (Q : BlockState → Type 0) (for_request : Bool) (left : Left) (state : BlockState) → RunsOn for_request left state → ((l : Local) → Holds left l → Q (running for_request l)) → Q state
  by_machine Q for_request left not_started h f = absurd h
  by_machine Q for_request left (running flag l) h f = subst (λ b. Q (running b l)) (sym h.0) (f l h.1)
  by_machine Q for_request left (over result) h f = absurd h

  -- the machine of a block that isn't finished acts as its own move
  pub site_acts : (name : Block) (site : Site all name s.configuration) → IsGoing site.inner → (step : Step) (l : Local) → Holds (left_of site.inner) l → act (record { place = place_called all (block_name name); from = from }) t step l ≡ as_did (own_change site.inner) (End ∷ []) [] (told_or (held site.inner) l.evidence) (own_moves from site.place site.inner step)
  site_acts name site going step l holds =
      let is_local : l ≡ local (code_left site.inner (End ∷ [])) (told_or (held site.inner) l.evidence) (stack_left site.inner []) = local_same l.rest (code_left site.inner (End ∷ [])) l.evidence (told_or (held site.inner) l.evidence) l.stack (stack_left site.inner []) holds.code (sym holds.evidence) holds.stack in
      ap (λ p. act (setting all from p) t step l) site.placed
      ∙ ap (λ (x : Local). act (setting all from site.place) t step x) is_local
      ∙ own_acts all from t name site.place site.inner site.low site.high site.fits going (site_cells name site) step (End ∷ []) [] l.evidence

  -- so its step shows its own move
  pub going_shown : (name : Block) (site : Site all name s.configuration) → IsGoing site.inner → (step : Step) → AreShown (step_of all from pass step name t) (made pass s (inside site.whole (own_moves from site.place site.inner step)))
  going_shown name site going step =
      by_machine (λ state. AreShown (step_in all from pass step name t state) (made pass s (inside site.whole (own_moves from site.place site.inner step)))) site.for_request (left_of site.inner) (t.blocks name) (subst (λ v. Stands v (t.blocks name)) site.was (cells.blocks name))
      (λ l holds. subst (λ x. AreShown (after_step all pass name site.for_request t x) (made pass s (inside site.whole (own_moves from site.place site.inner step)))) (sym (site_acts name site going step l holds)) (shown_by (told_or (held site.inner) l.evidence) (own_moves from site.place site.inner step) refl))
    where
      shown_by : (e : Evidence) (x : Moved) → own_moves from site.place site.inner step ≡ x → AreShown (after_step all pass name site.for_request t (as_did (own_change site.inner) (End ∷ []) [] e x)) (made pass s (inside site.whole x))
      shown_by e None is = tt
      shown_by e (Some m) is =
          moved_shown name site m.0 m.1 (local (code_left m.1 (End ∷ [])) (told_or (held m.1) e) (stack_left m.1 [])) ((own_law from (StaysFit all) (fit_law all from) site.place site.inner step m is).1 site.low site.high site.fits) (holds_left m.1 e) (own_change site.inner) (own_touches all from name site.place site.inner site.low site.high site.fits step m is)

  ended_local : (result : Evidence) (l : Local) → Holds (left_of (finished result)) l → l ≡ local (End ∷ []) result []
  ended_local result l holds = local_same l.rest (End ∷ []) l.evidence result l.stack [] holds.code (sym holds.evidence) holds.stack

  -- the machine of a block that is finished is at its end
  pub end_acts : (place : List ℕ) (result : Evidence) (step : Step) (l : Local) → Holds (left_of (finished result)) l → act (record { place = place; from = from }) t step l ≡ end_of step result l
  end_acts place result run_step l holds =
      ap (λ (x : Local). act (setting all from place) t run_step x) (ended_local result l holds) ∙ ap (λ (x : Local). end_of run_step result x) (sym (ended_local result l holds))
  end_acts place result ask_step l holds = ap (λ (x : Local). act (setting all from place) t ask_step x) (ended_local result l holds)

  pub finished_acts : (name : Block) (for_request : Bool) (result : Evidence) → Stands (runs for_request (left_of (finished result))) (t.blocks name) → (Q : Option Tables → Type 0) (step : Step) → ((l : Local) → Holds (left_of (finished result)) l → Q (after_step all pass name for_request t (end_of step result l))) → Q (step_of all from pass step name t)
  finished_acts name for_request result stands Q step f =
      by_machine (λ state. Q (step_in all from pass step name t state)) for_request (left_of (finished result)) (t.blocks name) stands (λ l holds. subst Q (ap (λ (x : Acted). after_step all pass name for_request t x) (sym (end_acts (place_called all (block_name name)) result step l holds))) (f l holds))

-- a block that ends, of what is said of the blocks
pub record EndsAt (m : ℕ) (for_request : Bool) (c d : Configuration) (result : Evidence) : Type 0 where
  pub was : found root c m ≡ runs for_request (left_of (finished result))
  pub now : found root d m ≡ ended_view for_request result
  pub root_stays : left_of d ≡ left_of c
  pub others : (k : ℕ) → (k ≡ m → ⊥) → found root d k ≡ found root c k

module _ (all : List CodeBlock) (t : Tables) (c : Configuration) (cells : IsMadeOf c t) (pass m : ℕ) (d : Configuration) (result : Evidence) where
  end_stands : (for_request : Bool) → EndsAt m for_request c d result → (l : Local) → Stands (ended_view for_request result) (over result) → (other : Block) → Stands (found_block d other) (put_block (of m) (over result) (put_block (of m) (running for_request l) t.blocks) other)
  end_stands for_request e l ends_so =
      put_block_law (λ other state. Stands (found_block d other) state) (of m) (over result) (put_block (of m) (running for_request l) t.blocks)
      (subst (λ v. Stands v (over result)) (sym e.now) ends_so)
      elsewhere
    where
      there : (other : Block) → (of m ≡ other → ⊥) → Stands (found_block d other) (t.blocks other)
      there root ne = subst (λ x. Stands (runs false x) (t.blocks root)) (sym e.root_stays) (cells.blocks root)
      there (of k) ne = subst (λ v. Stands v (t.blocks (of k))) (sym (e.others k (λ is. ne (ap of (sym is))))) (cells.blocks (of k))

      elsewhere : (other : Block) → (of m ≡ other → ⊥) → Stands (found_block d other) (put_block (of m) (running for_request l) t.blocks other)
      elsewhere other ne = put_block_law (λ x state. (of m ≡ x → ⊥) → Stands (found_block d x) state) (of m) (running for_request l) t.blocks
          (λ apart. absurd (apart refl))
          (λ x apart also. there x apart)
          other ne

  end_waits : (for_request : Bool) → EndsAt m for_request c d result → (place : List ℕ) → AllWait d (t.requests place)
  end_waits for_request e place = still_wait c d (t.requests place) (λ k before h. e.others k (λ is. not_waiting k before h is) ∙ h) (cells.requests place)
    where
      different : (before : Evidence) → runs for_request (left_of (finished result)) ≡ waits before → ⊥
      different before h = cc

      not_waiting : (k : ℕ) (before : Evidence) → found root c k ≡ waits before → k ≡ m → ⊥
      not_waiting k before h is = different before (sym e.was ∙ subst (λ n. found root c n ≡ waits before) is h)

  end_flies : (for_request : Bool) → EndsAt m for_request c d result → asker_in (ended_view for_request result) ≡ None → (n : ℕ) → asker_of (t.in_flight n) ≡ asker_in (found root d n)
  end_flies for_request e none n = cells.in_flight n ∙ sym (elim (cases_eq n m) [
    | inl is ↦ subst (λ k. asker_in (found root d k) ≡ asker_in (found root c k)) (sym is) (ap asker_in e.now ∙ none ∙ sym (ap asker_in e.was))
    | inr ne ↦ ap asker_in (e.others n ne)
  ])

  -- what a block holds that has ended
  end_made : (for_request : Bool) → EndsAt m for_request c d result → (l : Local) → IsMadeOf d (after_end (of m) for_request result (after_machine (of m) for_request silent l t))
  end_made true e l = record {
    blocks = end_stands true e l tt;
    requests = end_waits true e;
    replies = put_at_law (Option Evidence) (λ n x. x ≡ reply_in (found root d n)) m (Some result) t.replies
        (sym (ap reply_in e.now))
        (λ n ne. cells.replies n ∙ sym (ap reply_in (e.others n ne)));
    in_flight = end_flies true e refl;
  }
  end_made false e l = record {
    blocks = end_stands false e l refl;
    requests = end_waits false e;
    replies = λ n. cells.replies n ∙ sym (elim (cases_eq n m) [
      | inl is ↦ subst (λ k. reply_in (found root d k) ≡ reply_in (found root c k)) (sym is) (ap reply_in e.now ∙ sym (ap reply_in e.was))
      | inr ne ↦ ap reply_in (e.others n ne)
    ]);
    in_flight = end_flies false e refl;
  }

module _ (all : List CodeBlock) (from : Makings) (place : List ℕ) (low high : ℕ) (t : Tables) (s : Standing) (shown : IsShown t s) (still : s.state ≡ is_open) (cells : IsMadeOf s.configuration t) (fits : Fits all place s.configuration low high) (pass : ℕ) where
  end_shown : (m : ℕ) (for_request : Bool) (d : Configuration) (result : Evidence) → EndsAt m for_request s.configuration d result → (l : Local) → IsShown (after_end (of m) for_request result (after_machine (of m) for_request silent l t)) (after pass s silent d)
  end_shown m true d result e l = record {
    state = shown.state;
    trace = shown.trace;
    answers = shown.answers;
    requests = shown.requests;
    in_flight = shown.in_flight;
    made = made_while s.state d _ still (end_made all t s.configuration cells pass m d result true e l);
  }
  end_shown m false d result e l = record {
    state = shown.state;
    trace = shown.trace;
    answers = shown.answers;
    requests = shown.requests;
    in_flight = shown.in_flight;
    made = made_while s.state d _ still (end_made all t s.configuration cells pass m d result false e l);
  }

  inside_itself : (x : Moved) → inside (λ d. d) x ≡ x
  inside_itself None = refl
  inside_itself (Some move) = refl

  pub root_is_none : (n : ℕ) → root ≡ of n → ⊥
  root_is_none n e = cc

  abbrev pub root_site : place_called all (block_name root) ≡ place → Site all root s.configuration
  root_site placed = record {
    for_request = false;
    place = place;
    inner = s.configuration;
    low = low;
    high = high;
    whole = λ d. d;
    placed = placed;
    fits = fits;
    was = refl;
    now = λ d. refl;
    root_stays = λ d ne. absurd (ne refl);
    within = λ d n le lt. refl;
    was_within = λ n le lt. refl;
    others = λ d n f ne out. outside all root place d low high n f out ∙ sym (outside all root place s.configuration low high n fits out);
    apart = λ n le lt. root_is_none n;
  }

  -- the root: its steps, and its end, which is the session's
  pub root_shown : place_called all (block_name root) ≡ place → (step : Step) → AreShown (step_of all from pass step root t) (root_step from place pass s step)
  root_shown placed step = elim (going_or s.configuration) [
    | inl going ↦
        let at_last : AreShown (step_of all from pass step root t) (made pass s (own_moves from place s.configuration step)) = subst (λ x. AreShown (step_of all from pass step root t) (made pass s x)) (inside_itself (own_moves from place s.configuration step)) (going_shown all from t s shown still cells pass root (root_site placed) going step) in
        root_going going step at_last
    | inr w ↦ root_finished w.0 w.1 step
  ]
    where
      root_going : IsGoing s.configuration → (step : Step) → AreShown (step_of all from pass step root t) (made pass s (own_moves from place s.configuration step)) → AreShown (step_of all from pass step root t) (root_step from place pass s step)
      root_going going run_step h =
          subst (λ x. AreShown (step_of all from pass run_step root t) x) (sym (until_finished (Option Standing) (made pass s (own_moves from place s.configuration run_step)) (λ value. Some (record s { state = is_done value })) s.configuration going)) h
      root_going going ask_step h = h

      root_over : (value : Evidence) (l : Local) → IsShown (after_end root false value (after_machine root false silent l t)) (record s { state = is_done value })
      root_over value l = record {
        state = refl;
        trace = shown.trace;
        answers = shown.answers;
        requests = shown.requests;
        in_flight = shown.in_flight;
        made = tt;
      }

      root_finished : (value : Evidence) → s.configuration ≡ finished value → (step : Step) → AreShown (step_of all from pass step root t) (root_step from place pass s step)
      root_finished value is run_step =
          subst (λ x. AreShown (step_of all from pass run_step root t) x) (sym (ap (λ c. once_finished c (made pass s (own_moves from place s.configuration run_step)) (λ v. Some (record s { state = is_done v }))) is))
          (finished_acts all from t s shown still cells pass root false value (subst (λ c. Stands (runs false (left_of c)) (t.blocks root)) is (cells.blocks root)) (λ x. AreShown x (Some (record s { state = is_done value }))) run_step (λ l holds. root_over value l))
      root_finished value is ask_step =
          subst (λ x. AreShown (step_of all from pass ask_step root t) (made pass s x)) (sym (ap (λ c. own_moves from place c ask_step) is))
          (finished_acts all from t s shown still cells pass root false value (subst (λ c. Stands (runs false (left_of c)) (t.blocks root)) is (cells.blocks root)) (λ x. AreShown x None) ask_step (λ l holds. tt))

  pub block_is : (a k : ℕ) → of a ≡ of k → a ≡ k
  block_is a k e = cc

  pub not_inside : (m n low : ℕ) → m + 1 ≤ low → low ≤ n → m ≡ n → ⊥
  not_inside m n low below le e = omega (arith, e, le, below)

  abbrev pub block_site : (m : ℕ) (v : View) → found root s.configuration m ≡ v → BlockIn all from m v (spot root place s.configuration low high) → Site all (of m) s.configuration
  block_site m v said b = record {
    for_request = b.for_request;
    place = b.place;
    inner = b.inner;
    low = b.low;
    high = b.high;
    whole = λ d. b.whole d false;
    placed = b.placed;
    fits = b.fits;
    was = said ∙ b.view;
    now = λ d. b.now d false;
    root_stays = λ d ne. ap (λ x. runs false x) (same_left (b.whole d false) s.configuration (b.same d false));
    within = λ d n le lt. b.within d false n le lt;
    was_within = λ n le lt. b.was_within n le lt;
    others = λ d n f ne out. b.others d false n tt f (λ e. ne (ap of (sym e))) out;
    apart = λ n le lt e. not_inside m n b.low b.below le (block_is m n e);
  }

  ends_at : (m : ℕ) (v : View) (said : found root s.configuration m ≡ v) (b : BlockIn all from m v (spot root place s.configuration low high)) (result : Evidence) → b.inner ≡ finished result → EndsAt m b.for_request s.configuration (b.whole (finished result) true) result
  ends_at m v said b result is = record {
    was = said ∙ b.view ∙ ap (λ c. runs b.for_request (left_of c)) is;
    now = b.now (finished result) true;
    root_stays = same_left (b.whole (finished result) true) s.configuration (b.same (finished result) true);
    others = λ k ne. by_range (found root (b.whole (finished result) true) k ≡ found root s.configuration k) b.low b.high k
        (λ r. b.within (finished result) true k r.least r.most ∙ sym (b.was_within k r.least r.most ∙ ap (λ c. found (of m) c k) is))
        (λ out. b.others (finished result) true k (λ going. going) tt ne out);
  }

  running_shown : (m : ℕ) (v : View) → found root s.configuration m ≡ v → BlockIn all from m v (spot root place s.configuration low high) → (step : Step) → AreShown (step_of all from pass step (of m) t) (made pass s (inner_moves from place s.configuration (in_block m step)))
  running_shown m v said b step = subst (λ x. AreShown (step_of all from pass step (of m) t) (made pass s x)) (sym (b.steps step)) (elim (going_or b.inner) [
    | inl going ↦
        subst (λ x. AreShown (step_of all from pass step (of m) t) (made pass s x)) (sym (until_finished Moved (inside (λ d. b.whole d false) (own_moves from b.place b.inner step)) (λ result. only_if true (on_run step silent (b.whole (finished result) true))) b.inner going))
        (going_shown all from t s shown still cells pass (of m) (block_site m v said b) going step)
    | inr w ↦
        subst (λ x. AreShown (step_of all from pass step (of m) t) (made pass s x)) (sym (ap (λ c. once_finished c (inside (λ d. b.whole d false) (own_moves from b.place b.inner step)) (λ result. only_if true (on_run step silent (b.whole (finished result) true)))) w.1))
        (over_shown w.0 w.1 step)
  ])
    where
      stands : (result : Evidence) → b.inner ≡ finished result → Stands (runs b.for_request (left_of (finished result))) (t.blocks (of m))
      stands result is = subst (λ x. Stands x (t.blocks (of m))) (said ∙ b.view ∙ ap (λ c. runs b.for_request (left_of c)) is) (cells.blocks (of m))

      over_shown : (result : Evidence) → b.inner ≡ finished result → (step : Step) → AreShown (step_of all from pass step (of m) t) (made pass s (on_run step silent (b.whole (finished result) true)))
      over_shown result is run_step =
          finished_acts all from t s shown still cells pass (of m) b.for_request result (stands result is) (λ x. AreShown x (Some (after pass s silent (b.whole (finished result) true)))) run_step (λ l holds. end_shown m b.for_request (b.whole (finished result) true) result (ends_at m v said b result is) l)
      over_shown result is ask_step =
          finished_acts all from t s shown still cells pass (of m) b.for_request result (stands result is) (λ x. AreShown x None) ask_step (λ l holds. tt)

  idle_none : (step : Step) (name : Block) (state : BlockState) → IsIdle state → step_in all from pass step name t state ≡ None
  idle_none step name not_started idle = refl
  idle_none step name (running flag l) idle = absurd idle
  idle_none step name (over result) idle = refl

  idle_shown : (m : ℕ) (step : Step) → IsIdle (t.blocks (of m)) → suits (found root s.configuration m) (in_block m step) ≡ false → AreShown (step_of all from pass step (of m) t) (made pass s (inner_moves from place s.configuration (in_block m step)))
  idle_shown m step idle unsuited =
      subst (λ x. AreShown x (made pass s (inner_moves from place s.configuration (in_block m step)))) (sym (idle_none step (of m) (t.blocks (of m)) idle))
      (subst (λ x. AreShown None (made pass s x)) (sym (no_deed all from root place s.configuration low high (in_block m step) fits unsuited)) tt)

  -- a block of its own: its steps where it runs, and none elsewhere
  pub block_shown : (m : ℕ) (step : Step) → AreShown (step_of all from pass step (of m) t) (made pass s (inner_moves from place s.configuration (in_block m step)))
  block_shown m step = by_view (found root s.configuration m) refl (cells.blocks (of m))
    where
      by_view : (v : View) → found root s.configuration m ≡ v → Stands v (t.blocks (of m)) → AreShown (step_of all from pass step (of m) t) (made pass s (inner_moves from place s.configuration (in_block m step)))
      by_view unseen e stands = idle_shown m step stands (ap (λ v. suits v (in_block m step)) e)
      by_view (asks_for name) e stands = idle_shown m step stands (ap (λ v. suits v (in_block m step)) e)
      by_view (waits before) e stands = idle_shown m step stands (ap (λ v. suits v (in_block m step)) e)
      by_view (runs for_request l) e stands = running_shown m (runs for_request l) e (block_in all from m for_request l root place s.configuration low high fits e) step
      by_view (replied result) e stands = idle_shown m step stands (ap (λ v. suits v (in_block m step)) e)
      by_view (joinable result) e stands = idle_shown m step (subst IsIdle (sym stands) tt) (ap (λ v. suits v (in_block m step)) e)
