-- What a possible move touches is what the next instruction of its block does.
use Rattle.std.proofs.Common.{◌≡◌, ℕ, ◌+◌, ◌≤◌, inl, inr, List, [], ◌∷◌, refl, sym, ◌∙◌, ap, subst, arith}
use Rattle.std.specs.Prelude.{Bool, true, false, Option, None, Some, nat_eq, if◌then◌else◌}
use Rattle.std.proofs.lemmas.Bool.{cases_lt, cases_eq}
use Rattle.phrase_tree.specs.Term.{cpy, sig, hsh, nul, usm, kim, Term, leaf, at, chain, seq, par}
use Rattle.phrase_tree.specs.Numbering.{event_count}
use Rattle.evidence_types.specs.Evidence.{Evidence}
use Rattle.session_model.specs.Session.{Session}
use Rattle.session_model.specs.Value.{Makings}
use Rattle.avm_code.specs.declared.instr.Instr.{Instr}
use Rattle.avm_code.specs.declared.instr.Instr.TheVariants.{Swap, JoinSeq, JoinPar, End}
use Rattle.avm_code.specs.declared.program.Block.{Block as CodeBlock}
use Rattle.avm_compile.specs.Program.{program_of, code_of}
use Rattle.machine_tables.specs.Row.{Local}
use Rattle.machine_tables.specs.Tables.{running, Tables}
use Rattle.session_runs.specs.Configuration.{Configuration, todo, asked, posted, remote, first, left_arm, right_arm, both_arms, finished, once_finished}
use Rattle.session_runs.specs.Moves.{run as run_step, in_block, Moved, inner_moves}
use Rattle.session_runs.specs.Standing.{Block, root, of, run, deliver, Entry, played, is_open, Standing, makings, played_on, next}
use Rattle.session_runs.specs.History.{standing_after}
use Rattle.session_runs.specs.Touches.{touches_nothing, sends_reply, needs_request, needs_reply, Touched, touching, sending, touched_or, touch_phrase, touch_own, touch_block, touch_inner, touch_front, touch_move, touched_while, touch_in, sent_in, touch_of, sent_by}
use Rattle.session_runs.proofs.EntryLaws.{once_finished_any, where_open_is}
use Rattle.session_runs.proofs.TouchLaws.{Shows, shows_inner, run_is_there}
use Rattle.session_tables.specs.Left.{code_left, held, stack_left, told_or, Left, left_of}
use Rattle.session_tables.specs.Found.{View, unseen, asks_for, waits, runs, replied, joinable, seen_or, block_view, found}
use Rattle.session_tables.specs.Shown.{Holds, Stands, IsMadeOf, IsShown, numbers}
use Rattle.session_tables.specs.TouchedAt.{touched_so, touched_at}
use Rattle.session_tables.proofs.Fitting.{Fits, SessionFits, fits_after_history, if_other, if_same, seen_or_none, outside}
use Rattle.session_tables.proofs.Frames.{no_move_outside}
use Rattle.session_tables.proofs.Lists.{front_some}
use Rattle.session_tables.proofs.OwnMoves.{local, local_same}
use Rattle.session_tables.proofs.Steps.{made_still}

some_touched : (a b : Touched) → ◌≡◌ {A = Option Touched} (Some a) (Some b) → a ≡ b
some_touched a b e = cc

none_touched : (Q : Type 0) (a : Touched) → ◌≡◌ {A = Option Touched} None (Some a) → Q
none_touched Q a e = absurd (cc)

-- the first instruction of code touches this
abbrev pub CodeTouches : Block → Bool → Local → List Instr → Touched → Type 0
CodeTouches name for_request l [] touched = ⊥
CodeTouches name for_request l (instr ∷ rest) touched = touched_at name for_request instr l ≡ touched

module _ (name : Block) (for_request : Bool) (touched : Touched) where
  phrase_touches : (phrase : Term) (i : ℕ) (before : Evidence) (k : List Instr) (u : List Evidence) → touch_phrase phrase i before ≡ Some touched → CodeTouches name for_request (local (code_of phrase i k) before u) (code_of phrase i k) touched
  phrase_touches (leaf cpy) i before k u e = some_touched (touched_so touches_nothing None) touched e
  phrase_touches (leaf sig) i before k u e = some_touched (touched_so touches_nothing None) touched e
  phrase_touches (leaf hsh) i before k u e = some_touched (touched_so touches_nothing None) touched e
  phrase_touches (leaf nul) i before k u e = some_touched (touched_so touches_nothing None) touched e
  phrase_touches (leaf (usm asp)) i before k u e = none_touched _ touched e
  phrase_touches (leaf (kim target asp)) i before k u e = none_touched _ touched e
  phrase_touches (at asked_place body) i before k u e = some_touched _ touched e
  phrase_touches (chain left right) i before k u e = none_touched _ touched e
  phrase_touches (seq split left right) i before k u e = some_touched (touched_so touches_nothing None) touched e
  phrase_touches (par split left right) i before k u e = some_touched (touched_so touches_nothing None) touched e

  if_touched : (b : Bool) (x : Option Touched) → (if b then x else None) ≡ Some touched → x ≡ Some touched
  if_touched true x e = e
  if_touched false x e = none_touched _ touched e

  -- what is left for a block
  left_touches : (c : Configuration) (k : List Instr) (u : List Evidence) (e : Evidence) → touch_own c ≡ Some touched → CodeTouches name for_request (local (code_left c k) (told_or (held c) e) (stack_left c u)) (code_left c k) touched
  left_touches (todo phrase i before) k u e h = phrase_touches phrase i before k u h
  left_touches (asked form i before) k u e h = none_touched _ touched h
  left_touches (posted asked_place i body before) k u e h = none_touched _ touched h
  left_touches (remote asked_place i last inner ended) k u e h =
      once_finished_any (Option Touched) (touched_so (needs_reply i) None ≡ touched) inner None (Some touched) (λ result. if ended then touching (needs_reply i) else None)
      (λ g. none_touched _ touched g)
      (λ result is g. some_touched (touched_so (needs_reply i) None) touched (if_touched ended (touching (needs_reply i)) g))
      h
  left_touches (first inner right i) k u e h = left_touches inner (code_of right i k) u e h
  left_touches (left_arm inner right i before last) k u e h =
      let behind : List Instr = Swap ∷ code_of right i (JoinSeq last ∷ k) in
      once_finished_any (Option Touched) (CodeTouches name for_request (local (code_left inner behind) (told_or (held inner) e) (stack_left inner (before ∷ u))) (code_left inner behind) touched) inner (touch_own inner) (Some touched) (λ result. touching touches_nothing)
      (λ g. left_touches inner behind (before ∷ u) e g)
      (λ result is g. subst (λ c. CodeTouches name for_request (local (code_left c behind) (told_or (held c) e) (stack_left c (before ∷ u))) (code_left c behind) touched) (sym is) (some_touched (touched_so touches_nothing None) touched g))
      h
  left_touches (right_arm left_result inner last) k u e h =
      let behind : List Instr = JoinSeq last ∷ k in
      once_finished_any (Option Touched) (CodeTouches name for_request (local (code_left inner behind) (told_or (held inner) e) (stack_left inner (left_result ∷ u))) (code_left inner behind) touched) inner (touch_own inner) (Some touched) (λ result. touching touches_nothing)
      (λ g. left_touches inner behind (left_result ∷ u) e g)
      (λ result is g. subst (λ c. CodeTouches name for_request (local (code_left c behind) (told_or (held c) e) (stack_left c (left_result ∷ u))) (code_left c behind) touched) (sym is) (some_touched (touched_so touches_nothing None) touched g))
      h
  left_touches (both_arms i last left right ended) k u e h =
      let behind : List Instr = JoinPar last i ∷ k in
      once_finished_any (Option Touched) (CodeTouches name for_request (local (code_left left behind) (told_or (held left) e) (stack_left left u)) (code_left left behind) touched) left (touch_own left) (Some touched) (λ left_result. once_finished right None (λ right_result. if ended then touching touches_nothing else None))
      (λ g. left_touches left behind u e g)
      (λ result is g. subst (λ c. CodeTouches name for_request (local (code_left c behind) (told_or (held c) e) (stack_left c u)) (code_left c behind) touched) (sym is)
      (once_finished_any (Option Touched) (touched_so touches_nothing None ≡ touched) right None (Some touched) (λ right_result. if ended then touching touches_nothing else None)
      (λ f. none_touched _ touched f)
      (λ right_result also f. some_touched (touched_so touches_nothing None) touched (if_touched ended (touching touches_nothing) f))
      g))
      h
  left_touches (finished result) k u e h = none_touched _ touched h

  -- a machine that holds what is left of a block, or is at its end
  machine_touches : (inner : Configuration) (ended : Bool) (at_end : Evidence → Option Touched) (l : Local) → ((result : Evidence) → at_end result ≡ Some touched → touched_at name for_request End (local (End ∷ []) result []) ≡ touched) → touch_block inner ended at_end ≡ Some touched → Holds (left_of inner) l → CodeTouches name for_request l l.rest touched
  machine_touches inner ended at_end l ends h holds =
      let is_local : local (code_left inner (End ∷ [])) (told_or (held inner) l.evidence) (stack_left inner []) ≡ l = sym (local_same l.rest (code_left inner (End ∷ [])) l.evidence (told_or (held inner) l.evidence) l.stack (stack_left inner []) holds.code (sym holds.evidence) holds.stack) in
      subst (λ (x : Local). CodeTouches name for_request x x.rest touched) is_local
      (once_finished_any (Option Touched) (CodeTouches name for_request (local (code_left inner (End ∷ [])) (told_or (held inner) l.evidence) (stack_left inner [])) (code_left inner (End ∷ [])) touched) inner (touch_own inner) (Some touched) (λ result. if ended then None else at_end result)
      (λ g. left_touches inner (End ∷ []) [] l.evidence g)
      (λ result is g. subst (λ c. CodeTouches name for_request (local (code_left c (End ∷ [])) (told_or (held c) l.evidence) (stack_left c [])) (code_left c (End ∷ [])) touched) (sym is) (ends result (going_end ended (at_end result) g)))
      h)
    where
      going_end : (b : Bool) (x : Option Touched) → (if b then None else x) ≡ Some touched → x ≡ Some touched
      going_end true x g = none_touched _ touched g
      going_end false x g = g

none_shown : (x : Option Touched) (y : Moved) → Shows x y → y ≡ None → x ≡ None
none_shown None y h e = refl
none_shown (Some touched) y h e = absurd (subst (λ z. Shows (Some touched) z) e h)

second_touched : (x y : Option Touched) (touched : Touched) → x ≡ None → touched_or x y ≡ Some touched → y ≡ Some touched
second_touched x y touched e h = sym (ap (λ z. touched_or z y) e) ∙ h

first_touched : (x y : Option Touched) (touched : Touched) → y ≡ None → touched_or x y ≡ Some touched → x ≡ Some touched
first_touched None y touched e h = none_touched _ touched (sym e ∙ h)
first_touched (Some other) y touched e h = h

runs_is : (a b : Bool) (l m : Left) → runs a l ≡ runs b m → (a ≡ b) × (l ≡ m)
runs_is a b l m e = (cc, cc)

module _ (all : List CodeBlock) (from : Makings) (n : ℕ) (for_request : Bool) (left : Left) (touched : Touched) where
  touch_none : (name : Block) (place : List ℕ) (c : Configuration) (low high : ℕ) → Fits all place c low high → (low ≤ n → high ≤ n) → touch_inner c n ≡ None
  touch_none name place c low high h out =
      none_shown (touch_inner c n) (inner_moves from place c (in_block n run_step)) (shows_inner from place c n) (no_move_outside all from name place c low high (in_block n run_step) h out)

  -- a block of a number where it stands
  block_touches : (request : Bool) (inner : Configuration) (ended : Bool) (at_end : Evidence → Option Touched) → ((result : Evidence) → at_end result ≡ Some touched → touched_at (of n) request End (local (End ∷ []) result []) ≡ touched) → block_view request inner ended ≡ runs for_request left → touch_block inner ended at_end ≡ Some touched → (l : Local) → Holds left l → CodeTouches (of n) for_request l l.rest touched
  block_touches request inner true at_end ends e h l holds = absurd (ended_runs request e)
    where
      ended_runs : (b : Bool) → block_view b inner true ≡ runs for_request left → ⊥
      ended_runs true g = cc
      ended_runs false g = cc
  block_touches request inner false at_end ends e h l holds =
      let same = runs_is request for_request (left_of inner) left e in
      subst (λ b. CodeTouches (of n) b l l.rest touched) same.0 (machine_touches (of n) request touched inner false at_end l ends h (subst (λ x. Holds x l) (sym same.1) holds))

  reply_ends : (result : Evidence) → sending (sends_reply n) result ≡ Some touched → touched_at (of n) true End (local (End ∷ []) result []) ≡ touched
  reply_ends result e = some_touched (touched_so (sends_reply n) (Some result)) touched e

  arm_ends : (result : Evidence) → touching touches_nothing ≡ Some touched → touched_at (of n) false End (local (End ∷ []) result []) ≡ touched
  arm_ends result e = some_touched (touched_so touches_nothing None) touched e

  lower_touches : (name : Block) (place : List ℕ) (c : Configuration) (low high : ℕ) → Fits all place c low high → found name c n ≡ runs for_request left → touch_inner c n ≡ Some touched → (l : Local) → Holds left l → CodeTouches (of n) for_request l l.rest touched
  lower_touches name place (todo phrase i before) low high h e t l holds = none_touched _ touched t
  lower_touches name place (asked form i before) low high h e t l holds = none_touched _ touched t
  lower_touches name place (posted asked_place i body before) low high h e t l holds = none_touched _ touched t
  lower_touches name place (remote asked_place i last inner ended) low high h e t l holds = elim (cases_eq n i) [
    | inl is ↦
        let below : touch_inner inner n ≡ None = touch_none (of i) asked_place inner (i + 1) last h.4 (λ le. omega (arith, is, le)) in
        let here : (if nat_eq n i then touch_block inner ended (λ result. sending (sends_reply i) result) else None) ≡ Some touched = second_touched (touch_inner inner n) _ touched below t in
        block_touches true inner ended (λ result. sending (sends_reply i) result) (λ result g. reply_ends result (subst (λ k. sending (sends_reply k) result ≡ Some touched) (sym is) g)) (sym (if_same View n i (block_view true inner ended) (found (of i) inner n) is) ∙ e) (if_touched (of n) for_request touched (nat_eq n i) (touch_block inner ended (λ result. sending (sends_reply i) result)) here) l holds
    | inr ne ↦
        lower_touches (of i) asked_place inner (i + 1) last h.4 (sym (if_other View n i (block_view true inner ended) (found (of i) inner n) ne) ∙ e) (first_touched (touch_inner inner n) _ touched (if_other (Option Touched) n i (touch_block inner ended (λ result. sending (sends_reply i) result)) None ne) t) l holds
  ]
  lower_touches name place (first inner right i) low high h e t l holds = lower_touches name place inner low i h.4 e t l holds
  lower_touches name place (left_arm inner right i before last) low high h e t l holds = lower_touches name place inner low i h.4 e t l holds
  lower_touches name place (right_arm left_result inner last) low high h e t l holds = lower_touches name place inner low last h.1 e t l holds
  lower_touches name place (both_arms i last arm right ended) low high h e t l holds = elim (cases_eq n i) [
    | inl is ↦
        let in_left : touch_inner arm n ≡ None = touch_none name place arm (i + 1) h.4.0 h.4.3 (λ le. omega (arith, is, le)) in
        let in_right : touch_inner right n ≡ None = touch_none (of i) place right h.4.0 last h.4.4 (λ le. omega (arith, is, le, h.4.1)) in
        let here : (if nat_eq n i then touch_block right ended (λ result. touching touches_nothing) else None) ≡ Some touched = second_touched (touch_inner right n) _ touched in_right (second_touched (touch_inner arm n) _ touched in_left t) in
        block_touches false right ended (λ result. touching touches_nothing) arm_ends (sym (if_same View n i (block_view false right ended) (seen_or (found name arm n) (found (of i) right n)) is) ∙ e) (if_touched (of n) for_request touched (nat_eq n i) (touch_block right ended (λ result. touching touches_nothing)) here) l holds
    | inr ne ↦
        let not_here : (if nat_eq n i then touch_block right ended (λ result. touching touches_nothing) else None) ≡ None = if_other (Option Touched) n i (touch_block right ended (λ result. touching touches_nothing)) None ne in
        let seen : seen_or (found name arm n) (found (of i) right n) ≡ runs for_request left = sym (if_other View n i (block_view false right ended) (seen_or (found name arm n) (found (of i) right n)) ne) ∙ e in
        elim (cases_lt n h.4.0) [
          | inl below ↦
              let in_right : touch_inner right n ≡ None = touch_none (of i) place right h.4.0 last h.4.4 (λ le. omega (arith, below, le)) in
              let behind : touched_or (touch_inner right n) (if nat_eq n i then touch_block right ended (λ result. touching touches_nothing) else None) ≡ None = ap (λ x. touched_or x (if nat_eq n i then touch_block right ended (λ result. touching touches_nothing) else None)) in_right ∙ not_here in
              let there : found name arm n ≡ runs for_request left = sym (ap (λ x. seen_or (found name arm n) x) (outside all (of i) place right h.4.0 last n h.4.4 (λ le. omega (arith, below, le))) ∙ seen_or_none (found name arm n)) ∙ seen in
              lower_touches name place arm (i + 1) h.4.0 h.4.3 there (first_touched (touch_inner arm n) _ touched behind t) l holds
          | inr above ↦
              let in_left : touch_inner arm n ≡ None = touch_none name place arm (i + 1) h.4.0 h.4.3 (λ le. above) in
              let there : found (of i) right n ≡ runs for_request left = sym (ap (λ x. seen_or x (found (of i) right n)) (outside all name place arm (i + 1) h.4.0 n h.4.3 (λ le. above))) ∙ seen in
              lower_touches (of i) place right h.4.0 last h.4.4 there (first_touched (touch_inner right n) _ touched not_here (second_touched (touch_inner arm n) _ touched in_left t)) l holds
        ]
  ]
  lower_touches name place (finished result) low high h e t l holds = none_touched _ touched t

-- what is said of a block whose machine runs
runs_so : (v : View) (flag : Bool) (l : Local) → Stands v (running flag l) → (left : Left) × (v ≡ runs flag left) × Holds left l
runs_so unseen flag l h = absurd h
runs_so (asks_for name) flag l h = absurd h
runs_so (waits before) flag l h = absurd h
runs_so (runs for_request left) flag l h = (left, ap (λ b. runs b left) (sym h.0), h.1)
runs_so (replied result) flag l h = absurd h
runs_so (joinable result) flag l h = absurd (cc)

code_touches : (name : Block) (flag : Bool) (l : Local) (code : List Instr) (instr : Instr) (rest : List Instr) (touched : Touched) → code ≡ instr ∷ rest → CodeTouches name flag l code touched → touched_at name flag instr l ≡ touched
code_touches name flag l code instr rest touched e h = subst (λ xs. CodeTouches name flag l xs touched) e h

module _ (session : Session) (keys : List (List ℕ × List ℕ)) (s : Standing) (t : Tables) (fits : SessionFits session s) (cells : IsMadeOf s.configuration t) (flag : Bool) (l : Local) (touched : Touched) where
  block_touched : (name : Block) → t.blocks name ≡ running flag l → touch_move s (run name) ≡ Some touched → CodeTouches name flag l l.rest touched
  block_touched root is h =
      let w = runs_so (runs false (left_of s.configuration)) flag l (subst (λ x. Stands (runs false (left_of s.configuration)) x) is (cells.blocks root)) in
      let same = runs_is false flag (left_of s.configuration) w.0 w.1 in
      machine_touches root flag touched s.configuration false (λ value. touching touches_nothing) l (λ result g. some_touched (touched_so touches_nothing None) touched g) h (subst (λ x. Holds x l) (sym same.1) w.2)
  block_touched (of n) is h =
      let w = runs_so (found root s.configuration n) flag l (subst (λ x. Stands (found root s.configuration n) x) is (cells.blocks (of n))) in
      lower_touches (program_of session.phrase session.root) (makings session keys) n flag w.0 touched root session.root s.configuration 0 (event_count session.phrase) fits w.1 h l w.2

-- a move of a block touches what its next instruction does
abbrev pub RunTouches : Standing → Block → Bool → Instr → Local → Type 0
RunTouches s name flag instr l =
    (touch_of s (run name) ≡ (touched_at name flag instr l).touch) × (sent_by s (run name) ≡ (touched_at name flag instr l).sent)

touches_so : (s : Standing) (name : Block) (flag : Bool) (instr : Instr) (l : Local) (touched : Touched) → s.state ≡ is_open → touch_move s (run name) ≡ Some touched → touched_at name flag instr l ≡ touched → RunTouches s name flag instr l
touches_so s name flag instr l touched still moves is =
    let there : touched_while s.state (touch_move s (run name)) ≡ Some touched = ap (λ x. touched_while x (touch_move s (run name))) still ∙ moves in
    (ap touch_in there ∙ sym (ap (λ x. x.touch) is), ap sent_in there ∙ sym (ap (λ x. x.sent) is))

pub run_touches : (session : Session) (keys : List (List ℕ × List ℕ)) (history : List Entry) (s after : Standing) (t : Tables) (pass : ℕ) (name : Block) (flag : Bool) (l : Local) (instr : Instr) (rest : List Instr) → standing_after session keys history ≡ Some s → IsShown t s → next session keys s (played pass (run name)) ≡ Some after → t.blocks name ≡ running flag l → l.rest ≡ instr ∷ rest → RunTouches s name flag instr l
run_touches session keys history s after t pass name flag l instr rest e shown n runs_on code =
    where_open_is (RunTouches s name flag instr l) s.state (played_on (makings session keys) session.root pass s (run name)) after
    (λ still h.
    let w = run_is_there session keys s after pass name h in
    touches_so s name flag instr l w.0 still w.1 (code_touches name flag l l.rest instr rest w.0 code (block_touched session keys s t (fits_after_history session keys history s e) (made_still s.state s.configuration t still shown.made) flag l w.0 name runs_on w.1))) n

-- a delivery needs the request that is first at its place
pub delivery_touches : (s : Standing) (t : Tables) (place : List ℕ) (request : ℕ × Evidence) (rest : List (ℕ × Evidence)) → s.state ≡ is_open → IsShown t s → t.requests place ≡ request ∷ rest → (touch_of s (deliver place) ≡ needs_request request.0) × (sent_by s (deliver place) ≡ None)
delivery_touches s t place request rest still shown is =
    let there : touched_while s.state (touch_move s (deliver place)) ≡ touching (needs_request request.0) = ap (λ x. touched_while x (touch_move s (deliver place))) still ∙ ap touch_front (front_some s.requests place request.0 (numbers rest) (sym (shown.requests place) ∙ ap numbers is)) in
    (ap touch_in there, ap sent_in there)
