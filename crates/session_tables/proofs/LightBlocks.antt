-- In a session of a light phrase, what the next instruction of each block makes fits a bundle.
use Rattle.std.proofs.Common.{◌≡◌, ℕ, ◌+◌, ◌≤◌, ◌<◌, ◌⊎◌, inl, inr, List, [], ◌∷◌, length, refl, sym, ◌∙◌, ap, subst, arith}
use Rattle.std.specs.Prelude.{Bool, true, false, Option, None, Some, nat_eq, if◌then◌else◌}
use Rattle.std.proofs.lemmas.Bool.{cases_eq}
use Rattle.phrase_tree.specs.Term.{Leaf, cpy, sig, hsh, nul, usm, kim, is_measurement, Term, leaf, at, chain, seq, par}
use Rattle.phrase_tree.specs.Numbering.{event_count}
use Rattle.evidence_types.specs.Answer.{FitsAnswer}
use Rattle.evidence_types.specs.Bytes.{FitsBundle}
use Rattle.evidence_types.specs.Evidence.{Evidence, seq_pair, par_pair}
use Rattle.evidence_types.specs.Measure.{IsLight}
use Rattle.session_model.specs.Session.{Session}
use Rattle.session_model.specs.Value.{Makings, part}
use Rattle.avm_code.specs.declared.instr.Instr.{Instr}
use Rattle.avm_code.specs.declared.instr.Instr.TheVariants.{Copy, Usm, Kim, Sign, Hash, Null, Split, Swap, JoinSeq, Send, Recv, Fork, JoinPar, End}
use Rattle.avm_code.specs.declared.program.Block.{Block as CodeBlock}
use Rattle.avm_code.specs.Blocks.{place_named}
use Rattle.avm_compile.specs.Program.{program_of, leaf_instr, code_of}
use Rattle.machine_tables.specs.Row.{Setting, Local, measured, replied as replied_machine, joined}
use Rattle.machine_tables.specs.Tables.{BlockState, not_started, running, over, Tables, block_name, Change, nothing, posts, forks, takes, joins, lifts, ends, Acted, result_of, is_asked, acts, acts_unless, acts_with}
use Rattle.machine_tables.specs.Allowed.{Measures}
use Rattle.avm_code.specs.Order.{place_called}
use Rattle.session_runs.specs.Configuration.{Configuration, todo, asked, posted, remote, first, left_arm, right_arm, both_arms, finished, measurement}
use Rattle.session_runs.specs.Moves.{run as run_step, Effect, silent, happens, sends, asks}
use Rattle.session_runs.specs.Standing.{Block, root, of, Entry, is_open, Standing, makings}
use Rattle.session_runs.specs.History.{standing_after}
use Rattle.session_runs.specs.Light.{WhereFinished, AllMade, AllValues, AreShort}
use Rattle.session_runs.proofs.LightLaws.{history_light}
use Rattle.session_tables.specs.Left.{code_left, held, stack_left, told_or, Left, left_of}
use Rattle.session_tables.specs.Found.{View, unseen, asks_for, waits, runs, replied, joinable, seen_or, result_in, block_view, found}
use Rattle.session_tables.specs.Shown.{Holds, RunsOn, Stands, reply_in, asker_in, asker_of, IsMadeOf, IsShown}
use Rattle.session_tables.specs.NextFits.{JoinFits, AnswerFits, NextFits, FirstMeasures, IsAsking}
use Rattle.session_tables.proofs.Starting.{going_or}
use Rattle.session_tables.proofs.Fitting.{IsOver, Fits, SessionFits, fits_after_history, if_other, if_same, seen_or_none, outside}
use Rattle.session_tables.proofs.Frames.{spot}
use Rattle.session_tables.proofs.OwnMoves.{local, local_same}
use Rattle.session_tables.proofs.Answers.{IsAnswered, Answered, by_own, by_lower, answered_left, answered_in}
use Rattle.session_tables.proofs.Steps.{made_still}
use Rattle.session_tables.proofs.Freshness.{some_acted}

-- what the first instruction of a machine's code makes fits
abbrev pub CodeFits : Setting → Tables → Local → List Instr → Type 0
CodeFits setting t l [] = Unit {0}
CodeFits setting t l (instr ∷ rest) = NextFits setting t instr l

-- the block and the reply of a number are as a view says
abbrev pub Agrees : Tables → ℕ → View → Type 0
Agrees t n view = Stands view (t.blocks (of n)) × (t.replies n ≡ reply_in view)

-- those of a range of numbers are as a configuration says
abbrev pub StandIn : Tables → Block → Configuration → ℕ → ℕ → Type 0
StandIn t name c low high = (n : ℕ) → low ≤ n → n < high → Agrees t n (found name c n)

-- a reply fits, where there is one
abbrev pub ReplyFits : Option Evidence → Type 0
ReplyFits None = Unit {0}
ReplyFits (Some reply) = FitsBundle reply

-- what a machine holds after it ran on
abbrev pub ActedFits : Acted → Type 0
ActedFits acted = (effect : Effect) (change : Change) (after : Local) → acted ≡ Some (effect, change, after) → FitsBundle after.evidence

ran_fits : (effect : Effect) (change : Change) (l : Local) → FitsBundle l.evidence → ActedFits (acts run_step effect change l)
ran_fits effect change l fits other_effect other_change after e =
    subst (λ x. FitsBundle x.2.evidence) (some_acted (effect, change, l) (other_effect, other_change, after) e) fits

asks_fits : (flies : Bool) (i : ℕ) (l : Local) → ActedFits (acts_unless flies run_step (asks i) (lifts i) l)
asks_fits true i l effect change after e = absurd (cc)
asks_fits false i l effect change after e = absurd (cc)

replied_fits : (reply : Option Evidence) (j i : ℕ) (l : Local) → ReplyFits reply → ActedFits (acts_with reply (λ v. acts run_step (happens j) (takes i) (replied_machine v l)))
replied_fits None j i l fits effect change after e = absurd (cc)
replied_fits (Some v) j i l fits effect change after e = ran_fits (happens j) (takes i) (replied_machine v l) fits effect change after e

joined_fits : (result : Option Evidence) (j i : ℕ) (l : Local) → JoinFits l.evidence result → ActedFits (acts_with result (λ v. acts run_step (happens j) (joins i) (joined v l)))
joined_fits None j i l fits effect change after e = absurd (cc)
joined_fits (Some v) j i l fits effect change after e = ran_fits (happens j) (joins i) (joined v l) fits.2 effect change after e

idle_no_result : (for_request : Bool) (left : Left) (state : BlockState) → RunsOn for_request left state → result_of state ≡ None
idle_no_result for_request left not_started h = absurd h
idle_no_result for_request left (running flag l) h = refl
idle_no_result for_request left (over result) h = absurd h

where_it_finished : (P : Evidence → Type 0) (c : Configuration) (result : Evidence) → c ≡ finished result → WhereFinished c P → P result
where_it_finished P c result is h = subst (λ d. WhereFinished d P) is h

-- the range of a part of what a block runs
stand_less : (t : Tables) (name : Block) (c : Configuration) (low high less : ℕ) → less ≤ high → StandIn t name c low high → StandIn t name c low less
stand_less t name c low high less le h = λ n least below. h n least (omega (arith, below, le))

module _ (all : List CodeBlock) (from : Makings) (t : Tables) where
  abbrev at_place : List ℕ → Setting
  at_place place = record { place = place; from = from }

  -- the first instruction of a phrase
  phrase_fits : (place : List ℕ) (phrase : Term) (i : ℕ) (before : Evidence) (k : List Instr) (u : List Evidence) → FitsBundle before → AllMade FitsBundle from place phrase i before → CodeFits (at_place place) t (local (code_of phrase i k) before u) (code_of phrase i k)
  phrase_fits place (leaf cpy) i before k u f h = record { made = tt; pair = tt; answer = tt; after = ran_fits (happens i) nothing _ f }
  phrase_fits place (leaf sig) i before k u f h = record { made = h; pair = tt; answer = tt; after = ran_fits (happens i) nothing _ h }
  phrase_fits place (leaf hsh) i before k u f h = record { made = tt; pair = tt; answer = tt; after = ran_fits (happens i) nothing _ h }
  phrase_fits place (leaf nul) i before k u f h = record { made = tt; pair = tt; answer = tt; after = ran_fits (happens i) nothing _ h }
  phrase_fits place (leaf (usm asp)) i before k u f h = record { made = tt; pair = tt; answer = h; after = asks_fits (is_asked (t.in_flight i)) i _ }
  phrase_fits place (leaf (kim target asp)) i before k u f h = record { made = tt; pair = tt; answer = h; after = asks_fits (is_asked (t.in_flight i)) i _ }
  phrase_fits place (at asked_place body) i before k u f h = record { made = tt; pair = tt; answer = tt; after = ran_fits (sends asked_place i) (posts asked_place i before) _ f }
  phrase_fits place (chain left right) i before k u f h = phrase_fits place left i before (code_of right (i + event_count left) k) u f h
  phrase_fits place (seq split left right) i before k u f h = record { made = tt; pair = tt; answer = tt; after = ran_fits (happens i) nothing _ h.0 }
  phrase_fits place (par split left right) i before k u f h = record { made = tt; pair = tt; answer = tt; after = ran_fits (happens i) (forks i (part split.right before)) _ h.0 }

  -- where a left arm is finished: the result of the right arm's block, if it is there, is that of the right arm
  join_fits : (place : List ℕ) (left_result : Evidence) (right : Configuration) (ended : Bool) (i : ℕ) → IsOver ended right → FitsBundle left_result → AllValues FitsBundle from place right → WhereFinished right (λ right_result. FitsBundle (par_pair left_result right_result)) → Stands (block_view false right ended) (t.blocks (of i)) → JoinFits left_result (result_of (t.blocks (of i)))
  join_fits place left_result right false i over_so fits right_fits pairs stands =
      subst (λ x. JoinFits left_result x) (sym (idle_no_result false (left_of right) (t.blocks (of i)) stands)) tt
  join_fits place left_result right true i over_so fits right_fits pairs stands = elim (going_or right) [
    | inl going ↦ absurd (over_so going)
    | inr w ↦
        let there : t.blocks (of i) ≡ over w.0 = stands ∙ ap (λ c. over (result_in c)) w.1 in
        subst (λ x. JoinFits left_result x) (sym (ap result_of there)) (fits, subst (λ c. AllValues FitsBundle from place c) w.1 right_fits, where_it_finished (λ right_result. FitsBundle (par_pair left_result right_result)) right w.0 w.1 pairs)
  ]

  -- the ranges of the parts of a branch and of a request
  stand_left : (name : Block) (place : List ℕ) (i last : ℕ) (left right : Configuration) (ended : Bool) (low high : ℕ) (h : Fits all place (both_arms i last left right ended) low high) → StandIn t name (both_arms i last left right ended) low high → StandIn t name left (i + 1) h.4.0
  stand_left name place i last left right ended low high h stand n least below =
      let unseen_right : found (of i) right n ≡ unseen = outside all (of i) place right h.4.0 last n h.4.4 (λ le. omega (arith, le, below)) in
      subst (λ x. Agrees t n x) (if_other View n i (block_view false right ended) (seen_or (found name left n) (found (of i) right n)) (λ e. omega (arith, e, least)) ∙ ap (λ x. seen_or (found name left n) x) unseen_right ∙ seen_or_none (found name left n)) (stand n (omega (arith, h.0, least)) (omega (arith, h.1, h.4.2, below)))

  stand_right : (name : Block) (place : List ℕ) (i last : ℕ) (left right : Configuration) (ended : Bool) (low high : ℕ) (h : Fits all place (both_arms i last left right ended) low high) → StandIn t name (both_arms i last left right ended) low high → StandIn t (of i) right h.4.0 last
  stand_right name place i last left right ended low high h stand n least below =
      let unseen_left : found name left n ≡ unseen = outside all name place left (i + 1) h.4.0 n h.4.3 (λ le. least) in
      subst (λ x. Agrees t n x) (if_other View n i (block_view false right ended) (seen_or (found name left n) (found (of i) right n)) (λ e. omega (arith, e, least, h.4.1)) ∙ ap (λ x. seen_or x (found (of i) right n)) unseen_left) (stand n (omega (arith, h.0, h.4.1, least)) (omega (arith, h.1, below)))

  stand_inner : (name : Block) (place asked_place : List ℕ) (i last : ℕ) (inner : Configuration) (ended : Bool) (low high : ℕ) → Fits all place (remote asked_place i last inner ended) low high → StandIn t name (remote asked_place i last inner ended) low high → StandIn t (of i) inner (i + 1) last
  stand_inner name place asked_place i last inner ended low high h stand n least below =
      subst (λ x. Agrees t n x) (if_other View n i (block_view true inner ended) (found (of i) inner n) (λ e. omega (arith, e, least))) (stand n (omega (arith, h.0, least)) (omega (arith, h.1, below)))

  -- the reply to a request that waits, or whose block runs, and to one whose block has ended
  no_reply : (view : View) (i : ℕ) → reply_in view ≡ None → Agrees t i view → ReplyFits (t.replies i)
  no_reply view i none agrees = subst ReplyFits (sym (agrees.1 ∙ none)) tt

  reply_fits : (asked_place : List ℕ) (inner : Configuration) (ended : Bool) (i : ℕ) → IsOver ended inner → AllValues FitsBundle from asked_place inner → Agrees t i (block_view true inner ended) → ReplyFits (t.replies i)
  reply_fits asked_place inner false i over_so v agrees = no_reply (block_view true inner false) i refl agrees
  reply_fits asked_place inner true i over_so v agrees = elim (going_or inner) [
    | inl going ↦ absurd (over_so going)
    | inr w ↦ subst ReplyFits (sym (agrees.1 ∙ ap (λ c. reply_in (block_view true c true)) w.1)) (subst (λ c. AllValues FitsBundle from asked_place c) w.1 v)
  ]

  receives : (place : List ℕ) (last i : ℕ) (l : Local) → ReplyFits (t.replies i) → NextFits (at_place place) t (Recv last i) l
  receives place last i l fits = record { made = tt; pair = tt; answer = tt; after = replied_fits (t.replies i) last i l fits }

  -- what is left for a block ahead of the code that stands behind it
  left_fits : (name : Block) (place : List ℕ) (c : Configuration) (low high : ℕ) → Fits all place c low high → StandIn t name c low high → AllValues FitsBundle from place c → (k : List Instr) (u : List Evidence) (e : Evidence) → ((result : Evidence) → c ≡ finished result → FitsBundle result → CodeFits (at_place place) t (local k result u) k) → CodeFits (at_place place) t (local (code_left c k) (told_or (held c) e) (stack_left c u)) (code_left c k)
  left_fits name place (todo phrase i before) low high h stand v k u e behind = phrase_fits place phrase i before k u v.0 v.1
  left_fits name place (asked form i before) low high h stand v k u e behind = asked_fits form h.0 v.1
    where
      asked_fits : (form : Leaf) → is_measurement form ≡ true → ((bytes : List ℕ) → FitsAnswer bytes → FitsBundle (measurement form i bytes before)) → CodeFits (at_place place) t (local (leaf_instr form i ∷ k) before u) (leaf_instr form i ∷ k)
      asked_fits cpy e a = absurd (cc)
      asked_fits sig e a = absurd (cc)
      asked_fits hsh e a = absurd (cc)
      asked_fits nul e a = absurd (cc)
      asked_fits (usm asp) e a = record { made = tt; pair = tt; answer = a; after = asks_fits (is_asked (t.in_flight i)) i _ }
      asked_fits (kim target asp) e a = record { made = tt; pair = tt; answer = a; after = asks_fits (is_asked (t.in_flight i)) i _ }
  left_fits name place (posted asked_place i body before) low high h stand v k u e behind =
      receives place _ i _ (no_reply (waits before) i refl (subst (λ x. Agrees t i x) (if_same View i i (waits before) unseen refl) (stand i h.0 (omega (arith, h.1)))))
  left_fits name place (remote asked_place i last inner ended) low high h stand v k u e behind =
      receives place last i _ (reply_fits asked_place inner ended i h.3 v (subst (λ x. Agrees t i x) (if_same View i i (block_view true inner ended) (found (of i) inner i) refl) (stand i h.0 (omega (arith, h.1, h.5)))))
  left_fits name place (first inner right i) low high h stand v k u e behind =
      left_fits name place inner low i h.4 (stand_less t name inner low high i (omega (arith, h.2)) stand) v.0 (code_of right i k) u e
      (λ result is fits. phrase_fits place right i result k u fits (where_it_finished (λ r. AllMade FitsBundle from place right i r) inner result is v.1))
  left_fits name place (left_arm inner right i before last) low high h stand v k u e behind =
      left_fits name place inner low i h.4 (stand_less t name inner low high i (omega (arith, h.1, h.2)) stand) v.0 (Swap ∷ code_of right i (JoinSeq last ∷ k)) (before ∷ u) e
      (λ result is fits. record { made = tt; pair = tt; answer = tt; after = ran_fits silent nothing _ v.1 })
  left_fits name place (right_arm left_result inner last) low high h stand v k u e behind =
      left_fits name place inner low last h.1 (stand_less t name inner low high last (omega (arith, h.0)) stand) v.1 (JoinSeq last ∷ k) (left_result ∷ u) e
      (λ result is fits.
      let pair : FitsBundle (seq_pair left_result result) = where_it_finished (λ r. FitsBundle (seq_pair left_result r)) inner result is v.2 in
      record { made = pair; pair = tt; answer = tt; after = ran_fits (happens last) nothing _ pair })
  left_fits name place (both_arms i last left right ended) low high h stand v k u e behind =
      left_fits name place left (i + 1) h.4.0 h.4.3 (stand_left name place i last left right ended low high h stand) v.0 (JoinPar last i ∷ k) u e
      (λ result is fits.
      let there : Agrees t i (block_view false right ended) = subst (λ x. Agrees t i x) (if_same View i i (block_view false right ended) (seen_or (found name left i) (found (of i) right i)) refl) (stand i (omega (arith, h.0)) (omega (arith, h.1, h.4.1, h.4.2))) in
      let pair : JoinFits result (result_of (t.blocks (of i))) = join_fits place result right ended i h.3 fits v.1 (where_it_finished (λ l. WhereFinished right (λ r. FitsBundle (par_pair l r))) left result is v.2) there.0 in
      record { made = tt; pair = pair; answer = tt; after = joined_fits (result_of (t.blocks (of i))) last i (local (JoinPar last i ∷ k) result u) pair })
  left_fits name place (finished result) low high h stand v k u e behind = behind result refl v

  -- a machine that holds what is left of a block
  pub machine_fits : (name : Block) (place : List ℕ) (c : Configuration) (low high : ℕ) → Fits all place c low high → StandIn t name c low high → AllValues FitsBundle from place c → (l : Local) → Holds (left_of c) l → CodeFits (at_place place) t l l.rest
  machine_fits name place c low high h stand v l holds =
      let is_local : local (code_left c (End ∷ [])) (told_or (held c) l.evidence) (stack_left c []) ≡ l = sym (local_same l.rest (code_left c (End ∷ [])) l.evidence (told_or (held c) l.evidence) l.stack (stack_left c []) holds.code (sym holds.evidence) holds.stack) in
      subst (λ (x : Local). CodeFits (at_place place) t x x.rest) is_local
      (left_fits name place c low high h stand v (End ∷ []) [] l.evidence (λ result is fits. record { made = tt; pair = tt; answer = tt; after = ran_fits silent (ends result) _ fits }))

  runs_left : (a b : Bool) (l m : Left) → runs a l ≡ runs b m → l ≡ m
  runs_left a b l m e = cc

  -- a block that runs this, or has ended
  block_fits : (n : ℕ) (place : List ℕ) (for_request flag : Bool) (inner : Configuration) (ended : Bool) (left : Left) (low high : ℕ) → place_named all n ≡ place → Fits all place inner low high → StandIn t (of n) inner low high → AllValues FitsBundle from place inner → block_view for_request inner ended ≡ runs flag left → (l : Local) → Holds left l → CodeFits (at_place (place_called all (block_name (of n)))) t l l.rest
  block_fits n place for_request flag inner true left low high placed h stand v e l holds = absurd (ended_runs for_request e)
    where
      ended_runs : (b : Bool) → block_view b inner true ≡ runs flag left → ⊥
      ended_runs true e = cc
      ended_runs false e = cc
  block_fits n place for_request flag inner false left low high placed h stand v e l holds =
      subst (λ p. CodeFits (at_place p) t l l.rest) (sym placed)
      (machine_fits (of n) place inner low high h stand v l (subst (λ x. Holds x l) (sym (runs_left for_request flag (left_of inner) left e)) holds))

  either_seen : (a b v : View) → seen_or a b ≡ v → (a ≡ v) ⊎ (b ≡ v)
  either_seen unseen b v e = inr e
  either_seen (asks_for name) b v e = inl e
  either_seen (waits before) b v e = inl e
  either_seen (runs flag left) b v e = inl e
  either_seen (replied result) b v e = inl e
  either_seen (joinable result) b v e = inl e

  no_run : (b : Bool) (x : View) (flag : Bool) (left : Left) → (if b then x else unseen) ≡ runs flag left → (x ≡ runs flag left → ⊥) → ⊥
  no_run true x flag left e f = f e
  no_run false x flag left e f = cc

  -- a block of a number, wherever it runs
  pub lower_fits : (n : ℕ) (flag : Bool) (left : Left) (name : Block) (place : List ℕ) (c : Configuration) (low high : ℕ) → Fits all place c low high → StandIn t name c low high → AllValues FitsBundle from place c → found name c n ≡ runs flag left → (l : Local) → Holds left l → CodeFits (at_place (place_called all (block_name (of n)))) t l l.rest
  lower_fits n flag left name place (todo phrase i before) low high h stand v e l holds = absurd (cc)
  lower_fits n flag left name place (asked form i before) low high h stand v e l holds = absurd (no_run (nat_eq n i) (asks_for name) flag left e asks_runs)
    where
      asks_runs : asks_for name ≡ runs flag left → ⊥
      asks_runs e = cc
  lower_fits n flag left name place (posted asked_place i body before) low high h stand v e l holds = absurd (no_run (nat_eq n i) (waits before) flag left e waits_runs)
    where
      waits_runs : waits before ≡ runs flag left → ⊥
      waits_runs e = cc
  lower_fits n flag left name place (remote asked_place i last inner ended) low high h stand v e l holds = elim (cases_eq n i) [
    | inl is ↦
        subst (λ k. CodeFits (at_place (place_called all (block_name (of k)))) t l l.rest) (sym is)
        (block_fits i asked_place true flag inner ended left (i + 1) last h.2 h.4 (stand_inner name place asked_place i last inner ended low high h stand) v (sym (if_same View n i (block_view true inner ended) (found (of i) inner n) is) ∙ e) l holds)
    | inr ne ↦ lower_fits n flag left (of i) asked_place inner (i + 1) last h.4 (stand_inner name place asked_place i last inner ended low high h stand) v (sym (if_other View n i (block_view true inner ended) (found (of i) inner n) ne) ∙ e) l holds
  ]
  lower_fits n flag left name place (first inner right i) low high h stand v e l holds =
      lower_fits n flag left name place inner low i h.4 (stand_less t name inner low high i (omega (arith, h.2)) stand) v.0 e l holds
  lower_fits n flag left name place (left_arm inner right i before last) low high h stand v e l holds =
      lower_fits n flag left name place inner low i h.4 (stand_less t name inner low high i (omega (arith, h.1, h.2)) stand) v.0 e l holds
  lower_fits n flag left name place (right_arm left_result inner last) low high h stand v e l holds =
      lower_fits n flag left name place inner low last h.1 (stand_less t name inner low high last (omega (arith, h.0)) stand) v.1 e l holds
  lower_fits n flag left name place (both_arms i last left_arms right ended) low high h stand v e l holds = elim (cases_eq n i) [
    | inl is ↦
        subst (λ k. CodeFits (at_place (place_called all (block_name (of k)))) t l l.rest) (sym is)
        (block_fits i place false flag right ended left h.4.0 last h.2 h.4.4 (stand_right name place i last left_arms right ended low high h stand) v.1 (sym (if_same View n i (block_view false right ended) (seen_or (found name left_arms n) (found (of i) right n)) is) ∙ e) l holds)
    | inr ne ↦ elim (either_seen (found name left_arms n) (found (of i) right n) (runs flag left) (sym (if_other View n i (block_view false right ended) (seen_or (found name left_arms n) (found (of i) right n)) ne) ∙ e)) [
      | inl there ↦ lower_fits n flag left name place left_arms (i + 1) h.4.0 h.4.3 (stand_left name place i last left_arms right ended low high h stand) v.0 there l holds
      | inr there ↦ lower_fits n flag left (of i) place right h.4.0 last h.4.4 (stand_right name place i last left_arms right ended low high h stand) v.1 there l holds
    ]
  ]
  lower_fits n flag left name place (finished result) low high h stand v e l holds = absurd (cc)

-- what is said of a block whose machine runs
stands_runs : (v : View) (flag : Bool) (l : Local) → Stands v (running flag l) → (for_request : Bool) × (left : Left) × (v ≡ runs for_request left) × Holds left l
stands_runs unseen flag l h = absurd h
stands_runs (asks_for name) flag l h = absurd h
stands_runs (waits before) flag l h = absurd h
stands_runs (runs for_request left) flag l h = (for_request, left, refl, h.1)
stands_runs (replied result) flag l h = absurd h
stands_runs (joinable result) flag l h = absurd (cc)

code_fits : (setting : Setting) (t : Tables) (l : Local) (code : List Instr) (instr : Instr) (rest : List Instr) → code ≡ instr ∷ rest → CodeFits setting t l code → NextFits setting t instr l
code_fits setting t l code instr rest e h = subst (λ xs. CodeFits setting t l xs) e h

module _ (session : Session) (keys : List (List ℕ × List ℕ)) (s : Standing) (t : Tables) (fits : SessionFits session s) (cells : IsMadeOf s.configuration t) (values : AllValues FitsBundle (makings session keys) session.root s.configuration) where
  block_next : (name : Block) (flag : Bool) (l : Local) → t.blocks name ≡ running flag l → CodeFits (record { place = place_called (program_of session.phrase session.root) (block_name name); from = makings session keys }) t l l.rest
  block_next root flag l is =
      let w = stands_runs (runs false (left_of s.configuration)) flag l (subst (λ x. Stands (runs false (left_of s.configuration)) x) is (cells.blocks root)) in
      let holds : Holds (left_of s.configuration) l = subst (λ x. Holds x l) (same_left w.0 w.1 w.2) w.3 in
      machine_fits (program_of session.phrase session.root) (makings session keys) t root session.root s.configuration 0 (event_count session.phrase) fits (λ n least below. (cells.blocks (of n), cells.replies n)) values l holds
    where
      same_left : (b : Bool) (left : Left) → runs false (left_of s.configuration) ≡ runs b left → left ≡ left_of s.configuration
      same_left b left e = cc
  block_next (of n) flag l is =
      let w = stands_runs (found root s.configuration n) flag l (subst (λ x. Stands (found root s.configuration n) x) is (cells.blocks (of n))) in
      lower_fits (program_of session.phrase session.root) (makings session keys) t n w.0 w.1 root session.root s.configuration 0 (event_count session.phrase) fits (λ k least below. (cells.blocks (of k), cells.replies k)) values w.2 l w.3

-- what the next instruction of a block makes
pub next_fits : (session : Session) (keys : List (List ℕ × List ℕ)) (history : List Entry) (s : Standing) (t : Tables) (name : Block) (flag : Bool) (l : Local) (instr : Instr) (rest : List Instr) → IsLight session.phrase → length session.nonce ≡ 16 → AreShort history → standing_after session keys history ≡ Some s → s.state ≡ is_open → IsShown t s → t.blocks name ≡ running flag l → l.rest ≡ instr ∷ rest → NextFits (record { place = place_called (program_of session.phrase session.root) (block_name name); from = makings session keys }) t instr l
next_fits session keys history s t name flag l instr rest light sixteen short e still shown runs_so code =
    code_fits (record { place = place_called (program_of session.phrase session.root) (block_name name); from = makings session keys }) t l l.rest instr rest code
    (block_next session keys s t (fits_after_history session keys history s e) (made_still s.state s.configuration t still shown.made) (history_light session keys history s light sixteen short e) name flag l runs_so)

-- a block that waits for an answer
module _ (t : Tables) (n : ℕ) where
  asking_code : (code : List Instr) (instr : Instr) (rest : List Instr) → code ≡ instr ∷ rest → Measures n instr → FirstMeasures n code
  asking_code code instr rest e h = subst (λ xs. FirstMeasures n xs) (sym e) h

  asking_state : (state : BlockState) (for_request : Bool) (was now : Left) (bytes : List ℕ) → IsAnswered n was now bytes → RunsOn for_request was state → IsAsking n state
  asking_state not_started for_request was now bytes a h = absurd h
  asking_state (running flag l) for_request was now bytes a h = asking_code l.rest a.instr now.code (h.1.code ∙ a.code) a.measures
  asking_state (over result) for_request was now bytes a h = absurd h

asker_of_view : (name : Block) (v : View) → Some name ≡ asker_in v → v ≡ asks_for name
asker_of_view name unseen e = absurd (cc)
asker_of_view name (asks_for other) e = cc
asker_of_view name (waits before) e = absurd (cc)
asker_of_view name (runs for_request l) e = absurd (cc)
asker_of_view name (replied result) e = absurd (cc)
asker_of_view name (joinable result) e = absurd (cc)

pub asking_shown : (session : Session) (keys : List (List ℕ × List ℕ)) (history : List Entry) (s : Standing) (t : Tables) (n pass : ℕ) (name : Block) → standing_after session keys history ≡ Some s → s.state ≡ is_open → IsShown t s → t.in_flight n ≡ Some (pass, name) → IsAsking n (t.blocks name)
asking_shown session keys history s t n pass name e still shown is =
    by_answer (answered_in (program_of session.phrase session.root) (makings session keys) n name root session.root s.configuration 0 (event_count session.phrase) (fits_after_history session keys history s e) said)
  where
    cells : IsMadeOf s.configuration t
    cells = made_still s.state s.configuration t still shown.made

    said : found root s.configuration n ≡ asks_for name
    said = asker_of_view name (found root s.configuration n) (sym (ap asker_of is) ∙ cells.in_flight n)

    by_answer : Answered (program_of session.phrase session.root) (makings session keys) n name (spot root session.root s.configuration 0 (event_count session.phrase)) → IsAsking n (t.blocks name)
    by_answer (by_own asker a) =
        subst (λ x. IsAsking n (t.blocks x)) (sym asker)
        (asking_state t n (t.blocks root) false (left_of s.configuration) (left_of (a.after [])) [] (answered_left (program_of session.phrase session.root) (makings session keys) n (spot root session.root s.configuration 0 (event_count session.phrase)) a []) (cells.blocks root))
    by_answer (by_lower m asker l) =
        subst (λ x. IsAsking n (t.blocks x)) (sym asker)
        (asking_state t n (t.blocks (of m)) l.for_request l.was (l.now []) [] (l.goes_on []) (subst (λ v. Stands v (t.blocks (of m))) l.block_was (cells.blocks (of m))))

-- what an answer makes of the measurement that it is for
answer_fits : (n : ℕ) (instr : Instr) (l : Local) (bytes : List ℕ) → Measures n instr → AnswerFits instr l → FitsAnswer bytes → FitsBundle (measured instr bytes l.evidence)
answer_fits n (Copy i) l bytes m a short = absurd m
answer_fits n (Usm i asp) l bytes m a short = a bytes short
answer_fits n (Kim i target asp) l bytes m a short = a bytes short
answer_fits n (Sign i) l bytes m a short = absurd m
answer_fits n (Hash i) l bytes m a short = absurd m
answer_fits n (Null i) l bytes m a short = absurd m
answer_fits n (Split i split) l bytes m a short = absurd m
answer_fits n Swap l bytes m a short = absurd m
answer_fits n (JoinSeq i) l bytes m a short = absurd m
answer_fits n (Send i place) l bytes m a short = absurd m
answer_fits n (Recv j i) l bytes m a short = absurd m
answer_fits n (Fork i split) l bytes m a short = absurd m
answer_fits n (JoinPar j i) l bytes m a short = absurd m
answer_fits n End l bytes m a short = absurd m

pub answered_fits : (session : Session) (keys : List (List ℕ × List ℕ)) (history : List Entry) (s : Standing) (t : Tables) (n pass : ℕ) (name : Block) (flag : Bool) (l : Local) (instr : Instr) (rest : List Instr) (bytes : List ℕ) → IsLight session.phrase → length session.nonce ≡ 16 → AreShort history → standing_after session keys history ≡ Some s → s.state ≡ is_open → IsShown t s → t.in_flight n ≡ Some (pass, name) → t.blocks name ≡ running flag l → l.rest ≡ instr ∷ rest → FitsAnswer bytes → FitsBundle (measured instr bytes l.evidence)
answered_fits session keys history s t n pass name flag l instr rest bytes light sixteen short e still shown flies runs_so code fits =
    let asking : IsAsking n (t.blocks name) = asking_shown session keys history s t n pass name e still shown flies in
    let first : FirstMeasures n l.rest = subst (λ x. IsAsking n x) runs_so asking in
    let measures : Measures n instr = subst (λ xs. FirstMeasures n xs) code first in
    answer_fits n instr l bytes measures (next_fits session keys history s t name flag l instr rest light sixteen short e still shown runs_so code).answer fits
