-- Each step of a block is of an event that the block owns.
use Rattle.std.proofs.Common.{◌≡◌, ℕ, ◌+◌, ◌≤◌, ◌<◌, inl, inr, List, [], refl, sym, ◌∙◌, ap, subst, arith}
use Rattle.std.specs.Prelude.{Bool, true, false, Option, None, Some, if◌then◌else◌, Contains}
use Rattle.std.proofs.lemmas.Bool.{eq-eqb, lt-ltb, le-ltb}
use Rattle.phrase_tree.specs.Term.{Term, leaf, at, chain, seq, par}
use Rattle.phrase_tree.specs.Numbering.{event_count}
use Rattle.evidence_types.specs.Evidence.{Evidence, nonce}
use Rattle.session_model.specs.Session.{Session}
use Rattle.session_model.specs.Value.{Makings, part}
use Rattle.session_runs.specs.Configuration.{Configuration, todo, asked, posted, remote, first, left_arm, right_arm, both_arms, finished, start, once_finished, followed_by}
use Rattle.session_runs.specs.Moves.{Step, run as run_step, ask as ask_step, Effect}
use Rattle.session_runs.specs.Standing.{Block, root, of, Entry, Standing, opening, makings}
use Rattle.session_runs.specs.History.{standing_after}
use Rattle.session_runs.specs.MoveOrder.{Ready, ready_to, where_true, ready_phrase, ready_block, ready_in, ready_of, leaf_step}
use Rattle.session_runs.specs.Owner.{only_at, split_at, owner}
use Rattle.session_runs.proofs.Induction.{IsLaw}
use Rattle.session_runs.proofs.EntryLaws.{Onward, moved, root_ended, faulted, starves, onward, after_configuration, some_is}
use Rattle.session_runs.proofs.TraceLaws.{kept_after}
use Rattle.session_runs.proofs.ReadyLaws.{IsReady, ready_split, once_ready}
use Rattle.session_runs.proofs.ListingLaws.{among_contains, among_ready}

-- the events of a phrase that a block runs are owned as these owners say
abbrev pub OwnsPhrase : (ℕ → Option Block) → Block → Term → ℕ → Type 0
OwnsPhrase F b (leaf form) i = F i ≡ Some b
OwnsPhrase F b (at place body) i = (F i ≡ Some b) × OwnsPhrase F (of i) body (i + 1) × (F (i + 1 + event_count body) ≡ Some b)
OwnsPhrase F b (chain left right) i = OwnsPhrase F b left i × OwnsPhrase F b right (i + event_count left)
OwnsPhrase F b (seq split left right) i =
    (F i ≡ Some b) × OwnsPhrase F b left (i + 1) × OwnsPhrase F b right (i + 1 + event_count left) × (F (i + 1 + event_count left + event_count right) ≡ Some b)
OwnsPhrase F b (par split left right) i =
    (F i ≡ Some b) × OwnsPhrase F b left (i + 1) × OwnsPhrase F (of i) right (i + 1 + event_count left) × (F (i + 1 + event_count left + event_count right) ≡ Some b)

-- the same of what is left of a phrase
abbrev pub Owns : (ℕ → Option Block) → Block → Configuration → Type 0
Owns F b (todo phrase i before) = OwnsPhrase F b phrase i
Owns F b (asked phrase i before) = F i ≡ Some b
Owns F b (posted asked_place i body before) = OwnsPhrase F (of i) body (i + 1) × (F (i + 1 + event_count body) ≡ Some b)
Owns F b (remote asked_place i last inner ended) = Owns F (of i) inner × (F last ≡ Some b)
Owns F b (first inner right i) = Owns F b inner × OwnsPhrase F b right i
Owns F b (left_arm inner right i before last) = Owns F b inner × OwnsPhrase F b right i × (F last ≡ Some b)
Owns F b (right_arm left_result inner last) = Owns F b inner × (F last ≡ Some b)
Owns F b (both_arms i last left right ended) = Owns F b left × Owns F (of i) right × (F last ≡ Some b)
Owns F b (finished result) = Unit {0}

start_owns : (F : ℕ → Option Block) (b : Block) (phrase : Term) (i : ℕ) (before : Evidence) → OwnsPhrase F b phrase i → Owns F b (start phrase i before)
start_owns F b (leaf form) i before h = h
start_owns F b (at place body) i before h = h
start_owns F b (chain left right) i before h = (start_owns F b left i before h.0, h.1)
start_owns F b (seq split left right) i before h = h
start_owns F b (par split left right) i before h = h

followed_owns : (F : ℕ → Option Block) (b : Block) (c : Configuration) (right : Term) (i : ℕ) → Owns F b c → OwnsPhrase F b right i → Owns F b (followed_by c right i)
followed_owns F b (todo phrase j before) right i h k = (h, k)
followed_owns F b (asked phrase j before) right i h k = (h, k)
followed_owns F b (posted asked_place j body before) right i h k = (h, k)
followed_owns F b (remote asked_place j last inner ended) right i h k = (h, k)
followed_owns F b (first inner other j) right i h k = (h, k)
followed_owns F b (left_arm inner other j before last) right i h k = (h, k)
followed_owns F b (right_arm left_result inner last) right i h k = (h, k)
followed_owns F b (both_arms j last left other ended) right i h k = (h, k)
followed_owns F b (finished result) right i h k = start_owns F b right i result k

abbrev pub StaysOwned : (ℕ → Option Block) → List ℕ → Configuration → Effect → Configuration → Type 0
StaysOwned F place c effect d = (b : Block) → Owns F b c → Owns F b d

owns_law : (from : Makings) (F : ℕ → Option Block) → IsLaw from (StaysOwned F)
owns_law from F = record {
  runs = λ place form i before other b h. tt;
  asks_for = λ place form i before measured b h. h;
  posts = λ place asked_place body i before b h. (h.1, h.2);
  splits = λ place split left right i before b h. (start_owns F b left (i + 1) (part split.left before) h.1, h.2, h.3);
  forks = λ place split left right i before b h. (start_owns F b left (i + 1) (part split.left before) h.1, start_owns F (of i) right (i + 1 + event_count left) (part split.right before) h.2, h.3);
  answered = λ place phrase i before bytes b h. tt;
  delivered = λ place asked_place i body before b h. (start_owns F (of i) body (i + 1) before h.0, h.1);
  ends_remote = λ place asked_place i last result b h. h;
  replies = λ place asked_place i last result b h. tt;
  swaps = λ place result right i before last b h. (start_owns F b right i before h.1, h.2);
  joins_sequence = λ place left_result right_result last b h. tt;
  ends_right = λ place i last left result b h. h;
  joins_parallel = λ place i last left_result right_result b h. tt;
  in_remote = λ place asked_place i last c d effect over f b h. (f (of i) h.0, h.1);
  in_first = λ place c d effect right i f b h. followed_owns F b d right i (f b h.0) h.1;
  in_left = λ place c d effect right i before last f b h. (f b h.0, h.1, h.2);
  in_right = λ place result c d effect last f b h. (f b h.0, h.1);
  in_left_of_both = λ place i last c d right effect over f b h. (f b h.0, h.1, h.2);
  in_right_of_both = λ place i last left c d effect over f b h. (h.0, f (of i) h.1, h.2);
}

-- which side of a bound a number is on
low_side : (bound n : ℕ) (x y : Option Block) → n < bound → split_at bound n x y ≡ x
low_side bound n x y lt = ap (λ t. if t then x else y) (lt-ltb n bound lt)

high_side : (bound n : ℕ) (x y : Option Block) → bound ≤ n → split_at bound n x y ≡ y
high_side bound n x y le = ap (λ t. if t then x else y) (le-ltb n bound le)

second_side : (low high n : ℕ) (x y z : Option Block) → low ≤ n → n < high → split_at low n x (split_at high n y z) ≡ y
second_side low high n x y z from to = high_side low n x (split_at high n y z) from ∙ low_side high n y z to

last_of_three : (low high n : ℕ) (x y z : Option Block) → low ≤ n → high ≤ n → split_at low n x (split_at high n y z) ≡ z
last_of_three low high n x y z from to = high_side low n x (split_at high n y z) from ∙ high_side high n y z to

third_side : (low middle high n : ℕ) (x y z w : Option Block) → low ≤ n → middle ≤ n → n < high → split_at low n x (split_at middle n y (split_at high n z w)) ≡ z
third_side low middle high n x y z w from over to =
    last_of_three low middle n x y (split_at high n z w) from over ∙ low_side high n z w to

last_of_four : (low middle high n : ℕ) (x y z w : Option Block) → low ≤ n → middle ≤ n → high ≤ n → split_at low n x (split_at middle n y (split_at high n z w)) ≡ w
last_of_four low middle high n x y z w from over to =
    last_of_three low middle n x y (split_at high n z w) from over ∙ high_side high n z w to

only_here : (i : ℕ) (b : Block) → only_at i b i ≡ Some b
only_here i b = ap (λ t. if t then Some b else None) (eq-eqb i i refl)

-- owners that agree with those of a phrase on its range own its events
pub owner_owns : (phrase : Term) (b : Block) (i : ℕ) (F : ℕ → Option Block) → ((n : ℕ) → i ≤ n → n < i + event_count phrase → F n ≡ owner phrase b i n) → OwnsPhrase F b phrase i
owner_owns (leaf form) b i F agree = agree i (omega arith) (omega arith) ∙ only_here i b
owner_owns (at place body) b i F agree =
    let last = i + 1 + event_count body in (
      agree i (omega arith) (omega arith) ∙ low_side (i + 1) i (only_at i b i) (split_at last i (owner body (of i) (i + 1) i) (only_at last b i)) (omega arith) ∙ only_here i b,
      owner_owns body (of i) (i + 1) F (λ n from to. agree n (omega (arith, from)) (omega (arith, to)) ∙ second_side (i + 1) last n (only_at i b n) (owner body (of i) (i + 1) n) (only_at last b n) from to),
      agree last (omega arith) (omega arith) ∙ last_of_three (i + 1) last last (only_at i b last) (owner body (of i) (i + 1) last) (only_at last b last) (omega arith) (omega arith) ∙ only_here last b,
    )
owner_owns (chain left right) b i F agree =
    let middle = i + event_count left in (
      owner_owns left b i F (λ n from to. agree n from (omega (arith, to)) ∙ low_side middle n (owner left b i n) (owner right b middle n) to),
      owner_owns right b middle F (λ n from to. agree n (omega (arith, from)) (omega (arith, to)) ∙ high_side middle n (owner left b i n) (owner right b middle n) from),
    )
owner_owns (seq split left right) b i F agree =
    let middle = i + 1 + event_count left in
    let last = i + 1 + event_count left + event_count right in (
      agree i (omega arith) (omega arith) ∙ low_side (i + 1) i (only_at i b i) (split_at middle i (owner left b (i + 1) i) (split_at last i (owner right b middle i) (only_at last b i))) (omega arith) ∙ only_here i b,
      owner_owns left b (i + 1) F (λ n from to. agree n (omega (arith, from)) (omega (arith, to)) ∙ second_side (i + 1) middle n (only_at i b n) (owner left b (i + 1) n) (split_at last n (owner right b middle n) (only_at last b n)) from to),
      owner_owns right b middle F (λ n from to. agree n (omega (arith, from)) (omega (arith, to)) ∙ third_side (i + 1) middle last n (only_at i b n) (owner left b (i + 1) n) (owner right b middle n) (only_at last b n) (omega (arith, from)) from to),
      agree last (omega arith) (omega arith) ∙ last_of_four (i + 1) middle last last (only_at i b last) (owner left b (i + 1) last) (owner right b middle last) (only_at last b last) (omega arith) (omega arith) (omega arith) ∙ only_here last b,
    )
owner_owns (par split left right) b i F agree =
    let middle = i + 1 + event_count left in
    let last = i + 1 + event_count left + event_count right in (
      agree i (omega arith) (omega arith) ∙ low_side (i + 1) i (only_at i b i) (split_at middle i (owner left b (i + 1) i) (split_at last i (owner right (of i) middle i) (only_at last b i))) (omega arith) ∙ only_here i b,
      owner_owns left b (i + 1) F (λ n from to. agree n (omega (arith, from)) (omega (arith, to)) ∙ second_side (i + 1) middle n (only_at i b n) (owner left b (i + 1) n) (split_at last n (owner right (of i) middle n) (only_at last b n)) from to),
      owner_owns right (of i) middle F (λ n from to. agree n (omega (arith, from)) (omega (arith, to)) ∙ third_side (i + 1) middle last n (only_at i b n) (owner left b (i + 1) n) (owner right (of i) middle n) (only_at last b n) (omega (arith, from)) from to),
      agree last (omega arith) (omega arith) ∙ last_of_four (i + 1) middle last last (only_at i b last) (owner left b (i + 1) last) (owner right (of i) middle last) (only_at last b last) (omega arith) (omega arith) (omega arith) ∙ only_here last b,
    )

-- what is ready is of an event of its block
no_event : (Q : Type 0) (n : ℕ) → ◌≡◌ {A = Option ℕ} None (Some n) → Q
no_event Q n e = absurd (cc)

silent_owned : (Q : Type 0) (own : Block) (one : Step) (block : Block) (step : Step) (n : ℕ) → IsReady (ready_to own one None) block step (Some n) → Q
silent_owned Q own one block step n (inl h) = no_event Q n h.2
silent_owned Q own one block step n (inr h) = absurd h

one_owned : (F : ℕ → Option Block) (own : Block) (one : Step) (k : ℕ) (block : Block) (step : Step) (n : ℕ) → F k ≡ Some own → IsReady (ready_to own one (Some k)) block step (Some n) → F n ≡ Some block
one_owned F own one k block step n f (inl h) =
    subst (λ x. F x ≡ Some block) (some_is ℕ k n h.2) (f ∙ ap (λ x. Some x) h.0)
one_owned F own one k block step n f (inr h) = absurd h

where_owned : (F : ℕ → Option Block) (own : Block) (ended : Bool) (k : ℕ) (block : Block) (step : Step) (n : ℕ) → F k ≡ Some own → IsReady (where_true ended (ready_to own run_step (Some k))) block step (Some n) → F n ≡ Some block
where_owned F own true k block step n f h = one_owned F own run_step k block step n f h
where_owned F own false k block step n f h = absurd h

end_owned : (Q : Type 0) (i : ℕ) (ended : Bool) (block : Block) (step : Step) (n : ℕ) → IsReady (if ended then [] else ready_to (of i) run_step None) block step (Some n) → Q
end_owned Q i true block step n h = absurd h
end_owned Q i false block step n h = silent_owned Q (of i) run_step block step n h

phrase_owned : (F : ℕ → Option Block) (own : Block) (phrase : Term) (i : ℕ) (block : Block) (step : Step) (n : ℕ) → OwnsPhrase F own phrase i → IsReady (ready_phrase own phrase i) block step (Some n) → F n ≡ Some block
phrase_owned F own (leaf form) i block step n o h = one_owned F own (leaf_step form) i block step n o h
phrase_owned F own (at place body) i block step n o h = one_owned F own run_step i block step n o.0 h
phrase_owned F own (chain left right) i block step n o h = absurd h
phrase_owned F own (seq split left right) i block step n o h = one_owned F own run_step i block step n o.0 h
phrase_owned F own (par split left right) i block step n o h = one_owned F own run_step i block step n o.0 h

ready_owned : (F : ℕ → Option Block) (own : Block) (c : Configuration) (block : Block) (step : Step) (n : ℕ) → Owns F own c → IsReady (ready_in own c) block step (Some n) → F n ≡ Some block
ready_owned F own (todo phrase i before) block step n o h = phrase_owned F own phrase i block step n o h
ready_owned F own (asked phrase i before) block step n o h = absurd h
ready_owned F own (posted asked_place i body before) block step n o h = absurd h
ready_owned F own (remote asked_place i last inner ended) block step n o h =
    elim (ready_split (ready_block i inner ended (ready_in (of i) inner)) (once_finished inner [] (λ result. where_true ended (ready_to own run_step (Some last)))) block step (Some n) h) [
      | inl below ↦
          once_ready (F n ≡ Some block) inner (ready_in (of i) inner) (λ result. if ended then [] else ready_to (of i) run_step None) block step (Some n)
          (λ going k. ready_owned F (of i) inner block step n o.0 k)
          (λ result is k. end_owned (F n ≡ Some block) i ended block step n k)
          below
      | inr reply ↦
          once_ready (F n ≡ Some block) inner [] (λ result. where_true ended (ready_to own run_step (Some last))) block step (Some n)
          (λ going k. absurd k)
          (λ result is k. where_owned F own ended last block step n o.1 k)
          reply
    ]
ready_owned F own (first inner right i) block step n o h = ready_owned F own inner block step n o.0 h
ready_owned F own (left_arm inner right i before last) block step n o h =
    once_ready (F n ≡ Some block) inner (ready_in own inner) (λ result. ready_to own run_step None) block step (Some n)
    (λ going k. ready_owned F own inner block step n o.0 k)
    (λ result is k. silent_owned (F n ≡ Some block) own run_step block step n k)
    h
ready_owned F own (right_arm left_result inner last) block step n o h =
    once_ready (F n ≡ Some block) inner (ready_in own inner) (λ result. ready_to own run_step (Some last)) block step (Some n)
    (λ going k. ready_owned F own inner block step n o.0 k)
    (λ result is k. one_owned F own run_step last block step n o.1 k)
    h
ready_owned F own (both_arms i last left right ended) block step n o h =
    elim (ready_split (once_finished left (ready_in own left) (λ left_result. once_finished right [] (λ right_result. where_true ended (ready_to own run_step (Some last))))) (ready_block i right ended (ready_in (of i) right)) block step (Some n) h) [
      | inl mine ↦
          once_ready (F n ≡ Some block) left (ready_in own left) (λ left_result. once_finished right [] (λ right_result. where_true ended (ready_to own run_step (Some last)))) block step (Some n)
          (λ going k. ready_owned F own left block step n o.0 k)
          (λ left_result left_is k. once_ready (F n ≡ Some block) right [] (λ right_result. where_true ended (ready_to own run_step (Some last))) block step (Some n)
          (λ going j. absurd j)
          (λ right_result right_is j. where_owned F own ended last block step n o.2 j)
          k)
          mine
      | inr below ↦
          once_ready (F n ≡ Some block) right (ready_in (of i) right) (λ result. if ended then [] else ready_to (of i) run_step None) block step (Some n)
          (λ going k. ready_owned F (of i) right block step n o.1 k)
          (λ result is k. end_owned (F n ≡ Some block) i ended block step n k)
          below
    ]
ready_owned F own (finished result) block step n o h = absurd h

-- the same of a session
abbrev OwnsSession : Session → Standing → Type 0
OwnsSession session s = Owns (λ n. owner session.phrase root 0 n) root s.configuration

owned_opening : (session : Session) → OwnsSession session (opening session)
owned_opening session =
    start_owns (λ n. owner session.phrase root 0 n) root session.phrase 0 (nonce session.nonce) (owner_owns session.phrase root 0 (λ n. owner session.phrase root 0 n) (λ n from to. refl))

owned_next : (session : Session) (s : Standing) (entry : Entry) (t : Standing) → OwnsSession session s → Onward (StaysOwned (λ n. owner session.phrase root 0 n)) session s entry t → OwnsSession session t
owned_next session s entry t o (moved pass m h fits is) =
    subst (λ x. OwnsSession session x) (sym is) (subst (λ c. Owns (λ n. owner session.phrase root 0 n) root c) (sym (after_configuration pass s m.0 m.1)) (h root o))
owned_next session s entry t o (root_ended value is then_is) = subst (λ x. OwnsSession session x) (sym then_is) o
owned_next session s entry t o (faulted pass event fault flying of_entry then_is) = subst (λ x. OwnsSession session x) (sym then_is) o
owned_next session s entry t o (starves pass event flying of_entry then_is) = subst (λ x. OwnsSession session x) (sym then_is) o

-- after every history each configuration that is ready for an event is in the block that owns the event
pub history_owned : (session : Session) (keys : List (List ℕ × List ℕ)) (history : List Entry) (s : Standing) (one : Ready) (n : ℕ) → standing_after session keys history ≡ Some s → Contains (ready_of s.configuration) one → one.event ≡ Some n → owner session.phrase root 0 n ≡ Some one.block
history_owned session keys history s one n e c is =
    let o : OwnsSession session s = kept_after session keys (OwnsSession session) (λ u entry t h f. owned_next session u entry t h (onward (StaysOwned (λ k. owner session.phrase root 0 k)) session keys (owns_law (makings session keys) (λ k. owner session.phrase root 0 k)) u entry t f).1) (owned_opening session) history s e in
    let here : IsReady (ready_of s.configuration) one.block one.step one.event = among_ready (ready_of s.configuration) one (among_contains Ready (ready_of s.configuration) one c) in
    once_ready (owner session.phrase root 0 n ≡ Some one.block) s.configuration (ready_in root s.configuration) (λ value. ready_to root run_step None) one.block one.step (Some n)
    (λ going k. ready_owned (λ k. owner session.phrase root 0 k) root s.configuration one.block one.step n o k)
    (λ value done_is k. silent_owned (owner session.phrase root 0 n ≡ Some one.block) root run_step one.block one.step n k)
    (subst (λ x. IsReady (ready_of s.configuration) one.block one.step x) is here)
