-- What a core tells of its session.
use Rattle.std.proofs.Common.{◌≡◌, ℕ, zero, suc, ◌<◌, inl, inr, List, [], ◌∷◌, length, refl, sym, ◌∙◌, ap, subst, arith}
use Rattle.std.specs.Prelude.{Bool, true, false, Option, None, Some, map, nat_eq, Contains, ◌↔◌, slice_get, slice_index_or}
use Rattle.std.specs.Option.{option_map}
use Rattle.std.specs.Cmp.Lexicographic.{pointwise}
use Rattle.std.proofs.lemmas.Option.{slice_get-map, slice_get_within}
use Rattle.std.proofs.lemmas.Slice.Eq.{bytes_eq-Decides}
use Rattle.bench_trait.specs.Asking.{question}
use Rattle.avm_code.specs.declared.instr.BlockName.{BlockName}
use Rattle.avm_code.specs.declared.instr.BlockName.TheVariants.{Root, Of}
use Rattle.avm_code.specs.declared.instr.Instr.{Instr}
use Rattle.avm_code.specs.declared.instr.Instr.TheVariants.{Copy, Usm, Kim, Sign, Hash, Null, Split, Swap, JoinSeq, Send, Recv, Fork, JoinPar, End}
use Rattle.machine_tables.specs.Tables.{BlockState, Tables}
use Rattle.machine_tables.specs.Allowed.{Measures}
use Rattle.machine_world.specs.Seen.{IsPlace}
use Rattle.machine_world.specs.Cells.{block_of}
use Rattle.machine_world.specs.Answers.{ask_for, ask_in, ask_at}
use Rattle.machine_world.proofs.MailFrames.{same_place}
use Rattle.session_model.specs.Session.{Session}
use Rattle.session_runs.specs.Standing.{Move, run, ask, deliver, is_open, Standing}
use Rattle.session_runs.specs.MoveOrder.{possible_moves}
use Rattle.session_runs.specs.Ordered.{AreApart}
use Rattle.session_runs.proofs.ListingLaws.{IsAmong, contains_among, among_contains}
use Rattle.session_tables.specs.Touched.{named}
use Rattle.session_tables.specs.Questions.{AsksItsQuestion, AsksNext}
use Rattle.session_agenda.specs.declared.moves.Move.{Move as Listed}
use Rattle.session_agenda.specs.declared.moves.Move.TheVariants as listed
use Rattle.session_agenda.specs.Kept as kept
use Rattle.session_agenda.specs.Placed.{place_at, placed, placed_moves, waits_at, Follows}
use Rattle.session_agenda.proofs.Membership.{can_deliver}
use Rattle.session_book.specs.Kept.{state_of}
use Rattle.session_core.specs.declared.steps.Core.{Core}
use Rattle.session_core.specs.Core.{tables_in, FollowsWhile, IsCoreAt}

-- ---- how a core stands is read off its book

pub state_is : (session : Session) (keys : List (List ℕ × List ℕ)) (places : List (List ℕ)) (standing : Standing) (core : Core) → IsCoreAt session keys places standing core → state_of core.world.store.values core.book.ending ≡ standing.state
state_is session keys places standing core i = i.played.played.shown.state

pub open_too : (session other : Session) (keys others : List (List ℕ × List ℕ)) (places there : List (List ℕ)) (standing again : Standing) (core : Core) → IsCoreAt session keys places standing core → IsCoreAt other others there again core → standing.state ≡ is_open → again.state ≡ is_open
open_too session other keys others places there standing again core i j e =
    sym (state_is other others there again core j) ∙ state_is session keys places standing core i ∙ e

pub follows_open : (session : Session) (keys : List (List ℕ × List ℕ)) (places : List (List ℕ)) (standing : Standing) (core : Core) → IsCoreAt session keys places standing core → standing.state ≡ is_open → Follows core.agenda (tables_in core) places
follows_open session keys places standing core i e = subst (λ state. FollowsWhile state core.agenda (tables_in core) places) e i.follows

-- ---- members of a list that was mapped

among_map : (A B : Type 0) (f : A → B) (xs : List A) (x : A) → IsAmong xs x → IsAmong (map f xs) (f x)
among_map A B f [] x h = absurd h
among_map A B f (y ∷ ys) x (inl e) = inl (ap f e)
among_map A B f (y ∷ ys) x (inr h) = inr (among_map A B f ys x h)

map_among : (A B : Type 0) (f : A → B) (xs : List A) (y : B) → IsAmong (map f xs) y → (x : A) × IsAmong xs x × (f x ≡ y)
map_among A B f [] y h = absurd h
map_among A B f (x ∷ xs) y (inl e) = (x, inl refl, e)
map_among A B f (x ∷ xs) y (inr h) =
    let w = map_among A B f xs y h in
    (w.0, inr w.1, w.2)

among_at : (A : Type 0) (xs : List A) (k : ℕ) (x : A) → slice_get xs k ≡ Some x → IsAmong xs x
among_at A [] k x e = absurd (cc)
among_at A (y ∷ ys) zero x e =
    let same : y ≡ x = cc in
    inl same
among_at A (y ∷ ys) (suc k) x e = inr (among_at A ys k x e)

-- ---- blocks by their two names

pub named_is : (name : BlockName) → named name ≡ block_of name
named_is Root = refl
named_is (Of number) = refl

block_is : (a b : BlockName) → named a ≡ block_of b → a ≡ b
block_is Root Root e = refl
block_is Root (Of m) e = absurd (cc)
block_is (Of n) Root e = absurd (cc)
block_is (Of n) (Of m) e =
    let same : n ≡ m = cc in
    ap Of same

-- ---- places by their index

pub place_at_index : (places : List (List ℕ)) (place : List ℕ) (index : ℕ) → IsPlace places place index → slice_get places index ≡ Some place
place_at_index [] place index at = absurd at
place_at_index (p ∷ ps) place zero at = ap some_place (same_place p place at)
  where
    some_place : List ℕ → Option (List ℕ)
    some_place q = Some q
place_at_index (p ∷ ps) place (suc index) at = place_at_index ps place index at.1

at_is : (places : List (List ℕ)) (place : List ℕ) (index : ℕ) → slice_get places index ≡ Some place → place_at places index ≡ place
at_is [] place index e = absurd (cc)
at_is (p ∷ ps) place zero e =
    let same : p ≡ place = cc in
    same
at_is (p ∷ ps) place (suc index) e = at_is ps place index e

one_index : (places : List (List ℕ)) (place : List ℕ) (a b : ℕ) → AreApart (List ℕ) places → slice_get places a ≡ Some place → slice_get places b ≡ Some place → a ≡ b
one_index [] place a b apart e f = absurd (cc)
one_index (p ∷ ps) place zero zero apart e f = refl
one_index (p ∷ ps) place zero (suc b) apart e f =
    let same : p ≡ place = cc in
    absurd (apart.0 (subst (λ q. Contains ps q) (sym same) (contains_among (List ℕ) ps place (among_at (List ℕ) ps b place f))))
one_index (p ∷ ps) place (suc a) zero apart e f =
    let same : p ≡ place = cc in
    absurd (apart.0 (subst (λ q. Contains ps q) (sym same) (contains_among (List ℕ) ps place (among_at (List ℕ) ps a place e))))
one_index (p ∷ ps) place (suc a) (suc b) apart e f = ap suc (one_index ps place a b apart.1 e f)

-- a place at which the tables say that a request waits is there
waits_there : (tables : Tables) (o : Option (List ℕ)) → waits_at tables o ≡ true → (place : List ℕ) × (o ≡ Some place)
waits_there tables None e = absurd (cc)
waits_there tables (Some place) e = (place, refl)

-- ---- the moves of an open core

module _ (session : Session) (keys : List (List ℕ × List ℕ)) (places : List (List ℕ)) (standing : Standing) (core : Core) (i : IsCoreAt session keys places standing core) (opened : standing.state ≡ is_open) (moves : possible_moves places standing ≡ placed_moves places core.agenda) where
  abbrev ones : List Listed
  ones = kept.listed core.agenda

  -- a delivery that is listed is at a place that is there
  delivery_there : (index : ℕ) → IsAmong ones (listed.Deliver index) → (place : List ℕ) × (slice_get places index ≡ Some place)
  delivery_there index h =
      let waits : kept.waits_by core.agenda index ≡ true = (can_deliver core.agenda i.made.kept index (kept.waits_by core.agenda index) refl).1 (contains_among Listed ones (listed.Deliver index) h) in
      waits_there (tables_in core) (slice_get places index) (sym ((follows_open session keys places standing core i opened).waits index) ∙ waits)

  pub delivery_within : (k index : ℕ) → slice_get ones k ≡ Some (listed.Deliver index) → index < length places
  delivery_within k index e =
      let w = delivery_there index (among_at Listed ones k (listed.Deliver index) e) in
      slice_get_within places index w.0 w.1

  -- the move of the session at an index is that of the agenda
  pub nth_is : (k : ℕ) (o : Option Listed) → o ≡ slice_get ones k → slice_get (possible_moves places standing) k ≡ option_map (placed places) o
  nth_is k o e =
      ap (λ xs. slice_get xs k) moves ∙ slice_get-map (placed places) ones k ∙ ap (option_map (placed places)) (sym e)

  is_listed : (move : Listed) → IsAmong ones move → Contains (possible_moves places standing) (placed places move)
  is_listed move h =
      subst (λ xs. Contains xs (placed places move)) (sym moves) (contains_among Move (map (placed places) ones) (placed places move) (among_map Listed Move (placed places) ones move h))

  one_of : (move : Move) → Contains (possible_moves places standing) move → (x : Listed) × IsAmong ones x × (placed places x ≡ move)
  one_of move h =
      map_among Listed Move (placed places) ones move (among_contains Move (map (placed places) ones) move (subst (λ xs. Contains xs move) moves h))

  is_run : (x : Listed) (name : BlockName) → placed places x ≡ run (block_of name) → x ≡ listed.Run name
  is_run (listed.Run other) name e =
      let same : named other ≡ block_of name = cc in
      ap listed.Run (block_is other name same)
  is_run (listed.Ask other) name e = absurd (cc)
  is_run (listed.Deliver index) name e = absurd (cc)

  is_ask : (x : Listed) (name : BlockName) → placed places x ≡ ask (block_of name) → x ≡ listed.Ask name
  is_ask (listed.Run other) name e = absurd (cc)
  is_ask (listed.Ask other) name e =
      let same : named other ≡ block_of name = cc in
      ap listed.Ask (block_is other name same)
  is_ask (listed.Deliver index) name e = absurd (cc)

  is_delivery : (x : Listed) (place : List ℕ) → placed places x ≡ deliver place → (index : ℕ) × (x ≡ listed.Deliver index) × (place_at places index ≡ place)
  is_delivery (listed.Run other) place e = absurd (cc)
  is_delivery (listed.Ask other) place e = absurd (cc)
  is_delivery (listed.Deliver index) place e =
      let same : place_at places index ≡ place = cc in
      (index, refl, same)

  pub runs_so : (name : BlockName) → Contains ones (listed.Run name) ↔ Contains (possible_moves places standing) (run (block_of name))
  runs_so name = (
    λ h. subst (λ b. Contains (possible_moves places standing) (run b)) (named_is name) (is_listed (listed.Run name) (among_contains Listed ones (listed.Run name) h)),
    λ h.
        let w = one_of (run (block_of name)) h in
        contains_among Listed ones (listed.Run name) (subst (λ x. IsAmong ones x) (is_run w.0 name w.2) w.1),
  )

  pub asks_so : (name : BlockName) → Contains ones (listed.Ask name) ↔ Contains (possible_moves places standing) (ask (block_of name))
  asks_so name = (
    λ h. subst (λ b. Contains (possible_moves places standing) (ask b)) (named_is name) (is_listed (listed.Ask name) (among_contains Listed ones (listed.Ask name) h)),
    λ h.
        let w = one_of (ask (block_of name)) h in
        contains_among Listed ones (listed.Ask name) (subst (λ x. IsAmong ones x) (is_ask w.0 name w.2) w.1),
  )

  -- a delivery of the session is one of the agenda, at a place that is there
  delivery_of : (place : List ℕ) → Contains (possible_moves places standing) (deliver place) → (index : ℕ) × IsAmong ones (listed.Deliver index) × (slice_get places index ≡ Some place)
  delivery_of place h =
      let w = one_of (deliver place) h in
      let d = is_delivery w.0 place w.2 in
      let there = subst (λ x. IsAmong ones x) d.1 w.1 in
      let p = delivery_there d.0 there in
      (d.0, there, p.1 ∙ ap (λ q. some q) (sym (at_is places p.0 d.0 p.1) ∙ d.2))
    where
      some : List ℕ → Option (List ℕ)
      some q = Some q

  pub delivers_so : (place : List ℕ) (index : ℕ) → IsPlace places place index → Contains ones (listed.Deliver index) ↔ Contains (possible_moves places standing) (deliver place)
  delivers_so place index at = (
    λ h. subst (λ p. Contains (possible_moves places standing) (deliver p)) (at_is places place index (place_at_index places place index at)) (is_listed (listed.Deliver index) (among_contains Listed ones (listed.Deliver index) h)),
    λ h.
        let w = delivery_of place h in
        let same : w.0 ≡ index = one_index places place w.0 index i.made.apart w.2 (place_at_index places place index at) in
        contains_among Listed ones (listed.Deliver index) (subst (λ n. IsAmong ones (listed.Deliver n)) same w.1),
  )

  pub no_delivery : (place : List ℕ) → (Contains places place → ⊥) → Contains (possible_moves places standing) (deliver place) → ⊥
  no_delivery place gone h =
      let w = delivery_of place h in
      gone (contains_among (List ℕ) places place (among_at (List ℕ) places w.0 place w.2))

-- ---- the question of a block that asks

measured_asks : (session : Session) (place : List ℕ) (event : ℕ) (instr : Instr) → Measures event instr → AsksItsQuestion session place instr → ask_for session.nonce place instr ≡ question session.phrase session.root session.nonce event
measured_asks session place event (Copy i) m a = absurd m
measured_asks session place event (Usm i asp) m a = sym a ∙ ap (λ n. question session.phrase session.root session.nonce n) m
measured_asks session place event (Kim i target asp) m a = sym a ∙ ap (λ n. question session.phrase session.root session.nonce n) m
measured_asks session place event (Sign i) m a = absurd m
measured_asks session place event (Hash i) m a = absurd m
measured_asks session place event (Null i) m a = absurd m
measured_asks session place event (Split i split) m a = absurd m
measured_asks session place event Swap m a = absurd m
measured_asks session place event (JoinSeq i) m a = absurd m
measured_asks session place event (Send i asked) m a = absurd m
measured_asks session place event (Recv j i) m a = absurd m
measured_asks session place event (Fork i split) m a = absurd m
measured_asks session place event (JoinPar j i) m a = absurd m
measured_asks session place event End m a = absurd m

pub asks_so_next : (session : Session) (place : List ℕ) (event : ℕ) (state : BlockState) → AsksNext session place event state → ask_at session.nonce place state ≡ question session.phrase session.root session.nonce event
asks_so_next session place event state a =
    ap (λ s. ask_at session.nonce place s) a.runs
    ∙ ap (λ code. ask_in session.nonce place code) a.next
    ∙ measured_asks session place event a.instr a.measures a.asks

-- ---- the index of a place, while the places are walked

pub first_at : (places : List (List ℕ)) (place : List ℕ) (index : ℕ) → index < length places → pointwise nat_eq (slice_index_or places index []) place ≡ true → ((k : ℕ) → k < index → pointwise nat_eq (slice_index_or places k []) place ≡ false) → IsPlace places place index
first_at [] place index lt e before = absurd (omega (arith, lt))
first_at (p ∷ ps) place zero lt e before = e
first_at (p ∷ ps) place (suc index) lt e before =
    (before 0 (omega arith), first_at ps place index (omega (arith, lt)) e (λ k h. before (suc k) (omega (arith, h))))

both_ways : (b : Bool) → b ≡ true → b ≡ false → ⊥
both_ways b t f = absurd (cc)

pub none_at : (places : List (List ℕ)) (place : List ℕ) → ((k : ℕ) → k < length places → pointwise nat_eq (slice_index_or places k []) place ≡ false) → Contains places place → ⊥
none_at [] place none h = absurd (among_contains (List ℕ) [] place h)
none_at (p ∷ ps) place none h = elim (among_contains (List ℕ) (p ∷ ps) place h) [
  | inl e ↦ both_ways (pointwise nat_eq p place) ((bytes_eq-Decides p place).1 e) (none 0 (omega arith))
  | inr k ↦ none_at ps place (λ n lt. none (suc n) (omega (arith, lt))) (contains_among (List ℕ) ps place k)
]

pub default_is : (places : List (List ℕ)) (index : ℕ) (one other : List ℕ) → index < length places → slice_index_or places index one ≡ slice_index_or places index other
default_is [] index one other lt = absurd (omega (arith, lt))
default_is (p ∷ ps) zero one other lt = refl
default_is (p ∷ ps) (suc index) one other lt = default_is ps index one other (omega (arith, lt))
