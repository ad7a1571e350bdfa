-- A session has few possible moves: at most one for each block and one for each request that waits.
use Rattle.std.proofs.Common.{◌≡◌, ℕ, suc, ◌+◌, ◌*◌, ◌≤◌, inl, inr, List, [], ◌∷◌, ◌++◌, length, refl, sym, ◌∙◌, ap, subst, arith}
use Rattle.std.specs.Prelude.{Bool, true, false, Option, None, Some, nat_eq, nat_lt, if◌then◌else◌, Contains}
use Rattle.std.specs.Cmp.Lexicographic.{pointwise}
use Rattle.std.proofs.lemmas.List.{length-append}
use Rattle.evidence_types.specs.Evidence.{Evidence}
use Rattle.phrase_tree.specs.Term.{Term, Leaf, leaf, at, chain, seq, par}
use Rattle.session_runs.specs.Configuration.{Configuration, todo, asked, posted, remote, first, left_arm, right_arm, both_arms, finished, once_finished}
use Rattle.session_runs.specs.Standing.{Block, root, of, Move, State, is_open, is_done, has_failed, has_starved, Standing, front}
use Rattle.session_runs.specs.MoveOrder.{Ready, ready_to, where_true, ready_phrase, ready_block, ready_in, ready_of, rank, ranked, put_silent, put_event, silent_ones, event_ones, moves_by, delivery_at, deliveries, moves_where, possible_moves}
use Rattle.session_runs.specs.Room.{blocks_in, HasRoom}
use Rattle.session_runs.specs.Moves.{run as run_step}
use Rattle.session_runs.specs.Ordered.{AreApart}
use Rattle.session_runs.proofs.ListingLaws.{IsAmong, contains_among}
use Rattle.session_model.specs.Session.{Session}
use Rattle.phrase_tree.specs.Numbering.{event_count}
use Rattle.machine_world.proofs.MailFrames.{same_place}

-- ---- deliveries

-- the requests that don't wait at a place
abbrev without_place : List ℕ → List (List ℕ × ℕ) → List (List ℕ × ℕ)
without_place place [] = []
without_place place (request ∷ rest) =
    if pointwise nat_eq request.0 place then without_place place rest else request ∷ without_place place rest

less : (b : Bool) (x : List ℕ × ℕ) (kept rest : List (List ℕ × ℕ)) → length kept ≤ length rest → length (if b then kept else x ∷ kept) ≤ suc (length rest)
less true x kept rest h = omega (arith, h)
less false x kept rest h = omega (arith, h)

without_less : (place : List ℕ) (requests : List (List ℕ × ℕ)) → length (without_place place requests) ≤ length requests
without_less place [] = omega arith
without_less place (request ∷ rest) =
    less (pointwise nat_eq request.0 place) request (without_place place rest) rest (without_less place rest)

fewer : (b : Bool) (x : List ℕ × ℕ) (kept rest : List (List ℕ × ℕ)) (on : Option ℕ) (n : ℕ) → length kept ≤ length rest → (on ≡ Some n → suc (length kept) ≤ length rest) → (if b then Some x.1 else on) ≡ Some n → suc (length (if b then kept else x ∷ kept)) ≤ suc (length rest)
fewer true x kept rest on n h f e = omega (arith, h)
fewer false x kept rest on n h f e =
    let k = f e in
    omega (arith, k)

without_fewer : (place : List ℕ) (requests : List (List ℕ × ℕ)) (n : ℕ) → front requests place ≡ Some n → suc (length (without_place place requests)) ≤ length requests
without_fewer place [] n e = absurd (cc)
without_fewer place (request ∷ rest) n e =
    fewer (pointwise nat_eq request.0 place) request (without_place place rest) rest (front rest place) n (without_less place rest) (without_fewer place rest n) e

-- other places have the same front
front_same : (b c : Bool) (x : List ℕ × ℕ) (kept rest : List (List ℕ × ℕ)) (other : List ℕ) → (b ≡ true → c ≡ true → ⊥) → pointwise nat_eq x.0 other ≡ c → front kept other ≡ front rest other → front (if b then kept else x ∷ kept) other ≡ (if c then Some x.1 else front rest other)
front_same true true x kept rest other apart e h = absurd (apart refl refl)
front_same true false x kept rest other apart e h = h
front_same false c x kept rest other apart e h =
    ap (λ t. if t then Some x.1 else front kept other) e ∙ ap (λ f. if c then Some x.1 else f) h

front_other : (place other : List ℕ) (requests : List (List ℕ × ℕ)) → (place ≡ other → ⊥) → front (without_place place requests) other ≡ front requests other
front_other place other [] apart = refl
front_other place other (request ∷ rest) apart =
    front_same (pointwise nat_eq request.0 place) (pointwise nat_eq request.0 other) request (without_place place rest) rest other (λ p q. apart (sym (same_place request.0 place p) ∙ same_place request.0 other q)) refl (front_other place other rest apart)

deliveries_same : (places : List (List ℕ)) (requests others : List (List ℕ × ℕ)) → ((place : List ℕ) → IsAmong places place → front requests place ≡ front others place) → deliveries places requests ≡ deliveries places others
deliveries_same [] requests others h = refl
deliveries_same (place ∷ places) requests others h =
    ap (λ f. delivery_at f place (deliveries places requests)) (h place (inl refl)) ∙ ap (λ ms. delivery_at (front others place) place ms) (deliveries_same places requests others (λ q m. h q (inr m)))

one_delivery : (on : Option ℕ) (place : List ℕ) (moves kept : List Move) (most left : ℕ) → length moves ≤ most → moves ≡ kept → length kept ≤ left → ((n : ℕ) → on ≡ Some n → suc left ≤ most) → length (delivery_at on place moves) ≤ most
one_delivery None place moves kept most left h e k f = h
one_delivery (Some n) place moves kept most left h e k f =
    let same : length moves ≡ length kept = ap (λ ms. length ms) e in
    let room = f n refl in
    omega (arith, same, k, room)

-- at most one for each request
pub deliveries_few : (places : List (List ℕ)) (requests : List (List ℕ × ℕ)) → AreApart (List ℕ) places → length (deliveries places requests) ≤ length requests
deliveries_few [] requests apart = omega arith
deliveries_few (place ∷ places) requests apart =
    one_delivery (front requests place) place (deliveries places requests) (deliveries places (without_place place requests)) (length requests) (length (without_place place requests)) (deliveries_few places requests apart.1) (deliveries_same places requests (without_place place requests) (λ q m. sym (front_other place q requests (λ e. apart.0 (subst (λ p. Contains places p) (sym e) (contains_among (List ℕ) places q m)))))) (deliveries_few places (without_place place requests) apart.1) (without_fewer place requests)

-- ---- blocks

ranked_more : (one : Ready) (xs : List Ready) → length (ranked one xs) ≡ suc (length xs)
ranked_more one [] = refl
ranked_more one (other ∷ rest) =
    by (nat_lt (rank one.block one.event) (rank other.block other.event)) one other rest (ranked_more one rest)
  where
    by : (b : Bool) (x y : Ready) (ys : List Ready) → length (ranked x ys) ≡ suc (length ys) → length (if b then x ∷ y ∷ ys else y ∷ ranked x ys) ≡ suc (suc (length ys))
    by true x y ys h = refl
    by false x y ys h = ap suc h

put_more : (event : Option ℕ) (one : Ready) (silent events : List Ready) → length (put_silent event one silent) + length (put_event event one events) ≡ suc (length silent + length events)
put_more None one silent events =
    let h = ranked_more one silent in
    omega (arith, h)
put_more (Some event) one silent events =
    let h = ranked_more one events in
    omega (arith, h)

both_more : (ready : List Ready) → length (silent_ones ready) + length (event_ones ready) ≡ length ready
both_more [] = refl
both_more (one ∷ rest) = put_more one.event one (silent_ones rest) (event_ones rest) ∙ ap suc (both_more rest)

moves_same : (ready : List Ready) → length (moves_by ready) ≡ length ready
moves_same [] = refl
moves_same (one ∷ rest) = ap suc (moves_same rest)

once_few : (c : Configuration) (xs : List Ready) (f : Evidence → List Ready) (most : ℕ) → length xs ≤ most → ((result : Evidence) → length (f result) ≤ most) → length (once_finished c xs f) ≤ most
once_few (todo phrase i before) xs f most h k = h
once_few (asked phrase i before) xs f most h k = h
once_few (posted asked_place i body before) xs f most h k = h
once_few (remote asked_place i last inner ended) xs f most h k = h
once_few (first inner right i) xs f most h k = h
once_few (left_arm inner right i before last) xs f most h k = h
once_few (right_arm left_result inner last) xs f most h k = h
once_few (both_arms i last left right ended) xs f most h k = h
once_few (finished result) xs f most h k = k result

joined : (xs ys : List Ready) (a b most : ℕ) → length xs ≤ a → length ys ≤ b → a + b ≤ most → length (xs ++ ys) ≤ most
joined xs ys a b most h k l =
    let e = length-append xs ys in
    omega (arith, e, h, k, l)

unless_few : (b : Bool) (one : Ready) → length (if b then [] else one ∷ []) ≤ 1
unless_few true one = omega arith
unless_few false one = omega arith

where_few : (b : Bool) (one : Ready) → length (where_true b (one ∷ [])) ≤ 1
where_few true one = omega arith
where_few false one = omega arith

phrase_few : (block : Block) (phrase : Term) (i : ℕ) → length (ready_phrase block phrase i) ≤ 1
phrase_few block (leaf form) i = omega arith
phrase_few block (at place body) i = omega arith
phrase_few block (chain left right) i = omega arith
phrase_few block (seq split left right) i = omega arith
phrase_few block (par split left right) i = omega arith

bigger : (n a b : ℕ) → n ≤ a → a ≤ b → n ≤ b
bigger n a b h k = omega (arith, h, k)

at_least_one : (n : ℕ) → 1 ≤ 1 + n
at_least_one n = omega arith

-- at most one for each block
ready_few : (block : Block) (c : Configuration) → length (ready_in block c) ≤ 1 + blocks_in c
ready_few block (todo phrase i before) = phrase_few block phrase i
ready_few block (asked phrase i before) = omega arith
ready_few block (posted asked_place i body before) = omega arith
ready_few block (remote asked_place i last inner ended) =
    joined (ready_block i inner ended (ready_in (of i) inner)) (once_finished inner [] (λ result. where_true ended (ready_to block run_step (Some last)))) (1 + blocks_in inner) 1 (1 + (1 + blocks_in inner)) (once_few inner (ready_in (of i) inner) (λ result. if ended then [] else ready_to (of i) run_step None) (1 + blocks_in inner) (ready_few (of i) inner) (λ result. bigger _ 1 (1 + blocks_in inner) (unless_few ended _) (at_least_one (blocks_in inner)))) (once_few inner [] (λ result. where_true ended (ready_to block run_step (Some last))) 1 (omega arith) (λ result. where_few ended _)) (omega arith)
ready_few block (first inner right i) = ready_few block inner
ready_few block (left_arm inner right i before last) =
    once_few inner (ready_in block inner) (λ result. ready_to block run_step None) (1 + blocks_in inner) (ready_few block inner) (λ result. at_least_one (blocks_in inner))
ready_few block (right_arm left_result inner last) =
    once_few inner (ready_in block inner) (λ result. ready_to block run_step (Some last)) (1 + blocks_in inner) (ready_few block inner) (λ result. at_least_one (blocks_in inner))
ready_few block (both_arms i last left right ended) =
    joined (once_finished left (ready_in block left) (λ left_result. once_finished right [] (λ right_result. where_true ended (ready_to block run_step (Some last))))) (ready_block i right ended (ready_in (of i) right)) (1 + blocks_in left) (1 + blocks_in right) (1 + (1 + (blocks_in left + blocks_in right))) (once_few left (ready_in block left) (λ left_result. once_finished right [] (λ right_result. where_true ended (ready_to block run_step (Some last)))) (1 + blocks_in left) (ready_few block left) (λ left_result. bigger _ 1 (1 + blocks_in left) (once_few right [] (λ right_result. where_true ended (ready_to block run_step (Some last))) 1 (omega arith) (λ right_result. where_few ended _)) (at_least_one (blocks_in left)))) (once_few right (ready_in (of i) right) (λ result. if ended then [] else ready_to (of i) run_step None) (1 + blocks_in right) (ready_few (of i) right) (λ result. bigger _ 1 (1 + blocks_in right) (unless_few ended _) (at_least_one (blocks_in right)))) (omega arith)
ready_few block (finished result) = omega arith

all_few : (c : Configuration) → length (ready_of c) ≤ 1 + blocks_in c
all_few c = once_few c (ready_in root c) (λ value. ready_to root run_step None) (1 + blocks_in c) (ready_few root c) (λ value. at_least_one (blocks_in c))

-- ---- all of them

open_few : (places : List (List ℕ)) (standing : Standing) → AreApart (List ℕ) places → length (moves_where places standing is_open) ≤ length standing.requests + (1 + blocks_in standing.configuration)
open_few places standing apart =
    let ready = ready_of standing.configuration in
    let deliver = deliveries places standing.requests in
    let silent = moves_by (silent_ones ready) in
    let events = moves_by (event_ones ready) in
    let all = length-append deliver (silent ++ events) in
    let rest = length-append silent events in
    let a = moves_same (silent_ones ready) in
    let b = moves_same (event_ones ready) in
    let c = both_more ready in
    let d = all_few standing.configuration in
    let e = deliveries_few places standing.requests apart in
    omega (arith, all, rest, a, b, c, d, e)

where_few_moves : (places : List (List ℕ)) (standing : Standing) (state : State) (most : ℕ) → length (moves_where places standing is_open) ≤ most → length (moves_where places standing state) ≤ most
where_few_moves places standing is_open most h = h
where_few_moves places standing (is_done value) most h = omega arith
where_few_moves places standing (has_failed event fault) most h = omega arith
where_few_moves places standing (has_starved event) most h = omega arith

-- at most 2e + 1, if the phrase has e events
pub moves_few : (session : Session) (places : List (List ℕ)) (standing : Standing) → AreApart (List ℕ) places → HasRoom session standing → length (possible_moves places standing) ≤ 2 * event_count session.phrase + 1
moves_few session places standing apart room =
    let all = where_few_moves places standing standing.state (length standing.requests + (1 + blocks_in standing.configuration)) (open_few places standing apart) in
    let events = room.events in
    let waiting = room.waiting in
    omega (arith, all, events, waiting)
