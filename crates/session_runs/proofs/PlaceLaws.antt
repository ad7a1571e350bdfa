-- Requests wait only at the places that the phrase asks.
use Rattle.std.proofs.Common.{◌≡◌, ℕ, ◌+◌, ◌≤◌, ◌⊎◌, inl, inr, List, [], ◌∷◌, ◌++◌, length, refl, sym, subst, arith}
use Rattle.std.specs.Prelude.{Bool, true, false, Option, None, Some, nat_eq, if◌then◌else◌, Contains}
use Rattle.std.specs.Cmp.Lexicographic.{pointwise, same_text}
use Rattle.phrase_tree.specs.Term.{Term, leaf, at, chain, seq, par}
use Rattle.phrase_tree.specs.Numbering.{event_count}
use Rattle.evidence_types.specs.Evidence.{Evidence, nonce}
use Rattle.session_model.specs.Session.{Session}
use Rattle.session_model.specs.Value.{Makings, part}
use Rattle.session_runs.specs.Configuration.{Configuration, todo, asked, posted, remote, first, left_arm, right_arm, both_arms, finished, start, followed_by}
use Rattle.session_runs.specs.Moves.{Effect, silent, happens, sends, asks, answers, starts}
use Rattle.session_runs.specs.Standing.{Move, run, ask, deliver, Entry, played, is_open, Standing, makings, front, without_request, after, delivered, entered}
use Rattle.session_runs.specs.History.{standing_after}
use Rattle.session_runs.specs.MoveOrder.{possible_moves}
use Rattle.session_runs.specs.Progress.{CanMake, IsAtOneOf}
use Rattle.session_runs.specs.Played.{AsksOnly}
use Rattle.session_runs.proofs.Induction.{IsLaw}
use Rattle.session_runs.proofs.EntryLaws.{Onward, moved, root_ended, faulted, starves, onward, no_standing, where_open_is}
use Rattle.session_runs.proofs.TraceLaws.{kept_after}
use Rattle.session_runs.proofs.ProgressLaws.{history_goes_on}
use Rattle.session_runs.proofs.ListingLaws.{history_lists}

-- the places that are still to be asked, and those at which requests wait, are among these
abbrev pub Within : List (List ℕ) → Configuration → Type 0
Within places (todo phrase i before) = AsksOnly places phrase
Within places (asked phrase i before) = Unit {0}
Within places (posted asked_place i body before) = AsksOnly places body
Within places (remote asked_place i last inner ended) = Within places inner
Within places (first inner right i) = Within places inner × AsksOnly places right
Within places (left_arm inner right i before last) = Within places inner × AsksOnly places right
Within places (right_arm left_result inner last) = Within places inner
Within places (both_arms i last left right ended) = Within places left × Within places right
Within places (finished result) = Unit {0}

start_within : (places : List (List ℕ)) (phrase : Term) (i : ℕ) (before : Evidence) → AsksOnly places phrase → Within places (start phrase i before)
start_within places (leaf form) i before h = tt
start_within places (at place body) i before h = h
start_within places (chain left right) i before h = (start_within places left i before h.0, h.1)
start_within places (seq split left right) i before h = h
start_within places (par split left right) i before h = h

followed_within : (places : List (List ℕ)) (c : Configuration) (right : Term) (i : ℕ) → Within places c → AsksOnly places right → Within places (followed_by c right i)
followed_within places (todo phrase j before) right i h k = (h, k)
followed_within places (asked phrase j before) right i h k = (h, k)
followed_within places (posted asked_place j body before) right i h k = (h, k)
followed_within places (remote asked_place j last inner ended) right i h k = (h, k)
followed_within places (first inner other j) right i h k = (h, k)
followed_within places (left_arm inner other j before last) right i h k = (h, k)
followed_within places (right_arm left_result inner last) right i h k = (h, k)
followed_within places (both_arms j last left other ended) right i h k = (h, k)
followed_within places (finished result) right i h k = start_within places right i result k

-- a request that is sent is to one of these places
abbrev pub SendsWithin : List (List ℕ) → Effect → Type 0
SendsWithin places (sends place n) = Contains places place
SendsWithin places _ = Unit {0}

abbrev pub StaysWithin : List (List ℕ) → List ℕ → Configuration → Effect → Configuration → Type 0
StaysWithin places place c effect d = Within places c → Within places d × SendsWithin places effect

within_law : (from : Makings) (places : List (List ℕ)) → IsLaw from (StaysWithin places)
within_law from places = record {
  runs = λ place form i before other h. (tt, tt);
  asks_for = λ place form i before measured h. (tt, tt);
  posts = λ place asked_place body i before h. (h.1, h.0);
  splits = λ place split left right i before h. ((start_within places left (i + 1) (part split.left before) h.0, h.1), tt);
  forks = λ place split left right i before h. ((start_within places left (i + 1) (part split.left before) h.0, start_within places right (i + 1 + event_count left) (part split.right before) h.1), tt);
  answered = λ place phrase i before bytes h. (tt, tt);
  delivered = λ place asked_place i body before h. (start_within places body (i + 1) before h, tt);
  ends_remote = λ place asked_place i last result h. (tt, tt);
  replies = λ place asked_place i last result h. (tt, tt);
  swaps = λ place result right i before last h. (start_within places right i before h.1, tt);
  joins_sequence = λ place left_result right_result last h. (tt, tt);
  ends_right = λ place i last left result h. (h, tt);
  joins_parallel = λ place i last left_result right_result h. (tt, tt);
  in_remote = λ place asked_place i last c d effect over f h. f h;
  in_first = λ place c d effect right i f h. (followed_within places d right i (f h.0).0 h.1, (f h.0).1);
  in_left = λ place c d effect right i before last f h. (((f h.0).0, h.1), (f h.0).1);
  in_right = λ place result c d effect last f h. f h;
  in_left_of_both = λ place i last c d right effect over f h. (((f h.0).0, h.1), (f h.0).1);
  in_right_of_both = λ place i last left c d effect over f h. ((h.0, (f h.1).0), (f h.1).1);
}

-- each request waits at one of these places
abbrev pub AllWithin : List (List ℕ) → List (List ℕ × ℕ) → Type 0
AllWithin places [] = Unit {0}
AllWithin places (request ∷ rest) = Contains places request.0 × AllWithin places rest

all_more : (places : List (List ℕ)) (requests : List (List ℕ × ℕ)) (place : List ℕ) (n : ℕ) → AllWithin places requests → Contains places place → AllWithin places (requests ++ (place, n) ∷ [])
all_more places [] place n h c = (c, tt)
all_more places (request ∷ rest) place n h c = (h.0, all_more places rest place n h.1 c)

all_less : (places : List (List ℕ)) (requests : List (List ℕ × ℕ)) (n : ℕ) → AllWithin places requests → AllWithin places (without_request n requests)
all_less places [] n h = tt
all_less places (request ∷ rest) n h = left_out (nat_eq request.1 n) (all_less places rest n h.1)
  where
    left_out : (b : Bool) → AllWithin places (without_request n rest) → AllWithin places (if b then rest else request ∷ without_request n rest)
    left_out true k = h.1
    left_out false k = (h.0, k)

pub record IsPlaced (places : List (List ℕ)) (s : Standing) : Type 0 where
  pub still : Within places s.configuration
  pub waiting : AllWithin places s.requests

placed_after : (places : List (List ℕ)) (pass : ℕ) (s : Standing) (effect : Effect) (d : Configuration) → IsPlaced places s → Within places d → SendsWithin places effect → IsPlaced places (after pass s effect d)
placed_after places pass s silent d p w h = record { still = w; waiting = p.waiting }
placed_after places pass s (happens n) d p w h = record { still = w; waiting = p.waiting }
placed_after places pass s (sends place n) d p w h = record { still = w; waiting = all_more places s.requests place n p.waiting h }
placed_after places pass s (asks n) d p w h = record { still = w; waiting = p.waiting }
placed_after places pass s (answers n bytes) d p w h = record { still = w; waiting = p.waiting }
placed_after places pass s (starts n) d p w h = record { still = w; waiting = all_less places s.requests n p.waiting }

placed_next : (places : List (List ℕ)) (session : Session) (s : Standing) (entry : Entry) (t : Standing) → IsPlaced places s → Onward (StaysWithin places) session s entry t → IsPlaced places t
placed_next places session s entry t p (moved pass m h fits is) =
    subst (λ x. IsPlaced places x) (sym is) (placed_after places pass s m.0 m.1 p (h p.still).0 (h p.still).1)
placed_next places session s entry t p (root_ended value is then_is) = subst (λ x. IsPlaced places x) (sym then_is) (record { still = p.still; waiting = p.waiting })
placed_next places session s entry t p (faulted pass event fault flying of_entry then_is) = subst (λ x. IsPlaced places x) (sym then_is) (record { still = p.still; waiting = p.waiting })
placed_next places session s entry t p (starves pass event flying of_entry then_is) = subst (λ x. IsPlaced places x) (sym then_is) (record { still = p.still; waiting = p.waiting })

pub history_placed : (session : Session) (keys : List (List ℕ × List ℕ)) (places : List (List ℕ)) (history : List Entry) (s : Standing) → AsksOnly places session.phrase → standing_after session keys history ≡ Some s → IsPlaced places s
history_placed session keys places history s only e =
    kept_after session keys (IsPlaced places) (λ u entry t p f. placed_next places session u entry t p (onward (StaysWithin places) session keys (within_law (makings session keys) places) u entry t f).1) (record { still = start_within places session.phrase 0 (nonce session.nonce) only; waiting = tt }) history s e

-- a place whose list has a front is among them
pub front_within : (places : List (List ℕ)) (requests : List (List ℕ × ℕ)) (place : List ℕ) (n : ℕ) → AllWithin places requests → front requests place ≡ Some n → Contains places place
front_within places [] place n h e = no_front n e
  where
    no_front : (n : ℕ) → ◌≡◌ {A = Option ℕ} None (Some n) → Contains places place
    no_front n e = absurd (cc)
front_within places (request ∷ rest) place n h e = at_front (pointwise nat_eq request.0 place) refl (λ k. front_within places rest place n h.1 k) e
  where
    at_front : (b : Bool) → pointwise nat_eq request.0 place ≡ b → (front rest place ≡ Some n → Contains places place) → (if b then Some request.1 else front rest place) ≡ Some n → Contains places place
    at_front true t f k = subst (λ x. Contains places x) (same_text request.0 place (sym t)) h.0
    at_front false t f k = f k

module _ (session : Session) (keys : List (List ℕ × List ℕ)) (places : List (List ℕ)) (s : Standing) (pass : ℕ) where
  delivered_within : IsPlaced places s → (place : List ℕ) (o : Option ℕ) (t : Standing) → front s.requests place ≡ o → delivered (makings session keys) session.root pass s o ≡ Some t → Contains places place
  delivered_within p place None t f e = no_standing (Contains places place) t e
  delivered_within p place (Some n) t f e = front_within places s.requests place n p.waiting f

  made_within : IsPlaced places s → (move : Move) → CanMake session keys s pass move → IsAtOneOf places move
  made_within p (run block) can = tt
  made_within p (ask block) can = tt
  made_within p (deliver place) can =
      where_open_is (Contains places place) s.state (entered (makings session keys) session.root s (played pass (deliver place))) can.then_stands
      (λ still h. delivered_within p place (front s.requests place) can.then_stands refl h)
      can.possible

-- where the session is open and asks only these places, a move is listed or an ask is in flight
pub history_lists_one : (session : Session) (keys : List (List ℕ × List ℕ)) (places : List (List ℕ)) (history : List Entry) (s : Standing) → AsksOnly places session.phrase → standing_after session keys history ≡ Some s → s.state ≡ is_open → (1 ≤ length (possible_moves places s)) ⊎ (1 ≤ length s.in_flight)
history_lists_one session keys places history s only e still = elim (history_goes_on session keys history s 0 e still) [
  | inl can ↦
      let there : IsAtOneOf places can.move = made_within session keys places s 0 (history_placed session keys places history s only e) can.move can.made in
      let c : Contains (possible_moves places s) can.move = (history_lists session keys places history s 0 can.move e).1 (can.made, there) in
      inl (omega (arith, c.1))
  | inr flying ↦ inr flying
]
