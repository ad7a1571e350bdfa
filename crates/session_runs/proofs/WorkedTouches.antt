-- What the moves of small sessions send and need, written down from another program: an edit of the definitions is
-- refused here.
use Rattle.std.proofs.Common.{◌≡◌, ℕ, List, [], ◌∷◌, refl}
use Rattle.std.specs.Prelude.{codes, true, false, Option, None, Some}
use Rattle.phrase_tree.specs.declared.measurement.Asp.{Asp}
use Rattle.phrase_tree.specs.Term.{Term, cpy, nul, usm, leaf, at, chain, seq, par}
use Rattle.evidence_types.specs.Bytes.{encoding}
use Rattle.evidence_types.specs.Evidence.{Evidence}
use Rattle.session_model.specs.Session.{Session}
use Rattle.session_runs.specs.Standing.{root, of, Move, run, ask, deliver, Entry, played, answered, Standing, opening, next}
use Rattle.session_runs.specs.MoveOrder.{possible_moves}
use Rattle.session_runs.specs.Touches.{Touch, touches_nothing, sends_request, sends_reply, needs_request, needs_reply, touch_of, sent_by}

abbrev bank : List ℕ
bank = codes "bank"

abbrev q : List ℕ
q = codes "q"

abbrev places : List (List ℕ)
places = bank ∷ q ∷ []

abbrev asp_a : Asp
asp_a = record { name = codes "a"; args = [] }

abbrev asp_b : Asp
asp_b = record { name = codes "b"; args = [] }

abbrev session_of : List ℕ → ℕ → Term → Session
session_of place number phrase = record { root = place; nonce = number ∷ []; phrase = phrase }

abbrev touches_at : Standing → List Move → List Touch
touches_at standing [] = []
touches_at standing (move ∷ moves) = touch_of standing move ∷ touches_at standing moves

-- what each possible move touches, at the opening and after each entry
abbrev touches_from : Session → Option Standing → List Entry → List (List Touch)
touches_from session None entries = []
touches_from session (Some standing) [] = touches_at standing (possible_moves places standing) ∷ []
touches_from session (Some standing) (entry ∷ entries) =
    touches_at standing (possible_moves places standing) ∷ touches_from session (next session [] standing entry) entries

abbrev bytes_of : Option Evidence → Option (List ℕ)
bytes_of None = None
bytes_of (Some evidence) = Some (encoding evidence)

abbrev sent_at : Standing → List Move → List (Option (List ℕ))
sent_at standing [] = []
sent_at standing (move ∷ moves) = bytes_of (sent_by standing move) ∷ sent_at standing moves

-- the bytes that each sends
abbrev sent_from : Session → Option Standing → List Entry → List (List (Option (List ℕ)))
sent_from session None entries = []
sent_from session (Some standing) [] = sent_at standing (possible_moves places standing) ∷ []
sent_from session (Some standing) (entry ∷ entries) =
    sent_at standing (possible_moves places standing) ∷ sent_from session (next session [] standing entry) entries

-- @q [USM a], by the schedule of 0
abbrev request : Session
request = session_of bank 0 (at q (leaf (usm asp_a)))

abbrev request_entries : List Entry
request_entries =
    played 0 (run root) ∷ played 0 (deliver q) ∷ played 0 (ask (of 0)) ∷ answered 0 1 (1 ∷ []) ∷ played 0 (run (of 0)) ∷ played 0 (run root) ∷ played 0 (run root) ∷ []

request_touches : touches_from request (Some (opening request)) request_entries ≡ (sends_request 0 ∷ []) ∷ (needs_request 0 ∷ []) ∷ (touches_nothing ∷ []) ∷ ([]) ∷ (sends_reply 0 ∷ []) ∷ (needs_reply 0 ∷ []) ∷ (touches_nothing ∷ []) ∷ ([]) ∷ []
request_touches = refl

request_sends : sent_from request (Some (opening request)) request_entries ≡ (Some (1 ∷ 0 ∷ []) ∷ []) ∷ (None ∷ []) ∷ (None ∷ []) ∷ ([]) ∷ (Some (2 ∷ 0 ∷ 0 ∷ 0 ∷ 1 ∷ 0 ∷ 1 ∷ 1 ∷ 1 ∷ 0 ∷ []) ∷ []) ∷ (None ∷ []) ∷ (None ∷ []) ∷ ([]) ∷ []
request_sends = refl

-- @q [@bank [CPY]] +~- USM a, by the schedule of 5
abbrev requests : Session
requests = session_of bank 0 (par (record { left = true; right = false }) (at q (at bank (leaf cpy))) (leaf (usm asp_a)))

abbrev requests_entries : List Entry
requests_entries =
    played 0 (run root) ∷ played 0 (run root) ∷ played 0 (ask (of 0)) ∷ played 0 (deliver q) ∷ answered 0 6 (6 ∷ []) ∷ played 0 (run (of 1)) ∷ played 0 (deliver bank) ∷ played 0 (run (of 0)) ∷ played 0 (run (of 2)) ∷ played 0 (run (of 2)) ∷ played 0 (run (of 1)) ∷ played 0 (run (of 1)) ∷ played 0 (run root) ∷ played 0 (run root) ∷ played 0 (run root) ∷ []

requests_touches : touches_from requests (Some (opening requests)) requests_entries ≡ (touches_nothing ∷ []) ∷ (sends_request 1 ∷ touches_nothing ∷ []) ∷ (needs_request 1 ∷ touches_nothing ∷ []) ∷ (needs_request 1 ∷ []) ∷ (sends_request 2 ∷ []) ∷ (touches_nothing ∷ sends_request 2 ∷ []) ∷ (needs_request 2 ∷ touches_nothing ∷ []) ∷ (touches_nothing ∷ touches_nothing ∷ []) ∷ (touches_nothing ∷ []) ∷ (sends_reply 2 ∷ []) ∷ (needs_reply 2 ∷ []) ∷ (sends_reply 1 ∷ []) ∷ (needs_reply 1 ∷ []) ∷ (touches_nothing ∷ []) ∷ (touches_nothing ∷ []) ∷ ([]) ∷ []
requests_touches = refl

requests_sends : sent_from requests (Some (opening requests)) requests_entries ≡ (None ∷ []) ∷ (Some (1 ∷ 0 ∷ []) ∷ None ∷ []) ∷ (None ∷ None ∷ []) ∷ (None ∷ []) ∷ (Some (1 ∷ 0 ∷ []) ∷ []) ∷ (None ∷ Some (1 ∷ 0 ∷ []) ∷ []) ∷ (None ∷ None ∷ []) ∷ (None ∷ None ∷ []) ∷ (None ∷ []) ∷ (Some (1 ∷ 0 ∷ []) ∷ []) ∷ (None ∷ []) ∷ (Some (1 ∷ 0 ∷ []) ∷ []) ∷ (None ∷ []) ∷ (None ∷ []) ∷ (None ∷ []) ∷ ([]) ∷ []
requests_sends = refl

-- @q [USM a -> NUL] -> @bank [CPY +<- USM b], by the schedule of 2
abbrev in_turn : Session
in_turn = session_of bank 0 (chain (at q (chain (leaf (usm asp_a)) (leaf nul))) (at bank (seq (record { left = true; right = false }) (leaf cpy) (leaf (usm asp_b)))))

abbrev in_turn_entries : List Entry
in_turn_entries =
    played 0 (run root) ∷ played 0 (deliver q) ∷ played 0 (ask (of 0)) ∷ answered 0 1 (1 ∷ []) ∷ played 0 (run (of 0)) ∷ played 0 (run (of 0)) ∷ played 0 (run root) ∷ played 0 (run root) ∷ played 0 (deliver bank) ∷ played 0 (run (of 4)) ∷ played 0 (run (of 4)) ∷ played 0 (run (of 4)) ∷ played 0 (ask (of 4)) ∷ answered 0 7 (7 ∷ []) ∷ played 0 (run (of 4)) ∷ played 0 (run (of 4)) ∷ played 0 (run root) ∷ played 0 (run root) ∷ []

in_turn_touches : touches_from in_turn (Some (opening in_turn)) in_turn_entries ≡ (sends_request 0 ∷ []) ∷ (needs_request 0 ∷ []) ∷ (touches_nothing ∷ []) ∷ ([]) ∷ (touches_nothing ∷ []) ∷ (sends_reply 0 ∷ []) ∷ (needs_reply 0 ∷ []) ∷ (sends_request 4 ∷ []) ∷ (needs_request 4 ∷ []) ∷ (touches_nothing ∷ []) ∷ (touches_nothing ∷ []) ∷ (touches_nothing ∷ []) ∷ (touches_nothing ∷ []) ∷ ([]) ∷ (touches_nothing ∷ []) ∷ (sends_reply 4 ∷ []) ∷ (needs_reply 4 ∷ []) ∷ (touches_nothing ∷ []) ∷ ([]) ∷ []
in_turn_touches = refl

in_turn_sends : sent_from in_turn (Some (opening in_turn)) in_turn_entries ≡ (Some (1 ∷ 0 ∷ []) ∷ []) ∷ (None ∷ []) ∷ (None ∷ []) ∷ ([]) ∷ (None ∷ []) ∷ (Some (0 ∷ []) ∷ []) ∷ (None ∷ []) ∷ (Some (0 ∷ []) ∷ []) ∷ (None ∷ []) ∷ (None ∷ []) ∷ (None ∷ []) ∷ (None ∷ []) ∷ (None ∷ []) ∷ ([]) ∷ (None ∷ []) ∷ (Some (6 ∷ 0 ∷ 2 ∷ 0 ∷ 0 ∷ 0 ∷ 7 ∷ 0 ∷ 1 ∷ 7 ∷ 0 ∷ []) ∷ []) ∷ (None ∷ []) ∷ (None ∷ []) ∷ ([]) ∷ []
in_turn_sends = refl
