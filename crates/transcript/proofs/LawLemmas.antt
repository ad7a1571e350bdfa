-- The laws of the format.
use Rattle.std.proofs.Common.{◌≡◌, ℕ, Bool, true, false, cond, List, [], ◌∷◌, Option, Some, None, refl, sym, ap, subst, ◌∙◌}
use Rattle.std.specs.List.{AllByRecursion}
use Rattle.session_model.specs.Session.{Session}
use Rattle.session_model.specs.Value.{Makings}
use Rattle.evidence_types.specs.Evidence.{Evidence}
use Rattle.session_runs.specs.Configuration.{Configuration, todo, asked, posted, remote, first, left_arm, right_arm, both_arms, finished, once_finished}
use Rattle.session_runs.specs.Moves.{Effect, silent, happens, sends, asks, answers, starts, Moved, own_moves, inner_moves, run as run_step, ask as ask_step, in_block, delivery, answer}
use Rattle.session_runs.specs.Standing.{root, of, Move, run, ask, deliver, Entry, opened, played, answered, failed, starved, State, is_open, is_done, has_failed, has_starved, Standing, opening, makings, front, is_in_flight, without_ask, after, made, delivered, played_on, entered, where_open, next}
use Rattle.session_runs.specs.History.{further, standing_after}
use Rattle.transcript.specs.Starved.{IsWritten, HasStarved}
use Rattle.transcript.specs.Bytes.{CanBeWritten, CanAllBeWritten, transcript, IsTranscriptOf}
use Rattle.transcript.proofs.FieldLemmas.{ok_is}
use Rattle.transcript.proofs.EntryLemmas.{transcript_again}

-- ---- one spelling

of_tail : (history entries more : List Entry) → history ≡ opened ∷ entries → history ≡ opened ∷ more → entries ≡ more
of_tail history entries more e f = tail_is entries more (sym e ∙ f)
  where
    tail_is : (x y : List Entry) → opened ∷ x ≡ opened ∷ y → x ≡ y
    tail_is x y e = cc

pub one_text : (one other : List ℕ) (history : List Entry) → IsTranscriptOf one history → IsTranscriptOf other history → one ≡ other
one_text one other history a b =
    a.spelled ∙ ap transcript (of_tail history a.entries b.entries a.opens b.opens) ∙ sym b.spelled

pub one_history : (bytes : List ℕ) (one other : List Entry) → IsTranscriptOf bytes one → IsTranscriptOf bytes other → one ≡ other
one_history bytes one other a b =
    let first = transcript_again bytes a.entries (subst (λ (h : List Entry). IsTranscriptOf bytes h) a.opens a) in
    let second = transcript_again bytes b.entries (subst (λ (h : List Entry). IsTranscriptOf bytes h) b.opens b) in
    a.opens ∙ ap (λ (x : List Entry). opened ∷ x) (ok_is a.entries b.entries (sym first ∙ second)) ∙ sym b.opens

-- ---- a session whose entries can all be written hasn't starved

abbrev pub HasNotStarved : State → Type 0
HasNotStarved is_open = Unit {0}
HasNotStarved (is_done value) = Unit {0}
HasNotStarved (has_failed event fault) = Unit {0}
HasNotStarved (has_starved event) = ⊥

some_is : (a b : Standing) → Some a ≡ Some b → a ≡ b
some_is a b e = cc

after_stays : (pass : ℕ) (standing : Standing) (effect : Effect) (then_so : Configuration) → (after pass standing effect then_so).state ≡ standing.state
after_stays pass standing silent then_so = refl
after_stays pass standing (happens n) then_so = refl
after_stays pass standing (sends place n) then_so = refl
after_stays pass standing (asks n) then_so = refl
after_stays pass standing (answers n bytes) then_so = refl
after_stays pass standing (starts n) then_so = refl

made_stays : (pass : ℕ) (standing then_stands : Standing) (move : Moved) → made pass standing move ≡ Some then_stands → HasNotStarved standing.state → HasNotStarved then_stands.state
made_stays pass standing then_stands None e h = absurd cc
made_stays pass standing then_stands (Some move) e h =
    subst HasNotStarved (sym (after_stays pass standing move.0 move.1) ∙ ap (λ (s : Standing). s.state) (some_is (after pass standing move.0 move.1) then_stands e)) h

by_end : (configuration : Configuration) (until : Option Standing) (over : Evidence → Option Standing) (then_stands : Standing) → once_finished configuration until over ≡ Some then_stands → (until ≡ Some then_stands → HasNotStarved then_stands.state) → ((value : Evidence) → over value ≡ Some then_stands → HasNotStarved then_stands.state) → HasNotStarved then_stands.state
by_end (finished value) until over then_stands e u o = o value e
by_end (todo phrase i v) until over then_stands e u o = u e
by_end (asked l i v) until over then_stands e u o = u e
by_end (posted place i phrase v) until over then_stands e u o = u e
by_end (remote place i last inner over_now) until over then_stands e u o = u e
by_end (first inner right i) until over then_stands e u o = u e
by_end (left_arm inner right i v last) until over then_stands e u o = u e
by_end (right_arm v inner last) until over then_stands e u o = u e
by_end (both_arms i last left right over_now) until over then_stands e u o = u e

done_so : (standing then_stands : Standing) (value : Evidence) → Some (record standing { state = is_done value }) ≡ Some then_stands → HasNotStarved then_stands.state
done_so standing then_stands value e = subst HasNotStarved (ap (λ (s : Standing). s.state) (some_is (record standing { state = is_done value }) then_stands e)) tt

delivered_stays : (from : Makings) (place : List ℕ) (pass : ℕ) (standing then_stands : Standing) (waiting : Option ℕ) → delivered from place pass standing waiting ≡ Some then_stands → HasNotStarved standing.state → HasNotStarved then_stands.state
delivered_stays from place pass standing then_stands None e h = absurd cc
delivered_stays from place pass standing then_stands (Some n) e h = made_stays pass standing then_stands (inner_moves from place standing.configuration (delivery n)) e h

played_stays : (from : Makings) (place : List ℕ) (pass : ℕ) (standing then_stands : Standing) (move : Move) → played_on from place pass standing move ≡ Some then_stands → HasNotStarved standing.state → HasNotStarved then_stands.state
played_stays from place pass standing then_stands (run root) e h =
    by_end standing.configuration (made pass standing (own_moves from place standing.configuration run_step)) (λ value. Some (record standing { state = is_done value })) then_stands e
    (λ m. made_stays pass standing then_stands (own_moves from place standing.configuration run_step) m h)
    (λ value d. done_so standing then_stands value d)
played_stays from place pass standing then_stands (ask root) e h = made_stays pass standing then_stands (own_moves from place standing.configuration ask_step) e h
played_stays from place pass standing then_stands (run (of n)) e h = made_stays pass standing then_stands (inner_moves from place standing.configuration (in_block n run_step)) e h
played_stays from place pass standing then_stands (ask (of n)) e h = made_stays pass standing then_stands (inner_moves from place standing.configuration (in_block n ask_step)) e h
played_stays from place pass standing then_stands (deliver asked_place) e h = delivered_stays from place pass standing then_stands (front standing.requests asked_place) e h

if_some : (test : Bool) (found : Option Standing) (then_stands : Standing) → cond test found None ≡ Some then_stands → found ≡ Some then_stands
if_some true found then_stands e = e
if_some false found then_stands e = absurd cc

entered_stays : (from : Makings) (place : List ℕ) (standing then_stands : Standing) (entry : Entry) → entered from place standing entry ≡ Some then_stands → CanBeWritten entry → HasNotStarved standing.state → HasNotStarved then_stands.state
entered_stays from place standing then_stands opened e can h = absurd can
entered_stays from place standing then_stands (played pass move) e can h = played_stays from place pass standing then_stands move e h
entered_stays from place standing then_stands (answered pass event bytes) e can h =
    made_stays pass standing then_stands (inner_moves from place standing.configuration (answer event bytes)) (if_some (is_in_flight standing.in_flight pass event) _ then_stands e) h
entered_stays from place standing then_stands (failed pass event fault) e can h =
    subst HasNotStarved (ap (λ (s : Standing). s.state) (some_is (record standing { in_flight = without_ask event standing.in_flight; state = has_failed event fault }) then_stands (if_some (is_in_flight standing.in_flight pass event) _ then_stands e))) tt
entered_stays from place standing then_stands (starved pass event) e can h = absurd can

opened_so : (state : State) (found : Option Standing) (then_stands : Standing) → where_open state found ≡ Some then_stands → (state ≡ is_open) × (found ≡ Some then_stands)
opened_so is_open found then_stands e = (refl, e)
opened_so (is_done value) found then_stands e = absurd cc
opened_so (has_failed event fault) found then_stands e = absurd cc
opened_so (has_starved event) found then_stands e = absurd cc

next_stays : (session : Session) (keys : List (List ℕ × List ℕ)) (standing then_stands : Standing) (entry : Entry) → next session keys standing entry ≡ Some then_stands → CanBeWritten entry → HasNotStarved then_stands.state
next_stays session keys standing then_stands entry e can =
    let o = opened_so standing.state (entered (makings session keys) session.root standing entry) then_stands e in
    entered_stays (makings session keys) session.root standing then_stands entry o.1 can (subst HasNotStarved (sym o.0) tt)

further_none : (session : Session) (keys : List (List ℕ × List ℕ)) (entries : List Entry) (last : Standing) → further session keys None entries ≡ Some last → ⊥
further_none session keys entries last e = absurd cc

further_stays : (session : Session) (keys : List (List ℕ × List ℕ)) (entries : List Entry) (standing last : Standing) → further session keys (Some standing) entries ≡ Some last → CanAllBeWritten entries → HasNotStarved standing.state → HasNotStarved last.state
further_stays session keys [] standing last e can h = subst HasNotStarved (ap (λ (s : Standing). s.state) (some_is standing last e)) h
further_stays session keys (entry ∷ entries) standing last e can h =
    by_next (next session keys standing entry) refl e (λ then_stands f n. further_stays session keys entries then_stands last f can.1 n)
  where
    by_next : (found : Option Standing) → next session keys standing entry ≡ found → further session keys found entries ≡ Some last → ((then_stands : Standing) → further session keys (Some then_stands) entries ≡ Some last → HasNotStarved then_stands.state → HasNotStarved last.state) → HasNotStarved last.state
    by_next None is f again = absurd (further_none session keys entries last f)
    by_next (Some then_stands) is f again = again then_stands f (next_stays session keys standing then_stands entry is can.0)

pub none_of_starved : (session : Session) (keys : List (List ℕ × List ℕ)) (bytes : List ℕ) (history : List Entry) (standing : Standing) (event : ℕ) → standing_after session keys history ≡ Some standing → standing.state ≡ has_starved event → IsTranscriptOf bytes history → ⊥
none_of_starved session keys bytes history standing event stands is text =
    subst HasNotStarved is
    (further_stays session keys text.entries (opening session) standing (ap (λ (h : List Entry). standing_after session keys h) (sym text.opens) ∙ stands) text.written tt)

-- ---- a session that hasn't starved has no entry that isn't written

starved_stays : (session : Session) (keys : List (List ℕ × List ℕ)) (entries : List Entry) (standing last : Standing) (event : ℕ) → standing.state ≡ has_starved event → further session keys (Some standing) entries ≡ Some last → HasStarved last.state
starved_stays session keys [] standing last event is e = subst HasStarved (sym is ∙ ap (λ (s : Standing). s.state) (some_is standing last e)) tt
starved_stays session keys (entry ∷ entries) standing last event is e =
    let none : next session keys standing entry ≡ None = ap (λ (state : State). where_open state (entered (makings session keys) session.root standing entry)) is in
    absurd (further_none session keys entries last (ap (λ (found : Option Standing). further session keys found entries) (sym none) ∙ e))

starved_then : (standing then_stands : Standing) (event : ℕ) → Some (record standing { in_flight = without_ask event standing.in_flight; state = has_starved event }) ≡ Some then_stands → then_stands.state ≡ has_starved event
starved_then standing then_stands event e = ap (λ (s : Standing). s.state) (sym (some_is (record standing { in_flight = without_ask event standing.in_flight; state = has_starved event }) then_stands e))

one_written : (session : Session) (keys : List (List ℕ × List ℕ)) (entries : List Entry) (entry : Entry) (standing then_stands last : Standing) → next session keys standing entry ≡ Some then_stands → further session keys (Some then_stands) entries ≡ Some last → (HasStarved last.state → ⊥) → IsWritten entry
one_written session keys entries opened standing then_stands last e f n =
    let o = opened_so standing.state None then_stands e in no_standing then_stands o.1
  where
    no_standing : (s : Standing) → ◌≡◌ {A = Option Standing} None (Some s) → ⊥
    no_standing s e = absurd cc
one_written session keys entries (played pass move) standing then_stands last e f n = tt
one_written session keys entries (answered pass event bytes) standing then_stands last e f n = tt
one_written session keys entries (failed pass event fault) standing then_stands last e f n = tt
one_written session keys entries (starved pass event) standing then_stands last e f n =
    let o = opened_so standing.state (entered (makings session keys) session.root standing (starved pass event)) then_stands e in
    let is = starved_then standing then_stands event (if_some (is_in_flight standing.in_flight pass event) _ then_stands o.1) in
    n (starved_stays session keys entries then_stands last event is f)

all_written : (session : Session) (keys : List (List ℕ × List ℕ)) (entries : List Entry) (standing last : Standing) → further session keys (Some standing) entries ≡ Some last → (HasStarved last.state → ⊥) → AllByRecursion IsWritten entries
all_written session keys [] standing last e n = tt
all_written session keys (entry ∷ entries) standing last e n =
    by_next (next session keys standing entry) refl e (λ then_stands f. all_written session keys entries then_stands last f n)
  where
    by_next : (found : Option Standing) → next session keys standing entry ≡ found → further session keys found entries ≡ Some last → ((then_stands : Standing) → further session keys (Some then_stands) entries ≡ Some last → AllByRecursion IsWritten entries) → IsWritten entry × AllByRecursion IsWritten entries
    by_next None is f again = absurd (further_none session keys entries last f)
    by_next (Some then_stands) is f again = (one_written session keys entries entry standing then_stands last is f n, again then_stands f)

pub history_written : (session : Session) (keys : List (List ℕ × List ℕ)) (entries : List Entry) (standing : Standing) → standing_after session keys (opened ∷ entries) ≡ Some standing → (HasStarved standing.state → ⊥) → AllByRecursion IsWritten entries
history_written session keys entries standing stands n = all_written session keys entries (opening session) standing stands n
