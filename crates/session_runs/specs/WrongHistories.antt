-- Histories that aren't legal, each of what a wrong definition of moves would let through.
use Rattle.std.specs.Prelude.{◌≡◌, ℕ, true, List, [], ◌∷◌, Option, None, Some}
use Rattle.phrase_tree.specs.declared.measurement.Asp.{Asp}
use Rattle.phrase_tree.specs.declared.phrase.Split.{Split}
use Rattle.phrase_tree.specs.Term.{Term, cpy, usm, leaf, at, seq, par}
use Rattle.bench_trait.specs.declared.bench.BenchFault.TheVariants.{Broken}
use Rattle.session_model.specs.Session.{Session}
use Rattle.session_runs.specs.Standing.{root, of, run, ask, deliver, Entry, opened, played, answered, failed, Standing, next}
use Rattle.session_runs.specs.History.{standing_after}

abbrev pub plain : ℕ → Asp
plain letter = record { name = letter ∷ []; args = [] }

abbrev pub to_both : Split
to_both = record { left = true; right = true }

abbrev pub of_phrase : Term → Session
of_phrase phrase = record { root = 112 ∷ []; nonce = []; phrase = phrase }

-- how it stands after a last entry, where those ahead of it are possible
abbrev pub with_last : Session → Option Standing → Entry → Option (Option Standing)
with_last session None entry = None
with_last session (Some standing) entry = Some (next session [] standing entry)

-- the entries are possible, and this one can't come next
abbrev pub IsStoppedBy : Session → List Entry → Entry → Type 0
IsStoppedBy session entries entry = with_last session (standing_after session [] entries) entry ≡ Some None

-- the place that is asked
abbrev pub other_place : List ℕ
other_place = 113 ∷ []

-- two leaves in parallel: the branch is joined once the right arm has happened, its block still to end
abbrev pub two_leaves : Session
two_leaves = of_phrase (par to_both (leaf cpy) (leaf cpy))

abbrev pub before_the_join : List Entry
before_the_join =
    opened ∷ played 0 (run root) ∷ played 0 (run root) ∷ played 0 (run (of 0)) ∷ []

abbrev pub the_join : Entry
the_join = played 0 (run root)

-- a request: its reply comes with its delivery, ahead of the event at the other place
abbrev pub one_request : Session
one_request = of_phrase (at other_place (leaf cpy))

abbrev pub before_the_reply : List Entry
before_the_reply =
    opened ∷ played 0 (run root) ∷ played 0 (deliver other_place) ∷ []

abbrev pub the_reply : Entry
the_reply = played 0 (run root)

-- its reply comes once the event has happened, its block still to end
abbrev pub before_its_end : List Entry
before_its_end =
    opened ∷ played 0 (run root) ∷ played 0 (deliver other_place) ∷ played 0 (run (of 0)) ∷ []

-- its block ends a second time
abbrev pub behind_its_end : List Entry
behind_its_end =
    opened ∷ played 0 (run root) ∷ played 0 (deliver other_place) ∷ played 0 (run (of 0)) ∷ played 0 (run (of 0)) ∷ []

abbrev pub the_end_again : Entry
the_end_again = played 0 (run (of 0))

-- it is delivered a second time
abbrev pub the_delivery_again : Entry
the_delivery_again = played 0 (deliver other_place)

-- two measurements in sequence: the right arm is run in a block of its own, beside the left one
abbrev pub one_by_one : Session
one_by_one = of_phrase (seq to_both (leaf (usm (plain 97))) (leaf (usm (plain 98))))

abbrev pub the_left_arm_asks : List Entry
the_left_arm_asks =
    opened ∷ played 0 (run root) ∷ played 0 (ask root) ∷ []

abbrev pub the_right_arm_asks : Entry
the_right_arm_asks = played 0 (ask (of 0))

-- the right one fails ahead of the left one
abbrev pub the_right_arm_fails : Entry
the_right_arm_fails = failed 0 2 (Broken 1)

-- one measurement: its answer comes by a pass that didn't ask
abbrev pub one_measurement : Session
one_measurement = of_phrase (leaf (usm (plain 97)))

abbrev pub one_pass_asks : List Entry
one_pass_asks =
    opened ∷ played 0 (ask root) ∷ []

abbrev pub another_answers : Entry
another_answers = answered 1 0 (5 ∷ [])

-- it is asked for while its ask is in flight
abbrev pub the_ask_again : Entry
the_ask_again = played 0 (ask root)

-- it is answered twice
abbrev pub one_pass_answers : List Entry
one_pass_answers =
    opened ∷ played 0 (ask root) ∷ answered 0 0 (5 ∷ []) ∷ []

abbrev pub an_answer_again : Entry
an_answer_again = answered 0 0 (6 ∷ [])

-- the session is done, and its root block ends a second time
abbrev pub all_done : List Entry
all_done =
    opened ∷ played 0 (ask root) ∷ answered 0 0 (5 ∷ []) ∷ played 0 (run root) ∷ []

abbrev pub done_again : Entry
done_again = played 0 (run root)

-- two measurements in parallel: one fails, and the other is still asked for
abbrev pub two_measurements : Session
two_measurements = of_phrase (par to_both (leaf (usm (plain 97))) (leaf (usm (plain 98))))

abbrev pub one_fails : List Entry
one_fails =
    opened ∷ played 0 (run root) ∷ played 0 (ask root) ∷ failed 0 1 (Broken 1) ∷ []

abbrev pub the_other_asks : Entry
the_other_asks = played 0 (ask (of 0))
