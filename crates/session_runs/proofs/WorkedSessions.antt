-- Sessions worked by hand and by another program, entry by entry: an edit of the definitions is refused here.
use Rattle.std.proofs.Common.{◌≡◌, ℕ, zero, suc, List, [], ◌∷◌, ◌++◌, refl}
use Rattle.std.specs.Prelude.{codes, true, false, Option, None, Some}
use Rattle.phrase_tree.specs.declared.measurement.Asp.{Asp}
use Rattle.phrase_tree.specs.declared.phrase.Split.{Split}
use Rattle.phrase_tree.specs.Term.{Term, cpy, sig, hsh, usm, kim, leaf, at, chain, seq, par}
use Rattle.bench_trait.specs.declared.bench.BenchFault.TheVariants.{NoArtefact, Broken}
use Rattle.evidence_types.specs.Bytes.{encoding}
use Rattle.evidence_types.specs.Evidence.{nonce, kim as measured_at, seal, hash, par_pair}
use Rattle.seal_hmac.specs.Keys.{key_at}
use Rattle.seal_hmac.specs.Seal.{seal_of, hash_of}
use Rattle.session_model.specs.Session.{Session}
use Rattle.session_model.specs.Record.{Record, done, failed as failed_record}
use Rattle.session_runs.specs.Standing.{Block, root, of, Move, run, ask, deliver, Entry, opened, played, answered, failed, starved, State, is_open, is_done, has_failed, has_starved, Standing, opening, next}
use Rattle.session_runs.specs.History.{standing_after, record_of}
use Rattle.session_runs.specs.MoveOrder.{possible_moves, asks_in_order}
use Rattle.session_runs.specs.Owner.{owner}

abbrev bank : List ℕ
bank = codes "bank"

abbrev q : List ℕ
q = codes "q"

abbrev plain : List ℕ → Asp
plain name = record { name = name; args = [] }

abbrev to_both : Split
to_both = record { left = true; right = true }

abbrev to_left : Split
to_left = record { left = true; right = false }

abbrev to_right : Split
to_right = record { left = false; right = true }

abbrev first_nonce : List ℕ
first_nonce = 0 ∷ 1 ∷ 2 ∷ 3 ∷ 4 ∷ 5 ∷ 6 ∷ 7 ∷ 8 ∷ 9 ∷ 10 ∷ 11 ∷ 12 ∷ 13 ∷ 14 ∷ 15 ∷ []

abbrev session_of : Term → Session
session_of phrase = record { root = bank; nonce = first_nonce; phrase = phrase }

-- every way to play a session to its end, where each event is answered by its number times 17
abbrev answer_of : ℕ → List ℕ
answer_of zero = []
answer_of (suc zero) = 17 ∷ []
answer_of (suc (suc n)) = 34 ∷ []

abbrev entries_from : List (ℕ × ℕ) → List Move → List Entry
entries_from [] [] = []
entries_from [] (move ∷ moves) = played 0 move ∷ entries_from [] moves
entries_from (pair ∷ asks) moves = answered 0 pair.0 (answer_of pair.0) ∷ entries_from asks moves

-- two measurements in parallel
abbrev in_parallel : Session
in_parallel = session_of (par to_left (leaf (usm (plain (codes "a")))) (leaf (usm (plain (codes "b")))))

abbrev traces_where : (Standing → List (List ℕ)) → Option Standing → List (List ℕ)
traces_where traces None = []
traces_where traces (Some standing) = traces standing

abbrev traces_along : (Standing → List (List ℕ)) → Session → Standing → List Entry → List (List ℕ)
traces_along traces session standing [] = []
traces_along traces session standing (entry ∷ entries) =
    traces_where traces (next session [] standing entry) ++ traces_along traces session standing entries

-- the traces of all ways to play on, at most this many entries long
abbrev all_traces : ℕ → Session → Standing → List (List ℕ)
all_traces zero session standing = []
all_traces (suc more) session standing =
    elim standing.state [
      | is_open ↦ traces_along (λ after. all_traces more session after) session standing (entries_from (asks_in_order standing.in_flight) (possible_moves (bank ∷ q ∷ []) standing))
      | is_done value ↦ standing.trace ∷ []
      | has_failed event fault ↦ []
      | has_starved event ↦ []
    ]

every_order : all_traces 12 in_parallel (opening in_parallel) ≡ (0 ∷ 1 ∷ 2 ∷ 3 ∷ []) ∷ (0 ∷ 1 ∷ 2 ∷ 3 ∷ []) ∷ (0 ∷ 2 ∷ 1 ∷ 3 ∷ []) ∷ (0 ∷ 2 ∷ 1 ∷ 3 ∷ []) ∷ (0 ∷ 2 ∷ 1 ∷ 3 ∷ []) ∷ (0 ∷ 2 ∷ 1 ∷ 3 ∷ []) ∷ (0 ∷ 2 ∷ 1 ∷ 3 ∷ []) ∷ (0 ∷ 1 ∷ 2 ∷ 3 ∷ []) ∷ (0 ∷ 2 ∷ 1 ∷ 3 ∷ []) ∷ (0 ∷ 2 ∷ 1 ∷ 3 ∷ []) ∷ []
every_order = refl

-- two measurements in sequence
abbrev in_sequence : Session
in_sequence = session_of (seq to_right (leaf (usm (plain (codes "a")))) (leaf (usm (plain (codes "b")))))

one_order : all_traces 12 in_sequence (opening in_sequence) ≡ (0 ∷ 1 ∷ 2 ∷ 3 ∷ []) ∷ []
one_order = refl

-- requests there and back: two blocks are alive at one place
abbrev there_and_back : Session
there_and_back = session_of (at q (at bank (at q (leaf cpy))))

one_way : all_traces 16 there_and_back (opening there_and_back) ≡ (0 ∷ 1 ∷ 2 ∷ 3 ∷ 4 ∷ 5 ∷ 6 ∷ []) ∷ []
one_way = refl

-- the record after a history
abbrev record_after : Session → Option Standing → Option Record
record_after session None = None
record_after session (Some standing) = record_of session standing standing.state

done_in_parallel : record_after in_parallel (standing_after in_parallel [] (opened ∷ played 0 (run root) ∷ played 0 (ask (of 0)) ∷ answered 0 2 (34 ∷ []) ∷ played 0 (run (of 0)) ∷ played 3 (ask root) ∷ answered 3 1 (17 ∷ []) ∷ played 1 (run root) ∷ played 0 (run root) ∷ [])) ≡ Some (done (0 ∷ 2 ∷ 1 ∷ 3 ∷ []) ((1, 17 ∷ []) ∷ (2, 34 ∷ []) ∷ []) (67 ∷ 80 ∷ 76 ∷ 66 ∷ 1 ∷ 0 ∷ 0 ∷ 0 ∷ 35 ∷ 7 ∷ 2 ∷ 0 ∷ 0 ∷ 0 ∷ 1 ∷ 0 ∷ 1 ∷ 17 ∷ 1 ∷ 0 ∷ 1 ∷ 2 ∷ 3 ∷ 4 ∷ 5 ∷ 6 ∷ 7 ∷ 8 ∷ 9 ∷ 10 ∷ 11 ∷ 12 ∷ 13 ∷ 14 ∷ 15 ∷ 2 ∷ 0 ∷ 0 ∷ 0 ∷ 2 ∷ 0 ∷ 1 ∷ 34 ∷ 0 ∷ []))
done_in_parallel = refl

done_in_sequence : record_after in_sequence (standing_after in_sequence [] (opened ∷ played 0 (run root) ∷ played 0 (ask root) ∷ answered 0 1 (17 ∷ []) ∷ played 0 (run root) ∷ played 0 (ask root) ∷ answered 0 2 (34 ∷ []) ∷ played 0 (run root) ∷ played 0 (run root) ∷ [])) ≡ Some (done (0 ∷ 1 ∷ 2 ∷ 3 ∷ []) ((1, 17 ∷ []) ∷ (2, 34 ∷ []) ∷ []) (67 ∷ 80 ∷ 76 ∷ 66 ∷ 1 ∷ 0 ∷ 0 ∷ 0 ∷ 35 ∷ 6 ∷ 2 ∷ 0 ∷ 0 ∷ 0 ∷ 1 ∷ 0 ∷ 1 ∷ 17 ∷ 0 ∷ 2 ∷ 0 ∷ 0 ∷ 0 ∷ 2 ∷ 0 ∷ 1 ∷ 34 ∷ 1 ∷ 0 ∷ 1 ∷ 2 ∷ 3 ∷ 4 ∷ 5 ∷ 6 ∷ 7 ∷ 8 ∷ 9 ∷ 10 ∷ 11 ∷ 12 ∷ 13 ∷ 14 ∷ 15 ∷ []))
done_in_sequence = refl

done_there_and_back : record_after there_and_back (standing_after there_and_back [] (opened ∷ played 0 (run root) ∷ played 0 (deliver q) ∷ played 0 (run (of 0)) ∷ played 0 (deliver bank) ∷ played 0 (run (of 1)) ∷ played 0 (deliver q) ∷ played 0 (run (of 2)) ∷ played 0 (run (of 2)) ∷ played 0 (run (of 1)) ∷ played 0 (run (of 1)) ∷ played 0 (run (of 0)) ∷ played 0 (run (of 0)) ∷ played 0 (run root) ∷ played 0 (run root) ∷ [])) ≡ Some (done (0 ∷ 1 ∷ 2 ∷ 3 ∷ 4 ∷ 5 ∷ 6 ∷ []) [] (67 ∷ 80 ∷ 76 ∷ 66 ∷ 1 ∷ 0 ∷ 0 ∷ 0 ∷ 17 ∷ 1 ∷ 0 ∷ 1 ∷ 2 ∷ 3 ∷ 4 ∷ 5 ∷ 6 ∷ 7 ∷ 8 ∷ 9 ∷ 10 ∷ 11 ∷ 12 ∷ 13 ∷ 14 ∷ 15 ∷ []))
done_there_and_back = refl

-- the second measurement of a branch fails, once behind the first and once ahead of it
failed_behind : record_after in_parallel (standing_after in_parallel [] (opened ∷ played 0 (run root) ∷ played 0 (ask root) ∷ answered 0 1 (17 ∷ []) ∷ played 0 (ask (of 0)) ∷ failed 0 2 NoArtefact ∷ [])) ≡ Some (failed_record 2 NoArtefact (0 ∷ 1 ∷ []))
failed_behind = refl

failed_ahead : record_after in_parallel (standing_after in_parallel [] (opened ∷ played 0 (run root) ∷ played 0 (ask root) ∷ played 0 (ask (of 0)) ∷ failed 0 2 NoArtefact ∷ [])) ≡ Some (failed_record 2 NoArtefact (0 ∷ []))
failed_ahead = refl

-- (USM a +~+ USM b) +~- USM scan
abbrev three : Session
three = session_of (par to_left (par to_both (leaf (usm (plain (codes "a")))) (leaf (usm (plain (codes "b"))))) (leaf (usm (plain (codes "scan")))))

-- all three are asked for, and the last fails
abbrev all_asked : List Entry
all_asked =
    opened ∷ played 0 (run root) ∷ played 0 (run root) ∷ played 0 (ask root) ∷ played 0 (ask (of 1)) ∷ played 0 (ask (of 0)) ∷ []

fails_at_the_last : record_after three (standing_after three [] (all_asked ++ failed 0 5 (Broken 1) ∷ [])) ≡ Some (failed_record 5 (Broken 1) (0 ∷ 1 ∷ []))
fails_at_the_last = refl

-- what comes then has no place in the history
nothing_after : standing_after three [] (all_asked ++ failed 0 5 (Broken 1) ∷ answered 0 2 (34 ∷ []) ∷ []) ≡ None
nothing_after = refl

fails_at_the_first : record_after three (standing_after three [] (opened ∷ played 0 (run root) ∷ played 0 (run root) ∷ played 0 (ask root) ∷ failed 0 2 NoArtefact ∷ [])) ≡ Some (failed_record 2 NoArtefact (0 ∷ 1 ∷ []))
fails_at_the_first = refl

fails_at_the_second : record_after three (standing_after three [] (opened ∷ played 0 (run root) ∷ played 0 (run root) ∷ played 0 (ask root) ∷ answered 0 2 (34 ∷ []) ∷ played 0 (ask (of 1)) ∷ failed 0 3 NoArtefact ∷ [])) ≡ Some (failed_record 3 NoArtefact (0 ∷ 1 ∷ 2 ∷ []))
fails_at_the_second = refl

starves_at_the_first : record_after three (standing_after three [] (opened ∷ played 0 (run root) ∷ played 0 (run root) ∷ played 0 (ask root) ∷ starved 0 2 ∷ [])) ≡ None
starves_at_the_first = refl

-- the blocks of its events
abbrev owners : List ℕ → List (Option Block)
owners [] = []
owners (n ∷ rest) = owner three.phrase root 0 n ∷ owners rest

owners_of_three : owners (0 ∷ 1 ∷ 2 ∷ 3 ∷ 4 ∷ 5 ∷ 6 ∷ 7 ∷ []) ≡ Some root ∷ Some root ∷ Some root ∷ Some (of 1) ∷ Some root ∷ Some (of 0) ∷ Some root ∷ None ∷ []
owners_of_three = refl

-- what a request runs is sealed at the place that is asked, with that place's key
measured_and_sealed : Session
measured_and_sealed = session_of (at q (chain (leaf (kim bank (plain (codes "a")))) (leaf sig)))

abbrev two_keys : List (List ℕ × List ℕ)
two_keys = (bank, 1 ∷ []) ∷ (q, 2 ∷ []) ∷ []

abbrev state_after : Option Standing → Option State
state_after None = None
state_after (Some standing) = Some standing.state

sealed_there : state_after (standing_after measured_and_sealed two_keys (opened ∷ played 0 (run root) ∷ played 0 (deliver q) ∷ played 0 (ask (of 0)) ∷ answered 0 1 (17 ∷ []) ∷ played 0 (run (of 0)) ∷ played 0 (run (of 0)) ∷ played 0 (run root) ∷ played 0 (run root) ∷ [])) ≡ Some (is_done (seal 2 (seal_of (key_at two_keys q) q first_nonce 2 (encoding (measured_at 1 (17 ∷ []) (nonce first_nonce)))) (measured_at 1 (17 ∷ []) (nonce first_nonce))))
unfolding measured_and_sealed
sealed_there = refl

-- so is what its right arm seals in a block of its own
sealed_beside : state_after (standing_after (session_of (at q (par to_both (leaf cpy) (leaf sig)))) two_keys (opened ∷ played 0 (run root) ∷ played 0 (deliver q) ∷ played 0 (run (of 0)) ∷ played 0 (run (of 1)) ∷ played 0 (run (of 1)) ∷ played 0 (run (of 0)) ∷ played 0 (run (of 0)) ∷ played 0 (run (of 0)) ∷ played 0 (run root) ∷ played 0 (run root) ∷ [])) ≡ Some (is_done (par_pair (nonce first_nonce) (seal 3 (seal_of (key_at two_keys q) q first_nonce 3 (encoding (nonce first_nonce))) (nonce first_nonce))))
sealed_beside = refl

hashed : state_after (standing_after (session_of (leaf hsh)) [] (opened ∷ played 0 (run root) ∷ played 0 (run root) ∷ [])) ≡ Some (is_done (hash 0 (hash_of (encoding (nonce first_nonce)))))
hashed = refl
