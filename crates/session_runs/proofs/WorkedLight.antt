-- What is asked of the values of small configurations: an edit of the definitions is refused here.
use Rattle.std.proofs.Common.{◌≡◌, ℕ, List, refl}
use Rattle.std.specs.Prelude.{true, false}
use Rattle.phrase_tree.specs.declared.measurement.Asp.{Asp}
use Rattle.phrase_tree.specs.Term.{cpy, sig, usm, leaf, at, chain, par}
use Rattle.evidence_types.specs.Answer.{FitsAnswer}
use Rattle.evidence_types.specs.Evidence.{Evidence, empty, usm as measured, seq_pair, par_pair}
use Rattle.session_model.specs.Value.{Makings, leaf_value}
use Rattle.session_runs.specs.Configuration.{todo, asked, remote, left_arm, right_arm, both_arms, finished, start}
use Rattle.session_runs.specs.Light.{AllValues}

module _ (P : Evidence → Type 0) (from : Makings) (place other : List ℕ) (asp : Asp) (v w : Evidence) where
  sealed_next : AllValues P from place (todo (leaf sig) 4 v) ≡ (P v × P (leaf_value sig place 4 v from))
  sealed_next = refl

  measured_next : AllValues P from place (todo (leaf (usm asp)) 4 v) ≡ (P v × ((bytes : List ℕ) → FitsAnswer bytes → P (measured 4 bytes v)))
  measured_next = refl

  answered_next : AllValues P from place (asked (usm asp) 4 v) ≡ (P v × ((bytes : List ℕ) → FitsAnswer bytes → P (measured 4 bytes v)))
  answered_next = refl

  sent_before : AllValues P from place (todo (at other (leaf sig)) 4 v) ≡ (P v × Unit {0})
  sent_before = refl

  run_elsewhere : AllValues P from place (remote other 4 6 (start (leaf sig) 5 v) false) ≡ (P v × P (leaf_value sig other 5 v from))
  run_elsewhere = refl

  split_next : AllValues P from place (todo (par (record { left = true; right = false }) (leaf cpy) (leaf cpy)) 4 v) ≡ (P v × (P v × P empty))
  split_next = refl

  chained : AllValues P from place (start (chain (leaf cpy) (leaf sig)) 4 v) ≡ ((P v × P v) × Unit {0})
  chained = refl

  joined_in_sequence : AllValues P from place (right_arm v (finished w) 9) ≡ (P v × P w × P (seq_pair v w))
  joined_in_sequence = refl

  joined_in_parallel : AllValues P from place (both_arms 4 9 (finished v) (finished w) true) ≡ (P v × P w × P (par_pair v w))
  joined_in_parallel = refl

  before_the_join : AllValues P from place (left_arm (finished v) (leaf sig) 6 w 9) ≡ (P v × P w)
  before_the_join = refl
