-- A table of the results that stand in a history.
use Rattle.std.proofs.Common.{◌≡◌, ℕ, ◌+◌, ◌≤◌, List, [], ◌∷◌, refl, sym, ◌∙◌, ap, arith}
use Rattle.std.specs.Prelude.{Bool, true, false, Result, Ok, Err, nat_eq, if◌then◌else◌}
use Rattle.std.proofs.lemmas.Bool.{eqb-true, eq-eqb}
use Rattle.bench_trait.specs.declared.bench.MeasureError.{MeasureError}
use Rattle.bench_trait.specs.declared.bench.MeasureError.TheVariants.{Fault, NoMemory}
use Rattle.session_runs.specs.Standing.{Entry, opened, played, answered, failed, starved}
use Rattle.session_runs.specs.Results.{results_of}
use Rattle.session_runs.specs.Played.{AreWalked}
use Rattle.wire_walk.specs.UnderWay.{AreByZero}

abbrev pub table_of : List Entry → ℕ → Result (List ℕ) MeasureError
table_of [] n = Err NoMemory
table_of (opened ∷ entries) n = table_of entries n
table_of (played pass move ∷ entries) n = table_of entries n
table_of (answered pass event bytes ∷ entries) n = if nat_eq event n then Ok bytes else table_of entries n
table_of (failed pass event fault ∷ entries) n = if nat_eq event n then Err (Fault fault) else table_of entries n
table_of (starved pass event ∷ entries) n = if nat_eq event n then Err NoMemory else table_of entries n

-- a table with another result of one event
abbrev with_one : ℕ → Result (List ℕ) MeasureError → (ℕ → Result (List ℕ) MeasureError) → ℕ → Result (List ℕ) MeasureError
with_one event r table n = if nat_eq event n then r else table n

no_sum : (b : Bool) (n : ℕ) → (if b then 1 else 0) + n ≡ 0 → (b ≡ false) × (n ≡ 0)
no_sum true n e = absurd (omega (arith, e))
no_sum false n e = (refl, omega (arith, e))

other : (event n : ℕ) → nat_eq n event ≡ false → nat_eq event n ≡ false
other event n e = by_case (nat_eq event n) refl
  where
    by_case : (b : Bool) → nat_eq event n ≡ b → nat_eq event n ≡ false
    by_case false is = is
    by_case true is = absurd (clash (sym (eq-eqb n event (sym (eqb-true event n is))) ∙ e))
      where
        clash : true ≡ false → ⊥
        clash f = cc

kept : (event : ℕ) (r : Result (List ℕ) MeasureError) (table : ℕ → Result (List ℕ) MeasureError) (entries : List Entry) → results_of event entries ≡ 0 → AreWalked table entries → AreWalked (with_one event r table) entries
kept event r table [] none w = tt
kept event r table (opened ∷ entries) none w = (w.0, kept event r table entries none w.1)
kept event r table (played pass move ∷ entries) none w = (w.0, kept event r table entries none w.1)
kept event r table (answered pass n bytes ∷ entries) none w =
    let s = no_sum (nat_eq n event) (results_of event entries) none in
    ((w.0.0, ap (λ b. if b then r else table n) (other event n s.0) ∙ w.0.1), kept event r table entries s.1 w.1)
kept event r table (failed pass n fault ∷ entries) none w =
    let s = no_sum (nat_eq n event) (results_of event entries) none in
    ((w.0.0, ap (λ b. if b then r else table n) (other event n s.0) ∙ w.0.1), kept event r table entries s.1 w.1)
kept event r table (starved pass n ∷ entries) none w =
    let s = no_sum (nat_eq n event) (results_of event entries) none in
    ((w.0.0, ap (λ b. if b then r else table n) (other event n s.0) ∙ w.0.1), kept event r table entries s.1 w.1)

itself : (n : ℕ) → nat_eq n n ≡ true
itself n = eq-eqb n n refl

none_behind : (n : ℕ) (entries : List Entry) → (if nat_eq n n then 1 else 0) + results_of n entries ≤ 1 → results_of n entries ≡ 0
none_behind n entries e = omega (arith, e, ap {B = ℕ} (λ b. if b then 1 else 0) (itself n))

at_most : (b : Bool) (n : ℕ) → (if b then 1 else 0) + n ≤ 1 → n ≤ 1
at_most true n e = omega (arith, e)
at_most false n e = omega (arith, e)

-- the table of a history with one result of each event has those of the history
pub table_walks : (entries : List Entry) → AreByZero entries → ((event : ℕ) → results_of event entries ≤ 1) → AreWalked (table_of entries) entries
table_walks [] z few = tt
table_walks (opened ∷ entries) z few = (tt, table_walks entries z.1 few)
table_walks (played pass move ∷ entries) z few = (z.0, table_walks entries z.1 few)
table_walks (answered pass n bytes ∷ entries) z few = (
  (z.0, ap (λ b. if b then Ok bytes else table_of entries n) (itself n)),
  kept n (Ok bytes) (table_of entries) entries (none_behind n entries (few n)) (table_walks entries z.1 (λ event. at_most (nat_eq n event) (results_of event entries) (few event))),
)
table_walks (failed pass n fault ∷ entries) z few = (
  (z.0, ap (λ b. if b then Err (Fault fault) else table_of entries n) (itself n)),
  kept n (Err (Fault fault)) (table_of entries) entries (none_behind n entries (few n)) (table_walks entries z.1 (λ event. at_most (nat_eq n event) (results_of event entries) (few event))),
)
table_walks (starved pass n ∷ entries) z few = (
  (z.0, ap (λ b. if b then Err NoMemory else table_of entries n) (itself n)),
  kept n (Err NoMemory) (table_of entries) entries (none_behind n entries (few n)) (table_walks entries z.1 (λ event. at_most (nat_eq n event) (results_of event entries) (few event))),
)
