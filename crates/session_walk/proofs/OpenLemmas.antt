-- Sessions that are open, by their numbers.
use Rattle.std.proofs.Common.{◌≡◌, ℕ, zero, suc, ◌+◌, ◌-◌, ◌≤◌, List, [], ◌∷◌, ◌++◌, length, set, refl, sym, ◌∙◌, ap, arith, add-zero, zero-add, sub-one}
use Rattle.std.specs.Prelude.{Bool, true, false, Option, Some, Result, slice_get, nat_eq, if◌then◌else◌}
use Rattle.std.specs.List.{remove}
use Rattle.std.proofs.lemmas.Bool.{ne_eqb}
use Rattle.std.proofs.lemmas.Option.{none-some, same_Some}
use Rattle.bench_trait.specs.declared.bench.MeasureError.{MeasureError}
use Rattle.session_runs.specs.Schedule.{Walked, all_opened, is_running, is_starving, open_count, one_starves, candidates, chosen, Round, ahead, moved_on}
use Rattle.session_model.specs.Session.{Session}
use Rattle.session_model.specs.Record.{numbers_below}
use Rattle.session_walk.specs.Drawn.{open_ones}

-- the numbers are at least that of the first
open_from : (number : ℕ) (all : List Walked) (k m : ℕ) → slice_get (open_ones number all) k ≡ Some m → number ≤ m
open_from number [] k m e = absurd (none-some m e)
open_from number (walked ∷ rest) k m e = by_state (is_running walked.standing.state) k e (λ j h. open_from (number + 1) rest j m h)
  where
    by_state : (b : Bool) (k : ℕ) → slice_get (if b then number ∷ open_ones (number + 1) rest else open_ones (number + 1) rest) k ≡ Some m → ((j : ℕ) → slice_get (open_ones (number + 1) rest) j ≡ Some m → number + 1 ≤ m) → number ≤ m
    by_state true zero e f = omega (arith, same_Some number m e)
    by_state true (suc k) e f = omega (arith, f k e)
    by_state false k e f = omega (arith, f k e)

abbrev pub some_number : ℕ → Option ℕ
some_number n = Some n

-- there are as many as are open
pub open_counted : (number : ℕ) (all : List Walked) → open_count all ≡ length (open_ones number all)
open_counted number [] = refl
open_counted number (walked ∷ rest) = by_state (is_running walked.standing.state) (open_counted (number + 1) rest)
  where
    by_state : (b : Bool) → open_count rest ≡ length (open_ones (number + 1) rest) → (if b then 1 + open_count rest else open_count rest) ≡ length (if b then number ∷ open_ones (number + 1) rest else open_ones (number + 1) rest)
    by_state true e = omega (arith, e)
    by_state false e = e

pub next_number : (n i : ℕ) → n + suc i ≡ n + 1 + i
next_number n i = omega arith

-- the session of such a number is there, and it runs
pub record RunsAt (all : List Walked) (i : ℕ) (walked : Walked) : Type 0 where
  pub there : slice_get all i ≡ Some walked
  pub runs : is_running walked.standing.state ≡ true

pub open_there : (number : ℕ) (all : List Walked) (k i : ℕ) → slice_get (open_ones number all) k ≡ Some (number + i) → (walked : Walked) × RunsAt all i walked
open_there number [] k i e = absurd (none-some (number + i) e)
open_there number (first ∷ rest) k i e = by_index i (is_running first.standing.state) refl k e (λ j n h. open_there (number + 1) rest j n h)
  where
    deeper : (n : ℕ) → (walked : Walked) × RunsAt rest n walked → (walked : Walked) × RunsAt (first ∷ rest) (suc n) walked
    deeper n w = (w.0, record { there = w.1.there; runs = w.1.runs })

    by_index : (i : ℕ) (b : Bool) → is_running first.standing.state ≡ b → (k : ℕ) → slice_get (if b then number ∷ open_ones (number + 1) rest else open_ones (number + 1) rest) k ≡ Some (number + i) → ((j n : ℕ) → slice_get (open_ones (number + 1) rest) j ≡ Some (number + 1 + n) → (walked : Walked) × RunsAt rest n walked) → (walked : Walked) × RunsAt (first ∷ rest) i walked
    by_index zero true is k e f = (first, record { there = refl; runs = is })
    by_index zero false is k e f = absurd (omega (arith, open_from (number + 1) rest k (number + 0) e))
    by_index (suc n) true is zero e f = absurd (omega (arith, same_Some number (number + suc n) e))
    by_index (suc n) true is (suc k) e f = deeper n (f k n (e ∙ ap some_number (next_number number n)))
    by_index (suc n) false is k e f = deeper n (f k n (e ∙ ap some_number (next_number number n)))

-- the open session of an index moves, and nothing else changes
module _ (places : List (List ℕ)) (keys : List (List ℕ × List ℕ)) (results : ℕ → ℕ → Result (List ℕ) MeasureError) where
  abbrev pub moves_with : ℕ → List Walked → ℕ → Walked → Option ℕ → Round
  moves_with number all i walked from =
      let c = chosen keys walked (candidates places (results number) walked.standing) from in record { all = set all i c.walked; from = c.from }

  pub moved_at : (number : ℕ) (all : List Walked) (k i : ℕ) (walked : Walked) (from : Option ℕ) → slice_get (open_ones number all) k ≡ Some (number + i) → slice_get all i ≡ Some walked → moved_on places keys results number all k from ≡ moves_with (number + i) all i walked from
  moved_at number [] k i walked from e s = absurd (none-some (number + i) e)
  moved_at number (first ∷ rest) k i walked from e s = by_index i (is_running first.standing.state) refl k e s (λ j n h g. moved_at (number + 1) rest j n walked from h g)
    where
      deeper : (n j : ℕ) → moved_on places keys results (number + 1) rest j from ≡ moves_with (number + 1 + n) rest n walked from → ahead first (moved_on places keys results (number + 1) rest j from) ≡ moves_with (number + suc n) (first ∷ rest) (suc n) walked from
      deeper n j h = ap (λ r. ahead first r) h ∙ ap (λ m. moves_with m (first ∷ rest) (suc n) walked from) (sym (next_number number n))

      by_index : (i : ℕ) (b : Bool) → is_running first.standing.state ≡ b → (k : ℕ) → slice_get (if b then number ∷ open_ones (number + 1) rest else open_ones (number + 1) rest) k ≡ Some (number + i) → slice_get (first ∷ rest) i ≡ Some walked → ((j n : ℕ) → slice_get (open_ones (number + 1) rest) j ≡ Some (number + 1 + n) → slice_get rest n ≡ Some walked → moved_on places keys results (number + 1) rest j from ≡ moves_with (number + 1 + n) rest n walked from) → (if b then (if nat_eq k 0 then (let c = chosen keys first (candidates places (results number) first.standing) from in record { all = c.walked ∷ rest; from = c.from }) else ahead first (moved_on places keys results (number + 1) rest (k - 1) from)) else ahead first (moved_on places keys results (number + 1) rest k from)) ≡ moves_with (number + i) (first ∷ rest) i walked from
      by_index zero true is zero e s f =
          ap (λ w. moves_with number (first ∷ rest) 0 w from) (same_Some first walked s) ∙ ap (λ m. moves_with m (first ∷ rest) 0 walked from) (sym (add-zero number))
      by_index zero true is (suc k) e s f = absurd (omega (arith, open_from (number + 1) rest k (number + 0) e))
      by_index zero false is k e s f = absurd (omega (arith, open_from (number + 1) rest k (number + 0) e))
      by_index (suc n) true is zero e s f = absurd (omega (arith, same_Some number (number + suc n) e))
      by_index (suc n) true is (suc k) e s f =
          ap (λ b. if b then (let c = chosen keys first (candidates places (results number) first.standing) from in record { all = c.walked ∷ rest; from = c.from }) else ahead first (moved_on places keys results (number + 1) rest (suc k - 1) from)) (ne_eqb (suc k) 0 (λ h. omega (arith, h)))
          ∙ ap (λ j. ahead first (moved_on places keys results (number + 1) rest j from)) (sub-one (suc k))
          ∙ deeper n k (f k n (e ∙ ap some_number (next_number number n)) s)
      by_index (suc n) false is k e s f = deeper n k (f k n (e ∙ ap some_number (next_number number n)) s)

-- a session that runs on leaves them, and one that doesn't leaves them without its own number
pub open_stays : (number : ℕ) (all : List Walked) (k i : ℕ) (walked : Walked) → slice_get (open_ones number all) k ≡ Some (number + i) → is_running walked.standing.state ≡ true → open_ones number (set all i walked) ≡ open_ones number all
open_stays number [] k i walked e r = absurd (none-some (number + i) e)
open_stays number (first ∷ rest) k i walked e r = by_index i (is_running first.standing.state) refl k e (λ j n h. open_stays (number + 1) rest j n walked h r)
  where
    by_index : (i : ℕ) (b : Bool) → is_running first.standing.state ≡ b → (k : ℕ) → slice_get (if b then number ∷ open_ones (number + 1) rest else open_ones (number + 1) rest) k ≡ Some (number + i) → ((j n : ℕ) → slice_get (open_ones (number + 1) rest) j ≡ Some (number + 1 + n) → open_ones (number + 1) (set rest n walked) ≡ open_ones (number + 1) rest) → open_ones number (set (first ∷ rest) i walked) ≡ open_ones number (first ∷ rest)
    by_index zero true is k e f =
        ap (λ b. if b then number ∷ open_ones (number + 1) rest else open_ones (number + 1) rest) (r ∙ sym is)
    by_index zero false is k e f = absurd (omega (arith, open_from (number + 1) rest k (number + 0) e))
    by_index (suc n) true is zero e f = absurd (omega (arith, same_Some number (number + suc n) e))
    by_index (suc n) true is (suc k) e f =
        ap (λ xs. if is_running first.standing.state then number ∷ xs else xs) (f k n (e ∙ ap some_number (next_number number n)))
    by_index (suc n) false is k e f =
        ap (λ xs. if is_running first.standing.state then number ∷ xs else xs) (f k n (e ∙ ap some_number (next_number number n)))

pub open_ends : (number : ℕ) (all : List Walked) (k i : ℕ) (walked : Walked) → slice_get (open_ones number all) k ≡ Some (number + i) → is_running walked.standing.state ≡ false → open_ones number (set all i walked) ≡ remove (open_ones number all) k
open_ends number [] k i walked e r = absurd (none-some (number + i) e)
open_ends number (first ∷ rest) k i walked e r = by_index i (is_running first.standing.state) refl k e (λ j n h. open_ends (number + 1) rest j n walked h r)
  where
    by_index : (i : ℕ) (b : Bool) → is_running first.standing.state ≡ b → (k : ℕ) → slice_get (if b then number ∷ open_ones (number + 1) rest else open_ones (number + 1) rest) k ≡ Some (number + i) → ((j n : ℕ) → slice_get (open_ones (number + 1) rest) j ≡ Some (number + 1 + n) → open_ones (number + 1) (set rest n walked) ≡ remove (open_ones (number + 1) rest) j) → open_ones number (set (first ∷ rest) i walked) ≡ remove (if b then number ∷ open_ones (number + 1) rest else open_ones (number + 1) rest) k
    by_index zero true is zero e f = ap (λ b. if b then number ∷ open_ones (number + 1) rest else open_ones (number + 1) rest) r
    by_index zero true is (suc k) e f = absurd (omega (arith, open_from (number + 1) rest k (number + 0) e))
    by_index zero false is k e f = absurd (omega (arith, open_from (number + 1) rest k (number + 0) e))
    by_index (suc n) true is zero e f = absurd (omega (arith, same_Some number (number + suc n) e))
    by_index (suc n) true is (suc k) e f =
        ap (λ b. if b then number ∷ open_ones (number + 1) (set rest n walked) else open_ones (number + 1) (set rest n walked)) is
        ∙ ap (λ xs. number ∷ xs) (f k n (e ∙ ap some_number (next_number number n)))
    by_index (suc n) false is k e f =
        ap (λ b. if b then number ∷ open_ones (number + 1) (set rest n walked) else open_ones (number + 1) (set rest n walked)) is
        ∙ f k n (e ∙ ap some_number (next_number number n))

-- all that are just opened are open
abbrev numbers_from : ℕ → ℕ → List ℕ
numbers_from n zero = []
numbers_from n (suc m) = n ∷ numbers_from (n + 1) m

last_behind : (n m : ℕ) → numbers_from n (suc m) ≡ numbers_from n m ++ (n + m) ∷ []
last_behind n zero = ap (λ k. k ∷ []) (sym (add-zero n))
last_behind n (suc m) = ap (λ xs. n ∷ xs) (last_behind (n + 1) m ∙ ap (λ k. numbers_from (n + 1) m ++ k ∷ []) (sym (next_number n m)))

from_none : (m : ℕ) → numbers_from 0 m ≡ numbers_below m
from_none zero = refl
from_none (suc m) = last_behind 0 m ∙ ap (λ xs. xs ++ (0 + m) ∷ []) (from_none m) ∙ ap (λ k. numbers_below m ++ k ∷ []) (zero-add m)

opened_from : (number : ℕ) (sessions : List Session) → open_ones number (all_opened sessions) ≡ numbers_from number (length sessions)
opened_from number [] = refl
opened_from number (session ∷ sessions) = ap (λ xs. number ∷ xs) (opened_from (number + 1) sessions)

pub open_at_first : (sessions : List Session) → open_ones 0 (all_opened sessions) ≡ numbers_below (length sessions)
open_at_first sessions = opened_from 0 sessions ∙ from_none (length sessions)

-- none of them is starved, if the one that is new isn't
pub still_fed : (all : List Walked) (i : ℕ) (walked : Walked) → one_starves all ≡ false → is_starving walked.standing.state ≡ false → one_starves (set all i walked) ≡ false
still_fed [] i walked e f = refl
still_fed (first ∷ rest) i walked e f = by_index i (is_starving first.standing.state) refl e (λ n h. still_fed rest n walked h f)
  where
    by_index : (i : ℕ) (b : Bool) → is_starving first.standing.state ≡ b → (if b then true else one_starves rest) ≡ false → ((n : ℕ) → one_starves rest ≡ false → one_starves (set rest n walked) ≡ false) → one_starves (set (first ∷ rest) i walked) ≡ false
    by_index zero true is h g = absurd (cc)
    by_index zero false is h g = ap (λ b. if b then true else one_starves rest) f ∙ h
    by_index (suc n) true is h g = absurd (cc)
    by_index (suc n) false is h g = ap (λ b. if b then true else one_starves (set rest n walked)) is ∙ g n h

pub opened_fed : (sessions : List Session) → one_starves (all_opened sessions) ≡ false
opened_fed [] = refl
opened_fed (session ∷ sessions) = opened_fed sessions
