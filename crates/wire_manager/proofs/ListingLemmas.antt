-- The moves that are possible over links, by index.
use Rattle.std.proofs.Common.{◌≡◌, ℕ, zero, suc, ◌+◌, ◌<◌, ◌≤◌, List, [], ◌∷◌, ◌++◌, length, take, get_or, refl, sym, ◌∙◌, ap, subst, arith}
use Rattle.std.specs.Prelude.{Bool, true, false, cond, Option, None, Some, filter, slice_get, Contains}
use Rattle.session_runs.specs.Standing.{Move, Standing}
use Rattle.session_runs.specs.MoveOrder.{possible_moves}
use Rattle.session_runs.specs.Touches.{touch_of}
use Rattle.wire_manager.specs.Messages.{Message, is_there}
use Rattle.std.proofs.lemmas.List.Filters.{length-filter_more}
use Rattle.std.proofs.lemmas.Option.{slice_get_within, slice_get-get_or, get_or_from_slice_get, none-some, same_Some}
use Rattle.std.proofs.Math.Seq.{take-length}

-- one more passes, or one that doesn't
pub passes_more : {A : Type 0} (test : A → Bool) (all : List A) (at count : ℕ) (other : A) → at < length all → count ≡ length (filter test (take at all)) → test (get_or all at other) ≡ true → count + 1 ≡ length (filter test (take (at + 1) all))
passes_more test all at count other within is passes =
    omega (arith, is, length-filter_more test all at other within, ap {B = ℕ} (λ b. cond b 1 0) passes)

pub passes_no_more : {A : Type 0} (test : A → Bool) (all : List A) (at count : ℕ) (other : A) → at < length all → count ≡ length (filter test (take at all)) → test (get_or all at other) ≡ false → count ≡ length (filter test (take (at + 1) all))
passes_no_more test all at count other within is fails =
    omega (arith, is, length-filter_more test all at other within, ap {B = ℕ} (λ b. cond b 1 0) fails)

-- what stands at an index
pub at_index : {A : Type 0} (all : List A) (index : ℕ) (one : A) → slice_get all index ≡ Some one → Contains all one
at_index all index one e = (index, slice_get_within all index one e, get_or_from_slice_get all index one one e)

pub none_there : {A Q : Type 0} (all : List A) (index : ℕ) (other : A) → slice_get all index ≡ None → index < length all → Q
none_there {A} {Q} all index other e within = absurd (clash (sym (slice_get-get_or all index other within) ∙ e))
  where
    clash : ◌≡◌ {A = Option A} (Some (get_or all index other)) None → ⊥
    clash f = cc

-- how many of the first possible moves are possible over links
abbrev pub is_here : Standing → List Message → Move → Bool
is_here standing messages move = is_there messages (touch_of standing move)

abbrev pub passed_of : List (List ℕ) → Standing → List Message → ℕ → ℕ
passed_of places standing messages at = length (filter (is_here standing messages) (take at (possible_moves places standing)))

-- what passes stands, among all that pass, at the number of those that pass before it
pub passed_at : {A : Type 0} (test : A → Bool) (all : List A) (at : ℕ) (one : A) → slice_get all at ≡ Some one → test one ≡ true → slice_get (filter test all) (length (filter test (take at all))) ≡ Some one
passed_at test [] at one e passes = absurd (none-some one e)
passed_at test (first ∷ all) zero one e passes =
    ap (λ b. slice_get (cond b (first ∷ filter test all) (filter test all)) 0) (ap test (same_Some first one e) ∙ passes) ∙ e
passed_at test (first ∷ all) (suc at) one e passes = further (test first) (passed_at test all at one e passes)
  where
    further : (b : Bool) → slice_get (filter test all) (length (filter test (take at all))) ≡ Some one → slice_get (cond b (first ∷ filter test all) (filter test all)) (length (cond b (first ∷ filter test (take at all)) (filter test (take at all)))) ≡ Some one
    further true h = h
    further false h = h

-- none stands behind all that pass
pub passed_all : {A : Type 0} (test : A → Bool) (all : List A) (at count : ℕ) → at ≡ length all → count ≡ length (filter test (take at all)) → count ≡ length (filter test all)
passed_all test all at count whole is = is ∙ (ap (λ n. length (filter test (take n all))) whole ∙ ap (λ xs. length (filter test xs)) (take-length all))
