-- Facts of each session before an index, and the least index of which something holds.
use Rattle.std.proofs.Common.{◌≡◌, ◌<◌, ◌+◌, ℕ, zero, suc, true, false, List, [], ◌∷◌, length, map, get_or, refl, sym, ap, subst, arith, Some, slice_get, inl, inr}
use Rattle.std.proofs.lemmas.Bool.{cases_eq}
use Rattle.place_check.specs.declared.entry.PlaceEntry.{PlaceEntry}
use Rattle.place_check.specs.Places.{is_place}
use Rattle.job_reader.specs.declared.refusal.JobError.TheVariants.{BadRoot}
use Rattle.job_reader.specs.declared.sessions.SessionText.{SessionText}
use Rattle.job_reader.specs.Form.{WrittenSession}
use Rattle.job_reader.specs.Texts.{written_session, written_sessions}
use Rattle.job_reader.specs.Whole.{FindsBadRoot, FindsNothing, HasNoRoot, IsAt, IsLeast}
use Rattle.job_reader.specs.Testing.{AreRooted, HoldsBefore, IsRooted}

-- an item that was read at an index
pub read_at : {A : Type 0} (items : List A) (index : ℕ) (x : A) → index < length items → x ≡ get_or items index x → slice_get items index ≡ Some x
read_at [] index x below is = absurd (omega arith)
read_at (y ∷ rest) zero x below is = ap (λ v. Some v) (sym is)
read_at (y ∷ rest) (suc index) x below is = read_at rest index x (omega arith) is

mapped_at : {A B : Type 0} (f : A → B) (items : List A) (index : ℕ) (x : A) → slice_get items index ≡ Some x → slice_get (map f items) index ≡ Some (f x)
mapped_at f [] index x is = absurd cc
mapped_at f (y ∷ rest) zero x is = let same : y ≡ x = cc in ap (λ v. Some (f v)) same
mapped_at f (y ∷ rest) (suc index) x is = mapped_at f rest index x is

pub written_at : (sessions : List SessionText) (index : ℕ) (x : SessionText) → index < length sessions → x ≡ get_or sessions index x → slice_get (written_sessions sessions) index ≡ Some (written_session x)
written_at sessions index x below is = mapped_at written_session sessions index x (read_at sessions index x below is)

length_mapped : {A B : Type 0} (f : A → B) (items : List A) → length (map f items) ≡ length items
length_mapped f [] = refl
length_mapped f (y ∷ rest) = ap (λ n. suc n) (length_mapped f rest)

pub length_written : (sessions : List SessionText) → length (written_sessions sessions) ≡ length sessions
length_written sessions = length_mapped written_session sessions

within : {A : Type 0} (items : List A) (index : ℕ) (x : A) → slice_get items index ≡ Some x → index < length items
within [] index x is = absurd cc
within (y ∷ rest) zero x is = omega arith
within (y ∷ rest) (suc index) x is = let below = within rest index x is in omega arith

-- one index more
pub before_more : (Holds : WrittenSession → Type 0) (sessions : List WrittenSession) (index : ℕ) (x : WrittenSession) → HoldsBefore Holds sessions index → slice_get sessions index ≡ Some x → Holds x → HoldsBefore Holds sessions (index + 1)
before_more Holds sessions index x before at here earlier session below is =
    elim (cases_eq earlier index) [
      | inl same ↦
          let found : slice_get sessions index ≡ Some session = subst (λ n. slice_get sessions n ≡ Some session) same is in
          let one : x ≡ session = cc in
          subst Holds one here
      | inr other ↦ before earlier session (omega arith) is
    ]

-- the first of which it holds
pub least_at : (Bad : WrittenSession → Type 0) (sessions : List WrittenSession) (index : ℕ) (x : WrittenSession) → HoldsBefore (λ session. ¬ (Bad session)) sessions index → slice_get sessions index ≡ Some x → Bad x → IsLeast (IsAt sessions Bad) index
least_at Bad sessions index x before at here = record {
  holds = (x, at, here);
  least = λ earlier below (session, is, bad). before earlier session below is bad;
}

-- it holds of none
pub at_none : (Bad : WrittenSession → Type 0) (sessions : List WrittenSession) → HoldsBefore (λ session. ¬ (Bad session)) sessions (length sessions) → (index : ℕ) → ¬ (IsAt sessions Bad index)
at_none Bad sessions before index (session, is, bad) =
    before index session (within sessions index session is) is bad

rooted_not : (places : List PlaceEntry) (sessions : List WrittenSession) (index : ℕ) → HoldsBefore (IsRooted places) sessions index → HoldsBefore (λ session. ¬ (HasNoRoot places session)) sessions index
rooted_not places sessions index before earlier session below is bad =
    let good : is_place places session.root ≡ true = before earlier session below is in
    absurd cc

pub bad_root_found : (places : List PlaceEntry) (sessions : List SessionText) (index : ℕ) (x : SessionText) → HoldsBefore (IsRooted places) (written_sessions sessions) index → index < length sessions → x ≡ get_or sessions index x → is_place places x.root ≡ false → FindsBadRoot places (written_sessions sessions) (BadRoot index)
bad_root_found places sessions index x before below is bad = (
  index,
  refl,
  least_at (HasNoRoot places) (written_sessions sessions) index (written_session x) (rooted_not places (written_sessions sessions) index before) (written_at sessions index x below is) bad,
)

pub no_bad_root : (places : List PlaceEntry) (sessions : List WrittenSession) → AreRooted places sessions → FindsNothing (FindsBadRoot places sessions)
no_bad_root places sessions rooted error (index, is, least) =
    at_none (HasNoRoot places) sessions (rooted_not places sessions (length sessions) rooted) index least.holds
