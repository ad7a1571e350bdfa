-- What stays while sessions are visited one after another.
use Rattle.std.proofs.Common.{◌≡◌, ℕ, zero, suc, ◌+◌, ◌<◌, ◌≤◌, ◌⊎◌, inl, inr, List, [], ◌∷◌, ◌++◌, length, refl, sym, ◌∙◌, ap, subst, arith}
use Rattle.std.specs.Prelude.{Some, Bool, true, false, slice_get, slice_set}
use Rattle.std.proofs.lemmas.Option.{slice_get_within}
use Rattle.atomic_table.specs.Seated.{TableId}
use Rattle.bench_trait.specs.declared.artefacts.Artefact.{Artefact}
use Rattle.session_model.specs.declared.record.Record.{Record}
use Rattle.session_core.specs.declared.opened.Opened.{Opened}
use Rattle.session_desk.specs.Views.{View, Known, IsPassOf, openings_of}
use Rattle.session_desk.specs.Taking.{ChangesAt}
use Rattle.session_desk.specs.Answers.{IsAt, AreOver}
use Rattle.session_desk.specs.Opening.{IsFit}
use Rattle.manager_runner.specs.Staying.{StaysOutside, StaysBut}
use Rattle.manager_runner.specs.Ended.{AreBetween, AreRecords}

some_same : {A : Type 0} (a b : A) → Some a ≡ Some b → a ≡ b
some_same a b e = cc

get_below : {A : Type 0} (xs : List A) (i at : ℕ) (y : A) → at < i → slice_get (slice_set xs i y) at ≡ slice_get xs at
get_below [] i at y less = refl
get_below (x ∷ xs) zero at y less = absurd (omega (arith, less))
get_below (x ∷ xs) (suc i) zero y less = refl
get_below (x ∷ xs) (suc i) (suc at) y less = get_below xs i at y (omega (arith, less))

get_above : {A : Type 0} (xs : List A) (i at : ℕ) (y : A) → i + 1 ≤ at → slice_get (slice_set xs i y) at ≡ slice_get xs at
get_above [] i at y more = refl
get_above (x ∷ xs) i zero y more = absurd (omega (arith, more))
get_above (x ∷ xs) zero (suc at) y more = refl
get_above (x ∷ xs) (suc i) (suc at) y more = get_above xs i at y (omega (arith, more))

below_or_not : (a b : ℕ) → (a < b) ⊎ (b ≤ a)
below_or_not a zero = inr (omega arith)
below_or_not zero (suc b) = inl (omega arith)
below_or_not (suc a) (suc b) = elim (below_or_not a b) [ inl less ↦ inl (omega (arith, less)) | inr more ↦ inr (omega (arith, more)) ]

-- a call of the desk leaves all but one session
pub but_one : {O : Type 0} (index : ℕ) (Changes : View O → View O → Type 0) (before after : Known O) → openings_of after.views ≡ openings_of before.views → ChangesAt index Changes before after → StaysBut index before after
but_one index Changes before after openings changes =
    record {
      number = changes.number_stays;
      openings = openings;
      below = λ at less. ap (λ views. slice_get views at) changes.one.others_stay ∙ get_below before.views index at changes.one.new less;
      above = λ at more. ap (λ views. slice_get views at) changes.one.others_stay ∙ get_above before.views index at changes.one.new more;
    }

pub as_it_is : {O : Type 0} (from to : ℕ) (known : Known O) → StaysOutside from to known known
as_it_is from to known = record { number = refl; openings = refl; below = λ at less. refl; above = λ at more. refl }

pub and_still : {O : Type 0} (from to : ℕ) (first second third : Known O) → StaysOutside from to first second → StaysOutside from to second third → StaysOutside from to first third
and_still from to first second third one two =
    record {
      number = two.number ∙ one.number;
      openings = two.openings ∙ one.openings;
      below = λ at less. two.below at less ∙ one.below at less;
      above = λ at more. two.above at more ∙ one.above at more;
    }

pub wider : {O : Type 0} (low from to high : ℕ) (before after : Known O) → low ≤ from → to ≤ high → StaysOutside from to before after → StaysOutside low high before after
wider low from to high before after under over stays =
    record {
      number = stays.number;
      openings = stays.openings;
      below = λ at less. stays.below at (omega (arith, under, less));
      above = λ at more. stays.above at (omega (arith, over, more));
    }

-- one call of the desk more at the same session
pub still_but : {O : Type 0} (index held : ℕ) (Changes : View O → View O → Type 0) (first second third : Known O) → held ≡ index → StaysBut index first second → openings_of third.views ≡ openings_of second.views → ChangesAt held Changes second third → StaysBut index first third
still_but index held Changes first second third same stays openings changes =
    and_still index (index + 1) first second third stays (subst (λ k. StaysBut k second third) same (but_one held Changes second third openings changes))

-- a pass still fits the bench and the artefacts
pub fit_still : {B : Type 0} (bench : B) (artefacts : List Artefact) (desk : List TableId) (before after : Known (Opened B)) → IsFit bench artefacts desk before → IsPassOf desk after → openings_of after.views ≡ openings_of before.views → IsFit bench artefacts desk after
fit_still bench artefacts desk before after fit made same =
    record { made = made; over = subst (λ openings. AreOver bench artefacts openings) (sym same) fit.over }

same_at : {O : Type 0} (Is : View O → Type 0) (at : ℕ) (before after : List (View O)) → slice_get after at ≡ slice_get before at → IsAt at Is before → IsAt at Is after
same_at Is at before after same there = record { view = there.view; at = same ∙ there.at; is = there.is }

-- one more of those that are so
pub one_more : {O : Type 0} (Is : View O → Type 0) (from session : ℕ) (before after : Known O) → AreBetween Is from session before.views → StaysBut session before after → IsAt session Is after.views → AreBetween Is from (session + 1) after.views
one_more {O} Is from session before after all stays here at low high =
    elim (below_or_not at session) [
      | inl less ↦ same_at Is at before.views after.views (stays.below at less) (all at low less)
      | inr more ↦ (let same : session ≡ at = omega (arith, more, high) in subst (λ k. IsAt k Is after.views) same here)
    ]

-- none yet
pub none_between : {O : Type 0} (Is : View O → Type 0) (from : ℕ) (views : List (View O)) → AreBetween Is from from views
none_between Is from views at low high = absurd (omega (arith, low, high))

-- those from one on, and then those below it
pub all_round : {O : Type 0} (Is : View O → Type 0) (first count : ℕ) (before after : Known O) → AreBetween Is first count before.views → StaysOutside 0 first before after → AreBetween Is 0 first after.views → AreBetween Is 0 count after.views
all_round Is first count before after late stays early at low high =
    elim (below_or_not at first) [
      | inl less ↦ early at low less
      | inr more ↦ same_at Is at before.views after.views (stays.above at more) (late at more high)
    ]

pushed : {A : Type 0} (P : ℕ → A → Type 0) (xs : List A) (y : A) → P (length xs) y → ((k : ℕ) (x : A) → slice_get xs k ≡ Some x → P k x) → (k : ℕ) (x : A) → slice_get (xs ++ y ∷ []) k ≡ Some x → P k x
pushed P [] y is all zero x at = subst (λ z. P zero z) (some_same y x at) is
pushed P [] y is all (suc k) x at = absurd (cc)
pushed P (z ∷ zs) y is all zero x at = all zero x at
pushed P (z ∷ zs) y is all (suc k) x at = pushed (λ j w. P (suc j) w) zs y is (λ j w. all (suc j) w) k x at

length_pushed : {A : Type 0} (xs : List A) (y : A) → length (xs ++ y ∷ []) ≡ length xs + 1
length_pushed [] y = refl
length_pushed (x ∷ xs) y = omega (arith, length_pushed xs y)

pub no_records : {O : Type 0} (Has : Record → View O → Type 0) (records : List Record) (views : List (View O)) → records ≡ [] → AreRecords 0 Has records views
no_records {O} Has records views none =
    let P : List Record → Type 0 = λ (rs : List Record). AreRecords 0 Has rs views in
    subst P (sym none) (record { count = refl; each = λ at found e. absurd (cc) })

-- one record more
pub record_more : {O : Type 0} (Has : Record → View O → Type 0) (session : ℕ) (records more : List Record) (found : Record) (before after : Known O) → AreRecords session Has records before.views → StaysBut session before after → IsAt session (Has found) after.views → more ≡ records ++ found ∷ [] → AreRecords (session + 1) Has more after.views
record_more {O} Has session records more found before after are stays here is =
    let P : List Record → Type 0 = λ (rs : List Record). AreRecords (session + 1) Has rs after.views in
    let old : (k : ℕ) (x : Record) → slice_get records k ≡ Some x → IsAt k (Has x) after.views = λ k x e. same_at (Has x) k before.views after.views (stays.below k (subst (λ n. k < n) are.count (slice_get_within records k x e))) (are.each k x e) in
    subst P (sym is) (record {
      count = length_pushed records found ∙ ap (λ n. n + 1) are.count;
      each = pushed (λ k x. IsAt k (Has x) after.views) records found (subst (λ k. IsAt k (Has found) after.views) (sym are.count) here) old;
    })
