-- The passes of a desk as workers and a closer.
use Rattle.std.proofs.Common.{◌≡◌, ℕ, zero, suc, ◌+◌, ◌<◌, List, [], ◌∷◌, ◌++◌, length, get_or, refl, sym, ap, ◌∙◌, subst, arith}
use Rattle.std.specs.Prelude.{Some, All, slice_get}
use Rattle.std.proofs.lemmas.Option.{slice_get-get_or}
use Rattle.atomic_table.specs.Seated.{TableId}
use Rattle.bench_trait.specs.declared.artefacts.Artefact.{Artefact}
use Rattle.session_core.specs.declared.opened.Opened.{Opened}
use Rattle.session_core.specs.Session.{Seen}
use Rattle.session_desk.specs.Views.{Known}
use Rattle.session_desk.specs.Opening.{AreOpened, AreJustOpened, AreOpenedOver, IsFit}

all_at : {A : Type 0} (P : A → Type 0) (xs : List A) → ((k : ℕ) (x : A) → slice_get xs k ≡ Some x → P x) → All P xs
all_at P xs each = λ k d less. each k (get_or xs k d) (slice_get-get_or xs k d less)

before_last : {A : Type 0} (xs : List A) (y : A) (k : ℕ) (x : A) → slice_get xs k ≡ Some x → slice_get (xs ++ y ∷ []) k ≡ Some x
before_last [] y k x at = absurd (cc)
before_last (z ∷ zs) y zero x at = at
before_last (z ∷ zs) y (suc k) x at = before_last zs y k x at

last_one : {A : Type 0} (xs : List A) (y : A) → slice_get (xs ++ y ∷ []) (length xs) ≡ Some y
last_one [] y = refl
last_one (z ∷ zs) y = last_one zs y

one_longer : {A : Type 0} (xs : List A) (y : A) → length xs + 1 ≡ length (xs ++ y ∷ [])
one_longer [] y = refl
one_longer (z ∷ zs) y = omega (arith, one_longer zs y)

pub count_more : {A : Type 0} (xs more : List A) (y : A) (n : ℕ) → length xs ≡ n → more ≡ xs ++ y ∷ [] → length more ≡ n + 1
count_more xs more y n count is = ap length is ∙ sym (one_longer xs y) ∙ ap (λ k. k + 1) count

-- one session more, just opened over the same bench and artefacts
just_appended : {O : Type 0} (sessions : List (Seen O)) (session : Seen O) → AreJustOpened sessions → session.items ≡ [] → AreJustOpened (sessions ++ session ∷ [])
just_appended [] session are new = (new, tt)
just_appended (x ∷ xs) session are new = (are.0, just_appended xs session are.1 new)

pub just_more : {O : Type 0} (sessions more : List (Seen O)) (session : Seen O) → AreJustOpened sessions → session.items ≡ [] → more ≡ sessions ++ session ∷ [] → AreJustOpened more
just_more {O} sessions more session just new is = subst (λ (l : List (Seen O)). AreJustOpened l) (sym is) (just_appended sessions session just new)

over_appended : {B : Type 0} (bench : B) (artefacts : List Artefact) (sessions : List (Seen (Opened B))) (session : Seen (Opened B)) → AreOpenedOver bench artefacts sessions → session.opening.bench.now ≡ bench → session.opening.artefacts.now ≡ artefacts → AreOpenedOver bench artefacts (sessions ++ session ∷ [])
over_appended bench artefacts [] session over of_bench of_artefacts = ((of_bench, of_artefacts), tt)
over_appended bench artefacts (x ∷ xs) session over of_bench of_artefacts = (over.0, over_appended bench artefacts xs session over.1 of_bench of_artefacts)

pub over_more : {B : Type 0} (bench : B) (artefacts : List Artefact) (sessions more : List (Seen (Opened B))) (session : Seen (Opened B)) → AreOpenedOver bench artefacts sessions → session.opening.bench.now ≡ bench → session.opening.artefacts.now ≡ artefacts → more ≡ sessions ++ session ∷ [] → AreOpenedOver bench artefacts more
over_more {B} bench artefacts sessions more session over of_bench of_artefacts is = subst (λ (l : List (Seen (Opened B))). AreOpenedOver bench artefacts l) (sym is) (over_appended bench artefacts sessions session over of_bench of_artefacts)

module _ {B : Type 0} (bench : B) (artefacts : List Artefact) (fit_one : (sessions : List (Seen (Opened B))) (many : ℕ) (desk : List TableId) (passes : List (Known (Opened B))) (number : ℕ) (pass : Known (Opened B)) → AreOpened sessions many desk passes → AreOpenedOver bench artefacts sessions → slice_get passes number ≡ Some pass → IsFit bench artefacts desk pass) where
  pub all_fit : (sessions : List (Seen (Opened B))) (many : ℕ) (desk : List TableId) (workers : List (Known (Opened B))) (closer : Known (Opened B)) → AreOpened sessions many desk (workers ++ closer ∷ []) → AreOpenedOver bench artefacts sessions → (length workers + 1 ≡ many) × All (IsFit bench artefacts desk) workers × IsFit bench artefacts desk closer
  all_fit sessions many desk workers closer opened over = (
    one_longer workers closer ∙ opened.count,
    all_at (IsFit bench artefacts desk) workers (λ k pass at. fit_one sessions many desk (workers ++ closer ∷ []) k pass opened over (before_last workers closer k pass at)),
    fit_one sessions many desk (workers ++ closer ∷ []) (length workers) closer opened over (last_one workers closer),
  )
