-- A pass stays one of its desk, over the same; and the last of a list.
use Rattle.std.proofs.Common.{◌≡◌, ℕ, zero, suc, List, [], ◌∷◌, ◌++◌, length, refl, sym, subst}
use Rattle.std.specs.Prelude.{Some, slice_get}
use Rattle.atomic_table.specs.Seated.{TableId}
use Rattle.bench_trait.specs.declared.artefacts.Artefact.{Artefact}
use Rattle.session_core.specs.declared.opened.Opened.{Opened}
use Rattle.session_desk.specs.Views.{Known, cells_of, openings_of}
use Rattle.session_desk.specs.Answers.{AreOver}
use Rattle.session_core.specs.Session.{Seen}
use Rattle.session_desk.specs.Opening.{AreJustOpened, AreOpenedOver, IsFit}

pub still_fit : {B : Type 0} (bench : B) (artefacts : List Artefact) (desk : List TableId) (before after : Known (Opened B)) → IsFit bench artefacts desk before → cells_of after.views ≡ desk → openings_of after.views ≡ openings_of before.views → IsFit bench artefacts desk after
still_fit bench artefacts desk before after fit made same = record { made = made; over = subst (λ openings. AreOver bench artefacts openings) (sym same) fit.over }

-- In a list with one element more each has the place that it had, and that one comes last.
pub before_last : {A : Type 0} (xs : List A) (y : A) (k : ℕ) (x : A) → slice_get xs k ≡ Some x → slice_get (xs ++ y ∷ []) k ≡ Some x
before_last [] y k x at = absurd (cc)
before_last (z ∷ zs) y zero x at = at
before_last (z ∷ zs) y (suc k) x at = before_last zs y k x at

pub last_one : {A : Type 0} (xs : List A) (y : A) → slice_get (xs ++ y ∷ []) (length xs) ≡ Some y
last_one [] y = refl
last_one (z ∷ zs) y = last_one zs y

-- One session more, just opened over the same bench and artefacts.
just_appended : {O : Type 0} (sessions : List (Seen O)) (session : Seen O) → AreJustOpened sessions → session.items ≡ [] → AreJustOpened (sessions ++ session ∷ [])
just_appended [] session are new = (new, tt)
just_appended (x ∷ xs) session are new = (are.0, just_appended xs session are.1 new)

pub just_more : {O : Type 0} (sessions more : List (Seen O)) (session : Seen O) → AreJustOpened sessions → session.items ≡ [] → more ≡ sessions ++ session ∷ [] → AreJustOpened more
just_more {O} sessions more session just new is = subst (λ (l : List (Seen O)). AreJustOpened l) (sym is) (just_appended sessions session just new)

over_appended : {B : Type 0} (bench : B) (artefacts : List Artefact) (sessions : List (Seen (Opened B))) (session : Seen (Opened B)) → AreOpenedOver bench artefacts sessions → session.opening.bench.now ≡ bench → session.opening.artefacts.now ≡ artefacts → AreOpenedOver bench artefacts (sessions ++ session ∷ [])
over_appended bench artefacts [] session over of_bench of_artefacts = ((of_bench, of_artefacts), tt)
over_appended bench artefacts (x ∷ xs) session over of_bench of_artefacts = (over.0, over_appended bench artefacts xs session over.1 of_bench of_artefacts)

pub over_more : {B : Type 0} (bench : B) (artefacts : List Artefact) (sessions more : List (Seen (Opened B))) (session : Seen (Opened B)) → AreOpenedOver bench artefacts sessions → session.opening.bench.now ≡ bench → session.opening.artefacts.now ≡ artefacts → more ≡ sessions ++ session ∷ [] → AreOpenedOver bench artefacts more
over_more {B} bench artefacts sessions more session over of_bench of_artefacts is = subst (λ (l : List (Seen (Opened B))). AreOpenedOver bench artefacts l) (sym is) (over_appended bench artefacts sessions session over of_bench of_artefacts)
