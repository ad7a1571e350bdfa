-- The mail on values: what each change of it leaves, and that later values change nothing.
use Rattle.std.proofs.Common.{◌≡◌, ℕ, ◌<◌, Bool, true, false, List, [], ◌∷◌, ◌++◌, Option, None, Some, length, drop, slice_set, nat_eq, if◌then◌else◌, refl, sym, ap, ap₂, ◌∙◌, arith, inl, inr}
use Rattle.std.specs.Option.{option_map}
use Rattle.std.specs.Cmp.Lexicographic.{pointwise}
use Rattle.std.proofs.lemmas.Bool.{cases_eq, eq-eqb, ne_eqb}
use Rattle.std.proofs.lemmas.Slice.Eq.{bytes_eq-Decides}
use Rattle.evidence_types.specs.Evidence.{Evidence}
use Rattle.evidence_store.specs.Kept.{value_at, Grows}
use Rattle.rising_list.specs.Rising.{find, inserted, removed, RisesFrom}
use Rattle.rising_list.proofs.RisingLemmas.{find-inserted, find-removed}
use Rattle.place_mail.specs.declared.request.Request.{Request}
use Rattle.place_mail.specs.Mail.{waiting_at, posted, taken}
use Rattle.machine_world.proofs.NamedLemmas.{if_true, if_false, name-get, name-set}
use Rattle.machine_world.specs.Seen.{request_value, requests_on, list_at, IsPlace, requests_at, reply_to, RequestsBelow, ListsBelow, RepliesBelow}

-- ---- the lists by place

pub same_place : (name place : List ℕ) → pointwise nat_eq name place ≡ true → name ≡ place
same_place name place e = (bytes_eq-Decides name place).0 e

pub list-get : (names : List (List ℕ)) (lists : List (List Request)) (place : List ℕ) (index : ℕ) → IsPlace names place index → index < length lists → list_at names lists place ≡ waiting_at index lists
list-get names lists place index at h = name-get (pointwise nat_eq) [] names lists place index at h

list-set : (names : List (List ℕ)) (lists : List (List Request)) (place : List ℕ) (index : ℕ) (now : List Request) (other : List ℕ) → IsPlace names place index → index < length lists
    → list_at names (slice_set lists index now) other ≡ (if pointwise nat_eq place other then now else list_at names lists other)
list-set names lists place index now other at h = name-set (pointwise nat_eq) same_place [] names lists place index now other at h

-- ---- on values

requests_if : (values : List Evidence) (b : Bool) (x y : List Request) → requests_on values (if b then x else y) ≡ (if b then requests_on values x else requests_on values y)
requests_if values true x y = refl
requests_if values false x y = refl

requests-push : (values : List Evidence) (requests : List Request) (request : Request) → requests_on values (requests ++ request ∷ []) ≡ requests_on values requests ++ request_value values request ∷ []
requests-push values [] request = refl
requests-push values (first ∷ rest) request = ap (λ (t : List (ℕ × Evidence)). request_value values first ∷ t) (requests-push values rest request)

-- a request more at a place
pub requests-posted : (values : List Evidence) (names : List (List ℕ)) (lists : List (List Request)) (place : List ℕ) (index : ℕ) (request : Request) (other : List ℕ) → IsPlace names place index → index < length lists
    → requests_at values names (posted index request lists) other ≡ (if pointwise nat_eq place other then requests_at values names lists place ++ request_value values request ∷ [] else requests_at values names lists other)
requests-posted values names lists place index request other at h =
    ap (requests_on values) (list-set names lists place index (waiting_at index lists ++ request ∷ []) other at h)
    ∙ requests_if values (pointwise nat_eq place other) (waiting_at index lists ++ request ∷ []) (list_at names lists other)
    ∙ ap (λ (t : List (ℕ × Evidence)). if pointwise nat_eq place other then t else requests_at values names lists other)
    (requests-push values (waiting_at index lists) request ∙ ap (λ (t : List Request). requests_on values t ++ request_value values request ∷ []) (sym (list-get names lists place index at h)))

-- the first one less
pub requests-taken : (values : List Evidence) (names : List (List ℕ)) (lists : List (List Request)) (place : List ℕ) (index : ℕ) (first : Request) (rest : List Request) (other : List ℕ) → IsPlace names place index → index < length lists → waiting_at index lists ≡ first ∷ rest
    → (requests_at values names lists place ≡ request_value values first ∷ requests_on values rest) × (requests_at values names (taken index lists) other ≡ (if pointwise nat_eq place other then requests_on values rest else requests_at values names lists other))
requests-taken values names lists place index first rest other at h waits = (
  ap (requests_on values) (list-get names lists place index at h ∙ waits),
  ap (requests_on values) (list-set names lists place index (drop 1 (waiting_at index lists)) other at h)
      ∙ requests_if values (pointwise nat_eq place other) (drop 1 (waiting_at index lists)) (list_at names lists other)
      ∙ ap (λ (t : List Request). if pointwise nat_eq place other then requests_on values (drop 1 t) else requests_at values names lists other) waits,
)

option_if : (values : List Evidence) (b : Bool) (x y : Option ℕ) → option_map (value_at values) (if b then x else y) ≡ (if b then option_map (value_at values) x else option_map (value_at values) y)
option_if values true x y = refl
option_if values false x y = refl

-- a reply more, and one less
pub reply-came : (values : List Evidence) (answers : List (ℕ × ℕ)) (number id other : ℕ) → find number answers ≡ None → reply_to values (inserted number id answers) other ≡ (if nat_eq number other then Some (value_at values id) else reply_to values answers other)
reply-came values answers number id other free =
    ap (option_map (value_at values)) (find-inserted number other id answers free) ∙ option_if values (nat_eq number other) (Some id) (find other answers)

pub reply-went : (values : List Evidence) (answers : List (ℕ × ℕ)) (number other : ℕ) → RisesFrom 0 answers → reply_to values (removed number answers) other ≡ (if nat_eq number other then None else reply_to values answers other)
reply-went values answers number other rises =
    ap (option_map (value_at values)) (find-removed 0 number other answers rises) ∙ option_if values (nat_eq number other) None (find other answers)

-- ---- later values

requests-grow : (old new : List Evidence) (requests : List Request) → Grows old new → RequestsBelow (length old) requests → requests_on new requests ≡ requests_on old requests
requests-grow old new [] g b = refl
requests-grow old new (request ∷ rest) g b =
    ap₂ (λ (v : Evidence) (t : List (ℕ × Evidence)). (request.name, v) ∷ t) (g.same request.evidence b.0) (requests-grow old new rest g b.1)

list-below : (count : ℕ) (names : List (List ℕ)) (lists : List (List Request)) (place : List ℕ) → ListsBelow count lists → RequestsBelow count (list_at names lists place)
list-below count [] lists place b = tt
list-below count (name ∷ names) [] place b = tt
list-below count (name ∷ names) (list ∷ lists) place b =
    below_if (pointwise nat_eq name place) list (list_at names lists place) b.0 (list-below count names lists place b.1)
  where
    below_if : (t : Bool) (x y : List Request) → RequestsBelow count x → RequestsBelow count y → RequestsBelow count (if t then x else y)
    below_if true x y p q = p
    below_if false x y p q = q

pub mail-grows : (old new : List Evidence) (names : List (List ℕ)) (lists : List (List Request)) (place : List ℕ) → Grows old new → ListsBelow (length old) lists → requests_at new names lists place ≡ requests_at old names lists place
mail-grows old new names lists place g b = requests-grow old new (list_at names lists place) g (list-below (length old) names lists place b)

pub found-below : (count number id : ℕ) (answers : List (ℕ × ℕ)) → RepliesBelow count answers → find number answers ≡ Some id → id < count
found-below count number id [] b e = none_some e
  where
    none_some : {P : Type 0} → None ≡ Some id → P
    none_some e = cc
found-below count number id (reply ∷ rest) b e =
    elim (cases_eq reply.0 number) [
      | inl same ↦
          let here : reply.1 ≡ id = some_same reply.1 id (sym (if_true (nat_eq reply.0 number) (Some reply.1) (find number rest) (eq-eqb reply.0 number same)) ∙ e) in
          omega (arith, b.0)
      | inr other ↦ found-below count number id rest b.1 (sym (if_false (nat_eq reply.0 number) (Some reply.1) (find number rest) (ne_eqb reply.0 number other)) ∙ e)
    ]
  where
    some_same : (x y : ℕ) → Some x ≡ Some y → x ≡ y
    some_same x y e = cc

option-grow : (old new : List Evidence) (found : Option ℕ) → Grows old new → ((id : ℕ) → found ≡ Some id → id < length old) → option_map (value_at new) found ≡ option_map (value_at old) found
option-grow old new None g b = refl
option-grow old new (Some id) g b = ap (λ (v : Evidence). Some v) (g.same id (b id refl))

pub replies-grow : (old new : List Evidence) (answers : List (ℕ × ℕ)) (number : ℕ) → Grows old new → RepliesBelow (length old) answers → reply_to new answers number ≡ reply_to old answers number
replies-grow old new answers number g b = option-grow old new (find number answers) g (λ id e. found-below (length old) number id answers b e)
