-- The measurements of a phrase with their labels: they are those of its event list, in rising order.
use Rattle.std.proofs.Common.{◌≡◌, ◌+◌, ◌<◌, ◌≤◌, ◌∙◌, ◌⊎◌, ℕ, zero, suc, List, [], ◌∷◌, ◌++◌, Bool, IsTrue, Option, Some, None, inl, inr, refl, sym, ap, subst, length, map, cond, arith, zero-add}
use Rattle.std.specs.Prelude.{All, count_by}
use Rattle.std.specs.List.{range_with_len}
use Rattle.std.proofs.lemmas.Bool.{false≢true}
use Rattle.std.proofs.lemmas.List.{length-map}
use Rattle.std.proofs.lemmas.List.Elements.{All-head, All-tail}
use Rattle.std.proofs.lemmas.List.Sums.{sum_by-cons}
use Rattle.std.proofs.lemmas.List.FromFn.{length-range_with_len}
use Rattle.phrase_tree.specs.Term.{Term}
use Rattle.phrase_tree.specs.declared.phrase.TheConstants.{EVENTS}
use Rattle.phrase_tree.specs.Numbering.{event_count, IsSized}
use Rattle.phrase_tree.specs.Events.{Event, events_of}
use Rattle.event_system.specs.Order.{IsEvent}
use Rattle.event_system.proofs.ListLaws.{numbers_are}
use Rattle.order_policy.specs.declared.claim.Service.{Service}
use Rattle.order_policy.specs.declared.label.Label.{Label}
use Rattle.order_policy.specs.declared.measured.Measured.{Measured}
use Rattle.order_policy.specs.Claims.{is_same, service, measured_name, names_service, is_of, IsOf, count_of}
use Rattle.order_policy.specs.Labels.{labels_of}
use Rattle.order_policy.specs.Measured.{measured_at, measured_of}
use Rattle.order_policy.proofs.LabelLaws.{firsts_are, length-labels_of}

-- something is so of one of these, or of each
abbrev pub HasOne : (Measured → Type 0) → List Measured → Type 0
HasOne P [] = ⊥
HasOne P (one ∷ rest) = P one ⊎ HasOne P rest

abbrev pub HasEach : (Measured → Type 0) → List Measured → Type 0
HasEach P [] = Unit {0}
HasEach P (one ∷ rest) = P one × HasEach P rest

-- the numbers of these rise, from a number on
abbrev pub RisesFrom : ℕ → List Measured → Type 0
RisesFrom i [] = Unit {0}
RisesFrom i (one ∷ rest) = (i ≤ one.label.first) × RisesFrom (one.label.first + 1) rest

abbrev pub IsSame : Service → Measured → Type 0
IsSame wanted one = IsTrue (is_same wanted one.service)

pub one_map : (P Q : Measured → Type 0) (xs : List Measured) → HasEach (λ m. P m → Q m) xs → HasOne P xs → HasOne Q xs
one_map P Q [] f h = h
one_map P Q (x ∷ xs) f (inl h) = inl (f.0 h)
one_map P Q (x ∷ xs) f (inr h) = inr (one_map P Q xs f.1 h)

pub each_map : (P Q : Measured → Type 0) (xs : List Measured) → ((m : Measured) → P m → Q m) → HasEach P xs → HasEach Q xs
each_map P Q [] f h = tt
each_map P Q (x ∷ xs) f h = (f x h.0, each_map P Q xs f h.1)

pub each_both : (P Q R : Measured → Type 0) (xs : List Measured) → ((m : Measured) → P m → Q m → R m) → HasEach P xs → HasEach Q xs → HasEach R xs
each_both P Q R [] f h g = tt
each_both P Q R (x ∷ xs) f h g = (f x h.0 g.0, each_both P Q R xs f h.1 g.1)

pub use_one : (P : Measured → Type 0) (C : Type 0) (xs : List Measured) → HasEach (λ m. P m → C) xs → HasOne P xs → C
use_one P C [] f h = absurd h
use_one P C (x ∷ xs) f (inl h) = f.0 h
use_one P C (x ∷ xs) f (inr h) = use_one P C xs f.1 h

one_left : (P : Measured → Type 0) (xs ys : List Measured) → HasOne P xs → HasOne P (xs ++ ys)
one_left P [] ys h = absurd h
one_left P (x ∷ xs) ys (inl h) = inl h
one_left P (x ∷ xs) ys (inr h) = inr (one_left P xs ys h)

one_right : (P : Measured → Type 0) (xs ys : List Measured) → HasOne P ys → HasOne P (xs ++ ys)
one_right P [] ys h = h
one_right P (x ∷ xs) ys h = inr (one_right P xs ys h)

each_append : (P : Measured → Type 0) (xs ys : List Measured) → HasEach P xs → HasEach P ys → HasEach P (xs ++ ys)
each_append P [] ys h g = g
each_append P (x ∷ xs) ys h g = (h.0, each_append P xs ys h.1 g)

rises_later : (i j : ℕ) (xs : List Measured) → i ≤ j → RisesFrom j xs → RisesFrom i xs
rises_later i j [] le h = tt
rises_later i j (x ∷ xs) le h =
    let from = h.0 in
    (omega arith, h.1)

pub rises_each : (i : ℕ) (xs : List Measured) → RisesFrom i xs → HasEach (λ m. i ≤ m.label.first) xs
rises_each i [] h = tt
rises_each i (x ∷ xs) h =
    let from = h.0 in
    (h.0, rises_each i xs (rises_later i (x.label.first + 1) xs (omega arith) h.1))

-- these events and labels have the same numbers
abbrev AreOf : List Event → List Label → Type 0
AreOf events labels = map (λ (label : Label). label.first) labels ≡ map (λ (event : Event). event.number) events

heads : (x y : ℕ) (xs ys : List ℕ) → ◌≡◌ {A = List ℕ} (x ∷ xs) (y ∷ ys) → (x ≡ y) × (xs ≡ ys)
heads x y xs ys e = (cc, cc)

measured_one : (wanted : Service) (place : List ℕ) (label : Label) (n : ℕ) (name : Option (List ℕ)) → label.first ≡ n → IsTrue (names_service wanted place name) → HasOne (λ m. (m.label.first ≡ n) × IsSame wanted m) (measured_at name place label)
measured_one wanted place label n None e is = absurd (false≢true is)
measured_one wanted place label n (Some name) e is = inl (e, is)

-- a measurement of the event list is among them
pub measured_from : (wanted : Service) (n : ℕ) (events : List Event) (labels : List Label) → AreOf events labels → IsOf events wanted n → HasOne (λ m. (m.label.first ≡ n) × IsSame wanted m) (measured_of events labels)
measured_from wanted n [] labels e h = absurd h
measured_from wanted n (event ∷ events) [] e h = absurd (cc)
measured_from wanted n (event ∷ events) (label ∷ labels) e (inl h) =
    let same = heads label.first event.number (map (λ (l : Label). l.first) labels) (map (λ (v : Event). v.number) events) e in
    one_left (λ m. (m.label.first ≡ n) × IsSame wanted m) (measured_at (measured_name event.kind) event.place label) (measured_of events labels)
    (measured_one wanted event.place label n (measured_name event.kind) (same.0 ∙ h.0) h.1)
measured_from wanted n (event ∷ events) (label ∷ labels) e (inr h) =
    let same = heads label.first event.number (map (λ (l : Label). l.first) labels) (map (λ (v : Event). v.number) events) e in
    one_right (λ m. (m.label.first ≡ n) × IsSame wanted m) (measured_at (measured_name event.kind) event.place label) (measured_of events labels)
    (measured_from wanted n events labels same.1 h)

-- each of them is a measurement of the event list
abbrev IsListed : List Event → Measured → Type 0
IsListed events m = (wanted : Service) → IsSame wanted m → IsOf events wanted m.label.first

listed_one : (event : Event) (events : List Event) (place : List ℕ) (label : Label) (name : Option (List ℕ)) → label.first ≡ event.number → ((wanted : Service) → IsTrue (names_service wanted place name) → IsTrue (is_of wanted event)) → HasEach (IsListed (event ∷ events)) (measured_at name place label)
listed_one event events place label None e is = tt
listed_one event events place label (Some name) e is = ((λ wanted h. inl (sym e, is wanted h)), tt)

pub listed : (events : List Event) (labels : List Label) → AreOf events labels → HasEach (IsListed events) (measured_of events labels)
listed [] labels e = tt
listed (event ∷ events) [] e = tt
listed (event ∷ events) (label ∷ labels) e =
    let same = heads label.first event.number (map (λ (l : Label). l.first) labels) (map (λ (v : Event). v.number) events) e in
    each_append (IsListed (event ∷ events)) (measured_at (measured_name event.kind) event.place label) (measured_of events labels)
    (listed_one event events event.place label (measured_name event.kind) same.0 (λ wanted h. h))
    (each_map (IsListed events) (IsListed (event ∷ events)) (measured_of events labels) (λ m h wanted is. inr (h wanted is)) (listed events labels same.1))

-- what is so of each label is so of each label of theirs
labelled_one : (P : Label → Type 0) (place : List ℕ) (label : Label) (name : Option (List ℕ)) → P label → HasEach (λ m. P m.label) (measured_at name place label)
labelled_one P place label None h = tt
labelled_one P place label (Some name) h = (h, tt)

pub each_labelled : (P : Label → Type 0) (events : List Event) (labels : List Label) → All P labels → HasEach (λ m. P m.label) (measured_of events labels)
each_labelled P [] labels h = tt
each_labelled P (event ∷ events) [] h = tt
each_labelled P (event ∷ events) (label ∷ labels) h =
    each_append (λ m. P m.label) (measured_at (measured_name event.kind) event.place label) (measured_of events labels)
    (labelled_one P event.place label (measured_name event.kind) (All-head P label labels h))
    (each_labelled P events labels (All-tail P label labels h))

-- their numbers rise
rises_one : (i : ℕ) (place : List ℕ) (label : Label) (name : Option (List ℕ)) (rest : List Measured) → label.first ≡ i → RisesFrom (i + 1) rest → RisesFrom i (measured_at name place label ++ rest)
rises_one i place label None rest e h = rises_later i (i + 1) rest (omega arith) h
rises_one i place label (Some name) rest e h = (omega arith, subst (λ k. RisesFrom (k + 1) rest) (sym e) h)

pub measured_rises : (i n : ℕ) (events : List Event) (labels : List Label) → map (λ (label : Label). label.first) labels ≡ range_with_len i n → RisesFrom i (measured_of events labels)
measured_rises i n [] labels e = tt
measured_rises i n (event ∷ events) [] e = tt
measured_rises i zero (event ∷ events) (label ∷ labels) e = absurd (cc)
measured_rises i (suc n) (event ∷ events) (label ∷ labels) e =
    let same = heads label.first i (map (λ (l : Label). l.first) labels) (range_with_len (i + 1) n) e in
    rises_one i event.place label (measured_name event.kind) (measured_of events labels) same.0 (measured_rises (i + 1) n events labels same.1)

-- there are as many of a service as the event list has
count_one : (wanted : Service) (event : Event) (place : List ℕ) (label : Label) (name : Option (List ℕ)) (test : Bool) (rest : List Measured) → test ≡ names_service wanted place name → count_by (λ m. is_same wanted m.service) (measured_at name place label ++ rest) ≡ cond test 1 0 + count_by (λ m. is_same wanted m.service) rest
count_one wanted event place label None test rest e = sym (ap (λ (b : Bool). cond b 1 0 + count_by (λ m. is_same wanted m.service) rest) e ∙ zero-add (count_by (λ m. is_same wanted m.service) rest))
count_one wanted event place label (Some name) test rest e =
    sum_by-cons (λ (m : Measured). cond (is_same wanted m.service) 1 0) (record { label = label; service = service name place }) rest ∙ sym (ap (λ (b : Bool). cond b 1 0 + count_by (λ m. is_same wanted m.service) rest) e)

pub measured_count : (wanted : Service) (events : List Event) (labels : List Label) → AreOf events labels → count_by (λ m. is_same wanted m.service) (measured_of events labels) ≡ count_of events wanted
measured_count wanted [] labels e = refl
measured_count wanted (event ∷ events) [] e = absurd (cc)
measured_count wanted (event ∷ events) (label ∷ labels) e =
    let same = heads label.first event.number (map (λ (l : Label). l.first) labels) (map (λ (v : Event). v.number) events) e in
    count_one wanted event event.place label (measured_name event.kind) (is_of wanted event) (measured_of events labels) refl
    ∙ ap (λ n. cond (is_of wanted event) 1 0 + n) (measured_count wanted events labels same.1)
    ∙ sym (sum_by-cons (λ (v : Event). cond (is_of wanted v) 1 0) event events)

length_one : (place : List ℕ) (label : Label) (name : Option (List ℕ)) (rest : List Measured) (n : ℕ) → length rest ≤ n → length (measured_at name place label ++ rest) ≤ n + 1
length_one place label None rest n le = omega arith
length_one place label (Some name) rest n le = omega arith

pub length-measured_of : (events : List Event) (labels : List Label) → length (measured_of events labels) ≤ length labels
length-measured_of [] labels = omega arith
length-measured_of (event ∷ events) [] = omega arith
length-measured_of (event ∷ events) (label ∷ labels) =
    omega (arith, length_one event.place label (measured_name event.kind) (measured_of events labels) (length labels) (length-measured_of events labels))

-- the events and the labels of a phrase
pub are_of_phrase : (phrase : Term) (root : List ℕ) → AreOf (events_of phrase root 0) (labels_of phrase 0 0)
are_of_phrase phrase root = firsts_are phrase 0 0 ∙ sym (numbers_are phrase root 0)

pub same_length : (phrase : Term) (root : List ℕ) → length (events_of phrase root 0) ≡ length (labels_of phrase 0 0)
same_length phrase root =
    sym (length-map (events_of phrase root 0) (λ (event : Event). event.number)) ∙ ap length (numbers_are phrase root 0) ∙ length-range_with_len 0 (event_count phrase) ∙ sym (length-labels_of phrase 0 0)

-- a measurement is an event
of_range : (i count n : ℕ) (events : List Event) (wanted : Service) → map (λ (event : Event). event.number) events ≡ range_with_len i count → IsOf events wanted n → (i ≤ n) × (n < i + count)
of_range i count n [] wanted e h = absurd h
of_range i zero n (event ∷ events) wanted e h = absurd (cc)
of_range i (suc count) n (event ∷ events) wanted e (inl h) =
    let same = heads event.number i (map (λ (v : Event). v.number) events) (range_with_len (i + 1) count) e in
    let first = same.0 in
    let is = h.0 in
    (omega arith, omega arith)
of_range i (suc count) n (event ∷ events) wanted e (inr h) =
    let same = heads event.number i (map (λ (v : Event). v.number) events) (range_with_len (i + 1) count) e in
    let w = of_range (i + 1) count n events wanted same.1 h in
    (omega (arith, w.0), omega (arith, w.1))

pub of_event : (phrase : Term) (root : List ℕ) (wanted : Service) (n : ℕ) → IsOf (events_of phrase root 0) wanted n → IsEvent phrase 0 n
of_event phrase root wanted n h =
    let w = of_range 0 (event_count phrase) n (events_of phrase root 0) wanted (numbers_are phrase root 0) h in
    record { from = w.0; below = w.1 }

-- a list whose image is the event list is as long as the labels
pub mapped_length : {A : Type 0} (f : A → Event) (xs : List A) (phrase : Term) (root : List ℕ) → map f xs ≡ events_of phrase root 0 → length xs ≡ length (labels_of phrase 0 0)
mapped_length f xs phrase root e = sym (length-map xs f) ∙ ap length e ∙ same_length phrase root

-- a phrase has few labels and few measurements
pub few_labels : (phrase : Term) (labels : List Label) → IsSized phrase → labels ≡ labels_of phrase 0 0 → length labels < 4294967296
few_labels phrase labels sized e =
    let few : event_count phrase ≤ EVENTS = sized.events in
    omega (arith, ap (λ (ls : List Label). length ls) e, length-labels_of phrase 0 0)

pub few_measured : (phrase : Term) (root : List ℕ) (measured : List Measured) → IsSized phrase → measured ≡ measured_of (events_of phrase root 0) (labels_of phrase 0 0) → length measured < 4294967296
few_measured phrase root measured sized e =
    let few = few_labels phrase (labels_of phrase 0 0) sized refl in
    omega (arith, ap (λ (ms : List Measured). length ms) e, length-measured_of (events_of phrase root 0) (labels_of phrase 0 0))
