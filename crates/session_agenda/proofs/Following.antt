-- The moves of an agenda that follows the tables of a session are those that these list.
use Rattle.std.proofs.Common.{◌≡◌, ℕ, ◌+◌, ◌-◌, ◌≤◌, ◌<◌, ◌⊎◌, zero, suc, inl, inr, List, [], ◌∷◌, ◌++◌, refl, sym, ◌∙◌, ap, subst, arith}
use Rattle.std.specs.Prelude.{Bool, true, false, Option, None, Some, map, slice_get}
use Rattle.std.proofs.lemmas.Bool.{cases_eq}
use Rattle.std.proofs.lemmas.List.{map-append}
use Rattle.evidence_types.specs.Evidence.{Evidence}
use Rattle.rising_list.specs.Rising.{find, RisesFrom}
use Rattle.avm_code.specs.declared.instr.BlockName.{BlockName}
use Rattle.machine_tables.specs.Tables.{Tables}
use Rattle.session_runs.specs.MoveOrder.{move_by, moves_by}
use Rattle.session_runs.specs.Standing.{Move as SessionMove, deliver}
use Rattle.session_tables.specs.Touched.{named, any_waits}
use Rattle.session_tables.specs.Agenda.{IsAgenda, delivery_in, deliveries_by, listed_moves}
use Rattle.session_agenda.specs.declared.moves.Task.{Task}
use Rattle.session_agenda.specs.declared.moves.Task.TheVariants.{Runs, Asks}
use Rattle.session_agenda.specs.declared.moves.Mover.{Mover}
use Rattle.session_agenda.specs.declared.agenda.Agenda.{Agenda}
use Rattle.session_agenda.specs.Kept.{step_in, is_there, move_with, deliveries_in, moves_in, IsKept}
use Rattle.session_agenda.specs.Listed.{ready_in, silent_of, events_of}
use Rattle.session_agenda.specs.Placed.{place_at, placed, placed_moves, waits_at, Follows}
use Rattle.session_agenda.proofs.Indexed.{if_same, if_other}
use Rattle.session_agenda.proofs.Listing.{agenda_lists}

-- ---- a delivery at each place where a request waits

abbrev delivered : (ℕ → List ℕ) → List (ℕ × Bool) → List SessionMove
delivered at [] = []
delivered at (entry ∷ rest) = deliver (at entry.0) ∷ delivered at rest

no_waits : (requests : List (ℕ × Evidence)) (place : List ℕ) (rest : List SessionMove) → any_waits requests ≡ false → delivery_in requests place rest ≡ rest
no_waits [] place rest e = refl
no_waits (request ∷ more) place rest e = absurd (cc)

one_waits : (requests : List (ℕ × Evidence)) (place : List ℕ) (rest : List SessionMove) → any_waits requests ≡ true → delivery_in requests place rest ≡ deliver place ∷ rest
one_waits [] place rest e = absurd (cc)
one_waits (request ∷ more) place rest e = refl

both_ways : (b : Bool) → b ≡ true → b ≡ false → ⊥
both_ways b t f = absurd (cc)

ahead : (a b : ℕ) → a ≤ b → (b ≡ a → ⊥) → suc a ≤ b
ahead a b le ne = elim (cases_lt a b le) [
  | inl is ↦ absurd (ne is)
  | inr lt ↦ lt
]
  where
    cases_lt : (a b : ℕ) → a ≤ b → (b ≡ a) ⊎ (suc a ≤ b)
    cases_lt zero zero le = inl refl
    cases_lt zero (suc b) le = inr (omega arith)
    cases_lt (suc a) zero le = absurd (omega (arith, le))
    cases_lt (suc a) (suc b) le = elim (cases_lt a b (omega (arith, le))) [
      | inl is ↦ inl (ap (λ (n : ℕ). suc n) is)
      | inr lt ↦ inr (omega (arith, lt))
    ]

-- nothing is found below where a list begins
below_none : (first k : ℕ) (xs : List (ℕ × Bool)) → RisesFrom first xs → k < first → find k xs ≡ None
below_none first k [] rises lt = refl
below_none first k (x ∷ xs) rises lt =
    if_other (Option Bool) x.0 k (Some x.1) (find k xs) (λ e. omega (arith, e, rises.0, lt)) ∙ below_none (suc x.0) k xs rises.1 (omega (arith, rises.0, lt))

module _ (tables : Tables) (at : ℕ → List ℕ) where
  -- the places from a first one on
  delivered_is : (first : ℕ) (places : List (List ℕ)) (entries : List (ℕ × Bool)) → RisesFrom first entries → ((i j : ℕ) (place : List ℕ) → j ≡ first + i → slice_get places i ≡ Some place → at j ≡ place) → ((i j : ℕ) → j ≡ first + i → is_there (find j entries) ≡ waits_at tables (slice_get places i)) → delivered at entries ≡ deliveries_by tables places
  delivered_is first [] [] rises known waits = refl
  delivered_is first [] (x ∷ xs) rises known waits =
      absurd (both_ways (is_there (find x.0 (x ∷ xs))) (ap is_there (if_same (Option Bool) x.0 x.0 (Some x.1) (find x.0 xs) refl)) (waits (x.0 - first) x.0 (omega (arith, rises.0))))
  delivered_is first (p ∷ ps) [] rises known waits =
      delivered_is (suc first) ps [] tt (λ i j place e g. known (suc i) j place (omega (arith, e)) g) (λ i j e. waits (suc i) j (omega (arith, e)))
      ∙ sym (no_waits (tables.requests p) p (deliveries_by tables ps) (sym (waits 0 first (omega arith))))
  delivered_is first (p ∷ ps) (x ∷ xs) rises known waits = elim (cases_eq x.0 first) [
    | inl is ↦
        ap (λ (q : List ℕ). deliver q ∷ delivered at xs) (known 0 x.0 p (omega (arith, is)) refl)
        ∙ ap (λ (rest : List SessionMove). deliver p ∷ rest) (delivered_is (suc first) ps xs (subst (λ n. RisesFrom (suc n) xs) is rises.1) (λ i j place e g. known (suc i) j place (omega (arith, e)) g) (λ i j e. sym (ap is_there (if_other (Option Bool) x.0 j (Some x.1) (find j xs) (λ same. omega (arith, same, is, e)))) ∙ waits (suc i) j (omega (arith, e))))
        ∙ sym (one_waits (tables.requests p) p (deliveries_by tables ps) (sym (waits 0 first (omega arith)) ∙ ap is_there (if_same (Option Bool) x.0 first (Some x.1) (find first xs) is)))
    | inr ne ↦
        let later : suc first ≤ x.0 = ahead first x.0 rises.0 ne in
        delivered_is (suc first) ps (x ∷ xs) (later, rises.1) (λ i j place e g. known (suc i) j place (omega (arith, e)) g) (λ i j e. waits (suc i) j (omega (arith, e)))
        ∙ sym (no_waits (tables.requests p) p (deliveries_by tables ps) (sym (waits 0 first (omega arith)) ∙ ap is_there (below_none (suc first) first (x ∷ xs) (later, rises.1) (omega arith))))
  ]

some_place : (a b : List ℕ) → ◌≡◌ {A = Option (List ℕ)} (Some a) (Some b) → a ≡ b
some_place a b e = cc

place_is : (places : List (List ℕ)) (i : ℕ) (place : List ℕ) → slice_get places i ≡ Some place → place_at places i ≡ place
place_is [] i place e = absurd (cc)
place_is (p ∷ ps) zero place e = some_place p place e
place_is (p ∷ ps) (suc i) place e = place_is ps i place e

-- ---- the moves of an agenda among the places

deliveries_placed : (places : List (List ℕ)) (xs : List (ℕ × Bool)) → map (placed places) (deliveries_in xs) ≡ delivered (place_at places) xs
deliveries_placed places [] = refl
deliveries_placed places (x ∷ xs) = ap (λ (ms : List SessionMove). deliver (place_at places x.0) ∷ ms) (deliveries_placed places xs)

one_placed : (places : List (List ℕ)) (name : BlockName) (task : Task) → placed places (move_with name task) ≡ move_by (step_in task) (named name)
one_placed places name (Runs event) = refl
one_placed places name (Asks event) = refl

moves_placed : (places : List (List ℕ)) (xs : List (ℕ × Mover)) → map (placed places) (moves_in xs) ≡ moves_by (ready_in xs)
moves_placed places [] = refl
moves_placed places (x ∷ xs) =
    ap (λ (m : SessionMove). m ∷ map (placed places) (moves_in xs)) (one_placed places x.1.name x.1.task)
    ∙ ap (λ (ms : List SessionMove). move_by (step_in x.1.task) (named x.1.name) ∷ ms) (moves_placed places xs)

all_placed : (places : List (List ℕ)) (ds : List (ℕ × Bool)) (ss es : List (ℕ × Mover)) → map (placed places) (deliveries_in ds ++ (moves_in ss ++ moves_in es)) ≡ delivered (place_at places) ds ++ (moves_by (ready_in ss) ++ moves_by (ready_in es))
all_placed places ds ss es =
    map-append (placed places) (deliveries_in ds) (moves_in ss ++ moves_in es)
    ∙ ap (λ (xs : List SessionMove). xs ++ map (placed places) (moves_in ss ++ moves_in es)) (deliveries_placed places ds)
    ∙ ap
    (λ (xs : List SessionMove). delivered (place_at places) ds ++ xs)
    (map-append (placed places) (moves_in ss) (moves_in es)
    ∙ ap (λ (xs : List SessionMove). xs ++ map (placed places) (moves_in es)) (moves_placed places ss)
    ∙ ap (λ (xs : List SessionMove). moves_by (ready_in ss) ++ xs) (moves_placed places es))

pub placed_is : (agenda : Agenda) (tables : Tables) (places : List (List ℕ)) → IsKept agenda → Follows agenda tables places → placed_moves places agenda ≡ listed_moves tables places (silent_of agenda) (events_of agenda)
placed_is agenda tables places kept follows =
    all_placed places agenda.places.entries agenda.silent.entries agenda.events.entries
    ∙ ap
    (λ (xs : List SessionMove). xs ++ (moves_by (silent_of agenda) ++ moves_by (events_of agenda)))
    (delivered_is
    tables
    (place_at places)
    0
    places
    agenda.places.entries
    kept.places_rise
    (λ i j place e g.
    let same : j ≡ i = omega (arith, e) in
    ap (λ (n : ℕ). place_at places n) same ∙ place_is places i place g)
    (λ i j e.
    let same : j ≡ i = omega (arith, e) in
    ap (λ (n : ℕ). is_there (find n agenda.places.entries)) same ∙ follows.waits i))

-- ---- what the blocks can do next

pub follows_agenda : (agenda : Agenda) (tables : Tables) (places : List (List ℕ)) → IsKept agenda → Follows agenda tables places → IsAgenda tables (silent_of agenda) (events_of agenda)
follows_agenda agenda tables places kept follows =
    let lists = agenda_lists agenda kept in
    record {
      silent_rise = lists.silent_rise;
      events_rise = lists.events_rise;
      silent_next = λ one. (λ h. (sym (follows.next one.block) ∙ ((lists.silent_next one).0 h).0, ((lists.silent_next one).0 h).1), λ h. (lists.silent_next one).1 (follows.next one.block ∙ h.0, h.1));
      events_next = λ one. (λ h. (sym (follows.next one.block) ∙ ((lists.events_next one).0 h).0, ((lists.events_next one).0 h).1), λ h. (lists.events_next one).1 (follows.next one.block ∙ h.0, h.1));
    }
