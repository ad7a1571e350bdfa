-- Broken rules that were worked outside this project: an edit of the definitions is refused here.
use Rattle.std.proofs.Common.{◌≡◌, ℕ, List, [], ◌∷◌, None, Some, true, refl}
use Rattle.std.specs.Prelude.{codes}
use Rattle.phrase_tree.specs.declared.measurement.Asp.{Asp}
use Rattle.phrase_tree.specs.Term.{cpy, usm, kim, leaf, at, chain, par}
use Rattle.place_check.specs.declared.entry.PlaceEntry.{PlaceEntry}
use Rattle.place_check.specs.declared.entry.PlaceKind.TheVariants.{UnknownPlace, MayNotAsk, NotOffered, MayNotSee}
use Rattle.place_check.specs.Places.{keys_of, place_index, repeats}
use Rattle.place_check.specs.Rules.{faults}

abbrev bank : List ℕ
bank = codes "bank"

abbrev q : List ℕ
q = codes "q"

abbrev places : List PlaceEntry
places =
    record { name = bank; key = 1 ∷ []; asks = q ∷ []; sees = q ∷ []; offers = codes "scan" ∷ codes "a" ∷ codes "b" ∷ [] }
    ∷ record { name = q; key = 2 ∷ []; asks = []; sees = []; offers = codes "scan" ∷ [] } ∷ []

abbrev asp : List ℕ → Asp
asp name = record { name = name; args = [] }

a_request_that_is_allowed : faults places bank (at q (leaf (usm (asp (codes "scan"))))) ≡ []
a_request_that_is_allowed = refl

not_offered_where_it_is_asked : faults places bank (at q (leaf (usm (asp (codes "a"))))) ≡ (1, NotOffered) ∷ []
not_offered_where_it_is_asked = refl

a_place_that_asks_back : faults places bank (at q (at bank (leaf cpy))) ≡ (1, MayNotAsk) ∷ []
a_place_that_asks_back = refl

a_request_to_no_place : faults places bank (chain (at (codes "zz") (leaf cpy)) (leaf (usm (asp (codes "x"))))) ≡ (0, UnknownPlace) ∷ (0, MayNotAsk) ∷ (3, NotOffered) ∷ []
a_request_to_no_place = refl

a_place_does_not_see_itself : faults places bank (leaf (kim bank (asp (codes "scan")))) ≡ (0, MayNotSee) ∷ []
a_place_does_not_see_itself = refl

a_target_that_is_seen : faults places bank (leaf (kim q (asp (codes "a")))) ≡ []
a_target_that_is_seen = refl

a_target_that_is_no_place : faults places q (leaf (kim (codes "zz") (asp (codes "a")))) ≡ (0, UnknownPlace) ∷ (0, NotOffered) ∷ (0, MayNotSee) ∷ []
a_target_that_is_no_place = refl

both_arms_are_checked : faults places q (par (record { left = true; right = true }) (leaf (usm (asp (codes "a")))) (leaf (usm (asp (codes "b"))))) ≡ (1, NotOffered) ∷ (2, NotOffered) ∷ []
both_arms_are_checked = refl

places_by_name : place_index places q ≡ Some 1
places_by_name = refl

keys_in_order : keys_of places ≡ (bank, 1 ∷ []) ∷ (q, 2 ∷ []) ∷ []
keys_in_order = refl

abbrev named : List ℕ → PlaceEntry
named name = record { name = name; key = []; asks = []; sees = []; offers = [] }

the_least_index_that_it_repeats : repeats (named q ∷ named bank ∷ named bank ∷ named bank ∷ []) 3 ≡ Some 1
the_least_index_that_it_repeats = refl

the_first_of_a_name_repeats_none : repeats (named q ∷ named bank ∷ named bank ∷ []) 1 ≡ None
the_first_of_a_name_repeats_none = refl
