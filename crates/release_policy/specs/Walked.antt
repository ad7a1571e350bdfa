-- The disclosures of a phrase over lists of the measurements that evidence holds, and the first denial.
use Rattle.std.specs.Prelude.{◌≡◌, ◌+◌, ℕ, Bool, List, [], ◌∷◌, ◌++◌, map, Option, None, Some, Result, Ok, Err, if◌then◌else◌}
use Rattle.std.specs.List.{filter_map}
use Rattle.phrase_tree.specs.Term.{Term, Leaf, cpy, sig, hsh, nul, usm, kim, leaf, at, chain, seq, par}
use Rattle.phrase_tree.specs.Numbering.{event_count}
use Rattle.place_check.specs.Rules.{first}
use Rattle.release_policy.specs.declared.denied.Denial.{Denial}
use Rattle.release_policy.specs.declared.walk.Stop.{Stop}
use Rattle.release_policy.specs.declared.walk.Stop.TheVariants.{Denied, NoMemory}
use Rattle.release_policy.specs.declared.held.Cover.TheVariants.{Bare, Hashed}
use Rattle.release_policy.specs.declared.held.Held.{Held}
use Rattle.release_policy.specs.declared.rule.Rule.{Rule}
use Rattle.release_policy.specs.Covered.{held, under_seal}
use Rattle.release_policy.specs.Denials.{denial_of}
use Rattle.release_policy.specs.Disclosures.{Disclosure, disclosed}

-- a measurement under a seal, and under a hash
abbrev pub seal_held : Held → Held
seal_held what = held what.event what.place what.measurement (under_seal what.cover)

abbrev pub hash_held : Held → Held
hash_held what = held what.event what.place what.measurement Hashed

-- what an arm of a branch starts with
abbrev pub arm_held : Bool → List Held → List Held
arm_held gets_all before = if gets_all then before else []

-- what a leaf makes of measurements
abbrev pub leaf_held : Leaf → List ℕ → ℕ → List Held → List Held
leaf_held cpy place i before = before
leaf_held sig place i before = map seal_held before
leaf_held hsh place i before = map hash_held before
leaf_held nul place i before = []
leaf_held (usm asp) place i before = held i place asp.name Bare ∷ before
leaf_held (kim target asp) place i before = held i place asp.name Bare ∷ before

-- what a phrase makes of measurements
abbrev pub held_from : Term → List ℕ → ℕ → List Held → List Held
held_from (leaf form) place i before = leaf_held form place i before
held_from (at asked body) place i before = held_from body asked (i + 1) before
held_from (chain left right) place i before =
    held_from right place (i + event_count left) (held_from left place i before)
held_from (seq split left right) place i before =
    held_from left place (i + 1) (arm_held split.left before) ++ held_from right place (i + 1 + event_count left) (arm_held split.right before)
held_from (par split left right) place i before =
    held_from left place (i + 1) (arm_held split.left before) ++ held_from right place (i + 1 + event_count left) (arm_held split.right before)

-- what a phrase discloses of measurements
abbrev pub told_from : Term → List ℕ → ℕ → List Held → List Disclosure
told_from (leaf form) place i before = []
told_from (at asked body) place i before =
    disclosed i asked before ++ (told_from body asked (i + 1) before ++ disclosed (i + 1 + event_count body) place (held_from body asked (i + 1) before))
told_from (chain left right) place i before =
    told_from left place i before ++ told_from right place (i + event_count left) (held_from left place i before)
told_from (seq split left right) place i before =
    told_from left place (i + 1) (arm_held split.left before) ++ told_from right place (i + 1 + event_count left) (arm_held split.right before)
told_from (par split left right) place i before =
    told_from left place (i + 1) (arm_held split.left before) ++ told_from right place (i + 1 + event_count left) (arm_held split.right before)

-- the first denial among disclosures
abbrev pub first_denied : List Rule → List Disclosure → Option Denial
first_denied policy all = first (filter_map (denial_of policy) all)

-- a walk is stopped by the first denial; want of memory may stop it anywhere
abbrev pub IsStoppedBy : Option Denial → Stop → Type 0
IsStoppedBy found (Denied denial) = found ≡ Some denial
IsStoppedBy found NoMemory = Unit {0}

-- a walk goes to its end where nothing is denied
abbrev pub StopsAt : {A : Type 0} → Option Denial → Result A Stop → Type 0
StopsAt found (Ok value) = found ≡ None
StopsAt found (Err stop) = IsStoppedBy found stop
