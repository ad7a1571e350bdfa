-- The value of a phrase fits its shape: both follow one recursion over the phrase.
use Rattle.std.proofs.Common.{◌+◌, ℕ, List, Bool, true, false, refl}
use Rattle.phrase_tree.specs.Term.{Term, cpy, sig, hsh, nul, usm, kim, leaf, at, chain, seq, par}
use Rattle.phrase_tree.specs.Numbering.{event_count}
use Rattle.evidence_types.specs.Evidence.{Evidence, nonce}
use Rattle.evidence_types.specs.Shape.{Fits, Form, arm_shape, shape_at, shape_from, the_nonce}
use Rattle.session_model.specs.Value.{Makings, part, session_value, value_of}

-- what an arm gets of a value fits what it gets of a shape that the value fits
part_fits : (all : Bool) (before : Evidence) (shape : Form) → Fits before shape → Fits (part all before) (arm_shape all shape)
part_fits true before shape h = h
part_fits false before shape h = tt

pub value_fits : (phrase : Term) (place : List ℕ) (i : ℕ) (before : Evidence) (shape : Form) (from : Makings) → Fits before shape → Fits (value_of phrase place i before from) (shape_from phrase place i shape)
value_fits (leaf cpy) place i before shape from h = h
value_fits (leaf sig) place i before shape from h = (refl, h)
value_fits (leaf hsh) place i before shape from h = refl
value_fits (leaf nul) place i before shape from h = tt
value_fits (leaf (usm asp)) place i before shape from h = (refl, h)
value_fits (leaf (kim target asp)) place i before shape from h = (refl, h)
value_fits (at asked body) place i before shape from h = value_fits body asked (i + 1) before shape from h
value_fits (chain left right) place i before shape from h =
    value_fits right place (i + event_count left) (value_of left place i before from) (shape_from left place i shape) from (value_fits left place i before shape from h)
value_fits (seq split left right) place i before shape from h = (
  value_fits left place (i + 1) (part split.left before) (arm_shape split.left shape) from (part_fits split.left before shape h),
  value_fits right place (i + 1 + event_count left) (part split.right before) (arm_shape split.right shape) from (part_fits split.right before shape h),
)
value_fits (par split left right) place i before shape from h = (
  value_fits left place (i + 1) (part split.left before) (arm_shape split.left shape) from (part_fits split.left before shape h),
  value_fits right place (i + 1 + event_count left) (part split.right before) (arm_shape split.right shape) from (part_fits split.right before shape h),
)

pub session_value_fits : (phrase : Term) (root : List ℕ) (from : Makings) → Fits (session_value phrase root from) (shape_at phrase root)
session_value_fits phrase root from = value_fits phrase root 0 (nonce from.nonce) the_nonce from tt
