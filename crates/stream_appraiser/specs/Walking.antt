-- What the code keeps of an appraisal between heads.
use Rattle.std.specs.Prelude.{◌≡◌, ◌+◌, ◌<◌, ◌^◌, ℕ, List, [], ◌∷◌, ◌++◌, length, map, None}
use Rattle.evidence_types.specs.Shape.{Form, form, nothing, the_nonce, measured, measured_at, sealed, hashed, in_sequence, in_parallel}
use Rattle.appraiser.specs.Expected.{Basis, HasKeys}
use Rattle.appraiser.specs.Fit.{nodes}
use Rattle.stream_appraiser.specs.declared.walk.Walk.{Walk}
use Rattle.stream_appraiser.specs.Open.{AreOpen}
use Rattle.stream_appraiser.specs.Standing.{Standing}

-- the parts of the shape to come, as definitions have them
abbrev pub forms_of : Walk → List Form
forms_of walk = map form walk.forms

-- while no node is a misfit, the walk keeps just how the appraisal stands
pub record IsAt (basis : Basis) (walk : Walk) (standing : Standing) : Type 0 where
  pub forms : forms_of walk ≡ standing.forms
  pub seals : AreOpen basis walk.seals standing.seals
  pub found : walk.found.items ≡ standing.found
  pub held : walk.held.items ≡ standing.held
  pub number : walk.number ≡ standing.number
  pub misfit : walk.misfit ≡ standing.misfit

-- and behind the first misfit, which node it is
pub record Stands (basis : Basis) (walk : Walk) (standing : Standing) : Type 0 where
  pub misfit : walk.misfit ≡ standing.misfit
  pub whole : walk.misfit ≡ None → IsAt basis walk standing

-- there are keys for these parts
abbrev pub AllKeyed : List (List ℕ × List ℕ) → List Form → Type 0
AllKeyed keys [] = Unit {0}
AllKeyed keys (form ∷ forms) = HasKeys keys form × AllKeyed keys forms

-- all nodes of these parts, one after the other
abbrev pub nodes_of : List Form → List Form
nodes_of [] = []
nodes_of (form ∷ forms) = nodes form ++ nodes_of forms

-- the parts to come have keys, and few nodes
pub record IsWalk (keys : List (List ℕ × List ℕ)) (walk : Walk) : Type 0 where
  pub keyed : AllKeyed keys (forms_of walk)
  pub few : walk.number + length (nodes_of (forms_of walk)) < 2 ^ 32

-- the parts of a node of a shape that a value shows
abbrev pub parts_of : Form → List Form
parts_of nothing = []
parts_of the_nonce = []
parts_of (measured event place asp under) = under ∷ []
parts_of (measured_at event place target asp under) = under ∷ []
parts_of (sealed event place under) = under ∷ []
parts_of (hashed event place under) = []
parts_of (in_sequence left right) = left ∷ (right ∷ [])
parts_of (in_parallel left right) = left ∷ (right ∷ [])

-- these parts are to come now, and the number and the misfit are as they were
pub record Leaves (forms : List Form) (old new : Walk) : Type 0 where
  pub forms_are : forms_of new ≡ forms
  pub number : new.number ≡ old.number
  pub misfit : new.misfit ≡ old.misfit
