-- The measurements that evidence holds, and how each is covered. They are this project's own.
use Rattle.std.specs.Prelude.{ℕ, List, [], ◌∷◌, ◌++◌}
use Rattle.evidence_types.specs.Shape.{Form, nothing, the_nonce, measured, measured_at, sealed, hashed, in_sequence, in_parallel}
use Rattle.release_policy.specs.declared.held.Cover.{Cover}
use Rattle.release_policy.specs.declared.held.Cover.TheVariants.{Bare, Sealed, Hashed}
use Rattle.release_policy.specs.declared.held.Held.{Held}

-- how what lies under a seal is covered: hashed where it also lies under a hash
abbrev pub under_seal : Cover → Cover
under_seal Bare = Sealed
under_seal Sealed = Sealed
under_seal Hashed = Hashed

-- a measurement of an event, at a place, by its name
abbrev pub held : ℕ → List ℕ → List ℕ → Cover → Held
held event place measurement cover =
    record { event = event; place = place; measurement = measurement; cover = cover }

-- the measurements of a shape in preorder, where what stands above the shape covers it so
abbrev pub covered : Cover → Form → List Held
covered cover nothing = []
covered cover the_nonce = []
covered cover (measured event place asp under) = held event place asp.name cover ∷ covered cover under
covered cover (measured_at event place target asp under) = held event place asp.name cover ∷ covered cover under
covered cover (sealed event place under) = covered (under_seal cover) under
covered cover (hashed event place under) = covered Hashed under
covered cover (in_sequence left right) = covered cover left ++ covered cover right
covered cover (in_parallel left right) = covered cover left ++ covered cover right

-- the measurements of a whole shape: hashed where a hash stands above, else sealed where a seal does, and
-- else bare
abbrev pub measurements : Form → List Held
measurements shape = covered Bare shape
