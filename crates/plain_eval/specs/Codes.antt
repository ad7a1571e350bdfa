-- Which codes of places the evaluator keeps.
use Rattle.std.specs.Prelude.{ℕ, List, [], ◌∷◌}
use Rattle.seal_hmac.specs.Fed.{Feeds}
use Rattle.seal_hmac.specs.Keys.{key_at}
use Rattle.plain_eval.specs.declared.keyed.Keyed.{Keyed}

-- each was keyed with the key of its place, and fed nothing
abbrev pub AreKeyed : List (List ℕ × List ℕ) → List Keyed → Type 0
AreKeyed keys [] = Unit {0}
AreKeyed keys (code ∷ codes) = Feeds (key_at keys code.place) [] code.mac × AreKeyed keys codes
