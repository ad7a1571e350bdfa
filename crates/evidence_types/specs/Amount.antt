-- What a value comes to by each measure.
use Rattle.std.specs.Prelude.{ℕ, length}
use Rattle.evidence_types.specs.declared.measure.Measure.{Measure}
use Rattle.evidence_types.specs.declared.measure.Measure.TheVariants.{Weight, Nest}
use Rattle.evidence_types.specs.Bytes.{encoding, nesting}
use Rattle.evidence_types.specs.Evidence.{Evidence}

-- its bytes, and how deep it nests
abbrev pub amount : Measure → Evidence → ℕ
amount Weight value = length (encoding value)
amount Nest value = nesting value
