-- Writing all of a list of bytes.
use Rattle.std.specs.Prelude.{◌≡◌, ℕ, List, ◌++◌, Option, Result, Ok, Err}
use Rattle.byte_ports.specs.Port.{Took}

-- all the bytes were taken; or, at a fault, the first of them and no more
abbrev pub WritesAll : {E : Type 0} → Option (List ℕ) → Option (List ℕ) → Result Unit E → List ℕ → Type 0
WritesAll before after (Ok done) bytes = Took before after bytes
WritesAll before after (Err fault) bytes =
    (front : List ℕ) × (rest : List ℕ) × (bytes ≡ front ++ rest) × Took before after front
