-- Reading a list item by item.
use Rattle.std.proofs.Common.{◌≡◌, ℕ, List, [], ◌∷◌, ◌++◌, refl, ap, sym, Result, Ok, Err, append_assoc}
use Rattle.serde_json.specs.Data.{Data}
use Rattle.serde_json.specs.View.{items_view}
use Rattle.serde_json.specs.declared.value.Value.{Value}
use Rattle.job_reader.specs.Form.{Fault, each, ◌>>=◌}
use Rattle.job_reader.specs.Reading.{ahead, IsReadTo}

ahead-nothing : {A : Type 0} (rest : Result (List A) Fault) → ahead [] rest ≡ rest
ahead-nothing (Ok rest) = refl
ahead-nothing (Err fault) = refl

pub reading-starts : {A : Type 0} (read : ℕ → Data → Result A Fault) (items : List Value) → IsReadTo read items 0 []
reading-starts read items = record { rest = ahead-nothing (each read 0 (items_view items)) }

ahead-one : {A : Type 0} (found : List A) (value : A) (rest : Result (List A) Fault) → ahead found (rest >>= (λ values. Ok (value ∷ values))) ≡ ahead (found ++ value ∷ []) rest
ahead-one found value (Ok rest) = ap (λ list. Ok list) (sym (append_assoc found (value ∷ []) rest))
ahead-one found value (Err fault) = refl
