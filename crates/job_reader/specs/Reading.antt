-- What the functions that read the parts of a tree answer.
use Rattle.std.specs.Prelude.{◌≡◌, ◌++◌, ℕ, List, drop, Result, Ok, Err}
use Rattle.serde_json.specs.Data.{Data}
use Rattle.serde_json.specs.View.{items_view}
use Rattle.serde_json.specs.declared.value.Value.{Value}
use Rattle.job_reader.specs.declared.form.FormError.{FormError}
use Rattle.job_reader.specs.declared.form.FormError.TheVariants as form_errors
use Rattle.job_reader.specs.Form.{Fault, each}

-- the part, or its first fault; want of memory may come in place of either
abbrev pub Reads : {A B : Type 0} → (A → B) → Result A FormError → Result B Fault → Type 0
Reads view (Ok value) read = read ≡ Ok (view value)
Reads view (Err (form_errors.Fault at kind)) read = read ≡ Err (record { at = at; kind = kind })
Reads view (Err form_errors.NoMemory) read = Unit {0}

-- what was read so far, ahead of what is read of the rest
abbrev pub ahead : {A : Type 0} → List A → Result (List A) Fault → Result (List A) Fault
ahead found (Ok rest) = Ok (found ++ rest)
ahead found (Err fault) = Err fault

-- the items of a list before an index were read, and these were found
pub record IsReadTo {A : Type 0} (read : ℕ → Data → Result A Fault) (items : List Value) (index : ℕ) (found : List A) : Type 0 where
  pub rest : ahead found (each read index (items_view (drop index items))) ≡ each read 0 (items_view items)
