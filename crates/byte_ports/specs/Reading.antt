-- Reading a source to its end.
use Rattle.std.specs.Prelude.{◌<◌, ◌≤◌, ℕ, List, length, Option, Result, Ok, Err}
use Rattle.byte_ports.specs.Port.{Gave, IsAtEnd}
use Rattle.byte_ports.specs.declared.reading.ReadAllError.{ReadAllError}
use Rattle.byte_ports.specs.declared.reading.ReadAllError.TheVariants.{ReadFault, TooLong, NoMemory}

-- the source was read to its end, within the limit; or it gave more than the limit; or no more than
-- the limit, before a fault or for want of memory
abbrev pub ReadsToEnd : Option (List ℕ) → Option (List ℕ) → ℕ → Result (List ℕ) ReadAllError → Type 0
ReadsToEnd before after limit (Ok bytes) = Gave before after bytes × IsAtEnd after × (length bytes ≤ limit)
ReadsToEnd before after limit (Err TooLong) = (given : List ℕ) × Gave before after given × (limit < length given)
ReadsToEnd before after limit (Err ReadFault) = (given : List ℕ) × Gave before after given × (length given ≤ limit)
ReadsToEnd before after limit (Err NoMemory) = (given : List ℕ) × Gave before after given × (length given ≤ limit)
