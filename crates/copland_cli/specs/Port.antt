-- What a run of the program did to its ports.
use Rattle.std.specs.Prelude.{◌≡◌, ◌<◌, ◌≤◌, ◌⊎◌, ◌++◌, ℕ, List, length, Option}
use Rattle.byte_ports.specs.Port.{Gave, IsAtEnd, Rose, Took}

-- a port before a run and after it: the bytes that it had left or had taken, where it tells them, and
-- its count of faults
pub record Port : Type 0 where
  pub bytes_before : Option (List ℕ)
  pub bytes_after : Option (List ℕ)
  pub faults_before : ℕ
  pub faults_after : ℕ

-- a port by its two states, the bytes that each tells and its count of faults
abbrev pub port : {P : Type 0} → (P → Option (List ℕ)) → (P → ℕ) → P → P → Port
port bytes faults before after = record {
  bytes_before = bytes before;
  bytes_after = bytes after;
  faults_before = faults before;
  faults_after = faults after;
}

-- the port met a fault
abbrev pub MetFault : Port → Type 0
MetFault port = Rose port.faults_before port.faults_after

-- the source was not read
pub record IsUnread (source : Port) : Type 0 where
  pub bytes : source.bytes_after ≡ source.bytes_before
  pub faults : source.faults_after ≡ source.faults_before

-- the greatest length of an input
abbrev pub input_limit : ℕ
input_limit = 4194304

-- the source gave more bytes than an input may have
abbrev pub IsTooLong : Port → Type 0
IsTooLong source = (given : List ℕ) × Gave source.bytes_before source.bytes_after given × (input_limit < length given)

-- the source gave no more bytes than an input may have
abbrev pub IsWithin : Port → Type 0
IsWithin source = (given : List ℕ) × Gave source.bytes_before source.bytes_after given × (length given ≤ input_limit)

-- these are the bytes of the source up to its end, and no more than an input may have
pub record IsWhole (source : Port) (bytes : List ℕ) : Type 0 where
  pub given : Gave source.bytes_before source.bytes_after bytes
  pub ended : IsAtEnd source.bytes_after
  pub short : length bytes ≤ input_limit

-- the sink took these bytes, and nothing else
abbrev pub TookAll : Port → List ℕ → Type 0
TookAll sink bytes = Took sink.bytes_before sink.bytes_after bytes

-- the sink met a fault, and took the front of these bytes and nothing else
abbrev pub TookFront : Port → List ℕ → Type 0
TookFront sink bytes =
    MetFault sink × ((front : List ℕ) × (rest : List ℕ) × (bytes ≡ front ++ rest) × TookAll sink front)

-- the sink took the line, or, where it met a fault, the front of it; and nothing else
abbrev pub TookLine : Port → List ℕ → Type 0
TookLine sink line = TookAll sink line ⊎ TookFront sink line
