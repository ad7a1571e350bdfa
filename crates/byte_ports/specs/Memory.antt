-- Ports in memory.
use Rattle.std.specs.Prelude.{◌≡◌, ◌+◌, ℕ, min, List, Contains, Result, Ok, Err}
use Rattle.byte_ports.specs.declared.port.PortFailed.{PortFailed}
use Rattle.byte_ports.specs.Port.{last_count}

-- how a port in memory behaves: its greatest size of a call, the numbers of the calls that fail, how
-- many calls there were, and how many of them failed
pub record Behaviour : Type 0 where
  pub most : ℕ
  pub failing : List ℕ
  pub calls : ℕ
  pub faults : ℕ

-- a port in memory: the bytes that it has left or took, and how it behaves
pub record MemoryPort : Type 0 where
  pub bytes : List ℕ
  pub behaviour : Behaviour

-- one more call
abbrev pub after_call : Behaviour → ℕ → Behaviour
after_call old faults = record old { calls = min (old.calls + 1) last_count; faults = faults }

-- a call for some bytes: it may have as many as the greatest size; or it fails, exactly where its
-- number is among those that fail
abbrev pub Calls : Behaviour → Behaviour → Result ℕ PortFailed → ℕ → Type 0
Calls old new (Ok count) len = ¬ (Contains old.failing old.calls) × (count ≡ min len old.most) × (new ≡ after_call old old.faults)
Calls old new (Err failed) len = Contains old.failing old.calls × (new ≡ after_call old (min (old.faults + 1) last_count))

-- a call for some bytes of a sink that takes memory: as above, and it may fail for want of memory too
abbrev pub CallsForMemory : Behaviour → Behaviour → Result ℕ PortFailed → ℕ → Type 0
CallsForMemory old new (Ok count) len = Calls old new (Ok count) len
CallsForMemory old new (Err failed) len = new ≡ after_call old (min (old.faults + 1) last_count)
