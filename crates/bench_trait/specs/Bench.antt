-- What a bench may answer.
use Rattle.std.specs.Prelude.{ℕ, List, Result, Ok, Err}
use Rattle.bench_trait.specs.declared.bench.BenchFault.{BenchFault}
use Rattle.bench_trait.specs.declared.bench.MeasureError.{MeasureError}
use Rattle.bench_trait.specs.declared.bench.MeasureError.TheVariants.{Fault, NoMemory}

-- an answer that it gives, a fault with which it fails, or want of memory where it may starve
abbrev pub MatchMeasured : Result (List ℕ) MeasureError → (List ℕ → Type 0) → (BenchFault → Type 0) → Type 0 → Type 0
MatchMeasured (Ok answer) Gives Fails Starves = Gives answer
MatchMeasured (Err (Fault fault)) Gives Fails Starves = Fails fault
MatchMeasured (Err NoMemory) Gives Fails Starves = Starves
