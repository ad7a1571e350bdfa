-- Measurers that fix what they answer, and what a session needs of a book of artefacts to be done.
use Rattle.std.specs.Prelude.{◌≡◌, ℕ, List, [], ◌∷◌, IsSome}
use Rattle.bench_trait.specs.declared.artefacts.Artefact.{Artefact}
use Rattle.bench_trait.specs.declared.ask.Ask.{Ask}
use Rattle.bench_trait.specs.declared.bench.BenchFault.{BenchFault}
use Rattle.bench_trait.specs.Artefacts.{artefact_bytes}
use Rattle.bench_trait.specs.Digest.{artefact_place}
use Rattle.session_model.specs.Record.{Record, done, failed}

-- a question has at most one answer and at most one fault, and not both
pub record IsFixed (Gives : Ask → List ℕ → Type 0) (Fails : Ask → BenchFault → Type 0) : Type 0 where
  pub one_answer : (ask : Ask) (answer other : List ℕ) → Gives ask answer → Gives ask other → answer ≡ other
  pub one_fault : (ask : Ask) (fault other : BenchFault) → Fails ask fault → Fails ask other → fault ≡ other
  pub not_both : (ask : Ask) (answer : List ℕ) (fault : BenchFault) → Gives ask answer → ¬ Fails ask fault

-- a record says that its session is done
abbrev pub SaysDone : Record → Type 0
SaysDone (done trace answers bytes) = Unit {0}
SaysDone (failed event fault trace) = ⊥

-- the artefact that a question is about is there
abbrev pub HasArtefact : List Artefact → Ask → Type 0
HasArtefact artefacts ask = IsSome (artefact_bytes artefacts (artefact_place ask.place ask.kind) ask.asp.name)

-- each artefact that the questions are about is there
abbrev pub HaveArtefacts : List Artefact → List Ask → Type 0
HaveArtefacts artefacts [] = Unit {0}
HaveArtefacts artefacts (ask ∷ asks) = HasArtefact artefacts ask × HaveArtefacts artefacts asks
