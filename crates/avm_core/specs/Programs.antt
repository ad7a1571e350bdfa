-- Which programs are ones to run.
use Rattle.std.specs.Prelude.{ℕ, List}
use Rattle.std.specs.List.{AllByRecursion}
use Rattle.phrase_tree.specs.Term.{Term}
use Rattle.phrase_tree.specs.Numbering.{IsSized}
use Rattle.avm_compile.specs.Program.{program_of}
use Rattle.avm_code.specs.declared.program.Block.{Block}
use Rattle.avm_core.specs.Machine.{HasKeys, Runs}

-- the ring has a key of the block's place, if the block seals
abbrev pub IsKeyed : List (List ℕ × List ℕ) → Block → Type 0
IsKeyed keys one = HasKeys keys one.place one.code

-- the program of every sized phrase is one to run, with keys of the places at which its blocks seal
abbrev pub ProgramsRun : Type 0
ProgramsRun =
    (phrase : Term) (place : List ℕ) (keys : List (List ℕ × List ℕ)) → IsSized phrase → AllByRecursion (IsKeyed keys) (program_of phrase place) → Runs (program_of phrase place) keys
