-- The program's own bench, which measures by digests. Its message is this project's own.
use Rattle.std.specs.Prelude.{◌≡◌, ℕ, List, [], ◌∷◌, ◌++◌, Option, None, decimal}
use Rattle.std.specs.Option.{option_map}
use Rattle.sha2.specs.Sha256.{sha256}
use Rattle.phrase_tree.specs.declared.measurement.Arg.{Arg}
use Rattle.phrase_tree.specs.declared.measurement.Arg.TheVariants.{Word, Number}
use Rattle.phrase_tree.specs.declared.measurement.Asp.{Asp}
use Rattle.bench_trait.specs.declared.artefacts.Artefact.{Artefact}
use Rattle.bench_trait.specs.declared.ask.Ask.{Ask}
use Rattle.bench_trait.specs.declared.ask.AskKind.{AskKind}
use Rattle.bench_trait.specs.declared.ask.AskKind.TheVariants.{Usm, Kim}
use Rattle.bench_trait.specs.declared.bench.BenchFault.{BenchFault}
use Rattle.bench_trait.specs.declared.bench.BenchFault.TheVariants.{NoArtefact}
use Rattle.bench_trait.specs.Artefacts.{artefact_bytes}

-- the text of an argument: a name, or a number in decimal
abbrev pub arg_text : Arg → List ℕ
arg_text (Word name) = name
arg_text (Number n) = decimal n

-- the arguments' texts, each with a zero byte behind it
abbrev pub args_text : List Arg → List ℕ
args_text [] = []
args_text (arg ∷ rest) = arg_text arg ++ (0 ∷ args_text rest)

-- what is digested: the measurement's name and a zero byte, its arguments, and the artefact
abbrev pub digest_message : Asp → List ℕ → List ℕ
digest_message asp bytes = asp.name ++ (0 ∷ (args_text asp.args ++ bytes))

-- where the artefact stands: at the place itself, or at the target
abbrev pub artefact_place : List ℕ → AskKind → List ℕ
artefact_place place Usm = place
artefact_place place (Kim target) = target

-- the answer to a question: the digest over the artefact of the measurement's name; none without one
abbrev pub digest_answer : List Artefact → Ask → Option (List ℕ)
digest_answer artefacts ask =
    option_map
    (λ bytes. sha256 (digest_message ask.asp bytes))
    (artefact_bytes artefacts (artefact_place ask.place ask.kind) ask.asp.name)

-- the one fault, at a question that has no answer
pub record LacksArtefact (artefacts : List Artefact) (ask : Ask) (fault : BenchFault) : Type 0 where
  pub lacking : digest_answer artefacts ask ≡ None
  pub named : fault ≡ NoArtefact
