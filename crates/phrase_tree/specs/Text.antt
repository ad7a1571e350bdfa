-- The text of a measurement, as it stands in phrases and in reports (this project's own), and which
-- measurements can be written.
use Rattle.std.specs.Prelude.{◌≤◌, ◌<◌, ◌^◌, ◌++◌, ℕ, List, [], ◌∷◌, length, decimal}
use Rattle.phrase_tree.specs.declared.measurement.Arg.{Arg}
use Rattle.phrase_tree.specs.declared.measurement.Arg.TheVariants.{Word, Number}
use Rattle.phrase_tree.specs.declared.measurement.Asp.{Asp}
use Rattle.phrase_tree.specs.Name.{IsName}

-- an argument: the name itself, or the number in decimal digits
abbrev pub arg_text : Arg → List ℕ
arg_text (Word name) = name
arg_text (Number number) = decimal number

-- each argument with a space before it
abbrev pub args_text : List Arg → List ℕ
args_text [] = []
args_text (arg ∷ rest) = 32 ∷ (arg_text arg ++ args_text rest)

-- a name, and the arguments
abbrev pub asp_text : Asp → List ℕ
asp_text asp = asp.name ++ args_text asp.args

-- an argument that can be written: a name, or a number of 32 bits
abbrev pub IsArg : Arg → Type 0
IsArg (Word name) = IsName name
IsArg (Number number) = number < 2 ^ 32

abbrev pub AreArgs : List Arg → Type 0
AreArgs [] = Unit {0}
AreArgs (arg ∷ rest) = IsArg arg × AreArgs rest

-- a measurement that can be written: its name is a name, and it has at most four arguments
pub record IsAsp (asp : Asp) : Type 0 where
  pub named : IsName asp.name
  pub few : length asp.args ≤ 4
  pub args : AreArgs asp.args
