-- When two measurements are the same.
use Rattle.std.specs.Prelude.{◌&&◌, Bool, true, false, List, [], ◌∷◌, nat_eq}
use Rattle.std.specs.Cmp.Lexicographic.{pointwise}
use Rattle.phrase_tree.specs.declared.measurement.Arg.{Arg}
use Rattle.phrase_tree.specs.declared.measurement.Arg.TheVariants.{Word, Number}
use Rattle.phrase_tree.specs.declared.measurement.Asp.{Asp}
use Rattle.bench_trait.specs.declared.ask.AskKind.{AskKind}
use Rattle.bench_trait.specs.declared.ask.AskKind.TheVariants.{Usm, Kim}

-- the same name, or the same number
abbrev pub same_arg : Arg → Arg → Bool
same_arg (Word name) (Word word) = pointwise nat_eq name word
same_arg (Word name) (Number second) = false
same_arg (Number number) (Word word) = false
same_arg (Number number) (Number second) = nat_eq number second

-- the same arguments in the same order
abbrev pub same_args : List Arg → List Arg → Bool
same_args [] [] = true
same_args [] (other ∷ others) = false
same_args (arg ∷ rest) [] = false
same_args (arg ∷ rest) (other ∷ others) = same_arg arg other && same_args rest others

-- the same name with the same arguments
abbrev pub same_asp : Asp → Asp → Bool
same_asp asp other = pointwise nat_eq asp.name other.name && same_args asp.args other.args

-- both of the place itself, or of the same target
abbrev pub same_kind : AskKind → AskKind → Bool
same_kind Usm Usm = true
same_kind Usm (Kim second) = false
same_kind (Kim target) Usm = false
same_kind (Kim target) (Kim second) = pointwise nat_eq target second
