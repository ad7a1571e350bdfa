-- Which commands are known where, and what each reads.
use Rattle.copland_cli.specs.Command.{Command, Check, Shape, Events, Code, Eval, Walk, Order, Choose, Attest, Appraise, Upgrade, Load, Audit, Record}
use Rattle.copland_cli.specs.declared.input.BundleNeed.TheVariants.{Optional, Required}
use Rattle.copland_cli.specs.declared.input.Input.{Input}
use Rattle.copland_cli.specs.declared.input.Input.TheVariants.{Nothing, Job}

-- the command runs on one thread
abbrev pub IsPlain : Command → Type 0
IsPlain Check = Unit {0}
IsPlain Shape = Unit {0}
IsPlain Events = Unit {0}
IsPlain Code = Unit {0}
IsPlain Eval = Unit {0}
IsPlain (Walk number) = Unit {0}
IsPlain (Order text) = Unit {0}
IsPlain (Choose text) = Unit {0}
IsPlain (Attest workers) = ⊥
IsPlain Appraise = Unit {0}
IsPlain Upgrade = Unit {0}
IsPlain (Load number) = Unit {0}
IsPlain Audit = Unit {0}
IsPlain (Record number) = Unit {0}

-- with threads every command runs
abbrev pub IsAny : Command → Type 0
IsAny command = Unit {0}

-- what a command reads
abbrev pub input_of : Command → Input
input_of Check = Job Optional
input_of Shape = Job Optional
input_of Events = Job Optional
input_of Code = Job Optional
input_of Eval = Job Optional
input_of (Walk number) = Job Optional
input_of (Order text) = Job Optional
input_of (Choose text) = Job Optional
input_of (Attest workers) = Job Optional
input_of Appraise = Job Required
input_of Upgrade = Job Required
input_of (Load number) = Nothing
input_of Audit = Job Required
input_of (Record number) = Job Optional

-- any accepted job will do, with or without a bundle
abbrev pub IsOfAny : Input → Type 0
IsOfAny Nothing = ⊥
IsOfAny (Job Optional) = Unit {0}
IsOfAny (Job Required) = ⊥
