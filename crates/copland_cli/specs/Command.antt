-- The commands of the program, each with its number or its text.
use Rattle.std.specs.Prelude.{ℕ, List}
use Rattle.copland_cli.specs.declared.words.Command.{Command as CodeCommand}
use Rattle.copland_cli.specs.declared.words.Command.TheVariants as code

pub data Command : Type 0 where
  Check : Command
  Shape : Command
  Events : Command
  Code : Command
  Eval : Command
  -- the number of its schedule
  Walk : ℕ → Command
  -- the text of its claims
  Order : List ℕ → Command
  -- the text of its policy
  Choose : List ℕ → Command
  -- the number of workers
  Attest : ℕ → Command
  Appraise : Command
  Upgrade : Command
  -- the number of its job
  Load : ℕ → Command
  Audit : Command
  -- the number of its schedule
  Record : ℕ → Command

-- the command that the program holds
abbrev pub command_view : CodeCommand → Command
command_view code.Check = Check
command_view code.Shape = Shape
command_view code.Events = Events
command_view code.Code = Code
command_view code.Eval = Eval
command_view (code.Walk number) = Walk number
command_view (code.Order text) = Order text.now
command_view (code.Choose text) = Choose text.now
command_view (code.Attest workers) = Attest workers
command_view code.Appraise = Appraise
command_view code.Upgrade = Upgrade
command_view (code.Load number) = Load number
command_view code.Audit = Audit
command_view (code.Record number) = Record number
