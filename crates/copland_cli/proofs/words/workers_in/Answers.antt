-- Words spell one command only.
use Rattle.copland_cli.specs.Command.{command_view}
use Rattle.copland_cli.specs.Words.{texts}
use Rattle.copland_cli.proofs.WordLemmas.{workers_in}
use Rattle.copland_cli.proofs.words.workers_in.Goals as goal

pub returns-in-Some : goal.returns-in-Some
returns-in-Some c =
    workers_in (texts c.args.words.now) (command_view c.in-Some.command) c.workers_by.result c.in-Some.ensures c.workers_by.ensures
