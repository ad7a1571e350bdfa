use Rattle.std.proofs.Common.{ap, ◌∙◌}
use Rattle.machine_world.specs.Answers.{next_by_book}
use Rattle.session_book.specs.Kept.{book_of}
use Rattle.session_core.proofs.steps.Core.task.Goals as goal

pub returns-in-Asks : goal.returns-in-Asks
returns-in-Asks c =
    let core = c.args.self.now in
    let book = book_of core.world.store.values core.book in
    c.next.ensures book ∙ ap (next_by_book book) c.in-Asks.is ∙ c.task_of_ask.ensures
