-- A phrase may end where no bracket is open and a unit may end.
use Rattle.std.proofs.Common.{sym, ◌∙◌}
use Rattle.phrase_reader.proofs.Frames.{finished_empty, finished_open}
use Rattle.phrase_reader.proofs.state.State.is_finished.Goals as goal

pub returns-then-is_empty : goal.returns-then-is_empty
returns-then-is_empty c =
    c.has_unit.ensures ∙ sym (finished_empty c.args.self.now (sym c.is_empty.ensures ∙ c.if-is_empty.true))

pub returns-else-is_empty : goal.returns-else-is_empty
returns-else-is_empty c =
    c.if-is_empty.false ∙ sym (finished_open c.args.self.now (sym c.is_empty.ensures ∙ c.if-is_empty.false))
