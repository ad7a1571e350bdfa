use Rattle.std.proofs.Common.{◌≡◌, Some, ap, ◌∙◌, if◌then◌else◌}
use Rattle.evidence_types.specs.Evidence.{Evidence}
use Rattle.evidence_store.specs.Kept.{value_at}
use Rattle.machine_tables.specs.Tables.{Tables, put_reply}
use Rattle.machine_world.specs.declared.world.World.{World}
use Rattle.machine_world.specs.Cells.{tables_of}
use Rattle.machine_world.specs.Calls.{runner_at}
use Rattle.machine_world.proofs.EndLemmas.{end-root, end-number}
use Rattle.machine_world.proofs.world.World.finish.Goals as goal

pub returns-in-Root-clause-tables : goal.returns-in-Root-clause-tables
returns-in-Root-clause-tables c = λ book.
    let world = c.args.self.now in
    let value = value_at world.store.values c.args.evidence in
    c.close.ensures.tables book ∙ end-root c.args.name (runner_at world c.args.index).remote value world book c.in-Root.is

pub returns-in-Of-clause-tables : goal.returns-in-Of-clause-tables
returns-in-Of-clause-tables c = λ book.
    let world = c.args.self.now in
    let value = value_at world.store.values c.args.evidence in
    let same : value_at c.close.new.self.store.values c.args.evidence ≡ value = ap (λ (w : World). value_at w.store.values c.args.evidence) c.close.ensures.rest in
    c.reply_if.ensures.tables book
    ∙ ap (λ (v : Evidence). let t = tables_of c.close.new.self book in let u : Tables = if c.remote_at-remote.result then record t { replies = put_reply c.in-Of.number (Some v) t.replies } else t in u) same
    ∙ end-number c.args.name c.in-Of.number c.remote_at-remote.result (runner_at world c.args.index).remote value world book (tables_of c.close.new.self book) c.in-Of.is c.remote_at-remote.ensures (c.close.ensures.tables book)
