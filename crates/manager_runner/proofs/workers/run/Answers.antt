use mir.Syntax
use denote.Param
use denote.Param.Send
use denote.Exit
use Rattle.std.proofs.Common.{length}
use Rattle.std.specs.Prelude.{Bool, true, false}
use Rattle.session_desk.proofs.Crossing.{desk_sync, pass_send}
use Rattle.manager_runner.proofs.StayFacts.{and_still}
use Rattle.manager_runner.proofs.workers.run.Goals as goal

pub fan_out-requires-sync-D : goal.fan_out-requires-sync-D
fan_out-requires-sync-D g c κs within =
    let shared = desk_sync (record { mir = mir.Syntax.named 8; lft = κs.1.1.1.1.1.1.1.1.0 }) (denote.Param.param 1 g.row.B) g.B.Bench c.type_bounds.sync-B in
    search (shared)

quiet : (D : Type 0) (kept : Bool) → denote.Param.Send.Quiet (denote.Exit.if_kept kept (denote.Exit.unseen {D = D}) (denote.Exit.unseen {D = D}))
quiet D true = λ d w. tt
quiet D false = λ d w. tt

pub fan_out-requires-send-P : goal.fan_out-requires-send-P
fan_out-requires-send-P g c κs within =
    let it = pass_send (record { mir = mir.Syntax.named 8; lft = κs.1.1.1.1.1.1.1.1.0 }) (denote.Param.param 1 g.row.B) g.B.Bench c.type_bounds.sync-B in
    record { owned = λ d vs. it.owned d vs; leaving = λ k. quiet _ (k (mir.Syntax.of_param 4)) }

pub returns-clause-stays : goal.returns-clause-stays
returns-clause-stays g c = and_still 0 (length c.args.desk.now) c.args.closer.now c.drive.new.pass c.records.new.pass c.drive.ensures.stays c.records.ensures.stays
