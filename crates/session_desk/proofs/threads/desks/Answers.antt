use mir.Syntax
use denote.Param
use denote.Param.Send
use denote.Exit
use Rattle.std.specs.Prelude.{Bool, true, false}
use Rattle.session_desk.proofs.Crossing.{desk_sync, pass_send}
use Rattle.session_desk.proofs.threads.desks.Goals as goal

pub may_be_shared-requires-sync-T : goal.may_be_shared-requires-sync-T
may_be_shared-requires-sync-T g c κs within =
    let shared = desk_sync (record { mir = mir.Syntax.named 0; lft = κs.0 }) (denote.Param.param 0 g.row.B) g.B.Bench c.type_bounds.sync-B in
    search (shared)

quiet : (D : Type 0) (kept : Bool) → denote.Param.Send.Quiet (denote.Exit.if_kept kept (denote.Exit.unseen {D = D}) (denote.Exit.unseen {D = D}))
quiet D true = λ d w. tt
quiet D false = λ d w. tt

pub may_go-requires-send-T : goal.may_go-requires-send-T
may_go-requires-send-T g c κs within =
    let it = pass_send (record { mir = mir.Syntax.named 0; lft = κs.0 }) (denote.Param.param 0 g.row.B) g.B.Bench c.type_bounds.sync-B in
    record { owned = λ d vs. it.owned d vs; leaving = λ k. quiet _ (k (mir.Syntax.of_param 0)) }
