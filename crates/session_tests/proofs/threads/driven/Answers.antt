-- A desk may be shared, and its passes may go to other threads, where the bench may be shared.
use mir.Syntax
use denote.Param
use denote.Param.Send
use denote.Exit
use Rattle.std.specs.Prelude.{Bool, true, false}
use Rattle.session_desk.proofs.Crossing.{desk_sync, pass_send}
use Rattle.session_tests.proofs.threads.driven.Goals as goal

pub by_two-first-requires-sync-D : goal.by_two-first-requires-sync-D
by_two-first-requires-sync-D g c κs within =
    let shared = desk_sync (record { mir = mir.Syntax.named 9; lft = κs.1.1.1.1.1.1.1.1.1.0 }) (denote.Param.param 1 g.row.B) g.B.Bench c.type_bounds.sync-B in
    search (shared)

quiet : (D : Type 0) (kept : Bool) → denote.Param.Send.Quiet (denote.Exit.if_kept kept (denote.Exit.unseen {D = D}) (denote.Exit.unseen {D = D}))
quiet D true = λ d w. tt
quiet D false = λ d w. tt

pub by_two-first-requires-send-P : goal.by_two-first-requires-send-P
by_two-first-requires-send-P g c κs within =
    let it = pass_send (record { mir = mir.Syntax.named 9; lft = κs.1.1.1.1.1.1.1.1.1.0 }) (denote.Param.param 1 g.row.B) g.B.Bench c.type_bounds.sync-B in
    record { owned = λ d vs. it.owned d vs; leaving = λ k. quiet _ (k (mir.Syntax.of_param 4)) }
