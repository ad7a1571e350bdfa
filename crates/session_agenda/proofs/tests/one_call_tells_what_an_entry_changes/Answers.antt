use Rattle.std.specs.Prelude.{Some}
use Rattle.session_runs.specs.Moves.{run, ask}
use Rattle.session_agenda.specs.declared.moves.Task.TheVariants.{Runs}
use Rattle.session_agenda.specs.Kept.{next_by}
use Rattle.session_agenda.proofs.TestRuns.{root_can, both_ask, told_root, told_both, told_less}
use Rattle.session_agenda.proofs.tests.one_call_tells_what_an_entry_changes.Goals as goal

pub follow-requires-clause-updates : goal.follow-requires-clause-updates
follow-requires-clause-updates g c =
    (root_can (Some (run, Some 0)), told_root (next_by c.in_ok-agenda.agenda) c.now.result (Runs (Some 0)) c.now.ensures c.in_ok-agenda.ensures.blocks)

pub follow-requires-2-clause-updates : goal.follow-requires-2-clause-updates
follow-requires-2-clause-updates g c =
    let first = told_root (next_by c.in_ok-agenda.agenda) c.now.result (Runs (Some 0)) c.now.ensures c.in_ok-agenda.ensures.blocks in
    (both_ask, told_both (next_by c.follow.new.self) (Some (run, Some 0)) c.now-2.result c.now-3.result c.now-2.ensures c.now-3.ensures (c.follow.ensures.blocks (root_can (Some (run, Some 0))) first))

pub follow-requires-3-clause-updates : goal.follow-requires-3-clause-updates
follow-requires-3-clause-updates g c =
    let first = told_root (next_by c.in_ok-agenda.agenda) c.now.result (Runs (Some 0)) c.now.ensures c.in_ok-agenda.ensures.blocks in
    let second = told_both (next_by c.follow.new.self) (Some (run, Some 0)) c.now-2.result c.now-3.result c.now-2.ensures c.now-3.ensures (c.follow.ensures.blocks (root_can (Some (run, Some 0))) first) in
    (root_can (Some (ask, Some 1)), told_less (next_by c.follow-2.new.self) c.now-4.result c.now-4.ensures (c.follow-2.ensures.blocks both_ask second))
