use Rattle.std.proofs.Common.{rules, ◌≡◌, [], arith, length}
use Rattle.std.proofs.lemmas.List.{nil_from_length}
use Rattle.session_desk.specs.Cells.{ids_of}
use Rattle.session_desk.proofs.DeskFacts.{opens_all, next_just, numbered, next_opens, all_open, few_cells}
use Rattle.session_desk.proofs.desk.Desk.open.Goals as goal

pub loop-session-init : goal.loop-session-init
loop-session-init g c = opens_all c.args.sessions.items c.reverse.new.self.items c.args.passes c.new-cells.result.items c.in_ok-made.made.items c.reverse.ensures.items (search rules) c.in_ok-made.ensures

pub add-requires-clause-opened : goal.add-requires-clause-opened
add-requires-clause-opened g c =
    next_just c.args.sessions.items c.loop-session.sessions.items c.pop.new.self.items c.args.passes c.loop-session.cells.items c.loop-session.made.items c.loop-session.invariant c.in-Some.session c.in-Some.ensures.items c.requires.opened

pub add-requires-clause-numbered : goal.add-requires-clause-numbered
add-requires-clause-numbered g c =
    numbered c.args.sessions.items c.loop-session.sessions.items c.pop.new.self.items c.args.passes c.loop-session.cells.items c.loop-session.made.items c.loop-session.invariant c.in-Some.session c.in-Some.ensures.items

pub add-requires-clause-count : goal.add-requires-clause-count
add-requires-clause-count g c = c.loop-session.invariant.opened.count

pub loop-session-preserved : goal.loop-session-preserved
loop-session-preserved g c =
    let kept = c.loop-session.invariant in
    next_opens c.args.sessions.items c.loop-session.sessions.items c.pop.new.self.items c.args.passes c.loop-session.cells.items c.loop-session.made.items kept c.in-Some.session c.in-Some.ensures.items
    c.in-Ok.cell c.add.new.passes.items c.push.new.self.items c.in-Ok-push.ensures.items (c.in-Ok.ensures (ids_of c.loop-session.cells.items) kept.done kept.opened)
