use Rattle.std.proofs.Common.{List, Some, sym, ap, ◌∙◌, subst}
use Rattle.std.specs.Option.{option_map}
use Rattle.evidence_types.specs.Evidence.{Evidence}
use Rattle.machine_tables.specs.Tables.{Tables}
use Rattle.avm_core.specs.declared.stepped.Stepped.{Stepped}
use Rattle.machine_world.specs.declared.moved.Moved.{Moved}
use Rattle.machine_world.specs.declared.world.World.{World}
use Rattle.machine_world.specs.Cells.{tables_of, book_after, with_event, with_end}
use Rattle.machine_world.specs.Calls.{CanSettle, SettlesAs, runner_at, settled_tables}
use Rattle.machine_world.specs.Answers.{IfSent, SendsTo}
use Rattle.machine_world.proofs.MoveLemmas.{moves-event, moves-silent, moves-sent, moves-forked, moves-ended, end-booked}
use Rattle.machine_world.proofs.RunLemmas.{sent-to}
use Rattle.machine_world.proofs.world.World.settle.Goals as goal

pub returns-in-Event-clause-moves : goal.returns-in-Event-clause-moves
returns-in-Event-clause-moves c = λ book pass opened.
    let world = c.args.self.now in
    let name = c.args.name in
    let index = c.args.index in
    ap (λ (s : Stepped). settled_tables world name (runner_at world index) s pass book) c.in-Event.is
    ∙ moves-event world name index c.requires.at pass book c.in-Event.event

pub returns-in-Silent-clause-moves : goal.returns-in-Silent-clause-moves
returns-in-Silent-clause-moves c = λ book pass opened.
    let world = c.args.self.now in
    let name = c.args.name in
    let index = c.args.index in
    ap (λ (s : Stepped). settled_tables world name (runner_at world index) s pass book) c.in-Silent.is
    ∙ moves-silent world name index c.requires.at pass book

pub returns-in-Sent-clause-moves : goal.returns-in-Sent-clause-moves
returns-in-Sent-clause-moves c = λ book pass opened.
    let world = c.args.self.now in
    let name = c.args.name in
    let index = c.args.index in
    ap (λ (s : Stepped). settled_tables world name (runner_at world index) s pass book) c.in-Sent.is
    ∙ moves-sent world name index c.requires.at pass book c.in-Sent.event c.in-Sent.place c.in-Sent.evidence
    ∙ ap (λ (t : Tables). Some t) (sym (c.send.ensures.tables (with_event c.in-Sent.event book)))
    ∙ sym (ap (λ (m : Moved). option_map (tables_of c.send.new.self) (book_after c.send.new.self.store.values name m book)) c.send.ensures.moved.1.1)

pub returns-in-Sent-clause-sends : goal.returns-in-Sent-clause-sends
returns-in-Sent-clause-sends c =
    let world = c.args.self.now in
    let name = c.args.name in
    let index = c.args.index in
    let can = subst (CanSettle world (runner_at world index)) c.in-Sent.is c.requires.can in
    subst (λ (m : Moved). IfSent m (SendsTo world c.send.new.self)) (sym c.send.ensures.moved.1.1)
    (sent-to world c.send.new.self c.in-Sent.place c.send.ensures.moved.0 c.in-Sent.event c.in-Sent.evidence (ap (λ (w : World). w.places.items) c.send.ensures.rest) (ap (λ (w : World). w.store.values) c.send.ensures.rest) can.2 c.send.ensures.moved.1.0 (c.send.ensures.tables _))

pub returns-in-Forked-clause-moves : goal.returns-in-Forked-clause-moves
returns-in-Forked-clause-moves c = λ book pass opened.
    let world = c.args.self.now in
    let name = c.args.name in
    let index = c.args.index in
    ap (λ (s : Stepped). settled_tables world name (runner_at world index) s pass book) c.in-Forked.is
    ∙ moves-forked world name index c.requires.at pass book c.in-Forked.number c.in-Forked.evidence
    ∙ ap (λ (t : Tables). Some t) (sym (c.begin.ensures.tables (with_event c.in-Forked.number book)))

pub returns-in-Ended-clause-moves : goal.returns-in-Ended-clause-moves
returns-in-Ended-clause-moves c = λ book pass opened.
    let world = c.args.self.now in
    let name = c.args.name in
    let index = c.args.index in
    ap (λ (s : Stepped). settled_tables world name (runner_at world index) s pass book) c.in-Ended.is
    ∙ moves-ended world name index c.requires.at pass book c.in-Ended.result
    ∙ ap (λ (t : Tables). Some t) (sym (c.finish.ensures.tables (with_end world.store.values name c.in-Ended.result book) ∙ end-booked name (runner_at world index).remote world.store.values c.in-Ended.result world book))
    ∙ ap (λ (v : List Evidence). Some (tables_of c.finish.new.self (with_end v name c.in-Ended.result book))) (sym (ap (λ (w : World). w.store.values) c.finish.ensures.rest))

pub returns-in-Sent-clause-settles : goal.returns-in-Sent-clause-settles
returns-in-Sent-clause-settles c =
    subst (λ (s : Stepped). SettlesAs c.args.self.now.places.items s c.send.result) (sym c.in-Sent.is)
    (c.send.ensures.moved.0, c.send.ensures.moved.1.0, c.send.ensures.moved.1.1)
