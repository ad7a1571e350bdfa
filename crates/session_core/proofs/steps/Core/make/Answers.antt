use Rattle.std.proofs.Common.{List, ℕ, sym, ◌∙◌, subst}
use Rattle.std.specs.Prelude.{Contains}
use Rattle.session_runs.specs.Standing.{run, ask, deliver, played}
use Rattle.session_runs.specs.MoveOrder.{possible_moves}
use Rattle.machine_world.specs.Seen.{IsPlace}
use Rattle.machine_world.specs.Cells.{block_of}
use Rattle.session_book.specs.declared.entry.Move.{Move}
use Rattle.session_book.specs.Entries.{move_of}
use Rattle.session_core.specs.Core.{history_in}
use Rattle.session_core.specs.Reading.{IsAsk}
use Rattle.session_core.proofs.PlayingFacts.{can_take, asked_first, next_after}
use Rattle.session_core.proofs.steps.Core.make.Goals as goal

pub run-requires : goal.run-requires
run-requires c =
    let r = c.requires in
    let core = c.args.self.now in
    let step = run (block_of c.in-Run.name) in
    let may = (c.listing_law.ensures.listed r.session c.args.keys.now r.places (history_in core) r.standing c.args.pass step r.is.played.played.stands).0 (subst (λ (m : Move). Contains (possible_moves r.places r.standing) (move_of m)) c.in-Run.is r.possible) in
    can_take r.session c.args.keys.now r.places r.standing core c.args.pass step r.is may.0

pub ask-requires : goal.ask-requires
ask-requires c =
    let r = c.requires in
    let core = c.args.self.now in
    let step = ask (block_of c.in-Ask.name) in
    let may = (c.listing_law.ensures.listed r.session c.args.keys.now r.places (history_in core) r.standing c.args.pass step r.is.played.played.stands).0 (subst (λ (m : Move). Contains (possible_moves r.places r.standing) (move_of m)) c.in-Ask.is r.possible) in
    (c.args.keys.now, can_take r.session c.args.keys.now r.places r.standing core c.args.pass step r.is may.0)

pub deliver-requires-clause-can : goal.deliver-requires-clause-can
deliver-requires-clause-can c =
    let r = c.requires in
    let core = c.args.self.now in
    let step = deliver c.in-Deliver.place in
    let may = (c.listing_law.ensures.listed r.session c.args.keys.now r.places (history_in core) r.standing c.args.pass step r.is.played.played.stands).0 (subst (λ (m : Move). Contains (possible_moves r.places r.standing) (move_of m)) c.in-Deliver.is r.possible) in
    (c.args.keys.now, can_take r.session c.args.keys.now r.places r.standing core c.args.pass step r.is may.0)

pub deliver-requires-clause-place : goal.deliver-requires-clause-place
deliver-requires-clause-place c =
    subst (λ (ps : List (List ℕ)). IsPlace ps c.in-Deliver.place c.in-Some.index) c.places.ensures c.in-Some.ensures

pub unreachable-requires : goal.unreachable-requires
unreachable-requires c =
    let r = c.requires in
    let core = c.args.self.now in
    let step = deliver c.in-Deliver.place in
    let may = (c.listing_law.ensures.listed r.session c.args.keys.now r.places (history_in core) r.standing c.args.pass step r.is.played.played.stands).0 (subst (λ (m : Move). Contains (possible_moves r.places r.standing) (move_of m)) c.in-Deliver.is r.possible) in
    c.in-None.ensures (subst (λ (ps : List (List ℕ)). Contains ps c.in-Deliver.place) (sym (c.places.ensures ∙ r.is.played.names)) may.1)

pub returns-in-Run-clause-tells : goal.returns-in-Run-clause-tells
returns-in-Run-clause-tells c = λ session places before after at stood stands asks. subst IsAsk c.in-Run.is asks

pub returns-in-Ask-clause-tells : goal.returns-in-Ask-clause-tells
returns-in-Ask-clause-tells c = λ session places before after at stood stands.
    let keys = c.args.keys.now in
    let old = history_in c.args.self.now in
    let new = history_in c.ask.new.self in
    let block = block_of c.in-Ask.name in
    let asked = c.ask.ensures.asked session keys places at in
    let next = next_after session keys old new before after (played c.args.pass (ask block)) c.ask.ensures.adds stood stands in
    let question = c.ask_law.ensures session keys old before c.args.pass block after stood next in
    (subst IsAsk (sym c.in-Ask.is) tt, asked.own, asked_first session keys c.args.pass block old new before after c.ask.result question asked stood stands)

pub returns-in-Some-clause-tells : goal.returns-in-Some-clause-tells
returns-in-Some-clause-tells c = λ session places before after at stood stands asks. subst IsAsk c.in-Deliver.is asks
