use Rattle.std.proofs.Common.{◌≡◌, sym, subst, ap}
use Rattle.session_core.specs.Session.{with_entry}
use Rattle.session_desk.specs.Taking.{GoesOn}
use Rattle.session_desk.specs.Answers.{TurnTells}
use Rattle.session_desk.proofs.MoveFacts.{turn_told, turn_idle, can_play}
use Rattle.session_desk.proofs.advance.advance.Goals as goal

pub unreachable-requires : goal.unreachable-requires
unreachable-requires g c =
    let stands = c.legal.ensures.1.stands in
    can_play _ _ c.play-played.result (sym (c.in-Some.ensures c.legal.ensures.0 stands)) (c.play-played.ensures.refused c.legal.ensures.0 stands) (search)

pub returns-in-Ok : goal.returns-in-Ok
returns-in-Ok g c =
    let before = c.legal.ensures in
    let after = c.legal-in-Some.ensures in
    subst (λ t. GoesOn c.args.number (TurnTells c.args.index c.args.number t) c.args.session.now c.play-played.new.self) (sym c.told.ensures)
    (turn_told c.args.index c.args.number c.in-Some.step c.args.session.now c.play-played.new.self before.0 after.0 before.1.stands after.1.stands (c.in-Some.ensures before.0 before.1.stands) c.in-Ok.ensures.ok c.in-Ok.played (c.in-Ok.ensures.tells before.0 after.0 before.1.stands after.1.stands))

pub returns-in-None : goal.returns-in-None
returns-in-None g c =
    let before = c.legal.ensures in
    subst (λ t. GoesOn c.args.number (TurnTells c.args.index c.args.number t) c.args.session.now c.args.session.now) (sym c.idle.ensures)
    (turn_idle c.args.index c.args.number c.args.session.now before.0 before.1.stands (c.in-None.ensures before.0 before.1.stands) c.state.result (c.state.ensures before.0 before.1.stands))
