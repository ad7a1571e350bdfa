use Rattle.std.proofs.Common.{sym, subst}
use Rattle.session_desk.specs.Taking.{GoesOn}
use Rattle.session_desk.specs.Answers.{OutcomeTells}
use Rattle.session_desk.proofs.MoveFacts.{outcome_told}
use Rattle.session_desk.proofs.advance.outcome_of.Goals as goal

pub returns : goal.returns
returns g c =
    let before = c.legal.ensures in
    subst (λ r. GoesOn c.args.number (OutcomeTells r) c.args.session.now c.args.session.now) (sym c.closed.ensures)
    (outcome_told c.args.number c.args.session.now before.0 before.1.stands c.outcome.result (c.outcome.ensures.found before.0 before.1.stands) (c.outcome.ensures.not_finished before.0 before.1.stands))
