use Rattle.std.proofs.Common.{refl}
use Rattle.session_desk.proofs.MoveFacts.{record_kept, record_ended, no_error}
use Rattle.session_desk.proofs.advance.keep.Goals as goal

pub returns-in-Ok : goal.returns-in-Ok
returns-in-Ok g c =
    let asked = c.requires.asked in
    record_kept c.args.number c.args.event c.args.measured c.args.session.now c.record.new.self asked.standing asked.stands (λ stopped. no_error ((c.in-Ok.ensures.ended asked.standing asked.stands).1 stopped)) c.in-Ok.ensures.ok

pub returns-in-Err : goal.returns-in-Err
returns-in-Err g c =
    let asked = c.requires.asked in
    record_ended c.args.number c.args.event c.args.measured c.args.session.now c.record.new.self asked.standing asked.stands ((c.in-Err.ensures.ended asked.standing asked.stands).0 refl) c.in-Err.ensures.err
