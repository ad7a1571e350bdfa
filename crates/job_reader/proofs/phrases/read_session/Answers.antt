-- A text that was read has no refusal, and a text that was refused has this one.
use Rattle.std.proofs.Common.{refl}
use Rattle.phrase_tree.specs.Term.{term}
use Rattle.phrase_reader.specs.Refusal.{IsRead}
use Rattle.job_reader.proofs.phrases.read_session.Goals as goal

pub returns-in-Ok : goal.returns-in-Ok
returns-in-Ok c =
    let read : IsRead c.args.session.now.phrase.now (term c.in-Ok.phrase) = (c.in-Ok.ensures.found (term c.in-Ok.phrase)).0 refl in
    record {
      same = record { root = refl; same_nonce = refl; phrase = read };
      unrefused = λ (place, kind, refusal). read.accepted place kind refusal;
      sized = c.in-Ok.ensures.sized;
    }

pub returns-in-Err-Refused : goal.returns-in-Err-Refused
returns-in-Err-Refused c =
    let at = c.in-Err-Refused.at in
    let kind = c.in-Err-Refused.kind in
    let known = rw c.in-Err-Refused.field-0-is at (c.in-Err-Refused.ensures.refused at kind) in
    λ other. (at, kind, refl, known.0 refl)
