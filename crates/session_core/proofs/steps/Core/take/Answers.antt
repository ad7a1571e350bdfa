use Rattle.session_core.specs.Core.{history_in}
use Rattle.session_core.proofs.steps.Core.take.Goals as goal

pub answer-requires : goal.answer-requires
answer-requires c =
    let r = c.requires in
    let awaited = c.result_law.ensures r.session r.keys (history_in c.args.self.now) r.standing c.args.pass c.args.event r.is.played.played.stands r.opened r.flies in
    let come = awaited.answers c.in-Ok.answer in
    (r.keys, record { session = r.session; places = r.places; standing = r.standing; is = r.is; possible = record { then_stands = come.then_stands; possible = come.possible } })

pub fail-requires : goal.fail-requires
fail-requires c =
    let r = c.requires in
    let awaited = c.result_law.ensures r.session r.keys (history_in c.args.self.now) r.standing c.args.pass c.args.event r.is.played.played.stands r.opened r.flies in
    (r.keys, record { session = r.session; places = r.places; standing = r.standing; is = r.is; possible = awaited.fails c.in-Fault.fault })

pub starve-requires : goal.starve-requires
starve-requires c =
    let r = c.requires in
    let awaited = c.result_law.ensures r.session r.keys (history_in c.args.self.now) r.standing c.args.pass c.args.event r.is.played.played.stands r.opened r.flies in
    (r.keys, record { session = r.session; places = r.places; standing = r.standing; is = r.is; possible = awaited.starves })
