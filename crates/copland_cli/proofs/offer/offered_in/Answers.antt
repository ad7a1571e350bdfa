-- The session that stands at the bundle's number.
use Rattle.std.proofs.Common.{rules}
use Rattle.copland_cli.proofs.ReportLemmas.{seen_at, stands_at}
use Rattle.copland_cli.proofs.offer.offered_in.Goals as goal

pub checked_session_has_keys-requires : goal.checked_session_has_keys-requires
checked_session_has_keys-requires c =
    let at = stands_at c.deref.result.now c.args.job.now.sessions.items c.in-Some.bundle.session c.in-Some-get.checked.now c.deref.ensures.value c.in-Some-get.ensures.lookup.3.0 c.in-Some-get.ensures.lookup.1 in
    (c.requires.checked c.in-Some.bundle.session c.in-Some-get.checked.now at).0

pub returns-clause-offered : goal.returns-clause-offered
returns-clause-offered c =
    let at = stands_at c.deref.result.now c.args.job.now.sessions.items c.in-Some.bundle.session c.in-Some-get.checked.now c.deref.ensures.value c.in-Some-get.ensures.lookup.3.0 c.in-Some-get.ensures.lookup.1 in
    record { bundle = search rules; session = seen_at c.args.job.now.sessions.items c.in-Some.bundle.session c.in-Some-get.checked.now at }

pub returns-clause-against : goal.returns-clause-against
returns-clause-against c =
    let at = stands_at c.deref.result.now c.args.job.now.sessions.items c.in-Some.bundle.session c.in-Some-get.checked.now c.deref.ensures.value c.in-Some-get.ensures.lookup.3.0 c.in-Some-get.ensures.lookup.1 in
    (c.requires.checked c.in-Some.bundle.session c.in-Some-get.checked.now at).0
