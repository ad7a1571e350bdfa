use Rattle.std.proofs.Common.{sym, ◌∙◌, subst}
use Rattle.session_core.specs.Session.{with_entry, session_in, keys_in, history}
use Rattle.session_core.specs.Reading.{result_entry}
use Rattle.transcript.specs.Audit.{Takes, RepeatsResult}
use Rattle.transcript.proofs.ReplayLemmas.{unlike_is, takes_result, clear_within}
use Rattle.transcript.proofs.replay.repeat.Goals as goal

pub take-requires-clause-within : goal.take-requires-clause-within
take-requires-clause-within g c =
    let old = c.args.session.now in
    let s = c.legal.ensures in
    let w = c.in-Some.ensures s.0 s.1.stands in
    clear_within old c.args.pass c.args.event c.args.flights.now.items c.requires.mirrors s.0 s.1.stands w.1
    (c.flight_law.ensures.once (session_in old.opening) (keys_in old.opening) (history old) s.0 s.1.stands)
    (c.result_law.ensures (session_in old.opening) (keys_in old.opening) (history old) s.0 c.args.pass c.args.event s.1.stands w.0 w.1)

pub returns-then-is_same : goal.returns-then-is_same
returns-then-is_same g c =
    let old = c.args.session.now in
    let s = c.legal.ensures in
    let w = c.in-Some.ensures s.0 s.1.stands in
    let one = RepeatsResult c.args.pass c.args.event c.args.written in
    let kept = with_entry (result_entry c.args.pass c.args.event c.measure-measured.result) old in
    subst (λ seen. Takes one c.take.new.flights.items old seen) (sym c.take.ensures.session)
    (subst (λ flights. Takes one flights old kept) (sym c.take.ensures.flights)
    (takes_result old c.args.pass c.args.event c.args.flights.now.items c.requires.mirrors s.0 s.1.stands w.1
    (c.flight_law.ensures.once (session_in old.opening) (keys_in old.opening) (history old) s.0 s.1.stands)
    (c.result_law.ensures (session_in old.opening) (keys_in old.opening) (history old) s.0 c.args.pass c.args.event s.1.stands w.0 w.1)
    c.measure-measured.result c.args.written
    (sym c.is_same.ensures ∙ c.if-is_same.true)))

pub returns-else-is_same : goal.returns-else-is_same
returns-else-is_same g c =
    let old = c.args.session.now in
    let s = c.legal.ensures in
    let w = c.in-Some.ensures s.0 s.1.stands in
    unlike_is (λ ask answer. g.B.Bench.gives c.args.bench.now c.args.artefacts.now ask answer) (λ ask fault. g.B.Bench.fails c.args.bench.now c.args.artefacts.now ask fault)
    (g.B.Bench.starves c.args.bench.now c.args.artefacts.now c.in-Some.ask.now)
    c.args.pass c.args.event c.in-Some.ask.now c.measure-measured.result c.args.written c.unlike.result old
    c.unlike.ensures
    (sym c.is_same.ensures ∙ c.if-is_same.false)
    c.measure-measured.ensures
    w.2
    (λ standing stands.
    let v = c.in-Some.ensures standing stands in
    c.result_law.ensures (session_in old.opening) (keys_in old.opening) (history old) standing c.args.pass c.args.event stands v.0 v.1)
