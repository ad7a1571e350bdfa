use Rattle.std.proofs.Common.{sym, ap, subst}
use Rattle.bench_trait.specs.Bench.{MatchMeasured}
use Rattle.session_core.specs.Reading.{result_entry}
use Rattle.session_core.specs.Session.{StandsAt}
use Rattle.session_walk.specs.Sessions.{walked_in}
use Rattle.session_walk.proofs.PlayingLemmas.{IsAskThere, stands_itself}
use Rattle.wire_walk.proofs.ZeroLemmas.{ask_is}
use Rattle.wire_walk.proofs.EntryLemmas.{zeros_more, by_zero_then, result_by_zero, takes_result}
use Rattle.wire_walk.proofs.turns.measure.Goals as goal

pub record-requires-clause-asked : goal.record-requires-clause-asked
record-requires-clause-asked g c =
    let seen = c.args.wire.now.seen in
    let stands : StandsAt seen (walked_in seen).standing = stands_itself g.B.Bench.gives g.B.Bench.fails g.B.Bench.starves seen.opening.bench.now seen.opening.artefacts.now seen c.linked.ensures.legal in
    let there : IsAskThere (walked_in seen) c.args.index c.in-Some.ask = ask_is (walked_in seen) c.args.index c.nth_asked.result c.in-Some.ask c.order_law.ensures.asks_listed c.requires.asked (c.nth_asked.ensures (walked_in seen).standing stands) c.in-Some.is in
    record { standing = (walked_in seen).standing; stands = stands; flies = there.flies }

pub record-requires-clause-measured : goal.record-requires-clause-measured
record-requires-clause-measured g c =
    let seen = c.args.wire.now.seen in
    let stands : StandsAt seen (walked_in seen).standing = stands_itself g.B.Bench.gives g.B.Bench.fails g.B.Bench.starves seen.opening.bench.now seen.opening.artefacts.now seen c.linked.ensures.legal in
    let there : IsAskThere (walked_in seen) c.args.index c.in-Some.ask = ask_is (walked_in seen) c.args.index c.nth_asked.result c.in-Some.ask c.order_law.ensures.asks_listed c.requires.asked (c.nth_asked.ensures (walked_in seen).standing stands) c.in-Some.is in (
      c.in-Some.ask,
      there.asked,
      subst (λ b. MatchMeasured c.measure-measured.result (g.B.Bench.gives b seen.opening.artefacts.now c.in-Some.ask) (g.B.Bench.fails b seen.opening.artefacts.now c.in-Some.ask) (g.B.Bench.starves b seen.opening.artefacts.now c.in-Some.ask)) (sym c.requires.over.measurer)
          (subst (λ a. MatchMeasured c.measure-measured.result (g.B.Bench.gives c.args.bench.now a c.in-Some.ask) (g.B.Bench.fails c.args.bench.now a c.in-Some.ask) (g.B.Bench.starves c.args.bench.now a c.in-Some.ask)) (sym c.requires.over.book)
          c.measure-measured.ensures),
    )

pub returns-in-Ok-clause-asked : goal.returns-in-Ok-clause-asked
returns-in-Ok-clause-asked g c =
    let seen = c.args.wire.now.seen in
    let new = c.record.new.self.seen in
    zeros_more seen new (result_entry 0 c.in-Some.ask.event c.measure-measured.result) (ap (λ w. w.seen) c.in-Ok.ensures.ok)
    (stands_itself g.B.Bench.gives g.B.Bench.fails g.B.Bench.starves seen.opening.bench.now seen.opening.artefacts.now seen c.linked.ensures.legal)
    (stands_itself g.B.Bench.gives g.B.Bench.fails g.B.Bench.starves new.opening.bench.now new.opening.artefacts.now new c.linked-in-Ok.ensures.legal)
    c.requires.asked (result_by_zero c.in-Some.ask.event c.measure-measured.result)

pub returns-in-Ok-clause-by_zero : goal.returns-in-Ok-clause-by_zero
returns-in-Ok-clause-by_zero g c =
    by_zero_then c.args.wire.now.seen c.record.new.self.seen (result_entry 0 c.in-Some.ask.event c.measure-measured.result) (ap (λ w. w.seen) c.in-Ok.ensures.ok) c.requires.by_zero (result_by_zero c.in-Some.ask.event c.measure-measured.result)

pub returns-in-Ok-clause-took : goal.returns-in-Ok-clause-took
returns-in-Ok-clause-took g c =
    let seen = c.args.wire.now.seen in
    let new = c.record.new.self.seen in
    let stands : StandsAt seen (walked_in seen).standing = stands_itself g.B.Bench.gives g.B.Bench.fails g.B.Bench.starves seen.opening.bench.now seen.opening.artefacts.now seen c.linked.ensures.legal in
    let there : IsAskThere (walked_in seen) c.args.index c.in-Some.ask = ask_is (walked_in seen) c.args.index c.nth_asked.result c.in-Some.ask c.order_law.ensures.asks_listed c.requires.asked (c.nth_asked.ensures (walked_in seen).standing stands) c.in-Some.is in
    takes_result c.args.wire.now c.record.new.self c.args.index c.in-Some.ask.event 0 c.measure-measured.result (ap (λ w. w.seen) c.in-Ok.ensures.ok) stands
    (stands_itself g.B.Bench.gives g.B.Bench.fails g.B.Bench.starves new.opening.bench.now new.opening.artefacts.now new c.linked-in-Ok.ensures.legal)
    (ap (λ w. w.messages) c.in-Ok.ensures.ok) (ap (λ w. w.sent) c.in-Ok.ensures.ok) there.listed
