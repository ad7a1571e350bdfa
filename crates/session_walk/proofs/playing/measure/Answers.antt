use Rattle.std.proofs.Common.{sym, ◌∙◌, subst}
use Rattle.std.proofs.lemmas.Option.{none-some}
use Rattle.bench_trait.specs.Bench.{MatchMeasured}
use Rattle.session_core.specs.Session.{StandsAt}
use Rattle.session_core.specs.Reading.{result_entry}
use Rattle.session_core.specs.Session.{places_in}
use Rattle.session_walk.specs.Sessions.{walked_in}
use Rattle.session_walk.proofs.PlayingLemmas.{IsAskThere, own_question, ask_there, result_listed, stands_itself, takes}
use Rattle.session_walk.proofs.playing.measure.Goals as goal

pub unreachable-requires : goal.unreachable-requires
unreachable-requires g c =
    let seen = c.args.session.now in
    let own = c.requires.can.own c.args.index c.requires.there in
    let stands : StandsAt seen (walked_in seen).standing = stands_itself g.B.Bench.gives g.B.Bench.fails g.B.Bench.starves seen.opening.bench.now seen.opening.artefacts.now seen c.legal.ensures in
    none-some own.ask (sym c.in_default.is ∙ own_question (walked_in seen) c.args.index own c.nth_asked.result (c.nth_asked.ensures (walked_in seen).standing stands))

pub record-requires-clause-asked : goal.record-requires-clause-asked
record-requires-clause-asked g c =
    let seen = c.args.session.now in
    let own = c.requires.can.own c.args.index c.requires.there in
    let stands : StandsAt seen (walked_in seen).standing = stands_itself g.B.Bench.gives g.B.Bench.fails g.B.Bench.starves seen.opening.bench.now seen.opening.artefacts.now seen c.legal.ensures in
    let there : IsAskThere (walked_in seen) c.args.index c.in-Some.ask = ask_there (walked_in seen) c.args.index c.nth_asked.result c.in-Some.ask own (c.nth_asked.ensures (walked_in seen).standing stands) c.in-Some.is in
    record { standing = (walked_in seen).standing; stands = stands; flies = there.flies }

pub record-requires-clause-measured : goal.record-requires-clause-measured
record-requires-clause-measured g c =
    let seen = c.args.session.now in
    let own = c.requires.can.own c.args.index c.requires.there in
    let stands : StandsAt seen (walked_in seen).standing = stands_itself g.B.Bench.gives g.B.Bench.fails g.B.Bench.starves seen.opening.bench.now seen.opening.artefacts.now seen c.legal.ensures in
    let there : IsAskThere (walked_in seen) c.args.index c.in-Some.ask = ask_there (walked_in seen) c.args.index c.nth_asked.result c.in-Some.ask own (c.nth_asked.ensures (walked_in seen).standing stands) c.in-Some.is in (
      c.in-Some.ask,
      there.asked,
      subst (λ b. MatchMeasured c.measure-measured.result (g.B.Bench.gives b seen.opening.artefacts.now c.in-Some.ask) (g.B.Bench.fails b seen.opening.artefacts.now c.in-Some.ask) (g.B.Bench.starves b seen.opening.artefacts.now c.in-Some.ask)) (sym c.requires.over.measurer)
          (subst (λ a. MatchMeasured c.measure-measured.result (g.B.Bench.gives c.args.bench.now a c.in-Some.ask) (g.B.Bench.fails c.args.bench.now a c.in-Some.ask) (g.B.Bench.starves c.args.bench.now a c.in-Some.ask)) (sym c.requires.over.book)
          c.measure-measured.ensures),
    )

pub returns-clause-took : goal.returns-clause-took
returns-clause-took g c =
    let seen = c.args.session.now in
    let own = c.requires.can.own c.args.index c.requires.there in
    let stands : StandsAt seen (walked_in seen).standing = stands_itself g.B.Bench.gives g.B.Bench.fails g.B.Bench.starves seen.opening.bench.now seen.opening.artefacts.now seen c.legal.ensures in
    let there : IsAskThere (walked_in seen) c.args.index c.in-Some.ask = ask_there (walked_in seen) c.args.index c.nth_asked.result c.in-Some.ask own (c.nth_asked.ensures (walked_in seen).standing stands) c.in-Some.is in
    takes g.B.Bench.gives g.B.Bench.fails g.B.Bench.starves c.args.bench.now c.args.artefacts.now
    (λ session keys entries standing entry later legal then_legal. (c.growth_law.ensures session keys entries standing entry later legal).0 then_legal)
    seen c.record.new.self (result_entry 0 c.in-Some.ask.event c.measure-measured.result) c.args.index c.measure-measured.result c.requires.over c.in-Ok.ensures.ok c.legal.ensures c.legal-in-Ok.ensures
    (result_listed (places_in seen.opening) c.measure-measured.result (walked_in seen).standing c.args.index c.in-Some.ask.event 0 there.listed)
