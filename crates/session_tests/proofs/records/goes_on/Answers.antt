use Rattle.std.proofs.Common.{rules, ◌≡◌, subst}
use Rattle.std.specs.Prelude.{Some}
use Rattle.phrase_tree.specs.Term.{term}
use Rattle.bench_trait.specs.Asking.{question}
use Rattle.bench_trait.specs.Bench.{MatchMeasured}
use Rattle.place_check.specs.Session.{CheckedSession}
use Rattle.session_core.specs.declared.played.Played.{Played}
use Rattle.session_core.specs.Reading.{TellsOf}
use Rattle.session_core.specs.Session.{session_in}
use Rattle.session_tests.proofs.records.goes_on.Goals as goal

pub record-requires-clause-measured : goal.record-requires-clause-measured
record-requires-clause-measured g c =
    let ask = c.in-Ok-Asked.ask in
    let checked : c.args.session.now.opening.checked.now ≡ c.play.new.self.opening.checked.now = search rules in
    let artefacts : c.args.artefacts.now ≡ c.play.new.self.opening.artefacts.now = search rules in
    let bench : c.args.bench.now ≡ c.play.new.self.opening.bench.now = search rules in
    let before = c.legal.ensures.0 in
    let after = c.legal-in-Ok-Asked.ensures.0 in
    let told = subst (λ (played : Played). TellsOf (session_in c.args.session.now.opening) 0 c.args.step before after played) c.in-Ok-Asked.field-0-is (c.in-Ok-Asked.ensures.tells before after c.legal.ensures.1.stands c.legal-in-Ok-Asked.ensures.1.stands) in (
      ask,
      subst (λ (k : CheckedSession). question (term k.phrase) k.root k.nonce ask.event ≡ Some ask) checked told.1,
      subst (λ a. MatchMeasured c.measure-measured.result (g.B.Bench.gives c.play.new.self.opening.bench.now a ask) (g.B.Bench.fails c.play.new.self.opening.bench.now a ask) (g.B.Bench.starves c.play.new.self.opening.bench.now a ask)) artefacts
          (subst (λ b. MatchMeasured c.measure-measured.result (g.B.Bench.gives b c.args.artefacts.now ask) (g.B.Bench.fails b c.args.artefacts.now ask) (g.B.Bench.starves b c.args.artefacts.now ask)) bench c.measure-measured.ensures),
    )
