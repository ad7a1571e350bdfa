use Rattle.std.proofs.Common.{◌≡◌, List, sym, subst}
use Rattle.std.specs.Prelude.{Some}
use Rattle.bench_trait.specs.declared.artefacts.Artefact.{Artefact}
use Rattle.bench_trait.specs.Bench.{MatchMeasured}
use Rattle.bench_trait.specs.Digest.{digest_answer, LacksArtefact}
use Rattle.session_tests.proofs.messages.answers.Goals as goal

pub record-requires-clause-measured : goal.record-requires-clause-measured
record-requires-clause-measured c =
    let ask = c.args.ask.now in (
      ask,
      c.requires.own,
      subst (λ (a : List Artefact). MatchMeasured c.measure-measured.result (λ bytes. digest_answer a ask ≡ Some bytes) (λ fault. LacksArtefact a ask fault) ⊥) (sym c.requires.over) c.measure-measured.ensures,
    )
