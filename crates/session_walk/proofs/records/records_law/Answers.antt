use Rattle.std.proofs.Common.{◌≡◌, ℕ, List, sym, ◌∙◌, ap, subst}
use Rattle.std.specs.Prelude.{false}
use Rattle.bench_trait.specs.declared.ask.Ask.{Ask}
use Rattle.bench_trait.specs.declared.bench.BenchFault.{BenchFault}
use Rattle.session_runs.specs.Schedule.{Walked, one_starves, scheduled}
use Rattle.session_runs.specs.Played.{ArePlayed, AreOver, AllMeasured, AreLegal}
use Rattle.session_runs.specs.ByFaults.{scheduled_traces}
use Rattle.session_runs.specs.Rising.{AreRising}
use Rattle.session_walk.specs.Records.{AreRecordsOf, AreOfWalk}
use Rattle.session_walk.proofs.RecordLemmas.{traces_are, faults_are, are_right, are_rising, none_open, each_ended}
use Rattle.session_walk.proofs.records.records_law.Goals as goal

pub returns : goal.returns
returns g c =
    let Gives : Ask → List ℕ → Type 0 = g.B.Bench.gives c.args.bench.now c.args.artefacts.now in
    let Fails : Ask → BenchFault → Type 0 = g.B.Bench.fails c.args.bench.now c.args.artefacts.now in
    let Starves : Ask → Type 0 = g.B.Bench.starves c.args.bench.now c.args.artefacts.now in
    record {
      each = λ places keys sessions number all played walked only stands there.
          let over : AreOver all = subst (λ w. AreOver w) stands.stand (c.schedule_law.ensures places keys stands.results sessions number only).1 in
          each_ended all played walked (none_open all over stands.fed) stands.fed there;
      are = λ places keys sessions number all records only stands are.
          let those : List Walked = scheduled places keys stands.results sessions number in
          let plays : ArePlayed keys stands.results 0 sessions those = (c.schedule_law.ensures places keys stands.results sessions number only).0 in
          let measured : AllMeasured Gives Fails Starves stands.results 0 those = subst (λ w. AllMeasured Gives Fails Starves stands.results 0 w) (sym stands.stand) stands.measured in
          let legal : AreLegal Gives Fails Starves keys sessions those = c.legal_schedule_law.ensures places keys stands.results sessions number only measured in
          let recorded : AreRecordsOf those records = subst (λ w. AreRecordsOf w records) (sym stands.stand) are in
          let fed : one_starves those ≡ false = ap (λ w. one_starves w) stands.stand ∙ stands.fed in
          let walk : AreOfWalk Gives Fails Starves places keys sessions number records = record {
            only = only;
            results = stands.results;
            legal = legal;
            recorded = recorded;
            right = are_right Gives Fails Starves keys stands.results (λ session. c.record_law.ensures session keys) 0 sessions those records plays legal recorded;
            traced =
                sym (traces_are those records recorded)
                ∙ c.fault_law.ensures.named places keys stands.results sessions number only fed
                ∙ ap (λ f. scheduled_traces places f sessions number) (faults_are those records recorded);
            rising = λ zero.
                let rises : AreRising those = subst (λ n. AreRising (scheduled places keys stands.results sessions n)) (sym zero) (c.rising_law.ensures places keys stands.results sessions only) in
                are_rising Gives Fails Starves keys stands.results (λ session. c.rising_record_law.ensures session keys) 0 sessions those records plays legal rises recorded;
          } in
          (walk, stands.stand);
    }
