use Rattle.std.proofs.Common.{ℕ, List}
use Rattle.std.specs.Prelude.{Result, Ok, Err}
use Rattle.bench_trait.specs.declared.bench.BenchFault.{BenchFault}
use Rattle.bench_trait.specs.declared.bench.MeasureError.{MeasureError}
use Rattle.bench_trait.specs.declared.bench.MeasureError.TheVariants.{Fault, NoMemory}
use Rattle.bench_trait.specs.Bench.{MatchMeasured}
use Rattle.session_core.specs.Session.{session_in, keys_in, history}
use Rattle.session_core.proofs.session.run_tests.records.Goals as goal

any_matches : (Gives : List ℕ → Type 0) (Fails : BenchFault → Type 0) (Starves : Type 0) → ((bytes : List ℕ) → Gives bytes) → ((fault : BenchFault) → Fails fault) → Starves → (measured : Result (List ℕ) MeasureError) → MatchMeasured measured Gives Fails Starves
any_matches Gives Fails Starves gives fails starves (Ok bytes) = gives bytes
any_matches Gives Fails Starves gives fails starves (Err (Fault fault)) = fails fault
any_matches Gives Fails Starves gives fails starves (Err NoMemory) = starves

pub record-requires-clause-measured : goal.record-requires-clause-measured
record-requires-clause-measured c =
    let seen = c.args.session.now in
    let asked = c.in-Some.ensures in
    let unanswered = c.flight_law.ensures.unanswered (session_in seen.opening) (keys_in seen.opening) (history seen) asked.standing c.in-Some.pass c.args.event asked.stands asked.flies in
    (unanswered.ask, unanswered.asked, any_matches _ _ _ (λ bytes. tt) (λ fault. tt) tt c.args.measured)
