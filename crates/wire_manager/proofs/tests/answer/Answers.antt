use Rattle.std.proofs.Common.{◌≡◌, ℕ, List, sym, ap, subst}
use Rattle.std.specs.Prelude.{Some, Result, Ok, Err}
use Rattle.bench_trait.specs.declared.bench.BenchFault.{BenchFault}
use Rattle.bench_trait.specs.declared.bench.MeasureError.{MeasureError}
use Rattle.bench_trait.specs.declared.bench.MeasureError.TheVariants.{Fault, NoMemory}
use Rattle.bench_trait.specs.Asking.{question}
use Rattle.bench_trait.specs.Bench.{MatchMeasured}
use Rattle.session_core.specs.Reading.{TellsOf}
use Rattle.session_core.specs.Session.{session_in}
use Rattle.wire_manager.proofs.tests.answer.Goals as goal

any_matches : (Gives : List ℕ → Type 0) (Fails : BenchFault → Type 0) (Starves : Type 0) → ((bytes : List ℕ) → Gives bytes) → ((fault : BenchFault) → Fails fault) → Starves → (measured : Result (List ℕ) MeasureError) → MatchMeasured measured Gives Fails Starves
any_matches Gives Fails Starves gives fails starves (Ok bytes) = gives bytes
any_matches Gives Fails Starves gives fails starves (Err (Fault fault)) = fails fault
any_matches Gives Fails Starves gives fails starves (Err NoMemory) = starves

pub record-requires-clause-measured : goal.record-requires-clause-measured
record-requires-clause-measured g c =
    let before = c.linked.ensures.legal in
    let after = c.linked-in-Ok-Asked.ensures.legal in
    let ask = c.in-Ok-Asked.ask in
    let told = subst (λ p. TellsOf (session_in c.args.wire.now.seen.opening) 3 c.args.step before.0 after.0 p) c.in-Ok-Asked.field-0-is (c.in-Ok-Asked.ensures.tells before.0 after.0 before.1.stands after.1.stands) in (
      ask,
      subst (λ o. question (session_in o).phrase (session_in o).root (session_in o).nonce ask.event ≡ Some ask) (ap (λ s. s.opening) (sym c.in-Ok-Asked.ensures.history)) told.1,
      any_matches _ _ _ (λ bytes. tt) (λ fault. tt) tt c.args.measured,
    )
