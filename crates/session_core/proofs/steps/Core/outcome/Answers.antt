use Rattle.std.proofs.Common.{◌≡◌, ℕ, sym, ap, ◌∙◌, refl}
use Rattle.std.specs.Prelude.{Result, Err}
use Rattle.bench_trait.specs.declared.bench.BenchFault.{BenchFault}
use Rattle.evidence_types.specs.Evidence.{Evidence}
use Rattle.evidence_store.specs.Kept.{value_at}
use Rattle.session_model.specs.declared.record.Record.{Record}
use Rattle.session_runs.specs.Standing.{is_open, is_done, has_failed, has_starved}
use Rattle.session_book.specs.Kept.{state_of}
use Rattle.session_core.specs.declared.played.OutcomeError.{OutcomeError}
use Rattle.session_core.specs.declared.played.OutcomeError.TheVariants.{NotFinished, NoMemory}
use Rattle.session_core.proofs.ReadingFacts.{state_is}
use Rattle.session_core.proofs.steps.Core.outcome.Goals as goal

done_open : (value : Evidence) → is_done value ≡ is_open → ⊥
done_open value e = absurd (cc)

failed_open : (event : ℕ) (fault : BenchFault) → has_failed event fault ≡ is_open → ⊥
failed_open event fault e = absurd (cc)

starved_open : (event : ℕ) → has_starved event ≡ is_open → ⊥
starved_open event e = absurd (cc)

short_finished : ◌≡◌ {A = Result Record OutcomeError} (Err NoMemory) (Err NotFinished) → ⊥
short_finished e = absurd (cc)

pub returns-in-Open-clause-found : goal.returns-in-Open-clause-found
returns-in-Open-clause-found c session keys places standing i =
    let core = c.args.self.now in
    sym (state_is session keys places standing core i) ∙ ap (state_of core.world.store.values) (sym c.ending.ensures ∙ c.in-Open.is)

pub returns-in-Open-clause-not_finished : goal.returns-in-Open-clause-not_finished
returns-in-Open-clause-not_finished c session keys places standing i =
    let core = c.args.self.now in (
      λ refused. sym (state_is session keys places standing core i) ∙ ap (state_of core.world.store.values) (sym c.ending.ensures ∙ c.in-Open.is),
      λ opened. refl,
    )

pub done-requires : goal.done-requires
done-requires c =
    let r = c.requires in
    let core = c.args.self.now in
    let values = core.world.store.values in
    record {
      session = r.0;
      keys = r.1;
      places = r.2;
      standing = r.3.0;
      value = value_at values c.in-Done.field-0;
      is = r.3.1;
      done = sym (state_is r.0 r.1 r.2 r.3.0 core r.3.1) ∙ ap (state_of values) (sym c.ending.ensures ∙ c.in-Done.is);
    }

pub returns-in-Done-clause-not_finished : goal.returns-in-Done-clause-not_finished
returns-in-Done-clause-not_finished c session keys places standing i =
    let core = c.args.self.now in
    let values = core.world.store.values in
    let stands = sym (state_is session keys places standing core i) ∙ ap (state_of values) (sym c.ending.ensures ∙ c.in-Done.is) in (
      λ refused. absurd (c.done.ensures.finished refused),
      λ opened. absurd (done_open (value_at values c.in-Done.field-0) (sym stands ∙ opened)),
    )

pub returns-in-Failed-clause-not_finished : goal.returns-in-Failed-clause-not_finished
returns-in-Failed-clause-not_finished c session keys places standing i =
    let core = c.args.self.now in
    let stands = sym (state_is session keys places standing core i) ∙ ap (state_of core.world.store.values) (sym c.ending.ensures ∙ c.in-Failed.is) in (
      λ refused. absurd (c.failed.ensures.finished refused),
      λ opened. absurd (failed_open c.in-Failed.event c.in-Failed.fault (sym stands ∙ opened)),
    )

pub returns-in-Starved-clause-not_finished : goal.returns-in-Starved-clause-not_finished
returns-in-Starved-clause-not_finished c session keys places standing i =
    let core = c.args.self.now in
    let stands = sym (state_is session keys places standing core i) ∙ ap (state_of core.world.store.values) (sym c.ending.ensures ∙ c.in-Starved.is) in (
      λ refused. absurd (short_finished refused),
      λ opened. absurd (starved_open c.in-Starved.event (sym stands ∙ opened)),
    )
