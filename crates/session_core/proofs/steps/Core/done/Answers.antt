use Rattle.std.proofs.Common.{◌≡◌, ℕ, List, sym, ap, ◌∙◌, subst}
use Rattle.std.specs.Prelude.{Option, Some}
use Rattle.std.specs.Option.{option_map}
use Rattle.evidence_types.specs.Evidence.{Evidence}
use Rattle.evidence_types.specs.Bytes.{bundle}
use Rattle.evidence_store.specs.Kept.{value_at}
use Rattle.machine_tables.specs.Tables.{result_of}
use Rattle.session_model.specs.Session.{session_questions}
use Rattle.session_model.specs.Record.{Record, done}
use Rattle.session_runs.specs.Standing.{is_done}
use Rattle.session_runs.specs.History.{answers_to, record_of}
use Rattle.session_book.specs.Kept.{AreByEvent}
use Rattle.session_core.specs.Core.{history_in, tables_in}
use Rattle.session_core.proofs.ReadingFacts.{state_is}
use Rattle.session_core.proofs.Recording.{answers_are}
use Rattle.session_core.proofs.steps.Core.done.Goals as goal

pub unreachable-requires : goal.unreachable-requires
unreachable-requires c =
    let r = c.requires in
    let over = (c.over_law.ensures r.session r.keys (history_in c.args.self.now) r.standing (tables_in c.args.self.now) r.value r.is.played.played).0 r.done in
    let none = ap (option_map (value_at c.args.self.now.world.store.values)) (sym c.in-None.is) ∙ c.root_result.ensures.value ∙ ap result_of over in
    absurd (cc)

same_value : (a b : Evidence) → ◌≡◌ {A = Option Evidence} (Some a) (Some b) → a ≡ b
same_value a b e = cc

abbrev found : List ℕ → List (ℕ × List ℕ) → List ℕ → Option Record
found trace answers bytes = Some (done trace answers bytes)

pub returns-in-Ok-emit-clause-found : goal.returns-in-Ok-emit-clause-found
returns-in-Ok-emit-clause-found c session keys places standing i =
    let core = c.args.self.now in
    let values = core.world.store.values in
    let r = c.requires in
    let stands : standing.state ≡ is_done r.value = sym (state_is session keys places standing core i) ∙ state_is r.session r.keys r.places r.standing core r.is ∙ r.done in
    let over = (c.over_law.ensures session keys (history_in core) standing (tables_in core) r.value i.played.played).0 stands in
    let all = c.done_law.ensures session keys (history_in core) standing r.value i.played.played.stands stands in
    let value_is : value_at values c.in-Some.id ≡ r.value = same_value (value_at values c.in-Some.id) r.value (ap (option_map (value_at values)) (sym c.in-Some.is) ∙ c.root_result.ensures.value ∙ ap result_of over) in
    let trace_is : c.in-Ok.trace ≡ standing.trace = c.in-Ok.ensures values ∙ i.played.played.shown.trace in
    let answers_is : c.in-Ok-answers.answers ≡ answers_to (session_questions session) standing.answers =
    answers_are session standing r.value c.in-Ok-answers.answers all (subst (λ a. AreByEvent a c.in-Ok-answers.answers) i.played.played.shown.answers c.in-Ok-answers.ensures) in
    let bundle_is : c.in-Ok-emit.bundle ≡ bundle r.value = c.in-Ok-emit.ensures ∙ ap bundle value_is in
    ap (record_of session standing) stands
    ∙ ap (λ t. found t (answers_to (session_questions session) standing.answers) (bundle r.value)) (sym trace_is)
    ∙ ap (λ a. found c.in-Ok.trace a (bundle r.value)) (sym answers_is)
    ∙ ap (λ b. found c.in-Ok.trace c.in-Ok-answers.answers b) (sym bundle_is)
