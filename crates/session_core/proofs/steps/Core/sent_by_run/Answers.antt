use Rattle.std.proofs.Common.{ℕ, List, refl, sym, ◌∙◌}
use Rattle.std.specs.Prelude.{Option, Some, None}
use Rattle.std.specs.Option.{option_map}
use Rattle.evidence_types.specs.Bytes.{bundle}
use Rattle.evidence_store.specs.Kept.{value_at}
use Rattle.machine_world.specs.Cells.{block_of}
use Rattle.session_book.specs.declared.entry.Move.TheVariants.{Run}
use Rattle.session_core.specs.Core.{tables_in}
use Rattle.session_core.specs.Reading.{Tells}
use Rattle.session_core.specs.Touching.{IsMessageOf}
use Rattle.session_core.proofs.TouchingFacts.{run_message, known_at, if_message}
use Rattle.session_core.proofs.steps.Core.sent_by_run.Goals as goal

pub emit-requires : goal.emit-requires
emit-requires c =
    let core = c.args.self.now in
    known_at core.world.store.values c.args.name ((tables_in core).blocks (block_of c.args.name)) c.touched.result c.in-Some.id c.touched.ensures (sym c.sent_id.ensures ∙ c.in-Some.is)

pub returns-in-Some : goal.returns-in-Some
returns-in-Some c =
    let core = c.args.self.now in
    if_message c.emit.result (option_map bundle (Some (value_at core.world.store.values c.in-Some.id))) (λ message. Tells core (λ session places standing. IsMessageOf places standing (Run c.args.name) message)) c.emit.ensures
    (λ message e session keys places standing i h. run_message session keys places standing core c.args.name c.touched.result (Some c.in-Some.id) message c.steps_law.ensures.moves c.steps_law.ensures.next c.played_law.ensures.can c.touches_law.ensures.runs i c.touched.ensures (sym c.sent_id.ensures ∙ c.in-Some.is) e h)

pub returns-in-None : goal.returns-in-None
returns-in-None c session keys places standing i h =
    run_message session keys places standing c.args.self.now c.args.name c.touched.result None None c.steps_law.ensures.moves c.steps_law.ensures.next c.played_law.ensures.can c.touches_law.ensures.runs i c.touched.ensures (sym c.sent_id.ensures ∙ c.in-None.is) refl h
