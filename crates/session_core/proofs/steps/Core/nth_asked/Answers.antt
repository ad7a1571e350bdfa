use Rattle.std.proofs.Common.{◌≡◌, ℕ, List, sym, ap, ◌∙◌, subst, refl}
use Rattle.std.specs.Prelude.{Option, Some, None, slice_get}
use Rattle.std.specs.Option.{option_map}
use Rattle.avm_code.specs.Order.{place_called}
use Rattle.machine_tables.specs.Tables.{block_name}
use Rattle.machine_world.specs.Cells.{block_of, tables_of, opening_book}
use Rattle.machine_world.specs.Answers.{ask_of, ask_at}
use Rattle.session_book.specs.declared.entry.Flight.{Flight}
use Rattle.session_core.specs.Core.{program_in, history_in, tables_in}
use Rattle.session_runs.specs.MoveOrder.{asks_in_order}
use Rattle.session_core.proofs.Flying.{flying_asks}
use Rattle.session_core.specs.Reading.{question_of}
use Rattle.session_core.proofs.ReadingFacts.{asks_so_next}
use Rattle.session_core.proofs.steps.Core.nth_asked.Goals as goal

pub returns-in-None : goal.returns-in-None
returns-in-None c session keys places standing i =
    ap (question_of session) (ap (option_map (λ (entry : ℕ × Flight). (entry.0, entry.1.pass))) (sym c.in-None.is) ∙ c.nth_flight.ensures.listed ∙ sym (ap (λ xs. slice_get xs c.args.index) (c.asks_law.ensures session keys places standing c.args.self.now i refl)))

pub returns-in-Some : goal.returns-in-Some
returns-in-Some c session keys places standing i =
    let core = c.args.self.now in
    let event = c.in-Some.field-0-0 in
    let flight = c.in-Some.flight in
    let name = block_of flight.name in
    let cell = (tables_in core).blocks name in
    let flies : (tables_in core).in_flight event ≡ Some (flight.pass, name) = c.in-Some.ensures.flies core.world.store.values in
    let next = flying_asks c.done_law.ensures session keys (history_in core) standing (tables_in core) event flight.pass name i.played.played flies in
    let there : Some (event, flight.pass) ≡ slice_get (asks_in_order standing.in_flight) c.args.index = c.in-Some.ensures.listed ∙ sym (ap (λ xs. slice_get xs c.args.index) (c.asks_law.ensures session keys places standing core i refl)) in
    c.ask.ensures
    ∙ ap (λ n. ask_at n (place_called core.world.program (block_name name)) cell) i.made.nonce
    ∙ ap (λ p. ask_at session.nonce (place_called p (block_name name)) cell) i.played.program
    ∙ asks_so_next session (place_called (program_in session) (block_name name)) event cell next
    ∙ ap (question_of session) there
