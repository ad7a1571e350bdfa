use Rattle.std.proofs.Common.{◌≡◌, sym, ◌∙◌, arith, true}
use Rattle.phrase_tree.specs.Numbering.{event_count}
use Rattle.phrase_tree.specs.Events.{Event, events_of}
use Rattle.avm_code.specs.Blocks.{place_named}
use Rattle.avm_code.specs.Made.{made_by_program}
use Rattle.avm_compile.specs.Program.{program_of}
use Rattle.machine_world.specs.World.{events_among}
use Rattle.machine_world.specs.Playable.{asks_listed}
use Rattle.machine_world.proofs.PlayLemmas.{program_known, passed_on, count_all, program_made, events_counted, blocks_counted, has_root}
use Rattle.machine_world.proofs.play.phrases_play.Goals as goal

pub returns : goal.returns
returns c = λ phrase place keys places sized keyed asks few.
    let program = program_of phrase place in
    let order = c.names_are_in_order.ensures phrase place in
    let made = passed_on (λ (one : Event). asks_listed places one.kind) (events_of phrase place 0) (made_by_program program) (c.each_event_is_made_once.ensures.events phrase place _) asks in
    let events : events_among program ≡ event_count phrase =
    sym (program_made (place_named program) program) ∙ sym (count_all (made_by_program program)) ∙ c.each_event_is_made_once.ensures.events phrase place (λ one. true) ∙ count_all (events_of phrase place 0) ∙ events_counted phrase place 0 in (
      record {
        runs = c.programs_run.ensures phrase place keys sized keyed;
        root = has_root program place (event_count phrase) order;
        few = few;
        knows = program_known program places (place_named program) program (c.named_blocks_are_there.ensures phrase place) made;
      },
      record { events = omega arith; blocks = blocks_counted program place (event_count phrase) order; few = omega (arith, sized.events) },
    )
