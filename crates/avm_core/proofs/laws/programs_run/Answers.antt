use Rattle.std.proofs.Common.{◌+◌, ◌*◌, ◌≤◌, ◌<◌, ◌^◌, ℕ, List, [], ◌∷◌, length, arith, IsTrue}
use Rattle.std.specs.List.{AllByRecursion}
use Rattle.phrase_tree.specs.Numbering.{event_count}
use Rattle.avm_code.specs.declared.program.Block.{Block}
use Rattle.avm_code.specs.Blocks.{ends_once}
use Rattle.avm_code.specs.Heights.{HeightsFit}
use Rattle.avm_compile.specs.Laws.{IsShort}
use Rattle.avm_compile.specs.Program.{program_of}
use Rattle.avm_core.specs.Machine.{RunsBlock}
use Rattle.avm_core.specs.Programs.{IsKeyed}
use Rattle.avm_core.proofs.laws.programs_run.Goals as goal

-- what holds of each block in four lists of facts, taken together
each : (most : ℕ) (keys : List (List ℕ × List ℕ)) (blocks : List Block) → most ≤ 1000000 → AllByRecursion (λ one. IsTrue (ends_once one.code)) blocks → AllByRecursion (λ one. HeightsFit 65 0 one.code) blocks → AllByRecursion (IsKeyed keys) blocks → AllByRecursion (IsShort most) blocks
    → AllByRecursion (RunsBlock keys) blocks
each most keys [] few ends fit keyed short = tt
each most keys (one ∷ rest) few ends fit keyed short =
    let here : length one.code ≤ 2 * most + 1 = short.0 in
    (record { can_run = record { ends = ends.0; fits = fit.0; keyed = keyed.0 }; short = omega arith }, each most keys rest few ends.1 fit.1 keyed.1 short.1)

pub returns : goal.returns
returns c = λ phrase place keys sized keyed.
    let few : event_count phrase ≤ 1000000 = omega (arith, sized.events) in
    record {
      order = record { place = place; end = event_count phrase; order = c.names_are_in_order.ensures phrase place };
      blocks = each (event_count phrase) keys (program_of phrase place) few (c.code_ends_once.ensures phrase place) (c.stacks_fit.ensures.fit phrase place sized) keyed (c.code_is_short.ensures phrase place);
    }
