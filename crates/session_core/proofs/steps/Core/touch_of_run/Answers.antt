use Rattle.std.proofs.Common.{ap, ◌∙◌}
use Rattle.session_core.specs.Touching.{touch_as}
use Rattle.session_core.proofs.TouchingFacts.{run_touch}
use Rattle.session_core.proofs.steps.Core.touch_of_run.Goals as goal

pub returns : goal.returns
returns c session keys places standing i h =
    ap touch_as c.touch_by.ensures
    ∙ run_touch session keys places standing c.args.self.now c.args.name c.touched.result c.steps_law.ensures.moves c.steps_law.ensures.next c.played_law.ensures.can c.touches_law.ensures.runs i c.touched.ensures h
