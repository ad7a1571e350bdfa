use Rattle.std.proofs.Common.{List, sym, subst}
use Rattle.std.specs.List.{AllByRecursion}
use Rattle.phrase_tree.specs.Term.{term}
use Rattle.avm_code.specs.declared.program.Block.{Block}
use Rattle.avm_core.specs.Machine.{Runs}
use Rattle.avm_core.specs.Programs.{IsKeyed}
use Rattle.avm_core.proofs.tests.program.Goals as goal

pub returns-clause-runs : goal.returns-clause-runs
returns-clause-runs g c =
    let keys = c.args.keys.now in
    let is = c.in_ok-program.ensures in
    subst (λ (p : List Block). Runs p keys) (sym is)
    (c.programs_run.ensures (term c.args.phrase.now) c.name-place.result keys c.requires (subst (λ (p : List Block). AllByRecursion (IsKeyed keys) p) is (c.has_keys-keyed.ensures c.if-not-keyed.false)))

pub returns-clause-made : goal.returns-clause-made
returns-clause-made g c = (c.name-place.result, c.in_ok-program.ensures)
