-- No row so far is the question's.
use Rattle.std.proofs.Common.{◌≡◌, drop}
use Rattle.bench_trait.specs.Table.{row_result}
use Rattle.bench_trait.proofs.table.TableBenchBench.measure.Given as goal

abbrev pub invariant-loop-row : goal.invariant-loop-row
invariant-loop-row l = row_result l.row-items l.ask ≡ row_result (drop l.row-index l.row-items) l.ask
