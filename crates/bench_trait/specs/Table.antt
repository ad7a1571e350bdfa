-- A bench that answers by rows.
use Rattle.std.specs.Prelude.{◌≡◌, ◌&&◌, ℕ, Bool, List, [], ◌∷◌, Result, Ok, Err, nat_eq, if◌then◌else◌}
use Rattle.std.specs.Cmp.Lexicographic.{pointwise}
use Rattle.bench_trait.specs.declared.ask.Ask.{Ask}
use Rattle.bench_trait.specs.declared.bench.BenchFault.{BenchFault}
use Rattle.bench_trait.specs.declared.bench.BenchFault.TheVariants.{NoArtefact}
use Rattle.bench_trait.specs.declared.bench.MeasureError.{MeasureError}
use Rattle.bench_trait.specs.declared.bench.MeasureError.TheVariants as error
use Rattle.bench_trait.specs.declared.table.TableResult.{TableResult}
use Rattle.bench_trait.specs.declared.table.TableResult.TheVariants.{Answer, Fault, Starve}
use Rattle.bench_trait.specs.declared.table.TableRow.{TableRow}

-- the row is of the question's nonce and event
abbrev pub is_row_of : Ask → TableRow → Bool
is_row_of ask row = pointwise nat_eq row.nonce ask.nonce && nat_eq row.event ask.event

-- what the first row of a question says; without a row, that there is nothing to measure
abbrev pub row_result : List TableRow → Ask → TableResult
row_result [] ask = Fault NoArtefact
row_result (row ∷ rows) ask = if is_row_of ask row then row.outcome else row_result rows ask

-- an answer to a question says what a row says
abbrev pub IsSaid : Result (List ℕ) MeasureError → TableResult → Type 0
IsSaid (Ok answer) outcome = outcome ≡ Answer answer
IsSaid (Err (error.Fault fault)) outcome = outcome ≡ Fault fault
IsSaid (Err error.NoMemory) outcome = outcome ≡ Starve
