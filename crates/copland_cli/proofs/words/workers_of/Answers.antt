-- A text spells one number only.
use Rattle.std.proofs.Common.{arith, sym, ◌∙◌}
use Rattle.std.proofs.lemmas.Fmt.{decimal_injective}
use Rattle.copland_cli.proofs.words.workers_of.Goals as goal

pub returns-then-workers-eq0 : goal.returns-then-workers-eq0
returns-then-workers-eq0 c = λ workers least most spelled.
    let same = decimal_injective workers c.in-Some.workers (omega arith) (omega arith) (sym spelled ∙ c.in-Some.ensures.0) in
    omega (arith, same)

pub returns-then-workers-gt-MOST_WORKERS : goal.returns-then-workers-gt-MOST_WORKERS
returns-then-workers-gt-MOST_WORKERS c = λ workers least most spelled.
    let same = decimal_injective workers c.in-Some.workers (omega arith) (omega arith) (sym spelled ∙ c.in-Some.ensures.0) in
    omega (arith, same)
