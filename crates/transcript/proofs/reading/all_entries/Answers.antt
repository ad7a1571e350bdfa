use Rattle.std.proofs.Common.{length, nat_eq, sym, ap, ◌∙◌}
use Rattle.std.proofs.lemmas.Bool.{eqb-true, eq-eqb}
use Rattle.std.proofs.lemmas.List.{nil_from_length}
use Rattle.transcript.proofs.ReadingLemmas.{all_fails, all_rest, all_whole, not_both}
use Rattle.transcript.proofs.reading.all_entries.Goals as goal

pub returns-in-Err : goal.returns-in-Err
returns-in-Err c = all_fails c.args.count c.args.bytes.now c.in-Err.first c.in-Err.ensures

pub returns-then-is_empty : goal.returns-then-is_empty
returns-then-is_empty c =
    all_whole c.args.count c.args.bytes.now c.in-Ok.behind.now c.in-Ok.ensures
    (nil_from_length c.in-Ok.behind.now (eqb-true (length c.in-Ok.behind.now) 0 (sym c.is_empty.ensures ∙ c.if-is_empty.true)))

pub returns-else-is_empty : goal.returns-else-is_empty
returns-else-is_empty c =
    all_rest c.args.count c.args.bytes.now c.in-Ok.behind.now c.in-Ok.ensures
    (λ e. not_both (nat_eq (length c.in-Ok.behind.now) 0) (sym c.is_empty.ensures ∙ c.if-is_empty.false) (eq-eqb (length c.in-Ok.behind.now) 0 (ap length e)))
