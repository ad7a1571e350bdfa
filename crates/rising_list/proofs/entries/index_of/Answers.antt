use Rattle.std.proofs.Common.{arith}
use Rattle.rising_list.proofs.RisingLemmas.{IsAt-place, IsAbsent-past, IsAbsent-other}
use Rattle.rising_list.proofs.entries.index_of.Goals as goal

pub returns-then-at-entries : goal.returns-then-at-entries
returns-then-at-entries g c = IsAbsent-past c.args.number c.place_of-at.result c.args.entries.now c.requires c.place_of-at.ensures.place c.if-at-entries.true

pub returns-then-entries-at : goal.returns-then-entries-at
returns-then-entries-at g c =
    IsAbsent-other c.args.number c.place_of-at.result c.args.entries.now c.index-entries-at.result c.requires c.place_of-at.ensures.place (omega arith) c.if-entries-at.true

pub returns : goal.returns
returns g c =
    IsAt-place c.args.number c.place_of-at.result c.args.entries.now c.index-entries-at.result c.requires c.place_of-at.ensures.place c.if-at-entries.false c.if-entries-at.false
