-- What was made of the parts is put together.
use Rattle.event_system.proofs.building.+building.Goals as goal

pub chained-returns-in_ok-so_far-in-Then-clause-system : goal.chained-returns-in_ok-so_far-in-Then-clause-system
chained-returns-in_ok-so_far-in-Then-clause-system t c =
    let left = rw c.deref.ensures at c.in_ok-so_far-in-Then.ensures.system in
    let next = rw c.deref.ensures at c.in_ok-so_far-in-Then.ensures.next in
    let last = rw (c.deref-in-Then-2.ensures, next) at c.system_part-last.ensures in
    let whole = rw left at (c.paired.ensures _ last) in
    rw c.in-Then.is (c.up_to.ensures.system _ whole)

pub system_part-returns-in_ok-one-in-Seq : goal.system_part-returns-in_ok-one-in-Seq
system_part-returns-in_ok-one-in-Seq t c =
    let left = rw c.deref-in-Seq-3.ensures at c.in_ok-one-in-Seq.ensures in
    let last = rw (c.deref-in-Seq-4.ensures, c.events-in-Seq.ensures, c.deref-in-Seq.ensures) at c.system_part-other.ensures in
    let arms = rw left at (c.paired-arms.ensures _ last) in
    let join = rw (c.events-in-Seq.ensures, c.events-in-Seq-2.ensures, c.deref-in-Seq.ensures, c.deref-in-Seq-2.ensures, c.in-Seq.is) at c.edge-join.ensures in
    let split = rw c.in-Seq.is at c.edge-split.ensures in
    rw c.in-Seq.is (c.framed-in-Seq.ensures _ _ _ split arms join)

pub system_part-returns-in_ok-one-in-Par : goal.system_part-returns-in_ok-one-in-Par
system_part-returns-in_ok-one-in-Par t c =
    let left = rw c.deref-in-Par-3.ensures at c.in_ok-one-in-Par.ensures in
    let last = rw (c.deref-in-Par-4.ensures, c.events-in-Par.ensures, c.deref-in-Par.ensures) at c.system_part-other-in-Par.ensures in
    let arms = rw left at (c.paired-arms-in-Par.ensures _ last) in
    let join = rw (c.events-in-Par.ensures, c.events-in-Par-2.ensures, c.deref-in-Par.ensures, c.deref-in-Par-2.ensures, c.in-Par.is) at c.edge-join-in-Par.ensures in
    let split = rw c.in-Par.is at c.edge-split-in-Par.ensures in
    rw c.in-Par.is (c.framed-in-Par.ensures _ _ _ split arms join)
