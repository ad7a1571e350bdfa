-- The place lies between the two ends.
use Rattle.std.proofs.Common.{◌≤◌, ◌-◌, length}
use Rattle.rising_list.specs.Rising.{place}
use Rattle.rising_list.proofs.entries.place_of.Given as goal

abbrev pub invariant-loop-low : goal.invariant-loop-low
invariant-loop-low g l = (l.low ≤ place l.number l.entries) × (place l.number l.entries ≤ l.high) × (l.high ≤ length l.entries)

abbrev pub decreases-loop-low : goal.decreases-loop-low
decreases-loop-low g l = l.high - l.low
