-- The sessions so far may be run, and are kept.
use Rattle.std.proofs.Common.{◌≡◌, length}
use Rattle.std.specs.Vec.Iter.{into_iter_items, into_iter_len}
use Rattle.job_reader.specs.Testing.{AreKept, IsPassedTo, read_sessions}
use Rattle.job_reader.proofs.checks.check_sessions.Given as goal

abbrev pub invariant-loop-session : goal.invariant-loop-session
invariant-loop-session l = record {
  passed : IsPassedTo (into_iter_items l.initial.session-iterator) l.yielded (into_iter_items l.session-iterator) (into_iter_len l.session-iterator);
  numbered : l.index ≡ length l.yielded;
  kept : AreKept l.places (read_sessions l.yielded) l.list.items;
}
