-- The sessions so far, and what is drawn from next.
use Rattle.std.proofs.Common.{◌≡◌, map}
use Rattle.place_check.specs.Session.{session_of}
use Rattle.load_maker.specs.Sessions.{made_sessions}
use Rattle.load_maker.proofs.sessions.made_sessions.Given as goal

abbrev pub invariant-loop-index : goal.invariant-loop-index
invariant-loop-index l = record {
  sessions : map session_of l.sessions.items ≡ (made_sessions l.number l.index l.fn.draws).thing;
  from : l.draws ≡ (made_sessions l.number l.index l.fn.draws).from;
}
