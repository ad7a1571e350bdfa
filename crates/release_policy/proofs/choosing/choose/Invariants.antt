-- Each session so far is denied something, and its first denial is kept.
use Rattle.std.proofs.Common.{◌≡◌, ◌++◌, drop, map}
use Rattle.place_check.specs.Session.{session_of}
use Rattle.release_policy.proofs.ChoiceLemmas.{before_free, first_free}
use Rattle.release_policy.proofs.choosing.choose.Given as goal

abbrev pub invariant-loop-checked : goal.invariant-loop-checked
invariant-loop-checked l = record {
  counted : l.index ≡ l.checked-index;
  chosen : first_free 0 l.policy (map session_of l.sessions) ≡ first_free l.index l.policy (map session_of (drop l.checked-index l.sessions));
  denials : before_free l.policy (map session_of l.sessions) ≡ l.denials.items ++ before_free l.policy (map session_of (drop l.checked-index l.sessions));
}
