use Rattle.std.proofs.Common.{◌≡◌, length}
use Rattle.place_mail.proofs.tests.fill.Given as goal

abbrev pub invariant-loop-name : goal.invariant-loop-name
invariant-loop-name l = length l.mail.requests ≡ 64
