use Rattle.std.proofs.Common.{◌≡◌, length}
use Rattle.std.specs.Prelude.{IfSome}
use Rattle.session_desk.specs.Opening.{IsFit}
use Rattle.session_desk.specs.Answers.{IsHeld, IsQuestion}
use Rattle.session_tests.proofs.interleavings.interleaves.Given as goal

abbrev pub invariant-loop : goal.invariant-loop
invariant-loop g l =
    record {
      two : length l.desk ≡ 2;
      fit_a : IsFit l.bench l.artefacts l.desk l.players.a.pass;
      fit_b : IsFit l.bench l.artefacts l.desk l.players.b.pass;
      fit_c : IsFit l.bench l.artefacts l.desk l.players.c.pass;
      held_a : IfSome l.players.a.held (λ held. IsHeld l.players.a.pass held.hand × IsQuestion l.players.a.pass held.hand held.ask);
      held_b : IfSome l.players.b.held (λ held. IsHeld l.players.b.pass held.hand × IsQuestion l.players.b.pass held.hand held.ask);
      held_c : IfSome l.players.c.held (λ held. IsHeld l.players.c.pass held.hand × IsQuestion l.players.c.pass held.hand held.ask);
    }
