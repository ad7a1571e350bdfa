use Rattle.std.proofs.Common.{sym, ◌∙◌, subst}
use Rattle.session_core.specs.Session.{keys_in, places_in}
use Rattle.wire_walk.specs.UnderWay.{turn_of, TakesTurn}
use Rattle.wire_walk.proofs.TurnLemmas.{one_more, to_the_end}
use Rattle.wire_walk.proofs.walk.play_out.Goals as goal

pub loop-turn-preserved : goal.loop-turn-preserved
loop-turn-preserved g c =
    let inv = c.loop-turn.invariant in
    let opening = c.args.wire.now.seen.opening in
    let first = turn_of c.args.wire.now c.args.flight.now c.args.draws.now in
    let before = turn_of c.loop-turn.wire c.loop-turn.flight c.loop-turn.draws in
    let after = turn_of c.one_turn.new.wire c.one_turn.new.flight c.one_turn.new.draws in
    let turn = subst (λ o. TakesTurn (places_in o) (keys_in o) before after) inv.opening c.in_ok-one_turn.ensures.turn in
    record {
      opening = c.one_turn.ensures.opening ∙ inv.opening;
      walked = c.in_ok-one_turn.ensures.walked;
      rest = c.in_ok-one_turn.ensures.rest;
      zero = c.one_turn.ensures.zero ∙ inv.zero;
      turns = record {
        takes = λ results agrees.
            one_more (places_in opening) (keys_in opening) results c.loop-turn.turn first before after (inv.turns.takes results (turn.grows results agrees)) (sym c.is_going.ensures ∙ c.if-not-is_going.false) (turn.takes results agrees);
      };
    }

pub returns-then-not-is_going-clause-turns : goal.returns-then-not-is_going-clause-turns
returns-then-not-is_going-clause-turns g c =
    let inv = c.loop-turn.invariant in
    let opening = c.args.wire.now.seen.opening in
    record {
      takes = λ results agrees.
          to_the_end (places_in opening) (keys_in opening) results c.loop-turn.turn c.args.most (turn_of c.args.wire.now c.args.flight.now c.args.draws.now) (turn_of c.loop-turn.wire c.loop-turn.flight c.loop-turn.draws) c.loop-turn.auto.turn-end (inv.turns.takes results agrees) (sym c.is_going.ensures ∙ c.if-not-is_going.true);
    }
