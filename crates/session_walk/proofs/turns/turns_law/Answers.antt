use Rattle.std.proofs.Common.{length}
use Rattle.std.specs.Prelude.{None}
use Rattle.session_model.specs.Record.{numbers_below}
use Rattle.session_runs.specs.Schedule.{all_opened}
use Rattle.place_check.specs.Places.{keys_of}
use Rattle.checked_sessions.specs.Named.{place_names}
use Rattle.session_walk.proofs.TurnLemmas.{first_turn, all_walked}
use Rattle.session_walk.proofs.turns.turns_law.Goals as goal

pub returns-clause-begins : goal.returns-clause-begins
returns-clause-begins g c = λ bench book places those only.
    first_turn (g.B.Bench.gives bench book) (g.B.Bench.fails bench book) (g.B.Bench.starves bench book) book bench places those (all_opened those) (numbers_below (length those)) only
    (c.walk_law.ensures.begins bench book (place_names places) (keys_of places) those 0 only)

pub returns-clause-ends : goal.returns-clause-ends
returns-clause-ends g c = λ bench book places those over turn.
    c.walk_law.ensures.ends bench book (place_names places) (keys_of places) those 0 over None turn.only
    (all_walked (g.B.Bench.gives bench book) (g.B.Bench.fails bench book) (g.B.Bench.starves bench book) book bench places those over turn)
