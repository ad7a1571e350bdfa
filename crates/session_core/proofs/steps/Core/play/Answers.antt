use Rattle.std.proofs.Common.{refl}
use Rattle.std.specs.Prelude.{true, false, Contains}
use Rattle.session_runs.specs.MoveOrder.{possible_moves}
use Rattle.session_book.specs.Entries.{move_of}
use Rattle.session_core.proofs.PlayingFacts.{is_made, is_refused}
use Rattle.session_core.proofs.steps.Core.play.Goals as goal

pub can-requires : goal.can-requires
can-requires c = (c.requires.0, c.args.keys.now, c.requires.1, c.requires.2)

pub make-requires : goal.make-requires
make-requires c =
    let r = c.requires in
    record {
      session = r.0;
      places = r.1;
      standing = r.2.0;
      is = r.2.1;
      possible = (c.can.ensures r.0 c.args.keys.now r.1 r.2.0 r.2.1).0 c.if-not-can.false;
    }

pub returns-then-not-can-clause-refused : goal.returns-then-not-can-clause-refused
returns-then-not-can-clause-refused c session keys places standing i =
    is_refused (Contains (possible_moves places standing) (move_of c.args.step)) true c.can.result refl c.if-not-can.true (c.can.ensures session keys places standing i)

pub returns-clause-refused : goal.returns-clause-refused
returns-clause-refused c session keys places standing i =
    is_made (Contains (possible_moves places standing) (move_of c.args.step)) false refl ((c.can.ensures session keys places standing i).0 c.if-not-can.false)
