use Rattle.session_core.specs.Reading.{result_entry}
use Rattle.session_core.specs.Session.{keys_in}
use Rattle.session_core.proofs.SessionFacts.{core_of, result_is, after_step, seen_step}
use Rattle.session_core.proofs.session.Session.record.Goals as goal

pub record-requires : goal.record-requires
record-requires g c = record {
  session = _;
  keys = _;
  places = _;
  standing = c.requires.asked.standing;
  is =
      core_of _ g.B.Bench.gives g.B.Bench.fails g.B.Bench.starves c.self.inside.opened c.self.inside.core _ c.requires.asked.standing c.self.invariant c.self.view_is c.requires.asked.stands;
  flies = c.requires.asked.flies;
}

pub invariant_of-self : goal.invariant_of-self
invariant_of-self g c =
    after_step _ g.B.Bench.gives g.B.Bench.fails g.B.Bench.starves c.self.inside.opened c.self.inside.core c.record.new.self (result_entry c.args.pass c.args.event c.args.measured) c.record.result c.self.invariant c.record.ensures.adds c.record.ensures.err (c.record.ensures.core (keys_in c.self.inside.opened)) (result_is _ g.B.Bench.gives g.B.Bench.fails g.B.Bench.starves c.self.inside.opened _ c.self.inside.core.book c.args.pass c.args.event c.args.measured c.self.view_is c.requires.measured)

pub returns-clause-ended : goal.returns-clause-ended
returns-clause-ended g c standing stands =
    c.record.ensures.ended _ _ _ standing (core_of _ g.B.Bench.gives g.B.Bench.fails g.B.Bench.starves c.self.inside.opened c.self.inside.core _ standing c.self.invariant c.self.view_is stands)

pub returns-clause-ok : goal.returns-clause-ok
returns-clause-ok g c =
    seen_step _ g.B.Bench.gives g.B.Bench.fails g.B.Bench.starves c.self.inside.opened c.self.inside.core c.record.new.self _ (result_entry c.args.pass c.args.event c.args.measured) c.record.result c.self.invariant c.self.view_is c.record.ensures.adds
