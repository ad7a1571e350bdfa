-- Each piece goes to the appraiser behind those ahead of it.
use Rattle.std.proofs.Common.{◌∙◌, rules}
use Rattle.std.proofs.lemmas.List.{nil_from_length}
use Rattle.std.specs.Slice.Iter.{chunks_rest}
use Rattle.load_runner.proofs.FeedLemmas.{begins, ends, goes_on}
use Rattle.load_runner.proofs.feeding.feed_all.Goals as goal

pub loop-piece-init : goal.loop-piece-init
loop-piece-init c = (search rules, tt, search rules, search rules, begins _ _ _ (search rules))

pub loop-piece-preserved : goal.loop-piece-preserved
loop-piece-preserved c =
    let steps = c.in-Some.ensures.steps in (
      search rules,
      tt,
      steps.0 ∙ c.loop-piece.invariant.2,
      c.feed.ensures.ready,
      goes_on c.args.appraiser.now c.loop-piece.appraiser c.feed.new.self c.args.bytes.now (chunks_rest c.loop-piece.piece-iterator) c.in-Some.piece.now (chunks_rest c.next.new.self) c.loop-piece.invariant.4 steps.1.0 c.in_ok-feed.ensures.fed,
    )

pub returns-clause-fed : goal.returns-clause-fed
returns-clause-fed c = ends _ _ _ _ (nil_from_length _ c.in-None.ensures.steps.1.0) c.loop-piece.invariant.4
