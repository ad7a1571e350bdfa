use Rattle.std.proofs.Common.{ℕ, ◌+◌, List, [], ◌∷◌, ◌++◌, take, sym, ap, ◌∙◌, subst}
use Rattle.std.proofs.lemmas.List.{take_more}
use Rattle.sha2.specs.Hashers.{Holds256}
use Rattle.bench_trait.specs.Digest.{args_text}
use Rattle.bench_trait.proofs.DigestLemmas.{fed_more}
use Rattle.bench_trait.proofs.digest.feed_args.Goals as goal

pub loop-arg-preserved : goal.loop-arg-preserved
loop-arg-preserved c = λ fed holds.
    let args = c.args.args.now in
    let at = c.loop-arg.arg-index in
    let one_more = take_more args at c.arg-item.result c.loop-arg-test.true ∙ ap (λ arg. take at args ++ arg ∷ []) (sym c.arg-item.is) in
    subst (λ (message : List ℕ). Holds256 c.feed_arg.new.hasher message)
    (fed_more fed (take at args) (take (at + 1) args) c.arg-item.result one_more)
    (c.feed_arg.ensures (fed ++ args_text (take at args)) (c.loop-arg.invariant fed holds))
