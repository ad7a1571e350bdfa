-- The arguments that were passed have been fed.
use Rattle.std.proofs.Common.{ℕ, List, ◌++◌, take}
use Rattle.sha2.specs.Hashers.{Holds256}
use Rattle.bench_trait.specs.Digest.{args_text}
use Rattle.bench_trait.proofs.digest.feed_args.Given as goal

abbrev pub invariant-loop-arg : goal.invariant-loop-arg
invariant-loop-arg l =
    (fed : List ℕ) → Holds256 l.initial.hasher fed → Holds256 l.hasher (fed ++ args_text (take l.arg-index l.args))
