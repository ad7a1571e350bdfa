-- The arguments that are left get fewer.
use Rattle.std.proofs.Common.{length}
use Rattle.phrase_tree.proofs.text.+push_args.Given as goal

abbrev pub decreases-push_args : goal.decreases-push_args
decreases-push_args l = length l.args.now
