-- Each call compares one argument less.
use Rattle.std.proofs.Common.{length}
use Rattle.reference_book.proofs.order.+args_order.Given as goal

abbrev pub decreases-args_order : goal.decreases-args_order
decreases-args_order l = length l.args.now
