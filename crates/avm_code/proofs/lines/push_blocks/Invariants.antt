-- What was printed, and what the blocks to come will print, are what all print.
use Rattle.std.proofs.Common.{◌≡◌, ◌++◌, drop}
use Rattle.avm_code.specs.Listing.{listing_text}
use Rattle.avm_code.proofs.lines.push_blocks.Given as goal

abbrev pub invariant-loop-block : goal.invariant-loop-block
invariant-loop-block l = l.text.items ++ listing_text (drop l.block-index l.blocks) ≡ l.fn.text.items ++ listing_text l.fn.blocks
