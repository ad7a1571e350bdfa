-- What was printed, and what the instructions to come will print, are what all print.
use Rattle.std.proofs.Common.{◌≡◌, ◌++◌, drop}
use Rattle.avm_code.specs.Listing.{code_text}
use Rattle.avm_code.proofs.lines.push_code.Given as goal

abbrev pub invariant-loop-instr : goal.invariant-loop-instr
invariant-loop-instr l = l.text.items ++ code_text (drop l.instr-index l.code) ≡ l.fn.text.items ++ code_text l.fn.code
