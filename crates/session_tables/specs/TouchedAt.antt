-- What a block's next instruction touches of requests and replies (this project's own).
use Rattle.std.specs.Prelude.{Bool, true, false, Option, None, Some}
use Rattle.evidence_types.specs.Evidence.{Evidence}
use Rattle.avm_code.specs.declared.instr.Instr.{Instr}
use Rattle.avm_code.specs.declared.instr.Instr.TheVariants.{Send, Recv, End}
use Rattle.machine_tables.specs.Row.{Local}
use Rattle.session_runs.specs.Standing.{Block, root, of}
use Rattle.session_runs.specs.Touches.{Touch, touches_nothing, sends_request, sends_reply, needs_reply, Touched}

abbrev pub touched_so : Touch → Option Evidence → Touched
touched_so touch sent = record { touch = touch; sent = sent }

-- the end of a block that runs a request sends the reply, and no other does
abbrev pub touched_at_end : Block → Bool → Evidence → Touched
touched_at_end root for_request evidence = touched_so touches_nothing None
touched_at_end (of n) true evidence = touched_so (sends_reply n) (Some evidence)
touched_at_end (of n) false evidence = touched_so touches_nothing None

-- what a block touches with an instruction: Send sends a request, Recv needs a reply, and the end of a
-- block that runs a request sends one
abbrev pub touched_at : Block → Bool → Instr → Local → Touched
touched_at name for_request (Send i place) local = touched_so (sends_request i) (Some local.evidence)
touched_at name for_request (Recv j i) local = touched_so (needs_reply i) None
touched_at name for_request End local = touched_at_end name for_request local.evidence
touched_at name for_request _ local = touched_so touches_nothing None
