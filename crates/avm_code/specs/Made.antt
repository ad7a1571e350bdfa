-- The events that the instructions of a program make.
use Rattle.std.specs.Prelude.{ℕ, List, [], ◌∷◌, ◌++◌}
use Rattle.phrase_tree.specs.Events.{Event, event, copies, measures, measures_at, seals, hashes, empties, requests, replies, splits, joins}
use Rattle.avm_code.specs.declared.instr.Instr.{Instr}
use Rattle.avm_code.specs.declared.instr.Instr.TheVariants.{Copy, Usm, Kim, Sign, Hash, Null, Split, Swap, JoinSeq, Send, Recv, Fork, JoinPar, End}
use Rattle.avm_code.specs.declared.program.Block.{Block}
use Rattle.avm_code.specs.Blocks.{place_named}

-- the event that an instruction of a block at a place makes, given the places of the blocks by their
-- numbers; none for `Swap` and `End`
abbrev pub made_by : (ℕ → List ℕ) → List ℕ → Instr → List Event
made_by places place (Copy number) = event number copies place ∷ []
made_by places place (Usm number asp) = event number (measures asp) place ∷ []
made_by places place (Kim number target asp) = event number (measures_at target asp) place ∷ []
made_by places place (Sign number) = event number seals place ∷ []
made_by places place (Hash number) = event number hashes place ∷ []
made_by places place (Null number) = event number empties place ∷ []
made_by places place (Split number split) = event number splits place ∷ []
made_by places place Swap = []
made_by places place (JoinSeq number) = event number joins place ∷ []
made_by places place (Send number asked) = event number (requests asked) place ∷ []
made_by places place (Recv number name) = event number (replies (places name)) place ∷ []
made_by places place (Fork number split) = event number splits place ∷ []
made_by places place (JoinPar number name) = event number joins place ∷ []
made_by places place End = []

-- the events that the code of a block at a place makes
abbrev pub made_in : (ℕ → List ℕ) → List ℕ → List Instr → List Event
made_in places place [] = []
made_in places place (first ∷ rest) = made_by places place first ++ made_in places place rest

-- the events that blocks make, block after block
abbrev pub made_by_blocks : (ℕ → List ℕ) → List Block → List Event
made_by_blocks places [] = []
made_by_blocks places (first ∷ rest) = made_in places first.place first.code ++ made_by_blocks places rest

-- the events that the blocks of a program make
abbrev pub made_by_program : List Block → List Event
made_by_program blocks = made_by_blocks (place_named blocks) blocks
