-- What an agenda is to be told after an entry of a history (this project's own).
use Rattle.std.specs.Prelude.{◌≡◌, ℕ, List, [], ◌∷◌, Option, None, Some, slice_get}
use Rattle.std.specs.List.{AllByRecursion}
use Rattle.avm_code.specs.declared.instr.Instr.{Instr}
use Rattle.avm_code.specs.declared.instr.Instr.TheVariants.{Send}
use Rattle.avm_code.specs.declared.program.Block.{Block as CodeBlock}
use Rattle.machine_tables.specs.Tables.{BlockState, not_started, running, over, Tables, next_of}
use Rattle.session_runs.specs.Standing.{run, deliver, Entry, played}
use Rattle.session_tables.specs.Touched.{touched, any_waits}
use Rattle.session_agenda.specs.declared.moves.Update.{Update}
use Rattle.session_agenda.specs.declared.moves.PlaceUpdate.{PlaceUpdate}
use Rattle.session_agenda.specs.Updated.{updated, Says}

-- the place to which an instruction sends a request
abbrev pub sent_to : Instr → Option (List ℕ)
sent_to (Send number asked) = Some asked
sent_to _ = None

abbrev pub sent_in : List Instr → Option (List ℕ)
sent_in [] = None
sent_in (instr ∷ rest) = sent_to instr

abbrev pub sent_at : BlockState → Option (List ℕ)
sent_at not_started = None
sent_at (running for_request local) = sent_in local.rest
sent_at (over result) = None

-- the place at which an entry changes what requests wait: that of a send, or of a delivery
abbrev pub touched_place : Tables → Entry → Option (List ℕ)
touched_place tables (played pass (run name)) = sent_at (tables.blocks name)
touched_place tables (played pass (deliver place)) = Some place
touched_place tables _ = None

-- it is told of this place by its index, if there is one, and whether a request waits there now
abbrev pub TellsPlace : List (List ℕ) → Tables → Option (List ℕ) → Option PlaceUpdate → Type 0
TellsPlace places new None None = Unit {0}
TellsPlace places new None (Some update) = ⊥
TellsPlace places new (Some place) None = ⊥
TellsPlace places new (Some place) (Some update) =
    (slice_get places update.place ≡ Some place) × (update.waits ≡ any_waits (new.requests place))

-- it is told what the blocks that the entry touches can do next now, and of the place
pub record Tells (program : List CodeBlock) (places : List (List ℕ)) (old new : Tables) (entry : Entry) (blocks : List Update) (place : Option PlaceUpdate) : Type 0 where
  pub names : updated blocks ≡ touched program old entry
  pub said : AllByRecursion (Says (next_of new)) blocks
  pub where_waits : TellsPlace places new (touched_place old entry) place
