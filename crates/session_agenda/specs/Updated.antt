-- What an agenda is told after an entry of a history: what the blocks that the entry touches can do next
-- now, and where a request waits now or doesn't (this project's own).
use Rattle.std.specs.Prelude.{◌≡◌, ◌⊎◌, ℕ, Bool, true, List, [], ◌∷◌, Option, None, Some, IfSome, map, nat_eq, if◌then◌else◌}
use Rattle.std.specs.List.{AllByRecursion}
use Rattle.machine_tables.specs.Tables.{Next, same_name}
use Rattle.session_runs.specs.Moves.{Step}
use Rattle.session_runs.specs.Standing.{Block}
use Rattle.session_tables.specs.Touched.{named, changed_at}
use Rattle.session_agenda.specs.declared.moves.Update.{Update}
use Rattle.session_agenda.specs.declared.moves.PlaceUpdate.{PlaceUpdate}
use Rattle.session_agenda.specs.declared.agenda.Agenda.{Agenda}
use Rattle.session_agenda.specs.Kept.{next_of_task, HasRoomFor}

-- the blocks of which it is told
abbrev pub updated_block : Update → Block
updated_block update = named update.name

abbrev pub updated : List Update → List Block
updated updates = map updated_block updates

-- what it is told of a block is what the block can do next by this
abbrev pub Says : (Block → Next) → Update → Type 0
Says next update = next (updated_block update) ≡ next_of_task update.task

-- no two blocks can do next what has the same event
abbrev pub AreOfOwnEvents : (Block → Next) → Type 0
AreOfOwnEvents next =
    (one other : Block) (step step_of_other : Step) (event : ℕ) → next one ≡ Some (step, Some event) → next other ≡ Some (step_of_other, Some event) → one ≡ other

-- the new function is what the updates say, and else what the old one was
pub record Become (old : Block → Next) (updates : List Update) (new : Block → Next) : Type 0 where
  pub said : AllByRecursion (Says new) updates
  pub others : (block : Block) → new block ≡ changed_at (updated updates) new old block
  pub own : AreOfOwnEvents new

-- there is room for what a block can do next, if anything
abbrev pub HasRoomToMark : Agenda → Update → Type 0
HasRoomToMark agenda update = IfSome update.task (HasRoomFor agenda update.name)

-- nothing, whatever the block
abbrev pub no_next : Block → Next
no_next block = None

-- what a block can do next is marked; or it isn't, and the block is one of these
abbrev pub IsMarkedBut : List Block → Next → Next → Block → Type 0
IsMarkedBut [] marked next block = marked ≡ next
IsMarkedBut (name ∷ names) marked next block =
    ((same_name name block ≡ true) × (marked ≡ None)) ⊎ IsMarkedBut names marked next block

-- all is marked but what the updates say
pub record Lacks (marked : Block → Next) (updates : List Update) (next : Block → Next) : Type 0 where
  pub said : AllByRecursion (Says next) updates
  pub but : (block : Block) → IsMarkedBut (updated updates) (marked block) (next block) block
  pub own : AreOfOwnEvents next

-- whether a request waits at the place of an index, once it is told of one place or of none
abbrev pub waits_now : Option PlaceUpdate → (ℕ → Bool) → ℕ → Bool
waits_now None old place = old place
waits_now (Some update) old place = if nat_eq update.place place then update.waits else old place
