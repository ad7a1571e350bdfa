-- What holds of the program of every phrase.
use Rattle.std.specs.Prelude.{◌≡◌, ◌+◌, ◌≤◌, ◌<◌, ◌&&◌, ◌*◌, ℕ, Bool, true, false, IsTrue, List, [], ◌∷◌, length, nat_eq}
use Rattle.std.specs.List.{AllByRecursion, count_by, list_any}
use Rattle.phrase_tree.specs.Term.{Term, leaf, at, chain, seq, par}
use Rattle.phrase_tree.specs.Numbering.{event_count, IsSized}
use Rattle.phrase_tree.specs.Events.{Event, Kind, requests, events_of}
use Rattle.avm_code.specs.declared.instr.BlockName.TheVariants.{Of}
use Rattle.avm_code.specs.declared.program.Block.{Block}
use Rattle.avm_code.specs.Blocks.{block, blocks_named, NamesBlock, is_remote, waits_among, WaitsAs, ends_once}
use Rattle.avm_code.specs.Heights.{HeightsFit, height_at}
use Rattle.avm_code.specs.Made.{made_by_program}
use Rattle.avm_code.specs.Order.{RootComesFirst}
use Rattle.avm_compile.specs.Program.{whole_code, program_of}

-- the root block comes first, at the place of the session, and the names of the others rise and are
-- numbers of events
abbrev pub NamesAreInOrder : Type 0
NamesAreInOrder =
    (phrase : Term) (place : List ℕ) → RootComesFirst (program_of phrase place) place (event_count phrase)

-- each block that an instruction names is in the program exactly once, where the instruction says
abbrev pub NamedBlocksAreThere : Type 0
NamedBlocksAreThere =
    (phrase : Term) (place : List ℕ) → AllByRecursion (λ one. AllByRecursion (NamesBlock (program_of phrase place) one.place) one.code) (program_of phrase place)

-- exactly one block has this number: it is at this place, and runs this phrase from a number on
abbrev pub IsBlockOf : List Block → ℕ → List ℕ → Term → ℕ → Type 0
IsBlockOf blocks number place phrase i = blocks_named number blocks ≡ block (Of number) place (whole_code phrase i) ∷ []

-- the blocks that a phrase which a place runs from a number on has beside the block that runs it are among
-- these: a request's with the code of what it asks for, a right arm's with the code of the arm
abbrev pub HasBlocks : List Block → Term → List ℕ → ℕ → Type 0
HasBlocks blocks (leaf form) place i = Unit {0}
HasBlocks blocks (at asked body) place i = IsBlockOf blocks i asked body (i + 1) × HasBlocks blocks body asked (i + 1)
HasBlocks blocks (chain left right) place i =
    HasBlocks blocks left place i × HasBlocks blocks right place (i + event_count left)
HasBlocks blocks (seq split left right) place i =
    HasBlocks blocks left place (i + 1) × HasBlocks blocks right place (i + 1 + event_count left)
HasBlocks blocks (par split left right) place i =
    IsBlockOf blocks i place right (i + 1 + event_count left)
    × HasBlocks blocks left place (i + 1)
    × HasBlocks blocks right place (i + 1 + event_count left)

-- the program of a phrase has the blocks of the phrase
abbrev pub PhrasesHaveBlocks : Type 0
PhrasesHaveBlocks = (phrase : Term) (place : List ℕ) → HasBlocks (program_of phrase place) phrase place 0

-- as many instructions wait for a block as there are blocks of its number, so exactly one for each block
-- but the root's, and none for a number that names no block
abbrev pub EachBlockIsAwaitedOnce : Type 0
EachBlockIsAwaitedOnce =
    (phrase : Term) (place : List ℕ) (number : ℕ) → waits_among number (program_of phrase place) ≡ length (blocks_named number (program_of phrase place))

-- no number names two blocks
abbrev pub NamesAreUnlike : Type 0
NamesAreUnlike =
    (phrase : Term) (place : List ℕ) (number : ℕ) → length (blocks_named number (program_of phrase place)) ≤ 1

-- the block whose code waits for another is the one that the program says
abbrev pub WaitingBlocksAreKnown : Type 0
WaitingBlocksAreKnown =
    (phrase : Term) (place : List ℕ) → AllByRecursion (λ one. AllByRecursion (WaitsAs (program_of phrase place) one.name) one.code) (program_of phrase place)

-- each block is at a place of one of the phrase's events, so what each event's place passes, each
-- block's does
abbrev pub BlocksAreWhereEventsAre : Type 0
BlocksAreWhereEventsAre =
    (phrase : Term) (place : List ℕ) (test : List ℕ → Bool) → AllByRecursion (λ one. IsTrue (test one.place)) (events_of phrase place 0) → AllByRecursion (λ one. IsTrue (test one.place)) (program_of phrase place)

-- the events that the instructions make are those of the phrase, as often, with their numbers, kinds and places
abbrev pub MakesTheEvents : Type 0
MakesTheEvents =
    (phrase : Term) (place : List ℕ) (test : Event → Bool) → count_by test (made_by_program (program_of phrase place)) ≡ count_by test (events_of phrase place 0)

-- each event of the phrase is made by exactly one instruction of one block
abbrev pub MakesEachEventOnce : Type 0
MakesEachEventOnce =
    (phrase : Term) (place : List ℕ) (number : ℕ) → number < event_count phrase → count_by (λ one. nat_eq one.number number) (made_by_program (program_of phrase place)) ≡ 1

-- each block's code ends with `End` and has it nowhere else
abbrev pub CodeEndsOnce : Type 0
CodeEndsOnce =
    (phrase : Term) (place : List ℕ) → AllByRecursion (λ one. IsTrue (ends_once one.code)) (program_of phrase place)

-- the block has at most two instructions for each of so many events, and its end
abbrev pub IsShort : ℕ → Block → Type 0
IsShort most one = length one.code ≤ 2 * most + 1

-- each block has at most two instructions for each event of the phrase, and its end
abbrev pub CodeIsShort : Type 0
CodeIsShort = (phrase : Term) (place : List ℕ) → AllByRecursion (IsShort (event_count phrase)) (program_of phrase place)

-- in the blocks of a sized phrase the stack has what each instruction takes, is empty at the end, and
-- never has more than 65 entries
abbrev pub StacksFit : Type 0
StacksFit =
    (phrase : Term) (place : List ℕ) → IsSized phrase → AllByRecursion (λ one. HeightsFit 65 0 one.code) (program_of phrase place)

-- the height at each place of the code of such a block is at most 65
abbrev pub HeightsAreLow : Type 0
HeightsAreLow =
    (phrase : Term) (place : List ℕ) → IsSized phrase → AllByRecursion (λ one. (index : ℕ) → height_at one.code index ≤ 65) (program_of phrase place)

-- a request
abbrev pub asks : Kind → Bool
asks (requests place) = true
asks _ = false

-- the event is a request with this number
abbrev pub is_request : ℕ → Event → Bool
is_request number one = asks one.kind && nat_eq one.number number

-- the blocks that a place is asked to run are those of the phrase's requests; every other block behind
-- the root's is a right arm's
abbrev pub RemoteBlocksAreRequests : Type 0
RemoteBlocksAreRequests =
    (phrase : Term) (place : List ℕ) (number : ℕ) → is_remote (program_of phrase place) number ≡ list_any (is_request number) (events_of phrase place 0)
