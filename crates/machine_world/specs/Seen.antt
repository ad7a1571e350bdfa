-- What the mail and the blocks of a session hold, on values, by the names of places and blocks.
use Rattle.std.specs.Prelude.{◌<◌, ℕ, List, [], ◌∷◌, Option, map, nat_eq}
use Rattle.std.specs.Option.{option_map}
use Rattle.std.specs.Cmp.Lexicographic.{pointwise}
use Rattle.evidence_types.specs.Evidence.{Evidence}
use Rattle.evidence_store.specs.Kept.{value_at}
use Rattle.rising_list.specs.Rising.{find}
use Rattle.place_mail.specs.declared.request.Request.{Request}
use Rattle.avm_code.specs.declared.instr.BlockName.{BlockName}
use Rattle.avm_code.specs.declared.program.Block.{Block}
use Rattle.branch_join.specs.Blocks.{is_same}
use Rattle.machine_world.specs.Named.{at_name, IsIndex}

-- a request: its number, and the evidence on which its block runs
abbrev pub request_value : List Evidence → Request → ℕ × Evidence
request_value values request = (request.name, value_at values request.evidence)

abbrev pub requests_on : List Evidence → List Request → List (ℕ × Evidence)
requests_on values requests = map (request_value values) requests

-- the list that belongs to a place, among lists by the places' names; none where the place isn't there
abbrev pub list_at : List (List ℕ) → List (List Request) → List ℕ → List Request
list_at names lists place = at_name (pointwise nat_eq) [] names lists place

-- the index of a place
abbrev pub IsPlace : List (List ℕ) → List ℕ → ℕ → Type 0
IsPlace names place index = IsIndex (pointwise nat_eq) names place index

-- the requests that wait at a place, and the reply to a request
abbrev pub requests_at : List Evidence → List (List ℕ) → List (List Request) → List ℕ → List (ℕ × Evidence)
requests_at values names lists place = requests_on values (list_at names lists place)

abbrev pub reply_to : List Evidence → List (ℕ × ℕ) → ℕ → Option Evidence
reply_to values answers number = option_map (value_at values) (find number answers)

-- the ids of requests and of replies are those of the first values, of which there are so many
abbrev pub RequestsBelow : ℕ → List Request → Type 0
RequestsBelow count [] = Unit {0}
RequestsBelow count (request ∷ rest) = (request.evidence < count) × RequestsBelow count rest

abbrev pub ListsBelow : ℕ → List (List Request) → Type 0
ListsBelow count [] = Unit {0}
ListsBelow count (list ∷ rest) = RequestsBelow count list × ListsBelow count rest

abbrev pub RepliesBelow : ℕ → List (ℕ × ℕ) → Type 0
RepliesBelow count [] = Unit {0}
RepliesBelow count (reply ∷ rest) = (reply.1 < count) × RepliesBelow count rest

-- the names of blocks in order, and the index of a block
abbrev pub names_of : List Block → List BlockName
names_of blocks = map (λ block. block.name) blocks

abbrev pub IsBlock : List Block → BlockName → ℕ → Type 0
IsBlock blocks name index = IsIndex is_same (names_of blocks) name index

-- what belongs to a block, among things in the order of the program
abbrev pub of_block : {A : Type 0} → A → List Block → List A → BlockName → A
of_block nothing blocks items name = at_name is_same nothing (names_of blocks) items name
