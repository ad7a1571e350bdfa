-- What a configuration says of each number and of each block (this project's own).
use Rattle.std.specs.Prelude.{ℕ, Bool, true, false, nat_eq, if◌then◌else◌}
use Rattle.evidence_types.specs.Evidence.{Evidence, empty}
use Rattle.session_runs.specs.Configuration.{Configuration, todo, asked, posted, remote, first, left_arm, right_arm, both_arms, finished, once_finished}
use Rattle.session_runs.specs.Standing.{Block, root, of}
use Rattle.session_tables.specs.Left.{Left, left_of}

-- nothing, as of a number whose turn hasn't come, or whose result is taken; an ask in flight, by this
-- block; a request that waits, with its evidence; a block that runs, for a request or not, and what is left
-- of it; a block that ended, whose result is a reply that waits; one whose result waits for its branch
pub data View : Type 0 where
  unseen : View
  asks_for : Block → View
  waits : Evidence → View
  runs : Bool → Left → View
  replied : Evidence → View
  joinable : Evidence → View

-- the first, or where it says nothing the other
abbrev pub seen_or : View → View → View
seen_or unseen other = other
seen_or (asks_for name) other = asks_for name
seen_or (waits evidence) other = waits evidence
seen_or (runs for_request left) other = runs for_request left
seen_or (replied result) other = replied result
seen_or (joinable result) other = joinable result

-- a block that ended with this result
abbrev pub ended_view : Bool → Evidence → View
ended_view true result = replied result
ended_view false result = joinable result

-- the result of a configuration that is finished
abbrev pub result_in : Configuration → Evidence
result_in c = once_finished c empty (λ result. result)

-- a block that runs this, for a request or not, and has ended or not
abbrev pub block_view : Bool → Configuration → Bool → View
block_view for_request c false = runs for_request (left_of c)
block_view for_request c true = ended_view for_request (result_in c)

-- what a configuration that a block runs says of a number
abbrev pub found : Block → Configuration → ℕ → View
found name (todo phrase i before) n = unseen
found name (asked form i before) n = if nat_eq n i then asks_for name else unseen
found name (posted asked_place i body before) n = if nat_eq n i then waits before else unseen
found name (remote asked_place i last inner ended) n =
    if nat_eq n i then block_view true inner ended else found (of i) inner n
found name (first inner right i) n = found name inner n
found name (left_arm inner right i before last) n = found name inner n
found name (right_arm left_result inner last) n = found name inner n
found name (both_arms i last left right ended) n =
    if nat_eq n i then block_view false right ended else seen_or (found name left n) (found (of i) right n)
found name (finished result) n = unseen

-- what a session's configuration says of a block
abbrev pub found_block : Configuration → Block → View
found_block c root = runs false (left_of c)
found_block c (of n) = found root c n
