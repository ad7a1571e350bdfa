-- What a session knows of its mail, after each change of it, and once the store has grown.
use Rattle.std.proofs.Common.{◌≡◌, ℕ, zero, suc, ◌<◌, ◌≤◌, Bool, true, false, List, [], ◌∷◌, ◌++◌, None, Some, length, drop, slice_index_or, slice_set, slice_get, nat_eq, nat_lt, if◌then◌else◌, refl, ap, subst, arith}
use Rattle.rising_list.specs.Rising.{inserted, removed}
use Rattle.place_mail.specs.declared.request.Request.{Request}
use Rattle.place_mail.specs.Mail.{front_at, posted, taken}
use Rattle.avm_code.specs.declared.instr.BlockName.TheVariants.{Of}
use Rattle.avm_code.specs.declared.program.Block.{Block}
use Rattle.avm_code.specs.Order.{HasBlock}
use Rattle.branch_join.specs.declared.state.BlockState.{BlockState}
use Rattle.branch_join.specs.declared.state.BlockState.TheVariants.{NotStarted, Running, Ended}
use Rattle.branch_join.specs.Blocks.{result_of}
use Rattle.machine_world.specs.Seen.{RequestsBelow, ListsBelow, RepliesBelow}
use Rattle.machine_world.specs.World.{HasBlocks, HasAllBlocks, ResultBelow}

-- ---- more values

requests-more : (low high : ℕ) (requests : List Request) → low ≤ high → RequestsBelow low requests → RequestsBelow high requests
requests-more low high [] le below = tt
requests-more low high (request ∷ rest) le below =
    let b : request.evidence < low = below.0 in (omega arith, requests-more low high rest le below.1)

pub lists-more : (low high : ℕ) (lists : List (List Request)) → low ≤ high → ListsBelow low lists → ListsBelow high lists
lists-more low high [] le below = tt
lists-more low high (list ∷ lists) le below = (requests-more low high list le below.0, lists-more low high lists le below.1)

pub replies-more : (low high : ℕ) (replies : List (ℕ × ℕ)) → low ≤ high → RepliesBelow low replies → RepliesBelow high replies
replies-more low high [] le below = tt
replies-more low high (reply ∷ rest) le below =
    let b : reply.1 < low = below.0 in (omega arith, replies-more low high rest le below.1)

pub result-more : (low high : ℕ) (state : BlockState) → low ≤ high → ResultBelow low state → ResultBelow high state
result-more low high NotStarted le below = tt
result-more low high Running le below = tt
result-more low high (Ended id) le below = let b : id < low = below in omega arith

-- ---- a request comes, and goes

requests-push : (count : ℕ) (requests : List Request) (request : Request) → RequestsBelow count requests → request.evidence < count → RequestsBelow count (requests ++ request ∷ [])
requests-push count [] request below h = (h, tt)
requests-push count (first ∷ rest) request below h = (below.0, requests-push count rest request below.1 h)

blocks-push : (program : List Block) (requests : List Request) (request : Request) → HasBlocks program requests → HasBlock program (Of request.name) → HasBlocks program (requests ++ request ∷ [])
blocks-push program [] request all h = (h, tt)
blocks-push program (first ∷ rest) request all h = (all.0, blocks-push program rest request all.1 h)

requests-rest : (count : ℕ) (requests : List Request) → RequestsBelow count requests → RequestsBelow count (drop 1 requests)
requests-rest count [] below = tt
requests-rest count (first ∷ rest) below = below.1

blocks-rest : (program : List Block) (requests : List Request) → HasBlocks program requests → HasBlocks program (drop 1 requests)
blocks-rest program [] all = tt
blocks-rest program (first ∷ rest) all = all.1

pub lists-posted : (count : ℕ) (lists : List (List Request)) (index : ℕ) (request : Request) → ListsBelow count lists → request.evidence < count → ListsBelow count (posted index request lists)
lists-posted count [] index request below h = tt
lists-posted count (list ∷ lists) zero request below h = (requests-push count list request below.0 h, below.1)
lists-posted count (list ∷ lists) (suc index) request below h = (below.0, lists-posted count lists index request below.1 h)

pub all-posted : (program : List Block) (lists : List (List Request)) (index : ℕ) (request : Request) → HasAllBlocks program lists → HasBlock program (Of request.name) → HasAllBlocks program (posted index request lists)
all-posted program [] index request all h = tt
all-posted program (list ∷ lists) zero request all h = (blocks-push program list request all.0 h, all.1)
all-posted program (list ∷ lists) (suc index) request all h = (all.0, all-posted program lists index request all.1 h)

pub lists-taken : (count : ℕ) (lists : List (List Request)) (index : ℕ) → ListsBelow count lists → ListsBelow count (taken index lists)
lists-taken count [] index below = tt
lists-taken count (list ∷ lists) zero below = (requests-rest count list below.0, below.1)
lists-taken count (list ∷ lists) (suc index) below = (below.0, lists-taken count lists index below.1)

pub all-taken : (program : List Block) (lists : List (List Request)) (index : ℕ) → HasAllBlocks program lists → HasAllBlocks program (taken index lists)
all-taken program [] index all = tt
all-taken program (list ∷ lists) zero all = (blocks-rest program list all.0, all.1)
all-taken program (list ∷ lists) (suc index) all = (all.0, all-taken program lists index all.1)

pub set-length : {A : Type 0} (items : List A) (index : ℕ) (now : A) → length (slice_set items index now) ≡ length items
set-length [] index now = refl
set-length (item ∷ items) zero now = refl
set-length (item ∷ items) (suc index) now = ap suc (set-length items index now)

pub set-read : {A : Type 0} (items : List A) (index : ℕ) (now other : A) → index < length items → slice_index_or (slice_set items index now) index other ≡ now
set-read [] index now other h = absurd (omega arith)
set-read (item ∷ items) zero now other h = refl
set-read (item ∷ items) (suc index) now other h = set-read items index now other (omega arith)

some_is : {A : Type 0} {x y : A} → Some x ≡ Some y → x ≡ y
some_is e = cc

-- the first request at a place is known
first_known : (program : List Block) (count : ℕ) (list : List Request) (request : Request) → slice_get list 0 ≡ Some request → HasBlocks program list → RequestsBelow count list → HasBlock program (Of request.name) × (request.evidence < count)
first_known program count [] request e all below = cc
first_known program count (first ∷ rest) request e all below =
    subst (λ (r : Request). HasBlock program (Of r.name) × (r.evidence < count)) (some_is e) (all.0, below.0)

pub front-known : (program : List Block) (count : ℕ) (lists : List (List Request)) (place : ℕ) (request : Request) → front_at place lists ≡ Some request → HasAllBlocks program lists → ListsBelow count lists → HasBlock program (Of request.name) × (request.evidence < count)
front-known program count [] place request e all below = cc
front-known program count (list ∷ lists) zero request e all below = first_known program count list request e all.0 below.0
front-known program count (list ∷ lists) (suc place) request e all below = front-known program count lists place request e all.1 below.1

-- ---- a reply comes, and goes

put_if : (count number id : ℕ) (reply : ℕ × ℕ) (rest : List (ℕ × ℕ)) (b : Bool) → id < count → RepliesBelow count (reply ∷ rest) → RepliesBelow count (inserted number id rest) → RepliesBelow count (if b then reply ∷ inserted number id rest else (number, id) ∷ (reply ∷ rest))
put_if count number id reply rest true h below later = (below.0, later)
put_if count number id reply rest false h below later = (h, below)

pub replies-came : (count number id : ℕ) (replies : List (ℕ × ℕ)) → id < count → RepliesBelow count replies → RepliesBelow count (inserted number id replies)
replies-came count number id [] h below = (h, tt)
replies-came count number id (reply ∷ rest) h below = put_if count number id reply rest (nat_lt reply.0 number) h below (replies-came count number id rest h below.1)

gone_if : (count number : ℕ) (reply : ℕ × ℕ) (rest : List (ℕ × ℕ)) (b : Bool) → RepliesBelow count (reply ∷ rest) → RepliesBelow count (removed number rest) → RepliesBelow count (if b then rest else reply ∷ removed number rest)
gone_if count number reply rest true below later = below.1
gone_if count number reply rest false below later = (below.0, later)

pub replies-went : (count number : ℕ) (replies : List (ℕ × ℕ)) → RepliesBelow count replies → RepliesBelow count (removed number replies)
replies-went count number [] below = tt
replies-went count number (reply ∷ rest) below = gone_if count number reply rest (nat_eq reply.0 number) below (replies-went count number rest below.1)

-- ---- the result of a block that is over

pub result-known : (count : ℕ) (state : BlockState) (id : ℕ) → ResultBelow count state → result_of state ≡ Some id → id < count
result-known count NotStarted id below e = none_some e
  where
    none_some : {P : Type 0} → None ≡ Some id → P
    none_some e = cc
result-known count Running id below e = none_some e
  where
    none_some : {P : Type 0} → None ≡ Some id → P
    none_some e = cc
result-known count (Ended result) id below e =
    let same : result ≡ id = some_same e in
    let b : result < count = below in
    omega arith
  where
    some_same : Some result ≡ Some id → result ≡ id
    some_same e = cc
