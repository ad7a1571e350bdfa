-- The end of a block on the tables of a world, and what is known of results that are there.
use Rattle.std.proofs.Common.{◌≡◌, ℕ, ◌<◌, Bool, true, false, Option, None, Some, if◌then◌else◌, refl, sym, ap, ◌∙◌, subst, IfSome}
use Rattle.evidence_types.specs.Evidence.{Evidence}
use Rattle.session_runs.specs.Standing.{of}
use Rattle.avm_code.specs.declared.instr.BlockName.{BlockName}
use Rattle.avm_code.specs.declared.instr.BlockName.TheVariants.{Root, Of}
use Rattle.machine_tables.specs.Tables.{Tables, over, put_reply, after_end}
use Rattle.branch_join.specs.declared.state.BlockState.{BlockState}
use Rattle.branch_join.specs.Blocks.{result_of}
use Rattle.machine_world.specs.declared.world.World.{World}
use Rattle.machine_world.specs.Cells.{Book, block_of, tables_of}
use Rattle.machine_world.specs.World.{ResultBelow}
use Rattle.machine_world.specs.Calls.{with_cell}
use Rattle.machine_world.proofs.KeptLemmas.{result-known}

pub end-root : (name : BlockName) (remote : Bool) (value : Evidence) (world : World) (book : Book) → name ≡ Root
    → with_cell (block_of name) (over value) (tables_of world book) ≡ (let t : Tables = record (after_end (block_of name) remote value (tables_of world book)) { state = book.state } in t)
end-root name remote value world book is =
    subst (λ (n : BlockName). with_cell (block_of n) (over value) (tables_of world book) ≡ (let t : Tables = record (after_end (block_of n) remote value (tables_of world book)) { state = book.state } in t)) (sym is) refl

end_number : (number : ℕ) (remote : Bool) (value : Evidence) (world : World) (book : Book)
    → (let t = with_cell (of number) (over value) (tables_of world book) in let u : Tables = if remote then record t { replies = put_reply number (Some value) t.replies } else t in u)
    ≡ (let t : Tables = record (after_end (of number) remote value (tables_of world book)) { state = book.state } in t)
end_number number true value world book = refl
end_number number false value world book = refl

pub end-number : (name : BlockName) (number : ℕ) (b remote : Bool) (value : Evidence) (world : World) (book : Book) (closed : Tables) → name ≡ Of number → b ≡ remote → closed ≡ with_cell (block_of name) (over value) (tables_of world book)
    → (let u : Tables = if b then record closed { replies = put_reply number (Some value) closed.replies } else closed in u)
    ≡ (let t : Tables = record (after_end (block_of name) remote value (tables_of world book)) { state = book.state } in t)
end-number name number b remote value world book closed is same e =
    subst (λ (n : BlockName). closed ≡ with_cell (block_of n) (over value) (tables_of world book) → (let u : Tables = if b then record closed { replies = put_reply number (Some value) closed.replies } else closed in u) ≡ (let t : Tables = record (after_end (block_of n) remote value (tables_of world book)) { state = book.state } in t)) (sym is)
    (λ closes.
    ap (λ (t : Tables). let u : Tables = if b then record t { replies = put_reply number (Some value) t.replies } else t in u) closes
    ∙ ap (λ (r : Bool). let t = with_cell (of number) (over value) (tables_of world book) in let u : Tables = if r then record t { replies = put_reply number (Some value) t.replies } else t in u) same
    ∙ end_number number remote value world book)
    e

pub result-below : (count : ℕ) (state : BlockState) (found : Option ℕ) → found ≡ result_of state → ResultBelow count state → IfSome found (λ id. id < count)
result-below count state None e below = tt
result-below count state (Some id) e below = result-known count state id below (sym e)
