-- Calls that changed nothing, and then one that did: together they are that one.
use Rattle.std.proofs.Common.{◌≡◌, ◌∙◌, ℕ, List, ◌++◌, ap, sym}
use Rattle.std.specs.Prelude.{Option, None, Some, Result, Ok, Err, [], take}
use Rattle.std.specs.Io.KnownBytes.{Keeps, Consumes, Appends, IsAtEnd, ReadConsumes, WriteAppends}
use Rattle.std.proofs.KnownBytes.{Keeps-trans}

consumed_then : (a b c : Option (List ℕ)) (bs : List ℕ) → Keeps a b → Consumes b c bs → Consumes a c bs
consumed_then None b c bs kept consumed = tt
consumed_then (Some x) None c bs kept consumed = absurd kept
consumed_then (Some x) (Some y) None bs kept consumed = absurd consumed
consumed_then (Some x) (Some y) (Some z) bs kept consumed = sym kept ∙ consumed

appended_then : (a b c : Option (List ℕ)) (bs : List ℕ) → Keeps a b → Appends b c bs → Appends a c bs
appended_then None b c bs kept appended = tt
appended_then (Some x) None c bs kept appended = absurd kept
appended_then (Some x) (Some y) None bs kept appended = absurd appended
appended_then (Some x) (Some y) (Some z) bs kept appended = appended ∙ ap (λ front. front ++ bs) kept

pub read_then : {E : Type 0} (a b c : Option (List ℕ)) (result : Result ℕ E) (buf : List ℕ)
    → Keeps a b → ReadConsumes b c result buf → ReadConsumes a c result buf
read_then a b c (Ok count) buf kept (consumed, end) = (consumed_then a b c _ kept consumed, end)
read_then a b c (Err error) buf kept same = Keeps-trans a b c kept same

pub written_then : {E : Type 0} (a b c : Option (List ℕ)) (result : Result ℕ E) (buf : List ℕ)
    → Keeps a b → WriteAppends b c result buf → WriteAppends a c result buf
written_then a b c (Ok count) buf kept appended = appended_then a b c _ kept appended
written_then a b c (Err error) buf kept same = Keeps-trans a b c kept same
