-- Bytes that are fed in pieces.
use Rattle.std.proofs.Common.{◌≡◌, ℕ, ◌+◌, ◌*◌, List, ◌++◌, take, drop, sym, ◌∙◌, ap, arith}
use Rattle.std.specs.Prelude.{Result, Ok, Err, OnOk}
use Rattle.std.proofs.Math.Seq.{take-add}
use Rattle.std.proofs.lemmas.List.{append_assoc, take-append-drop}

pub on_ok : {T E P Q : Type 0} (answer : Result T E) → OnOk answer P → (P → Q) → OnOk answer Q
on_ok (Ok x) p f = f p
on_ok (Err e) p f = tt

-- a piece more
pub fed_more : (rest held bytes : List ℕ) (part count at : ℕ) → held ≡ rest ++ take (7 * part) bytes → at ≡ part * 7 → count ≡ 7 → held ++ take count (drop at bytes) ≡ rest ++ take (7 * (part + 1)) bytes
fed_more rest held bytes part count at is at_is count_is =
    ap (λ xs. xs ++ take count (drop at bytes)) is
    ∙ (append_assoc rest (take (7 * part) bytes) (take count (drop at bytes))
    ∙ ap (λ xs. rest ++ xs) (ap (λ n. take (7 * part) bytes ++ take n (drop at bytes)) count_is ∙ (ap (λ n. take (7 * part) bytes ++ take 7 (drop n bytes)) (omega (arith, at_is)) ∙ (sym (take-add (7 * part) 7 bytes) ∙ ap (λ n. take n bytes) (omega arith)))))

-- and what is behind them
pub fed_all : (rest held bytes : List ℕ) (part at : ℕ) → held ≡ rest ++ take (7 * part) bytes → at ≡ part * 7 → held ++ drop at bytes ≡ rest ++ bytes
fed_all rest held bytes part at is at_is =
    ap (λ xs. xs ++ drop at bytes) is
    ∙ (append_assoc rest (take (7 * part) bytes) (drop at bytes)
    ∙ ap (λ xs. rest ++ xs) (ap (λ n. take (7 * part) bytes ++ drop n bytes) (omega (arith, at_is)) ∙ take-append-drop (7 * part) bytes))
