-- What a port gave or took piece after piece is the pieces joined.
use Rattle.std.proofs.Common.{◌≡◌, ◌+◌, ◌-◌, ◌<◌, ℕ, zero, suc, List, [], ◌++◌, length, take, drop, refl, sym, ap, ◌∙◌, subst, append_assoc, length-drop, arith}
use Rattle.std.proofs.lemmas.List.{append-nil, take-append-drop, drop-drop}
use Rattle.std.proofs.Math.Seq.{take-add, take-length}
use Rattle.std.specs.Prelude.{Option, None, Some}
use Rattle.byte_ports.specs.Port.{Gave, Took}

pub Took-append : (before middle after : Option (List ℕ)) (first second : List ℕ) → Took before middle first → Took middle after second → Took before after (first ++ second)
Took-append None None None first second t u = tt
Took-append None None (Some after) first second t u = u
Took-append None (Some middle) after first second t u = absurd t
Took-append (Some before) None after first second t u = absurd t
Took-append (Some before) (Some middle) None first second t u = u
Took-append (Some before) (Some middle) (Some after) first second t u =
    u ∙ ap (λ bytes. bytes ++ second) t ∙ append_assoc before first second

pub Gave-append : (before middle after : Option (List ℕ)) (first second : List ℕ) → Gave before middle first → Gave middle after second → Gave before after (first ++ second)
Gave-append None None None first second t u = tt
Gave-append None None (Some after) first second t u = u
Gave-append None (Some middle) after first second t u = absurd t
Gave-append (Some before) None after first second t u = absurd t
Gave-append (Some before) (Some middle) None first second t u = u
Gave-append (Some before) (Some middle) (Some after) first second t u =
    t ∙ ap (λ bytes. first ++ bytes) u ∙ sym (append_assoc first second after)

-- at a fault, what was taken so far is the front of all the bytes
pub Took-front : (before middle after : Option (List ℕ)) (bytes : List ℕ) (written : ℕ) → Took before middle (take written bytes) → Took middle after [] → (front : List ℕ) × (rest : List ℕ) × (bytes ≡ front ++ rest) × Took before after front
Took-front before middle after bytes written t u =
    (take written bytes, drop written bytes, sym (take-append-drop written bytes), (let whole = Took-append before middle after (take written bytes) [] t u in subst (λ (piece : List ℕ). Took before after piece) (append-nil (take written bytes)) whole))

-- one more write: the first bytes of what is left
pub Took-more : (before middle after : Option (List ℕ)) (bytes : List ℕ) (written count : ℕ) → Took before middle (take written bytes) → Took middle after (take count (drop written bytes)) → Took before after (take (written + count) bytes)
Took-more before middle after bytes written count t u =
    subst (λ (piece : List ℕ). Took before after piece) (sym (take-add written count bytes)) (Took-append before middle after (take written bytes) (take count (drop written bytes)) t u)

-- one more read behind what is filled
pub Gave-more : (before middle after : Option (List ℕ)) (old new : List ℕ) (filled count : ℕ) → Gave before middle (take filled old) → take filled new ≡ take filled old → Gave middle after (take count (drop filled new)) → Gave before after (take (filled + count) new)
Gave-more before middle after old new filled count t kept u =
    subst (λ (bytes : List ℕ). Gave before after bytes) (ap (λ bytes. bytes ++ take count (drop filled new)) (sym kept) ∙ sym (take-add filled count new)) (Gave-append before middle after (take filled old) (take count (drop filled new)) t u)

-- the slice of all that is behind a place
pub take-drop-rest : (n : ℕ) (bytes : List ℕ) → take (length bytes - n) (drop n bytes) ≡ drop n bytes
take-drop-rest n bytes =
    subst (λ (k : ℕ). take k (drop n bytes) ≡ drop n bytes) (length-drop n bytes) (take-length (drop n bytes))

-- what a slice from a place on gives at its front, and what stands behind it
pub given-front : (at count : ℕ) (bytes left front : List ℕ) → left ≡ bytes → front ≡ take count (take (length left - at) (drop at left)) → drop at bytes ≡ front ++ drop (at + count) bytes
given-front at count bytes left front same is =
    sym
    (ap (λ piece. piece ++ drop (at + count) bytes) (is ∙ ap (λ piece. take count piece) (take-drop-rest at left) ∙ ap (λ piece. take count (drop at piece)) same)
    ∙ ap (λ rest. take count (drop at bytes) ++ rest) (sym (drop-drop count at bytes))
    ∙ take-append-drop count (drop at bytes))

-- a call that may have some bytes and has none may have had none
pub none-of : (len count : ℕ) → (0 < len → 0 < count) → count ≡ 0 → len ≡ 0
none-of zero count some none = refl
none-of (suc len) count some none = absurd (omega (arith, some (omega arith), none))
