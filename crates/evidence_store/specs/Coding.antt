-- A code of evidence, by which proofs tell such values apart: a list of tokens, a value's after those of its parts.
use Rattle.std.specs.Prelude.{◌≡◌, ℕ, List, [], ◌∷◌, ◌++◌, nat_eq, if◌then◌else◌, refl}
use Rattle.std.specs.Coded.{Coded, code_by, coded×, coded_list, coded_ℕ}
use Rattle.std.proofs.Common.{sym, ap, ◌∙◌, append_assoc, append-nil}
use Rattle.evidence_types.specs.Evidence.{Evidence, empty, nonce, usm, kim, seal, hash, seq_pair, par_pair}

-- a tag, the number of an event, and bytes
abbrev Token : Type 0
Token = ℕ × (ℕ × List ℕ)

abbrev tokens : Evidence → List Token
tokens empty = (0, (0, [])) ∷ []
tokens (nonce bytes) = (1, (0, bytes)) ∷ []
tokens (usm event answer under) = tokens under ++ (2, (event, answer)) ∷ []
tokens (kim event answer under) = tokens under ++ (3, (event, answer)) ∷ []
tokens (seal event bytes under) = tokens under ++ (4, (event, bytes)) ∷ []
tokens (hash event bytes) = (5, (event, bytes)) ∷ []
tokens (seq_pair left right) = tokens left ++ (tokens right ++ (6, (0, [])) ∷ [])
tokens (par_pair left right) = tokens left ++ (tokens right ++ (7, (0, [])) ∷ [])

-- the value on top, made into another
abbrev over : (Evidence → Evidence) → List Evidence → List Evidence
over make [] = []
over make (under ∷ below) = make under ∷ below

-- the two values on top, made into one
abbrev joined : (Evidence → Evidence → Evidence) → List Evidence → List Evidence
joined make [] = []
joined make (right ∷ []) = []
joined make (right ∷ left ∷ below) = make left right ∷ below

abbrev built : ℕ → ℕ → List ℕ → List Evidence → List Evidence
built tag event bytes stack =
    if nat_eq tag 0 then empty ∷ stack else
    (if nat_eq tag 1 then nonce bytes ∷ stack else
    (if nat_eq tag 2 then over (usm event bytes) stack else
    (if nat_eq tag 3 then over (kim event bytes) stack else
    (if nat_eq tag 4 then over (seal event bytes) stack else
    (if nat_eq tag 5 then hash event bytes ∷ stack else
    (if nat_eq tag 6 then joined seq_pair stack else joined par_pair stack))))))

abbrev run : List Token → List Evidence → List Evidence
run [] stack = stack
run (token ∷ rest) stack = run rest (built token.0 token.1.0 token.1.1 stack)

abbrev top : List Evidence → Evidence
top [] = empty
top (value ∷ below) = value

run-tokens : (value : Evidence) (rest : List Token) (stack : List Evidence) → run (tokens value ++ rest) stack ≡ run rest (value ∷ stack)
run-tokens empty rest stack = refl
run-tokens (nonce bytes) rest stack = refl
run-tokens (usm event answer under) rest stack =
    ap (λ (t : List Token). run t stack) (append_assoc (tokens under) ((2, (event, answer)) ∷ []) rest) ∙ run-tokens under ((2, (event, answer)) ∷ rest) stack
run-tokens (kim event answer under) rest stack =
    ap (λ (t : List Token). run t stack) (append_assoc (tokens under) ((3, (event, answer)) ∷ []) rest) ∙ run-tokens under ((3, (event, answer)) ∷ rest) stack
run-tokens (seal event bytes under) rest stack =
    ap (λ (t : List Token). run t stack) (append_assoc (tokens under) ((4, (event, bytes)) ∷ []) rest) ∙ run-tokens under ((4, (event, bytes)) ∷ rest) stack
run-tokens (hash event bytes) rest stack = refl
run-tokens (seq_pair left right) rest stack =
    ap (λ (t : List Token). run t stack) (append_assoc (tokens left) (tokens right ++ (6, (0, [])) ∷ []) rest ∙ ap (λ (t : List Token). tokens left ++ t) (append_assoc (tokens right) ((6, (0, [])) ∷ []) rest))
    ∙ run-tokens left (tokens right ++ (6, (0, [])) ∷ rest) stack ∙ run-tokens right ((6, (0, [])) ∷ rest) (left ∷ stack)
run-tokens (par_pair left right) rest stack =
    ap (λ (t : List Token). run t stack) (append_assoc (tokens left) (tokens right ++ (7, (0, [])) ∷ []) rest ∙ ap (λ (t : List Token). tokens left ++ t) (append_assoc (tokens right) ((7, (0, [])) ∷ []) rest))
    ∙ run-tokens left (tokens right ++ (7, (0, [])) ∷ rest) stack ∙ run-tokens right ((7, (0, [])) ∷ rest) (left ∷ stack)

pub top-run : (value : Evidence) → top (run (tokens value) []) ≡ value
top-run value =
    ap (λ (t : List Token). top (run t [])) (sym (append-nil (tokens value))) ∙ ap top (run-tokens value [] [])

abbrev pub evidence_code : Coded Evidence
evidence_code =
    code_by (List Token) (coded_list (coded× coded_ℕ (coded× coded_ℕ (coded_list coded_ℕ)))) tokens (λ t. top (run t [])) top-run
