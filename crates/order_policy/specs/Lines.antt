-- The lines in which judgements are reported. They are this project's own: each ends with LF, and
-- numbers are decimal.
use Rattle.std.specs.Prelude.{◌+◌, ℕ, List, [], ◌∷◌, ◌++◌, codes, decimal}
use Rattle.order_policy.specs.declared.judgement.Judgement.{Judgement}
use Rattle.order_policy.specs.declared.judgement.Judgement.TheVariants.{Holds, Broken}

-- numbers in decimal, each behind a space
abbrev pub spaced : List ℕ → List ℕ
spaced [] = []
spaced (number ∷ rest) = 32 ∷ (decimal number ++ spaced rest)

-- a line with these words and a number
abbrev pub claim_line : ℕ → ℕ → List ℕ → ℕ → List ℕ
claim_line session claim words number =
    codes "session " ++ (decimal session ++ (codes " claim " ++ (decimal claim ++ (words ++ (decimal number ++ 10 ∷ [])))))

-- what is found of a claim, in a line, or in two where there is a trace
abbrev pub judgement_text : ℕ → ℕ → Judgement → List ℕ
judgement_text session claim (Holds count) = claim_line session claim (codes " holds ") count
judgement_text session claim (Broken event trace) =
    claim_line session claim (codes " broken ") event ++ (codes "trace" ++ (spaced trace ++ 10 ∷ []))

-- what is found of each claim of a session, the first of which has this number
abbrev pub judgements_text : ℕ → ℕ → List Judgement → List ℕ
judgements_text session claim [] = []
judgements_text session claim (judgement ∷ rest) =
    judgement_text session claim judgement ++ judgements_text session (claim + 1) rest
