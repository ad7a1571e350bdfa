-- The texts in which verdicts on a bundle are reported, and a bundle of version 2. They are this project's own:
-- each line ends with LF, numbers are decimal, bytes hexadecimal.
use Rattle.std.specs.Prelude.{ℕ, Bool, true, false, List, [], ◌∷◌, ◌++◌, codes, decimal}
use Rattle.hex.specs.Hex.{encode_lower}
use Rattle.appraiser.specs.Verdicts.{all_good}
use Rattle.appraiser.specs.declared.verdict.Verdict.{Verdict}
use Rattle.appraiser.specs.declared.verdict.VerdictOf.{VerdictOf}
use Rattle.appraiser.specs.declared.verdict.VerdictOf.TheVariants.{Nonce, Leaf, Seal, Hash}

-- what a verdict is of, and how it is
abbrev pub node_word : VerdictOf → List ℕ
node_word Nonce = codes "nonce"
node_word (Leaf event) = codes "leaf " ++ decimal event
node_word (Seal event) = codes "seal " ++ decimal event
node_word (Hash event) = codes "hash " ++ decimal event

abbrev pub good_word : Bool → List ℕ
good_word true = codes " ok\n"
good_word false = codes " bad\n"

-- a line for each verdict
abbrev pub verdict_lines : List Verdict → List ℕ
verdict_lines [] = []
verdict_lines (verdict ∷ rest) = node_word verdict.of ++ (good_word verdict.good ++ verdict_lines rest)

-- whether all are good
abbrev pub accepted_line : Bool → List ℕ
accepted_line true = codes "accepted\n"
accepted_line false = codes "rejected\n"

-- the report of verdicts on the bundle of the session of a number
abbrev pub verdicts_text : ℕ → List Verdict → List ℕ
verdicts_text number found =
    codes "appraise session " ++ (decimal number ++ (10 ∷ (verdict_lines found ++ accepted_line (all_good found))))

-- the report of a bundle of version 2 of the session of a number
abbrev pub upgrade_text : ℕ → List ℕ → List ℕ
upgrade_text number bytes =
    codes "upgrade session " ++ (decimal number ++ (codes "\nbundle " ++ (encode_lower bytes ++ 10 ∷ [])))
