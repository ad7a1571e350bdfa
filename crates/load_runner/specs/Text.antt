-- The report of the run of a made job. It is this project's own: each line ends with LF, numbers are decimal, bytes
-- hexadecimal.
use Rattle.std.specs.Prelude.{ℕ, List, [], ◌∷◌, ◌++◌, codes, decimal}
use Rattle.hex.specs.Hex.{encode_lower}
use Rattle.load_runner.specs.declared.figures.Figures.{Figures}

abbrev pub number_line : List ℕ → ℕ → List ℕ
number_line word number = word ++ (decimal number ++ 10 ∷ [])

abbrev pub digest_line : List ℕ → List ℕ
digest_line digest = codes "digest " ++ (encode_lower digest ++ 10 ∷ [])

-- six lines
abbrev pub load_text : ℕ → Figures → List ℕ
load_text number figures =
    number_line (codes "load ") number
    ++ (number_line (codes "sessions ") figures.sessions
    ++ (number_line (codes "events ") figures.events
    ++ (number_line (codes "done ") figures.done
    ++ (number_line (codes "accepted ") figures.accepted
    ++ digest_line figures.digest))))
