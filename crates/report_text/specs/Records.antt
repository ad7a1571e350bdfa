-- The texts in which records are reported. They are this project's own: each line ends with LF, numbers
-- are decimal, bytes hexadecimal.
use Rattle.std.specs.Prelude.{ℕ, List, [], ◌∷◌, ◌++◌, codes, decimal}
use Rattle.hex.specs.Hex.{encode_lower}
use Rattle.bench_trait.specs.declared.bench.BenchFault.{BenchFault}
use Rattle.bench_trait.specs.declared.bench.BenchFault.TheVariants.{NoArtefact, Broken}
use Rattle.session_model.specs.Record.{Record, done, failed}
use Rattle.report_text.specs.Sessions.{numbered, session_head}

-- numbers in decimal, each behind a space
abbrev pub spaced : List ℕ → List ℕ
spaced [] = []
spaced (number ∷ rest) = 32 ∷ (decimal number ++ spaced rest)

-- the line of a trace
abbrev pub trace_line : List ℕ → List ℕ
trace_line trace = codes "trace" ++ (spaced trace ++ 10 ∷ [])

-- the bytes of an answer; a dash where there are none
abbrev pub answer_text : List ℕ → List ℕ
answer_text [] = 45 ∷ []
answer_text (byte ∷ rest) = encode_lower (byte ∷ rest)

-- a line for each answer, with its event
abbrev pub answer_lines : List (ℕ × List ℕ) → List ℕ
answer_lines [] = []
answer_lines (pair ∷ rest) =
    codes "answer " ++ (decimal pair.0 ++ (32 ∷ (answer_text pair.1 ++ (10 ∷ answer_lines rest))))

-- a fault by its name
abbrev pub fault_text : BenchFault → List ℕ
fault_text NoArtefact = codes "no-artefact"
fault_text (Broken code) = codes "broken " ++ decimal code

-- the line of a session that failed
abbrev pub failed_line : ℕ → ℕ → BenchFault → List ℕ
failed_line number event fault =
    session_head number ++ (codes " failed " ++ (decimal event ++ (32 ∷ (fault_text fault ++ 10 ∷ []))))

-- the lines of the answers, and that of the bundle
abbrev pub evidence_lines : List (ℕ × List ℕ) → List ℕ → List ℕ
evidence_lines answers bundle = answer_lines answers ++ (codes "bundle " ++ (encode_lower bundle ++ 10 ∷ []))

-- the lines of a session's record
abbrev pub record_text : ℕ → Record → List ℕ
record_text number (done trace answers bundle) =
    session_head number ++ (codes " done\n" ++ (trace_line trace ++ evidence_lines answers bundle))
record_text number (failed event fault trace) = failed_line number event fault ++ trace_line trace

-- the same without its trace
abbrev pub value_text : ℕ → Record → List ℕ
value_text number (done trace answers bundle) =
    session_head number ++ (codes " done\n" ++ evidence_lines answers bundle)
value_text number (failed event fault trace) = failed_line number event fault

-- the report of records, one of each session in their order from session 0 on
abbrev pub records_text : List Record → List ℕ
records_text records = numbered record_text 0 records

-- the same without their traces
abbrev pub values_text : List Record → List ℕ
values_text records = numbered value_text 0 records
