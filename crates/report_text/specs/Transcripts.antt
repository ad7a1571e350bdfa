-- The text in which the transcripts of sessions are reported. It is this project's own: each line ends with LF, numbers
-- are decimal, bytes hexadecimal.
use Rattle.std.specs.Prelude.{ℕ, List, [], ◌∷◌, ◌++◌, codes}
use Rattle.hex.specs.Hex.{encode_lower}
use Rattle.transcript.specs.declared.recording.RecordedSession.{RecordedSession}
use Rattle.report_text.specs.Sessions.{numbered, session_head}

-- the transcript of a session
abbrev pub transcript_in : RecordedSession → List ℕ
transcript_in one = one.bytes

-- its line
abbrev pub transcript_line : ℕ → List ℕ → List ℕ
transcript_line number bytes = session_head number ++ (codes " transcript " ++ (encode_lower bytes ++ 10 ∷ []))

-- the report of transcripts, one of each session in their order from session 0 on
abbrev pub transcripts_text : List (List ℕ) → List ℕ
transcripts_text transcripts = numbered transcript_line 0 transcripts
