-- The answer to a text of few bytes is the answer to its tokens; a longer one is too long.
use Rattle.std.proofs.Common.{subst, arith}
use Rattle.phrase_reader.specs.Tokens.{found}
use Rattle.phrase_reader.specs.Reading.{Reads}
use Rattle.phrase_reader.proofs.Progress.{too_long_found, read_found, read_refused}
use Rattle.phrase_reader.proofs.reader.read.Goals as goal

pub returns-then-bytes-gt-TEXT_BYTES-clause-found : goal.returns-then-bytes-gt-TEXT_BYTES-clause-found
returns-then-bytes-gt-TEXT_BYTES-clause-found c = too_long_found c.args.text.now (omega arith)

pub returns-clause-found : goal.returns-clause-found
returns-clause-found c =
    read_found c.args.text.now c.read_bytes.result (omega arith)
    (subst (λ t. Reads c.read_bytes.result (found 0 0 t)) c.as_bytes-bytes.ensures.value c.read_bytes.ensures)

pub returns-clause-refused : goal.returns-clause-refused
returns-clause-refused c =
    read_refused c.args.text.now c.read_bytes.result (omega arith)
    (subst (λ t. Reads c.read_bytes.result (found 0 0 t)) c.as_bytes-bytes.ensures.value c.read_bytes.ensures)
