-- What reading a text answers.
use Rattle.std.specs.Prelude.{◌≡◌, Result, Ok, Err}
use Rattle.phrase_tree.specs.declared.phrase.Phrase.{Phrase}
use Rattle.phrase_tree.specs.Term.{Term, term}
use Rattle.phrase_reader.specs.declared.refusal.ReadError.{ReadError}
use Rattle.phrase_reader.specs.declared.refusal.ReadError.TheVariants.{Refused, NoMemory}

-- the reader answered with this phrase
abbrev pub AnswersWith : Result Phrase ReadError → Term → Type 0
AnswersWith (Ok phrase) spelled = term phrase ≡ spelled
AnswersWith (Err error) spelled = ⊥

-- the fact, unless there was no memory
abbrev pub UnlessNoMemory : Result Phrase ReadError → Type 0 → Type 0
UnlessNoMemory (Ok phrase) fact = fact
UnlessNoMemory (Err (Refused place kind)) fact = fact
UnlessNoMemory (Err NoMemory) fact = Unit {0}
