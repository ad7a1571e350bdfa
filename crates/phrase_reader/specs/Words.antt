-- The words for why a text is refused. They are this project's own.
use Rattle.std.specs.Prelude.{ℕ, List, codes}
use Rattle.phrase_reader.specs.declared.refusal.Kind.{Kind}
use Rattle.phrase_reader.specs.declared.refusal.Kind.TheVariants as kinds

-- the word for why a phrase's text is refused
abbrev pub refusal_word : Kind → List ℕ
refusal_word kinds.Char = codes "char"
refusal_word kinds.Word = codes "word"
refusal_word kinds.Expected = codes "expected"
refusal_word kinds.Trailing = codes "trailing"
refusal_word kinds.TooManyArgs = codes "too-many-args"
refusal_word kinds.NumberTooLarge = codes "number-too-large"
refusal_word kinds.TooDeep = codes "too-deep"
refusal_word kinds.TooLong = codes "too-long"
refusal_word kinds.TooManyEvents = codes "too-many-events"
