-- Which answers of a phrase are short.
use Rattle.std.specs.Prelude.{◌+◌, ℕ, List}
use Rattle.phrase_tree.specs.Term.{Term, Leaf, usm, kim, leaf, at, chain, seq, par}
use Rattle.phrase_tree.specs.Numbering.{event_count}
use Rattle.evidence_types.specs.Answer.{FitsAnswer}
use Rattle.evidence_types.specs.Answers.{answer_at}

-- a leaf that is a measurement has an answer of at most 1,024 bytes
abbrev pub HasShortAnswer : Leaf → ℕ → List (ℕ × List ℕ) → Type 0
HasShortAnswer (usm asp) i answers = FitsAnswer (answer_at answers i)
HasShortAnswer (kim target asp) i answers = FitsAnswer (answer_at answers i)
HasShortAnswer _ i answers = Unit {0}

-- each measurement of a phrase, numbered from a number on, has an answer of at most 1,024 bytes; an
-- answer that isn't there has none
abbrev pub HasShortAnswers : Term → ℕ → List (ℕ × List ℕ) → Type 0
HasShortAnswers (leaf form) i answers = HasShortAnswer form i answers
HasShortAnswers (at asked body) i answers = HasShortAnswers body (i + 1) answers
HasShortAnswers (chain left right) i answers =
    HasShortAnswers left i answers × HasShortAnswers right (i + event_count left) answers
HasShortAnswers (seq split left right) i answers =
    HasShortAnswers left (i + 1) answers × HasShortAnswers right (i + 1 + event_count left) answers
HasShortAnswers (par split left right) i answers =
    HasShortAnswers left (i + 1) answers × HasShortAnswers right (i + 1 + event_count left) answers
