use Rattle.std.proofs.Common.{List, subst}
use Rattle.phrase_reader.specs.declared.token.Token.{Token}
use Rattle.phrase_reader.specs.Spelling.{Makes}
use Rattle.phrase_reader.proofs.Spellings.{tokens_make, made_tokens, read_spelled}
use Rattle.phrase_reader.proofs.laws.spelling_law.Goals as goal

pub returns : goal.returns
returns c = record {
  tokens = λ spelled text. (made_tokens spelled text, λ h. subst (λ (ts : List Token). Makes ts text) h.1 (tokens_make text h.0));
  read = read_spelled;
}
