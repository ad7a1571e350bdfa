-- Names and decimals are the tokens that they are printed for.
use Rattle.std.proofs.Common.{◌≡◌, ◌+◌, ◌-◌, ◌*◌, ◌/◌, ◌%◌, ◌<◌, ◌≤◌, ◌^◌, ◌++◌, ◌==◌, ◌&&◌, ℕ, Bool, true, false, List, [], ◌∷◌, Result, Ok, Err, length, nat_le, refl, ap, ◌∙◌, sym, arith, decimal, codes, if◌then◌else◌}
use Rattle.std.specs.List.{list_all}
use Rattle.std.specs.Str.{bytes_eq}
use Rattle.std.proofs.lemmas.Bool.{cond-true, cond-false, ne_eqb, eqb-true, and_from, and_parts, or_left, le-leb}
use Rattle.std.proofs.lemmas.Bool.Decides.{nat_tests}
use Rattle.std.proofs.lemmas.Fmt.{decimal_by_steps}
use Rattle.std.proofs.lemmas.List.Folds.{list_all-append}
use Rattle.phrase_tree.specs.declared.measurement.Arg.TheVariants.{Word, Number}
use Rattle.phrase_tree.specs.Name.{IsName, is_name, is_name_byte, is_small_letter}
use Rattle.phrase_reader.specs.declared.refusal.Kind.{Kind}
use Rattle.phrase_reader.specs.declared.refusal.Kind.TheVariants as kinds
use Rattle.phrase_reader.specs.declared.token.Token.{Token}
use Rattle.phrase_reader.specs.declared.token.Token.TheVariants as tokens
use Rattle.phrase_reader.specs.Tokens.{is_digit, begins_word, continues_word, is_decimal, decimal_from, decimal_token, word_token}

-- a word whose first byte is another than the keyword's
other_word : (first byte : ℕ) (rest more : List ℕ) → (first ≡ byte → ⊥) → bytes_eq (first ∷ rest) (byte ∷ more) ≡ false
other_word first byte rest more h = ap (λ b. b && bytes_eq rest more) (ne_eqb first byte h)

-- a word that begins with no capital is no keyword
abbrev no_keyword : List ℕ → Result Token Kind
no_keyword word =
    if is_name word then Ok (tokens.Value (Word word))
    else (if is_decimal word then decimal_token word
    else Err kinds.Word)

record IsNoCapital (byte : ℕ) : Type 0 where
  apart : (capital : ℕ) → 65 ≤ capital → capital ≤ 90 → byte ≡ capital → ⊥

no_keyword_is : (first : ℕ) (rest : List ℕ) → IsNoCapital first → word_token (first ∷ rest) ≡ no_keyword (first ∷ rest)
no_keyword_is first rest n =
    cond-false (bytes_eq (first ∷ rest) (codes "CPY")) _ _ (other_word first 67 rest (codes "PY") (n.apart 67 (omega arith) (omega arith)))
    ∙ (cond-false (bytes_eq (first ∷ rest) (codes "SIG")) _ _ (other_word first 83 rest (codes "IG") (n.apart 83 (omega arith) (omega arith)))
    ∙ (cond-false (bytes_eq (first ∷ rest) (codes "HSH")) _ _ (other_word first 72 rest (codes "SH") (n.apart 72 (omega arith) (omega arith)))
    ∙ (cond-false (bytes_eq (first ∷ rest) (codes "NUL")) _ _ (other_word first 78 rest (codes "UL") (n.apart 78 (omega arith) (omega arith)))
    ∙ (cond-false (bytes_eq (first ∷ rest) (codes "USM")) _ _ (other_word first 85 rest (codes "SM") (n.apart 85 (omega arith) (omega arith)))
    ∙ cond-false (bytes_eq (first ∷ rest) (codes "KIM")) _ _ (other_word first 75 rest (codes "IM") (n.apart 75 (omega arith) (omega arith)))))))

-- a word of letters, digits and underscores that begins with a letter or a digit
pub record IsWord (word : List ℕ) : Type 0 where
  pub first : ℕ
  pub rest : List ℕ
  pub whole : word ≡ first ∷ rest
  pub begins : begins_word first ≡ true
  pub continues : list_all continues_word (first ∷ rest) ≡ true

name_byte_continues : (byte : ℕ) → is_name_byte byte ≡ true → continues_word byte ≡ true
name_byte_continues byte h = grind (arith, nat_tests)

name_continues : (rest : List ℕ) → list_all is_name_byte rest ≡ true → list_all continues_word rest ≡ true
name_continues [] h = refl
name_continues (byte ∷ rest) h =
    let p = and_parts (is_name_byte byte) (list_all is_name_byte rest) h in
    and_from (continues_word byte) (list_all continues_word rest) (name_byte_continues byte p.0) (name_continues rest p.1)

letter_begins : (byte : ℕ) → is_small_letter byte ≡ true → begins_word byte ≡ true
letter_begins byte h = grind (arith, nat_tests)

letter_no_capital : (byte : ℕ) → is_small_letter byte ≡ true → IsNoCapital byte
letter_no_capital byte h = record { apart = λ capital low high e. grind (arith, nat_tests) }

name_first : (first : ℕ) (rest : List ℕ) → is_name (first ∷ rest) ≡ true → is_small_letter first ≡ true
name_first first rest h =
    (and_parts (is_small_letter first) (nat_le (length rest) 31) (and_parts (is_small_letter first && nat_le (length rest) 31) (list_all is_name_byte rest) h).0).0

name_rest : (first : ℕ) (rest : List ℕ) → is_name (first ∷ rest) ≡ true → list_all is_name_byte rest ≡ true
name_rest first rest h = (and_parts (is_small_letter first && nat_le (length rest) 31) (list_all is_name_byte rest) h).1

pub name_word : (name : List ℕ) → IsName name → IsWord name
name_word [] h = cc
name_word (first ∷ rest) h = record {
  first = first;
  rest = rest;
  whole = refl;
  begins = letter_begins first (name_first first rest h);
  continues = and_from (continues_word first) (list_all continues_word rest)
      (or_left (begins_word first) (first == 95) (letter_begins first (name_first first rest h)))
      (name_continues rest (name_rest first rest h));
}

pub name_is_token : (name : List ℕ) → IsName name → word_token name ≡ Ok (tokens.Value (Word name))
name_is_token [] h = cc
name_is_token (first ∷ rest) h =
    no_keyword_is first rest (letter_no_capital first (name_first first rest h))
    ∙ cond-true (is_name (first ∷ rest)) _ _ h

-- the digits of a number
record AreDigits (number : ℕ) (digits : List ℕ) : Type 0 where
  first : ℕ
  rest : List ℕ
  whole : digits ≡ first ∷ rest
  ascii : list_all is_digit (first ∷ rest) ≡ true
  plain : is_decimal (first ∷ rest) ≡ true
  value : decimal_from 0 (first ∷ rest) ≡ number

digit_byte : (n : ℕ) → n < 10 → is_digit (48 + n) ≡ true
digit_byte n h = grind (arith, nat_tests)

pub digit_begins : (byte : ℕ) → is_digit byte ≡ true → begins_word byte ≡ true
digit_begins byte h = grind (arith, nat_tests)

digit_continues : (byte : ℕ) → is_digit byte ≡ true → continues_word byte ≡ true
digit_continues byte h = or_left (begins_word byte) (byte == 95) (digit_begins byte h)

digit_no_capital : (byte : ℕ) → is_digit byte ≡ true → IsNoCapital byte
digit_no_capital byte h = record { apart = λ capital low high e. grind (arith, nat_tests) }

digit_no_letter : (byte : ℕ) → is_digit byte ≡ true → is_small_letter byte ≡ false
digit_no_letter byte h = grind (arith, nat_tests)

pub digits_continue : (digits : List ℕ) → list_all is_digit digits ≡ true → list_all continues_word digits ≡ true
digits_continue [] h = refl
digits_continue (byte ∷ rest) h =
    let p = and_parts (is_digit byte) (list_all is_digit rest) h in
    and_from (continues_word byte) (list_all continues_word rest) (digit_continues byte p.0) (digits_continue rest p.1)

from_joined : (value digit : ℕ) (digits : List ℕ) → decimal_from value (digits ++ digit ∷ []) ≡ 10 * decimal_from value digits + (digit - 48)
from_joined value digit [] = refl
from_joined value digit (first ∷ rest) = from_joined (10 * value + (first - 48)) digit rest

one_digit : (n : ℕ) → n < 10 → AreDigits n ((48 + n) ∷ [])
one_digit n h = record {
  first = 48 + n;
  rest = [];
  whole = refl;
  ascii = and_from (is_digit (48 + n)) true (digit_byte n h) refl;
  plain = by ((48 + n) == 48);
  value = omega arith;
}
  where
    by : (b : Bool) → (if b then true else (is_digit (48 + n) && true)) ≡ true
    by true = refl
    by false = and_from (is_digit (48 + n)) true (digit_byte n h) refl

-- digits with a number above 0 begin with no zero
no_zero : (first : ℕ) (rest : List ℕ) (number : ℕ) → is_decimal (first ∷ rest) ≡ true → decimal_from 0 (first ∷ rest) ≡ number → 0 < number → (first == 48) ≡ false
no_zero first rest number d v some = ne_eqb first 48 (λ e. alone rest v e (sym (cond-true (first == 48) (length rest == 0) (list_all is_digit (first ∷ rest)) (eq_eqb e)) ∙ d))
  where
    eq_eqb : first ≡ 48 → (first == 48) ≡ true
    eq_eqb e = grind (arith, nat_tests)

    alone : (more : List ℕ) → decimal_from 0 (first ∷ more) ≡ number → first ≡ 48 → (length more == 0) ≡ true → ⊥
    alone [] w e h = omega (arith, w, e)
    alone (second ∷ more) w e h = omega (arith, eqb-true (length (second ∷ more)) 0 h)

more_digits : (n : ℕ) (digits : List ℕ) → 10 ≤ n → AreDigits (n / 10) digits → AreDigits n (digits ++ (48 + n % 10) ∷ [])
more_digits n digits h d =
    let last = 48 + n % 10 in
    let ascii : list_all is_digit ((d.first ∷ d.rest) ++ last ∷ []) ≡ true =
    list_all-append is_digit (d.first ∷ d.rest) (last ∷ []) ∙ and_from (list_all is_digit (d.first ∷ d.rest)) (is_digit last && true) d.ascii (and_from (is_digit last) true (digit_byte (n % 10) (omega arith)) refl) in
    record {
      first = d.first;
      rest = d.rest ++ last ∷ [];
      whole = ap (λ l. l ++ last ∷ []) d.whole;
      ascii = ascii;
      plain = cond-false (d.first == 48) (length (d.rest ++ last ∷ []) == 0) (list_all is_digit ((d.first ∷ d.rest) ++ last ∷ [])) (no_zero d.first d.rest (n / 10) d.plain d.value (omega arith)) ∙ ascii;
      value = from_joined 0 last (d.first ∷ d.rest) ∙ omega (arith, d.value);
    }

decimal_digits : (number : ℕ) → number < 2 ^ 64 → AreDigits number (decimal number)
decimal_digits = decimal_by_steps AreDigits one_digit more_digits

decimal_token_is : (word : List ℕ) (number : ℕ) → decimal_from 0 word ≡ number → number < 2 ^ 32 → decimal_token word ≡ Ok (tokens.Value (Number number))
unfolding decimal_token
decimal_token_is word number v h =
    cond-true (nat_le (decimal_from 0 word) 4294967295) _ _ (le-leb (decimal_from 0 word) 4294967295 (omega (arith, v)))
    ∙ ap (λ n. Ok (tokens.Value (Number n))) v

pub digits_are_token : (first : ℕ) (rest : List ℕ) (number : ℕ) → number < 2 ^ 32 → list_all is_digit (first ∷ rest) ≡ true → is_decimal (first ∷ rest) ≡ true → decimal_from 0 (first ∷ rest) ≡ number → word_token (first ∷ rest) ≡ Ok (tokens.Value (Number number))
digits_are_token first rest number h ascii plain value =
    let digit = (and_parts (is_digit first) (list_all is_digit rest) ascii).0 in
    no_keyword_is first rest (digit_no_capital first digit)
    ∙ (cond-false (is_name (first ∷ rest)) _ _ (ap (λ b. (b && nat_le (length rest) 31) && list_all is_name_byte rest) (digit_no_letter first digit))
    ∙ (cond-true (is_decimal (first ∷ rest)) _ _ plain
    ∙ decimal_token_is (first ∷ rest) number value h))

pub decimal_word : (number : ℕ) → number < 2 ^ 32 → IsWord (decimal number)
decimal_word number h =
    let d = decimal_digits number (omega arith) in
    record {
      first = d.first;
      rest = d.rest;
      whole = d.whole;
      begins = digit_begins d.first (and_parts (is_digit d.first) (list_all is_digit d.rest) d.ascii).0;
      continues = digits_continue (d.first ∷ d.rest) d.ascii;
    }

pub decimal_is_token : (number : ℕ) → number < 2 ^ 32 → word_token (decimal number) ≡ Ok (tokens.Value (Number number))
decimal_is_token number h =
    let d = decimal_digits number (omega arith) in
    ap word_token d.whole ∙ digits_are_token d.first d.rest number h d.ascii d.plain d.value
