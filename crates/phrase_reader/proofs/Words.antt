-- Words: names are ASCII, and a decimal may be capped at each digit.
use Rattle.std.proofs.Common.{◌≡◌, ◌+◌, ◌-◌, ◌*◌, ◌<◌, ◌≤◌, ◌&&◌, ℕ, zero, suc, min, true, List, [], ◌∷◌, get_or, nat_le, sym, ap, ◌∙◌, arith, length, drop, add-one, drop-cons}
use Rattle.std.specs.List.{list_all}
use Rattle.std.specs.Str.{IsAscii, IsUtf8}
use Rattle.std.proofs.lemmas.Bool.{and_parts}
use Rattle.std.proofs.lemmas.Bool.Decides.{nat_tests}
use Rattle.std.proofs.lemmas.Str.{IsUtf8-from_ascii}
use Rattle.phrase_tree.specs.Name.{IsName, is_name_byte, is_small_letter}
use Rattle.std.specs.List.{prefix_len}
use Rattle.std.proofs.lemmas.List.Sums.{prefix_len-le-length}
use Rattle.phrase_reader.specs.Tokens.{decimal_from, is_blank}

letter_ascii : (byte : ℕ) → is_small_letter byte ≡ true → byte < 128
letter_ascii byte h = grind (arith, nat_tests, and_parts)

byte_ascii : (byte : ℕ) → is_name_byte byte ≡ true → byte < 128
byte_ascii byte h = grind (arith, nat_tests)

all_ascii : (bytes : List ℕ) → list_all is_name_byte bytes ≡ true → IsAscii bytes
all_ascii [] h i = omega arith
all_ascii (byte ∷ rest) h zero = byte_ascii byte (and_parts (is_name_byte byte) (list_all is_name_byte rest) h).0
all_ascii (byte ∷ rest) h (suc i) = all_ascii rest (and_parts (is_name_byte byte) (list_all is_name_byte rest) h).1 i

name_ascii : (text : List ℕ) → IsName text → IsAscii text
name_ascii [] h i = omega arith
name_ascii (first ∷ rest) h zero =
    letter_ascii first
    (and_parts (is_small_letter first) _ (and_parts (is_small_letter first && nat_le _ 31) (list_all is_name_byte rest) h).0).0
name_ascii (first ∷ rest) h (suc i) =
    all_ascii rest (and_parts (is_small_letter first && nat_le _ 31) (list_all is_name_byte rest) h).1 i

pub name_utf8 : (text : List ℕ) → IsName text → IsUtf8 text
name_utf8 text h = IsUtf8-from_ascii text (name_ascii text h)

-- a number may be capped before more digits follow it
capped_after : (digits : List ℕ) (m n : ℕ) → min m 4294967296 ≡ min n 4294967296 → min (decimal_from m digits) 4294967296 ≡ min (decimal_from n digits) 4294967296
capped_after [] m n h = h
capped_after (digit ∷ rest) m n h =
    capped_after rest (10 * m + (digit - 48)) (10 * n + (digit - 48)) (omega arith)

capped_step : (value digit : ℕ) (rest : List ℕ) → min (decimal_from (min (10 * value + (digit - 48)) 4294967296) rest) 4294967296 ≡ min (decimal_from value (digit ∷ rest)) 4294967296
capped_step value digit rest =
    capped_after rest (min (10 * value + (digit - 48)) 4294967296) (10 * value + (digit - 48)) (omega arith)

pub capped_more : (value i next : ℕ) (digits : List ℕ) → i < length digits → next ≡ min (10 * value + (get_or digits i 0 - 48)) 4294967296 → min (decimal_from next (drop (i + 1) digits)) 4294967296 ≡ min (decimal_from value (drop i digits)) 4294967296
capped_more value i next digits h e =
    let first : drop i digits ≡ get_or digits i 0 ∷ drop (i + 1) digits = rw add-one (drop-cons digits i 0 h) in
    ap (λ n. min (decimal_from n (drop (i + 1) digits)) 4294967296) e
    ∙ (capped_step value (get_or digits i 0) (drop (i + 1) digits)
    ∙ ap (λ ds. min (decimal_from value ds) 4294967296) (sym first))

pub few_blanks : (text : List ℕ) → prefix_len is_blank text ≤ length text
few_blanks text = prefix_len-le-length is_blank text
