-- A name is in ASCII, so that its bytes are a text.
use Rattle.std.proofs.Common.{◌≡◌, ◌<◌, ◌&&◌, ℕ, zero, suc, true, List, [], ◌∷◌, nat_le, arith}
use Rattle.std.specs.List.{list_all}
use Rattle.std.specs.Str.{IsAscii, IsUtf8}
use Rattle.std.proofs.lemmas.Bool.{and_parts}
use Rattle.std.proofs.lemmas.Bool.Decides.{nat_tests}
use Rattle.std.proofs.lemmas.Str.{IsUtf8-from_ascii}
use Rattle.phrase_tree.specs.Name.{IsName, is_name_byte, is_small_letter}

letter_ascii : (byte : ℕ) → is_small_letter byte ≡ true → byte < 128
letter_ascii byte h = grind (arith, nat_tests, and_parts)

byte_ascii : (byte : ℕ) → is_name_byte byte ≡ true → byte < 128
byte_ascii byte h = grind (arith, nat_tests)

all_ascii : (bytes : List ℕ) → list_all is_name_byte bytes ≡ true → IsAscii bytes
all_ascii [] h i = omega arith
all_ascii (byte ∷ rest) h zero = byte_ascii byte (and_parts (is_name_byte byte) (list_all is_name_byte rest) h).0
all_ascii (byte ∷ rest) h (suc i) = all_ascii rest (and_parts (is_name_byte byte) (list_all is_name_byte rest) h).1 i

name_ascii : (text : List ℕ) → IsName text → IsAscii text
name_ascii [] h i = omega arith
name_ascii (first ∷ rest) h zero =
    letter_ascii first
    (and_parts (is_small_letter first) _ (and_parts (is_small_letter first && nat_le _ 31) (list_all is_name_byte rest) h).0).0
name_ascii (first ∷ rest) h (suc i) =
    all_ascii rest (and_parts (is_small_letter first && nat_le _ 31) (list_all is_name_byte rest) h).1 i

pub name_utf8 : (text : List ℕ) → IsName text → IsUtf8 text
name_utf8 text h = IsUtf8-from_ascii text (name_ascii text h)
