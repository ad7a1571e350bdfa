-- The tokens of a text, from its bytes.
use Rattle.std.specs.Prelude.{zero, suc, ◌+◌, ◌-◌, ◌*◌, ◌==◌, ◌&&◌, ◌||◌, ℕ, Bool, true, false, not, List, [], ◌∷◌, Option, Some, None, Result, Ok, Err, length, nat_le, if◌then◌else◌, codes}
use Rattle.std.specs.List.{list_all, take_while}
use Rattle.std.specs.Str.{bytes_eq}
use Rattle.phrase_tree.specs.Name.{is_small_letter, is_name}
use Rattle.phrase_tree.specs.declared.measurement.Arg.TheVariants.{Word, Number}
use Rattle.phrase_reader.specs.declared.refusal.Kind.{Kind}
use Rattle.phrase_reader.specs.declared.refusal.Kind.TheVariants as kinds
use Rattle.phrase_reader.specs.declared.token.Leaf.TheVariants.{Cpy, Sig, Hsh, Nul}
use Rattle.phrase_reader.specs.declared.token.Token.{Token}
use Rattle.phrase_reader.specs.declared.token.Token.TheVariants as tokens
use Rattle.phrase_reader.specs.declared.lexeme.Lexeme.{Lexeme}
use Rattle.phrase_reader.specs.declared.lexeme.Lexeme.TheVariants.{Read, Refused, End}

-- space, tab, CR and LF, which separate tokens and mean nothing else
abbrev pub is_blank : ℕ → Bool
is_blank byte = byte == 32 || byte == 9 || byte == 13 || byte == 10

abbrev pub is_digit : ℕ → Bool
is_digit byte = nat_le 48 byte && nat_le byte 57

-- a letter or a digit
abbrev pub begins_word : ℕ → Bool
begins_word byte = (nat_le 65 byte && nat_le byte 90) || is_small_letter byte || is_digit byte

-- a letter, a digit or an underscore
abbrev pub continues_word : ℕ → Bool
continues_word byte = begins_word byte || byte == 95

-- digits, with no zero at the front unless it is alone
abbrev pub is_decimal : List ℕ → Bool
is_decimal [] = false
is_decimal (first ∷ rest) =
    if first == 48 then length rest == 0 else list_all is_digit (first ∷ rest)

-- the number that digits write behind a number
abbrev pub decimal_from : ℕ → List ℕ → ℕ
decimal_from value [] = value
decimal_from value (digit ∷ rest) = decimal_from (10 * value + (digit - 48)) rest

-- a decimal of at most 4294967295
unfoldable pub decimal_token : List ℕ → Result Token Kind
decimal_token word =
    if nat_le (decimal_from 0 word) 4294967295
    then Ok (tokens.Value (Number (decimal_from 0 word)))
    else Err kinds.NumberTooLarge

-- the token that a whole word is: one of the six keywords, a name or a decimal
abbrev pub word_token : List ℕ → Result Token Kind
word_token word =
    if bytes_eq word (codes "CPY") then Ok (tokens.Leaf Cpy)
    else (if bytes_eq word (codes "SIG") then Ok (tokens.Leaf Sig)
    else (if bytes_eq word (codes "HSH") then Ok (tokens.Leaf Hsh)
    else (if bytes_eq word (codes "NUL") then Ok (tokens.Leaf Nul)
    else (if bytes_eq word (codes "USM") then Ok tokens.Usm
    else (if bytes_eq word (codes "KIM") then Ok tokens.Kim
    else (if is_name word then Ok (tokens.Value (Word word))
    else (if is_decimal word then decimal_token word
    else Err kinds.Word)))))))

abbrev pub word_is : List ℕ → Result Token Kind → Lexeme
word_is word (Ok token) = Read token (length word)
word_is word (Err kind) = Refused kind 0

abbrev pub word_lexeme : List ℕ → Lexeme
word_lexeme word = word_is word (word_token word)

-- what follows a sign and `<` or `~`: the other sign of an op
abbrev pub after_signs : Bool → Bool → List ℕ → Lexeme
after_signs left parallel [] = Refused kinds.Char 2
after_signs left parallel (byte ∷ rest) =
    if byte == 43 || byte == 45
    then Read (tokens.Op (record { parallel = parallel; split = record { left = left; right = byte == 43 } })) 3
    else Refused kinds.Char 2

-- what follows a sign, `+` or not: the rest of an arrow or of an op
abbrev pub after_sign : Bool → List ℕ → Lexeme
after_sign left [] = Refused kinds.Char 1
after_sign left (byte ∷ rest) =
    if not left && byte == 62 then Read tokens.Arrow 2
    else (if byte == 60 || byte == 126 then after_signs left (byte == 126) rest
    else Refused kinds.Char 1)

-- the tokens of one byte
abbrev pub mark : ℕ → Option Token
mark byte =
    if byte == 40 then Some tokens.OpenRound
    else (if byte == 41 then Some tokens.CloseRound
    else (if byte == 91 then Some tokens.OpenSquare
    else (if byte == 93 then Some tokens.CloseSquare
    else (if byte == 64 then Some tokens.At
    else None))))

abbrev pub marked : Option Token → Lexeme → Lexeme
marked (Some token) other = Read token 1
marked None other = other

-- what stands at the front of a text that begins with no blank: the longest word, where one begins
abbrev pub front : List ℕ → Lexeme
front [] = End
front (first ∷ rest) =
    marked (mark first)
    (if first == 43 || first == 45 then after_sign (first == 43) rest
    else (if begins_word first then word_lexeme (take_while continues_word (first ∷ rest))
    else Refused kinds.Char 0))

-- a token, a refusal of a byte or a word, or the end, with its offset in the text
pub data Found : Type 0 where
  token_at : ℕ → Token → Found
  refused_at : ℕ → Kind → Found
  ends_at : ℕ → Found

-- what is found from an offset on, whose lexeme is given, where `rest` finds what stands behind more bytes
abbrev pub found_with : ℕ → Lexeme → (ℕ → List Found) → List Found
found_with at (Read token len) rest = token_at at token ∷ rest (len - 1)
found_with at (Refused kind past) rest = refused_at (at + past) kind ∷ []
found_with at End rest = ends_at at ∷ []

-- what is found from an offset on, in order, up to the first refusal of a byte or a word; the first
-- `skip` bytes belong to the token before
abbrev pub found : ℕ → ℕ → List ℕ → List Found
found at skip [] = ends_at at ∷ []
found at (suc skip) (byte ∷ rest) = found (at + 1) skip rest
found at zero (byte ∷ rest) =
    elim (is_blank byte) [
      | true ↦ found (at + 1) 0 rest
      | false ↦ found_with at (front (byte ∷ rest)) (λ skip. found (at + 1) skip rest)
    ]

abbrev pub tokens_of : List Found → List Token
tokens_of [] = []
tokens_of (token_at at token ∷ rest) = token ∷ tokens_of rest
tokens_of (refused_at at kind ∷ rest) = tokens_of rest
tokens_of (ends_at at ∷ rest) = tokens_of rest
