-- How tokens make a text: each is spelled by some bytes, blanks may stand before each and at the end, and a
-- word is as long as it can be.
use Rattle.std.specs.Prelude.{◌≡◌, ◌≤◌, ◌++◌, ℕ, true, false, List, [], ◌∷◌, IsTrue, codes}
use Rattle.std.specs.List.{list_all}
use Rattle.phrase_tree.specs.Name.{IsName}
use Rattle.phrase_tree.specs.declared.measurement.Arg.{Arg}
use Rattle.phrase_tree.specs.declared.measurement.Arg.TheVariants.{Word, Number}
use Rattle.phrase_reader.specs.declared.token.Leaf.{Leaf}
use Rattle.phrase_reader.specs.declared.token.Leaf.TheVariants.{Cpy, Sig, Hsh, Nul}
use Rattle.phrase_reader.specs.declared.token.Token.{Token}
use Rattle.phrase_reader.specs.declared.token.Token.TheVariants as tokens
use Rattle.phrase_reader.specs.Canonical.{op_text}
use Rattle.phrase_reader.specs.Tokens.{is_blank, continues_word, is_decimal, decimal_from, Found, token_at, refused_at, ends_at}

-- the keyword of a leaf
abbrev pub keyword : Leaf → List ℕ
keyword Cpy = codes "CPY"
keyword Sig = codes "SIG"
keyword Hsh = codes "HSH"
keyword Nul = codes "NUL"

-- the bytes are a name, or digits that write a number of 32 bits with no zero in front
abbrev pub IsValueSpelling : Arg → List ℕ → Type 0
IsValueSpelling (Word name) bytes = (bytes ≡ name) × IsName name
IsValueSpelling (Number number) bytes =
    IsTrue (is_decimal bytes) × (decimal_from 0 bytes ≡ number) × (number ≤ 4294967295)

-- the bytes spell the token
abbrev pub IsSpelling : Token → List ℕ → Type 0
IsSpelling (tokens.Leaf which) bytes = bytes ≡ keyword which
IsSpelling tokens.Usm bytes = bytes ≡ codes "USM"
IsSpelling tokens.Kim bytes = bytes ≡ codes "KIM"
IsSpelling tokens.At bytes = bytes ≡ codes "@"
IsSpelling tokens.OpenRound bytes = bytes ≡ codes "("
IsSpelling tokens.CloseRound bytes = bytes ≡ codes ")"
IsSpelling tokens.OpenSquare bytes = bytes ≡ codes "["
IsSpelling tokens.CloseSquare bytes = bytes ≡ codes "]"
IsSpelling tokens.Arrow bytes = bytes ≡ codes "->"
IsSpelling (tokens.Op op) bytes = bytes ≡ op_text op.parallel op.split
IsSpelling (tokens.Value value) bytes = IsValueSpelling value bytes

-- the text begins with nothing that would make a word before it longer
abbrev pub EndsWord : List ℕ → Type 0
EndsWord [] = Unit {0}
EndsWord (byte ∷ rest) = continues_word byte ≡ false

-- what stands behind a token: anything behind a mark, an arrow and an op, and the end of the word behind a word
abbrev pub MayStandBehind : Token → List ℕ → Type 0
MayStandBehind (tokens.Leaf which) rest = EndsWord rest
MayStandBehind tokens.Usm rest = EndsWord rest
MayStandBehind tokens.Kim rest = EndsWord rest
MayStandBehind (tokens.Value value) rest = EndsWord rest
MayStandBehind _ rest = Unit {0}

-- the tokens make the text: blanks, the first token's spelling, and what the others make; blanks at the end
abbrev pub Makes : List Token → List ℕ → Type 0
Makes [] text = list_all is_blank text ≡ true
Makes (token ∷ more) text =
    (blanks : List ℕ) × (spelling : List ℕ) × (rest : List ℕ) × (list_all is_blank blanks ≡ true) × IsSpelling token spelling × MayStandBehind token rest × Makes more rest × (text ≡ blanks ++ (spelling ++ rest))

-- no byte and no word was refused
abbrev pub NoneRefused : List Found → Type 0
NoneRefused [] = Unit {0}
NoneRefused (token_at offset token ∷ rest) = NoneRefused rest
NoneRefused (refused_at offset kind ∷ rest) = ⊥
NoneRefused (ends_at offset ∷ rest) = NoneRefused rest
