-- The tokens of a text make it, and a text that tokens make has these tokens.
use Rattle.std.proofs.Common.{◌≡◌, ◌≤◌, ◌+◌, ◌-◌, ◌++◌, ◌||◌, ◌==◌, ◌&&◌, ℕ, zero, suc, Bool, true, false, not, cond, List, [], ◌∷◌, Option, Some, None, Result, Ok, Err, length, take, drop, nat_le, refl, ap, sym, ◌∙◌, subst, inl, inr, codes, arith}
use Rattle.std.proofs.lemmas.Bool.{cases_lt, cond_both, eqb-true, and_from, and_parts, leb-true}
use Rattle.std.proofs.lemmas.List.{take-append-drop, length-drop}
use Rattle.std.proofs.lemmas.List.Folds.{length-prefix_len}
use Rattle.std.proofs.lemmas.Slice.Eq.{bytes_eq-Decides}
use Rattle.std.specs.List.{list_all, take_while, prefix_len}
use Rattle.std.specs.Str.{bytes_eq}
use Rattle.phrase_tree.specs.Name.{is_name}
use Rattle.phrase_tree.specs.Term.{Term}
use Rattle.phrase_tree.specs.declared.measurement.Arg.{Arg}
use Rattle.phrase_tree.specs.declared.measurement.Arg.TheVariants.{Word, Number}
use Rattle.phrase_reader.specs.declared.refusal.Kind.{Kind}
use Rattle.phrase_reader.specs.declared.refusal.Kind.TheVariants as kinds
use Rattle.phrase_reader.specs.declared.token.Leaf.{Leaf}
use Rattle.phrase_reader.specs.declared.token.Leaf.TheVariants.{Cpy, Sig, Hsh, Nul}
use Rattle.phrase_reader.specs.declared.token.Token.{Token}
use Rattle.phrase_reader.specs.declared.token.Token.TheVariants as tokens
use Rattle.phrase_reader.specs.declared.lexeme.Lexeme.{Lexeme}
use Rattle.phrase_reader.specs.declared.lexeme.Lexeme.TheVariants.{Read, Refused, End}
use Rattle.phrase_reader.specs.Canonical.{op_text, sign, order}
use Rattle.phrase_reader.specs.Tokens.{is_blank, is_digit, begins_word, continues_word, is_decimal, decimal_from, decimal_token, word_token, word_is, word_lexeme, after_signs, after_sign, mark, marked, front, Found, token_at, refused_at, ends_at, found_with, found, tokens_of}
use Rattle.phrase_reader.specs.Grammar.{IsBranch}
use Rattle.phrase_reader.specs.Refusal.{Refuses, IsRead}
use Rattle.phrase_reader.specs.Spelling.{keyword, IsSpelling, EndsWord, MayStandBehind, Makes, NoneRefused}
use Rattle.phrase_reader.proofs.Lexing.{FitsIn, front_fits, found_skip, found_blank, found_token}
use Rattle.phrase_reader.proofs.Pieces.{Only, Stops, lexes_word}
use Rattle.phrase_reader.proofs.WordTokens.{IsWord, name_word, name_is_token, digit_begins, digits_continue, digits_are_token}

-- ---- what stands at the front of a text is spelled there

-- what a lexeme says of the front of a text that has a byte
abbrev Says : List ℕ → Lexeme → Type 0
Says text (Read token len) = IsSpelling token (take len text) × MayStandBehind token (drop len text)
Says text (Refused kind past) = Unit {0}
Says text End = ⊥

one_byte : (byte other : ℕ) → (byte == other) ≡ true → byte ∷ [] ≡ other ∷ []
one_byte byte other e = ap (λ (b : ℕ). b ∷ []) (eqb-true byte other e)

abbrev Marked : ℕ → List ℕ → Lexeme → Option Token → Type 0
Marked byte rest other o = Says (byte ∷ rest) (marked o other)

mark_says : (byte : ℕ) (rest : List ℕ) (other : Lexeme) → Says (byte ∷ rest) other → Says (byte ∷ rest) (marked (mark byte) other)
mark_says byte rest other h =
    cond_both (byte == 40) (Some tokens.OpenRound) _ (Marked byte rest other) (λ e. (one_byte byte 40 e, tt))
    (λ _. cond_both (byte == 41) (Some tokens.CloseRound) _ (Marked byte rest other) (λ e. (one_byte byte 41 e, tt))
    (λ _. cond_both (byte == 91) (Some tokens.OpenSquare) _ (Marked byte rest other) (λ e. (one_byte byte 91 e, tt))
    (λ _. cond_both (byte == 93) (Some tokens.CloseSquare) _ (Marked byte rest other) (λ e. (one_byte byte 93 e, tt))
    (λ _. cond_both (byte == 64) (Some tokens.At) None (Marked byte rest other) (λ e. (one_byte byte 64 e, tt)) (λ _. h)))))

left_of_none : (a : Bool) → (a || false) ≡ true → a ≡ true
left_of_none true h = refl
left_of_none false h = h

flipped : (b : Bool) → not b ≡ true → b ≡ false
flipped true h = cc
flipped false h = refl

sign_is : (byte : ℕ) → (byte == 43 || byte == 45) ≡ true → byte ≡ sign (byte == 43)
sign_is byte h = by (byte == 43) refl
  where
    by : (b : Bool) → (byte == 43) ≡ b → byte ≡ sign b
    by true e = eqb-true byte 43 e
    by false e = eqb-true byte 45 (sym (ap (λ b. b || (byte == 45)) e) ∙ h)

order_is : (byte : ℕ) → (byte == 60 || byte == 126) ≡ true → byte ≡ order (byte == 126)
order_is byte h = by (byte == 126) refl
  where
    by : (b : Bool) → (byte == 126) ≡ b → byte ≡ order b
    by true e = eqb-true byte 126 e
    by false e = eqb-true byte 60 (left_of_none (byte == 60) (sym (ap (λ b. (byte == 60) || b) e) ∙ h))

op_is : (first second third : ℕ) → first ≡ sign (first == 43) → second ≡ order (second == 126) → third ≡ sign (third == 43) → first ∷ second ∷ third ∷ [] ≡ op_text (second == 126) (record { left = first == 43; right = third == 43 })
op_is first second third f s t = λ i. f i ∷ s i ∷ t i ∷ []

signs_say : (first second : ℕ) (rest : List ℕ) → first ≡ sign (first == 43) → second ≡ order (second == 126) → Says (first ∷ second ∷ rest) (after_signs (first == 43) (second == 126) rest)
signs_say first second [] f s = tt
signs_say first second (third ∷ rest) f s =
    cond_both (third == 43 || third == 45)
    (Read (tokens.Op (record { parallel = second == 126; split = record { left = first == 43; right = third == 43 } })) 3)
    (Refused kinds.Char 2)
    (λ l. Says (first ∷ second ∷ third ∷ rest) l)
    (λ e. (op_is first second third f s (sign_is third e), tt))
    (λ _. tt)

arrow_is : (first second : ℕ) → (first == 43 || first == 45) ≡ true → (not (first == 43) && second == 62) ≡ true → first ∷ second ∷ [] ≡ 45 ∷ 62 ∷ []
arrow_is first second h e =
    let p = and_parts (not (first == 43)) (second == 62) e in
    let minus : first ≡ 45 = sign_is first h ∙ ap sign (flipped (first == 43) p.0) in
    let greater : second ≡ 62 = eqb-true second 62 p.1 in
    λ i. minus i ∷ greater i ∷ []

sign_says : (first : ℕ) (rest : List ℕ) → (first == 43 || first == 45) ≡ true → Says (first ∷ rest) (after_sign (first == 43) rest)
sign_says first [] h = tt
sign_says first (second ∷ rest) h =
    cond_both (not (first == 43) && second == 62) (Read tokens.Arrow 2) _
    (λ l. Says (first ∷ second ∷ rest) l)
    (λ e. (arrow_is first second h e, tt))
    (λ _. cond_both (second == 60 || second == 126) (after_signs (first == 43) (second == 126) rest) (Refused kinds.Char 1)
    (λ l. Says (first ∷ second ∷ rest) l)
    (λ e. signs_say first second rest (sign_is first h) (order_is second e))
    (λ _. tt))

-- a word is spelled by its bytes
abbrev IsTokenOf : List ℕ → Result Token Kind → Type 0
IsTokenOf word (Ok token) = IsSpelling token word × ((rest : List ℕ) → EndsWord rest → MayStandBehind token rest)
IsTokenOf word (Err kind) = Unit {0}

same_bytes : (word other : List ℕ) → bytes_eq word other ≡ true → word ≡ other
same_bytes word other e = (bytes_eq-Decides word other).0 e

decimal_is : (word : List ℕ) → is_decimal word ≡ true → IsTokenOf word (decimal_token word)
unfolding decimal_token
decimal_is word plain =
    cond_both (nat_le (decimal_from 0 word) 4294967295) (Ok (tokens.Value (Number (decimal_from 0 word)))) (Err kinds.NumberTooLarge) (IsTokenOf word)
    (λ e. ((plain, refl, leb-true (decimal_from 0 word) 4294967295 e), λ rest ends. ends))
    (λ _. tt)

token_of : (word : List ℕ) → IsTokenOf word (word_token word)
token_of word =
    cond_both (bytes_eq word (codes "CPY")) (Ok (tokens.Leaf Cpy)) _ (IsTokenOf word) (λ e. (same_bytes word (codes "CPY") e, λ rest ends. ends))
    (λ _. cond_both (bytes_eq word (codes "SIG")) (Ok (tokens.Leaf Sig)) _ (IsTokenOf word) (λ e. (same_bytes word (codes "SIG") e, λ rest ends. ends))
    (λ _. cond_both (bytes_eq word (codes "HSH")) (Ok (tokens.Leaf Hsh)) _ (IsTokenOf word) (λ e. (same_bytes word (codes "HSH") e, λ rest ends. ends))
    (λ _. cond_both (bytes_eq word (codes "NUL")) (Ok (tokens.Leaf Nul)) _ (IsTokenOf word) (λ e. (same_bytes word (codes "NUL") e, λ rest ends. ends))
    (λ _. cond_both (bytes_eq word (codes "USM")) (Ok tokens.Usm) _ (IsTokenOf word) (λ e. (same_bytes word (codes "USM") e, λ rest ends. ends))
    (λ _. cond_both (bytes_eq word (codes "KIM")) (Ok tokens.Kim) _ (IsTokenOf word) (λ e. (same_bytes word (codes "KIM") e, λ rest ends. ends))
    (λ _. cond_both (is_name word) (Ok (tokens.Value (Word word))) _ (IsTokenOf word) (λ e. ((refl, e), λ rest ends. ends))
    (λ _. cond_both (is_decimal word) (decimal_token word) (Err kinds.Word) (IsTokenOf word) (λ e. decimal_is word e) (λ _. tt))))))))

-- behind the longest word nothing goes on with it
longest : (text : List ℕ) → EndsWord (drop (prefix_len continues_word text) text)
longest [] = tt
longest (byte ∷ rest) = cond_both (continues_word byte) (1 + prefix_len continues_word rest) 0 (λ n. EndsWord (drop n (byte ∷ rest)))
    (λ _. subst (λ (n : ℕ). EndsWord (drop n (byte ∷ rest))) (let e : suc (prefix_len continues_word rest) ≡ 1 + prefix_len continues_word rest = omega arith in e) (longest rest))
    (λ e. e)

word_says : (text word : List ℕ) (r : Result Token Kind) → take (length word) text ≡ word → EndsWord (drop (length word) text) → IsTokenOf word r → Says text (word_is word r)
word_says text word (Ok token) is ends h = (subst (IsSpelling token) (sym is) h.0, h.1 (drop (length word) text) ends)
word_says text word (Err kind) is ends h = tt

words_say : (text : List ℕ) → Says text (word_lexeme (take_while continues_word text))
words_say text =
    let len : length (take_while continues_word text) ≡ prefix_len continues_word text = length-prefix_len continues_word text in
    word_says text (take_while continues_word text) (word_token (take_while continues_word text))
    (ap (λ (n : ℕ). take n text) len) (subst (λ (n : ℕ). EndsWord (drop n text)) (sym len) (longest text)) (token_of (take_while continues_word text))

front_says : (first : ℕ) (rest : List ℕ) → Says (first ∷ rest) (front (first ∷ rest))
front_says first rest =
    mark_says first rest _
    (cond_both (first == 43 || first == 45) (after_sign (first == 43) rest) _ (λ l. Says (first ∷ rest) l)
    (λ e. sign_says first rest e)
    (λ _. cond_both (begins_word first) (word_lexeme (take_while continues_word (first ∷ rest))) (Refused kinds.Char 0) (λ l. Says (first ∷ rest) l)
    (λ _. words_say (first ∷ rest))
    (λ _. tt)))

-- ---- the tokens of a text make it

blank_ahead : (byte : ℕ) (rest : List ℕ) (spelled : List Token) → is_blank byte ≡ true → Makes spelled rest → Makes spelled (byte ∷ rest)
blank_ahead byte rest [] e h = and_from (is_blank byte) (list_all is_blank rest) e h
blank_ahead byte rest (token ∷ more) e (blanks, spelling, behind, all, spells, may, makes, is) =
    (byte ∷ blanks, spelling, behind, and_from (is_blank byte) (list_all is_blank blanks) e all, spells, may, makes, ap (λ (l : List ℕ). byte ∷ l) is)

abbrev MakesFound : List Found → List ℕ → Type 0
MakesFound all text = NoneRefused all → Makes (tokens_of all) text

by_lexeme : (byte : ℕ) (rest : List ℕ) (offset : ℕ) (l : Lexeme) → Says (byte ∷ rest) l → FitsIn (length (byte ∷ rest)) l → ((n skip : ℕ) → skip ≤ length rest → MakesFound (found n 0 (drop skip rest)) (drop skip rest)) → MakesFound (found_with offset l (λ skip. found (offset + 1) skip rest)) (byte ∷ rest)
by_lexeme byte rest offset (Read token len) says fits more none =
    let few : len - 1 ≤ length rest = omega (arith, fits.0, fits.1) in
    let skipped : found (offset + 1) (len - 1) rest ≡ found (offset + 1 + (len - 1)) 0 (drop (len - 1) rest) = found_skip (len - 1) (offset + 1) rest few in
    let behind : drop (len - 1) rest ≡ drop len (byte ∷ rest) = (let e : suc (len - 1) ≡ len = omega (arith, fits.0) in ap (λ (n : ℕ). drop n (byte ∷ rest)) e) in
    let others : Makes (tokens_of (found (offset + 1) (len - 1) rest)) (drop len (byte ∷ rest)) =
    subst (λ (t : List ℕ). Makes (tokens_of (found (offset + 1) (len - 1) rest)) t) behind
    (subst (λ (f : List Found). MakesFound f (drop (len - 1) rest)) (sym skipped) (more (offset + 1 + (len - 1)) (len - 1) few) none) in
    ([], take len (byte ∷ rest), drop len (byte ∷ rest), refl, says.0, says.1, others, sym (take-append-drop len (byte ∷ rest)))
by_lexeme byte rest offset (Refused kind past) says fits more none = absurd none
by_lexeme byte rest offset End says fits more none = absurd says

makes_from : (fuel offset : ℕ) (text : List ℕ) → length text ≤ fuel → MakesFound (found offset 0 text) text
makes_from fuel offset [] few none = refl
makes_from zero offset (byte ∷ rest) few none = absurd (omega arith)
makes_from (suc fuel) offset (byte ∷ rest) few none = by (is_blank byte) refl (λ n. makes_from fuel n rest (omega arith)) (λ n skip within. makes_from fuel n (drop skip rest) (omega (arith, length-drop skip rest))) none
  where
    by : (b : Bool) → is_blank byte ≡ b → ((n : ℕ) → MakesFound (found n 0 rest) rest) → ((n skip : ℕ) → skip ≤ length rest → MakesFound (found n 0 (drop skip rest)) (drop skip rest)) → MakesFound (found offset 0 (byte ∷ rest)) (byte ∷ rest)
    by true e more far = subst (λ (f : List Found). MakesFound f (byte ∷ rest)) (sym (found_blank byte rest offset e)) (λ none. blank_ahead byte rest (tokens_of (found (offset + 1) 0 rest)) e (more (offset + 1) none))
    by false e more far = subst (λ (f : List Found). MakesFound f (byte ∷ rest)) (sym (found_token byte rest offset e)) (by_lexeme byte rest offset (front (byte ∷ rest)) (front_says byte rest) (front_fits (byte ∷ rest)) far)

pub tokens_make : (text : List ℕ) → NoneRefused (found 0 0 text) → Makes (tokens_of (found 0 0 text)) text
tokens_make text = makes_from (length text) 0 text (omega arith)

-- ---- a text that tokens make has them

stops_of : (text : List ℕ) → EndsWord text → Stops text
stops_of [] h = tt
stops_of (byte ∷ rest) h = h

keyword_word : (which : Leaf) → IsWord (keyword which)
keyword_word Cpy = record { first = 67; rest = codes "PY"; whole = refl; begins = refl; continues = refl }
keyword_word Sig = record { first = 83; rest = codes "IG"; whole = refl; begins = refl; continues = refl }
keyword_word Hsh = record { first = 72; rest = codes "SH"; whole = refl; begins = refl; continues = refl }
keyword_word Nul = record { first = 78; rest = codes "UL"; whole = refl; begins = refl; continues = refl }

keyword_token : (which : Leaf) → word_token (keyword which) ≡ Ok (tokens.Leaf which)
keyword_token Cpy = refl
keyword_token Sig = refl
keyword_token Hsh = refl
keyword_token Nul = refl

all_digits : (first : ℕ) (rest : List ℕ) → is_decimal (first ∷ rest) ≡ true → list_all is_digit (first ∷ rest) ≡ true
all_digits first rest h = by (first == 48) refl h
  where
    alone : (more : List ℕ) → (length more == 0) ≡ true → more ≡ []
    alone [] e = refl
    alone (byte ∷ more) e = let wrong = eqb-true (length (byte ∷ more)) 0 e in absurd (omega (arith, wrong))

    by : (b : Bool) → (first == 48) ≡ b → cond b (length rest == 0) (list_all is_digit (first ∷ rest)) ≡ true → list_all is_digit (first ∷ rest) ≡ true
    by true e d =
        let zero_first : is_digit first ≡ true = ap is_digit (eqb-true first 48 e) in
        and_from (is_digit first) (list_all is_digit rest) zero_first (ap (list_all is_digit) (alone rest d))
    by false e d = d

value_spelled : (value : Arg) (spelling : List ℕ) → IsSpelling (tokens.Value value) spelling → IsWord spelling × (word_token spelling ≡ Ok (tokens.Value value))
value_spelled (Word name) spelling h = subst (λ (w : List ℕ). IsWord w × (word_token w ≡ Ok (tokens.Value (Word name)))) (sym h.0) (name_word name h.1, name_is_token name h.1)
value_spelled (Number number) [] h = cc
value_spelled (Number number) (first ∷ rest) h =
    let ascii = all_digits first rest h.0 in (
      record { first = first; rest = rest; whole = refl; begins = digit_begins first (and_parts (is_digit first) (list_all is_digit rest) ascii).0; continues = digits_continue (first ∷ rest) ascii },
      digits_are_token first rest number (omega (arith, h.2)) ascii h.0 h.1,
    )

abbrev FindsOnly : List ℕ → List Token → Type 0
FindsOnly text spelled = (offset : ℕ) → Only (found offset 0 text) spelled

word_ahead : (word rest : List ℕ) (token : Token) (more : List Token) → IsWord word → word_token word ≡ Ok token → EndsWord rest → FindsOnly rest more → FindsOnly (word ++ rest) (token ∷ more)
word_ahead word rest token more is w ends h offset = (lexes_word word token is w).finds offset rest more (stops_of rest ends) h

op_ahead : (parallel left right : Bool) (rest : List ℕ) (more : List Token) → FindsOnly rest more → FindsOnly (op_text parallel (record { left = left; right = right }) ++ rest) (tokens.Op (record { parallel = parallel; split = record { left = left; right = right } }) ∷ more)
op_ahead true true true rest more h offset = (refl, h (offset + 1 + 1 + 1))
op_ahead true true false rest more h offset = (refl, h (offset + 1 + 1 + 1))
op_ahead true false true rest more h offset = (refl, h (offset + 1 + 1 + 1))
op_ahead true false false rest more h offset = (refl, h (offset + 1 + 1 + 1))
op_ahead false true true rest more h offset = (refl, h (offset + 1 + 1 + 1))
op_ahead false true false rest more h offset = (refl, h (offset + 1 + 1 + 1))
op_ahead false false true rest more h offset = (refl, h (offset + 1 + 1 + 1))
op_ahead false false false rest more h offset = (refl, h (offset + 1 + 1 + 1))

token_by : (token : Token) (rest : List ℕ) (more : List Token) → MayStandBehind token rest → FindsOnly rest more → (spelling : List ℕ) → IsSpelling token spelling → FindsOnly (spelling ++ rest) (token ∷ more)
token_by (tokens.Leaf which) rest more may h spelling is = subst (λ (s : List ℕ). FindsOnly (s ++ rest) (tokens.Leaf which ∷ more)) (sym is) (word_ahead (keyword which) rest (tokens.Leaf which) more (keyword_word which) (keyword_token which) may h)
token_by tokens.Usm rest more may h spelling is = subst (λ (s : List ℕ). FindsOnly (s ++ rest) (tokens.Usm ∷ more)) (sym is) (word_ahead (codes "USM") rest tokens.Usm more record { first = 85; rest = codes "SM"; whole = refl; begins = refl; continues = refl } refl may h)
token_by tokens.Kim rest more may h spelling is = subst (λ (s : List ℕ). FindsOnly (s ++ rest) (tokens.Kim ∷ more)) (sym is) (word_ahead (codes "KIM") rest tokens.Kim more record { first = 75; rest = codes "IM"; whole = refl; begins = refl; continues = refl } refl may h)
token_by (tokens.Value value) rest more may h spelling is = let w = value_spelled value spelling is in word_ahead spelling rest (tokens.Value value) more w.0 w.1 may h
token_by tokens.At rest more may h spelling is = subst (λ (s : List ℕ). FindsOnly (s ++ rest) (tokens.At ∷ more)) (sym is) (λ offset. (refl, h (offset + 1)))
token_by tokens.OpenRound rest more may h spelling is = subst (λ (s : List ℕ). FindsOnly (s ++ rest) (tokens.OpenRound ∷ more)) (sym is) (λ offset. (refl, h (offset + 1)))
token_by tokens.CloseRound rest more may h spelling is = subst (λ (s : List ℕ). FindsOnly (s ++ rest) (tokens.CloseRound ∷ more)) (sym is) (λ offset. (refl, h (offset + 1)))
token_by tokens.OpenSquare rest more may h spelling is = subst (λ (s : List ℕ). FindsOnly (s ++ rest) (tokens.OpenSquare ∷ more)) (sym is) (λ offset. (refl, h (offset + 1)))
token_by tokens.CloseSquare rest more may h spelling is = subst (λ (s : List ℕ). FindsOnly (s ++ rest) (tokens.CloseSquare ∷ more)) (sym is) (λ offset. (refl, h (offset + 1)))
token_by tokens.Arrow rest more may h spelling is = subst (λ (s : List ℕ). FindsOnly (s ++ rest) (tokens.Arrow ∷ more)) (sym is) (λ offset. (refl, h (offset + 1 + 1)))
token_by (tokens.Op op) rest more may h spelling is = subst (λ (s : List ℕ). FindsOnly (s ++ rest) (tokens.Op op ∷ more)) (sym is) (op_ahead op.parallel op.split.left op.split.right rest more h)

blanks_ahead : (blanks text : List ℕ) (spelled : List Token) → list_all is_blank blanks ≡ true → FindsOnly text spelled → FindsOnly (blanks ++ text) spelled
blanks_ahead [] text spelled all h offset = h offset
blanks_ahead (byte ∷ rest) text spelled all h offset =
    let p = and_parts (is_blank byte) (list_all is_blank rest) all in
    subst (λ (f : List Found). Only f spelled) (sym (found_blank byte (rest ++ text) offset p.0)) (blanks_ahead rest text spelled p.1 h (offset + 1))

only_blanks : (text : List ℕ) → list_all is_blank text ≡ true → FindsOnly text []
only_blanks [] all offset = refl
only_blanks (byte ∷ rest) all offset =
    let p = and_parts (is_blank byte) (list_all is_blank rest) all in
    subst (λ (f : List Found). Only f []) (sym (found_blank byte rest offset p.0)) (only_blanks rest p.1 (offset + 1))

made_found : (spelled : List Token) (text : List ℕ) → Makes spelled text → FindsOnly text spelled
made_found [] text h = only_blanks text h
made_found (token ∷ more) text (blanks, spelling, rest, all, spells, may, makes, is) =
    subst (λ (t : List ℕ). FindsOnly t (token ∷ more)) (sym is) (blanks_ahead blanks (spelling ++ rest) (token ∷ more) all (token_by token rest more may (made_found more rest makes) spelling spells))

only_tokens : (all : List Found) (spelled : List Token) → Only all spelled → NoneRefused all × (tokens_of all ≡ spelled)
only_tokens [] spelled h = absurd h
only_tokens (token_at offset token ∷ rest) [] h = absurd h
only_tokens (token_at offset token ∷ rest) (other ∷ more) h =
    let p = only_tokens rest more h.1 in
    let first : token ≡ other = h.0 in
    (p.0, λ i. first i ∷ p.1 i)
only_tokens (refused_at offset kind ∷ rest) spelled h = absurd h
only_tokens (ends_at offset ∷ rest) [] h = (subst NoneRefused (sym h) tt, ap tokens_of h)
only_tokens (ends_at offset ∷ rest) (token ∷ more) h = absurd h

pub made_tokens : (spelled : List Token) (text : List ℕ) → Makes spelled text → NoneRefused (found 0 0 text) × (tokens_of (found 0 0 text) ≡ spelled)
made_tokens spelled text h = only_tokens (found 0 0 text) spelled (made_found spelled text h 0)

-- ---- a text that is read

none_refused : (before : List Token) (all : List Found) → ((place : ℕ) (kind : Kind) → ¬ (Refuses before all place kind)) → NoneRefused all
none_refused before [] h = tt
none_refused before (token_at offset token ∷ rest) h =
    none_refused (before ++ token ∷ []) rest (λ place kind r. h place kind (inr (λ p k b. h p k (inl b), r)))
none_refused before (refused_at offset refusal ∷ rest) h = absurd (h offset refusal (inl (refl, refl)))
none_refused before (ends_at offset ∷ rest) h =
    none_refused before rest (λ place kind r. h place kind (inr (λ p k b. h p k (inl b), r)))

pub read_spelled : (text : List ℕ) (phrase : Term) → IsRead text phrase → (spelled : List Token) × Makes spelled text × IsBranch spelled phrase
read_spelled text phrase read =
    elim (cases_lt 65536 (length text)) [
      | inl long ↦ absurd (read.accepted 65536 kinds.TooLong (inl (long, refl, refl)))
      | inr fits ↦ (
        tokens_of (found 0 0 text),
        tokens_make text (none_refused [] (found 0 0 text) (λ place kind r. read.accepted place kind (inr (fits, r)))),
        read.spelled,
      )
    ]
