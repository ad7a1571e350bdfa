-- What is found from an offset on: blanks are passed over, and a token ends within the text.
use Rattle.std.proofs.Common.{◌≡◌, ◌≤◌, ◌<◌, ◌+◌, ◌-◌, ◌||◌, ◌==◌, ◌&&◌, ℕ, zero, suc, Bool, true, false, not, cond, List, [], ◌∷◌, Option, Some, None, Result, Ok, Err, length, take, drop, refl, ap, ◌∙◌, sym, subst, arith, add_comm, add-one}
use Rattle.std.proofs.lemmas.Bool.{cond-true, cond-false, cond_both, or_left}
use Rattle.std.proofs.lemmas.List.{drop-drop, length-drop}
use Rattle.std.specs.List.{prefix_len, take_while}
use Rattle.phrase_reader.specs.declared.refusal.Kind.{Kind}
use Rattle.phrase_reader.specs.declared.refusal.Kind.TheVariants as kinds
use Rattle.phrase_reader.specs.declared.token.Token.{Token}
use Rattle.phrase_reader.specs.declared.token.Token.TheVariants as tokens
use Rattle.phrase_reader.specs.declared.lexeme.Lexeme.{Lexeme}
use Rattle.phrase_reader.specs.declared.lexeme.Lexeme.TheVariants.{Read, Refused, End}
use Rattle.phrase_reader.specs.Tokens.{is_blank, begins_word, continues_word, word_token, word_is, word_lexeme, after_signs, after_sign, mark, marked, front, Found, token_at, refused_at, ends_at, found_with, found}

-- a lexeme lies within so many bytes
abbrev pub FitsIn : ℕ → Lexeme → Type 0
FitsIn room (Read token len) = (1 ≤ len) × (len ≤ room)
FitsIn room (Refused kind past) = past ≤ room
FitsIn room End = Unit {0}

at_room : (low high : ℕ) (lexeme : Lexeme) → low ≤ high → FitsIn low lexeme → FitsIn high lexeme
at_room low high (Read token len) h f = (f.0, omega (arith, f.1))
at_room low high (Refused kind past) h f = omega (arith, f)
at_room low high End h f = tt

take_length : (n : ℕ) (rest : List ℕ) → length (take n rest) ≤ length rest
take_length zero rest = omega arith
take_length (suc n) [] = omega arith
take_length (suc n) (byte ∷ rest) = omega (arith, take_length n rest)

taken_more : (n first : ℕ) (rest : List ℕ) → 1 ≤ length (take (1 + n) (first ∷ rest))
taken_more n first rest = rw (add_comm 1 n, add-one) (omega arith)

begun_continues : (byte : ℕ) → begins_word byte ≡ true → continues_word byte ≡ true
begun_continues byte h = or_left (begins_word byte) (byte == 95) h

signs_fit : (left parallel : Bool) (rest : List ℕ) → FitsIn (2 + length rest) (after_signs left parallel rest)
signs_fit left parallel [] = omega arith
signs_fit left parallel (byte ∷ rest) =
    cond_both (byte == 43 || byte == 45)
    (Read (tokens.Op (record { parallel = parallel; split = record { left = left; right = byte == 43 } })) 3)
    (Refused kinds.Char 2)
    (λ l. FitsIn (2 + length (byte ∷ rest)) l)
    (λ _. (omega arith, omega arith))
    (λ _. omega arith)

sign_fits : (left : Bool) (rest : List ℕ) → FitsIn (1 + length rest) (after_sign left rest)
sign_fits left [] = omega arith
sign_fits left (byte ∷ rest) =
    cond_both (not left && byte == 62)
    (Read tokens.Arrow 2)
    (cond (byte == 60 || byte == 126) (after_signs left (byte == 126) rest) (Refused kinds.Char 1))
    (λ l. FitsIn (1 + length (byte ∷ rest)) l)
    (λ _. (omega arith, omega arith))
    (λ _. cond_both (byte == 60 || byte == 126) (after_signs left (byte == 126) rest) (Refused kinds.Char 1)
    (λ l. FitsIn (1 + length (byte ∷ rest)) l)
    (λ _. at_room (2 + length rest) (1 + length (byte ∷ rest)) (after_signs left (byte == 126) rest) (omega arith) (signs_fit left (byte == 126) rest))
    (λ _. omega arith))

word_fits : (word : List ℕ) (room : ℕ) (r : Result Token Kind) → 1 ≤ length word → length word ≤ room → FitsIn room (word_is word r)
word_fits word room (Ok token) low high = (low, high)
word_fits word room (Err kind) low high = omega arith

while_length : (rest : List ℕ) → length (take_while continues_word rest) ≤ length rest
while_length rest = take_length (prefix_len continues_word rest) rest

marked_fits : (o : Option Token) (room : ℕ) (other : Lexeme) → 1 ≤ room → FitsIn room other → FitsIn room (marked o other)
marked_fits (Some token) room other low h = (omega arith, low)
marked_fits None room other low h = h

while_more : (first : ℕ) (rest : List ℕ) → begins_word first ≡ true → 1 ≤ length (take_while continues_word (first ∷ rest))
while_more first rest h =
    subst (λ n. 1 ≤ length (take n (first ∷ rest))) (sym (cond-true (continues_word first) (1 + prefix_len continues_word rest) 0 (begun_continues first h)))
    (taken_more (prefix_len continues_word rest) first rest)

pub front_fits : (text : List ℕ) → FitsIn (length text) (front text)
front_fits [] = tt
front_fits (first ∷ rest) =
    let room = length (first ∷ rest) in
    let word = take_while continues_word (first ∷ rest) in
    let words : Lexeme = cond (begins_word first) (word_lexeme word) (Refused kinds.Char 0) in
    marked_fits (mark first) room (cond (first == 43 || first == 45) (after_sign (first == 43) rest) words) (omega arith)
    (cond_both (first == 43 || first == 45) (after_sign (first == 43) rest) words
    (λ l. FitsIn room l)
    (λ _. at_room (1 + length rest) room (after_sign (first == 43) rest) (omega arith) (sign_fits (first == 43) rest))
    (λ _. cond_both (begins_word first) (word_lexeme word) (Refused kinds.Char 0)
    (λ l. FitsIn room l)
    (λ h. word_fits word room (word_token word) (while_more first rest h) (while_length (first ∷ rest)))
    (λ _. omega arith)))

-- the skipped bytes belong to the token before
pub found_skip : (skip offset : ℕ) (text : List ℕ) → skip ≤ length text → found offset skip text ≡ found (offset + skip) 0 (drop skip text)
found_skip zero offset text h = ap (λ n. found n 0 text) (omega arith)
found_skip (suc skip) offset [] h = absurd (omega arith)
found_skip (suc skip) offset (byte ∷ rest) h =
    found_skip skip (offset + 1) rest (omega arith) ∙ ap (λ n. found n 0 (drop skip rest)) (omega arith)

-- what is found from an offset on where no blank stands
abbrev pub found_here : ℕ → List ℕ → List Found
found_here start text = found_with start (front text) (λ skip. found (start + 1) skip (drop 1 text))

abbrev found_by : Bool → ℕ → ℕ → List ℕ → List Found
found_by v offset byte rest =
    elim v [ true ↦ found (offset + 1) 0 rest | false ↦ found_with offset (front (byte ∷ rest)) (λ skip. found (offset + 1) skip rest) ]

pub found_blank : (byte : ℕ) (rest : List ℕ) (offset : ℕ) → is_blank byte ≡ true → found offset 0 (byte ∷ rest) ≡ found (offset + 1) 0 rest
found_blank byte rest offset e = ap (λ v. found_by v offset byte rest) e

pub found_token : (byte : ℕ) (rest : List ℕ) (offset : ℕ) → is_blank byte ≡ false → found offset 0 (byte ∷ rest) ≡ found_here offset (byte ∷ rest)
found_token byte rest offset e = ap (λ v. found_by v offset byte rest) e

blank_by : (byte : ℕ) (rest : List ℕ) (offset start : ℕ) (v : Bool) → is_blank byte ≡ v → start ≡ offset + prefix_len is_blank (byte ∷ rest) → ((n : ℕ) → start ≡ n + prefix_len is_blank rest → found n 0 rest ≡ found_here start (drop (prefix_len is_blank rest) rest)) → found offset 0 (byte ∷ rest) ≡ found_here start (drop (prefix_len is_blank (byte ∷ rest)) (byte ∷ rest))
blank_by byte rest offset start true e s more =
    let len : prefix_len is_blank (byte ∷ rest) ≡ suc (prefix_len is_blank rest) = cond-true (is_blank byte) (1 + prefix_len is_blank rest) 0 e ∙ omega arith in
    found_blank byte rest offset e
    ∙ (more (offset + 1) (omega (arith, s, len))
    ∙ ap (λ n. found_here start (drop n (byte ∷ rest))) (sym len))
blank_by byte rest offset start false e s more =
    let len : prefix_len is_blank (byte ∷ rest) ≡ 0 = cond-false (is_blank byte) (1 + prefix_len is_blank rest) 0 e in
    let same : offset ≡ start = omega (arith, s, len) in
    found_token byte rest offset e
    ∙ (ap (λ n. found_here n (byte ∷ rest)) same
    ∙ ap (λ n. found_here start (drop n (byte ∷ rest))) (sym len))

pub found_blanks : (text : List ℕ) (offset start : ℕ) → start ≡ offset + prefix_len is_blank text → found offset 0 text ≡ found_here start (drop (prefix_len is_blank text) text)
found_blanks [] offset start s = let same : offset ≡ start = omega arith in ap (λ n. ends_at n ∷ []) same
found_blanks (byte ∷ rest) offset start s =
    blank_by byte rest offset start (is_blank byte) refl s (λ n e. found_blanks rest n start e)

-- a piece of the text from an offset on, by what stands at its front
pub found_read : (text : List ℕ) (offset start blanks len : ℕ) (token : Token) → offset ≤ length text → blanks ≡ prefix_len is_blank (drop offset text) → start ≡ offset + blanks → front (drop blanks (drop offset text)) ≡ Read token len → (found offset 0 (drop offset text) ≡ token_at start token ∷ found (start + len) 0 (drop (start + len) text)) × (offset < start + len) × (start ≤ length text) × (start + len ≤ length text)
found_read text offset start blanks len token inside is_blanks is_start e =
    let rest = drop blanks (drop offset text) in
    let fit : FitsIn (length rest) (Read token len) = subst (λ l. FitsIn (length rest) l) e (front_fits rest) in
    let room : length rest ≡ length text - start = length-drop blanks (drop offset text) ∙ (ap (λ n. n - blanks) (length-drop offset text) ∙ omega arith) in
    let here : drop start text ≡ rest = ap (λ n. drop n text) is_start ∙ sym (drop-drop blanks offset text) in (
      found_blanks (drop offset text) offset start (is_start ∙ ap (λ n. offset + n) is_blanks)
          ∙ (ap (λ n. found_here start (drop n (drop offset text))) (sym is_blanks)
          ∙ (ap (λ l. found_with start l (λ skip. found (start + 1) skip (drop 1 rest))) e
          ∙ ap (λ f. token_at start token ∷ f)
          (found_skip (len - 1) (start + 1) (drop 1 rest) (omega (arith, fit.0, fit.1, length-drop 1 rest))
          ∙ (ap (λ n. found n 0 (drop (len - 1) (drop 1 rest))) (omega (arith, fit.0))
          ∙ ap (λ t. found (start + len) 0 t)
          (drop-drop (len - 1) 1 rest
          ∙ (ap (λ n. drop n rest) (omega (arith, fit.0))
          ∙ (ap (λ t. drop len t) (sym here)
          ∙ drop-drop len start text))))))),
      omega (arith, fit.0, is_start),
      omega (arith, fit.0, fit.1, room),
      omega (arith, fit.0, fit.1, room),
    )

pub found_refused : (text : List ℕ) (offset start blanks past : ℕ) (kind : Kind) → offset ≤ length text → blanks ≡ prefix_len is_blank (drop offset text) → start ≡ offset + blanks → blanks ≤ length (drop offset text) → front (drop blanks (drop offset text)) ≡ Refused kind past → (found offset 0 (drop offset text) ≡ refused_at (start + past) kind ∷ []) × (start + past ≤ length text)
found_refused text offset start blanks past kind inside is_blanks is_start few e =
    let rest = drop blanks (drop offset text) in
    let fit : FitsIn (length rest) (Refused kind past) = subst (λ l. FitsIn (length rest) l) e (front_fits rest) in (
      found_blanks (drop offset text) offset start (is_start ∙ ap (λ n. offset + n) is_blanks)
          ∙ (ap (λ n. found_here start (drop n (drop offset text))) (sym is_blanks)
          ∙ ap (λ l. found_with start l (λ skip. found (start + 1) skip (drop 1 rest))) e),
      omega (arith, fit, is_start, few, length-drop blanks (drop offset text), length-drop offset text),
    )

pub found_end : (text : List ℕ) (offset start blanks : ℕ) → offset ≤ length text → blanks ≡ prefix_len is_blank (drop offset text) → start ≡ offset + blanks → blanks ≤ length (drop offset text) → front (drop blanks (drop offset text)) ≡ End → (found offset 0 (drop offset text) ≡ ends_at start ∷ []) × (start ≤ length text)
found_end text offset start blanks inside is_blanks is_start few e =
    let rest = drop blanks (drop offset text) in (
      found_blanks (drop offset text) offset start (is_start ∙ ap (λ n. offset + n) is_blanks)
          ∙ (ap (λ n. found_here start (drop n (drop offset text))) (sym is_blanks)
          ∙ ap (λ l. found_with start l (λ skip. found (start + 1) skip (drop 1 rest))) e),
      omega (arith, is_start, few, length-drop offset text),
    )
