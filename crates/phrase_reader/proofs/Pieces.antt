-- Texts whose tokens are known, whatever stands behind them that continues no word.
use Rattle.std.proofs.Common.{◌≡◌, ◌+◌, ◌-◌, ◌++◌, ◌==◌, ◌||◌, ℕ, Bool, true, false, List, [], ◌∷◌, None, Ok, length, refl, ap, ◌∙◌, sym, subst, append_assoc, arith, cond, length-append}
use Rattle.std.specs.List.{list_all, take_while}
use Rattle.std.proofs.Math.Seq.{drop-append_seam}
use Rattle.std.proofs.lemmas.Bool.{cond-true, cond-false, ne_eqb, and_parts}
use Rattle.std.proofs.lemmas.Bool.Decides.{nat_tests}
use Rattle.std.proofs.lemmas.List.Sums.{take_while-cons}
use Rattle.phrase_tree.specs.declared.phrase.Split.{Split}
use Rattle.phrase_reader.specs.declared.refusal.Kind.TheVariants as kinds
use Rattle.phrase_reader.specs.declared.token.Token.{Token}
use Rattle.phrase_reader.specs.declared.token.Token.TheVariants as tokens
use Rattle.phrase_reader.specs.declared.lexeme.Lexeme.{Lexeme}
use Rattle.phrase_reader.specs.declared.lexeme.Lexeme.TheVariants.{Read, Refused}
use Rattle.phrase_reader.specs.Tokens.{is_blank, begins_word, continues_word, word_token, word_is, word_lexeme, after_sign, mark, marked, front, Found, token_at, refused_at, ends_at, found_with, found}
use Rattle.phrase_reader.specs.Canonical.{op_text}
use Rattle.phrase_reader.proofs.Lexing.{found_token, found_skip}
use Rattle.phrase_reader.proofs.WordTokens.{IsWord}

-- what was found is these tokens and the end
abbrev pub Only : List Found → List Token → Type 0
Only [] spelled = ⊥
Only (token_at offset token ∷ rest) [] = ⊥
Only (token_at offset token ∷ rest) (other ∷ more) = (token ≡ other) × Only rest more
Only (refused_at offset kind ∷ rest) spelled = ⊥
Only (ends_at offset ∷ rest) [] = rest ≡ []
Only (ends_at offset ∷ rest) (token ∷ more) = ⊥

-- the text begins with nothing that continues a word
abbrev pub Stops : List ℕ → Type 0
Stops [] = Unit {0}
Stops (byte ∷ rest) = continues_word byte ≡ false

stops_joined : (text rest : List ℕ) → Stops text → Stops rest → Stops (text ++ rest)
stops_joined [] rest h g = g
stops_joined (byte ∷ text) rest h g = h

-- the text is spelled by these tokens, before whatever continues no word
pub record Lexes (text : List ℕ) (spelled : List Token) : Type 0 where
  pub finds : (offset : ℕ) (rest : List ℕ) (more : List Token) → Stops rest → ((n : ℕ) → Only (found n 0 rest) more) → Only (found offset 0 (text ++ rest)) (spelled ++ more)

pub lexes_none : Lexes [] []
lexes_none = record { finds = λ offset rest more stops h. h offset }

pub lexes_joined : (text more : List ℕ) (front back : List Token) → Lexes text front → Lexes more back → Stops more → Lexes (text ++ more) (front ++ back)
lexes_joined text more front back l m stops = record {
  finds = λ offset rest after s h.
      subst (λ t. Only (found offset 0 t) ((front ++ back) ++ after)) (sym (append_assoc text more rest))
      (subst (λ ts. Only (found offset 0 (text ++ (more ++ rest))) ts) (sym (append_assoc front back after))
      (l.finds offset (more ++ rest) (back ++ after) (stops_joined more rest stops s) (λ n. m.finds n rest after s h)));
}

pub lexes_blank : (text : List ℕ) (spelled : List Token) → Lexes text spelled → Lexes (32 ∷ text) spelled
lexes_blank text spelled l = record { finds = λ offset rest more stops h. l.finds (offset + 1) rest more stops h }

pub lexes_open_round : (text : List ℕ) (spelled : List Token) → Lexes text spelled → Lexes (40 ∷ text) (tokens.OpenRound ∷ spelled)
lexes_open_round text spelled l = record { finds = λ offset rest more stops h. (refl, l.finds (offset + 1) rest more stops h) }

pub lexes_close_round : (text : List ℕ) (spelled : List Token) → Lexes text spelled → Lexes (41 ∷ text) (tokens.CloseRound ∷ spelled)
lexes_close_round text spelled l = record { finds = λ offset rest more stops h. (refl, l.finds (offset + 1) rest more stops h) }

pub lexes_open_square : (text : List ℕ) (spelled : List Token) → Lexes text spelled → Lexes (91 ∷ text) (tokens.OpenSquare ∷ spelled)
lexes_open_square text spelled l = record { finds = λ offset rest more stops h. (refl, l.finds (offset + 1) rest more stops h) }

pub lexes_close_square : (text : List ℕ) (spelled : List Token) → Lexes text spelled → Lexes (93 ∷ text) (tokens.CloseSquare ∷ spelled)
lexes_close_square text spelled l = record { finds = λ offset rest more stops h. (refl, l.finds (offset + 1) rest more stops h) }

pub lexes_at : (text : List ℕ) (spelled : List Token) → Lexes text spelled → Lexes (64 ∷ text) (tokens.At ∷ spelled)
lexes_at text spelled l = record { finds = λ offset rest more stops h. (refl, l.finds (offset + 1) rest more stops h) }

pub lexes_arrow : (text : List ℕ) (spelled : List Token) → Lexes text spelled → Lexes (45 ∷ 62 ∷ text) (tokens.Arrow ∷ spelled)
lexes_arrow text spelled l = record { finds = λ offset rest more stops h. (refl, l.finds (offset + 1 + 1) rest more stops h) }

abbrev op_token : Bool → Bool → Bool → Token
op_token parallel left right = tokens.Op (record { parallel = parallel; split = record { left = left; right = right } })

op_by : (parallel left right : Bool) (text : List ℕ) (spelled : List Token) → Lexes text spelled → (offset : ℕ) (rest : List ℕ) (more : List Token) → Stops rest → ((n : ℕ) → Only (found n 0 rest) more) → Only (found offset 0 (op_text parallel (record { left = left; right = right }) ++ (text ++ rest))) (op_token parallel left right ∷ (spelled ++ more))
op_by true true true text spelled l offset rest more stops h = (refl, l.finds (offset + 1 + 1 + 1) rest more stops h)
op_by true true false text spelled l offset rest more stops h = (refl, l.finds (offset + 1 + 1 + 1) rest more stops h)
op_by true false true text spelled l offset rest more stops h = (refl, l.finds (offset + 1 + 1 + 1) rest more stops h)
op_by true false false text spelled l offset rest more stops h = (refl, l.finds (offset + 1 + 1 + 1) rest more stops h)
op_by false true true text spelled l offset rest more stops h = (refl, l.finds (offset + 1 + 1 + 1) rest more stops h)
op_by false true false text spelled l offset rest more stops h = (refl, l.finds (offset + 1 + 1 + 1) rest more stops h)
op_by false false true text spelled l offset rest more stops h = (refl, l.finds (offset + 1 + 1 + 1) rest more stops h)
op_by false false false text spelled l offset rest more stops h = (refl, l.finds (offset + 1 + 1 + 1) rest more stops h)

pub lexes_op : (parallel : Bool) (split : Split) (text : List ℕ) (spelled : List Token) → Lexes text spelled → Lexes (op_text parallel split ++ text) (tokens.Op (record { parallel = parallel; split = split }) ∷ spelled)
lexes_op parallel split text spelled l = record { finds = op_by parallel split.left split.right text spelled l }

-- the longest word at the front of a word and what continues none is that word
word_front : (word rest : List ℕ) → list_all continues_word word ≡ true → Stops rest → take_while continues_word (word ++ rest) ≡ word
word_front [] [] h stops = refl
word_front [] (byte ∷ rest) h stops =
    take_while-cons continues_word byte rest ∙ cond-false (continues_word byte) (byte ∷ take_while continues_word rest) [] stops
word_front (first ∷ word) rest h stops =
    let p = and_parts (continues_word first) (list_all continues_word word) h in
    take_while-cons continues_word first (word ++ rest)
    ∙ (cond-true (continues_word first) (first ∷ take_while continues_word (word ++ rest)) [] p.0
    ∙ ap (λ l. first ∷ l) (word_front word rest p.1 stops))

no_blank : (byte : ℕ) → begins_word byte ≡ true → is_blank byte ≡ false
no_blank byte h = grind (arith, nat_tests)

no_sign : (byte : ℕ) → begins_word byte ≡ true → (byte == 43 || byte == 45) ≡ false
no_sign byte h = grind (arith, nat_tests)

no_mark : (byte : ℕ) → begins_word byte ≡ true → mark byte ≡ None
no_mark byte h =
    cond-false (byte == 40) _ _ (ne_eqb byte 40 (apart 40 refl))
    ∙ (cond-false (byte == 41) _ _ (ne_eqb byte 41 (apart 41 refl))
    ∙ (cond-false (byte == 91) _ _ (ne_eqb byte 91 (apart 91 refl))
    ∙ (cond-false (byte == 93) _ _ (ne_eqb byte 93 (apart 93 refl))
    ∙ cond-false (byte == 64) _ _ (ne_eqb byte 64 (apart 64 refl)))))
  where
    apart : (other : ℕ) → begins_word other ≡ false → byte ≡ other → ⊥
    apart other n e = let g : true ≡ false = sym h ∙ (ap begins_word e ∙ n) in cc

word_at_front : (first : ℕ) (body rest : List ℕ) (token : Token) → begins_word first ≡ true → list_all continues_word (first ∷ body) ≡ true → word_token (first ∷ body) ≡ Ok token → Stops rest → front (first ∷ (body ++ rest)) ≡ Read token (length (first ∷ body))
word_at_front first body rest token b c w stops =
    let words : Lexeme = cond (begins_word first) (word_lexeme (take_while continues_word (first ∷ (body ++ rest)))) (Refused kinds.Char 0) in
    ap (λ o. marked o (cond (first == 43 || first == 45) (after_sign (first == 43) (body ++ rest)) words)) (no_mark first b)
    ∙ (cond-false (first == 43 || first == 45) (after_sign (first == 43) (body ++ rest)) words (no_sign first b)
    ∙ (cond-true (begins_word first) (word_lexeme (take_while continues_word (first ∷ (body ++ rest)))) (Refused kinds.Char 0) b
    ∙ (ap word_lexeme (word_front (first ∷ body) rest c stops)
    ∙ ap (word_is (first ∷ body)) w)))

word_found : (first : ℕ) (body rest : List ℕ) (token : Token) (offset : ℕ) → begins_word first ≡ true → list_all continues_word (first ∷ body) ≡ true → word_token (first ∷ body) ≡ Ok token → Stops rest → found offset 0 (first ∷ (body ++ rest)) ≡ token_at offset token ∷ found (offset + 1 + length body) 0 rest
word_found first body rest token offset b c w stops =
    found_token first (body ++ rest) offset (no_blank first b)
    ∙ (ap (λ l. found_with offset l (λ skip. found (offset + 1) skip (body ++ rest))) (word_at_front first body rest token b c w stops)
    ∙ ap (λ f. token_at offset token ∷ f)
    (ap (λ n. found (offset + 1) n (body ++ rest)) one_less
    ∙ found_skip (length body) (offset + 1) (body ++ rest) (omega (arith, length-append body rest))
    ∙ ap (found (offset + 1 + length body) 0) (drop-append_seam body rest)))
  where
    one_less : length (first ∷ body) - 1 ≡ length body
    one_less = omega arith

pub lexes_word : (word : List ℕ) (token : Token) → IsWord word → word_token word ≡ Ok token → Lexes word (token ∷ [])
lexes_word word token i w = record {
  finds = λ offset rest more stops h.
      let e : found offset 0 (word ++ rest) ≡ token_at offset token ∷ found (offset + 1 + length i.rest) 0 rest =
      ap (λ t. found offset 0 (t ++ rest)) i.whole
      ∙ word_found i.first i.rest rest token offset i.begins i.continues (ap word_token (sym i.whole) ∙ w) stops in
      subst (λ f. Only f (token ∷ more)) (sym e) (refl, h (offset + 1 + length i.rest));
}
