-- The tokens of a canonical text: which they are, and that they spell the phrase.
use Rattle.std.proofs.Common.{◌≡◌, ◌++◌, ◌||◌, ℕ, Bool, true, false, List, [], ◌∷◌, Some, None, map, refl, ap, ◌∙◌, sym, subst, if◌then◌else◌, codes}
use Rattle.phrase_tree.specs.declared.measurement.Arg.{Arg}
use Rattle.phrase_tree.specs.declared.measurement.Arg.TheVariants.{Word, Number}
use Rattle.phrase_tree.specs.declared.measurement.Asp.{Asp}
use Rattle.phrase_tree.specs.declared.phrase.Split.{Split}
use Rattle.phrase_tree.specs.Name.{IsName}
use Rattle.phrase_tree.specs.Term.{Term, cpy, sig, hsh, nul, usm, kim, leaf, at, chain, seq, par, is_branch, is_chain}
use Rattle.phrase_reader.specs.declared.token.Leaf.TheVariants.{Cpy, Sig, Hsh, Nul}
use Rattle.phrase_reader.specs.declared.token.Op.{Op}
use Rattle.phrase_reader.specs.declared.token.Token.{Token}
use Rattle.phrase_reader.specs.declared.token.Token.TheVariants as tokens
use Rattle.phrase_reader.specs.Grammar.{measurement_tokens, asp_tokens, name_token, IsBranch, IsChain, IsUnit, alone, branches, single, links, leaves, measures, asks, brackets}
use Rattle.phrase_tree.specs.Text.{arg_text, args_text, asp_text, IsArg, AreArgs, IsAsp}
use Rattle.phrase_reader.specs.Canonical.{op_text, enclosed, canonical, IsWritable}
use Rattle.phrase_reader.proofs.WordTokens.{name_word, name_is_token, decimal_word, decimal_is_token}
use Rattle.phrase_reader.proofs.Pieces.{Lexes, Stops, lexes_none, lexes_joined, lexes_blank, lexes_open_round, lexes_close_round, lexes_open_square, lexes_close_square, lexes_at, lexes_arrow, lexes_op, lexes_word}

-- the tokens of a part, in round brackets where it wants them
abbrev pub within : Bool → List Token → List Token
within wanted inner = if wanted then tokens.OpenRound ∷ (inner ++ tokens.CloseRound ∷ []) else inner

abbrev pub op_of : Bool → Split → Op
op_of parallel split = record { parallel = parallel; split = split }

abbrev pub canonical_tokens : Term → List Token
canonical_tokens (leaf cpy) = tokens.Leaf Cpy ∷ []
canonical_tokens (leaf sig) = tokens.Leaf Sig ∷ []
canonical_tokens (leaf hsh) = tokens.Leaf Hsh ∷ []
canonical_tokens (leaf nul) = tokens.Leaf Nul ∷ []
canonical_tokens (leaf (usm asp)) = measurement_tokens None asp
canonical_tokens (leaf (kim target asp)) = measurement_tokens (Some target) asp
canonical_tokens (at place body) = tokens.At ∷ name_token place ∷ tokens.OpenSquare ∷ (canonical_tokens body ++ tokens.CloseSquare ∷ [])
canonical_tokens (chain left right) =
    within (is_branch left) (canonical_tokens left) ++ tokens.Arrow ∷ within (is_branch right || is_chain right) (canonical_tokens right)
canonical_tokens (seq split left right) =
    within (is_branch left) (canonical_tokens left) ++ tokens.Op (op_of false split) ∷ within (is_branch right) (canonical_tokens right)
canonical_tokens (par split left right) =
    within (is_branch left) (canonical_tokens left) ++ tokens.Op (op_of true split) ∷ within (is_branch right) (canonical_tokens right)

-- the tokens spell the phrase, as a branch, as a chain and as a unit in the brackets that it wants there
pub record Spelled (spelled : List Token) (phrase : Term) : Type 0 where
  pub branch : IsBranch spelled phrase
  pub arm : IsChain (within (is_branch phrase) spelled) phrase
  pub part : IsUnit (within (is_branch phrase || is_chain phrase) spelled) phrase

unit_spelled : (spelled : List Token) (phrase : Term) → is_branch phrase ≡ false → is_chain phrase ≡ false → IsUnit spelled phrase → Spelled spelled phrase
unit_spelled spelled phrase b c u = record {
  branch = alone (single u);
  arm = subst (λ w. IsChain (within w spelled) phrase) (sym b) (single u);
  part = subst (λ w. IsUnit (within w spelled) phrase) (sym (ap (λ w. w || is_chain phrase) b ∙ c)) u;
}

branch_spelled : (spelled : List Token) (phrase : Term) → is_branch phrase ≡ true → IsBranch spelled phrase → Spelled spelled phrase
branch_spelled spelled phrase b d =
    let u : IsUnit (tokens.OpenRound ∷ (spelled ++ tokens.CloseRound ∷ [])) phrase = brackets spelled d refl in
    record {
      branch = d;
      arm = subst (λ w. IsChain (within w spelled) phrase) (sym b) (single u);
      part = subst (λ w. IsUnit (within w spelled) phrase) (sym (ap (λ w. w || is_chain phrase) b)) u;
    }

chain_spelled : (spelled : List Token) (left right : Term) → IsChain spelled (chain left right) → Spelled spelled (chain left right)
chain_spelled spelled left right c = record {
  branch = alone c;
  arm = c;
  part = brackets spelled (alone c) refl;
}

pub spelled : (phrase : Term) → Spelled (canonical_tokens phrase) phrase
spelled (leaf cpy) = unit_spelled (canonical_tokens (leaf cpy)) (leaf cpy) refl refl (leaves Cpy refl refl)
spelled (leaf sig) = unit_spelled (canonical_tokens (leaf sig)) (leaf sig) refl refl (leaves Sig refl refl)
spelled (leaf hsh) = unit_spelled (canonical_tokens (leaf hsh)) (leaf hsh) refl refl (leaves Hsh refl refl)
spelled (leaf nul) = unit_spelled (canonical_tokens (leaf nul)) (leaf nul) refl refl (leaves Nul refl refl)
spelled (leaf (usm asp)) = unit_spelled (canonical_tokens (leaf (usm asp))) (leaf (usm asp)) refl refl (measures None asp refl refl)
spelled (leaf (kim target asp)) = unit_spelled (canonical_tokens (leaf (kim target asp))) (leaf (kim target asp)) refl refl (measures (Some target) asp refl refl)
spelled (at place body) =
    unit_spelled (canonical_tokens (at place body)) (at place body) refl refl (asks place (canonical_tokens body) body (spelled body).branch refl refl)
spelled (chain left right) =
    chain_spelled (canonical_tokens (chain left right)) left right
    (links (within (is_branch left) (canonical_tokens left)) (within (is_branch right || is_chain right) (canonical_tokens right)) left right (spelled left).arm (spelled right).part refl refl)
spelled (seq split left right) =
    branch_spelled (canonical_tokens (seq split left right)) (seq split left right) refl
    (branches (within (is_branch left) (canonical_tokens left)) (within (is_branch right) (canonical_tokens right)) left right (op_of false split) (spelled left).arm (spelled right).arm refl refl)
spelled (par split left right) =
    branch_spelled (canonical_tokens (par split left right)) (par split left right) refl
    (branches (within (is_branch left) (canonical_tokens left)) (within (is_branch right) (canonical_tokens right)) left right (op_of true split) (spelled left).arm (spelled right).arm refl refl)

-- the text of a phrase is spelled by its tokens
arg_lexes : (arg : Arg) → IsArg arg → Lexes (arg_text arg) (tokens.Value arg ∷ [])
arg_lexes (Word name) h = lexes_word name (tokens.Value (Word name)) (name_word name h) (name_is_token name h)
arg_lexes (Number number) h = lexes_word _ (tokens.Value (Number number)) (decimal_word number h) (decimal_is_token number h)

args_stop : (args : List Arg) → Stops (args_text args)
args_stop [] = tt
args_stop (arg ∷ rest) = refl

args_lex : (args : List Arg) → AreArgs args → Lexes (args_text args) (map tokens.Value args)
args_lex [] h = lexes_none
args_lex (arg ∷ rest) h =
    lexes_blank (arg_text arg ++ args_text rest) (tokens.Value arg ∷ map tokens.Value rest)
    (lexes_joined (arg_text arg) (args_text rest) (tokens.Value arg ∷ []) (map tokens.Value rest) (arg_lexes arg h.0) (args_lex rest h.1) (args_stop rest))

name_lexes : (name : List ℕ) → IsName name → Lexes name (name_token name ∷ [])
name_lexes name h = lexes_word name (name_token name) (name_word name h) (name_is_token name h)

asp_lexes : (asp : Asp) → IsAsp asp → Lexes (asp_text asp) (asp_tokens asp)
asp_lexes asp h =
    lexes_joined asp.name (args_text asp.args) (name_token asp.name ∷ []) (map tokens.Value asp.args) (name_lexes asp.name h.named) (args_lex asp.args h.args) (args_stop asp.args)

enclosed_lexes : (wanted : Bool) (text : List ℕ) (inner : List Token) → Lexes text inner → Lexes (enclosed wanted text) (within wanted inner)
enclosed_lexes true text inner l =
    lexes_open_round (text ++ 41 ∷ []) (inner ++ tokens.CloseRound ∷ [])
    (lexes_joined text (41 ∷ []) inner (tokens.CloseRound ∷ []) l (lexes_close_round [] [] lexes_none) refl)
enclosed_lexes false text inner l = l

branch_lexes : (parallel : Bool) (split : Split) (left right : List ℕ) (front back : List Token) → Lexes left front → Lexes right back → Lexes (left ++ (32 ∷ (op_text parallel split ++ 32 ∷ right))) (front ++ tokens.Op (op_of parallel split) ∷ back)
branch_lexes parallel split left right front back l r =
    lexes_joined left (32 ∷ (op_text parallel split ++ 32 ∷ right)) front (tokens.Op (op_of parallel split) ∷ back) l
    (lexes_blank (op_text parallel split ++ 32 ∷ right) (tokens.Op (op_of parallel split) ∷ back)
    (lexes_op parallel split (32 ∷ right) back (lexes_blank right back r)))
    refl

pub phrase_lexes : (phrase : Term) → IsWritable phrase → Lexes (canonical phrase) (canonical_tokens phrase)
phrase_lexes (leaf cpy) h = lexes_word (codes "CPY") (tokens.Leaf Cpy) (record { first = 67; rest = codes "PY"; whole = refl; begins = refl; continues = refl }) refl
phrase_lexes (leaf sig) h = lexes_word (codes "SIG") (tokens.Leaf Sig) (record { first = 83; rest = codes "IG"; whole = refl; begins = refl; continues = refl }) refl
phrase_lexes (leaf hsh) h = lexes_word (codes "HSH") (tokens.Leaf Hsh) (record { first = 72; rest = codes "SH"; whole = refl; begins = refl; continues = refl }) refl
phrase_lexes (leaf nul) h = lexes_word (codes "NUL") (tokens.Leaf Nul) (record { first = 78; rest = codes "UL"; whole = refl; begins = refl; continues = refl }) refl
phrase_lexes (leaf (usm asp)) h =
    lexes_joined (codes "USM") (32 ∷ asp_text asp) (tokens.Usm ∷ []) (asp_tokens asp)
    (lexes_word (codes "USM") tokens.Usm (record { first = 85; rest = codes "SM"; whole = refl; begins = refl; continues = refl }) refl)
    (lexes_blank (asp_text asp) (asp_tokens asp) (asp_lexes asp h))
    refl
phrase_lexes (leaf (kim target asp)) h =
    lexes_joined (codes "KIM") (32 ∷ (target ++ 32 ∷ asp_text asp)) (tokens.Kim ∷ []) (name_token target ∷ asp_tokens asp)
    (lexes_word (codes "KIM") tokens.Kim (record { first = 75; rest = codes "IM"; whole = refl; begins = refl; continues = refl }) refl)
    (lexes_blank (target ++ 32 ∷ asp_text asp) (name_token target ∷ asp_tokens asp)
    (lexes_joined target (32 ∷ asp_text asp) (name_token target ∷ []) (asp_tokens asp) (name_lexes target h.0) (lexes_blank (asp_text asp) (asp_tokens asp) (asp_lexes asp h.1)) refl))
    refl
phrase_lexes (at place body) h =
    let inner = canonical_tokens body ++ tokens.CloseSquare ∷ [] in
    let text = canonical body ++ 93 ∷ [] in
    lexes_at (place ++ 32 ∷ 91 ∷ text) (name_token place ∷ tokens.OpenSquare ∷ inner)
    (lexes_joined place (32 ∷ 91 ∷ text) (name_token place ∷ []) (tokens.OpenSquare ∷ inner) (name_lexes place h.0)
    (lexes_blank (91 ∷ text) (tokens.OpenSquare ∷ inner) (lexes_open_square text inner
    (lexes_joined (canonical body) (93 ∷ []) (canonical_tokens body) (tokens.CloseSquare ∷ []) (phrase_lexes body h.1) (lexes_close_square [] [] lexes_none) refl)))
    refl)
phrase_lexes (chain left right) h =
    let front = within (is_branch left) (canonical_tokens left) in
    let back = within (is_branch right || is_chain right) (canonical_tokens right) in
    let text = enclosed (is_branch right || is_chain right) (canonical right) in
    lexes_joined (enclosed (is_branch left) (canonical left)) (codes " -> " ++ text) front (tokens.Arrow ∷ back)
    (enclosed_lexes (is_branch left) (canonical left) (canonical_tokens left) (phrase_lexes left h.0))
    (lexes_blank (45 ∷ 62 ∷ 32 ∷ text) (tokens.Arrow ∷ back) (lexes_arrow (32 ∷ text) back (lexes_blank text back
    (enclosed_lexes (is_branch right || is_chain right) (canonical right) (canonical_tokens right) (phrase_lexes right h.1)))))
    refl
phrase_lexes (seq split left right) h =
    branch_lexes false split (enclosed (is_branch left) (canonical left)) (enclosed (is_branch right) (canonical right)) (within (is_branch left) (canonical_tokens left)) (within (is_branch right) (canonical_tokens right))
    (enclosed_lexes (is_branch left) (canonical left) (canonical_tokens left) (phrase_lexes left h.0))
    (enclosed_lexes (is_branch right) (canonical right) (canonical_tokens right) (phrase_lexes right h.1))
phrase_lexes (par split left right) h =
    branch_lexes true split (enclosed (is_branch left) (canonical left)) (enclosed (is_branch right) (canonical right)) (within (is_branch left) (canonical_tokens left)) (within (is_branch right) (canonical_tokens right))
    (enclosed_lexes (is_branch left) (canonical left) (canonical_tokens left) (phrase_lexes left h.0))
    (enclosed_lexes (is_branch right) (canonical right) (canonical_tokens right) (phrase_lexes right h.1))
