-- The tokens of a canonical text keep the limits: no measurement has a fifth argument, and no more
-- brackets are open than the phrase is deep.
use Rattle.std.proofs.Common.{◌≡◌, ◌≤◌, ◌+◌, ◌-◌, ◌++◌, ◌||◌, ℕ, Bool, true, false, List, [], ◌∷◌, Option, Some, None, length, map, refl, sym, subst, append_assoc, arith, if◌then◌else◌}
use Rattle.std.proofs.lemmas.List.{append-nil}
use Rattle.phrase_tree.specs.declared.phrase.TheConstants.{BRACKETS}
use Rattle.phrase_tree.specs.declared.measurement.Arg.{Arg}
use Rattle.phrase_tree.specs.declared.measurement.Asp.{Asp}
use Rattle.phrase_tree.specs.Term.{Term, cpy, sig, hsh, nul, usm, kim, leaf, at, chain, seq, par, is_branch, is_chain}
use Rattle.phrase_tree.specs.Numbering.{depth}
use Rattle.phrase_reader.specs.declared.token.Token.{Token}
use Rattle.phrase_reader.specs.declared.token.Token.TheVariants as tokens
use Rattle.phrase_reader.specs.Grammar.{measurement_tokens}
use Rattle.phrase_reader.specs.Refusal.{opens, closes}
use Rattle.phrase_reader.specs.Canonical.{IsWritable}
use Rattle.phrase_reader.proofs.CanonicalTokens.{within, op_of, canonical_tokens}

-- how many more names and decimals may follow a token, where so many might before it
abbrev pub room_behind : ℕ → Token → ℕ
room_behind room (tokens.Value value) = room - 1
room_behind room tokens.Usm = 5
room_behind room tokens.Kim = 6
room_behind room tokens.At = 1
room_behind room _ = 0

abbrev pub HasRoom : ℕ → Token → Type 0
HasRoom room (tokens.Value value) = 1 ≤ room
HasRoom room _ = Unit {0}

-- how many brackets are open behind a token, where so many are before it
abbrev pub open_behind : ℕ → Token → ℕ
open_behind count tokens.OpenRound = count + 1
open_behind count tokens.OpenSquare = count + 1
open_behind count tokens.CloseRound = count - 1
open_behind count tokens.CloseSquare = count - 1
open_behind count _ = count

-- each token keeps the limits, behind so many open brackets and with so much room
abbrev pub Keeps : ℕ → ℕ → List Token → Type 0
Keeps count room [] = Unit {0}
Keeps count room (token ∷ rest) =
    HasRoom room token × (open_behind count token ≤ BRACKETS) × Keeps (open_behind count token) (room_behind room token) rest

-- more tokens keep the limits behind so many open brackets, whatever room there is
record Follows (count : ℕ) (rest : List Token) : Type 0 where
  keeps : (room : ℕ) → Keeps count room rest

follows_at : (count other : ℕ) (rest : List Token) → other ≡ count → Follows count rest → Follows other rest
follows_at count other rest e f = subst (λ n. Follows n rest) (sym e) f

args_keep : (args : List Arg) (count room : ℕ) (rest : List Token) → count ≤ BRACKETS → length args ≤ room → Follows count rest → Keeps count room (map tokens.Value args ++ rest)
args_keep [] count room rest low few f = f.keeps room
args_keep (arg ∷ more) count room rest low few f =
    (omega (arith, few), low, args_keep more count (room - 1) rest low (omega (arith, few)) f)

measurement_keeps : (target : Option (List ℕ)) (asp : Asp) (count room : ℕ) (rest : List Token) → length asp.args ≤ 4 → count ≤ BRACKETS → Follows count rest → Keeps count room (measurement_tokens target asp ++ rest)
measurement_keeps None asp count room rest few low f =
    (tt, low, (omega arith, low, args_keep asp.args count 4 rest low few f))
measurement_keeps (Some target) asp count room rest few low f =
    (tt, low, (omega arith, low, (omega arith, low, args_keep asp.args count 4 rest low few f)))

-- a part in the brackets that it wants
within_keeps : (wanted : Bool) (inner : List Token) (count room : ℕ) (rest : List Token) → count + (if wanted then 1 else 0) ≤ BRACKETS → Follows count rest → ((room : ℕ) (rest : List Token) → Follows (count + (if wanted then 1 else 0)) rest → Keeps (count + (if wanted then 1 else 0)) room (inner ++ rest)) → Keeps count room (within wanted inner ++ rest)
within_keeps true inner count room rest low f inside = (
  tt,
  low,
  subst (λ l. Keeps (count + 1) 0 l) (sym (append_assoc inner (tokens.CloseRound ∷ []) rest))
      (inside 0 (tokens.CloseRound ∷ rest) (record { keeps = λ m. (tt, omega (arith, low), (follows_at count (count + 1 - 1) rest (omega arith) f).keeps 0) })),
)
within_keeps false inner count room rest low f inside =
    subst (λ n. Keeps n room (inner ++ rest)) same (inside room rest (follows_at count (count + 0) rest same f))
  where
    same : count + 0 ≡ count
    same = omega arith

-- two parts with a token between them that is no name and no decimal, and no bracket
between_keeps : (left right : List Token) (token : Token) (count room : ℕ) (rest : List Token) → ((room : ℕ) → HasRoom room token) → open_behind count token ≡ count → count ≤ BRACKETS → ((room : ℕ) (rest : List Token) → Follows count rest → Keeps count room (left ++ rest)) → ((room : ℕ) → Keeps count room (right ++ rest)) → Keeps count room ((left ++ token ∷ right) ++ rest)
between_keeps left right token count room rest fits same low l r =
    subst (λ ts. Keeps count room ts) (sym (append_assoc left (token ∷ right) rest))
    (l room (token ∷ (right ++ rest)) (record { keeps = λ m. (fits m, subst (λ n. n ≤ BRACKETS) (sym same) low, subst (λ n. Keeps n (room_behind m token) (right ++ rest)) (sym same) (r (room_behind m token))) }))

phrase_keeps : (phrase : Term) → IsWritable phrase → (count room : ℕ) (rest : List Token) → count + depth phrase ≤ BRACKETS → Follows count rest → Keeps count room (canonical_tokens phrase ++ rest)
phrase_keeps (leaf cpy) h count room rest low f = (tt, omega (arith, low), f.keeps 0)
phrase_keeps (leaf sig) h count room rest low f = (tt, omega (arith, low), f.keeps 0)
phrase_keeps (leaf hsh) h count room rest low f = (tt, omega (arith, low), f.keeps 0)
phrase_keeps (leaf nul) h count room rest low f = (tt, omega (arith, low), f.keeps 0)
phrase_keeps (leaf (usm asp)) h count room rest low f = measurement_keeps None asp count room rest h.few (omega (arith, low)) f
phrase_keeps (leaf (kim target asp)) h count room rest low f = measurement_keeps (Some target) asp count room rest h.1.few (omega (arith, low)) f
phrase_keeps (at place body) h count room rest low f =
    let inside = phrase_keeps body h.1 (count + 1) 0 (tokens.CloseSquare ∷ rest) (omega (arith, low))
    (record { keeps = λ m. (tt, omega (arith, low), (follows_at count (count + 1 - 1) rest (omega arith) f).keeps 0) }) in
    let body_keeps : Keeps (count + 1) 0 ((canonical_tokens body ++ tokens.CloseSquare ∷ []) ++ rest) =
    subst (λ l. Keeps (count + 1) 0 l) (sym (append_assoc (canonical_tokens body) (tokens.CloseSquare ∷ []) rest)) inside in
    (tt, omega (arith, low), (omega arith, omega (arith, low), (tt, omega (arith, low), body_keeps)))
phrase_keeps (chain left right) h count room rest low f =
    let one = is_branch left in
    let two = is_branch right || is_chain right in
    between_keeps (within one (canonical_tokens left)) (within two (canonical_tokens right)) tokens.Arrow count room rest (λ m. tt) refl (omega (arith, low))
    (λ m after g. within_keeps one (canonical_tokens left) count m after (omega (arith, low)) g
    (λ n more k. phrase_keeps left h.0 (count + (if one then 1 else 0)) n more (omega (arith, low)) k))
    (λ m. within_keeps two (canonical_tokens right) count m rest (omega (arith, low)) f
    (λ n more k. phrase_keeps right h.1 (count + (if two then 1 else 0)) n more (omega (arith, low)) k))
phrase_keeps (seq split left right) h count room rest low f =
    let one = is_branch left in
    let two = is_branch right in
    between_keeps (within one (canonical_tokens left)) (within two (canonical_tokens right)) (tokens.Op (op_of false split)) count room rest (λ m. tt) refl (omega (arith, low))
    (λ m after g. within_keeps one (canonical_tokens left) count m after (omega (arith, low)) g
    (λ n more k. phrase_keeps left h.0 (count + (if one then 1 else 0)) n more (omega (arith, low)) k))
    (λ m. within_keeps two (canonical_tokens right) count m rest (omega (arith, low)) f
    (λ n more k. phrase_keeps right h.1 (count + (if two then 1 else 0)) n more (omega (arith, low)) k))
phrase_keeps (par split left right) h count room rest low f =
    let one = is_branch left in
    let two = is_branch right in
    between_keeps (within one (canonical_tokens left)) (within two (canonical_tokens right)) (tokens.Op (op_of true split)) count room rest (λ m. tt) refl (omega (arith, low))
    (λ m after g. within_keeps one (canonical_tokens left) count m after (omega (arith, low)) g
    (λ n more k. phrase_keeps left h.0 (count + (if one then 1 else 0)) n more (omega (arith, low)) k))
    (λ m. within_keeps two (canonical_tokens right) count m rest (omega (arith, low)) f
    (λ n more k. phrase_keeps right h.1 (count + (if two then 1 else 0)) n more (omega (arith, low)) k))

pub keeps : (phrase : Term) → IsWritable phrase → depth phrase ≤ BRACKETS → Keeps 0 0 (canonical_tokens phrase)
keeps phrase h low =
    subst (λ l. Keeps 0 0 l) (append-nil (canonical_tokens phrase)) (phrase_keeps phrase h 0 0 [] (omega (arith, low)) (record { keeps = λ m. tt }))

-- the room behind tokens
abbrev pub room_in : ℕ → List Token → ℕ
room_in room [] = room
room_in room (token ∷ rest) = room_in (room_behind room token) rest

pub room_joined : (room : ℕ) (front back : List Token) → room_in room (front ++ back) ≡ room_in (room_in room front) back
room_joined room [] back = refl
room_joined room (token ∷ front) back = room_joined (room_behind room token) front back

args_room : (room : ℕ) (args : List Arg) → room_in room (map tokens.Value args) ≡ room - length args
args_room room [] = omega arith
args_room room (arg ∷ rest) = omega (arith, args_room (room - 1) rest)

measurement_room : (room : ℕ) (target : Option (List ℕ)) (asp : Asp) → room_in room (measurement_tokens target asp) ≡ 4 - length asp.args
measurement_room room None asp = args_room 4 asp.args
measurement_room room (Some target) asp = args_room 4 asp.args

-- a measurement with four arguments has room for no more
pub no_room : (room : ℕ) (front : List Token) (target : Option (List ℕ)) (asp : Asp) → 4 ≤ length asp.args → room_in room (front ++ measurement_tokens target asp) ≡ 0
no_room room front target asp full =
    omega (arith, full, room_joined room front (measurement_tokens target asp), measurement_room (room_in room front) target asp)

pub opened_behind : (count : ℕ) (token : Token) → count + opens token ≤ open_behind count token + closes token
opened_behind count (tokens.Leaf which) = omega arith
opened_behind count tokens.Usm = omega arith
opened_behind count tokens.Kim = omega arith
opened_behind count tokens.At = omega arith
opened_behind count tokens.OpenRound = omega arith
opened_behind count tokens.CloseRound = omega arith
opened_behind count tokens.OpenSquare = omega arith
opened_behind count tokens.CloseSquare = omega arith
opened_behind count tokens.Arrow = omega arith
opened_behind count (tokens.Op op) = omega arith
opened_behind count (tokens.Value value) = omega arith
