-- A phrase has as many events as its tokens count, and no more open brackets than they have.
use Rattle.std.proofs.Common.{◌≡◌, ◌≤◌, ◌+◌, ◌++◌, ◌||◌, ℕ, Bool, true, false, max, List, [], ◌∷◌, Option, Some, None, refl, ap, ◌∙◌, sym, append_assoc, arith, map, if◌then◌else◌}
use Rattle.phrase_tree.specs.declared.phrase.TheConstants.{EVENTS, BRACKETS}
use Rattle.phrase_tree.specs.declared.measurement.Arg.{Arg}
use Rattle.phrase_tree.specs.declared.measurement.Asp.{Asp}
use Rattle.phrase_tree.specs.Term.{Term, seq, par, is_branch, is_chain}
use Rattle.phrase_tree.specs.Numbering.{event_count, depth, IsSized}
use Rattle.phrase_reader.specs.declared.token.Leaf.{Leaf}
use Rattle.phrase_reader.specs.declared.token.Leaf.TheVariants.{Cpy, Sig, Hsh, Nul}
use Rattle.phrase_reader.specs.declared.token.Op.{Op}
use Rattle.phrase_reader.specs.declared.token.Token.{Token}
use Rattle.phrase_reader.specs.declared.token.Token.TheVariants as tokens
use Rattle.phrase_reader.specs.Grammar.{bare, measurement, measurement_tokens, name_token, joined, IsBranch, IsChain, IsUnit, alone, branches, single, links, leaves, measures, asks, brackets}
use Rattle.phrase_reader.specs.Refusal.{token_events, events_in, opened_in, closed_in}
use Rattle.phrase_reader.proofs.Counts.{events_joined, opened_joined, closed_joined}

-- arguments count nothing
args_count : (args : List Arg) → (events_in (map tokens.Value args) ≡ 0) × (opened_in (map tokens.Value args) ≡ 0) × (closed_in (map tokens.Value args) ≡ 0)
args_count [] = (refl, refl, refl)
args_count (arg ∷ rest) =
    let h = args_count rest in
    (omega arith, omega arith, omega arith)

-- what a part of a phrase adds to the counts of its tokens
pub record Counts (spelled : List Token) (events : ℕ) : Type 0 where
  pub counted : events_in spelled ≡ events
  pub balanced : opened_in spelled ≡ closed_in spelled

leaf_counts : (which : Leaf) → Counts (tokens.Leaf which ∷ []) (event_count (bare which))
leaf_counts Cpy = record { counted = refl; balanced = refl }
leaf_counts Sig = record { counted = refl; balanced = refl }
leaf_counts Hsh = record { counted = refl; balanced = refl }
leaf_counts Nul = record { counted = refl; balanced = refl }

measurement_counts : (target : Option (List ℕ)) (asp : Asp) → Counts (measurement_tokens target asp) (event_count (measurement target asp))
measurement_counts None asp =
    let h = args_count asp.args in
    record { counted = omega arith; balanced = omega arith }
measurement_counts (Some target) asp =
    let h = args_count asp.args in
    record { counted = omega arith; balanced = omega arith }

joined_counts : (op : Op) (left right : Term) → event_count (joined op left right) ≡ 2 + event_count left + event_count right
joined_counts op left right = by op.parallel
  where
    by : (b : Bool) → event_count (if b then par op.split left right else seq op.split left right) ≡ 2 + event_count left + event_count right
    by true = refl
    by false = refl

two_count : (ls rs : List Token) (token : Token) (m n k : ℕ) → Counts ls m → Counts rs n → opened_in (token ∷ []) ≡ 0 → closed_in (token ∷ []) ≡ 0 → k ≡ token_events token + (m + n) → Counts (ls ++ token ∷ rs) k
two_count ls rs token m n k l r o c e = record {
  counted = omega (arith, l.counted, r.counted, events_joined ls (token ∷ rs));
  balanced = omega (arith, l.balanced, r.balanced, opened_joined ls (token ∷ rs), closed_joined ls (token ∷ rs));
}

within_count : (within : List Token) (token : Token) (n : ℕ) → Counts within n → closed_in (token ∷ []) ≡ 1 → opened_in (token ∷ []) ≡ 0 → token_events token ≡ 0 → (events_in (within ++ token ∷ []) ≡ n) × (opened_in (within ++ token ∷ []) + 1 ≡ closed_in (within ++ token ∷ []))
within_count within token n w c o e = (
  omega (arith, w.counted, events_joined within (token ∷ [])),
  omega (arith, w.balanced, opened_joined within (token ∷ []), closed_joined within (token ∷ [])),
)

counts_at : (spelled other : List Token) (m n : ℕ) → spelled ≡ other → n ≡ m → Counts other m → Counts spelled n
counts_at spelled other m n e f c = record {
  counted = ap events_in e ∙ (c.counted ∙ sym f);
  balanced = ap opened_in e ∙ (c.balanced ∙ ap closed_in (sym e));
}

round_count : (within : List Token) (n : ℕ) → Counts within n → Counts (tokens.OpenRound ∷ (within ++ tokens.CloseRound ∷ [])) n
round_count within n w =
    let h = within_count within tokens.CloseRound n w refl refl refl in
    record { counted = omega arith; balanced = omega arith }

square_count : (place : List ℕ) (within : List Token) (n : ℕ) → Counts within n → Counts (tokens.At ∷ name_token place ∷ tokens.OpenSquare ∷ (within ++ tokens.CloseSquare ∷ [])) (2 + n)
square_count place within n w =
    let h = within_count within tokens.CloseSquare n w refl refl refl in
    record { counted = omega arith; balanced = omega arith }

mutual
  pub branch_counts : {spelled : List Token} {phrase : Term} → IsBranch spelled phrase → Counts spelled (event_count phrase)
  branch_counts (alone only) = chain_counts only
  branch_counts {spelled} {phrase} (branches ls rs l r op left right spells makes) =
      counts_at spelled (ls ++ tokens.Op op ∷ rs) (2 + event_count l + event_count r) (event_count phrase) spells
      (ap event_count makes ∙ joined_counts op l r)
      (two_count ls rs (tokens.Op op) (event_count l) (event_count r) (2 + event_count l + event_count r) (chain_counts left) (chain_counts right) refl refl (omega arith))

  pub chain_counts : {spelled : List Token} {phrase : Term} → IsChain spelled phrase → Counts spelled (event_count phrase)
  chain_counts (single unit) = unit_counts unit
  chain_counts {spelled} {phrase} (links ls rs l r left right spells makes) =
      counts_at spelled (ls ++ tokens.Arrow ∷ rs) (event_count l + event_count r) (event_count phrase) spells
      (ap event_count makes)
      (two_count ls rs tokens.Arrow (event_count l) (event_count r) (event_count l + event_count r) (chain_counts left) (unit_counts right) refl refl (omega arith))

  pub unit_counts : {spelled : List Token} {phrase : Term} → IsUnit spelled phrase → Counts spelled (event_count phrase)
  unit_counts {spelled} {phrase} (leaves which spells makes) =
      counts_at spelled (tokens.Leaf which ∷ []) (event_count (bare which)) (event_count phrase) spells (ap event_count makes) (leaf_counts which)
  unit_counts {spelled} {phrase} (measures target asp spells makes) =
      counts_at spelled (measurement_tokens target asp) (event_count (measurement target asp)) (event_count phrase) spells (ap event_count makes) (measurement_counts target asp)
  unit_counts {spelled} {phrase} (asks place within body branch spells makes) =
      counts_at spelled (tokens.At ∷ name_token place ∷ tokens.OpenSquare ∷ (within ++ tokens.CloseSquare ∷ [])) (2 + event_count body) (event_count phrase) spells (ap event_count makes) (square_count place within (event_count body) (branch_counts branch))
  unit_counts {spelled} {phrase} (brackets within branch spells) =
      counts_at spelled (tokens.OpenRound ∷ (within ++ tokens.CloseRound ∷ [])) (event_count phrase) (event_count phrase) spells refl (round_count within (event_count phrase) (branch_counts branch))

-- behind each front of the tokens at most so many brackets are open, with those that are open before them
abbrev pub Within : ℕ → ℕ → List Token → Type 0
Within limit base spelled =
    (front back : List Token) → spelled ≡ front ++ back → base + opened_in front ≤ limit + closed_in front

within_left : (limit base : ℕ) (spelled ls rest : List Token) → spelled ≡ ls ++ rest → Within limit base spelled → Within limit base ls
within_left limit base spelled ls rest e w front back f =
    w front (back ++ rest) (e ∙ (ap (λ l. l ++ rest) f ∙ append_assoc front back rest))

within_right : (limit base : ℕ) (spelled ls rs : List Token) (token : Token) → spelled ≡ ls ++ token ∷ rs → opened_in ls ≡ closed_in ls → opened_in (token ∷ []) ≡ 0 → closed_in (token ∷ []) ≡ 0 → Within limit base spelled → Within limit base rs
within_right limit base spelled ls rs token e b o c w front back f =
    let h = w (ls ++ token ∷ front) back (e ∙ (ap (λ l. ls ++ token ∷ l) f ∙ sym (append_assoc ls (token ∷ front) back))) in
    omega (arith, h, b, opened_joined ls (token ∷ front), closed_joined ls (token ∷ front))

within_round : (limit base : ℕ) (spelled within : List Token) → spelled ≡ tokens.OpenRound ∷ (within ++ tokens.CloseRound ∷ []) → Within limit base spelled → Within limit (base + 1) within
within_round limit base spelled within e w front back f =
    let h = w (tokens.OpenRound ∷ front) (back ++ tokens.CloseRound ∷ []) (e ∙ ap (λ l. tokens.OpenRound ∷ l) (ap (λ l. l ++ tokens.CloseRound ∷ []) f ∙ append_assoc front back (tokens.CloseRound ∷ []))) in
    omega (arith, h)

within_square : (limit base : ℕ) (spelled within : List Token) (place : List ℕ) → spelled ≡ tokens.At ∷ name_token place ∷ tokens.OpenSquare ∷ (within ++ tokens.CloseSquare ∷ []) → Within limit base spelled → Within limit (base + 1) within
within_square limit base spelled within place e w front back f =
    let h = w (tokens.At ∷ name_token place ∷ tokens.OpenSquare ∷ front) (back ++ tokens.CloseSquare ∷ []) (e ∙ ap (λ l. tokens.At ∷ name_token place ∷ tokens.OpenSquare ∷ l) (ap (λ l. l ++ tokens.CloseSquare ∷ []) f ∙ append_assoc front back (tokens.CloseSquare ∷ []))) in
    omega (arith, h)

within_base : (limit base : ℕ) (spelled : List Token) → Within limit base spelled → base ≤ limit
within_base limit base spelled w = let h = w [] spelled refl in omega (arith, h)

-- the depth of a phrase with the brackets that it wants as the right part of a chain, and as an arm
abbrev as_right : Term → ℕ
as_right phrase = depth phrase + (if is_branch phrase || is_chain phrase then 1 else 0)

abbrev as_arm : Term → ℕ
as_arm phrase = depth phrase + (if is_branch phrase then 1 else 0)

one_at_most : (b : Bool) → (if b then 1 else 0) ≤ 1
one_at_most true = omega arith
one_at_most false = omega arith

or_more : (b c : Bool) → (if b then 1 else 0) ≤ (if b || c then 1 else 0)
or_more true c = omega arith
or_more false true = omega arith
or_more false false = omega arith

leaf_depth : (which : Leaf) → as_right (bare which) ≡ 0
leaf_depth Cpy = refl
leaf_depth Sig = refl
leaf_depth Hsh = refl
leaf_depth Nul = refl

measurement_depth : (target : Option (List ℕ)) (asp : Asp) → as_right (measurement target asp) ≡ 0
measurement_depth None asp = refl
measurement_depth (Some target) asp = refl

joined_depth : (op : Op) (left right : Term) → depth (joined op left right) ≡ max (as_arm left) (as_arm right)
joined_depth op left right = by op.parallel
  where
    by : (b : Bool) → depth (if b then par op.split left right else seq op.split left right) ≡ max (as_arm left) (as_arm right)
    by true = refl
    by false = refl

mutual
  branch_depth : {spelled : List Token} {phrase : Term} → IsBranch spelled phrase → (limit base : ℕ) → Within limit base spelled → base + depth phrase ≤ limit
  branch_depth {spelled} {phrase} (alone only) limit base w = omega (arith, chain_depth only limit base w)
  branch_depth {spelled} {phrase} (branches ls rs l r op left right spells makes) limit base w =
      omega (
        arith,
        ap depth makes,
        joined_depth op l r,
        chain_depth left limit base (within_left limit base spelled ls (tokens.Op op ∷ rs) spells w),
        chain_depth right limit base (within_right limit base spelled ls rs (tokens.Op op) spells (chain_counts left).balanced refl refl w),
      )

  chain_depth : {spelled : List Token} {phrase : Term} → IsChain spelled phrase → (limit base : ℕ) → Within limit base spelled → base + as_arm phrase ≤ limit
  chain_depth {spelled} {phrase} (single unit) limit base w =
      omega (arith, unit_depth unit limit base w, or_more (is_branch phrase) (is_chain phrase))
  chain_depth {spelled} {phrase} (links ls rs l r left right spells makes) limit base w =
      omega (
        arith,
        ap as_arm makes,
        chain_depth left limit base (within_left limit base spelled ls (tokens.Arrow ∷ rs) spells w),
        unit_depth right limit base (within_right limit base spelled ls rs tokens.Arrow spells (chain_counts left).balanced refl refl w),
      )

  unit_depth : {spelled : List Token} {phrase : Term} → IsUnit spelled phrase → (limit base : ℕ) → Within limit base spelled → base + as_right phrase ≤ limit
  unit_depth {spelled} {phrase} (leaves which spells makes) limit base w =
      omega (arith, ap as_right makes, leaf_depth which, within_base limit base spelled w)
  unit_depth {spelled} {phrase} (measures target asp spells makes) limit base w =
      omega (arith, ap as_right makes, measurement_depth target asp, within_base limit base spelled w)
  unit_depth {spelled} {phrase} (asks place within body branch spells makes) limit base w =
      omega (arith, ap as_right makes, branch_depth branch limit (base + 1) (within_square limit base spelled within place spells w))
  unit_depth {spelled} {phrase} (brackets within branch spells) limit base w =
      omega (arith, branch_depth branch limit (base + 1) (within_round limit base spelled within spells w), one_at_most (is_branch phrase || is_chain phrase))

-- what few tokens with few open brackets spell is sized
pub spelled_sized : (spelled : List Token) (phrase : Term) → IsBranch spelled phrase → events_in spelled ≤ EVENTS → Within BRACKETS 0 spelled → IsSized phrase
spelled_sized spelled phrase b few w = record {
  events = omega (arith, (branch_counts b).counted);
  nesting = omega (arith, branch_depth b BRACKETS 0 w);
}
