-- The block of a name, found by the order of the names.
use Rattle.std.proofs.Common.{◌≡◌, ◌+◌, ◌≤◌, ◌<◌, ◌∙◌, Bool, true, false, cond, eqb, ℕ, zero, suc, List, [], ◌∷◌, length, drop, slice_index_or, refl, ap, sym, subst, ⊎_elim, arith}
use Rattle.std.proofs.lemmas.Bool.{false≢true, cases_lt}
use Rattle.std.proofs.Math.Nat.{eq-or-lt_of_le}
use Rattle.std.proofs.lemmas.Bool.Decides.{nat_tests}
use Rattle.avm_code.specs.declared.instr.BlockName.{BlockName}
use Rattle.avm_code.specs.declared.instr.BlockName.TheVariants.{Root, Of}
use Rattle.avm_code.specs.declared.program.Block.{Block}
use Rattle.avm_code.specs.Blocks.{is_named, blocks_named, first_place}
use Rattle.avm_code.specs.Order.{IsWithin, number_after, NamesRise, RootComesFirst, IsInOrder, HasBlock, IsAt, first_code}

-- the rank of the name at an index
abbrev pub rank_at : List Block → ℕ → ℕ
rank_at [] k = 0
rank_at (one ∷ rest) zero = number_after one.name
rank_at (one ∷ rest) (suc k) = rank_at rest k

pub rank_at-index : (blocks : List Block) (k : ℕ) (other : Block) → k < length blocks → number_after (slice_index_or blocks k other).name ≡ rank_at blocks k
rank_at-index [] k other h = absurd (omega arith)
rank_at-index (one ∷ rest) zero other h = refl
rank_at-index (one ∷ rest) (suc k) other h = rank_at-index rest k other (omega arith)

after_first : (first end : ℕ) (name : BlockName) → IsWithin first end name → first < number_after name
after_first first end Root h = absurd h
after_first first end (Of number) h = omega arith

above : (first end : ℕ) (blocks : List Block) (k : ℕ) → NamesRise first end blocks → k < length blocks → first < rank_at blocks k
above first end [] k rise h = absurd (omega arith)
above first end (one ∷ rest) zero rise h = after_first first end one.name rise.0
above first end (one ∷ rest) (suc k) rise h =
    let here : first < number_after one.name = after_first first end one.name rise.0 in
    let there : number_after one.name < rank_at rest k = above (number_after one.name) end rest k rise.1 (omega arith) in
    omega arith

rising_rest : (first end : ℕ) (blocks : List Block) (i j : ℕ) → NamesRise first end blocks → i < j → j < length blocks → rank_at blocks i < rank_at blocks j
rising_rest first end [] i j rise h within = absurd (omega arith)
rising_rest first end (one ∷ rest) i zero rise h within = absurd (omega arith)
rising_rest first end (one ∷ rest) zero (suc j) rise h within = above (number_after one.name) end rest j rise.1 (omega arith)
rising_rest first end (one ∷ rest) (suc i) (suc j) rise h within = rising_rest (number_after one.name) end rest i j rise.1 (omega arith) (omega arith)

root_rank : (name : BlockName) → name ≡ Root → number_after name ≡ 0
root_rank name e = ap number_after e

rising_all : (place : List ℕ) (end : ℕ) (blocks : List Block) (i j : ℕ) → RootComesFirst blocks place end → i < j → j < length blocks → rank_at blocks i < rank_at blocks j
rising_all place end [] i j order h within = absurd order
rising_all place end (one ∷ rest) i zero order h within = absurd (omega arith)
rising_all place end (one ∷ rest) zero (suc j) order h within =
    let root : number_after one.name ≡ 0 = root_rank one.name order.0 in
    let there : 0 < rank_at rest j = above 0 end rest j order.2 (omega arith) in
    omega arith
rising_all place end (one ∷ rest) (suc i) (suc j) order h within = rising_rest 0 end rest i j order.2 (omega arith) (omega arith)

pub rising : (blocks : List Block) → IsInOrder blocks → (i j : ℕ) → i < j → j < length blocks → rank_at blocks i < rank_at blocks j
rising blocks order i j h within = rising_all order.place order.end blocks i j order.order h within

-- ---- names and numbers

-- of two numbers the one is at most the other, where it isn't above it
by_cases : (a b : ℕ) → (a < b → b ≤ a) → b ≤ a
by_cases a b h = ⊎_elim h (λ (l : b ≤ a). l) (cases_lt a b)

apart : (a b : ℕ) → (a ≡ b → ⊥) → eqb a b ≡ false
apart a b h = grind (arith, nat_tests)

alike : (a b : ℕ) → a ≡ b → eqb a b ≡ true
alike a b h = grind (arith, nat_tests)

same_number : (a b : ℕ) → eqb a b ≡ true → a ≡ b
same_number a b h = grind (arith, nat_tests)

is_named_at : (n : ℕ) (name : BlockName) → number_after name ≡ n + 1 → is_named n name ≡ true
is_named_at n Root h = absurd (omega arith)
is_named_at n (Of m) h = alike m n (omega arith)

is_named_below : (n : ℕ) (name : BlockName) → number_after name < n + 1 → is_named n name ≡ false
is_named_below n Root h = refl
is_named_below n (Of m) h = apart m n (λ e. omega arith)

name_of_rank : (n : ℕ) (name : BlockName) → number_after name ≡ n + 1 → name ≡ Of n
name_of_rank n Root h = absurd (omega arith)
name_of_rank n (Of m) h = ap Of (let e : m ≡ n = omega arith in e)

name_of_none : (name : BlockName) → number_after name ≡ 0 → name ≡ Root
name_of_none Root h = refl
name_of_none (Of m) h = absurd (omega arith)

rank_of_named : (n : ℕ) (name : BlockName) → is_named n name ≡ true → number_after name ≡ n + 1
rank_of_named n Root h = absurd (false≢true h)
rank_of_named n (Of m) h = ap (λ (k : ℕ). k + 1) (same_number m n h)

-- ---- the first block of a number

-- the first block of the number stands behind those of lower rank
pub record IsFirst (n : ℕ) (blocks : List Block) (low : ℕ) : Type 0 where
  pub within : low < length blocks
  pub ranked : rank_at blocks low ≡ n + 1
  pub below : (k : ℕ) → k < low → rank_at blocks k < n + 1

first_named : (n : ℕ) (blocks : List Block) (low : ℕ) (other : Block) → IsFirst n blocks low → blocks_named n blocks ≡ slice_index_or blocks low other ∷ blocks_named n (drop (suc low) blocks)
first_named n [] low other first = absurd (let h = first.within in omega arith)
first_named n (one ∷ rest) zero other first =
    ap (λ b. cond b (one ∷ blocks_named n rest) (blocks_named n rest)) (is_named_at n one.name first.ranked)
first_named n (one ∷ rest) (suc low) other first =
    ap (λ b. cond b (one ∷ blocks_named n rest) (blocks_named n rest)) (is_named_below n one.name (first.below 0 (omega arith)))
    ∙ first_named n rest low other (record { within = let h = first.within in omega arith; ranked = first.ranked; below = λ k h. first.below (suc k) (omega arith) })

-- a block of the number is somewhere
somewhere_by : (n : ℕ) (one : Block) (rest : List Block) (b : Bool) → is_named n one.name ≡ b → (first : Block) (others : List Block) → cond b (one ∷ blocks_named n rest) (blocks_named n rest) ≡ first ∷ others
    → ((first : Block) (others : List Block) → blocks_named n rest ≡ first ∷ others → (j : ℕ) × (j < length rest) × (rank_at rest j ≡ n + 1))
    → (j : ℕ) × (j < length (one ∷ rest)) × (rank_at (one ∷ rest) j ≡ n + 1)
somewhere_by n one rest true e first others h behind = (0, omega arith, rank_of_named n one.name e)
somewhere_by n one rest false e first others h behind =
    let found = behind first others h in
    let w = found.1 in
    (suc found.0, omega arith, found.2)

somewhere : (n : ℕ) (blocks : List Block) (first : Block) (others : List Block) → blocks_named n blocks ≡ first ∷ others → (j : ℕ) × (j < length blocks) × (rank_at blocks j ≡ n + 1)
somewhere n [] first others h = absurd (cc)
somewhere n (one ∷ rest) first others h =
    somewhere_by n one rest (is_named n one.name) refl first others h (λ f o e. somewhere n rest f o e)

-- ---- halving

-- all blocks ahead of `low` come before the name, and those from `high` on don't
pub record Narrows (blocks : List Block) (name : BlockName) (low high : ℕ) : Type 0 where
  pub ordered : low ≤ high
  pub within : high ≤ length blocks
  pub below : (k : ℕ) → k < low → rank_at blocks k < number_after name
  pub behind : (k : ℕ) → high ≤ k → k < length blocks → number_after name ≤ rank_at blocks k

pub Narrows-begun : (blocks : List Block) (name : BlockName) → Narrows blocks name 0 (length blocks)
Narrows-begun blocks name = record { ordered = omega arith; within = omega arith; below = λ k h. absurd (omega arith); behind = λ k h w. absurd (omega arith) }

at_most : (blocks : List Block) → IsInOrder blocks → (i j : ℕ) → i ≤ j → j < length blocks → rank_at blocks i ≤ rank_at blocks j
at_most blocks order i j le within =
    ⊎_elim (λ (e : i ≡ j). let s : rank_at blocks i ≡ rank_at blocks j = ap (rank_at blocks) e in omega arith) (λ (l : i < j). let s : rank_at blocks i < rank_at blocks j = rising blocks order i j l within in omega arith) (eq-or-lt_of_le le)

pub Narrows-up : (blocks : List Block) (name : BlockName) (low high middle : ℕ) → IsInOrder blocks → Narrows blocks name low high → middle < high → rank_at blocks middle < number_after name → Narrows blocks name (middle + 1) high
Narrows-up blocks name low high middle order n under less =
    let within : high ≤ length blocks = n.within in
    record {
      ordered = omega arith;
      within = n.within;
      below = λ k h. let s : rank_at blocks k ≤ rank_at blocks middle = at_most blocks order k middle (omega arith) (omega arith) in omega arith;
      behind = n.behind;
    }

pub Narrows-down : (blocks : List Block) (name : BlockName) (low high middle : ℕ) → IsInOrder blocks → Narrows blocks name low high → low ≤ middle → middle < high → number_after name ≤ rank_at blocks middle → Narrows blocks name low middle
Narrows-down blocks name low high middle order n over under more =
    let within : high ≤ length blocks = n.within in
    record {
      ordered = over;
      within = omega arith;
      below = n.below;
      behind = λ k h w. let s : rank_at blocks middle ≤ rank_at blocks k = at_most blocks order middle k h w in omega arith;
    }

-- ---- where halving ends

at_root : (blocks : List Block) (low : ℕ) → IsInOrder blocks → Narrows blocks Root low low → low ≡ 0
at_root blocks zero order parts = refl
at_root blocks (suc low) order parts = absurd (let h : rank_at blocks 0 < 0 = parts.below 0 (omega arith) in omega arith)

root_is_first : (place : List ℕ) (end : ℕ) (blocks : List Block) → RootComesFirst blocks place end → IsAt blocks Root 0
root_is_first place end [] order = absurd order
root_is_first place end (one ∷ rest) order = record { within = omega arith; named = λ other. order.0; place = λ other. refl; code = λ other. refl }

at_number : (n : ℕ) (blocks : List Block) (low : ℕ) → IsInOrder blocks → HasBlock blocks (Of n) → Narrows blocks (Of n) low low → IsFirst n blocks low
at_number n blocks low order has parts =
    let found = somewhere n blocks has.one has.others has.there in
    let j : ℕ = found.0 in
    let within : j < length blocks = found.1 in
    let ranked : rank_at blocks j ≡ n + 1 = found.2 in
    let not_ahead : low ≤ j = by_cases j low (λ h. absurd (let l : rank_at blocks j < n + 1 = parts.below j h in omega arith)) in
    let not_behind : j ≤ low = by_cases low j (λ h.
    absurd (let l : rank_at blocks low < rank_at blocks j = rising blocks order low j h within in
    let m : n + 1 ≤ rank_at blocks low = parts.behind low (omega arith) (omega arith) in omega arith)) in
    let here : j ≡ low = omega arith in
    record { within = omega arith; ranked = subst (λ (k : ℕ). rank_at blocks k ≡ n + 1) here ranked; below = parts.below }

pub IsAt-found : (blocks : List Block) (name : BlockName) (low : ℕ) → IsInOrder blocks → HasBlock blocks name → Narrows blocks name low low → IsAt blocks name low
IsAt-found blocks Root low order has parts =
    subst (λ (k : ℕ). IsAt blocks Root k) (sym (at_root blocks low order parts)) (root_is_first order.place order.end blocks order.order)
IsAt-found blocks (Of n) low order has parts =
    let first : IsFirst n blocks low = at_number n blocks low order has parts in
    record {
      within = first.within;
      named = λ other. name_of_rank n (slice_index_or blocks low other).name (rank_at-index blocks low other first.within ∙ first.ranked);
      place = λ other. sym (ap first_place (first_named n blocks low other first));
      code = λ other. sym (ap first_code (first_named n blocks low other first));
    }
