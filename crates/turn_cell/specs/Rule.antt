-- The rule of the table, in seven parts. The table has one word, one slot, and what each seat knows (its view).
-- It says how these stand to the cell's history, to the number of takings so far, and to whose turn it is.
use Rattle.std.specs.Prelude.{◌≡◌, ◌≢◌, ℕ, suc, ◌+◌, ◌-◌, ◌*◌, ◌<◌, ◌≤◌, ◌==◌, Bool, true, false, List, [], ◌∷◌, length, Option, Some}
use mathlib.Core.Option.{none, some}
use mathlib.Core.Option as maybe
use lib.ListN.{get_elem?}
use Rattle.atomic_table.specs.Table.{State}
use Rattle.turn_cell.specs.declared.chronicle.Entry.{Entry}
use Rattle.turn_cell.specs.declared.pass.Known.{Known}
use Rattle.turn_cell.specs.History.{IsOpening, made_by, Continues}

-- whose turn it is: nobody's; nobody's any more; that of the pass with this number
pub data Turn : Type 0 where
  free : Turn
  worn_out : Turn
  held : ℕ → Turn

-- the number of the last taking
abbrev pub last_number : ℕ
last_number = 9223372036854775808

-- the number of a taking
abbrev pub IsTaking : ℕ → Type 0
IsTaking taking = (0 < taking) × (taking ≤ last_number)

-- the word after this many takings
abbrev pub word_of : ℕ → Turn → ℕ
word_of takings free = 2 * takings
word_of takings worn_out = 2 * takings - 1
word_of takings (held number) = 2 * takings - 1

-- how many takings there may have been
abbrev pub InRange : ℕ → Turn → Type 0
InRange takings free = takings < last_number
InRange takings worn_out = takings ≡ last_number
InRange takings (held number) = IsTaking takings

-- it is the turn of this pass
abbrev pub is_turn_of : Turn → ℕ → Bool
is_turn_of free number = false
is_turn_of worn_out number = false
is_turn_of (held holder) number = number == holder

-- a fact that holds while no pass holds the turn
abbrev pub WhileNobodys : Turn → Type 0 → Type 0
WhileNobodys free P = P
WhileNobodys worn_out P = P
WhileNobodys (held number) P = Unit {0}

-- a fact that holds while a pass holds the turn, of that pass's number
abbrev pub WhileHeld : Turn → (ℕ → Type 0) → Type 0
WhileHeld free P = Unit {0}
WhileHeld worn_out P = Unit {0}
WhileHeld (held number) P = P number

module _ {O I : Type 0} where
  -- the passes, each by its number. The seat 0 makes them, and the pass of the number n has the seat n + 1
  abbrev pub EachPass : List (Known O I) → (ℕ → Known O I → Type 0) → Type 0
  EachPass views P = (number : ℕ) (v : Known O I) → get_elem? views (suc number) ≡ some v → P number v

  -- the seat that makes the passes has the count of those that it made, and has seen the opening alone
  pub record IsMaker (opening : List (Entry O I)) (seats : ℕ) (v : Known O I) : Type 0 where
    pub makes : v.makes ≡ true
    pub count : suc v.number ≡ seats
    pub seen : v.seen ≡ opening
    pub takings : v.takings ≡ 0

  -- 1. The passes made so far have the numbers from 0 below their count, each once. A number not yet made has no entry
  pub record Numbered (opening history : List (Entry O I)) (views : List (Known O I)) : Type 0 where
    pub maker : (v : Known O I) → get_elem? views 0 ≡ some v → IsMaker opening (length views) v
    pub each : EachPass views (λ number v. (v.makes ≡ false) × (v.number ≡ number))
    pub later : (number : ℕ) → length views ≤ suc number → made_by number history ≡ []

  -- 2. At most one pass holds the turn, and the word says whether one does: it is even where the turn is free
  pub record OneTurn (takings : ℕ) (turn : Turn) (words : List ℕ) (views : List (Known O I)) : Type 0 where
    pub word : words ≡ word_of takings turn ∷ []
    pub range : InRange takings turn
    pub holder : EachPass views (λ number v. v.holds ≡ is_turn_of turn number)
    pub made : WhileHeld turn (λ number. suc number < length views)

  -- 4. The slot is out, with the pass of this number, and the history is the one that this pass got
  pub record InHand {S : Type 0} (history : List (Entry O I)) (homes : List (maybe.Option (Option S))) (views : List (Known O I)) (holder : ℕ) : Type 0 where
    pub out : homes ≡ none ∷ []
    pub got : EachPass views (λ number v. number ≡ holder → v.got ≡ history)

  -- 5. The history begins with the opening
  pub record Begins (opening history : List (Entry O I)) : Type 0 where
    pub alone : IsOpening opening
    pub first : Continues opening history

  -- and with what a pass has seen, which begins with the opening too. Of the pass's number both have just its own entries
  pub record Sees (opening history : List (Entry O I)) (number : ℕ) (v : Known O I) : Type 0 where
    pub begins : Continues opening v.seen
    pub seen : Continues v.seen history
    pub own : v.mine ≡ made_by number v.seen
    pub mine : v.mine ≡ made_by number history

  -- the takings of all passes, added up
  abbrev pub total_takings : List (Known O I) → ℕ
  total_takings [] = 0
  total_takings (v ∷ vs) = v.takings + total_takings vs

  -- 6. The passes' takings add up to the number of takings, and no pass knows of a later one
  pub record Counted (takings : ℕ) (views : List (Known O I)) : Type 0 where
    pub total : total_takings views ≡ takings
    pub known : EachPass views (λ number v. (v.last ≤ takings) × (v.met ≤ takings))

  -- 7. The newest taking is the holder's, and every other pass's last one is earlier
  pub record IsNewest (takings : ℕ) (views : List (Known O I)) (holder : ℕ) : Type 0 where
    pub own : EachPass views (λ number v. number ≡ holder → v.last ≡ takings)
    pub others : EachPass views (λ number v. number ≢ holder → v.last < takings)

module _ {S O I : Type 0} (history_of : S → List (Entry O I)) where
  -- 3. The slot is at home, and the history is that of the state in it
  pub record AtHome (history : List (Entry O I)) (homes : List (maybe.Option (Option S))) : Type 0 where
    pub state : S
    pub is_home : homes ≡ some (Some state) ∷ []
    pub history_is : history_of state ≡ history

  -- the seven parts, in their order
  pub record Rule (opening history : List (Entry O I)) (takings : ℕ) (turn : Turn) (s : State (Option S) (Known O I)) : Type 0 where
    pub numbered : Numbered opening history s.views
    pub one_turn : OneTurn takings turn s.words s.views
    pub at_home : WhileNobodys turn (AtHome history s.homes)
    pub in_hand : WhileHeld turn (InHand history s.homes s.views)
    pub begins : Begins opening history
    pub sees : EachPass s.views (Sees opening history)
    pub counted : Counted takings s.views
    pub newest : WhileHeld turn (IsNewest takings s.views)

  -- the rule of a cell with this opening: of some history, after some takings, with some turn
  abbrev pub Ruled : List (Entry O I) → State (Option S) (Known O I) → Type 0
  Ruled opening s = (history : List (Entry O I)) × (takings : ℕ) × (turn : Turn) × Rule opening history takings turn s
