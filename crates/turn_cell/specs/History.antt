-- Histories: lists of entries, of which the first is the opening.
use Rattle.std.specs.Prelude.{◌≡◌, ℕ, ◌==◌, List, [], ◌∷◌, ◌++◌, if◌then◌else◌, Option, Some, None}
use Rattle.turn_cell.specs.declared.chronicle.Entry.{Entry}
use Rattle.turn_cell.specs.declared.chronicle.Entry.TheVariants.{Opened, Made}

module _ {O I : Type 0} where
  -- items, each with the number of its pass, as entries
  abbrev pub entries : List (ℕ × I) → List (Entry O I)
  entries [] = []
  entries (x ∷ xs) = Made x.0 x.1 ∷ entries xs

  -- an opening, and behind it items of passes
  pub record IsHistory (history : List (Entry O I)) : Type 0 where
    pub opening : O
    pub items : List (ℕ × I)
    pub is : history ≡ Opened opening ∷ entries items

  -- an opening alone
  pub record IsOpening (history : List (Entry O I)) : Type 0 where
    pub opening : O
    pub is : history ≡ Opened opening ∷ []

  -- the opening that a history begins with
  abbrev pub opening_of : List (Entry O I) → Option O
  opening_of [] = None
  opening_of (Opened o ∷ es) = Some o
  opening_of (Made n i ∷ es) = None

  -- the entries that carry this number
  abbrev pub made_by : ℕ → List (Entry O I) → List (Entry O I)
  made_by number [] = []
  made_by number (Opened o ∷ es) = made_by number es
  made_by number (Made n i ∷ es) = if n == number then Made n i ∷ made_by number es else made_by number es

  -- the history has all that was seen as a prefix
  pub record Continues (seen history : List (Entry O I)) : Type 0 where
    pub rest : List (Entry O I)
    pub is : history ≡ seen ++ rest

  -- items of one pass, as entries
  abbrev pub own : ℕ → List I → List (Entry O I)
  own number [] = []
  own number (i ∷ is) = Made number i ∷ own number is

  -- the history after is the one before, followed by entries of this pass alone
  pub record Extends (number : ℕ) (before after : List (Entry O I)) : Type 0 where
    pub items : List I
    pub is : after ≡ before ++ own number items
