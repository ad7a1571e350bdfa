-- The order of the events of a phrase (POST 2019, event systems), over their numbers.
use Rattle.std.specs.Prelude.{◌≡◌, ◌+◌, ◌≤◌, ◌<◌, ◌⊎◌, ℕ}
use Rattle.phrase_tree.specs.Term.{Term, leaf, at, chain, seq, par}
use Rattle.phrase_tree.specs.Numbering.{event_count}

-- a number of the range from `low` up to `high`, which is no longer in it
pub record IsWithin (low high n : ℕ) : Type 0 where
  pub from : low ≤ n
  pub below : n < high

-- a number of an event of a phrase that starts at `i`
abbrev pub IsEvent : Term → ℕ → ℕ → Type 0
IsEvent phrase i n = IsWithin i (i + event_count phrase) n

-- x is the first number of a range, and y another of it
pub record Opens (low high x y : ℕ) : Type 0 where
  pub first : x ≡ low
  pub later : x < y
  pub below : y < high

-- y is the last number of a range, and x another of it
pub record Closes (low high x y : ℕ) : Type 0 where
  pub from : low ≤ x
  pub earlier : x < y
  pub last : y + 1 ≡ high

-- x is a number of the range up to `middle`, and y one of the range from there
pub record Crosses (low middle high x y : ℕ) : Type 0 where
  pub from : low ≤ x
  pub left : x < middle
  pub right : middle ≤ y
  pub below : y < high

-- x is before y in a phrase that starts at `i`. A request and a split are before all that they
-- open, a reply and a join are after it; in a chain and in a sequential branch all of the left part
-- is before all of the right part; inside a part its own order holds
abbrev pub IsBefore : Term → ℕ → ℕ → ℕ → Type 0
IsBefore (leaf form) i x y = ⊥
IsBefore (at asked body) i x y =
    Opens i (i + (2 + event_count body)) x y
    ⊎ (Closes i (i + (2 + event_count body)) x y ⊎ IsBefore body (i + 1) x y)
IsBefore (chain left right) i x y =
    Crosses i (i + event_count left) (i + event_count left + event_count right) x y
    ⊎ (IsBefore left i x y ⊎ IsBefore right (i + event_count left) x y)
IsBefore (seq split left right) i x y =
    Opens i (i + (2 + (event_count left + event_count right))) x y
    ⊎ (Closes i (i + (2 + (event_count left + event_count right))) x y
    ⊎ (Crosses (i + 1) (i + 1 + event_count left) (i + 1 + event_count left + event_count right) x y
    ⊎ (IsBefore left (i + 1) x y ⊎ IsBefore right (i + 1 + event_count left) x y)))
IsBefore (par split left right) i x y =
    Opens i (i + (2 + (event_count left + event_count right))) x y
    ⊎ (Closes i (i + (2 + (event_count left + event_count right))) x y
    ⊎ (IsBefore left (i + 1) x y ⊎ IsBefore right (i + 1 + event_count left) x y))

-- x is a direct predecessor of y: it is before y, and nothing is between
pub record IsDirectlyBefore (phrase : Term) (i x y : ℕ) : Type 0 where
  pub before : IsBefore phrase i x y
  pub nothing_between : (z : ℕ) → IsBefore phrase i x z → ¬ IsBefore phrase i z y
