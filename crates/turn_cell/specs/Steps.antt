-- What each kind of step does to what a pass knows, and what it tells its caller. The kinds that change the word or a view
-- are three: a pass more, the word made odd, the turn given back. Between them the holder reads and writes its slot.
use Rattle.std.specs.Prelude.{◌≡◌, ◌≢◌, ℕ, ◌+◌, ◌-◌, ◌*◌, ◌/◌, ◌%◌, ◌<◌, ◌==◌, ◌⊎◌, true, false, List, [], ◌∷◌, ◌++◌, if◌then◌else◌, Option, Some, None}
use Rattle.atomic_table.specs.Table.{Me, Step, rest}
use Rattle.turn_cell.specs.declared.chronicle.Entry.{Entry}
use Rattle.turn_cell.specs.declared.pass.Known.{Known}
use Rattle.turn_cell.specs.History.{opening_of, made_by, Continues, own}
use Rattle.turn_cell.specs.Rule.{last_number, IsTaking}

-- the word at which the taking of this number ends
abbrev pub word_after : ℕ → ℕ
word_after taking = if taking == last_number then 2 * taking - 1 else 2 * taking

module _ {O I : Type 0} where
  -- the seat that makes the passes, after it made so many
  abbrev pub maker_after : List (Entry O I) → ℕ → Known O I
  maker_after history count = record { makes = true; number = count; seen = history; mine = []; holds = false; got = []; takings = 0; last = 0; losses = 0; met = 0 }

  -- and before it made any
  abbrev pub maker : List (Entry O I) → Known O I
  maker history = maker_after history 0

  -- the seat that makes the passes, after it made one more
  abbrev pub after_one_more : Known O I → Known O I
  after_one_more v = record v { number = v.number + 1 }

  -- the pass that it made
  abbrev pub newcomer : Known O I → Known O I
  newcomer v = record { makes = false; number = v.number; seen = v.seen; mine = []; holds = false; got = []; takings = 0; last = 0; losses = 0; met = 0 }

  -- a pass after it won the taking of this number, and with it a state of this history
  abbrev pub after_winning : Known O I → List (Entry O I) → ℕ → Known O I
  after_winning v history taking = record v { holds = true; got = history; takings = v.takings + 1; last = taking }

  -- a pass after it lost to the taking of this number
  abbrev pub after_losing : Known O I → ℕ → Known O I
  after_losing v taking = record v { losses = v.losses + 1; met = taking }

  -- a pass after it gave a state of this history back
  abbrev pub after_giving : Known O I → List (Entry O I) → Known O I
  after_giving v history = record v { seen = history; mine = made_by v.number history; holds = false }

module _ {S O I : Type 0} (history_of : S → List (Entry O I)) where
  -- a seat: what it knows, and the slots that it has in hand
  abbrev pub Sat : Type 0
  Sat = Me (Option S) (Known O I)

  -- the taking of this number was won: the slot and its state are in hand
  pub record Wins (before after : Sat) (taking : ℕ) : Type 0 where
    pub state : S
    pub hand : after.1 ≡ (0, Some state) ∷ before.1
    pub view : after.0 ≡ after_winning before.0 (history_of state) taking
    pub begins : opening_of (history_of state) ≡ opening_of before.0.seen
    pub continues : Continues before.0.seen (history_of state)
    pub others : made_by before.0.number continues.rest ≡ []
    pub mine : made_by before.0.number (history_of state) ≡ before.0.mine
    pub is_taking : IsTaking taking
    pub later : before.0.last < taking

  -- the taking of this number has the turn, or had it last
  pub record Misses (before after : Sat) (taking : ℕ) : Type 0 where
    pub hand : after.1 ≡ before.1
    pub view : after.0 ≡ after_losing before.0 taking
    pub is_taking : IsTaking taking
    pub later : (before.0.last < taking) ⊎ (taking ≡ last_number)

  -- the word was made odd. It was even where the turn was won
  abbrev pub tried : Step (Option S) → Sat → ℕ → Sat → Type 0
  tried step before found after = (found % 2 ≡ 0 → Wins before after (found / 2 + 1)) × (found % 2 ≢ 0 → Misses before after (found / 2 + 1))

  -- the history of the state in the slot that was taken last
  abbrev pub in_hand : List (ℕ × Option S) → List (Entry O I)
  in_hand [] = []
  in_hand (x ∷ xs) = history_or_none x.1
    where
      history_or_none : Option S → List (Entry O I)
      history_or_none (Some state) = history_of state
      history_or_none None = []

  -- the turn was given back, with a new history
  pub record Gives (before after : Sat) : Type 0 where
    pub hand : after.1 ≡ rest before.1
    pub view : after.0 ≡ after_giving before.0 (in_hand before.1)
    pub begins : opening_of (in_hand before.1) ≡ opening_of before.0.seen
    pub grown : (items : List I) → in_hand before.1 ≡ before.0.got ++ own before.0.number items → made_by before.0.number (in_hand before.1) ≡ before.0.mine ++ own before.0.number items

  -- the word was stored at which the holder's taking ends
  abbrev pub gave : Step (Option S) → Sat → ℕ → Sat → Type 0
  gave step before stored after = Gives before after
