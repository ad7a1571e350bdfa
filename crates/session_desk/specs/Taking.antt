-- What a call of the desk makes of what its pass knows (this project's own).
use Rattle.std.specs.Prelude.{◌≡◌, ◌≢◌, ℕ, ◌+◌, ◌<◌, ◌⊎◌, List, [], ◌∷◌, ◌++◌, Option, Some, slice_get, slice_set}
use Rattle.turn_cell.specs.Rule.{last_number, IsTaking}
use Rattle.session_book.specs.declared.entry.Entry.{Entry}
use Rattle.session_core.specs.Session.{Seen, pass_of}
use Rattle.session_desk.specs.Views.{View, Known, own, as_seen}

-- entries of this pass
abbrev pub AreBy : ℕ → List Entry → Type 0
AreBy number [] = Unit {0}
AreBy number (entry ∷ entries) = (pass_of entry ≡ number) × AreBy number entries

-- a session went on by entries of this pass, of which with the session ahead of them this holds
pub record GoesOn {O : Type 0} (number : ℕ) (Tells : List Entry → Seen O → Type 0) (old new : Seen O) : Type 0 where
  pub made : List Entry
  pub by : AreBy number made
  pub opening : new.opening ≡ old.opening
  pub items : new.items ≡ old.items ++ made
  pub tells : Tells made old

-- the pass had the session's turn. It took the session with all that the pass had seen and what others made
-- since, and gave it back with entries of its own, of which with the session taken this holds. Nothing else
-- was made. The pass has seen it all, and has one taking more
pub record Takes {O : Type 0} (number : ℕ) (Holds : Seen O → Type 0) (Tells : List Entry → Seen O → Type 0) (before after : View O) : Type 0 where
  pub opening : O
  pub others : List Entry
  pub made : List Entry
  pub opened : before.opening ≡ Some opening
  pub opened_still : after.opening ≡ Some opening
  pub seen : after.seen ≡ before.seen ++ others ++ made
  pub by_others : own number others ≡ []
  pub by : AreBy number made
  pub mine : after.mine ≡ before.mine ++ made
  pub holds : Holds (as_seen opening after.seen)
  pub tells : Tells made (as_seen opening (before.seen ++ others))
  pub cell_stays : after.cell ≡ before.cell
  pub takings_rose : after.takings ≡ before.takings + 1
  pub last_rose : before.last < after.last
  pub last_is_taking : IsTaking after.last
  pub losses_stay : after.losses ≡ before.losses
  pub met_stays : after.met ≡ before.met

-- the pass didn't have the turn: the taking that it met is later than its own last one, and so another's,
-- or it is the last of all. It knows that, and nothing else has changed
pub record Loses {O : Type 0} (before after : View O) : Type 0 where
  pub losses_rose : after.losses ≡ before.losses + 1
  pub met_is_taking : IsTaking after.met
  pub met_another : (after.last < after.met) ⊎ (after.met ≡ last_number)
  pub cell_stays : after.cell ≡ before.cell
  pub opening_stays : after.opening ≡ before.opening
  pub seen_stays : after.seen ≡ before.seen
  pub mine_stays : after.mine ≡ before.mine
  pub takings_stay : after.takings ≡ before.takings
  pub last_stays : after.last ≡ before.last

-- of these views the one at an index changed so; all others stay
pub record ChangesOne {O : Type 0} (index : ℕ) (Changes : View O → View O → Type 0) (before after : List (View O)) : Type 0 where
  pub old : View O
  pub new : View O
  pub was : slice_get before index ≡ Some old
  pub others_stay : after ≡ slice_set before index new
  pub changes : Changes old new

-- what a pass knows of the session at an index changed so; its number, and what it knows of all others, stay
pub record ChangesAt {O : Type 0} (index : ℕ) (Changes : View O → View O → Type 0) (before after : Known O) : Type 0 where
  pub number_stays : after.number ≡ before.number
  pub one : ChangesOne index Changes before.views after.views
