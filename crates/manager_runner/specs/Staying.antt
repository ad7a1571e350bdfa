-- What stays of what a pass knows (this project's own).
use Rattle.std.specs.Prelude.{◌≡◌, ◌+◌, ◌<◌, ◌≤◌, ℕ, List, slice_get}
use Rattle.session_desk.specs.Views.{View, Known, openings_of}

-- its number, what all sessions were opened with, and all that it knows of the sessions but those of these
-- indices, from one to below another
pub record StaysOutside {O : Type 0} (from to : ℕ) (before after : Known O) : Type 0 where
  pub number : after.number ≡ before.number
  pub openings : openings_of after.views ≡ openings_of before.views
  pub below : (at : ℕ) → at < from → slice_get after.views at ≡ slice_get before.views at
  pub above : (at : ℕ) → to ≤ at → slice_get after.views at ≡ slice_get before.views at

-- of the session at an index alone it may know more
abbrev pub StaysBut : {O : Type 0} → ℕ → Known O → Known O → Type 0
StaysBut index before after = StaysOutside index (index + 1) before after
