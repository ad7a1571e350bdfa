-- What a check of a session answers.
use Rattle.std.specs.Prelude.{◌≡◌, List, [], Some, Result, Ok, Err}
use Rattle.evidence_types.specs.Measure.{oversize_at}
use Rattle.place_check.specs.declared.entry.PlaceEntry.{PlaceEntry}
use Rattle.place_check.specs.declared.entry.PlaceFault.{PlaceFault}
use Rattle.place_check.specs.declared.entry.PlaceFault.TheVariants.{Misplaced, Oversize}
use Rattle.place_check.specs.Rules.{faults, first}
use Rattle.session_model.specs.Session.{Session}
use Rattle.place_check.specs.Session.{CheckedSession, IsCheckedAgainst, session_of}

-- the session with its own root, nonce and phrase, checked against the places; or else the first broken
-- rule; or, where none is broken, the least event that is over
abbrev pub Checks : List PlaceEntry → Session → Result CheckedSession PlaceFault → Type 0
Checks places session (Ok checked) = (session_of checked ≡ session) × IsCheckedAgainst session places
Checks places session (Err (Misplaced event kind)) = first (faults places session.root session.phrase) ≡ Some (event, kind)
Checks places session (Err (Oversize event)) =
    (faults places session.root session.phrase ≡ []) × (oversize_at session.phrase ≡ Some event)
