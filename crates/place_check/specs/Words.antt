-- The words for the rules of places. They are this project's own.
use Rattle.std.specs.Prelude.{ℕ, List, codes}
use Rattle.place_check.specs.declared.entry.PlaceKind.{PlaceKind}
use Rattle.place_check.specs.declared.entry.PlaceKind.TheVariants.{UnknownPlace, MayNotAsk, NotOffered, MayNotSee}

-- the word for the rule that an event breaks
abbrev pub place_word : PlaceKind → List ℕ
place_word UnknownPlace = codes "unknown-place"
place_word MayNotAsk = codes "may-not-ask"
place_word NotOffered = codes "not-offered"
place_word MayNotSee = codes "may-not-see"
