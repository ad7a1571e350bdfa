-- A part in its brackets, as it is written one piece behind another.
use Rattle.std.proofs.Common.{◌≡◌, ◌++◌, ℕ, Bool, true, false, List, refl, sym}
use Rattle.std.proofs.lemmas.List.{append-nil}
use Rattle.phrase_reader.specs.Canonical.{enclosed}
use Rattle.phrase_reader.specs.Printing.{opening, closing}

pub enclosed_is : (wanted : Bool) (text : List ℕ) → enclosed wanted text ≡ opening wanted ++ (text ++ closing wanted)
enclosed_is true text = refl
enclosed_is false text = sym (append-nil text)
