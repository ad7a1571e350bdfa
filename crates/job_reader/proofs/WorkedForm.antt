-- Faults of form that were worked by hand: an edit of the definitions is refused here.
use Rattle.std.proofs.Common.{◌≡◌, true, false, [], ◌∷◌, Err, refl}
use Rattle.std.specs.Prelude.{codes}
use Rattle.hex.proofs.OnLiterals.{hex_on_literals}
use Rattle.serde_json.specs.Data.{null, number, unsigned, string, array, object, no_items, item, no_members, member}
use Rattle.job_values.specs.declared.words.Field.TheVariants as fields
use Rattle.job_values.specs.declared.path.Section.TheVariants as sections
use Rattle.job_values.specs.declared.path.FieldAt.{FieldAt}
use Rattle.job_values.specs.declared.path.FieldKind.{FieldKind}
use Rattle.job_values.specs.declared.path.FieldKind.TheVariants.{Missing, WrongKind, BadName, OutOfRange, Unknown}
use Rattle.job_reader.specs.Faults.{job_faults, place_faults}
use Rattle.job_reader.specs.Form.{item_of, artefact_in, bundle_in, bundle_of, Fault, field_of, names_in, place_in, top_field, whole, written_in}

abbrev fault : FieldAt → FieldKind → Fault
fault at kind = record { at = at; kind = kind }

no_object : written_in false (array no_items) ≡ Err (fault (whole sections.Top 0) WrongKind)
unfolding written_in
no_object = refl

no_places : written_in false (object no_members) ≡ Err (fault (top_field fields.Places) Missing)
unfolding written_in
no_places = refl

-- of two faults in one place the earlier field's decides, whatever the order in the text
the_earlier_field : place_in 3 (object (member (codes "asks") null (member (codes "name") (string (codes "bank")) no_members))) ≡ Err (fault (field_of sections.Places 3 fields.Key) Missing)
unfolding place_in
the_earlier_field = refl

-- the length of a list before its items
the_length_first : names_in sections.Places 0 fields.Asks 1 (object (member (codes "asks") (array (item null (item null no_items))) no_members)) ≡ Err (fault (field_of sections.Places 0 fields.Asks) OutOfRange)
unfolding names_in
the_length_first = refl

-- an unknown field after all others
an_unknown_field : artefact_in 1 (object (member (codes "bytes") (string []) (member (codes "name") (string (codes "a")) (member (codes "place") (string (codes "q")) (member (codes "x") null no_members))))) ≡ Err (fault (whole sections.Artefacts 1) Unknown)
unfolding artefact_in hex_on_literals
an_unknown_field = refl

a_bundle_of_no_session : bundle_in false 2 (object (member (codes "bundle") (object (member (codes "session") (number (unsigned 2)) no_members)) no_members)) ≡ Err (fault (field_of sections.Bundle 0 fields.Session) OutOfRange)
unfolding bundle_of
a_bundle_of_no_session = refl

no_bundle : bundle_in true 2 (object no_members) ≡ Err (fault (top_field fields.Bundle) Missing)
no_bundle = refl

-- all that is wrong with a place, in order
the_faults_of_a_place : place_faults 0 (object (member (codes "asks") (array (item null (item (string (codes "q")) (item (string []) no_items)))) (member (codes "x") null no_members))) ≡ fault (field_of sections.Places 0 fields.Name) Missing ∷ fault (field_of sections.Places 0 fields.Key) Missing ∷ fault (item_of sections.Places 0 fields.Asks 0) WrongKind ∷ fault (item_of sections.Places 0 fields.Asks 2) BadName ∷ fault (whole sections.Places 0) Unknown ∷ []
the_faults_of_a_place = refl

-- what is no object has that fault alone
no_place : place_faults 7 null ≡ fault (whole sections.Places 7) WrongKind ∷ []
no_place = refl

-- a list of a wrong length has that fault alone
no_sessions : job_faults true (object (member (codes "sessions") (array no_items) no_members)) ≡ fault (top_field fields.Places) Missing ∷ fault (top_field fields.Sessions) OutOfRange ∷ fault (top_field fields.Bundle) Missing ∷ []
no_sessions = refl
