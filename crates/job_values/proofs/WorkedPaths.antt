-- Places in a job that were written by hand: an edit of the definitions is refused here.
use Rattle.std.proofs.Common.{◌≡◌, ℕ, Option, None, Some, refl}
use Rattle.std.specs.Prelude.{codes}
use Rattle.std.specs.Fmt.{digits}
use Rattle.job_values.specs.declared.words.Field.{Field}
use Rattle.job_values.specs.declared.words.Field.TheVariants as fields
use Rattle.job_values.specs.declared.path.Section.{Section}
use Rattle.job_values.specs.declared.path.Section.TheVariants as sections
use Rattle.job_values.specs.declared.path.FieldAt.{FieldAt}
use Rattle.job_values.specs.Words.{path_text}

abbrev at : Section → ℕ → Option Field → Option ℕ → FieldAt
at section index field item = record { section = section; index = index; field = field; item = item }

the_job_itself : path_text (at sections.Top 0 None None) ≡ codes "$"
the_job_itself = refl

a_field_of_it : path_text (at sections.Top 0 (Some fields.Bundle) None) ≡ codes "$.bundle"
a_field_of_it = refl

a_field_of_a_place : path_text (at sections.Places 0 (Some fields.Key) None) ≡ codes "$.places[0].key"
unfolding digits
a_field_of_a_place = refl

an_item_of_a_field : path_text (at sections.References 12 (Some fields.Args) (Some 3)) ≡ codes "$.references[12].args[3]"
unfolding digits
an_item_of_a_field = refl

a_session : path_text (at sections.Sessions 255 None None) ≡ codes "$.sessions[255]"
unfolding digits
a_session = refl

a_field_of_the_bundle : path_text (at sections.Bundle 0 (Some fields.Session) None) ≡ codes "$.bundle.session"
a_field_of_the_bundle = refl
