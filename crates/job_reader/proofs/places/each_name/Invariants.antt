-- The names before the position were read.
use Rattle.job_values.specs.declared.path.Section.TheVariants as sections
use Rattle.job_reader.specs.Form.{name_in}
use Rattle.job_reader.specs.Reading.{IsReadTo}
use Rattle.job_reader.proofs.places.each_name.Given as goal

abbrev pub invariant-loop-position : goal.invariant-loop-position
invariant-loop-position l = IsReadTo (name_in sections.Places l.index l.field) l.items l.position l.names.items
