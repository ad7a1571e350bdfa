-- The keys of the members are those that the definition goes over.
use Rattle.std.proofs.Common.{ap, ◌∙◌}
use Rattle.job_values.specs.Reading.{other_in}
use Rattle.job_values.proofs.ItemLemmas.{other_keys}
use Rattle.job_values.proofs.reading.unknown_in.Goals as goal

pub returns-in-Some : goal.returns-in-Some
returns-in-Some c =
    c.has_other.ensures ∙ (other_keys c.args.fields.now c.in-Some.members.now.entries ∙ ap (other_in c.args.fields.now) c.in-Some.ensures)
