-- What a record of the code stands for.
use Rattle.session_model.specs.Record.{Record as Meant, done, failed}
use Rattle.session_model.specs.declared.record.Record.{Record}
use Rattle.session_model.specs.declared.record.Record.TheVariants.{Done, Failed}

abbrev pub recorded : Record → Meant
recorded (Done found) = done found.trace found.answers found.bundle
recorded (Failed found) = failed found.event found.fault found.trace
