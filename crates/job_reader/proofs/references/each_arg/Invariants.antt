-- The arguments before the position were read, one for each item.
use Rattle.std.proofs.Common.{◌≡◌, length}
use Rattle.job_reader.specs.Form.{arg_in}
use Rattle.job_reader.specs.Reading.{IsReadTo}
use Rattle.job_reader.proofs.references.each_arg.Given as goal

abbrev pub invariant-loop-position : goal.invariant-loop-position
invariant-loop-position l = record {
  counted : length l.args ≡ l.position;
  reading : IsReadTo (arg_in l.index) l.items l.position l.args;
}
