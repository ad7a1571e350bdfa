-- What was written and what is to come is the whole.
use Rattle.std.proofs.Common.{◌≡◌, ◌++◌, drop}
use Rattle.report_text.specs.Sessions.{numbered}
use Rattle.copland_cli.specs.Chosen.{denial_line}
use Rattle.copland_cli.proofs.choose.push_denials.Given as goal

abbrev pub invariant-loop-denial : goal.invariant-loop-denial
invariant-loop-denial l = record {
  counted : l.number ≡ l.denial-index;
  whole : l.text.items ++ numbered denial_line l.number (drop l.denial-index l.denials) ≡ l.initial.text.items ++ numbered denial_line 0 l.denials;
}
