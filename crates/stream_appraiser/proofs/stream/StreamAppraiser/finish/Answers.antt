-- The bytes are no bundle; or they are one of a value that does not fit, or that does.
use Rattle.std.proofs.Common.{true, ap, ◌∙◌}
use Rattle.evidence_codec.specs.Reading.{fault_of}
use Rattle.stream_appraiser.proofs.FedLemmas.{all_verdicts, wrong_shape}
use Rattle.stream_appraiser.proofs.stream.StreamAppraiser.finish.Goals as goal

pub returns-in-Err-clause-appraised : goal.returns-in-Err-clause-appraised
returns-in-Err-clause-appraised c = λ places basis shape bytes fed.
    rw c.bad.ensures (ap fault_of (c.in-Err.ensures true bytes fed.heads fed.scanned))

pub returns-in-Some-clause-appraised : goal.returns-in-Some-clause-appraised
returns-in-Some-clause-appraised c = λ places basis shape bytes fed.
    wrong_shape places basis shape bytes c.in_default.field-0 c.in-Some.node c.args.self fed (c.in_default.ensures true bytes fed.heads fed.scanned) c.in-Some.is

pub returns-in-None-clause-appraised : goal.returns-in-None-clause-appraised
returns-in-None-clause-appraised c = λ places basis shape bytes fed.
    let all = all_verdicts places basis shape bytes c.in_default.field-0 c.args.self fed (c.in_default.ensures true bytes fed.heads fed.scanned) c.in-None.is in
    (all.0, c.of.ensures ∙ all.1)
