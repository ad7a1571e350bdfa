use Rattle.std.proofs.lemmas.Str.Pattern.{split_parts}
use Rattle.release_policy.proofs.TextLemmas.{cut_from}
use Rattle.release_policy.proofs.reading.cut.Goals as goal

pub returns : goal.returns
returns c =
    cut_from c.args.separator c.args.text.now c.split_once.result (split_parts c.args.separator c.args.text.now c.split_once.result c.split_once.ensures.cases c.requires)
