-- A text with a bad part has no policy.
use Rattle.copland_cli.proofs.ChoiceLemmas.{told}
use Rattle.copland_cli.proofs.words.is_release.Goals as goal

pub returns : goal.returns
returns c =
    told c.args.text.now c.bad_part.result c.is_none.result c.reading_law.ensures.apart c.bad_part.ensures c.is_none.ensures
