-- Each part nests less deep.
use Rattle.load_maker.proofs.phrases.+drawn_phrase.Given as goal

abbrev pub decreases-drawn_phrase : goal.decreases-drawn_phrase
decreases-drawn_phrase l = l.depth
