use Rattle.std.proofs.Common.{Err, sym, ◌∙◌, ap}
use Rattle.std.specs.Option.{option_map}
use Rattle.bench_trait.specs.declared.bench.MeasureError.TheVariants.{NoMemory}
use Rattle.session_book.specs.declared.entry.Entry.TheVariants as entry
use Rattle.session_book.specs.Entries.{move_of}
use Rattle.session_core.specs.Session.{StandsAt, places_in}
use Rattle.session_walk.specs.Sessions.{walked_in}
use Rattle.session_walk.proofs.PlayingLemmas.{move_listed, stands_itself, takes}
use Rattle.session_walk.proofs.playing.play.Goals as goal

pub returns-clause-took : goal.returns-clause-took
returns-clause-took g c =
    let seen = c.args.session.now in
    let stands : StandsAt seen (walked_in seen).standing = stands_itself g.B.Bench.gives g.B.Bench.fails g.B.Bench.starves seen.opening.bench.now seen.opening.artefacts.now seen c.legal.ensures in
    takes g.B.Bench.gives g.B.Bench.fails g.B.Bench.starves c.args.bench.now c.args.artefacts.now
    (λ session keys entries standing entry later legal then_legal. (c.growth_law.ensures session keys entries standing entry later legal).0 then_legal)
    seen c.play.new.self (entry.Played 0 c.in-Some.step) _ (Err NoMemory) c.requires.over c.in-Ok.ensures.ok c.legal.ensures c.legal-in-Ok.ensures
    (move_listed (places_in seen.opening) (Err NoMemory) (walked_in seen).standing c.args.index (move_of c.in-Some.step) (sym (c.nth_move.ensures (walked_in seen).standing stands) ∙ ap (λ o. option_map move_of o) c.in-Some.is))
