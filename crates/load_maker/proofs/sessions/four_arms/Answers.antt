-- Four phrases, drawn in their order.
use Rattle.phrase_tree.specs.Term.{term}
use Rattle.load_maker.specs.Sessions.{both, four_arms}
use Rattle.load_maker.proofs.MakesLemmas.{makes}
use Rattle.load_maker.proofs.SessionLemmas.{four_made}
use Rattle.load_maker.proofs.sessions.four_arms.Goals as goal

pub returns : goal.returns
returns c =
    let a = c.in_ok-first in
    let b = c.in_ok-second in
    let d = c.in_ok-third in
    let e = c.in_ok-fourth in
    let whole = four_made c.args.draws.now c.drawn_phrase.new.draws c.drawn_phrase-2.new.draws c.drawn_phrase-3.new.draws c.drawn_phrase-4.new.draws (term a.first) (term b.second) (term d.third) (term e.fourth) (term c.in_ok-last.last) (term c.in_ok-behind.behind) a.ensures.0 a.ensures.1 b.ensures.0 b.ensures.1 d.ensures.0 d.ensures.1 e.ensures.0 e.ensures.1 c.in_ok-last.ensures c.in_ok-behind.ensures in
    makes term (four_arms c.args.draws.now) c.in_parallel-3.result c.drawn_phrase-4.new.draws (both (term a.first) (term c.in_ok-behind.behind)) c.in_parallel-3.ensures whole.0 whole.1
