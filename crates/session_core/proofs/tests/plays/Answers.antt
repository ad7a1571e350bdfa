use Rattle.std.proofs.Common.{ℕ, List, sym, subst}
use Rattle.session_core.specs.Core.{IsCore}
use Rattle.session_core.proofs.tests.plays.Goals as goal

pub play-requires : goal.play-requires
play-requires c =
    let r = c.requires in
    (r.0, r.1, subst (λ (ks : List (List ℕ × List ℕ)). IsCore r.0 ks r.1 c.args.core.now) (sym c.keys.ensures) r.2)

pub returns : goal.returns
returns c =
    let r = c.requires in
    let is = subst (λ (ks : List (List ℕ × List ℕ)). IsCore r.0 ks r.1 c.args.core.now) (sym c.keys.ensures) r.2 in
    (r.0, r.1, subst (λ (ks : List (List ℕ × List ℕ)). IsCore r.0 ks r.1 c.play.new.self) c.keys.ensures (c.play.ensures.core r.0 r.1 is))
