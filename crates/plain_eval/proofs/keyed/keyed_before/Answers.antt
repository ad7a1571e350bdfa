-- Each was keyed, and so was the one of the place.
use Rattle.std.proofs.Common.{◌≡◌, ◌∙◌, ℕ, List, [], sym, subst}
use Rattle.std.specs.Cmp.Lexicographic.{same_text}
use Rattle.seal_hmac.specs.Fed.{Feeds}
use Rattle.seal_hmac.specs.Keys.{key_at}
use Rattle.seal_hmac.specs.declared.hashers.Mac.{Mac}
use Rattle.plain_eval.proofs.CodeLemmas.{keyed_at}
use Rattle.plain_eval.proofs.keyed.keyed_before.Goals as goal

pub returns-then-eq : goal.returns-then-eq
returns-then-eq c =
    let one = c.one-item.result in
    let keys = c.args.keys.now in
    let same : one.place ≡ c.args.place = same_text one.place c.args.place (sym (sym c.eq.ensures ∙ c.if-eq.true)) in
    subst (λ (place : List ℕ). Feeds (key_at keys place) [] c.copy.result) same
    (subst (λ (mac : Mac). Feeds (key_at keys one.place) [] mac) (sym c.copy.ensures)
    (keyed_at keys c.args.codes.now c.loop-one.one-index one c.requires c.loop-one-test.true c.one-item.is))
