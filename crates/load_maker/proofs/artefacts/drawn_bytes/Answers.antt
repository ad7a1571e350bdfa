-- Each byte is drawn behind the one before.
use Rattle.std.proofs.Common.{◌≡◌, ◌++◌, ◌∷◌, [], ℕ, ap, ◌∙◌, arith}
use Rattle.load_maker.specs.Artefacts.{drawn_bytes}
use Rattle.load_maker.proofs.ArtefactLemmas.{bytes_more, bytes_none}
use Rattle.load_maker.proofs.artefacts.drawn_bytes.Goals as goal

pub loop-init : goal.loop-init
loop-init c =
    let none = bytes_none c.args.draws.now in record { bytes = c.new-bytes.ensures.items ∙ none.0; from = none.1 }

pub loop-preserved : goal.loop-preserved
loop-preserved c =
    let at = c.loop in
    let more = bytes_more at.counter c.args.draws.now at.bytes.items at.draws at.invariant.bytes at.invariant.from in
    record {
      bytes =
          c.in_ok-push.ensures.items
          ∙ ap (λ (byte : ℕ). at.bytes.items ++ byte ∷ []) c.draw.ensures.drawn
          ∙ more.0;
      from = c.draw.ensures.from ∙ more.1;
    }

pub returns : goal.returns
returns c =
    let all : c.loop.counter ≡ 64 = omega arith in
    (c.of.ensures ∙ c.loop.invariant.bytes ∙ ap (λ n. (drawn_bytes n c.args.draws.now).thing) all, c.loop.invariant.from ∙ ap (λ n. (drawn_bytes n c.args.draws.now).from) all)
