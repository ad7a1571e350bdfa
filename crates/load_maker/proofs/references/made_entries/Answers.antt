-- Each is the reference of its number.
use Rattle.std.proofs.Common.{◌≡◌, ◌++◌, ◌∷◌, [], ap, ◌∙◌, arith}
use Rattle.reference_book.specs.declared.reference.Reference.{Reference}
use Rattle.load_maker.specs.Made.{listed}
use Rattle.load_maker.specs.References.{made_reference, made_references}
use Rattle.load_maker.proofs.ListedLemmas.{listed_more, listed_none}
use Rattle.load_maker.proofs.references.made_entries.Goals as goal

pub loop-number-init : goal.loop-number-init
loop-number-init c = c.new-entries.ensures.items ∙ listed_none (made_reference c.args.artefacts.now)

pub loop-number-preserved : goal.loop-number-preserved
loop-number-preserved c =
    let item = made_reference c.args.artefacts.now in
    c.in_ok-push.ensures.items
    ∙ ap (λ list. list ++ c.made_reference.result ∷ []) c.loop-number.invariant
    ∙ ap (λ (one : Reference). listed item c.loop-number.number ++ one ∷ []) c.made_reference.ensures
    ∙ listed_more item c.loop-number.number

pub returns : goal.returns
unfolding made_references
returns c =
    let all : c.loop-number.number ≡ 576 = omega arith in
    c.loop-number.invariant ∙ ap (λ n. listed (made_reference c.args.artefacts.now) n) all
