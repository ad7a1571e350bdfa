-- Each artefact is new, and the next of those that are made.
use Rattle.std.proofs.Common.{◌≡◌, ◌++◌, ◌∷◌, [], length, sym, ap, ◌∙◌, subst, arith}
use Rattle.bench_trait.specs.declared.artefacts.Artefact.{Artefact}
use Rattle.load_maker.specs.Artefacts.{drawn_bytes, HasEachArtefact, made_artefacts}
use Rattle.load_maker.proofs.ArtefactLemmas.{artefacts_length, artefacts_more, artefacts_none, each_artefact, never_added, numbered, was_added}
use Rattle.load_maker.proofs.artefacts.made_artefacts.Goals as goal

pub loop-number-init : goal.loop-number-init
loop-number-init c =
    let none = artefacts_none c.args.draws.now in record { artefacts = c.empty-book.ensures ∙ none.0; from = none.1 }

pub add-requires : goal.add-requires
add-requires c =
    omega (arith, ap length c.loop-number.invariant.artefacts, artefacts_length c.loop-number.number c.args.draws.now)

pub unreachable-requires : goal.unreachable-requires
unreachable-requires c =
    never_added c.loop-number.number c.args.draws.now c.loop-number.book c.add.new.self c.add.result c.in-Err-Repeated.field-0 c.in-Err-Repeated.field-0-0 (record { place = c.place_name.result; name = c.asp_name.result; bytes = c.in_ok-bytes.bytes }) c.loop-number.invariant.artefacts c.place_name.ensures c.asp_name.ensures c.add.ensures c.in-Err-Repeated.is c.in-Err-Repeated.field-0-is

pub loop-number-preserved : goal.loop-number-preserved
loop-number-preserved c =
    let at = c.loop-number in
    let artefact : Artefact = record { place = c.place_name.result; name = c.asp_name.result; bytes = c.in_ok-bytes.bytes } in
    let more = artefacts_more at.number c.args.draws.now at.book at.draws at.invariant.artefacts at.invariant.from in
    let same = numbered at.number c.place_name.result c.asp_name.result c.in_ok-bytes.bytes (drawn_bytes 64 at.draws).thing c.place_name.ensures c.asp_name.ensures c.in_ok-bytes.ensures.0 in
    record {
      artefacts =
          was_added at.book c.add.new.self c.add.result c.in-Ok.field-0 artefact c.add.ensures c.in-Ok.is
          ∙ ap (λ (one : Artefact). at.book ++ one ∷ []) same
          ∙ more.0;
      from = c.in_ok-bytes.ensures.1 ∙ more.1;
    }

pub returns-clause-there : goal.returns-clause-there
returns-clause-there c =
    let all : c.loop-number.number ≡ 64 = omega arith in
    let whole = c.loop-number.invariant.artefacts ∙ ap (λ n. (made_artefacts n c.args.draws.now).thing) all in
    subst (λ list. HasEachArtefact list) (sym whole) (each_artefact c.args.draws.now)
