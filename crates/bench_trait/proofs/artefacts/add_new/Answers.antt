-- The index after the new artefact was put in and added.
use Rattle.std.proofs.Common.{◌≡◌, List, [], ◌∷◌, ◌++◌, length, cond, Some, sym, ap, ◌∙◌, arith, length-append}
use Rattle.std.specs.BTreeMap as tree
use Rattle.bench_trait.specs.Artefacts.{artefact_index, is_artefact, key_cmp}
use Rattle.bench_trait.specs.declared.artefacts.Artefact.{Artefact}
use Rattle.bench_trait.proofs.BookLemmas.{is_eq-key_cmp, index-append}
use Rattle.bench_trait.proofs.artefacts.add_new.Goals as goal

pub returns-clause-indexed : goal.returns-clause-indexed
returns-clause-indexed c =
    let new = c.args.artefact in
    let old = c.args.entries.now.items in
    let pushed : c.push.new.self.items ≡ old ++ new ∷ [] = rw c.unwrap.ensures at c.push.ensures.items ∙ ap (λ (items : List Artefact). items ++ new ∷ []) c.reserve.ensures.items in
    let at : c.len-at.result ≡ length old = c.len-at.ensures ∙ c.reserve.new.self.ok.0 ∙ ap (λ (items : List Artefact). length items) c.reserve.ensures.items in
    record {
      few = rw pushed (omega (arith, length-append old (new ∷ []), c.requires.few));
      indexed = λ place name.
          c.in_ok-insert.ensures.updates.0 (place, name)
          ∙ ap (λ test. cond test (Some c.len-at.result) (tree.get key_cmp c.args.index.now (place, name))) (is_eq-key_cmp new place name)
          ∙ ap (λ found. cond (is_artefact place name new) (Some c.len-at.result) found) (c.requires.indexed.indexed place name)
          ∙ ap (λ n. cond (is_artefact place name new) (Some n) (artefact_index old place name)) at
          ∙ index-append old new place name c.requires.absent
          ∙ ap (λ (items : List Artefact). artefact_index items place name) (sym pushed);
    }
