use Rattle.std.proofs.Common.{◌≡◌, ◌++◌, List, ap, sym, subst, append-nil, ◌∙◌}
use Rattle.evidence_types.specs.Heads.{Head}
use Rattle.evidence_codec.specs.Decoding.{given}
use Rattle.evidence_codec.specs.Making.{IsMade}
use Rattle.evidence_codec.proofs.ReaderLemmas.{on_ok}
use Rattle.evidence_codec.proofs.decoding.go_on.Goals as goal

pub returns-in-Some-clause-goes : goal.returns-in-Some-clause-goes
returns-in-Some-clause-goes c =
    on_ok c.put.result c.put.ensures (λ next either bytes goes.
    record {
      heads = goes.heads ++ given c.take.new.self;
      scanned = c.take.ensures.scanned either bytes goes.heads goes.scanned;
      made_of = subst (λ (hs : List Head). IsMade (goes.heads ++ hs) c.put.new.made) (sym c.in-Some.ensures.head) (next goes.heads goes.made_of);
    })

pub returns-in-None-clause-goes : goal.returns-in-None-clause-goes
returns-in-None-clause-goes c = λ either bytes goes.
    let same : goes.heads ++ given c.take.new.self ≡ goes.heads = ap (λ (hs : List Head). goes.heads ++ hs) c.in-None.ensures.head ∙ append-nil goes.heads in
    record {
      heads = goes.heads ++ given c.take.new.self;
      scanned = c.take.ensures.scanned either bytes goes.heads goes.scanned;
      made_of = subst (λ (hs : List Head). IsMade hs c.args.made.now) (sym same) goes.made_of;
    }
