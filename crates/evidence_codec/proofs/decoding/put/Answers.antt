use Rattle.std.proofs.Common.{[], ◌∷◌, ◌++◌, List, ℕ, ap, sym, ◌∙◌}
use Rattle.evidence_types.specs.Heads.{head_of, marks_of}
use Rattle.evidence_codec.specs.Decoding.{opens_of, whole_of}
use Rattle.evidence_codec.proofs.BuildLemmas.{builds-next, marks-push}
use Rattle.evidence_codec.proofs.decoding.put.Goals as goal

pub returns-in-Ok : goal.returns-in-Ok
returns-in-Ok c = λ read made.
    record {
      builds = builds-next read (opens_of c.args.made.now.nodes.items) (whole_of c.args.made.now.whole) (head_of c.args.head.now) (opens_of c.take.new.nodes.items) (whole_of c.in-Ok.whole) made.builds c.in-Ok.ensures;
      marks = c.in_ok-push_mark.ensures ∙ ap (λ (t : List ℕ). t ++ marks_of (head_of c.args.head.now ∷ [])) made.marks ∙ sym (marks-push read (head_of c.args.head.now));
    }
