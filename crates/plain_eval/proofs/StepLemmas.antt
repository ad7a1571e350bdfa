-- What the steps of a branch make.
use Rattle.std.proofs.Common.{◌≡◌, ◌+◌, ℕ, List, ◌∷◌, length, false, true, refl, subst, arith}
use Rattle.phrase_tree.specs.Term.{Term, seq, par}
use Rattle.phrase_tree.specs.Numbering.{event_count}
use Rattle.phrase_tree.specs.declared.phrase.Split.{Split}
use Rattle.evidence_types.specs.Evidence.{Evidence}
use Rattle.session_model.specs.Value.{Makings, part, value_of}
use Rattle.plain_eval.specs.Steps.{Make, Todo, joined, paired, run, run_left}

pub make_seq : (from : Makings) (final : Evidence) (split : Split) (left right : Term) (place : List ℕ) (mark : ℕ) (steps : List Todo) (next : ℕ) (current : Evidence) (under kept : List Evidence) → Make from final (run (seq split left right) place mark ∷ steps) next current under kept → Make from final (run right place mark ∷ run_left false left place (next + 1) (length (joined kept)) ∷ steps) (next + 1 + event_count left) (part split.right current) under (part split.left current ∷ kept)
make_seq from final split left right place mark steps next current under kept m =
    let few = m.1.few in
    let number : next + (2 + event_count left + event_count right) ≡ next + 1 + event_count left + event_count right + 1 = omega arith in (
      m.0,
      record { few = omega (arith, few); keys = m.1.keys.1 },
      (
        refl,
        omega (arith, few),
        record { few = omega (arith, few); keys = m.1.keys.0 },
        subst (λ (n : ℕ). Make from final steps n (paired false (value_of left place (next + 1) (part split.left current) from) (value_of right place (next + 1 + event_count left) (part split.right current) from)) under kept) number m.2,
      ),
    )

pub make_par : (from : Makings) (final : Evidence) (split : Split) (left right : Term) (place : List ℕ) (mark : ℕ) (steps : List Todo) (next : ℕ) (current : Evidence) (under kept : List Evidence) → Make from final (run (par split left right) place mark ∷ steps) next current under kept → Make from final (run right place mark ∷ run_left true left place (next + 1) (length (joined kept)) ∷ steps) (next + 1 + event_count left) (part split.right current) under (part split.left current ∷ kept)
make_par from final split left right place mark steps next current under kept m =
    let few = m.1.few in
    let number : next + (2 + event_count left + event_count right) ≡ next + 1 + event_count left + event_count right + 1 = omega arith in (
      m.0,
      record { few = omega (arith, few); keys = m.1.keys.1 },
      (
        refl,
        omega (arith, few),
        record { few = omega (arith, few); keys = m.1.keys.0 },
        subst (λ (n : ℕ). Make from final steps n (paired true (value_of left place (next + 1) (part split.left current) from) (value_of right place (next + 1 + event_count left) (part split.right current) from)) under kept) number m.2,
      ),
    )
