-- What is judged of a value that fits a shape. Appraisal is this project's own.
use Rattle.std.specs.Prelude.{◌&&◌, ℕ, Bool, List, [], ◌∷◌, ◌++◌, nat_eq}
use Rattle.std.specs.List.{list_any, list_all}
use Rattle.std.specs.Cmp.Lexicographic.{pointwise}
use Rattle.bench_trait.specs.declared.ask.AskKind.TheVariants.{Usm, Kim}
use Rattle.evidence_types.specs.Answers.{answer_at}
use Rattle.evidence_types.specs.Bytes.{encoding}
use Rattle.evidence_types.specs.Evidence.{Evidence, empty, nonce, usm, kim, seal, hash, seq_pair, par_pair}
use Rattle.evidence_types.specs.Shape.{Form, the_nonce, measured, measured_at, sealed, hashed, in_sequence, in_parallel}
use Rattle.reference_book.specs.declared.reference.Reference.{Reference}
use Rattle.reference_book.specs.Leaves.{Leaf, answers_at}
use Rattle.seal_hmac.specs.Keys.{key_at}
use Rattle.seal_hmac.specs.Seal.{seal_of, hash_of}
use Rattle.appraiser.specs.declared.verdict.Verdict.{Verdict}
use Rattle.appraiser.specs.declared.verdict.VerdictOf.{VerdictOf}
use Rattle.appraiser.specs.declared.verdict.VerdictOf.TheVariants as judged
use Rattle.appraiser.specs.Expected.{Basis, expected, reference_at}

-- the same bytes
abbrev pub same : List ℕ → List ℕ → Bool
same bytes others = pointwise nat_eq bytes others

-- the answers that a value holds, a node before its parts and left before right, each with its event
abbrev pub held : Evidence → List (ℕ × List ℕ)
held empty = []
held (nonce bytes) = []
held (usm event answer under) = (event, answer) ∷ held under
held (kim event answer under) = (event, answer) ∷ held under
held (seal event bytes under) = held under
held (hash event bytes) = []
held (seq_pair left right) = held left ++ held right
held (par_pair left right) = held left ++ held right

-- an answer is one of the references of a leaf
abbrev pub is_expected : List Reference → Leaf → List ℕ → Bool
is_expected references leaf answer = list_any (λ other. same other answer) (answers_at references leaf)

-- an answer is good at a leaf where it is one of its references, and the answer that the value holds first for
-- this event
abbrev pub is_good_answer : List Reference → List (ℕ × List ℕ) → Leaf → List ℕ → Bool
is_good_answer references firsts leaf answer =
    is_expected references leaf answer && same answer (answer_at firsts leaf.event)

abbrev pub verdict : VerdictOf → Bool → Verdict
verdict node good = record { «of» = node; good = good }

-- the verdicts of a part of a value that fits a part of a shape, a node before its parts and left before right,
-- where the whole value holds these answers
abbrev pub verdicts_under : Basis → List (ℕ × List ℕ) → Evidence → Form → List Verdict
verdicts_under basis firsts (nonce bytes) the_nonce = verdict judged.Nonce (same bytes basis.nonce) ∷ []
verdicts_under basis firsts (usm event answer under) (measured number place asp below) =
    verdict (judged.Leaf number) (is_good_answer basis.references firsts (record { event = number; place = place; kind = Usm; asp = asp }) answer) ∷ verdicts_under basis firsts under below
verdicts_under basis firsts (kim event answer under) (measured_at number place target asp below) =
    verdict (judged.Leaf number) (is_good_answer basis.references firsts (record { event = number; place = place; kind = Kim target; asp = asp }) answer) ∷ verdicts_under basis firsts under below
verdicts_under basis firsts (seal event bytes under) (sealed number place below) =
    verdict (judged.Seal number) (same bytes (seal_of (key_at basis.keys place) place basis.nonce number (encoding under))) ∷ verdicts_under basis firsts under below
verdicts_under basis firsts (hash event bytes) (hashed number place below) =
    verdict (judged.Hash number) (same bytes (hash_of (encoding (expected basis (reference_at basis.references) below)))) ∷ []
verdicts_under basis firsts (seq_pair left right) (in_sequence first second) =
    verdicts_under basis firsts left first ++ verdicts_under basis firsts right second
verdicts_under basis firsts (par_pair left right) (in_parallel first second) =
    verdicts_under basis firsts left first ++ verdicts_under basis firsts right second
verdicts_under basis firsts _ _ = []

-- the verdicts of a value that fits a shape
abbrev pub verdicts : Basis → Evidence → Form → List Verdict
verdicts basis value shape = verdicts_under basis (held value) value shape

-- all of them are good
abbrev pub all_good : List Verdict → Bool
all_good found = list_all (λ verdict. verdict.good) found
