-- How an evaluation begins and ends, and that the bundle of its value is one.
use Rattle.std.proofs.Common.{◌≡◌, ◌∙◌, ◌+◌, ◌^◌, ◌<◌, ℕ, Bool, true, false, List, [], ◌∷◌, ◌++◌, length, cond, Result, Ok, Err, IfOk, refl, sym, ap, subst, arith}
use Rattle.std.proofs.lemmas.List.{append-nil}
use Rattle.std.specs.Prelude.{nat_eq}
use Rattle.phrase_tree.specs.Term.{Term, Leaf, term, cpy, sig, hsh, nul, usm, kim, leaf, at, chain, seq, par}
use Rattle.phrase_tree.specs.Numbering.{event_count, IsSized}
use Rattle.evidence_types.specs.Answer.{FitsAnswer}
use Rattle.evidence_types.specs.Answers.{answer_at}
use Rattle.evidence_types.specs.Bundle.{IsBundleOf}
use Rattle.evidence_types.specs.Bytes.{be32, bundle, bundle_head, encoding}
use Rattle.evidence_types.specs.Evidence.{Evidence, nonce}
use Rattle.evidence_types.specs.Measure.{IsLight}
use Rattle.session_model.specs.Short.{HasShortAnswer, HasShortAnswers}
use Rattle.session_model.specs.Value.{Makings, session_value}
use Rattle.plain_eval.specs.AllShort.{AllShort}
use Rattle.plain_eval.specs.Codes.{AreKeyed}
use Rattle.plain_eval.specs.Given.{makings_of, value_given}
use Rattle.plain_eval.specs.Keyed.{HasKeys}
use Rattle.plain_eval.specs.Pending.{Leads, todos}
use Rattle.plain_eval.specs.Steps.{Make, Todo, run}
use Rattle.plain_eval.specs.declared.given.Given.{Given}
use Rattle.plain_eval.specs.declared.keyed.Keyed.{Keyed}
use Rattle.plain_eval.specs.declared.pending.Work.{Work}
use Rattle.plain_eval.proofs.BundleLemmas.{value_fits}
use Rattle.plain_eval.proofs.WellFormedLemmas.{session_well_formed}

pub begins : (given : Given) (work : Work) → event_count (term given.phrase.now) < 2 ^ 32 → HasKeys (term given.phrase.now) given.root given.keys.now → todos work.steps.items ≡ run (term given.phrase.now) given.root 0 ∷ [] → work.made ≡ encoding (nonce given.nonce.now) → work.kept ≡ [] → work.codes.items ≡ [] → work.next ≡ 0 → Leads given work
begins given work few keys steps made kept codes next = record {
  current = nonce given.nonce.now;
  under = [];
  kept = [];
  made_is = made ∙ sym (append-nil (encoding (nonce given.nonce.now)));
  kept_is = kept;
  keyed = subst (λ (list : List Keyed). AreKeyed given.keys.now list) (sym codes) tt;
  make = subst (λ (s : List Todo). Make (makings_of given) (value_given given) s work.next (nonce given.nonce.now) [] []) (sym steps)
      (subst (λ (n : ℕ). Make (makings_of given) (value_given given) (run (term given.phrase.now) given.root 0 ∷ []) n (nonce given.nonce.now) [] []) (sym next)
      (refl, record { few = omega (arith, few); keys = keys }, (refl, refl)));
}

one_short : (b : Bool) (one other : List ℕ) → FitsAnswer one → FitsAnswer other → FitsAnswer (cond b one other)
one_short true one other f g = f
one_short false one other f g = g

answer_short : (answers : List (ℕ × List ℕ)) (event : ℕ) → AllShort answers → FitsAnswer (answer_at answers event)
answer_short [] event s = omega arith
answer_short (pair ∷ rest) event s = one_short (nat_eq pair.0 event) pair.1 (answer_at rest event) s.0 (answer_short rest event s.1)

pub all_more : (answers : List (ℕ × List ℕ)) (pair : ℕ × List ℕ) → AllShort answers → FitsAnswer pair.1 → AllShort (answers ++ pair ∷ [])
all_more [] pair s f = (f, tt)
all_more (first ∷ rest) pair s f = (s.0, all_more rest pair s.1 f)

leaf_short : (form : Leaf) (i : ℕ) (answers : List (ℕ × List ℕ)) → AllShort answers → HasShortAnswer form i answers
leaf_short cpy i answers s = tt
leaf_short sig i answers s = tt
leaf_short hsh i answers s = tt
leaf_short nul i answers s = tt
leaf_short (usm asp) i answers s = answer_short answers i s
leaf_short (kim target asp) i answers s = answer_short answers i s

phrase_short : (phrase : Term) (i : ℕ) (answers : List (ℕ × List ℕ)) → AllShort answers → HasShortAnswers phrase i answers
phrase_short (leaf form) i answers s = leaf_short form i answers s
phrase_short (at asked body) i answers s = phrase_short body (i + 1) answers s
phrase_short (chain left right) i answers s =
    (phrase_short left i answers s, phrase_short right (i + event_count left) answers s)
phrase_short (seq split left right) i answers s =
    (phrase_short left (i + 1) answers s, phrase_short right (i + 1 + event_count left) answers s)
phrase_short (par split left right) i answers s =
    (phrase_short left (i + 1) answers s, phrase_short right (i + 1 + event_count left) answers s)

pub bundles : (phrase : Term) (root : List ℕ) (from : Makings) → IsSized phrase → IsLight phrase → length from.nonce ≡ 16 → AllShort from.answers → IsBundleOf (bundle (session_value phrase root from)) (session_value phrase root from)
bundles phrase root from sized light n s = record {
  well_formed = session_well_formed phrase root from sized n (phrase_short phrase 0 from.answers s);
  fits = value_fits phrase root from light n (phrase_short phrase 0 from.answers s);
  spelled = refl;
}

-- what is spelled as the bundle of the value is one
pub spelled_so : {A : Type 0} (r : Result (List ℕ) A) (bytes : List ℕ) (value : Evidence) → bytes ≡ encoding value → IfOk r (λ made. made ≡ bundle_head ++ (be32 (length bytes) ++ bytes)) → IsBundleOf (bundle value) value → IfOk r (λ made. IsBundleOf made value)
spelled_so (Ok made) bytes value same is whole = record {
  well_formed = whole.well_formed;
  fits = whole.fits;
  spelled = is ∙ ap (λ (b : List ℕ). bundle_head ++ (be32 (length b) ++ b)) same;
}
spelled_so (Err e) bytes value same is whole = is
