-- The value of a light phrase fits a bundle.
use Rattle.std.proofs.Common.{◌≡◌, ℕ, List, length, sym, subst}
use Rattle.phrase_tree.specs.Term.{Term}
use Rattle.evidence_types.specs.Amount.{amount}
use Rattle.evidence_types.specs.Bytes.{FitsBundle}
use Rattle.evidence_types.specs.Evidence.{nonce}
use Rattle.evidence_types.specs.Measure.{IsLight, StaysWithin}
use Rattle.evidence_types.proofs.WithinLemmas.{amount-nonce, light_stays}
use Rattle.session_model.specs.Short.{HasShortAnswers}
use Rattle.session_model.specs.Value.{Makings, session_value}
use Rattle.session_model.proofs.AmountLemmas.{value_fits_bundle}

pub value_fits : (phrase : Term) (root : List ℕ) (from : Makings) → IsLight phrase → length from.nonce ≡ 16 → HasShortAnswers phrase 0 from.answers → FitsBundle (session_value phrase root from)
value_fits phrase root from light n short =
    value_fits_bundle phrase root 0 (nonce from.nonce) from short (λ m. subst (λ count. StaysWithin m phrase count) (sym (amount-nonce m from.nonce n)) (light_stays m phrase light))
