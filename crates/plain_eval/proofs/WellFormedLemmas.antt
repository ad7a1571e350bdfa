-- The value of a phrase is well formed.
use Rattle.std.proofs.Common.{◌≡◌, ℕ, ◌+◌, ◌^◌, ◌<◌, ◌≤◌, Bool, true, false, List, length, arith}
use Rattle.phrase_tree.specs.Term.{Term, Leaf, cpy, sig, hsh, nul, usm, kim, leaf, at, chain, seq, par}
use Rattle.phrase_tree.specs.Numbering.{event_count, IsSized}
use Rattle.evidence_types.specs.Bytes.{encoding}
use Rattle.evidence_types.specs.Evidence.{Evidence, nonce}
use Rattle.evidence_types.specs.WellFormed.{IsWellFormed}
use Rattle.seal_hmac.specs.Keys.{key_at}
use Rattle.seal_hmac.proofs.Lengths.{length-seal_of, length-hash_of}
use Rattle.session_model.specs.Short.{HasShortAnswer, HasShortAnswers}
use Rattle.session_model.specs.Value.{Makings, part, leaf_value, value_of, session_value}

part_well_formed : (all : Bool) (before : Evidence) → IsWellFormed before → IsWellFormed (part all before)
part_well_formed true before w = w
part_well_formed false before w = tt

leaf_well_formed : (form : Leaf) (place : List ℕ) (i : ℕ) (before : Evidence) (from : Makings) → i < 2 ^ 32 → IsWellFormed before → HasShortAnswer form i from.answers → IsWellFormed (leaf_value form place i before from)
leaf_well_formed cpy place i before from lt w h = w
leaf_well_formed sig place i before from lt w h = (lt, length-seal_of (key_at from.keys place) place from.nonce i (encoding before), w)
leaf_well_formed hsh place i before from lt w h = (lt, length-hash_of (encoding before))
leaf_well_formed nul place i before from lt w h = tt
leaf_well_formed (usm asp) place i before from lt w h = (lt, h, w)
leaf_well_formed (kim target asp) place i before from lt w h = (lt, h, w)

value_well_formed : (phrase : Term) (place : List ℕ) (i : ℕ) (before : Evidence) (from : Makings) → i + event_count phrase ≤ 2 ^ 32 → IsWellFormed before → HasShortAnswers phrase i from.answers → IsWellFormed (value_of phrase place i before from)
value_well_formed (leaf form) place i before from lt w h = leaf_well_formed form place i before from (omega (arith, lt)) w h
value_well_formed (at asked body) place i before from lt w h = value_well_formed body asked (i + 1) before from (omega (arith, lt)) w h
value_well_formed (chain left right) place i before from lt w h =
    value_well_formed right place (i + event_count left) (value_of left place i before from) from (omega (arith, lt)) (value_well_formed left place i before from (omega (arith, lt)) w h.0) h.1
value_well_formed (seq split left right) place i before from lt w h = (
  value_well_formed left place (i + 1) (part split.left before) from (omega (arith, lt)) (part_well_formed split.left before w) h.0,
  value_well_formed right place (i + 1 + event_count left) (part split.right before) from (omega (arith, lt)) (part_well_formed split.right before w) h.1,
)
value_well_formed (par split left right) place i before from lt w h = (
  value_well_formed left place (i + 1) (part split.left before) from (omega (arith, lt)) (part_well_formed split.left before w) h.0,
  value_well_formed right place (i + 1 + event_count left) (part split.right before) from (omega (arith, lt)) (part_well_formed split.right before w) h.1,
)

pub session_well_formed : (phrase : Term) (root : List ℕ) (from : Makings) → IsSized phrase → length from.nonce ≡ 16 → HasShortAnswers phrase 0 from.answers → IsWellFormed (session_value phrase root from)
session_well_formed phrase root from sized n short = value_well_formed phrase root 0 (nonce from.nonce) from (omega (arith, sized.events)) n short
