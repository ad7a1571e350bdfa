-- The value of a phrase (POST 2019, the evidence of a phrase; seals and hashes are this project's own).
use Rattle.std.specs.Prelude.{◌+◌, ℕ, Bool, List, if◌then◌else◌}
use Rattle.phrase_tree.specs.Term.{Term, Leaf, cpy, sig, hsh, nul, usm, kim, leaf, at, chain, seq, par}
use Rattle.phrase_tree.specs.Numbering.{event_count}
use Rattle.evidence_types.specs.Answers.{answer_at}
use Rattle.evidence_types.specs.Bytes.{encoding}
use Rattle.evidence_types.specs.Evidence.{Evidence, empty, nonce, usm as measured, kim as measured_at, seal, hash, seq_pair, par_pair}
use Rattle.seal_hmac.specs.Keys.{key_at}
use Rattle.seal_hmac.specs.Seal.{seal_of, hash_of}

-- what a value is made from: the nonce of the session, the answers by event, and the keys by place
pub record Makings : Type 0 where
  pub nonce : List ℕ
  pub answers : List (ℕ × List ℕ)
  pub keys : List (List ℕ × List ℕ)

-- what an arm gets of the evidence: all, or none
abbrev pub part : Bool → Evidence → Evidence
part all before = if all then before else empty

-- the value of a leaf that a place runs under a number, on the evidence before it
abbrev pub leaf_value : Leaf → List ℕ → ℕ → Evidence → Makings → Evidence
leaf_value cpy place i before from = before
leaf_value sig place i before from =
    seal i (seal_of (key_at from.keys place) place from.nonce i (encoding before)) before
leaf_value hsh place i before from = hash i (hash_of (encoding before))
leaf_value nul place i before from = empty
leaf_value (usm asp) place i before from = measured i (answer_at from.answers i) before
leaf_value (kim target asp) place i before from = measured_at i (answer_at from.answers i) before

-- the value of a phrase that a place runs from a number on, on the evidence before it
abbrev pub value_of : Term → List ℕ → ℕ → Evidence → Makings → Evidence
value_of (leaf form) place i before from = leaf_value form place i before from
value_of (at asked body) place i before from = value_of body asked (i + 1) before from
value_of (chain left right) place i before from =
    value_of right place (i + event_count left) (value_of left place i before from) from
value_of (seq split left right) place i before from =
    seq_pair
    (value_of left place (i + 1) (part split.left before) from)
    (value_of right place (i + 1 + event_count left) (part split.right before) from)
value_of (par split left right) place i before from =
    par_pair
    (value_of left place (i + 1) (part split.left before) from)
    (value_of right place (i + 1 + event_count left) (part split.right before) from)

-- the value of a session's phrase, which starts at its root with the number 0 and on the nonce
abbrev pub session_value : Term → List ℕ → Makings → Evidence
session_value phrase root from = value_of phrase root 0 (nonce from.nonce) from
