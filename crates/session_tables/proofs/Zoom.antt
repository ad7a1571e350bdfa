-- From a number of which a configuration says something to the part that says it, one part in another.
use Rattle.std.proofs.Common.{◌≡◌, ℕ, ◌+◌, ◌≤◌, ◌<◌, inl, inr, List, refl, sym, ◌∙◌, ap, subst, arith}
use Rattle.std.specs.Prelude.{Bool, true, false}
use Rattle.std.proofs.lemmas.Bool.{cases_lt, cases_eq}
use Rattle.phrase_tree.specs.Term.{Leaf, Term}
use Rattle.evidence_types.specs.Evidence.{Evidence}
use Rattle.session_model.specs.Value.{Makings}
use Rattle.avm_code.specs.declared.program.Block.{Block as CodeBlock}
use Rattle.session_runs.specs.Configuration.{Configuration, todo, asked, posted, remote, first, left_arm, right_arm, both_arms, finished}
use Rattle.session_runs.specs.Standing.{Block, of}
use Rattle.session_runs.proofs.ProgressLaws.{IsGoing}
use Rattle.session_tables.specs.Found.{View, unseen, asks_for, waits, seen_or, block_view, found}
use Rattle.session_tables.proofs.Starting.{going_or}
use Rattle.session_tables.proofs.Fitting.{Fits, if_other, if_same, seen_or_none, outside}
use Rattle.session_tables.proofs.Frames.{Spot, spot, Own, Cross, own_first, own_left, own_right, own_both, cross_remote, cross_arm}

-- something is said
abbrev pub IsSeen : View → Type 0
IsSeen unseen = ⊥
IsSeen _ = Unit {0}

pub seen_going : (name : Block) (c : Configuration) (n : ℕ) (v : View) → found name c n ≡ v → IsSeen v → IsGoing c
seen_going name c n v e seen = elim (going_or c) [
  | inl going ↦ going
  | inr w ↦ absurd (subst (λ u. IsSeen u) (sym e ∙ ap (λ d. found name d n) w.1) seen)
]

-- the number is in the range
pub record InRange (low high n : ℕ) : Type 0 where
  pub least : low ≤ n
  pub most : n < high

pub seen_in_range : (all : List CodeBlock) (name : Block) (place : List ℕ) (c : Configuration) (low high n : ℕ) (v : View) → Fits all place c low high → found name c n ≡ v → IsSeen v → InRange low high n
seen_in_range all name place c low high n v h e seen = elim (cases_lt n low) [
  | inl below ↦ absurd (subst (λ u. IsSeen u) (sym e ∙ outside all name place c low high n h (λ le. omega (arith, below, le))) seen)
  | inr least ↦ elim (cases_lt n high) [
    | inl most ↦ record { least = least; most = most }
    | inr above ↦ absurd (subst (λ u. IsSeen u) (sym e ∙ outside all name place c low high n h (λ le. above)) seen)
  ]
]

-- what holds of a number at the part that says something of it, and of each whole by its part, holds of the
-- configuration
pub record IsZoom (all : List CodeBlock) (from : Makings) (n : ℕ) (v : View) (P : Spot → Type 0) : Type 0 where
  pub at_ask : (name : Block) (place : List ℕ) (form : Leaf) (before : Evidence) (low high : ℕ) → Fits all place (asked form n before) low high → asks_for name ≡ v → P (spot name place (asked form n before) low high)
  pub at_post : (name : Block) (place asked_place : List ℕ) (body : Term) (before : Evidence) (low high : ℕ) → Fits all place (posted asked_place n body before) low high → waits before ≡ v → P (spot name place (posted asked_place n body before) low high)
  pub at_remote : (name : Block) (place asked_place : List ℕ) (last : ℕ) (inner : Configuration) (ended : Bool) (low high : ℕ) → Fits all place (remote asked_place n last inner ended) low high → block_view true inner ended ≡ v → P (spot name place (remote asked_place n last inner ended) low high)
  pub at_arm : (name : Block) (place : List ℕ) (last : ℕ) (l r : Configuration) (ended : Bool) (low high : ℕ) → Fits all place (both_arms n last l r ended) low high → block_view false r ended ≡ v → P (spot name place (both_arms n last l r ended) low high)
  pub in_own : (name : Block) (place : List ℕ) (c : Configuration) (low high : ℕ) (part : Configuration) (from_low from_high : ℕ) → Own all from name place c low high part from_low from_high → InRange from_low from_high n → P (spot name place part from_low from_high) → P (spot name place c low high)
  pub in_other : (s : Spot) (i : ℕ) (place : List ℕ) (c : Configuration) (low high : ℕ) → Cross all from s i place c low high → InRange low high n → P (spot (of i) place c low high) → P s

module _ (all : List CodeBlock) (from : Makings) (n : ℕ) (v : View) (seen : IsSeen v) (P : Spot → Type 0) (z : IsZoom all from n v P) where
  no_view : (Q : Type 0) (u : View) → u ≡ v → u ≡ unseen → Q
  no_view Q u e none = absurd (subst (λ w. IsSeen w) (sym e ∙ none) seen)

  in_range : (name : Block) (place : List ℕ) (c : Configuration) (low high : ℕ) → Fits all place c low high → found name c n ≡ v → InRange low high n
  in_range name place c low high h e = seen_in_range all name place c low high n v h e seen

  pub zoom : (name : Block) (place : List ℕ) (c : Configuration) (low high : ℕ) → Fits all place c low high → found name c n ≡ v → P (spot name place c low high)
  zoom name place (todo phrase i before) low high h e = no_view (P (spot name place (todo phrase i before) low high)) unseen e refl
  zoom name place (asked form i before) low high h e = elim (cases_eq n i) [
    | inl is ↦ subst (λ k. Fits all place (asked form k before) low high → P (spot name place (asked form k before) low high)) is (λ g. z.at_ask name place form before low high g (sym (if_same View n i (asks_for name) unseen is) ∙ e)) h
    | inr ne ↦ no_view (P (spot name place (asked form i before) low high)) _ e (if_other View n i (asks_for name) unseen ne)
  ]
  zoom name place (posted asked_place i body before) low high h e = elim (cases_eq n i) [
    | inl is ↦ subst (λ k. Fits all place (posted asked_place k body before) low high → P (spot name place (posted asked_place k body before) low high)) is (λ g. z.at_post name place asked_place body before low high g (sym (if_same View n i (waits before) unseen is) ∙ e)) h
    | inr ne ↦ no_view (P (spot name place (posted asked_place i body before) low high)) _ e (if_other View n i (waits before) unseen ne)
  ]
  zoom name place (remote asked_place i last inner true) low high h e = elim (cases_eq n i) [
    | inl is ↦ subst (λ k. Fits all place (remote asked_place k last inner true) low high → P (spot name place (remote asked_place k last inner true) low high)) is (λ g. z.at_remote name place asked_place last inner true low high g (sym (if_same View n i (block_view true inner true) (found (of i) inner n) is) ∙ e)) h
    | inr ne ↦ absurd (h.3 (seen_going (of i) inner n v (sym (if_other View n i (block_view true inner true) (found (of i) inner n) ne) ∙ e) seen))
  ]
  zoom name place (remote asked_place i last inner false) low high h e = elim (cases_eq n i) [
    | inl is ↦ subst (λ k. Fits all place (remote asked_place k last inner false) low high → P (spot name place (remote asked_place k last inner false) low high)) is (λ g. z.at_remote name place asked_place last inner false low high g (sym (if_same View n i (block_view true inner false) (found (of i) inner n) is) ∙ e)) h
    | inr ne ↦
        let below : found (of i) inner n ≡ v = sym (if_other View n i (block_view true inner false) (found (of i) inner n) ne) ∙ e in
        z.in_other (spot name place (remote asked_place i last inner false) low high) i asked_place inner (i + 1) last (cross_remote all from name place asked_place i last inner low high h) (in_range (of i) asked_place inner (i + 1) last h.4 below) (zoom (of i) asked_place inner (i + 1) last h.4 below)
  ]
  zoom name place (first inner right i) low high h e =
      z.in_own name place (first inner right i) low high inner low i (own_first all from name place inner right i low high h) (in_range name place inner low i h.4 e) (zoom name place inner low i h.4 e)
  zoom name place (left_arm inner right i before last) low high h e =
      z.in_own name place (left_arm inner right i before last) low high inner low i (own_left all from name place inner right i before last low high h (seen_going name inner n v e seen)) (in_range name place inner low i h.4 e) (zoom name place inner low i h.4 e)
  zoom name place (right_arm left_result inner last) low high h e =
      z.in_own name place (right_arm left_result inner last) low high inner low last (own_right all from name place left_result inner last low high h (seen_going name inner n v e seen)) (in_range name place inner low last h.1 e) (zoom name place inner low last h.1 e)
  zoom name place (both_arms i last l r ended) low high h e = elim (cases_eq n i) [
    | inl is ↦ subst (λ k. Fits all place (both_arms k last l r ended) low high → P (spot name place (both_arms k last l r ended) low high)) is (λ g. z.at_arm name place last l r ended low high g (sym (if_same View n i (block_view false r ended) (seen_or (found name l n) (found (of i) r n)) is) ∙ e)) h
    | inr ne ↦
        let both : seen_or (found name l n) (found (of i) r n) ≡ v = sym (if_other View n i (block_view false r ended) (seen_or (found name l n) (found (of i) r n)) ne) ∙ e in
        elim (cases_lt n h.4.0) [
          | inl below ↦
              let there : found name l n ≡ v = sym (ap (λ u. seen_or (found name l n) u) (outside all (of i) place r h.4.0 last n h.4.4 (λ g. omega (arith, g, below))) ∙ seen_or_none (found name l n)) ∙ both in
              z.in_own name place (both_arms i last l r ended) low high l (i + 1) h.4.0 (own_both all from name place i last l r ended low high h (seen_going name l n v there seen)) (in_range name place l (i + 1) h.4.0 h.4.3 there) (zoom name place l (i + 1) h.4.0 h.4.3 there)
          | inr above ↦
              let there : found (of i) r n ≡ v = sym (ap (λ u. seen_or u (found (of i) r n)) (outside all name place l (i + 1) h.4.0 n h.4.3 (λ g. above))) ∙ both in
              in_arm name place i last l r ended low high h there (zoom (of i) place r h.4.0 last h.4.4 there)
        ]
  ]
    where
      in_arm : (name : Block) (place : List ℕ) (i last : ℕ) (l r : Configuration) (ended : Bool) (low high : ℕ) (h : Fits all place (both_arms i last l r ended) low high) → found (of i) r n ≡ v → P (spot (of i) place r h.4.0 last) → P (spot name place (both_arms i last l r ended) low high)
      in_arm name place i last l r true low high h there p = absurd (h.3 (seen_going (of i) r n v there seen))
      in_arm name place i last l r false low high h there p =
          z.in_other (spot name place (both_arms i last l r false) low high) i place r h.4.0 last (cross_arm all from name place i last l r low high h) (in_range (of i) place r h.4.0 last h.4.4 there) p
  zoom name place (finished result) low high h e = no_view (P (spot name place (finished result) low high)) unseen e refl
