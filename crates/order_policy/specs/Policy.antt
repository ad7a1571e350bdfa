-- The text of claims, and of policies: claims joined by semicolons.
use Rattle.std.specs.Prelude.{◌≡◌, ◌≤◌, ◌<◌, ◌⊎◌, ◌==◌, ℕ, List, [], ◌∷◌, ◌++◌, length, map, slice_index_or, All}
use Rattle.std.specs.List.{slice_split, join_with_byte}
use Rattle.phrase_tree.specs.Name.{IsName}
use Rattle.order_policy.specs.declared.claim.Ahead.{Ahead}
use Rattle.order_policy.specs.declared.claim.Ahead.TheVariants.{One, Every}
use Rattle.order_policy.specs.declared.claim.Claim.{Claim}
use Rattle.order_policy.specs.declared.claim.Service.{Service}
use Rattle.order_policy.specs.declared.policy.TheConstants.{CLAIMS}

-- a service that can be written
pub record IsNamed (wanted : Service) : Type 0 where
  pub name : IsName wanted.name
  pub place : IsName wanted.place

-- the name, `@` and the place
abbrev pub service_text : Service → List ℕ
service_text wanted = wanted.name ++ 64 ∷ wanted.place

-- `<`, and a second one where every measurement is to be ahead
abbrev pub second_mark : Ahead → List ℕ
second_mark One = []
second_mark Every = 60 ∷ []

-- the text of a claim: the earlier service, the marks, the later service
abbrev pub claim_text : Claim → List ℕ
claim_text claim = service_text claim.earlier ++ 60 ∷ (second_mark claim.ahead ++ service_text claim.later)

-- a claim that can be written
pub record IsClaim (claim : Claim) : Type 0 where
  pub earlier : IsNamed claim.earlier
  pub later : IsNamed claim.later

-- the text is that of the claim
pub record SpellsClaim (text : List ℕ) (claim : Claim) : Type 0 where
  pub named : IsClaim claim
  pub spelled : text ≡ claim_text claim

-- the text is that of some claim
abbrev pub IsClaimText : List ℕ → Type 0
IsClaimText text = (claim : Claim) × SpellsClaim text claim

-- the text is that of the policy: 1 to 64 claims, with `;` between them
pub record SpellsPolicy (text : List ℕ) (claims : List Claim) : Type 0 where
  pub some : 0 < length claims
  pub few : length claims ≤ CLAIMS
  pub named : All IsClaim claims
  pub spelled : text ≡ join_with_byte 59 (map claim_text claims)

-- the text is that of some policy
abbrev pub IsPolicyText : List ℕ → Type 0
IsPolicyText text = (claims : List Claim) × SpellsPolicy text claims

-- the parts of a text between its semicolons
abbrev pub parts_of : List ℕ → List (List ℕ)
parts_of text = slice_split (λ byte. byte == 59) text

-- the part at an index, counted from 0
abbrev pub part_at : List ℕ → ℕ → List ℕ
part_at text index = slice_index_or (parts_of text) index []

-- the first part of a text that is no claim, or that is one more than the greatest number of claims
pub record IsBadAt (text : List ℕ) (index : ℕ) : Type 0 where
  pub within : index < length (parts_of text)
  pub few : index ≤ CLAIMS
  pub ahead : (k : ℕ) → k < index → IsClaimText (part_at text k)
  pub wrong : (index ≡ CLAIMS) ⊎ (¬ IsClaimText (part_at text index))
