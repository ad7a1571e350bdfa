-- How a text is read from its front: what stands ahead of a mark, and behind it.
use Rattle.std.specs.Prelude.{◌≡◌, ◌≢◌, ◌<◌, ℕ, List, [], ◌∷◌, ◌++◌, length, map, slice_index, All}
use Rattle.order_policy.specs.declared.claim.Ahead.{Ahead}
use Rattle.order_policy.specs.declared.claim.Claim.{Claim}
use Rattle.order_policy.specs.declared.claim.Service.{Service}
use Rattle.order_policy.specs.declared.policy.PolicyError.{PolicyError}
use Rattle.order_policy.specs.declared.policy.PolicyError.TheVariants.{Bad, NoMemory}
use Rattle.order_policy.specs.Policy.{IsNamed, service_text, second_mark, claim_text, IsClaim, SpellsClaim, IsClaimText, parts_of, IsBadAt}

-- the mark doesn't stand in the text
abbrev pub Lacks : ℕ → List ℕ → Type 0
Lacks mark text = (k : ℕ) → k < length text → slice_index text k ≢ mark

-- the text is what stands ahead of the first such mark, the mark, and what stands behind it
pub record Cuts (mark : ℕ) (text front rest : List ℕ) : Type 0 where
  pub whole : text ≡ front ++ mark ∷ rest
  pub first : Lacks mark front

-- the text is that of the service
pub record SpellsService (text : List ℕ) (wanted : Service) : Type 0 where
  pub named : IsNamed wanted
  pub spelled : text ≡ service_text wanted

-- the text is that of some service
abbrev pub IsServiceText : List ℕ → Type 0
IsServiceText text = (wanted : Service) × SpellsService text wanted

-- what may stand behind the first `<` of a claim
pub record SpellsLater (text : List ℕ) (ahead : Ahead) (later : Service) : Type 0 where
  pub named : IsNamed later
  pub spelled : text ≡ second_mark ahead ++ service_text later

-- something may stand there
abbrev pub IsLaterText : List ℕ → Type 0
IsLaterText text = (ahead : Ahead) × ((later : Service) × SpellsLater text ahead later)

-- these claims are the first parts of a text, and what is left of it has the others
pub record IsReadAs (text : List ℕ) (number : ℕ) (rest : List ℕ) (passed : List Claim) : Type 0 where
  pub parts : parts_of text ≡ map claim_text passed ++ parts_of rest
  pub named : All IsClaim passed
  pub counted : length passed ≡ number

-- some claims are the first parts of a text, so many of them
abbrev pub IsRead : List ℕ → ℕ → List ℕ → Type 0
IsRead text number rest = (passed : List Claim) × IsReadAs text number rest passed

-- why a part is not read as a claim
abbrev pub IsPartError : List ℕ → ℕ → PolicyError → Type 0
IsPartError part number (Bad claim) = (claim ≡ number) × (¬ IsClaimText part)
IsPartError part number NoMemory = Unit {0}

-- why a text is not read as a policy
abbrev pub IsReadError : List ℕ → PolicyError → Type 0
IsReadError text (Bad claim) = IsBadAt text claim
IsReadError text NoMemory = Unit {0}

-- a claim is added that the part spells
abbrev pub AddsClaim : List ℕ → List Claim → List Claim → Type 0
AddsClaim part old new = (claim : Claim) × (SpellsClaim part claim × (new ≡ old ++ claim ∷ []))
