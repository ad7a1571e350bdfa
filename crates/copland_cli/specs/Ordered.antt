-- What the report of `order` says of the sessions of a job.
use Rattle.std.specs.Prelude.{◌≡◌, ◌||◌, ◌++◌, not, ℕ, List, [], ◌∷◌, Bool, true, false}
use Rattle.std.specs.List.{AllZip}
use Rattle.session_model.specs.Session.{Session}
use Rattle.order_policy.specs.declared.claim.Claim.{Claim}
use Rattle.order_policy.specs.declared.judgement.Judgement.{Judgement}
use Rattle.order_policy.specs.Judged.{IsJudged, is_holding}
use Rattle.order_policy.specs.Lines.{judgements_text}
use Rattle.order_policy.specs.Policy.{SpellsPolicy}
use Rattle.report_text.specs.Sessions.{numbered}
use Rattle.copland_cli.specs.declared.ending.Ending.{Ending}
use Rattle.copland_cli.specs.declared.ending.Ending.TheVariants.{Good, ClaimBroken}

-- what is found of each claim in a session is so
abbrev pub AreJudged : List Claim → Session → List Judgement → Type 0
AreJudged claims session found = AllZip (IsJudged session.phrase session.root) claims found

-- the lines of what is found in a session of this number
abbrev pub found_text : ℕ → List Judgement → List ℕ
found_text number found = judgements_text number 0 found

-- one of the claims is broken
abbrev pub is_broken : List Judgement → Bool
is_broken [] = false
is_broken (judgement ∷ rest) = not (is_holding judgement) || is_broken rest

-- in one of the sessions one of the claims is broken
abbrev pub some_broken : List (List Judgement) → Bool
some_broken [] = false
some_broken (found ∷ rest) = is_broken found || some_broken rest

-- how a report of claims ends
abbrev pub ending_of_claims : Bool → Ending
ending_of_claims true = ClaimBroken
ending_of_claims false = Good

-- each claim is judged in each session, in their order: these are the lines, and whether one is broken
pub record SaysOfClaims (claims : List Claim) (sessions : List Session) (text : List ℕ) (broken : Bool) : Type 0 where
  pub judgements : List (List Judgement)
  pub each : AllZip (AreJudged claims) sessions judgements
  pub reported : text ≡ numbered found_text 0 judgements
  pub some : broken ≡ some_broken judgements

-- the report judges the claims that a text spells, and ends by whether one of them is broken in a session
pub record IsOfClaims (spelled : List ℕ) (sessions : List Session) (text : List ℕ) (ending : Ending) : Type 0 where
  pub claims : List Claim
  pub policy : SpellsPolicy spelled claims
  pub broken : Bool
  pub said : SaysOfClaims claims sessions text broken
  pub ended : ending ≡ ending_of_claims broken

-- to a text the lines of what is found in one session are added
pub record IsFoundIn (claims : List Claim) (session : Session) (number : ℕ) (before after : List ℕ) (broken : Bool) : Type 0 where
  pub found : List Judgement
  pub judged : AreJudged claims session found
  pub added : after ≡ before ++ found_text number found
  pub is : broken ≡ is_broken found
