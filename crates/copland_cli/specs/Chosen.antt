-- What the report of `choose` says of the sessions of a job. Its lines are this project's own: each ends with
-- LF, and numbers are decimal.
use Rattle.std.specs.Prelude.{◌≡◌, ◌++◌, ℕ, List, [], ◌∷◌, Option, None, Some, codes, decimal, slice_get}
use Rattle.phrase_reader.specs.Canonical.{canonical}
use Rattle.session_model.specs.Session.{Session}
use Rattle.release_policy.specs.declared.chosen.Choice.{Choice}
use Rattle.release_policy.specs.declared.denied.Denial.{Denial}
use Rattle.release_policy.specs.declared.rule.Rule.{Rule}
use Rattle.release_policy.specs.Choices.{Chooses}
use Rattle.release_policy.specs.PolicyText.{IsPolicyText}
use Rattle.report_text.specs.Sessions.{numbered}
use Rattle.copland_cli.specs.declared.ending.Ending.{Ending}
use Rattle.copland_cli.specs.declared.ending.Ending.TheVariants.{Good, Denied}

-- the index of the rule that decides, or "none"
abbrev pub rule_word : Option ℕ → List ℕ
rule_word None = codes "none"
rule_word (Some rule) = decimal rule

-- the end of a denial's line: its measurement, and the rule that decides
abbrev pub denied_text : Denial → List ℕ
denied_text denial =
    codes " leaf " ++ (decimal denial.leaf ++ (codes " rule " ++ (rule_word denial.rule ++ 10 ∷ [])))

-- the line of the first denial of a session of this number
abbrev pub denial_line : ℕ → Denial → List ℕ
denial_line number denial =
    codes "offer " ++ (decimal number ++ (codes " denied event " ++ (decimal denial.event ++ denied_text denial)))

-- the lines of the session of this number, with the canonical text of its phrase, where there is one
abbrev pub offer_lines : ℕ → Option Session → List ℕ
offer_lines number None = []
offer_lines number (Some session) =
    codes "chosen " ++ (decimal number ++ (codes "\nphrase " ++ (canonical session.phrase ++ 10 ∷ [])))

-- the lines of the session that is chosen, or that none is
abbrev pub chosen_text : List Session → Option ℕ → List ℕ
chosen_text sessions None = codes "chosen none\n"
chosen_text sessions (Some number) = offer_lines number (slice_get sessions number)

-- a line for each denial, and what is chosen
abbrev pub choice_text : List Session → List Denial → Option ℕ → List ℕ
choice_text sessions denials chosen = numbered denial_line 0 denials ++ chosen_text sessions chosen

-- how a report of a choice ends
abbrev pub ending_of_choice : Option ℕ → Ending
ending_of_choice None = Denied
ending_of_choice (Some number) = Good

-- the report says what the policy that a text spells chooses among the sessions, and ends by whether that is
-- any of them
pub record IsOfChoice (spelled : List ℕ) (sessions : List Session) (text : List ℕ) (ending : Ending) : Type 0 where
  pub policy : List Rule
  pub read : IsPolicyText spelled policy
  pub choice : Choice
  pub chooses : Chooses policy sessions choice
  pub reported : text ≡ choice_text sessions choice.denials.items choice.chosen
  pub ended : ending ≡ ending_of_choice choice.chosen
