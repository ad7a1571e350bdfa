-- The words of the program's commands.
use Rattle.std.specs.Prelude.{◌≡◌, ◌^◌, ◌<◌, ◌≤◌, ℕ, List, [], ◌∷◌, codes, decimal, map, String, string_bytes}
use Rattle.order_policy.specs.Policy.{IsPolicyText}
use Rattle.release_policy.specs.PolicyText.{HasPolicy}
use Rattle.copland_cli.specs.Command.{Command, Check, Shape, Events, Code, Eval, Walk, Order, Choose, Attest, Appraise, Upgrade, Load, Audit, Record}

-- words as texts
abbrev pub texts : {A : Type 0} → List (String A) → List (List ℕ)
texts words = map (λ word. string_bytes word) words

-- the words of a command, and no others; a number stands in decimal without leading zeros, and a text has its
-- own form
abbrev pub Spells : List (List ℕ) → Command → Type 0
Spells words Check = words ≡ codes "check" ∷ []
Spells words Shape = words ≡ codes "shape" ∷ []
Spells words Events = words ≡ codes "events" ∷ []
Spells words Code = words ≡ codes "code" ∷ []
Spells words Eval = words ≡ codes "eval" ∷ []
Spells words (Walk number) = (words ≡ codes "walk" ∷ decimal number ∷ []) × (number < 2 ^ 32)
Spells words (Order text) = (words ≡ codes "order" ∷ text ∷ []) × IsPolicyText text
Spells words (Choose text) = (words ≡ codes "choose" ∷ text ∷ []) × HasPolicy text
Spells words (Attest workers) =
    (words ≡ codes "attest" ∷ codes "--workers" ∷ decimal workers ∷ []) × (1 ≤ workers) × (workers ≤ 16)
Spells words Appraise = words ≡ codes "appraise" ∷ []
Spells words Upgrade = words ≡ codes "upgrade" ∷ []
Spells words (Load number) = (words ≡ codes "load" ∷ decimal number ∷ []) × (number < 2 ^ 32)
Spells words Audit = words ≡ codes "audit" ∷ []
Spells words (Record number) = (words ≡ codes "record" ∷ decimal number ∷ []) × (number < 2 ^ 32)

-- the words are those of no command
abbrev pub IsNoCommand : List (List ℕ) → Type 0
IsNoCommand words = (command : Command) → Spells words command → ⊥

-- the words are those of no command that is known here
abbrev pub IsBadWords : (Command → Type 0) → List (List ℕ) → Type 0
IsBadWords Known words = (command : Command) → Spells words command → ¬ Known command

-- the text is that of no number of 32 bits
abbrev pub IsNoNumber : List ℕ → Type 0
IsNoNumber text = (number : ℕ) → number < 2 ^ 32 → text ≡ decimal number → ⊥
