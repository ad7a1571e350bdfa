use Rattle.std.proofs.Common.{◌≡◌, ◌<◌, ◌≤◌, ◌∙◌, ℕ, List, [], true, nat_lt, length, ap, arith}
use Rattle.std.proofs.lemmas.Bool.{ltb-true}
use Rattle.session_book.proofs.tests.can_happen.Goals as goal

fewer : (found kept : List ℕ) (room : ℕ) → found ≡ kept → 4 ≤ room → nat_lt (length found) 4 ≡ true → length kept < room
fewer found kept room same enough few = omega (arith, ltb-true (length found) 4 few, ap length same, enough)

pub returns-in-Ok : goal.returns-in-Ok
returns-in-Ok c = fewer c.items.result.now _ _ (c.items.ensures ∙ c.in-Ok.ensures []) c.requires.trace
