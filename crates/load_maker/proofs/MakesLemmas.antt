-- What is made, from what its parts are.
use Rattle.std.proofs.Common.{◌≡◌, ℕ, Option, Result, Ok, Err, IfOk, ◌∙◌}
use Rattle.phrase_tree.specs.declared.memory.NoMemory.{NoMemory}
use Rattle.load_maker.specs.Made.{Made, Makes}

pub makes : {A B : Type 0} (seen : A → B) (meant : Made B) (answer : Result A NoMemory) (from : Option ℕ) (thing : B) → IfOk answer (λ x. seen x ≡ thing) → thing ≡ meant.thing → from ≡ meant.from → Makes seen meant answer from
makes seen meant (Ok x) from thing h e g = (h ∙ e, g)
makes seen meant (Err refusal) from thing h e g = tt
