-- The texts of arguments, one after another.
use Rattle.std.proofs.Common.{◌≡◌, ℕ, List, [], ◌∷◌, ◌++◌, refl, sym, ap, ◌∙◌, append_assoc}
use Rattle.phrase_tree.specs.declared.measurement.Arg.{Arg}
use Rattle.bench_trait.specs.Digest.{arg_text, args_text}

args_text-append : (args more : List Arg) → args_text (args ++ more) ≡ args_text args ++ args_text more
args_text-append [] more = refl
args_text-append (arg ∷ rest) more =
    ap (λ text. arg_text arg ++ (0 ∷ text)) (args_text-append rest more)
    ∙ sym (append_assoc (arg_text arg) (0 ∷ args_text rest) (args_text more))

-- the texts up to one argument more, behind what was fed before
pub fed_more : (fed : List ℕ) (args done : List Arg) (arg : Arg) → done ≡ args ++ arg ∷ [] → (fed ++ args_text args) ++ (arg_text arg ++ 0 ∷ []) ≡ fed ++ args_text done
fed_more fed args done arg is =
    append_assoc fed (args_text args) (arg_text arg ++ 0 ∷ [])
    ∙ ap (λ text. fed ++ text) (sym (args_text-append args (arg ∷ [])) ∙ ap (λ all. args_text all) (sym is))
