-- Lists of codes that were keyed with the keys of their places.
use Rattle.std.proofs.Common.{◌≡◌, ◌<◌, ℕ, zero, suc, List, [], ◌∷◌, ◌++◌, length, get_or, sym, subst, arith}
use Rattle.seal_hmac.specs.Fed.{Feeds}
use Rattle.seal_hmac.specs.Keys.{key_at}
use Rattle.plain_eval.specs.Codes.{AreKeyed}
use Rattle.plain_eval.specs.declared.keyed.Keyed.{Keyed}

pub keyed_at : (keys : List (List ℕ × List ℕ)) (codes : List Keyed) (index : ℕ) (one : Keyed) → AreKeyed keys codes → index < length codes → one ≡ get_or codes index one → Feeds (key_at keys one.place) [] one.mac
keyed_at keys [] index one k l e = let no : ⊥ = omega (arith, l) in absurd no
keyed_at keys (code ∷ codes) zero one k l e = subst (λ (c : Keyed). Feeds (key_at keys c.place) [] c.mac) (sym e) k.0
keyed_at keys (code ∷ codes) (suc index) one k l e = keyed_at keys codes index one k.1 (omega (arith, l)) e

pub keyed_more : (keys : List (List ℕ × List ℕ)) (codes : List Keyed) (one : Keyed) → AreKeyed keys codes → Feeds (key_at keys one.place) [] one.mac → AreKeyed keys (codes ++ one ∷ [])
keyed_more keys [] one k f = (f, tt)
keyed_more keys (code ∷ codes) one k f = (k.0, keyed_more keys codes one k.1 f)
