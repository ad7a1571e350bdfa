-- Disclosures and denials that were worked outside this project: an edit of the definitions is refused here.
use Rattle.std.proofs.Common.{◌≡◌, ℕ, List, [], ◌∷◌, Option, None, Some, true, refl}
use Rattle.std.specs.Prelude.{codes}
use Rattle.phrase_tree.specs.declared.measurement.Asp.{Asp}
use Rattle.phrase_tree.specs.Term.{Term, sig, hsh, nul, usm, kim, leaf, at, chain, seq}
use Rattle.session_model.specs.Session.{Session}
use Rattle.release_policy.specs.declared.denied.Denial.{Denial}
use Rattle.release_policy.specs.declared.held.Cover.TheVariants.{Bare, Sealed, Hashed}
use Rattle.release_policy.specs.declared.rule.Mode.{Mode}
use Rattle.release_policy.specs.declared.rule.Mode.TheVariants.{FromBare, FromSealed, FromHashed, Never}
use Rattle.release_policy.specs.declared.rule.Rule.{Rule}
use Rattle.release_policy.specs.Covered.{held}
use Rattle.release_policy.specs.Denials.{first_denial}
use Rattle.release_policy.specs.Disclosures.{disclosures}
use Rattle.release_policy.specs.PolicyText.{parts, rule_text}

abbrev bank : List ℕ
bank = codes "bank"

abbrev q : List ℕ
q = codes "q"

abbrev ks : List ℕ
ks = codes "ks"

abbrev us : List ℕ
us = codes "us"

abbrev asp : List ℕ → Asp
asp name = record { name = name; args = [] }

abbrev of_bank : Term → Session
of_bank phrase = record { root = bank; nonce = []; phrase = phrase }

-- @ks [KIM us kernel -> SIG] +<+ @us [USM scanner -> USM files -> SIG]
abbrev two_services : Session
two_services =
    of_bank
    (seq (record { left = true; right = true })
    (at ks (chain (leaf (kim us (asp (codes "kernel")))) (leaf sig)))
    (at us (chain (chain (leaf (usm (asp (codes "scanner")))) (leaf (usm (asp (codes "files"))))) (leaf sig))))

-- USM a -> @q [USM scan -> HSH -> SIG]
abbrev sent_and_hashed : Session
sent_and_hashed =
    of_bank
    (chain (leaf (usm (asp (codes "a")))) (at q (chain (chain (leaf (usm (asp (codes "scan")))) (leaf hsh)) (leaf sig))))

abbrev rule : Option (List ℕ) → Option (List ℕ) → Mode → Option (List ℕ) → Rule
rule place measurement mode receiver =
    record { place = place; measurement = measurement; mode = mode; receiver = receiver }

abbrev any : Option (List ℕ)
any = None

abbrev denial : ℕ → ℕ → Option ℕ → Option Denial
denial event measurement rule = Some (record { event = event; leaf = measurement; rule = rule })

-- nothing goes to the places that are asked, and each reply is to the bank, the latest measurement first
each_reply_of_two_services : disclosures two_services ≡
    record { event = 4; what = held 2 ks (codes "kernel") Sealed; receiver = bank }
    ∷ record { event = 9; what = held 7 us (codes "files") Sealed; receiver = bank }
    ∷ record { event = 9; what = held 6 us (codes "scanner") Sealed; receiver = bank } ∷ []
each_reply_of_two_services = refl

a_request_and_a_reply : disclosures sent_and_hashed ≡
    record { event = 1; what = held 0 bank (codes "a") Bare; receiver = q }
    ∷ record { event = 5; what = held 2 q (codes "scan") Hashed; receiver = bank }
    ∷ record { event = 5; what = held 0 bank (codes "a") Hashed; receiver = bank } ∷ []
a_request_and_a_reply = refl

-- ks:kernel=seal>bank;us:scanner=seal>bank
no_rule_for_the_files : first_denial (rule (Some ks) (Some (codes "kernel")) FromSealed (Some bank) ∷ rule (Some us) (Some (codes "scanner")) FromSealed (Some bank) ∷ []) two_services ≡ denial 9 7 None
no_rule_for_the_files = refl

-- ks:kernel=seal>bank;us:*=seal>*
all_of_us_sealed : first_denial (rule (Some ks) (Some (codes "kernel")) FromSealed (Some bank) ∷ rule (Some us) any FromSealed any ∷ []) two_services ≡ None
all_of_us_sealed = refl

-- ks:kernel=hash>bank;*:*=bare>*
the_second_rule_is_not_looked_at : first_denial (rule (Some ks) (Some (codes "kernel")) FromHashed (Some bank) ∷ rule any any FromBare any ∷ []) two_services ≡ denial 4 2 (Some 0)
the_second_rule_is_not_looked_at = refl

-- *:*=none>*, over USM a
nothing_leaves_the_bank : first_denial (rule any any Never any ∷ []) (of_bank (leaf (usm (asp (codes "a"))))) ≡ None
nothing_leaves_the_bank = refl

-- bank:a=bare>q;q:*=hash>*;*:*=none>*
what_comes_back_home_is_allowed : first_denial (rule (Some bank) (Some (codes "a")) FromBare (Some q) ∷ rule (Some q) any FromHashed any ∷ rule any any Never any ∷ []) sent_and_hashed ≡ None
what_comes_back_home_is_allowed = refl

-- q:*=bare>*, over USM a -> @q [NUL]
what_is_sent_and_forgotten : first_denial (rule (Some q) any FromBare any ∷ []) (of_bank (chain (leaf (usm (asp (codes "a")))) (at q (leaf nul)))) ≡ denial 1 0 None
what_is_sent_and_forgotten = refl

the_text_of_a_rule : rule_text (rule (Some us) any FromSealed (Some bank)) ≡ codes "us:*=seal>bank"
the_text_of_a_rule = refl

one_part_more_than_semicolons : parts (codes "a;;b;") ≡ codes "a" ∷ [] ∷ codes "b" ∷ [] ∷ []
one_part_more_than_semicolons = refl
