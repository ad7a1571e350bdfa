-- A phrase that starts, and a chain that goes on: their code, evidence and stack are those of the phrase, and nothing of
-- them is seen in another block.
use Rattle.std.proofs.Common.{◌≡◌, ℕ, ◌+◌, ◌⊎◌, inl, inr, List, refl}
use Rattle.std.specs.Prelude.{Some}
use Rattle.phrase_tree.specs.Term.{Term, leaf, at, chain, seq, par}
use Rattle.phrase_tree.specs.Numbering.{event_count}
use Rattle.evidence_types.specs.Evidence.{Evidence}
use Rattle.avm_code.specs.declared.instr.Instr.{Instr}
use Rattle.avm_compile.specs.Program.{code_of}
use Rattle.session_runs.specs.Configuration.{Configuration, todo, asked, posted, remote, first, left_arm, right_arm, both_arms, finished, start, once_finished, followed_by}
use Rattle.session_runs.specs.Standing.{Block}
use Rattle.session_runs.proofs.ProgressLaws.{IsGoing}
use Rattle.session_tables.specs.Left.{code_left, held, stack_left}
use Rattle.session_tables.specs.Found.{unseen, found}

-- the phrase isn't a chain
abbrev pub IsNoChain : Term → Type 0
IsNoChain (chain left right) = ⊥
IsNoChain _ = Unit {0}

-- what holds of a phrase of which nothing has happened, and of a chain by its left part, holds of a phrase that starts
pub start_law : (P : Term → ℕ → Evidence → Configuration → Type 0) → ((phrase : Term) (i : ℕ) (before : Evidence) → IsNoChain phrase → P phrase i before (todo phrase i before)) → ((left right : Term) (i : ℕ) (before : Evidence) → P left i before (start left i before) → P (chain left right) i before (first (start left i before) right (i + event_count left))) → (phrase : Term) (i : ℕ) (before : Evidence) → P phrase i before (start phrase i before)
start_law P one more (leaf form) i before = one (leaf form) i before tt
start_law P one more (at place body) i before = one (at place body) i before tt
start_law P one more (chain left right) i before = more left right i before (start_law P one more left i before)
start_law P one more (seq split left right) i before = one (seq split left right) i before tt
start_law P one more (par split left right) i before = one (par split left right) i before tt

-- what holds of a chain whose left part goes on, and of a right part that starts, holds of a chain that goes on
pub followed_law : (right : Term) (i : ℕ) (P : Configuration → Configuration → Type 0) → ((c : Configuration) → IsGoing c → P c (first c right i)) → ((result : Evidence) → P (finished result) (start right i result)) → (c : Configuration) → P c (followed_by c right i)
followed_law right i P going over (todo phrase j before) = going (todo phrase j before) tt
followed_law right i P going over (asked phrase j before) = going (asked phrase j before) tt
followed_law right i P going over (posted asked_place j body before) = going (posted asked_place j body before) tt
followed_law right i P going over (remote asked_place j last inner ended) = going (remote asked_place j last inner ended) tt
followed_law right i P going over (first inner other j) = going (first inner other j) tt
followed_law right i P going over (left_arm inner other j before last) = going (left_arm inner other j before last) tt
followed_law right i P going over (right_arm left_result inner last) = going (right_arm left_result inner last) tt
followed_law right i P going over (both_arms j last left other ended) = going (both_arms j last left other ended) tt
followed_law right i P going over (finished result) = over result

-- finished or not
pub going_or : (c : Configuration) → IsGoing c ⊎ ((result : Evidence) × (c ≡ finished result))
going_or (todo phrase j before) = inl tt
going_or (asked phrase j before) = inl tt
going_or (posted asked_place j body before) = inl tt
going_or (remote asked_place j last inner ended) = inl tt
going_or (first inner other j) = inl tt
going_or (left_arm inner other j before last) = inl tt
going_or (right_arm left_result inner last) = inl tt
going_or (both_arms j last left other ended) = inl tt
going_or (finished result) = inr (result, refl)

pub until_finished : (A : Type 0) (until : A) (then_do : Evidence → A) (c : Configuration) → IsGoing c → once_finished c until then_do ≡ until
until_finished A until then_do (todo phrase j before) g = refl
until_finished A until then_do (asked phrase j before) g = refl
until_finished A until then_do (posted asked_place j body before) g = refl
until_finished A until then_do (remote asked_place j last inner ended) g = refl
until_finished A until then_do (first inner other j) g = refl
until_finished A until then_do (left_arm inner other j before last) g = refl
until_finished A until then_do (right_arm left_result inner last) g = refl
until_finished A until then_do (both_arms j last left other ended) g = refl
until_finished A until then_do (finished result) g = absurd g

pub start_going : (phrase : Term) (i : ℕ) (before : Evidence) → IsGoing (start phrase i before)
start_going = start_law (λ phrase i before c. IsGoing c) (λ phrase i before no_chain. tt) (λ left right i before h. tt)

pub start_code : (phrase : Term) (i : ℕ) (before : Evidence) (behind : List Instr) → code_left (start phrase i before) behind ≡ code_of phrase i behind
start_code =
    start_law (λ phrase i before c. (behind : List Instr) → code_left c behind ≡ code_of phrase i behind)
    (λ phrase i before no_chain behind. refl)
    (λ left right i before h behind. h (code_of right (i + event_count left) behind))

pub start_held : (phrase : Term) (i : ℕ) (before : Evidence) → held (start phrase i before) ≡ Some before
start_held = start_law (λ phrase i before c. held c ≡ Some before) (λ phrase i before no_chain. refl) (λ left right i before h. h)

pub start_stack : (phrase : Term) (i : ℕ) (before : Evidence) (under : List Evidence) → stack_left (start phrase i before) under ≡ under
start_stack =
    start_law (λ phrase i before c. (under : List Evidence) → stack_left c under ≡ under)
    (λ phrase i before no_chain under. refl)
    (λ left right i before h. h)

pub start_found : (name : Block) (n : ℕ) (phrase : Term) (i : ℕ) (before : Evidence) → found name (start phrase i before) n ≡ unseen
start_found name n =
    start_law (λ phrase i before c. found name c n ≡ unseen)
    (λ phrase i before no_chain. refl)
    (λ left right i before h. h)

pub followed_code : (right : Term) (i : ℕ) (c : Configuration) (behind : List Instr) → code_left (followed_by c right i) behind ≡ code_left c (code_of right i behind)
followed_code right i =
    followed_law right i (λ c d. (behind : List Instr) → code_left d behind ≡ code_left c (code_of right i behind))
    (λ c going behind. refl)
    (λ result behind. start_code right i result behind)

pub followed_held : (right : Term) (i : ℕ) (c : Configuration) → held (followed_by c right i) ≡ held c
followed_held right i = followed_law right i (λ c d. held d ≡ held c) (λ c going. refl) (λ result. start_held right i result)

pub followed_stack : (right : Term) (i : ℕ) (c : Configuration) (under : List Evidence) → stack_left (followed_by c right i) under ≡ stack_left c under
followed_stack right i =
    followed_law right i (λ c d. (under : List Evidence) → stack_left d under ≡ stack_left c under)
    (λ c going under. refl)
    (λ result under. start_stack right i result under)

pub followed_found : (name : Block) (n : ℕ) (right : Term) (i : ℕ) (c : Configuration) → found name (followed_by c right i) n ≡ found name c n
followed_found name n right i =
    followed_law right i (λ c d. found name d n ≡ found name c n)
    (λ c going. refl)
    (λ result. start_found name n right i result)
