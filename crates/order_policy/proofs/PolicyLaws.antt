-- How the text of a policy is read, claim by claim; a text that is none has one first bad part.
use Rattle.std.proofs.Common.{◌≡◌, ◌<◌, ◌≤◌, ◌∙◌, ◌+◌, ◌⊎◌, ℕ, zero, suc, List, [], ◌∷◌, ◌++◌, Option, Some, None, Result, Ok, Err, inl, inr, refl, sym, ap, subst, length, get_or, map, arith}
use Rattle.std.specs.Prelude.{◌↔◌, ◌==◌, All, IsNone, MatchOption, MatchResult}
use Rattle.std.specs.List.{join_with_byte}
use Rattle.std.proofs.lemmas.Bool.{cases_lt}
use Rattle.std.proofs.lemmas.List.{length-map, length-append, map-append, append_assoc, get_or_append_left, get_or_at}
use Rattle.std.proofs.lemmas.List.Elements.{All-head, All-tail, All-push}
use Rattle.std.proofs.lemmas.List.Splits.{join_with_byte-slice_split, length-slice_split}
use Rattle.order_policy.specs.declared.claim.Claim.{Claim}
use Rattle.order_policy.specs.declared.policy.PolicyError.{PolicyError}
use Rattle.order_policy.specs.declared.policy.PolicyError.TheVariants.{Bad, NoMemory}
use Rattle.order_policy.specs.declared.policy.TheConstants.{CLAIMS}
use Rattle.order_policy.specs.Cut.{Lacks, Cuts, IsReadAs, IsRead, IsPartError, IsReadError, AddsClaim}
use Rattle.order_policy.specs.Policy.{claim_text, IsClaim, SpellsClaim, IsClaimText, SpellsPolicy, IsPolicyText, parts_of, part_at, IsBadAt}
use Rattle.order_policy.proofs.TextLaws.{parts_last, parts_first, parts_joined, claim_once}

texts_push : (passed : List Claim) (claim : Claim) (more : List (List ℕ)) → map claim_text passed ++ claim_text claim ∷ more ≡ map claim_text (passed ++ claim ∷ []) ++ more
texts_push passed claim more =
    sym (append_assoc (map claim_text passed) (claim_text claim ∷ []) more) ∙ ap (λ (xs : List (List ℕ)). xs ++ more) (sym (map-append claim_text passed (claim ∷ [])))

-- one claim more is passed
pub read_more : (text : List ℕ) (number : ℕ) (rest part more : List ℕ) (passed : List Claim) (claim : Claim) → IsReadAs text number rest passed → Cuts 59 rest part more → SpellsClaim part claim → IsReadAs text (number + 1) more (passed ++ claim ∷ [])
read_more text number rest part more passed claim r cuts s = record {
  parts = r.parts ∙ ap (λ (xs : List (List ℕ)). map claim_text passed ++ xs) (parts_first rest part more cuts ∙ ap (λ (t : List ℕ). t ∷ parts_of more) s.spelled) ∙ texts_push passed claim (parts_of more);
  named = All-push IsClaim passed claim r.named s.named;
  counted = omega (arith, r.counted, length-append passed (claim ∷ []));
}

-- the last claim makes the policy whole
pub read_last : (text : List ℕ) (number : ℕ) (rest : List ℕ) (passed : List Claim) (claim : Claim) → IsReadAs text number rest passed → Lacks 59 rest → SpellsClaim rest claim → number < CLAIMS → SpellsPolicy text (passed ++ claim ∷ [])
read_last text number rest passed claim r lacks s lt =
    let parts : parts_of text ≡ map claim_text (passed ++ claim ∷ []) =
    r.parts ∙ ap (λ (xs : List (List ℕ)). map claim_text passed ++ xs) (parts_last rest lacks ∙ ap (λ (t : List ℕ). t ∷ []) s.spelled) ∙ sym (map-append claim_text passed (claim ∷ [])) in
    record {
      some = omega (arith, length-append passed (claim ∷ []));
      few = omega (arith, r.counted, length-append passed (claim ∷ []));
      named = All-push IsClaim passed claim r.named s.named;
      spelled = sym (join_with_byte-slice_split 59 text) ∙ ap (λ (xs : List (List ℕ)). join_with_byte 59 xs) parts;
    }

claim_there : (passed : List Claim) (k : ℕ) → All IsClaim passed → k < length passed → IsClaimText (get_or (map claim_text passed) k [])
claim_there [] k named lt = absurd (omega arith)
claim_there (claim ∷ passed) zero named lt = (claim, record { named = All-head IsClaim claim passed named; spelled = refl })
claim_there (claim ∷ passed) (suc k) named lt = claim_there passed k (All-tail IsClaim claim passed named) (omega arith)

-- the part behind those that are passed is bad
bad_here : (text : List ℕ) (number : ℕ) (passed : List Claim) (part : List ℕ) (more : List (List ℕ)) → parts_of text ≡ map claim_text passed ++ part ∷ more → All IsClaim passed → length passed ≡ number → number ≤ CLAIMS → (number ≡ CLAIMS) ⊎ (¬ IsClaimText part) → IsBadAt text number
bad_here text number passed part more e named counted few wrong =
    let long : length (map claim_text passed) ≡ number = length-map passed claim_text ∙ counted in
    let here : part_at text number ≡ part = ap (λ (xs : List (List ℕ)). get_or xs number []) e ∙ get_or_at (map claim_text passed) part more [] number long in
    record {
      within = omega (arith, ap (λ (xs : List (List ℕ)). length xs) e, length-append (map claim_text passed) (part ∷ more));
      few = few;
      ahead = λ k lt. subst (λ t. IsClaimText t) (sym (ap (λ (xs : List (List ℕ)). get_or xs k []) e ∙ get_or_append_left (map claim_text passed) (part ∷ more) [] k (omega arith))) (claim_there passed k named (omega arith));
      wrong = turned wrong here;
    }
  where
    turned : (number ≡ CLAIMS) ⊎ (¬ IsClaimText part) → part_at text number ≡ part → (number ≡ CLAIMS) ⊎ (¬ IsClaimText (part_at text number))
    turned (inl is) here = inl is
    turned (inr none) here = inr (λ h. none (subst (λ t. IsClaimText t) here h))

pub bad_last : (text : List ℕ) (number : ℕ) (rest : List ℕ) → IsRead text number rest → Lacks 59 rest → (¬ IsClaimText rest) → number < CLAIMS → IsBadAt text number
bad_last text number rest r lacks none lt =
    bad_here text number r.0 rest [] (r.1.parts ∙ ap (λ (xs : List (List ℕ)). map claim_text r.0 ++ xs) (parts_last rest lacks)) r.1.named r.1.counted (omega arith) (inr none)

pub bad_part : (text : List ℕ) (number : ℕ) (rest part more : List ℕ) → IsRead text number rest → Cuts 59 rest part more → (¬ IsClaimText part) → number < CLAIMS → IsBadAt text number
bad_part text number rest part more r cuts none lt =
    bad_here text number r.0 part (parts_of more) (r.1.parts ∙ ap (λ (xs : List (List ℕ)). map claim_text r.0 ++ xs) (parts_first rest part more cuts)) r.1.named r.1.counted (omega arith) (inr none)

too_many : (text : List ℕ) (passed : List Claim) (parts : List (List ℕ)) → parts_of text ≡ map claim_text passed ++ parts → All IsClaim passed → length passed ≡ CLAIMS → 0 < length parts → IsBadAt text CLAIMS
too_many text passed [] e named counted some = absurd (omega arith)
too_many text passed (part ∷ more) e named counted some = bad_here text CLAIMS passed part more e named counted (omega arith) (inl refl)

pub bad_many : (text rest : List ℕ) → IsRead text CLAIMS rest → IsBadAt text CLAIMS
bad_many text rest r = too_many text r.0 (parts_of rest) r.1.parts r.1.named r.1.counted (omega (arith, length-slice_split (λ byte. byte == 59) rest))

-- a text has one first bad part, and a policy text has none
bad_not_ahead : (text : List ℕ) (a b : ℕ) → IsBadAt text a → IsBadAt text b → a < b → ⊥
bad_not_ahead text a b p q lt = at_wrong p.wrong
  where
    at_wrong : (a ≡ CLAIMS) ⊎ (¬ IsClaimText (part_at text a)) → ⊥
    at_wrong (inl e) =
        let few = q.few in
        omega arith
    at_wrong (inr none) = none (q.ahead a lt)

bad_once : (text : List ℕ) (a b : ℕ) → IsBadAt text a → IsBadAt text b → a ≡ b
bad_once text a b p q = elim (cases_lt a b) [
  | inl lt ↦ absurd (bad_not_ahead text a b p q lt)
  | inr ge ↦ elim (cases_lt b a) [
    | inl lt ↦ absurd (bad_not_ahead text b a q p lt)
    | inr le ↦ omega arith
  ]
]

policy_not_bad : (text : List ℕ) (claims : List Claim) (index : ℕ) → SpellsPolicy text claims → IsBadAt text index → ⊥
policy_not_bad text claims index s b =
    let parts : parts_of text ≡ map claim_text claims = ap (λ (t : List ℕ). parts_of t) s.spelled ∙ parts_joined claims s.some s.named in
    let within : index < length claims = omega (arith, b.within, ap (λ (xs : List (List ℕ)). length xs) parts, length-map claims claim_text) in
    at_wrong within (subst (λ xs. IsClaimText (get_or xs index [])) (sym parts) (claim_there claims index s.named within)) b.wrong
  where
    at_wrong : index < length claims → IsClaimText (part_at text index) → (index ≡ CLAIMS) ⊎ (¬ IsClaimText (part_at text index)) → ⊥
    at_wrong within there (inl e) =
        let few = s.few in
        omega arith
    at_wrong within there (inr none) = none there

none_some : (x : ℕ) → ◌≡◌ {A = Option ℕ} None (Some x) → ⊥
none_some x e = cc

some_none : (x : ℕ) → IsNone (Some x) → ⊥
some_none x h = absurd (cc)

pub says_none : (text : List ℕ) (found : Option ℕ) → MatchOption found (IsPolicyText text) (λ claim. IsBadAt text claim) → IsNone found ↔ IsPolicyText text
says_none text None h = ((λ is. h), λ p. refl)
says_none text (Some claim) h = ((λ is. absurd (some_none claim is)), λ p. absurd (policy_not_bad text p.0 claim p.1 h))

pub says_bad : (text : List ℕ) (found : Option ℕ) → MatchOption found (IsPolicyText text) (λ claim. IsBadAt text claim) → (claim : ℕ) → (found ≡ Some claim) ↔ IsBadAt text claim
says_bad text None h claim = ((λ e. absurd (none_some claim e)), λ b. absurd (policy_not_bad text h.0 claim h.1 b))
says_bad text (Some found) h claim =
    ((λ e. subst (λ n. IsBadAt text n) (let same : found ≡ claim = cc in same) h), λ b. ap Some (bad_once text found claim h b))

-- the steps of the two loops
pub passed_more : (text : List ℕ) (number : ℕ) (rest part more : List ℕ) (claim : Claim) → IsRead text number rest → Cuts 59 rest part more → SpellsClaim part claim → IsRead text (number + 1) more
passed_more text number rest part more claim r cuts s = (r.0 ++ claim ∷ [], read_more text number rest part more r.0 claim r.1 cuts s)

pub last_found : (text : List ℕ) (number : ℕ) (rest : List ℕ) (found : Option ℕ) → IsRead text number rest → Lacks 59 rest → number < CLAIMS → MatchOption found (IsClaimText rest) (λ claim. (claim ≡ number) × (¬ IsClaimText rest)) → MatchOption found (IsPolicyText text) (λ claim. IsBadAt text claim)
last_found text number rest None r lacks lt h = (r.0 ++ h.0 ∷ [], read_last text number rest r.0 h.0 r.1 lacks h.1 lt)
last_found text number rest (Some claim) r lacks lt h =
    subst (λ n. IsBadAt text n) (sym h.0) (bad_last text number rest r lacks h.1 lt)

pub claim_added : (text : List ℕ) (number : ℕ) (rest part more : List ℕ) (old new : List Claim) → IsReadAs text number rest old → Cuts 59 rest part more → AddsClaim part old new → IsReadAs text (number + 1) more new
claim_added text number rest part more old new r cuts a =
    subst (λ claims. IsReadAs text (number + 1) more claims) (sym a.1.1) (read_more text number rest part more old a.0 r cuts a.1.0)

pub part_error : (text : List ℕ) (number : ℕ) (rest part more : List ℕ) (claims : List Claim) (error : PolicyError) → IsReadAs text number rest claims → Cuts 59 rest part more → number < CLAIMS → IsPartError part number error → IsReadError text error
part_error text number rest part more claims (Bad claim) r cuts lt h =
    subst (λ n. IsBadAt text n) (sym h.0) (bad_part text number rest part more (claims, r) cuts h.1 lt)
part_error text number rest part more claims NoMemory r cuts lt h = tt

last_error : (text : List ℕ) (number : ℕ) (rest : List ℕ) (claims : List Claim) (error : PolicyError) → IsReadAs text number rest claims → Lacks 59 rest → number < CLAIMS → IsPartError rest number error → IsReadError text error
last_error text number rest claims (Bad claim) r lacks lt h =
    subst (λ n. IsBadAt text n) (sym h.0) (bad_last text number rest (claims, r) lacks h.1 lt)
last_error text number rest claims NoMemory r lacks lt h = tt

pub last_made : (text : List ℕ) (number : ℕ) (rest : List ℕ) (claims : List Claim) (result : Result (List Claim) PolicyError) → IsReadAs text number rest claims → Lacks 59 rest → number < CLAIMS → MatchResult result (λ policy. AddsClaim rest claims policy) (λ error. IsPartError rest number error) → MatchResult result (λ policy. SpellsPolicy text policy) (λ error. IsReadError text error)
last_made text number rest claims (Ok policy) r lacks lt a =
    subst (λ made. SpellsPolicy text made) (sym a.1.1) (read_last text number rest claims a.0 r lacks a.1.0 lt)
last_made text number rest claims (Err error) r lacks lt h = last_error text number rest claims error r lacks lt h

pub bad_end : (text : List ℕ) (number : ℕ) (rest : List ℕ) → IsRead text number rest → CLAIMS ≤ number → number ≤ CLAIMS → IsBadAt text CLAIMS
bad_end text number rest r from to =
    let is : number ≡ CLAIMS = omega arith in
    bad_many text rest (subst (λ n. IsRead text n rest) is r)

pub bad_end_as : (text : List ℕ) (number : ℕ) (rest : List ℕ) (claims : List Claim) → IsReadAs text number rest claims → CLAIMS ≤ number → number ≤ CLAIMS → IsBadAt text CLAIMS
bad_end_as text number rest claims r from to = bad_end text number rest (claims, r) from to

-- what a policy's reader answers
errs : {T : Type 0} (claim other : ℕ) → ◌≡◌ {A = Result T PolicyError} (Err (Bad claim)) (Err (Bad other)) → claim ≡ other
errs claim other e = cc

pub refused_bad : {T : Type 0} (text : List ℕ) (found : ℕ) → IsBadAt text found → (claim : ℕ) → (◌≡◌ {A = Result T PolicyError} (Err (Bad found)) (Err (Bad claim))) ↔ IsBadAt text claim
refused_bad text found h claim =
    ((λ e. subst (λ n. IsBadAt text n) (errs found claim e) h), λ b. ap (λ n. Err (Bad n)) (bad_once text found claim h b))

pub read_bad : {T : Type 0} (text : List ℕ) (Spells : T → Type 0) (result : Result T PolicyError) → IsPolicyText text → MatchResult result Spells (λ error. IsReadError text error) → (claim : ℕ) → (result ≡ Err (Bad claim)) ↔ IsBadAt text claim
read_bad {T} text Spells result policy h claim =
    ((λ e. subst (λ (r : Result T PolicyError). MatchResult r Spells (λ error. IsReadError text error)) e h), λ b. absurd (policy_not_bad text policy.0 claim policy.1 b))

-- a text is that of one policy
texts_once : (one other : List Claim) → All IsClaim one → All IsClaim other → map claim_text one ≡ map claim_text other → one ≡ other
texts_once [] [] p q e = refl
texts_once [] (claim ∷ other) p q e = absurd (cc)
texts_once (claim ∷ one) [] p q e = absurd (cc)
texts_once (claim ∷ one) (another ∷ other) p q e =
    let first : claim_text claim ≡ claim_text another = cc in
    let rest : map claim_text one ≡ map claim_text other = cc in
    let same : claim ≡ another = claim_once claim another (All-head IsClaim claim one p) (All-head IsClaim another other q) first in
    let more : one ≡ other = texts_once one other (All-tail IsClaim claim one p) (All-tail IsClaim another other q) rest in
    λ i. same i ∷ more i

pub policy_once : (text : List ℕ) (one other : List Claim) → SpellsPolicy text one → SpellsPolicy text other → one ≡ other
policy_once text one other p q =
    texts_once one other p.named q.named
    (sym (parts_joined one p.some p.named) ∙ ap (λ (t : List ℕ). parts_of t) (sym p.spelled ∙ q.spelled) ∙ parts_joined other q.some q.named)
