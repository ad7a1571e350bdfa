-- How the texts of claims are read from their front: a text has one cut at its first mark, and a name
-- has no mark in it.
use Rattle.std.proofs.Common.{◌≡◌, ◌<◌, ◌∙◌, ℕ, zero, suc, List, [], ◌∷◌, ◌++◌, true, false, Option, Some, None, Bor, refl, sym, ap, subst, length, get_or, map, ◌&&◌, nat_le, arith}
use Rattle.std.specs.Prelude.{◌≢◌, ◌==◌, All, MatchOption, slice_index}
use Rattle.std.specs.List.{list_all, join_with_byte}
use Rattle.std.proofs.lemmas.Bool.{false≢true, and_parts, ne_eqb}
use Rattle.std.proofs.lemmas.List.Elements.{All-from_get_or, All-head, All-tail}
use Rattle.std.proofs.lemmas.List.Splits.{slice_split_none, slice_split_at}
use Rattle.phrase_tree.specs.Name.{IsName, is_name_byte, is_small_letter}
use Rattle.order_policy.specs.declared.claim.Ahead.{Ahead}
use Rattle.order_policy.specs.declared.claim.Ahead.TheVariants.{One, Every}
use Rattle.order_policy.specs.declared.claim.Claim.{Claim}
use Rattle.order_policy.specs.declared.claim.Service.{Service}
use Rattle.order_policy.specs.Cut.{Lacks, Cuts, SpellsService, IsServiceText, IsLaterText}
use Rattle.order_policy.specs.Policy.{IsNamed, service_text, second_mark, claim_text, IsClaim, SpellsClaim, IsClaimText, parts_of}

lacks_head : (mark x : ℕ) (xs : List ℕ) → Lacks mark (x ∷ xs) → x ≢ mark
lacks_head mark x xs h = h 0 (omega arith)

lacks_tail : (mark x : ℕ) (xs : List ℕ) → Lacks mark (x ∷ xs) → Lacks mark xs
lacks_tail mark x xs h = λ k lt e. h (suc k) (omega arith) e

lacks_cons : (mark x : ℕ) (xs : List ℕ) → x ≢ mark → Lacks mark xs → Lacks mark (x ∷ xs)
lacks_cons mark x xs ne h = at_index
  where
    at_index : (k : ℕ) → k < length (x ∷ xs) → slice_index (x ∷ xs) k ≢ mark
    at_index zero lt e = ne e
    at_index (suc k) lt e = h k (omega arith) e

lacks_append : (mark : ℕ) (xs ys : List ℕ) → Lacks mark xs → Lacks mark ys → Lacks mark (xs ++ ys)
lacks_append mark [] ys a b = b
lacks_append mark (x ∷ xs) ys a b =
    lacks_cons mark x (xs ++ ys) (lacks_head mark x xs a) (lacks_append mark xs ys (lacks_tail mark x xs a) b)

has_mark : (mark : ℕ) (xs ys : List ℕ) → Lacks mark (xs ++ mark ∷ ys) → ⊥
has_mark mark [] ys h = lacks_head mark mark ys h refl
has_mark mark (x ∷ xs) ys h = has_mark mark xs ys (lacks_tail mark x (xs ++ mark ∷ ys) h)

-- a text has one cut
same_cut : (mark : ℕ) (a x b y : List ℕ) → Lacks mark a → Lacks mark x → a ++ mark ∷ b ≡ x ++ mark ∷ y → (a ≡ x) × (b ≡ y)
same_cut mark [] [] b y p q e = (refl, cc)
same_cut mark [] (h ∷ x) b y p q e = absurd (lacks_head mark h x q (cc))
same_cut mark (h ∷ a) [] b y p q e = absurd (lacks_head mark h a p (cc))
same_cut mark (h ∷ a) (g ∷ x) b y p q e =
    let rest : a ++ mark ∷ b ≡ x ++ mark ∷ y = cc in
    let same : h ≡ g = cc in
    let w = same_cut mark a x b y (lacks_tail mark h a p) (lacks_tail mark g x q) rest in
    let front : a ≡ x = w.0 in
    (cc, w.1)

-- a name has only small letters, digits and underscores
all_lack : (mark : ℕ) (xs : List ℕ) → is_name_byte mark ≡ false → list_all is_name_byte xs ≡ true → Lacks mark xs
all_lack mark [] no_byte all = λ k lt. absurd (omega arith)
all_lack mark (x ∷ xs) no_byte all =
    let parts = and_parts (is_name_byte x) (list_all is_name_byte xs) all in
    lacks_cons mark x xs (λ e. false≢true (sym no_byte ∙ ap is_name_byte (sym e) ∙ parts.0)) (all_lack mark xs no_byte parts.1)

name_lacks : (mark : ℕ) (name : List ℕ) → is_name_byte mark ≡ false → is_small_letter mark ≡ false → IsName name → Lacks mark name
name_lacks mark [] no_byte no_letter h = absurd (false≢true h)
name_lacks mark (x ∷ xs) no_byte no_letter h =
    let parts = and_parts (is_small_letter x && nat_le (length xs) 31) (list_all is_name_byte xs) h in
    let front = and_parts (is_small_letter x) (nat_le (length xs) 31) parts.0 in
    lacks_cons mark x xs (λ e. false≢true (sym no_letter ∙ ap is_small_letter (sym e) ∙ front.0)) (all_lack mark xs no_byte parts.1)

name_lacks_at : (name : List ℕ) → IsName name → Lacks 64 name
name_lacks_at name h = name_lacks 64 name refl refl h

service_lacks : (mark : ℕ) (wanted : Service) → is_name_byte mark ≡ false → is_small_letter mark ≡ false → 64 ≢ mark → IsNamed wanted → Lacks mark (service_text wanted)
service_lacks mark wanted no_byte no_letter ne named =
    lacks_append mark wanted.name (64 ∷ wanted.place) (name_lacks mark wanted.name no_byte no_letter named.name)
    (lacks_cons mark 64 wanted.place ne (name_lacks mark wanted.place no_byte no_letter named.place))

-- the text of a service
pub service_no_mark : (text : List ℕ) → Lacks 64 text → ¬ IsServiceText text
service_no_mark text lacks w = has_mark 64 w.0.name w.0.place (subst (λ t. Lacks 64 t) w.1.spelled lacks)

service_cut : (text front rest : List ℕ) (wanted : Service) → Cuts 64 text front rest → SpellsService text wanted → (front ≡ wanted.name) × (rest ≡ wanted.place)
service_cut text front rest wanted cuts s =
    same_cut 64 front wanted.name rest wanted.place cuts.first (name_lacks_at wanted.name s.named.name) (sym cuts.whole ∙ s.spelled)

pub service_no_name : (text front rest : List ℕ) → Cuts 64 text front rest → (¬ IsName front) → ¬ IsServiceText text
service_no_name text front rest cuts none w =
    none (subst (λ t. IsName t) (sym (service_cut text front rest w.0 cuts w.1).0) w.1.named.name)

pub service_no_place : (text front rest : List ℕ) → Cuts 64 text front rest → (¬ IsName rest) → ¬ IsServiceText text
service_no_place text front rest cuts none w =
    none (subst (λ t. IsName t) (sym (service_cut text front rest w.0 cuts w.1).1) w.1.named.place)

-- what stands behind the first `<` of a claim
no_mark_first : (name place rest : List ℕ) → IsName name → 60 ∷ rest ≡ name ++ 64 ∷ place → ⊥
no_mark_first [] place rest named e = false≢true named
no_mark_first (x ∷ name) place rest named e = lacks_head 60 x name (name_lacks 60 (x ∷ name) refl refl named) (cc)

-- the text of a claim
pub claim_no_mark : (text : List ℕ) → Lacks 60 text → ¬ IsClaimText text
claim_no_mark text lacks w =
    has_mark 60 (service_text w.0.earlier) (second_mark w.0.ahead ++ service_text w.0.later) (subst (λ t. Lacks 60 t) w.1.spelled lacks)

claim_cut : (text front rest : List ℕ) (claim : Claim) → Cuts 60 text front rest → SpellsClaim text claim → (front ≡ service_text claim.earlier) × (rest ≡ second_mark claim.ahead ++ service_text claim.later)
claim_cut text front rest claim cuts s =
    same_cut 60 front (service_text claim.earlier) rest (second_mark claim.ahead ++ service_text claim.later) cuts.first (service_lacks 60 claim.earlier refl refl (λ e. omega arith) s.named.earlier) (sym cuts.whole ∙ s.spelled)

pub claim_no_earlier : (text front rest : List ℕ) → Cuts 60 text front rest → (¬ IsServiceText front) → ¬ IsClaimText text
claim_no_earlier text front rest cuts none w =
    none (w.0.earlier, record { named = w.1.named.earlier; spelled = (claim_cut text front rest w.0 cuts w.1).0 })

pub claim_no_later : (text front rest : List ℕ) → Cuts 60 text front rest → (¬ IsLaterText rest) → ¬ IsClaimText text
claim_no_later text front rest cuts none w =
    none (w.0.ahead, (w.0.later, record { named = w.1.named.later; spelled = (claim_cut text front rest w.0 cuts w.1).1 }))

-- the parts of a text between its semicolons
no_semicolon : (text : List ℕ) → Lacks 59 text → All (λ byte. (byte == 59) ≡ false) text
no_semicolon text lacks = All-from_get_or (λ byte. (byte == 59) ≡ false) text 0 (λ i lt. ne_eqb (get_or text i 0) 59 (lacks i lt))

pub parts_last : (text : List ℕ) → Lacks 59 text → parts_of text ≡ text ∷ []
parts_last text lacks = slice_split_none (λ byte. byte == 59) text (no_semicolon text lacks)

pub parts_first : (text front rest : List ℕ) → Cuts 59 text front rest → parts_of text ≡ front ∷ parts_of rest
parts_first text front rest cuts =
    ap (λ (t : List ℕ). parts_of t) cuts.whole ∙ slice_split_at (λ byte. byte == 59) front 59 rest (no_semicolon front cuts.first) refl

claim_lacks : (claim : Claim) (ahead : Ahead) → ahead ≡ claim.ahead → IsClaim claim → Lacks 59 (service_text claim.earlier ++ 60 ∷ (second_mark ahead ++ service_text claim.later))
claim_lacks claim One e named =
    lacks_append 59 (service_text claim.earlier) (60 ∷ service_text claim.later) (service_lacks 59 claim.earlier refl refl (λ e. omega arith) named.earlier)
    (lacks_cons 59 60 (service_text claim.later) (λ e. omega arith) (service_lacks 59 claim.later refl refl (λ e. omega arith) named.later))
claim_lacks claim Every e named =
    lacks_append 59 (service_text claim.earlier) (60 ∷ 60 ∷ service_text claim.later) (service_lacks 59 claim.earlier refl refl (λ e. omega arith) named.earlier)
    (lacks_cons 59 60 (60 ∷ service_text claim.later) (λ e. omega arith) (lacks_cons 59 60 (service_text claim.later) (λ e. omega arith) (service_lacks 59 claim.later refl refl (λ e. omega arith) named.later)))

-- claims that are joined have these parts again
pub parts_joined : (claims : List Claim) → 0 < length claims → All IsClaim claims → parts_of (join_with_byte 59 (map claim_text claims)) ≡ map claim_text claims
parts_joined [] some named = absurd (omega arith)
parts_joined (claim ∷ []) some named =
    parts_last (claim_text claim) (claim_lacks claim claim.ahead refl (All-head IsClaim claim [] named))
parts_joined (claim ∷ other ∷ rest) some named =
    slice_split_at (λ byte. byte == 59) (claim_text claim) 59 (join_with_byte 59 (map claim_text (other ∷ rest))) (no_semicolon (claim_text claim) (claim_lacks claim claim.ahead refl (All-head IsClaim claim (other ∷ rest) named))) refl
    ∙ ap (λ (parts : List (List ℕ)). claim_text claim ∷ parts) (parts_joined (other ∷ rest) (omega arith) (All-tail IsClaim claim (other ∷ rest) named))

-- what `split_once` says, in these words
pub cut_from : (mark : ℕ) (text : List ℕ) (result : Option (Bor (List ℕ) × Bor (List ℕ))) → MatchOption result ((k : ℕ) → k < length text → get_or text k 0 ≢ mark) (λ pair. (text ≡ pair.0.now ++ (mark ∷ pair.1.now)) × ((k : ℕ) → k < length pair.0.now → get_or pair.0.now k 0 ≢ mark)) → MatchOption result (Lacks mark text) (λ pair. Cuts mark text pair.0.now pair.1.now)
cut_from mark text None h = h
cut_from mark text (Some pair) h = record { whole = h.0; first = h.1 }

-- a text spells one service, and one claim
service_once : (one other : Service) → IsNamed one → IsNamed other → service_text one ≡ service_text other → one ≡ other
service_once one other p q e =
    let w = same_cut 64 one.name other.name one.place other.place (name_lacks_at one.name p.name) (name_lacks_at other.name q.name) e in
    let name : one.name ≡ other.name = w.0 in
    let place : one.place ≡ other.place = w.1 in
    λ i. record { name = name i; place = place i }

later_once : (one other : Ahead) (first second : Service) → IsNamed first → IsNamed second → second_mark one ++ service_text first ≡ second_mark other ++ service_text second → (one ≡ other) × (first ≡ second)
later_once One One first second p q e = (refl, service_once first second p q e)
later_once One Every first second p q e = absurd (no_mark_first first.name first.place (service_text second) p.name (sym e))
later_once Every One first second p q e = absurd (no_mark_first second.name second.place (service_text first) q.name e)
later_once Every Every first second p q e = (refl, service_once first second p q (let rest : service_text first ≡ service_text second = cc in rest))

pub claim_once : (one other : Claim) → IsClaim one → IsClaim other → claim_text one ≡ claim_text other → one ≡ other
claim_once one other p q e =
    let w = same_cut 60 (service_text one.earlier) (service_text other.earlier) (second_mark one.ahead ++ service_text one.later) (second_mark other.ahead ++ service_text other.later) (service_lacks 60 one.earlier refl refl (λ e. omega arith) p.earlier) (service_lacks 60 other.earlier refl refl (λ e. omega arith) q.earlier) e in
    let earlier : one.earlier ≡ other.earlier = service_once one.earlier other.earlier p.earlier q.earlier w.0 in
    let rest = later_once one.ahead other.ahead one.later other.later p.later q.later w.1 in
    λ i. record { earlier = earlier i; ahead = rest.0 i; later = rest.1 i }
