-- What a phrase discloses of shapes is what it discloses of the measurements that they hold.
use Rattle.std.proofs.Common.{◌≡◌, ◌+◌, ℕ, Bool, true, false, List, [], ◌∷◌, ◌++◌, map, refl, ap, sym, ◌∙◌}
use Rattle.std.proofs.lemmas.List.{map-append}
use Rattle.phrase_tree.specs.declared.phrase.Phrase.{Phrase}
use Rattle.phrase_tree.specs.Term.{Term, Leaf, cpy, sig, hsh, nul, usm, kim, leaf, at, chain, seq, par, term}
use Rattle.phrase_tree.specs.Numbering.{event_count}
use Rattle.evidence_types.specs.Shape.{Form, nothing, the_nonce, measured, measured_at, sealed, hashed, in_sequence, in_parallel, arm_shape, leaf_shape, shape_from}
use Rattle.release_policy.specs.declared.held.Cover.{Cover}
use Rattle.release_policy.specs.declared.held.Cover.TheVariants.{Bare, Hashed}
use Rattle.release_policy.specs.declared.held.Held.{Held}
use Rattle.place_check.specs.Session.{CheckedSession, session_of}
use Rattle.session_model.specs.Session.{Session}
use Rattle.release_policy.specs.declared.rule.Rule.{Rule}
use Rattle.release_policy.specs.Denials.{first_denial}
use Rattle.release_policy.specs.Covered.{covered, held, measurements, under_seal}
use Rattle.release_policy.specs.Disclosures.{disclosed, disclosures_from}
use Rattle.release_policy.specs.Walked.{arm_held, first_denied, hash_held, held_from, leaf_held, seal_held, told_from}

of_both : (f : Held → Held) (xs ys xs' ys' : List Held) → map f xs ≡ xs' → map f ys ≡ ys' → map f (xs ++ ys) ≡ xs' ++ ys'
of_both f xs ys xs' ys' h k =
    map-append f xs ys ∙ (ap (λ zs. zs ++ map f ys) h ∙ ap (λ zs. xs' ++ zs) k)

seal_covers : (cover : Cover) (shape : Form) → map seal_held (covered cover shape) ≡ covered (under_seal cover) shape
seal_covers cover nothing = refl
seal_covers cover the_nonce = refl
seal_covers cover (measured event place asp under) =
    ap (λ rest. held event place asp.name (under_seal cover) ∷ rest) (seal_covers cover under)
seal_covers cover (measured_at event place target asp under) =
    ap (λ rest. held event place asp.name (under_seal cover) ∷ rest) (seal_covers cover under)
seal_covers cover (sealed event place under) = seal_covers (under_seal cover) under
seal_covers cover (hashed event place under) = seal_covers Hashed under
seal_covers cover (in_sequence left right) =
    of_both seal_held (covered cover left) (covered cover right) (covered (under_seal cover) left) (covered (under_seal cover) right) (seal_covers cover left) (seal_covers cover right)
seal_covers cover (in_parallel left right) =
    of_both seal_held (covered cover left) (covered cover right) (covered (under_seal cover) left) (covered (under_seal cover) right) (seal_covers cover left) (seal_covers cover right)

hash_covers : (cover : Cover) (shape : Form) → map hash_held (covered cover shape) ≡ covered Hashed shape
hash_covers cover nothing = refl
hash_covers cover the_nonce = refl
hash_covers cover (measured event place asp under) =
    ap (λ rest. held event place asp.name Hashed ∷ rest) (hash_covers cover under)
hash_covers cover (measured_at event place target asp under) =
    ap (λ rest. held event place asp.name Hashed ∷ rest) (hash_covers cover under)
hash_covers cover (sealed event place under) = hash_covers (under_seal cover) under
hash_covers cover (hashed event place under) = hash_covers Hashed under
hash_covers cover (in_sequence left right) =
    of_both hash_held (covered cover left) (covered cover right) (covered Hashed left) (covered Hashed right) (hash_covers cover left) (hash_covers cover right)
hash_covers cover (in_parallel left right) =
    of_both hash_held (covered cover left) (covered cover right) (covered Hashed left) (covered Hashed right) (hash_covers cover left) (hash_covers cover right)

of_arm : (gets_all : Bool) (before : Form) → measurements (arm_shape gets_all before) ≡ arm_held gets_all (measurements before)
of_arm true before = refl
of_arm false before = refl

of_leaf : (form : Leaf) (place : List ℕ) (i : ℕ) (before : Form) → measurements (leaf_shape form place i before) ≡ leaf_held form place i (measurements before)
of_leaf cpy place i before = refl
of_leaf sig place i before = sym (seal_covers Bare before)
of_leaf hsh place i before = sym (hash_covers Bare before)
of_leaf nul place i before = refl
of_leaf (usm asp) place i before = refl
of_leaf (kim target asp) place i before = refl

joined : {A : Type 0} (a a' b b' : List A) → a ≡ a' → b ≡ b' → a ++ b ≡ a' ++ b'
joined a a' b b' h k = ap (λ xs. xs ++ b) h ∙ ap (λ xs. a' ++ xs) k

-- the measurements of what a phrase makes
pub of_shape_from : (phrase : Term) (place : List ℕ) (i : ℕ) (before : Form) → measurements (shape_from phrase place i before) ≡ held_from phrase place i (measurements before)
of_shape_from (leaf form) place i before = of_leaf form place i before
of_shape_from (at asked body) place i before = of_shape_from body asked (i + 1) before
of_shape_from (chain left right) place i before =
    of_shape_from right place (i + event_count left) (shape_from left place i before) ∙ ap (λ held. held_from right place (i + event_count left) held) (of_shape_from left place i before)
of_shape_from (seq split left right) place i before =
    let second = i + 1 + event_count left in
    let one = of_shape_from left place (i + 1) (arm_shape split.left before) ∙ ap (λ held. held_from left place (i + 1) held) (of_arm split.left before) in
    let other = of_shape_from right place second (arm_shape split.right before) ∙ ap (λ held. held_from right place second held) (of_arm split.right before) in
    joined _ _ _ _ one other
of_shape_from (par split left right) place i before =
    let second = i + 1 + event_count left in
    let one = of_shape_from left place (i + 1) (arm_shape split.left before) ∙ ap (λ held. held_from left place (i + 1) held) (of_arm split.left before) in
    let other = of_shape_from right place second (arm_shape split.right before) ∙ ap (λ held. held_from right place second held) (of_arm split.right before) in
    joined _ _ _ _ one other

-- what a phrase discloses
pub of_disclosures : (phrase : Term) (place : List ℕ) (i : ℕ) (before : Form) → disclosures_from phrase place i before ≡ told_from phrase place i (measurements before)
of_disclosures (leaf form) place i before = refl
of_disclosures (at asked body) place i before =
    let back = λ (held : List Held). disclosed (i + 1 + event_count body) place held in
    ap (λ rest. disclosed i asked (measurements before) ++ rest) (joined _ _ _ _ (of_disclosures body asked (i + 1) before) (ap back (of_shape_from body asked (i + 1) before)))
of_disclosures (chain left right) place i before =
    let second = i + event_count left in
    joined _ _ _ _ (of_disclosures left place i before) (of_disclosures right place second (shape_from left place i before) ∙ ap (λ held. told_from right place second held) (of_shape_from left place i before))
of_disclosures (seq split left right) place i before =
    let second = i + 1 + event_count left in
    joined _ _ _ _
    (of_disclosures left place (i + 1) (arm_shape split.left before) ∙ ap (λ held. told_from left place (i + 1) held) (of_arm split.left before))
    (of_disclosures right place second (arm_shape split.right before) ∙ ap (λ held. told_from right place second held) (of_arm split.right before))
of_disclosures (par split left right) place i before =
    let second = i + 1 + event_count left in
    joined _ _ _ _
    (of_disclosures left place (i + 1) (arm_shape split.left before) ∙ ap (λ held. told_from left place (i + 1) held) (of_arm split.left before))
    (of_disclosures right place second (arm_shape split.right before) ∙ ap (λ held. told_from right place second held) (of_arm split.right before))

-- so the first denial of a session is that of a walk over its phrase, with no measurement at first
pub of_session : (policy : List Rule) (session : Session) → first_denied policy (told_from session.phrase session.root 0 []) ≡ first_denial policy session
of_session policy session = ap (λ all. first_denied policy all) (sym (of_disclosures session.phrase session.root 0 the_nonce))

pub walk_of : (policy judge : List Rule) (checked : CheckedSession) (phrase : Phrase) (root : List ℕ) (held : List Held) → judge ≡ policy → phrase ≡ checked.phrase → root ≡ checked.root → held ≡ [] → first_denied judge (told_from (term phrase) root 0 held) ≡ first_denial policy (session_of checked)
walk_of policy judge checked phrase root held j p r h =
    ap (λ x. first_denied x (told_from (term phrase) root 0 held)) j
    ∙ (ap (λ x. first_denied policy (told_from (term x) root 0 held)) p
    ∙ (ap (λ x. first_denied policy (told_from (term checked.phrase) x 0 held)) r
    ∙ (ap (λ x. first_denied policy (told_from (term checked.phrase) checked.root 0 x)) h ∙ of_session policy (session_of checked))))
