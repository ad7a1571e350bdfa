-- What is found of claims in sessions, one session after the other.
use Rattle.std.proofs.Common.{◌≡◌, ◌+◌, ◌<◌, ◌≤◌, ◌||◌, ℕ, Bool, true, false, List, [], ◌∷◌, ◌++◌, length, drop, get_or, refl, sym, ap, ◌∙◌, subst, arith, append_assoc, add-one, drop-cons}
use Rattle.std.proofs.lemmas.List.{append-nil}
use Rattle.std.proofs.Math.ListN.{drop_of_length-le}
use Rattle.std.specs.Prelude.{map}
use Rattle.std.specs.List.{AllZip}
use Rattle.session_model.specs.Session.{Session}
use Rattle.order_policy.specs.declared.claim.Claim.{Claim}
use Rattle.order_policy.specs.declared.judgement.Judgement.{Judgement}
use Rattle.report_text.specs.Sessions.{numbered}
use Rattle.copland_cli.specs.Ordered.{AreJudged, IsFoundIn, SaysOfClaims, found_text, is_broken, some_broken}

-- as much is found as there are claims
pub as_many : (R : Claim → Judgement → Type 0) (claims : List Claim) (found : List Judgement) → AllZip R claims found → length found ≡ length claims
as_many R [] [] h = refl
as_many R [] (judgement ∷ found) h = absurd h
as_many R (claim ∷ claims) [] h = absurd h
as_many R (claim ∷ claims) (judgement ∷ found) h =
    let rest = as_many R claims found h.1 in omega (arith, rest)

pub or_assoc : (a b c : Bool) → ((a || b) || c) ≡ (a || (b || c))
or_assoc true b c = refl
or_assoc false b c = refl

pub or_false : (a : Bool) → (a || false) ≡ a
or_false true = refl
or_false false = refl

-- a report so far becomes that of all sessions by whatever is found in those that are left
abbrev pub BecomeWhole : List Claim → List Session → List Session → ℕ → List ℕ → Bool → Type 0
BecomeWhole claims all left number text broken =
    (more : List (List Judgement)) → AllZip (AreJudged claims) left more → SaysOfClaims claims all (text ++ numbered found_text number more) (broken || some_broken more)

-- it begins with nothing
pub begins : (claims : List Claim) (all : List Session) → BecomeWhole claims all all 0 [] false
begins claims all = λ more each. record { judgements = more; each = each; reported = refl; some = refl }

-- the next session is judged
one_more : (claims : List Claim) (all left : List Session) (session : Session) (number : ℕ) (text longer : List ℕ) (broken found : Bool) → BecomeWhole claims all (session ∷ left) number text broken → IsFoundIn claims session number text longer found → BecomeWhole claims all left (number + 1) longer (broken || found)
one_more claims all left session number text longer broken found so_far here = λ more each.
    let whole = so_far (here.found ∷ more) (here.judged, each) in
    let told : text ++ numbered found_text number (here.found ∷ more) ≡ longer ++ numbered found_text (number + 1) more =
    sym (append_assoc text (found_text number here.found) (numbered found_text (number + 1) more)) ∙ ap (λ (t : List ℕ). t ++ numbered found_text (number + 1) more) (sym here.added) in
    let some : (broken || (is_broken here.found || some_broken more)) ≡ ((broken || found) || some_broken more) =
    sym (or_assoc broken (is_broken here.found) (some_broken more)) ∙ ap (λ (b : Bool). (broken || b) || some_broken more) (sym here.is) in
    record {
      judgements = whole.judgements;
      each = whole.each;
      reported = sym told ∙ whole.reported;
      some = sym some ∙ whole.some;
    }

-- a loop over a list goes on by its next item
pub goes_on : {A : Type 0} (claims : List Claim) (view : A → Session) (items : List A) (index : ℕ) (item : A) (text longer : List ℕ) (broken found : Bool) → index < length items → item ≡ get_or items index item → BecomeWhole claims (map view items) (map view (drop index items)) index text broken → IsFoundIn claims (view item) index text longer found → BecomeWhole claims (map view items) (map view (drop (index + 1) items)) (index + 1) longer (broken || found)
goes_on {A = A} claims view items index item text longer broken found there is so_far here =
    let next : drop index items ≡ get_or items index item ∷ drop (index + 1) items = rw add-one (drop-cons items index item there) in
    let cut : drop index items ≡ item ∷ drop (index + 1) items = next ∙ ap (λ (first : A). first ∷ drop (index + 1) items) (sym is) in
    one_more claims (map view items) (map view (drop (index + 1) items)) (view item) index text longer broken found
    (subst (λ (left : List A). BecomeWhole claims (map view items) (map view left) index text broken) cut so_far) here

-- it ends with all
pub ends : {A : Type 0} (claims : List Claim) (view : A → Session) (items : List A) (index : ℕ) (text : List ℕ) (broken : Bool) → length items ≤ index → BecomeWhole claims (map view items) (map view (drop index items)) index text broken → SaysOfClaims claims (map view items) text broken
ends {A = A} claims view items index text broken past so_far =
    let at_end = subst (λ (left : List A). BecomeWhole claims (map view items) (map view left) index text broken) (drop_of_length-le items past) so_far in
    let whole = at_end [] tt in
    record {
      judgements = whole.judgements;
      each = whole.each;
      reported = sym (append-nil text) ∙ whole.reported;
      some = sym (or_false broken) ∙ whole.some;
    }
