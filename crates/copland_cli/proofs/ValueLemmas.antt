-- What is said of the values of sessions, one session after the other.
use Rattle.std.proofs.Common.{◌≡◌, ◌+◌, ◌<◌, ◌≤◌, ◌||◌, ℕ, Bool, false, List, [], ◌∷◌, ◌++◌, length, drop, get_or, refl, sym, ap, ◌∙◌, subst, append_assoc, add-one, drop-cons}
use Rattle.std.proofs.lemmas.List.{append-nil}
use Rattle.std.proofs.Math.ListN.{drop_of_length-le}
use Rattle.std.specs.Prelude.{map}
use Rattle.bench_trait.specs.declared.ask.Ask.{Ask}
use Rattle.bench_trait.specs.declared.bench.BenchFault.{BenchFault}
use Rattle.session_model.specs.Record.{Record, is_failed}
use Rattle.session_model.specs.Session.{Session}
use Rattle.report_text.specs.Records.{value_text}
use Rattle.report_text.specs.Sessions.{numbered}
use Rattle.copland_cli.specs.Evaluated.{IsValueIn, SaysOfValues}
use Rattle.copland_cli.specs.Reported.{AreRecords, some_failed}
use Rattle.copland_cli.proofs.OrderLemmas.{or_assoc, or_false}

-- a report so far becomes that of all sessions by whatever records there are of those that are left
abbrev pub BecomeWhole : (Ask → List ℕ → Type 0) → (Ask → BenchFault → Type 0) → List (List ℕ × List ℕ) → List Session → List Session → ℕ → List ℕ → Bool → Type 0
BecomeWhole Gives Fails keys all left number text failed =
    (more : List Record) → AreRecords Gives Fails keys left more → SaysOfValues Gives Fails keys all (text ++ numbered value_text number more) (failed || some_failed more)

-- it begins with nothing
pub begins : (Gives : Ask → List ℕ → Type 0) (Fails : Ask → BenchFault → Type 0) (keys : List (List ℕ × List ℕ)) (all : List Session) → BecomeWhole Gives Fails keys all all 0 [] false
begins Gives Fails keys all = λ more each. record { records = more; each = each; reported = refl; some = refl }

-- the next session has its record
one_more : (Gives : Ask → List ℕ → Type 0) (Fails : Ask → BenchFault → Type 0) (keys : List (List ℕ × List ℕ)) (all left : List Session) (session : Session) (number : ℕ) (text longer : List ℕ) (failed found : Bool) → BecomeWhole Gives Fails keys all (session ∷ left) number text failed → IsValueIn Gives Fails keys session number text longer found → BecomeWhole Gives Fails keys all left (number + 1) longer (failed || found)
one_more Gives Fails keys all left session number text longer failed found so_far here = λ more each.
    let whole = so_far (here.found ∷ more) (here.recorded, each) in
    let told : text ++ numbered value_text number (here.found ∷ more) ≡ longer ++ numbered value_text (number + 1) more =
    sym (append_assoc text (value_text number here.found) (numbered value_text (number + 1) more)) ∙ ap (λ (t : List ℕ). t ++ numbered value_text (number + 1) more) (sym here.added) in
    let some : (failed || (is_failed here.found || some_failed more)) ≡ ((failed || found) || some_failed more) =
    sym (or_assoc failed (is_failed here.found) (some_failed more)) ∙ ap (λ (b : Bool). (failed || b) || some_failed more) (sym here.is) in
    record {
      records = whole.records;
      each = whole.each;
      reported = sym told ∙ whole.reported;
      some = sym some ∙ whole.some;
    }

-- a loop over a list goes on by its next item
pub goes_on : {A : Type 0} (Gives : Ask → List ℕ → Type 0) (Fails : Ask → BenchFault → Type 0) (keys : List (List ℕ × List ℕ)) (view : A → Session) (items : List A) (index : ℕ) (item : A) (text longer : List ℕ) (failed found : Bool) → index < length items → item ≡ get_or items index item → BecomeWhole Gives Fails keys (map view items) (map view (drop index items)) index text failed → IsValueIn Gives Fails keys (view item) index text longer found → BecomeWhole Gives Fails keys (map view items) (map view (drop (index + 1) items)) (index + 1) longer (failed || found)
goes_on {A = A} Gives Fails keys view items index item text longer failed found there is so_far here =
    let next : drop index items ≡ get_or items index item ∷ drop (index + 1) items = rw add-one (drop-cons items index item there) in
    let cut : drop index items ≡ item ∷ drop (index + 1) items = next ∙ ap (λ (first : A). first ∷ drop (index + 1) items) (sym is) in
    one_more Gives Fails keys (map view items) (map view (drop (index + 1) items)) (view item) index text longer failed found
    (subst (λ (left : List A). BecomeWhole Gives Fails keys (map view items) (map view left) index text failed) cut so_far) here

-- it ends with all
pub ends : {A : Type 0} (Gives : Ask → List ℕ → Type 0) (Fails : Ask → BenchFault → Type 0) (keys : List (List ℕ × List ℕ)) (view : A → Session) (items : List A) (index : ℕ) (text : List ℕ) (failed : Bool) → length items ≤ index → BecomeWhole Gives Fails keys (map view items) (map view (drop index items)) index text failed → SaysOfValues Gives Fails keys (map view items) text failed
ends {A = A} Gives Fails keys view items index text failed past so_far =
    let at_end = subst (λ (left : List A). BecomeWhole Gives Fails keys (map view items) (map view left) index text failed) (drop_of_length-le items past) so_far in
    let whole = at_end [] tt in
    record {
      records = whole.records;
      each = whole.each;
      reported = sym (append-nil text) ∙ whole.reported;
      some = sym (or_false failed) ∙ whole.some;
    }
