-- Configurations whose numbers are in their places: the numbers of each part are in a range of their own, and the
-- program has the blocks that are still to start. Each move keeps this.
use Rattle.std.proofs.Common.{◌≡◌, ℕ, ◌+◌, ◌≤◌, List, refl, sym, ◌∙◌, ap, subst, arith}
use Rattle.std.specs.Prelude.{Bool, true, false, Some, nat_eq, if◌then◌else◌}
use Rattle.std.proofs.lemmas.Bool.{eq-eqb, ne_eqb}
use Rattle.phrase_tree.specs.Term.{is_measurement, Term}
use Rattle.phrase_tree.specs.Numbering.{event_count}
use Rattle.evidence_types.specs.Evidence.{Evidence, nonce}
use Rattle.session_model.specs.Session.{Session}
use Rattle.session_model.specs.Value.{Makings, part}
use Rattle.avm_code.specs.declared.program.Block.{Block as CodeBlock}
use Rattle.avm_code.specs.Blocks.{first_place, place_named}
use Rattle.avm_compile.specs.Laws.{IsBlockOf, HasBlocks}
use Rattle.avm_compile.specs.Program.{program_of}
use Rattle.avm_compile.proofs.BlockLaws.{phrases_have_blocks}
use Rattle.session_runs.specs.Configuration.{Configuration, todo, asked, posted, remote, first, left_arm, right_arm, both_arms, finished, start, followed_by}
use Rattle.session_runs.specs.Moves.{Effect}
use Rattle.session_runs.specs.Standing.{Block, of, Entry, Standing, opening, makings}
use Rattle.session_runs.specs.History.{standing_after}
use Rattle.session_runs.proofs.Induction.{IsLaw}
use Rattle.session_runs.proofs.EntryLaws.{Onward, moved, root_ended, faulted, starves, onward, after_configuration}
use Rattle.session_runs.proofs.TraceLaws.{kept_after}
use Rattle.session_runs.proofs.ProgressLaws.{IsGoing}
use Rattle.session_tables.specs.Found.{View, unseen, asks_for, waits, runs, replied, joinable, seen_or, block_view, found}
use Rattle.session_tables.proofs.Starting.{IsNoChain, start_law, followed_law, start_going}

-- a block that ended has nothing left to do
abbrev pub IsOver : Bool → Configuration → Type 0
IsOver false c = Unit {0}
IsOver true c = IsGoing c → ⊥

-- the numbers of a configuration that runs at a place are in this range
abbrev pub Fits : List CodeBlock → List ℕ → Configuration → ℕ → ℕ → Type 0
Fits all place (todo phrase i before) low high =
    IsNoChain phrase × (low ≤ i) × (i + event_count phrase ≤ high) × HasBlocks all phrase place i
Fits all place (asked form i before) low high = (is_measurement form ≡ true) × (low ≤ i) × (i + 1 ≤ high)
Fits all place (posted asked_place i body before) low high =
    (low ≤ i) × (i + 2 + event_count body ≤ high) × IsBlockOf all i asked_place body (i + 1) × HasBlocks all body asked_place (i + 1)
Fits all place (remote asked_place i last inner ended) low high =
    (low ≤ i) × (last + 1 ≤ high) × (place_named all i ≡ asked_place) × IsOver ended inner × Fits all asked_place inner (i + 1) last × (i + 1 ≤ last)
Fits all place (first inner right i) low high =
    IsGoing inner × (low ≤ i) × (i + event_count right ≤ high) × HasBlocks all right place i × Fits all place inner low i
Fits all place (left_arm inner right i before last) low high =
    (low ≤ i) × (i + event_count right ≤ last) × (last + 1 ≤ high) × HasBlocks all right place i × Fits all place inner low i
Fits all place (right_arm left_result inner last) low high = (last + 1 ≤ high) × Fits all place inner low last
Fits all place (both_arms i last left right ended) low high =
    (low ≤ i) × (last + 1 ≤ high) × (place_named all i ≡ place) × IsOver ended right × ((middle : ℕ) × (i + 1 ≤ middle) × (middle ≤ last) × Fits all place left (i + 1) middle × Fits all place right middle last)
Fits all place (finished result) low high = Unit {0}

-- the place of a block of a phrase
pub block_place : (all : List CodeBlock) (n : ℕ) (place : List ℕ) (phrase : Term) (i : ℕ) → IsBlockOf all n place phrase i → place_named all n ≡ place
block_place all n place phrase i h = ap first_place h

pub start_fits : (all : List CodeBlock) (place : List ℕ) (phrase : Term) (i : ℕ) (before : Evidence) (low high : ℕ) → low ≤ i → i + event_count phrase ≤ high → HasBlocks all phrase place i → Fits all place (start phrase i before) low high
start_fits all place =
    start_law (λ phrase i before c. (low high : ℕ) → low ≤ i → i + event_count phrase ≤ high → HasBlocks all phrase place i → Fits all place c low high)
    (λ phrase i before no_chain low high least most blocks. (no_chain, least, most, blocks))
    (λ left right i before h low high least most blocks.
    (start_going left i before, omega arith, omega arith, blocks.1, h low (i + event_count left) least (omega arith) blocks.0))

pub followed_fits : (all : List CodeBlock) (place : List ℕ) (low high : ℕ) (right : Term) (i : ℕ) (c : Configuration) → low ≤ i → i + event_count right ≤ high → HasBlocks all right place i → Fits all place c low i → Fits all place (followed_by c right i) low high
followed_fits all place low high right i c least most blocks =
    followed_law right i (λ c d. Fits all place c low i → Fits all place d low high)
    (λ c going h. (going, least, most, blocks, h))
    (λ result h. start_fits all place right i result low high least most blocks)
    c

-- each move keeps this, and is of a configuration that isn't finished
abbrev pub StaysFit : List CodeBlock → List ℕ → Configuration → Effect → Configuration → Type 0
StaysFit all place c effect d = IsGoing c × ((low high : ℕ) → Fits all place c low high → Fits all place d low high)

stays_over : (ended : Bool) (c d : Configuration) → IsGoing c → IsOver ended c → IsOver ended d
stays_over false c d going over = tt
stays_over true c d going over = absurd (over going)

pub fit_law : (all : List CodeBlock) (from : Makings) → IsLaw from (StaysFit all)
fit_law all from = record {
  runs = λ place form i before none. (tt, λ low high h. tt);
  asks_for = λ place form i before measures. (tt, λ low high h. (measures, h.1, h.2));
  posts = λ place asked_place body i before. (tt, λ low high h. (h.1, omega (arith, h.2), h.3.0, h.3.1));
  splits = λ place split left right i before. (
    tt,
    λ low high h.
        (omega (arith, h.1), omega arith, omega (arith, h.2), h.3.1, start_fits all place left (i + 1) (part split.left before) low (i + 1 + event_count left) (omega (arith, h.1)) (omega arith) h.3.0),
  );
  forks = λ place split left right i before. (
    tt,
    λ low high h.
        (h.1, omega (arith, h.2), block_place all i place right (i + 1 + event_count left) h.3.0, tt, (i + 1 + event_count left, omega arith, omega arith, start_fits all place left (i + 1) (part split.left before) (i + 1) (i + 1 + event_count left) (omega arith) (omega arith) h.3.1, start_fits all place right (i + 1 + event_count left) (part split.right before) (i + 1 + event_count left) (i + 1 + event_count left + event_count right) (omega arith) (omega arith) h.3.2)),
  );
  answered = λ place form i before bytes. (tt, λ low high h. tt);
  delivered = λ place asked_place i body before. (
    tt,
    λ low high h.
        (h.0, omega (arith, h.1), block_place all i asked_place body (i + 1) h.2, tt, start_fits all asked_place body (i + 1) before (i + 1) (i + 1 + event_count body) (omega arith) (omega arith) h.3, omega arith),
  );
  ends_remote = λ place asked_place i last result. (tt, λ low high h. (h.0, h.1, h.2, λ going. going, tt, h.5));
  replies = λ place asked_place i last result. (tt, λ low high h. tt);
  swaps = λ place result right i before last. (
    tt,
    λ low high h.
        (h.2, start_fits all place right i before low last h.0 h.1 h.3),
  );
  joins_sequence = λ place left_result right_result last. (tt, λ low high h. tt);
  ends_right = λ place i last left result. (tt, λ low high h. (h.0, h.1, h.2, λ going. going, h.4));
  joins_parallel = λ place i last left_result right_result. (tt, λ low high h. tt);
  in_remote = λ place asked_place i last c d effect over f. (
    tt,
    λ low high h.
        (h.0, h.1, h.2, stays_over over c d f.0 h.3, f.1 (i + 1) last h.4, h.5),
  );
  in_first = λ place c d effect right i f. (tt, λ low high h. followed_fits all place low high right i d h.1 h.2 h.3 (f.1 low i h.4));
  in_left = λ place c d effect right i before last f. (tt, λ low high h. (h.0, h.1, h.2, h.3, f.1 low i h.4));
  in_right = λ place result c d effect last f. (tt, λ low high h. (h.0, f.1 low last h.1));
  in_left_of_both = λ place i last c d right effect over f. (
    tt,
    λ low high h.
        (h.0, h.1, h.2, h.3, (h.4.0, h.4.1, h.4.2, f.1 (i + 1) h.4.0 h.4.3, h.4.4)),
  );
  in_right_of_both = λ place i last left c d effect over f. (
    tt,
    λ low high h.
        (h.0, h.1, h.2, stays_over over c d f.0 h.3, (h.4.0, h.4.1, h.4.2, h.4.3, f.1 h.4.0 last h.4.4)),
  );
}

-- after every history
abbrev pub SessionFits : Session → Standing → Type 0
SessionFits session s =
    Fits (program_of session.phrase session.root) session.root s.configuration 0 (event_count session.phrase)

fits_opening : (session : Session) → SessionFits session (opening session)
fits_opening session =
    start_fits (program_of session.phrase session.root) session.root session.phrase 0 (nonce session.nonce) 0 (event_count session.phrase) (omega arith) (omega arith) (phrases_have_blocks session.phrase session.root)

fits_next : (session : Session) (s : Standing) (entry : Entry) (t : Standing) → SessionFits session s → Onward (StaysFit (program_of session.phrase session.root)) session s entry t → SessionFits session t
fits_next session s entry t fits (moved pass m h of_entry is) =
    subst (λ x. SessionFits session x) (sym is) (subst (λ c. Fits (program_of session.phrase session.root) session.root c 0 (event_count session.phrase)) (sym (after_configuration pass s m.0 m.1)) (h.1 0 (event_count session.phrase) fits))
fits_next session s entry t fits (root_ended value was_finished then_is) = subst (λ x. SessionFits session x) (sym then_is) fits
fits_next session s entry t fits (faulted pass event fault flying of_entry then_is) = subst (λ x. SessionFits session x) (sym then_is) fits
fits_next session s entry t fits (starves pass event flying of_entry then_is) = subst (λ x. SessionFits session x) (sym then_is) fits

pub fits_after_history : (session : Session) (keys : List (List ℕ × List ℕ)) (history : List Entry) (t : Standing) → standing_after session keys history ≡ Some t → SessionFits session t
fits_after_history session keys =
    kept_after session keys (SessionFits session) (λ s entry t fits e. fits_next session s entry t fits (onward (StaysFit (program_of session.phrase session.root)) session keys (fit_law (program_of session.phrase session.root) (makings session keys)) s entry t e).1) (fits_opening session)

-- a number that isn't in the range
abbrev pub IsOutside : ℕ → ℕ → ℕ → Type 0
IsOutside low high n = low ≤ n → high ≤ n

pub if_other : (A : Type 0) (n i : ℕ) (x y : A) → (n ≡ i → ⊥) → (if nat_eq n i then x else y) ≡ y
if_other A n i x y ne = ap (λ b. if b then x else y) (ne_eqb n i ne)

pub if_same : (A : Type 0) (n i : ℕ) (x y : A) → n ≡ i → (if nat_eq n i then x else y) ≡ x
if_same A n i x y e = ap (λ b. if b then x else y) (eq-eqb n i e)

pub seen_or_none : (v : View) → seen_or v unseen ≡ v
seen_or_none unseen = refl
seen_or_none (asks_for name) = refl
seen_or_none (waits evidence) = refl
seen_or_none (runs for_request left) = refl
seen_or_none (replied result) = refl
seen_or_none (joinable result) = refl

-- a configuration says nothing of the numbers outside its range
pub outside : (all : List CodeBlock) (name : Block) (place : List ℕ) (c : Configuration) (low high n : ℕ) → Fits all place c low high → IsOutside low high n → found name c n ≡ unseen
outside all name place (todo phrase i before) low high n h out = refl
outside all name place (asked form i before) low high n h out =
    if_other View n i _ unseen (λ e. omega (arith, out (omega (arith, h.1))))
outside all name place (posted asked_place i body before) low high n h out =
    if_other View n i _ unseen (λ e. omega (arith, out (omega (arith, h.0))))
outside all name place (remote asked_place i last inner ended) low high n h out =
    if_other View n i (block_view true inner ended) (found (of i) inner n) (λ e. omega (arith, out (omega (arith, h.0)))) ∙ outside all (of i) asked_place inner (i + 1) last n h.4 (λ le. omega (arith, out (omega (arith, h.0))))
outside all name place (first inner right i) low high n h out =
    outside all name place inner low i n h.4 (λ le. omega (arith, out le))
outside all name place (left_arm inner right i before last) low high n h out =
    outside all name place inner low i n h.4 (λ le. omega (arith, out le))
outside all name place (right_arm left_result inner last) low high n h out =
    outside all name place inner low last n h.1 (λ le. omega (arith, out le))
outside all name place (both_arms i last left right ended) low high n h out =
    if_other View n i (block_view false right ended) (seen_or (found name left n) (found (of i) right n)) (λ e. omega (arith, out (omega (arith, h.0))))
    ∙ ap (λ v. seen_or v (found (of i) right n)) (outside all name place left (i + 1) h.4.0 n h.4.3 (λ le. omega (arith, out (omega (arith, h.0)))))
    ∙ outside all (of i) place right h.4.0 last n h.4.4 (λ le. omega (arith, out (omega (arith, h.0)), h.4.1, h.4.2))
outside all name place (finished result) low high n h out = refl
