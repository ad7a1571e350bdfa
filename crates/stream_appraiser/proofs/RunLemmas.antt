-- Heads that come one after the other come to what the whole value comes to.
use Rattle.std.proofs.Common.{◌≡◌, ◌+◌, ◌≤◌, ◌&&◌, ◌⊎◌, inl, inr, ℕ, suc, Bool, true, false, List, [], ◌∷◌, ◌++◌, length, drop, refl, sym, ap, ◌∙◌, append_assoc, append-nil, length-append, arith, nat_eq, eqb-true, eq-eqb, slice_set, Option, None, Some, if◌then◌else◌}
use Rattle.std.proofs.Math.Seq.{set-append_seam}
use Rattle.std.proofs.lemmas.Bool.Decides.{eqb_tells}
use Rattle.bench_trait.specs.declared.ask.AskKind.TheVariants.{Usm, Kim}
use Rattle.evidence_types.specs.Answers.{answer_at}
use Rattle.evidence_types.specs.Bytes.{be16, be32, encoding}
use Rattle.evidence_types.specs.Evidence.{Evidence, empty, nonce, usm, kim, seal, hash, seq_pair, par_pair}
use Rattle.evidence_types.specs.Heads.{Head, empty_head, nonce_head, usm_head, kim_head, seal_head, hash_head, seq_head, par_head, head_bytes, heads, next_mark}
use Rattle.evidence_types.specs.Marked.{measurements}
use Rattle.evidence_types.specs.Shape.{Form, nothing, the_nonce, measured, measured_at, sealed, hashed, in_sequence, in_parallel}
use Rattle.place_check.specs.declared.entry.PlaceEntry.{PlaceEntry}
use Rattle.reference_book.specs.declared.reference.Reference.{Reference}
use Rattle.reference_book.specs.Leaves.{Leaf}
use Rattle.seal_hmac.specs.Seal.{hash_of}
use Rattle.appraiser.specs.declared.verdict.Verdict.{Verdict}
use Rattle.appraiser.specs.declared.verdict.VerdictOf.TheVariants as judged
use Rattle.appraiser.specs.Expected.{Basis, expected, reference_at}
use Rattle.appraiser.specs.Fit.{agrees, is_mark, misfit_from, nodes}
use Rattle.appraiser.specs.Verdicts.{held, is_expected, is_good_answer, same, verdict, verdicts, verdicts_under}
use Rattle.stream_appraiser.specs.Standing.{OpenSeal, Standing, Closed, opening, unmarked, fed_one, fed_all, verdict_of, closed, after_leaf, inside, taken, failed, step, step_from, run}

and_first : (a b : Bool) → a && b ≡ true → a ≡ true
and_first true b e = refl
and_first false b e = absurd cc

decide : (b : Bool) → (b ≡ true) ⊎ (b ≡ false)
decide true = inl refl
decide false = inr refl

out_of : {A B C : Type 0} → (A → C) → (B → C) → A ⊎ B → C
out_of f g (inl a) = f a
out_of f g (inr b) = g b

-- ---- runs

pub run_append : (places : List PlaceEntry) (basis : Basis) (standing : Standing) (front back : List Head) → run places basis standing (front ++ back) ≡ run places basis (run places basis standing front) back
run_append places basis standing [] back = refl
run_append places basis standing (head ∷ rest) back = run_append places basis (step places basis standing head) rest back

-- a head that agrees with the next part of the shape
enter : (places : List PlaceEntry) (basis : Basis) (head : Head) (form : Form) (forms : List Form) (seals : List OpenSeal) (found : List Verdict) (answers : List (ℕ × List ℕ)) (number : ℕ) (rest : List Head) → agrees places head form ≡ true → run places basis (inside (form ∷ forms) seals found answers number) (head ∷ rest) ≡ run places basis (taken basis head form forms (fed_all (head_bytes (unmarked head)) seals) found answers (number + 1)) rest
enter places basis head form forms seals found answers number rest e =
    ap (λ b. run places basis (if b then taken basis head form forms (fed_all (head_bytes (unmarked head)) seals) found answers (number + 1) else failed (inside (form ∷ forms) seals found answers number)) rest) e

-- ---- what is fed

pub fed_twice : (first second : List ℕ) (seals : List OpenSeal) → fed_all second (fed_all first seals) ≡ fed_all (first ++ second) seals
fed_twice first second [] = refl
fed_twice first second (one ∷ rest) =
    ap (λ (fed : List ℕ). record { depth = one.depth; index = one.index; place = one.place; event = one.event; bytes = one.bytes; fed = fed } ∷ fed_all second (fed_all first rest)) (append_assoc one.fed first second)
    ∙ ap (λ (t : List OpenSeal). fed_one (first ++ second) one ∷ t) (fed_twice first second rest)

fed_is : (first second whole : List ℕ) (seals : List OpenSeal) → first ++ second ≡ whole → fed_all second (fed_all first seals) ≡ fed_all whole seals
fed_is first second whole seals e = fed_twice first second seals ∙ ap (λ (bytes : List ℕ). fed_all bytes seals) e

measured_bytes : (tag event : ℕ) (answer under : List ℕ) → (tag ∷ (be32 event ++ (be16 (length answer) ++ answer))) ++ under ≡ tag ∷ (be32 event ++ (be16 (length answer) ++ (answer ++ under)))
measured_bytes tag event answer under =
    ap (λ (t : List ℕ). tag ∷ t) (append_assoc (be32 event) (be16 (length answer) ++ answer) under ∙ ap (λ (t : List ℕ). be32 event ++ t) (append_assoc (be16 (length answer)) answer under))

sealed_bytes : (event : ℕ) (bytes under : List ℕ) → (4 ∷ (be32 event ++ bytes)) ++ under ≡ 4 ∷ (be32 event ++ (bytes ++ under))
sealed_bytes event bytes under = ap (λ (t : List ℕ). 4 ∷ t) (append_assoc (be32 event) bytes under)

-- ---- open seals

-- the innermost open seal has at most so many parts of the shape behind it
abbrev TopBelow : ℕ → List OpenSeal → Type 0
TopBelow depth [] = Unit {0}
TopBelow depth (one ∷ rest) = one.depth ≤ depth

top_fed : (depth : ℕ) (bytes : List ℕ) (seals : List OpenSeal) → TopBelow depth seals → TopBelow depth (fed_all bytes seals)
top_fed depth bytes [] h = tt
top_fed depth bytes (one ∷ rest) h = h

top_more : (depth : ℕ) (seals : List OpenSeal) → TopBelow depth seals → TopBelow (suc depth) seals
top_more depth [] h = tt
top_more depth (one ∷ rest) h = omega (arith, h)

not_equal : (a b : ℕ) → a ≤ b → nat_eq a (suc b) ≡ false
not_equal a b le = on (eqb_tells a (suc b))
  where
    on : ((nat_eq a (suc b) ≡ true) × (a ≡ suc b)) ⊎ ((nat_eq a (suc b) ≡ false) × (a ≡ suc b → ⊥)) → nat_eq a (suc b) ≡ false
    on (inl e) = absurd (omega (arith, le, e.1))
    on (inr e) = e.0

-- with one part of the shape more to come, none ends
closed_none : (basis : Basis) (depth : ℕ) (seals : List OpenSeal) (found : List Verdict) → TopBelow depth seals → closed basis (suc depth) seals found ≡ record { seals = seals; found = found }
closed_none basis depth [] found h = refl
closed_none basis depth (one ∷ rest) found h =
    ap (λ (b : Bool). if b then closed basis (suc depth) rest (slice_set found one.index (verdict_of basis one)) else record { seals = one ∷ rest; found = found }) (not_equal one.depth depth h)

-- a seal behind which as many come ends
closed_one : (basis : Basis) (one : OpenSeal) (seals : List OpenSeal) (found : List Verdict) → closed basis one.depth (one ∷ seals) found ≡ closed basis one.depth seals (slice_set found one.index (verdict_of basis one))
closed_one basis one seals found =
    ap (λ (b : Bool). if b then closed basis one.depth seals (slice_set found one.index (verdict_of basis one)) else record { seals = one ∷ seals; found = found }) (eq-eqb one.depth one.depth refl)

set_behind : (front back : List Verdict) (old new : Verdict) → slice_set ((front ++ old ∷ []) ++ back) (length front) new ≡ front ++ (new ∷ back)
set_behind front back old new =
    ap (λ (t : List Verdict). slice_set t (length front) new) (append_assoc front (old ∷ []) back) ∙ set-append_seam front old back new

-- ---- answers

first_same : (answers later : List (ℕ × List ℕ)) (event own : ℕ) (answer : List ℕ) → event ≡ own → answer_at (answers ++ (event, answer) ∷ []) own ≡ answer_at (answers ++ ((event, answer) ∷ later)) own
first_same [] later event own answer e = on (nat_eq event own) (eq-eqb event own e)
  where
    on : (b : Bool) → b ≡ true → (if b then answer else []) ≡ (if b then answer else answer_at later own)
    on true k = refl
    on false k = absurd cc
first_same (pair ∷ rest) later event own answer e =
    ap (λ (a : List ℕ). if nat_eq pair.0 own then pair.1 else a) (first_same rest later event own answer e)

good_same : (references : List Reference) (answers later : List (ℕ × List ℕ)) (event : ℕ) (leaf : Leaf) (answer : List ℕ) → event ≡ leaf.event → is_good_answer references (answers ++ (event, answer) ∷ []) leaf answer ≡ is_good_answer references (answers ++ ((event, answer) ∷ later)) leaf answer
good_same references answers later event leaf answer e =
    ap (λ (first : List ℕ). is_expected references leaf answer && same answer first) (first_same answers later event leaf.event answer e)

-- ---- the first node that does not fit

-- the first of these nodes that does not agree; it does not matter which nodes of the shape are left
abbrev differs_from : List PlaceEntry → ℕ → List Head → List Form → Option ℕ
differs_from places number [] forms = None
differs_from places number (head ∷ rest) [] = Some number
differs_from places number (head ∷ rest) (form ∷ forms) = if agrees places head form then differs_from places (number + 1) rest forms else Some number

abbrev nodes_of : List Form → List Form
nodes_of [] = []
nodes_of (form ∷ forms) = nodes form ++ nodes_of forms

run_failed : (places : List PlaceEntry) (basis : Basis) (standing : Standing) (node : ℕ) (read : List Head) → standing.misfit ≡ Some node → (run places basis standing read).misfit ≡ Some node
run_failed places basis standing node [] e = e
run_failed places basis standing node (head ∷ rest) e =
    ap (λ (m : Option ℕ). (run places basis (step_from places basis head m standing) rest).misfit) e ∙ run_failed places basis standing node rest e

-- what a head that agrees leaves
record TakenTo (basis : Basis) (head : Head) (form : Form) (forms : List Form) (seals : List OpenSeal) (found : List Verdict) (answers : List (ℕ × List ℕ)) (number : ℕ) : Type 0 where
  left : List Form
  open_seals : List OpenSeal
  now_found : List Verdict
  now_held : List (ℕ × List ℕ)
  is : taken basis head form forms seals found answers number ≡ inside left open_seals now_found now_held number
  nodes_are : nodes form ++ nodes_of forms ≡ form ∷ nodes_of left

taken_to : (places : List PlaceEntry) (basis : Basis) (head : Head) (form : Form) (forms : List Form) (seals : List OpenSeal) (found : List Verdict) (answers : List (ℕ × List ℕ)) (number : ℕ) → agrees places head form ≡ true → TakenTo basis head form forms seals found answers number
taken_to places basis empty_head nothing forms seals found answers number e =
    record { left = forms; open_seals = (closed basis (length forms) seals found).seals; now_found = (closed basis (length forms) seals found).found; now_held = answers; is = refl; nodes_are = refl }
taken_to places basis (nonce_head bytes) the_nonce forms seals found answers number e =
    let more = found ++ verdict judged.Nonce (same bytes basis.nonce) ∷ [] in
    record { left = forms; open_seals = (closed basis (length forms) seals more).seals; now_found = (closed basis (length forms) seals more).found; now_held = answers; is = refl; nodes_are = refl }
taken_to places basis (usm_head event mark answer) (measured own place asp below) forms seals found answers number e =
    record { left = below ∷ forms; open_seals = seals; now_found = found ++ verdict (judged.Leaf own) (is_good_answer basis.references (answers ++ (event, answer) ∷ []) (record { event = own; place = place; kind = Usm; asp = asp }) answer) ∷ []; now_held = answers ++ (event, answer) ∷ []; is = refl; nodes_are = refl }
taken_to places basis (kim_head event mark answer) (measured_at own place target asp below) forms seals found answers number e =
    record { left = below ∷ forms; open_seals = seals; now_found = found ++ verdict (judged.Leaf own) (is_good_answer basis.references (answers ++ (event, answer) ∷ []) (record { event = own; place = place; kind = Kim target; asp = asp }) answer) ∷ []; now_held = answers ++ (event, answer) ∷ []; is = refl; nodes_are = refl }
taken_to places basis (seal_head event bytes) (sealed own place below) forms seals found answers number e =
    record { left = below ∷ forms; open_seals = record { depth = length forms; index = length found; place = place; event = own; bytes = bytes; fed = [] } ∷ seals; now_found = found ++ verdict (judged.Seal own) false ∷ []; now_held = answers; is = refl; nodes_are = refl }
taken_to places basis (hash_head event bytes) (hashed own place below) forms seals found answers number e =
    let more = found ++ verdict (judged.Hash own) (same bytes (hash_of (encoding (expected basis (reference_at basis.references) below)))) ∷ [] in
    record { left = forms; open_seals = (closed basis (length forms) seals more).seals; now_found = (closed basis (length forms) seals more).found; now_held = answers; is = refl; nodes_are = refl }
taken_to places basis seq_head (in_sequence first second) forms seals found answers number e =
    record { left = first ∷ (second ∷ forms); open_seals = seals; now_found = found; now_held = answers; is = refl; nodes_are = ap (λ (t : List Form). in_sequence first second ∷ t) (append_assoc (nodes first) (nodes second) (nodes_of forms)) }
taken_to places basis par_head (in_parallel first second) forms seals found answers number e =
    record { left = first ∷ (second ∷ forms); open_seals = seals; now_found = found; now_held = answers; is = refl; nodes_are = ap (λ (t : List Form). in_parallel first second ∷ t) (append_assoc (nodes first) (nodes second) (nodes_of forms)) }
taken_to places basis head form forms seals found answers number e = absurd cc

-- the next node of the shape stands first
record FirstOf (form : Form) (behind : List Form) : Type 0 where
  left : List Form
  is : nodes form ++ behind ≡ form ∷ left

first_of : (form : Form) (behind : List Form) → FirstOf form behind
first_of nothing behind = record { left = behind; is = refl }
first_of the_nonce behind = record { left = behind; is = refl }
first_of (measured event place asp under) behind = record { left = nodes under ++ behind; is = refl }
first_of (measured_at event place target asp under) behind = record { left = nodes under ++ behind; is = refl }
first_of (sealed event place under) behind = record { left = nodes under ++ behind; is = refl }
first_of (hashed event place under) behind = record { left = behind; is = refl }
first_of (in_sequence left right) behind = record { left = (nodes left ++ nodes right) ++ behind; is = refl }
first_of (in_parallel left right) behind = record { left = (nodes left ++ nodes right) ++ behind; is = refl }

run_differs : (places : List PlaceEntry) (basis : Basis) (read : List Head) (forms : List Form) (seals : List OpenSeal) (found : List Verdict) (answers : List (ℕ × List ℕ)) (number : ℕ) → (run places basis (inside forms seals found answers number) read).misfit ≡ differs_from places number read (nodes_of forms)
run_differs places basis [] forms seals found answers number = refl
run_differs places basis (head ∷ rest) [] seals found answers number = run_failed places basis (failed (inside [] seals found answers number)) number rest refl
run_differs places basis (head ∷ rest) (form ∷ forms) seals found answers number =
    out_of
    (λ yes.
    let fed = fed_all (head_bytes (unmarked head)) seals in
    let to = taken_to places basis head form forms fed found answers (number + 1) yes in
    ap (λ (standing : Standing). standing.misfit) (enter places basis head form forms seals found answers number rest yes)
    ∙ ap (λ (standing : Standing). (run places basis standing rest).misfit) to.is
    ∙ run_differs places basis rest to.left to.open_seals to.now_found to.now_held (number + 1)
    ∙ sym (ap (λ (t : List Form). differs_from places number (head ∷ rest) t) to.nodes_are ∙ ap (λ (b : Bool). if b then differs_from places (number + 1) rest (nodes_of to.left) else Some number) yes))
    (λ no.
    let to = first_of form (nodes_of forms) in
    ap (λ (b : Bool). (run places basis (if b then taken basis head form forms (fed_all (head_bytes (unmarked head)) seals) found answers (number + 1) else failed (inside (form ∷ forms) seals found answers number)) rest).misfit) no
    ∙ run_failed places basis (failed (inside (form ∷ forms) seals found answers number)) number rest refl
    ∙ sym (ap (λ (t : List Form). differs_from places number (head ∷ rest) t) to.is ∙ ap (λ (b : Bool). if b then differs_from places (number + 1) rest to.left else Some number) no))
    (decide (agrees places head form))

-- a difference is a misfit
differs_some : (places : List PlaceEntry) (number : ℕ) (read : List Head) (forms : List Form) (node : ℕ) → differs_from places number read forms ≡ Some node → misfit_from places number read forms ≡ Some node
differs_some places number [] forms node e = absurd cc
differs_some places number (head ∷ rest) [] node e = e
differs_some places number (head ∷ rest) (form ∷ forms) node e =
    out_of
    (λ yes.
    ap (λ (b : Bool). if b then misfit_from places (number + 1) rest forms else Some number) yes
    ∙ differs_some places (number + 1) rest forms node (sym (ap (λ (b : Bool). if b then differs_from places (number + 1) rest forms else Some number) yes) ∙ e))
    (λ no.
    ap (λ (b : Bool). if b then misfit_from places (number + 1) rest forms else Some number) no
    ∙ sym (ap (λ (b : Bool). if b then differs_from places (number + 1) rest forms else Some number) no) ∙ e)
    (decide (agrees places head form))

-- where no node of a part differs, the walk stands behind it
record Through (places : List PlaceEntry) (number : ℕ) (read : List Head) (forms : List Form) (rest : List Head) (more : List Form) : Type 0 where
  after : ℕ
  misfit_is : misfit_from places number (read ++ rest) (forms ++ more) ≡ misfit_from places after rest more
  behind : differs_from places after rest more ≡ None

-- a node that must agree
alike : (test : Bool) (number : ℕ) (others : Option ℕ) → (if test then others else Some number) ≡ None → (test ≡ true) × (others ≡ None)
alike true number others e = (refl, e)
alike false number others e = absurd cc

one_more : (places : List PlaceEntry) (number : ℕ) (head : Head) (form : Form) (read : List Head) (forms : List Form) (rest : List Head) (more : List Form) → agrees places head form ≡ true → Through places (number + 1) read forms rest more → Through places number (head ∷ read) (form ∷ forms) rest more
one_more places number head form read forms rest more e t = record {
  after = t.after;
  misfit_is = ap (λ (b : Bool). if b then misfit_from places (number + 1) (read ++ rest) (forms ++ more) else Some number) e ∙ t.misfit_is;
  behind = t.behind;
}

none_more : (places : List PlaceEntry) (number : ℕ) (rest : List Head) (more : List Form) → differs_from places number rest more ≡ None → Through places number [] [] rest more
none_more places number rest more e = record { after = number; misfit_is = refl; behind = e }

-- two parts one after the other
abbrev put_together : (places : List PlaceEntry) (number : ℕ) (read others rest : List Head) (forms more_forms more : List Form) → differs_from places number ((read ++ others) ++ rest) ((forms ++ more_forms) ++ more) ≡ None → differs_from places number (read ++ (others ++ rest)) (forms ++ (more_forms ++ more)) ≡ None
put_together places number read others rest forms more_forms more e =
    ap (λ (t : List Head). differs_from places number t (forms ++ (more_forms ++ more))) (sym (append_assoc read others rest))
    ∙ ap (λ (t : List Form). differs_from places number ((read ++ others) ++ rest) t) (sym (append_assoc forms more_forms more))
    ∙ e

both_through : (places : List PlaceEntry) (number : ℕ) (read others rest : List Head) (forms more_forms more : List Form) (first : Through places number read forms (others ++ rest) (more_forms ++ more)) → Through places first.after others more_forms rest more → Through places number (read ++ others) (forms ++ more_forms) rest more
both_through places number read others rest forms more_forms more first second = record {
  after = second.after;
  misfit_is =
      ap (λ (t : List Head). misfit_from places number t ((forms ++ more_forms) ++ more)) (append_assoc read others rest)
      ∙ ap (λ (t : List Form). misfit_from places number (read ++ (others ++ rest)) t) (append_assoc forms more_forms more)
      ∙ first.misfit_is
      ∙ second.misfit_is;
  behind = second.behind;
}

through : (places : List PlaceEntry) (number : ℕ) (value : Evidence) (marks : List ℕ) (shape : Form) (rest : List Head) (more : List Form) → differs_from places number (heads value marks ++ rest) (nodes shape ++ more) ≡ None → Through places number (heads value marks) (nodes shape) rest more
through places number empty marks nothing rest more e = one_more places number empty_head nothing [] [] rest more refl (none_more places (number + 1) rest more e)
through places number (nonce bytes) marks the_nonce rest more e = one_more places number (nonce_head bytes) the_nonce [] [] rest more refl (none_more places (number + 1) rest more e)
through places number (usm event answer under) marks (measured own place asp below) rest more e =
    let here = alike (nat_eq event own && is_mark places (next_mark marks) place) number (differs_from places (number + 1) (heads under (drop 1 marks) ++ rest) (nodes below ++ more)) e in
    one_more places number (usm_head event (next_mark marks) answer) (measured own place asp below) (heads under (drop 1 marks)) (nodes below) rest more here.0 (through places (number + 1) under (drop 1 marks) below rest more here.1)
through places number (kim event answer under) marks (measured_at own place target asp below) rest more e =
    let here = alike (nat_eq event own && is_mark places (next_mark marks) place) number (differs_from places (number + 1) (heads under (drop 1 marks) ++ rest) (nodes below ++ more)) e in
    one_more places number (kim_head event (next_mark marks) answer) (measured_at own place target asp below) (heads under (drop 1 marks)) (nodes below) rest more here.0 (through places (number + 1) under (drop 1 marks) below rest more here.1)
through places number (seal event bytes under) marks (sealed own place below) rest more e =
    let here = alike (nat_eq event own) number (differs_from places (number + 1) (heads under marks ++ rest) (nodes below ++ more)) e in
    one_more places number (seal_head event bytes) (sealed own place below) (heads under marks) (nodes below) rest more here.0 (through places (number + 1) under marks below rest more here.1)
through places number (hash event bytes) marks (hashed own place below) rest more e =
    let here = alike (nat_eq event own) number (differs_from places (number + 1) rest more) e in
    one_more places number (hash_head event bytes) (hashed own place below) [] [] rest more here.0 (none_more places (number + 1) rest more here.1)
through places number (seq_pair left right) marks (in_sequence first second) rest more e =
    let behind = drop (measurements left) marks in
    let on_left = through places (number + 1) left marks first (heads right behind ++ rest) (nodes second ++ more) (put_together places (number + 1) (heads left marks) (heads right behind) rest (nodes first) (nodes second) more e) in
    one_more places number seq_head (in_sequence first second) (heads left marks ++ heads right behind) (nodes first ++ nodes second) rest more refl
    (both_through places (number + 1) (heads left marks) (heads right behind) rest (nodes first) (nodes second) more on_left (through places on_left.after right behind second rest more on_left.behind))
through places number (par_pair left right) marks (in_parallel first second) rest more e =
    let behind = drop (measurements left) marks in
    let on_left = through places (number + 1) left marks first (heads right behind ++ rest) (nodes second ++ more) (put_together places (number + 1) (heads left marks) (heads right behind) rest (nodes first) (nodes second) more e) in
    one_more places number par_head (in_parallel first second) (heads left marks ++ heads right behind) (nodes first ++ nodes second) rest more refl
    (both_through places (number + 1) (heads left marks) (heads right behind) rest (nodes first) (nodes second) more on_left (through places on_left.after right behind second rest more on_left.behind))
through places number value marks shape rest more e = absurd cc

differs_none : (places : List PlaceEntry) (value : Evidence) (marks : List ℕ) (shape : Form) → differs_from places 0 (heads value marks) (nodes shape) ≡ None → misfit_from places 0 (heads value marks) (nodes shape) ≡ None
differs_none places value marks shape e =
    let premise : differs_from places 0 (heads value marks ++ []) (nodes shape ++ []) ≡ None =
    ap (λ (t : List Head). differs_from places 0 t (nodes shape ++ [])) (append-nil (heads value marks))
    ∙ ap (λ (t : List Form). differs_from places 0 (heads value marks) t) (append-nil (nodes shape))
    ∙ e in
    sym (ap (λ (t : List Head). misfit_from places 0 t (nodes shape ++ [])) (append-nil (heads value marks)) ∙ ap (λ (t : List Form). misfit_from places 0 (heads value marks) t) (append-nil (nodes shape)))
    ∙ (through places 0 value marks shape [] [] premise).misfit_is

differs_is : (places : List PlaceEntry) (value : Evidence) (marks : List ℕ) (shape : Form) (found : Option ℕ) → differs_from places 0 (heads value marks) (nodes shape) ≡ found → found ≡ misfit_from places 0 (heads value marks) (nodes shape)
differs_is places value marks shape None e = sym (differs_none places value marks shape e)
differs_is places value marks shape (Some node) e = sym (differs_some places 0 (heads value marks) (nodes shape) node e)

-- where no node is a misfit, none differs
no_difference : (places : List PlaceEntry) (value : Evidence) (marks : List ℕ) (shape : Form) → misfit_from places 0 (heads value marks) (nodes shape) ≡ None → (found : Option ℕ) → differs_from places 0 (heads value marks) (nodes shape) ≡ found → differs_from places 0 (heads value marks) (nodes shape) ≡ None
no_difference places value marks shape e None k = k
no_difference places value marks shape e (Some node) k =
    let m : misfit_from places 0 (heads value marks) (nodes shape) ≡ Some node = differs_some places 0 (heads value marks) (nodes shape) node k in absurd cc

-- ---- a part of a value that fits

same_after : (basis : Basis) (forms : List Form) (seals other_seals : List OpenSeal) (found other_found : List Verdict) (answers other_answers : List (ℕ × List ℕ)) (number other : ℕ) → seals ≡ other_seals → found ≡ other_found → answers ≡ other_answers → number ≡ other → after_leaf basis forms seals found answers number ≡ after_leaf basis forms other_seals other_found other_answers other
same_after basis forms seals other_seals found other_found answers other_answers number other s f a n =
    ap (λ t. after_leaf basis forms t found answers number) s
    ∙ ap (λ t. after_leaf basis forms other_seals t answers number) f
    ∙ ap (λ t. after_leaf basis forms other_seals other_found t number) a
    ∙ ap (λ t. after_leaf basis forms other_seals other_found other_answers t) n

-- what stands behind a part that ended with a part more to come
goes_on : (basis : Basis) (form : Form) (forms : List Form) (seals : List OpenSeal) (found : List Verdict) (answers : List (ℕ × List ℕ)) (number : ℕ) → TopBelow (length forms) seals → after_leaf basis (form ∷ forms) seals found answers number ≡ inside (form ∷ forms) seals found answers number
goes_on basis form forms seals found answers number h =
    ap (λ (made : Closed). record { forms = form ∷ forms; seals = made.seals; found = made.found; held = answers; number = number; misfit = None }) (closed_none basis (length forms) seals found h)

-- what stands behind a seal whose part ended
seal_ends : (basis : Basis) (forms : List Form) (one : OpenSeal) (seals : List OpenSeal) (found : List Verdict) (answers : List (ℕ × List ℕ)) (number : ℕ) → one.depth ≡ length forms → after_leaf basis forms (one ∷ seals) found answers number ≡ after_leaf basis forms seals (slice_set found one.index (verdict_of basis one)) answers number
seal_ends basis forms one seals found answers number e =
    ap (λ (made : Closed). record { forms = forms; seals = made.seals; found = made.found; held = answers; number = number; misfit = None })
    (ap (λ (depth : ℕ). closed basis depth (one ∷ seals) found) (sym e) ∙ closed_one basis one seals found ∙ ap (λ (depth : ℕ). closed basis depth seals (slice_set found one.index (verdict_of basis one))) e)

-- the heads of a part that fits, with these nodes behind it, come to its verdicts and answers; and its bytes are fed
-- to the open seals
value_runs : (places : List PlaceEntry) (basis : Basis) (n : ℕ) (value : Evidence) (marks : List ℕ) (shape : Form) (rest : List Head) (more : List Form) → differs_from places n (heads value marks ++ rest) (nodes shape ++ more) ≡ None → (forms : List Form) (seals : List OpenSeal) (found : List Verdict) (answers later : List (ℕ × List ℕ)) (number : ℕ) → TopBelow (length forms) seals → run places basis (inside (shape ∷ forms) seals found answers number) (heads value marks) ≡ after_leaf basis forms (fed_all (encoding value) seals) (found ++ verdicts_under basis (answers ++ (held value ++ later)) value shape) (answers ++ held value) (number + length (nodes shape))
value_runs places basis n empty marks nothing rest more e forms seals found answers later number h =
    same_after basis forms (fed_all (0 ∷ []) seals) (fed_all (0 ∷ []) seals) found (found ++ []) answers (answers ++ []) (number + 1) (number + 1) refl (sym (append-nil found)) (sym (append-nil answers)) refl
value_runs places basis n (nonce bytes) marks the_nonce rest more e forms seals found answers later number h =
    same_after basis forms (fed_all (1 ∷ bytes) seals) (fed_all (1 ∷ bytes) seals)
    (found ++ verdict judged.Nonce (same bytes basis.nonce) ∷ []) (found ++ verdict judged.Nonce (same bytes basis.nonce) ∷ [])
    answers (answers ++ []) (number + 1) (number + 1) refl refl (sym (append-nil answers)) refl
value_runs places basis n (usm event answer under) marks (measured own place asp below) rest more e forms seals found answers later number h =
    let here = alike (nat_eq event own && is_mark places (next_mark marks) place) n (differs_from places (n + 1) (heads under (drop 1 marks) ++ rest) (nodes below ++ more)) e in
    let leaf : Leaf = record { event = own; place = place; kind = Usm; asp = asp } in
    let bytes = head_bytes (usm_head event None answer) in
    let held_now = answers ++ (event, answer) ∷ [] in
    let found_now = found ++ verdict (judged.Leaf own) (is_good_answer basis.references held_now leaf answer) ∷ [] in
    let is_event : event ≡ own = eqb-true event own (and_first (nat_eq event own) (is_mark places (next_mark marks) place) here.0) in
    let all = answers ++ ((event, answer) ∷ (held under ++ later)) in
    enter places basis (usm_head event (next_mark marks) answer) (measured own place asp below) forms seals found answers number (heads under (drop 1 marks)) here.0
    ∙ value_runs places basis (n + 1) under (drop 1 marks) below rest more here.1 forms (fed_all bytes seals) found_now held_now later (number + 1) (top_fed (length forms) bytes seals h)
    ∙ same_after basis forms
    (fed_all (encoding under) (fed_all bytes seals)) (fed_all (encoding (usm event answer under)) seals)
    (found_now ++ verdicts_under basis (held_now ++ (held under ++ later)) under below) (found ++ verdicts_under basis all (usm event answer under) (measured own place asp below))
    (held_now ++ held under) (answers ++ held (usm event answer under))
    (number + 1 + length (nodes below)) (number + length (nodes (measured own place asp below)))
    (fed_is bytes (encoding under) (encoding (usm event answer under)) seals (measured_bytes 2 event answer (encoding under)))
    (append_assoc found (verdict (judged.Leaf own) (is_good_answer basis.references held_now leaf answer) ∷ []) (verdicts_under basis (held_now ++ (held under ++ later)) under below)
    ∙ ap (λ (good : Bool). found ++ (verdict (judged.Leaf own) good ∷ verdicts_under basis (held_now ++ (held under ++ later)) under below)) (good_same basis.references answers (held under ++ later) event leaf answer is_event)
    ∙ ap (λ (firsts : List (ℕ × List ℕ)). found ++ (verdict (judged.Leaf own) (is_good_answer basis.references all leaf answer) ∷ verdicts_under basis firsts under below)) (append_assoc answers ((event, answer) ∷ []) (held under ++ later)))
    (append_assoc answers ((event, answer) ∷ []) (held under))
    (omega arith)
value_runs places basis n (kim event answer under) marks (measured_at own place target asp below) rest more e forms seals found answers later number h =
    let here = alike (nat_eq event own && is_mark places (next_mark marks) place) n (differs_from places (n + 1) (heads under (drop 1 marks) ++ rest) (nodes below ++ more)) e in
    let leaf : Leaf = record { event = own; place = place; kind = Kim target; asp = asp } in
    let bytes = head_bytes (kim_head event None answer) in
    let held_now = answers ++ (event, answer) ∷ [] in
    let found_now = found ++ verdict (judged.Leaf own) (is_good_answer basis.references held_now leaf answer) ∷ [] in
    let is_event : event ≡ own = eqb-true event own (and_first (nat_eq event own) (is_mark places (next_mark marks) place) here.0) in
    let all = answers ++ ((event, answer) ∷ (held under ++ later)) in
    enter places basis (kim_head event (next_mark marks) answer) (measured_at own place target asp below) forms seals found answers number (heads under (drop 1 marks)) here.0
    ∙ value_runs places basis (n + 1) under (drop 1 marks) below rest more here.1 forms (fed_all bytes seals) found_now held_now later (number + 1) (top_fed (length forms) bytes seals h)
    ∙ same_after basis forms
    (fed_all (encoding under) (fed_all bytes seals)) (fed_all (encoding (kim event answer under)) seals)
    (found_now ++ verdicts_under basis (held_now ++ (held under ++ later)) under below) (found ++ verdicts_under basis all (kim event answer under) (measured_at own place target asp below))
    (held_now ++ held under) (answers ++ held (kim event answer under))
    (number + 1 + length (nodes below)) (number + length (nodes (measured_at own place target asp below)))
    (fed_is bytes (encoding under) (encoding (kim event answer under)) seals (measured_bytes 3 event answer (encoding under)))
    (append_assoc found (verdict (judged.Leaf own) (is_good_answer basis.references held_now leaf answer) ∷ []) (verdicts_under basis (held_now ++ (held under ++ later)) under below)
    ∙ ap (λ (good : Bool). found ++ (verdict (judged.Leaf own) good ∷ verdicts_under basis (held_now ++ (held under ++ later)) under below)) (good_same basis.references answers (held under ++ later) event leaf answer is_event)
    ∙ ap (λ (firsts : List (ℕ × List ℕ)). found ++ (verdict (judged.Leaf own) (is_good_answer basis.references all leaf answer) ∷ verdicts_under basis firsts under below)) (append_assoc answers ((event, answer) ∷ []) (held under ++ later)))
    (append_assoc answers ((event, answer) ∷ []) (held under))
    (omega arith)
value_runs places basis n (seal event bytes under) marks (sealed own place below) rest more e forms seals found answers later number h =
    let here = alike (nat_eq event own) n (differs_from places (n + 1) (heads under marks ++ rest) (nodes below ++ more)) e in
    let before = head_bytes (seal_head event bytes) in
    let one : OpenSeal = record { depth = length forms; index = length found; place = place; event = own; bytes = bytes; fed = [] } in
    let found_now = found ++ verdict (judged.Seal own) false ∷ [] in
    let whole = encoding under in
    let under_it = verdicts_under basis (answers ++ (held under ++ later)) under below in
    enter places basis (seal_head event bytes) (sealed own place below) forms seals found answers number (heads under marks) here.0
    ∙ value_runs places basis (n + 1) under marks below rest more here.1 forms (one ∷ fed_all before seals) found_now answers later (number + 1) (omega arith)
    ∙ seal_ends basis forms (fed_one whole one) (fed_all whole (fed_all before seals)) (found_now ++ under_it) (answers ++ held under) (number + 1 + length (nodes below)) refl
    ∙ same_after basis forms
    (fed_all whole (fed_all before seals)) (fed_all (encoding (seal event bytes under)) seals)
    (slice_set (found_now ++ under_it) (length found) (verdict_of basis (fed_one whole one))) (found ++ (verdict_of basis (fed_one whole one) ∷ under_it))
    (answers ++ held under) (answers ++ held under)
    (number + 1 + length (nodes below)) (number + length (nodes (sealed own place below)))
    (fed_is before whole (encoding (seal event bytes under)) seals (sealed_bytes event bytes whole))
    (set_behind found under_it (verdict (judged.Seal own) false) (verdict_of basis (fed_one whole one)))
    refl
    (omega arith)
value_runs places basis n (hash event bytes) marks (hashed own place below) rest more e forms seals found answers later number h =
    let here = alike (nat_eq event own) n (differs_from places (n + 1) rest more) e in
    let good = verdict (judged.Hash own) (same bytes (hash_of (encoding (expected basis (reference_at basis.references) below)))) in
    enter places basis (hash_head event bytes) (hashed own place below) forms seals found answers number [] here.0
    ∙ same_after basis forms (fed_all (encoding (hash event bytes)) seals) (fed_all (encoding (hash event bytes)) seals) (found ++ good ∷ []) (found ++ good ∷ []) answers (answers ++ []) (number + 1) (number + 1) refl refl (sym (append-nil answers)) refl
value_runs places basis n (seq_pair left right) marks (in_sequence first second) rest more e forms seals found answers later number h =
    let behind = drop (measurements left) marks in
    let premise = put_together places (n + 1) (heads left marks) (heads right behind) rest (nodes first) (nodes second) more e in
    let on_left = through places (n + 1) left marks first (heads right behind ++ rest) (nodes second ++ more) premise in
    let tag : List ℕ = 6 ∷ [] in
    let fed = fed_all tag seals in
    let fed_left = fed_all (encoding left) fed in
    let left_later = held right ++ later in
    let left_found = found ++ verdicts_under basis (answers ++ (held left ++ left_later)) left first in
    let left_number = number + 1 + length (nodes first) in
    let all = answers ++ ((held left ++ held right) ++ later) in
    let left_all : answers ++ (held left ++ left_later) ≡ all = ap (λ (t : List (ℕ × List ℕ)). answers ++ t) (sym (append_assoc (held left) (held right) later)) in
    let right_all : (answers ++ held left) ++ left_later ≡ all = append_assoc answers (held left) left_later ∙ left_all in
    enter places basis seq_head (in_sequence first second) forms seals found answers number (heads left marks ++ heads right behind) refl
    ∙ run_append places basis (inside (first ∷ (second ∷ forms)) fed found answers (number + 1)) (heads left marks) (heads right behind)
    ∙ ap (λ (standing : Standing). run places basis standing (heads right behind))
    (value_runs places basis (n + 1) left marks first (heads right behind ++ rest) (nodes second ++ more) premise (second ∷ forms) fed found answers left_later (number + 1) (top_more (length forms) fed (top_fed (length forms) tag seals h))
    ∙ goes_on basis second forms fed_left left_found (answers ++ held left) left_number (top_fed (length forms) (encoding left) fed (top_fed (length forms) tag seals h)))
    ∙ value_runs places basis on_left.after right behind second rest more on_left.behind forms fed_left left_found (answers ++ held left) later left_number (top_fed (length forms) (encoding left) fed (top_fed (length forms) tag seals h))
    ∙ same_after basis forms
    (fed_all (encoding right) fed_left) (fed_all (encoding (seq_pair left right)) seals)
    (left_found ++ verdicts_under basis ((answers ++ held left) ++ left_later) right second) (found ++ verdicts_under basis all (seq_pair left right) (in_sequence first second))
    ((answers ++ held left) ++ held right) (answers ++ held (seq_pair left right))
    (left_number + length (nodes second)) (number + length (nodes (in_sequence first second)))
    (ap (λ (t : List OpenSeal). fed_all (encoding right) t) (fed_twice tag (encoding left) seals) ∙ fed_twice (tag ++ encoding left) (encoding right) seals)
    (append_assoc found (verdicts_under basis (answers ++ (held left ++ left_later)) left first) (verdicts_under basis ((answers ++ held left) ++ left_later) right second)
    ∙ ap (λ (firsts : List (ℕ × List ℕ)). found ++ (verdicts_under basis firsts left first ++ verdicts_under basis ((answers ++ held left) ++ left_later) right second)) left_all
    ∙ ap (λ (firsts : List (ℕ × List ℕ)). found ++ (verdicts_under basis all left first ++ verdicts_under basis firsts right second)) right_all)
    (append_assoc answers (held left) (held right))
    (omega (arith, length-append (nodes first) (nodes second)))
value_runs places basis n (par_pair left right) marks (in_parallel first second) rest more e forms seals found answers later number h =
    let behind = drop (measurements left) marks in
    let premise = put_together places (n + 1) (heads left marks) (heads right behind) rest (nodes first) (nodes second) more e in
    let on_left = through places (n + 1) left marks first (heads right behind ++ rest) (nodes second ++ more) premise in
    let tag : List ℕ = 7 ∷ [] in
    let fed = fed_all tag seals in
    let fed_left = fed_all (encoding left) fed in
    let left_later = held right ++ later in
    let left_found = found ++ verdicts_under basis (answers ++ (held left ++ left_later)) left first in
    let left_number = number + 1 + length (nodes first) in
    let all = answers ++ ((held left ++ held right) ++ later) in
    let left_all : answers ++ (held left ++ left_later) ≡ all = ap (λ (t : List (ℕ × List ℕ)). answers ++ t) (sym (append_assoc (held left) (held right) later)) in
    let right_all : (answers ++ held left) ++ left_later ≡ all = append_assoc answers (held left) left_later ∙ left_all in
    enter places basis par_head (in_parallel first second) forms seals found answers number (heads left marks ++ heads right behind) refl
    ∙ run_append places basis (inside (first ∷ (second ∷ forms)) fed found answers (number + 1)) (heads left marks) (heads right behind)
    ∙ ap (λ (standing : Standing). run places basis standing (heads right behind))
    (value_runs places basis (n + 1) left marks first (heads right behind ++ rest) (nodes second ++ more) premise (second ∷ forms) fed found answers left_later (number + 1) (top_more (length forms) fed (top_fed (length forms) tag seals h))
    ∙ goes_on basis second forms fed_left left_found (answers ++ held left) left_number (top_fed (length forms) (encoding left) fed (top_fed (length forms) tag seals h)))
    ∙ value_runs places basis on_left.after right behind second rest more on_left.behind forms fed_left left_found (answers ++ held left) later left_number (top_fed (length forms) (encoding left) fed (top_fed (length forms) tag seals h))
    ∙ same_after basis forms
    (fed_all (encoding right) fed_left) (fed_all (encoding (par_pair left right)) seals)
    (left_found ++ verdicts_under basis ((answers ++ held left) ++ left_later) right second) (found ++ verdicts_under basis all (par_pair left right) (in_parallel first second))
    ((answers ++ held left) ++ held right) (answers ++ held (par_pair left right))
    (left_number + length (nodes second)) (number + length (nodes (in_parallel first second)))
    (ap (λ (t : List OpenSeal). fed_all (encoding right) t) (fed_twice tag (encoding left) seals) ∙ fed_twice (tag ++ encoding left) (encoding right) seals)
    (append_assoc found (verdicts_under basis (answers ++ (held left ++ left_later)) left first) (verdicts_under basis ((answers ++ held left) ++ left_later) right second)
    ∙ ap (λ (firsts : List (ℕ × List ℕ)). found ++ (verdicts_under basis firsts left first ++ verdicts_under basis ((answers ++ held left) ++ left_later) right second)) left_all
    ∙ ap (λ (firsts : List (ℕ × List ℕ)). found ++ (verdicts_under basis all left first ++ verdicts_under basis firsts right second)) right_all)
    (append_assoc answers (held left) (held right))
    (omega (arith, length-append (nodes first) (nodes second)))
value_runs places basis n value marks shape rest more e forms seals found answers later number h = absurd cc

-- ---- the whole

pub value_found : (places : List PlaceEntry) (basis : Basis) (shape : Form) (value : Evidence) (marks : List ℕ) → misfit_from places 0 (heads value marks) (nodes shape) ≡ None → (run places basis (opening shape) (heads value marks)).found ≡ verdicts basis value shape
value_found places basis shape value marks e =
    let premise : differs_from places 0 (heads value marks ++ []) (nodes shape ++ []) ≡ None =
    ap (λ (t : List Head). differs_from places 0 t (nodes shape ++ [])) (append-nil (heads value marks))
    ∙ ap (λ (t : List Form). differs_from places 0 (heads value marks) t) (append-nil (nodes shape))
    ∙ no_difference places value marks shape e (differs_from places 0 (heads value marks) (nodes shape)) refl in
    ap (λ (standing : Standing). standing.found) (value_runs places basis 0 value marks shape [] [] premise [] [] [] [] [] 0 tt)
    ∙ ap (λ (firsts : List (ℕ × List ℕ)). verdicts_under basis firsts value shape) (append-nil (held value))

pub value_misfit : (places : List PlaceEntry) (basis : Basis) (shape : Form) (value : Evidence) (marks : List ℕ) → (run places basis (opening shape) (heads value marks)).misfit ≡ misfit_from places 0 (heads value marks) (nodes shape)
value_misfit places basis shape value marks =
    run_differs places basis (heads value marks) (shape ∷ []) [] [] [] 0
    ∙ ap (λ (t : List Form). differs_from places 0 (heads value marks) t) (append-nil (nodes shape))
    ∙ differs_is places value marks shape (differs_from places 0 (heads value marks) (nodes shape)) refl
