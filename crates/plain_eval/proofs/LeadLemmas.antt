-- What a step of the code does leads on.
use Rattle.std.proofs.Common.{◌≡◌, ◌∙◌, ◌+◌, ℕ, Bool, List, [], ◌∷◌, ◌++◌, length, map, reverse, true, false, Result, Ok, Err, OnOk, refl, sym, ap, subst}
use Rattle.std.proofs.lemmas.List.{reverse-append}
use Rattle.phrase_tree.specs.Term.{Term, seq, par}
use Rattle.phrase_tree.specs.Numbering.{event_count}
use Rattle.phrase_tree.specs.declared.phrase.Split.{Split}
use Rattle.evidence_types.specs.Bytes.{encoding}
use Rattle.evidence_types.specs.Evidence.{Evidence}
use Rattle.session_model.specs.Value.{part}
use Rattle.plain_eval.specs.Codes.{AreKeyed}
use Rattle.plain_eval.specs.Given.{makings_of, value_given}
use Rattle.plain_eval.specs.Pending.{Lead, Leads, Moves, todo, todos}
use Rattle.plain_eval.specs.Steps.{Make, Todo, join, joined, run, run_left}
use Rattle.plain_eval.specs.declared.given.Given.{Given}
use Rattle.plain_eval.specs.declared.pending.Step.{Step}
use Rattle.plain_eval.specs.declared.pending.Work.{Work}
use Rattle.plain_eval.proofs.StepLemmas.{make_seq, make_par}

on_ok : {A E P Q : Type 0} (r : Result A E) → OnOk r P → (P → Q) → OnOk r Q
on_ok (Ok x) p leads = leads p
on_ok (Err e) p leads = p

-- steps that make the value lead to it, once they are to come
moved : (given : Given) (new : Work) (steps : List Todo) (next : ℕ) (made bytes : List ℕ) (current : Evidence) (under kept : List Evidence) → Moves new steps next made bytes → made ≡ encoding current ++ joined under → bytes ≡ joined kept → AreKeyed given.keys.now new.codes.items → Make (makings_of given) (value_given given) steps next current under kept → Leads given new
moved given new steps next made bytes current under kept m made_is bytes_is keyed make = record {
  current = current;
  under = under;
  kept = kept;
  made_is = m.made_is ∙ made_is;
  kept_is = m.kept_is ∙ bytes_is;
  keyed = keyed;
  make = subst (λ (s : List Todo). Make (makings_of given) (value_given given) s new.next current under kept) (sym m.steps_are)
      (subst (λ (n : ℕ). Make (makings_of given) (value_given given) steps n current under kept) (sym m.next_is) make);
}

-- what the code does for a branch, for every value and what is under it
abbrev pub SeqMoves : {A E : Type 0} → Result A E → Work → Work → Split → Term → Term → List ℕ → ℕ → List Todo → Type 0
SeqMoves r old new split left right place mark steps =
    (before : Evidence) (under : List ℕ) → old.made ≡ encoding before ++ under → mark ≡ length under → OnOk r (Moves new (run right place mark ∷ run_left false left place (old.next + 1) (length old.kept) ∷ steps) (old.next + 1 + event_count left) (encoding (part split.right before) ++ under) (encoding (part split.left before) ++ old.kept))

pub seq_leads : {A E : Type 0} (r : Result A E) (given : Given) (old new : Work) (split : Split) (left right : Term) (place : List ℕ) (mark : ℕ) (steps : List Todo) → Lead given (run (seq split left right) place mark ∷ steps) old → SeqMoves r old new split left right place mark steps → AreKeyed given.keys.now new.codes.items → OnOk r (Leads given new)
seq_leads r given old new split left right place mark steps l moves keyed =
    let from = makings_of given in
    let now = part split.right l.current in
    let later = part split.left l.current in
    let these : ℕ → List Todo = λ count. run right place mark ∷ run_left false left place (old.next + 1) count ∷ steps in
    let made = make_seq from (value_given given) split left right place mark steps old.next l.current l.under l.kept l.make in
    on_ok r (moves l.current (joined l.under) l.made_is l.make.0) (λ m.
    moved given new (these (length old.kept)) (old.next + 1 + event_count left) (encoding now ++ joined l.under) (encoding later ++ old.kept) now l.under (later ∷ l.kept) m refl (ap (λ (b : List ℕ). encoding later ++ b) l.kept_is) keyed
    (subst (λ (b : List ℕ). Make from (value_given given) (these (length b)) (old.next + 1 + event_count left) now l.under (later ∷ l.kept)) (sym l.kept_is) made))

-- what the code does for a branch, for every value and what is under it
abbrev pub ParMoves : {A E : Type 0} → Result A E → Work → Work → Split → Term → Term → List ℕ → ℕ → List Todo → Type 0
ParMoves r old new split left right place mark steps =
    (before : Evidence) (under : List ℕ) → old.made ≡ encoding before ++ under → mark ≡ length under → OnOk r (Moves new (run right place mark ∷ run_left true left place (old.next + 1) (length old.kept) ∷ steps) (old.next + 1 + event_count left) (encoding (part split.right before) ++ under) (encoding (part split.left before) ++ old.kept))

pub par_leads : {A E : Type 0} (r : Result A E) (given : Given) (old new : Work) (split : Split) (left right : Term) (place : List ℕ) (mark : ℕ) (steps : List Todo) → Lead given (run (par split left right) place mark ∷ steps) old → ParMoves r old new split left right place mark steps → AreKeyed given.keys.now new.codes.items → OnOk r (Leads given new)
par_leads r given old new split left right place mark steps l moves keyed =
    let from = makings_of given in
    let now = part split.right l.current in
    let later = part split.left l.current in
    let these : ℕ → List Todo = λ count. run right place mark ∷ run_left true left place (old.next + 1) count ∷ steps in
    let made = make_par from (value_given given) split left right place mark steps old.next l.current l.under l.kept l.make in
    on_ok r (moves l.current (joined l.under) l.made_is l.make.0) (λ m.
    moved given new (these (length old.kept)) (old.next + 1 + event_count left) (encoding now ++ joined l.under) (encoding later ++ old.kept) now l.under (later ∷ l.kept) m refl (ap (λ (b : List ℕ). encoding later ++ b) l.kept_is) keyed
    (subst (λ (b : List ℕ). Make from (value_given given) (these (length b)) (old.next + 1 + event_count left) now l.under (later ∷ l.kept)) (sym l.kept_is) made))

left_on : {A E : Type 0} (r : Result A E) (given : Given) (old new : Work) (parallel : Bool) (phrase : Term) (place : List ℕ) (first mark : ℕ) (steps : List Todo) (current : Evidence) (under kept : List Evidence) → old.made ≡ encoding current ++ joined under → old.kept ≡ joined kept → Make (makings_of given) (value_given given) (run_left parallel phrase place first mark ∷ steps) old.next current under kept → ((top rest : List ℕ) → old.kept ≡ top ++ rest → mark ≡ length rest → OnOk r (Moves new (run phrase place (length old.made) ∷ join parallel (old.next + 1) ∷ steps) first (top ++ old.made) rest)) → AreKeyed given.keys.now new.codes.items → OnOk r (Leads given new)
left_on r given old new parallel phrase place first mark steps current under [] made_is kept_is make moves keyed = absurd make
left_on r given old new parallel phrase place first mark steps current under (evidence ∷ kept) made_is kept_is make moves keyed =
    on_ok r (moves (encoding evidence) (joined kept) kept_is make.0) (λ m.
    moved given new (run phrase place (length old.made) ∷ join parallel (old.next + 1) ∷ steps) first (encoding evidence ++ old.made) (joined kept) evidence (current ∷ under) kept m (ap (λ (b : List ℕ). encoding evidence ++ b) made_is) refl keyed
    (ap (λ (b : List ℕ). length b) made_is, make.2, make.3))

pub left_leads : {A E : Type 0} (r : Result A E) (given : Given) (old new : Work) (parallel : Bool) (phrase : Term) (place : List ℕ) (first mark : ℕ) (steps : List Todo) → Lead given (run_left parallel phrase place first mark ∷ steps) old → ((top rest : List ℕ) → old.kept ≡ top ++ rest → mark ≡ length rest → OnOk r (Moves new (run phrase place (length old.made) ∷ join parallel (old.next + 1) ∷ steps) first (top ++ old.made) rest)) → AreKeyed given.keys.now new.codes.items → OnOk r (Leads given new)
left_leads r given old new parallel phrase place first mark steps l moves keyed = left_on r given old new parallel phrase place first mark steps l.current l.under l.kept l.made_is l.kept_is l.make moves keyed

-- the step that was taken off the list was the next one
pub popped : (olds news : List Step) (step : Step) → olds ≡ news ++ step ∷ [] → todos olds ≡ todo step ∷ todos news
popped olds news step e =
    ap todos e ∙ ap (λ (steps : List Step). map todo steps) (reverse-append news (step ∷ []))
