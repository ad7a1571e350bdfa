-- What is written entry by entry is the transcript of the history.
use Rattle.std.proofs.Common.{◌≡◌, ℕ, zero, suc, ◌+◌, ◌^◌, ◌<◌, ◌≤◌, ◌↔◌, Bool, true, false, List, [], ◌∷◌, ◌++◌, length, map, take, Option, Some, None, refl, sym, ap, subst, ◌∙◌, append_assoc, append-nil, arith}
use Rattle.std.specs.Prelude.{IsTrue, slice_get}
use Rattle.std.specs.List.{AllByRecursion}
use Rattle.std.specs.Option.{option_map}
use Rattle.std.proofs.lemmas.List.{take_all}
use Rattle.std.proofs.lemmas.Option.{slice_get-map}
use Rattle.evidence_types.specs.Bytes.{be32}
use Rattle.session_runs.specs.Standing.{Entry, opened, State, is_open, is_done, has_failed, has_starved}
use Rattle.session_book.specs.declared.entry.Entry.{Entry as Kept}
use Rattle.session_book.specs.declared.entry.Entry.TheVariants.{Opened}
use Rattle.session_book.specs.declared.entry.State.{State as Word}
use Rattle.session_book.specs.declared.entry.State.TheVariants as word
use Rattle.session_book.specs.Entries.{entry_of}
use Rattle.session_core.specs.Reading.{word_of}
use Rattle.transcript.specs.Bytes.{entry_bytes, entries_bytes, CanBeWritten, CanAllBeWritten, transcript_head, IsTranscriptOf}
use Rattle.transcript.specs.Starved.{HasStarved}

-- ---- an entry of a list

pub behind_opening : (items : List Kept) (index : ℕ) (entry : Kept) → slice_get (Opened ∷ items) (index + 1) ≡ Some entry → slice_get (map entry_of items) index ≡ Some (entry_of entry)
behind_opening items index entry e =
    let one : suc index ≡ index + 1 = omega arith in
    let there : slice_get items index ≡ Some entry = ap (λ (n : ℕ). slice_get (Opened ∷ items) n) one ∙ e in
    slice_get-map entry_of items index ∙ ap (λ (o : Option Kept). option_map entry_of o) there

pub none_behind : (items : List Kept) (index : ℕ) → index < length items → slice_get (Opened ∷ items) (index + 1) ≡ None → ⊥
none_behind items index lt e =
    let one : suc index ≡ index + 1 = omega arith in
    past items index lt (ap (λ (n : ℕ). slice_get (Opened ∷ items) n) one ∙ e)
  where
    past : (xs : List Kept) (i : ℕ) → i < length xs → slice_get xs i ≡ None → ⊥
    past [] i lt e = let no : ⊥ = omega (arith, lt) in no
    past (x ∷ xs) zero lt e = absurd cc
    past (x ∷ xs) (suc i) lt e = past xs i (omega (arith, lt)) e

some_is : {A : Type 0} (x y : A) → Some x ≡ Some y → x ≡ y
some_is x y e = cc

pub holds_at : {A : Type 0} (P : A → Type 0) (xs : List A) (i : ℕ) (x : A) → AllByRecursion P xs → slice_get xs i ≡ Some x → P x
holds_at P [] i x all e = absurd cc
holds_at P (y ∷ ys) zero x all e = subst P (some_is y x e) all.0
holds_at P (y ∷ ys) (suc i) x all e = holds_at P ys i x all.1 e

take_one : {A : Type 0} (xs : List A) (i : ℕ) (x : A) → slice_get xs i ≡ Some x → take (suc i) xs ≡ take i xs ++ x ∷ []
take_one [] i x e = absurd cc
take_one (y ∷ ys) zero x e = ap (λ z. z ∷ []) (some_is y x e)
take_one (y ∷ ys) (suc i) x e = ap (λ zs. y ∷ zs) (take_one ys i x e)

-- ---- one entry more

bytes_more : (entries : List Entry) (entry : Entry) → entries_bytes (entries ++ entry ∷ []) ≡ entries_bytes entries ++ entry_bytes entry
bytes_more [] entry = append-nil (entry_bytes entry)
bytes_more (first ∷ rest) entry =
    ap (λ (t : List ℕ). entry_bytes first ++ t) (bytes_more rest entry) ∙ sym (append_assoc (entry_bytes first) (entries_bytes rest) (entry_bytes entry))

can_more : (entries : List Entry) (entry : Entry) → CanAllBeWritten entries → CanBeWritten entry → CanAllBeWritten (entries ++ entry ∷ [])
can_more [] entry all can = (can, tt)
can_more (first ∷ rest) entry all can = (all.0, can_more rest entry all.1 can)

pub one_pushed : (all : List Entry) (index : ℕ) (entry : Entry) (start before after : List ℕ) → slice_get all index ≡ Some entry → before ≡ start ++ entries_bytes (take index all) → CanAllBeWritten (take index all) → after ≡ before ++ entry_bytes entry → CanBeWritten entry → (after ≡ start ++ entries_bytes (take (index + 1) all)) × CanAllBeWritten (take (index + 1) all)
one_pushed all index entry start before after there so_far can then_so fits =
    let next : index + 1 ≡ suc index = omega arith in
    let more : take (index + 1) all ≡ take index all ++ entry ∷ [] = ap (λ (n : ℕ). take n all) next ∙ take_one all index entry there in (
      then_so
          ∙ ap (λ (t : List ℕ). t ++ entry_bytes entry) so_far
          ∙ append_assoc start (entries_bytes (take index all)) (entry_bytes entry)
          ∙ ap (λ (t : List ℕ). start ++ t) (sym (bytes_more (take index all) entry))
          ∙ ap (λ (es : List Entry). start ++ entries_bytes es) (sym more),
      subst CanAllBeWritten (sym more) (can_more (take index all) entry can fits),
    )

as_many : (items : List Kept) → length (map entry_of items) ≡ length items
as_many [] = refl
as_many (item ∷ items) = ap suc (as_many items)

pub all_taken : (items : List Kept) (index : ℕ) → length items ≤ index → take index (map entry_of items) ≡ map entry_of items
all_taken items index le = take_all index (map entry_of items) (omega (arith, le, as_many items))

-- ---- the transcript

pub is_transcript : (items : List Kept) (count : ℕ) (first out text : List ℕ) → count ≡ length items → length items < 2 ^ 32 → first ≡ transcript_head ++ be32 count → out ≡ first ++ entries_bytes (map entry_of items) → CanAllBeWritten (map entry_of items) → text ≡ out → IsTranscriptOf text (opened ∷ map entry_of items)
is_transcript items count first out text counted few begun then_so can is =
    let same : count ≡ length (map entry_of items) = counted ∙ sym (as_many items) in
    record {
      entries = map entry_of items;
      opens = refl;
      few = omega (arith, few, as_many items);
      written = can;
      spelled =
          is
          ∙ then_so
          ∙ ap (λ (t : List ℕ). t ++ entries_bytes (map entry_of items)) begun
          ∙ append_assoc transcript_head (be32 count) (entries_bytes (map entry_of items))
          ∙ ap (λ (n : ℕ). transcript_head ++ (be32 n ++ entries_bytes (map entry_of items))) same;
    }

-- ---- whether a session starved

abbrev starved_by : Word → Bool
starved_by word.Open = false
starved_by word.Done = false
starved_by word.Failed = false
starved_by word.Starved = true

of_state : (state : State) → IsTrue (starved_by (word_of state)) ↔ HasStarved state
of_state is_open = (λ e. absurd cc, λ h. absurd h)
of_state (is_done value) = (λ e. absurd cc, λ h. absurd h)
of_state (has_failed event fault) = (λ e. absurd cc, λ h. absurd h)
of_state (has_starved event) = (λ e. tt, λ h. refl)

pub starved_word : (state : State) (found : Word) → found ≡ word_of state → IsTrue (starved_by found) ↔ HasStarved state
starved_word state found e = subst (λ (w : Word). IsTrue (starved_by w) ↔ HasStarved state) (sym e) (of_state state)

pub not_both : (b : Bool) → b ≡ false → b ≡ true → ⊥
not_both true f t = absurd cc
not_both false f t = absurd cc
