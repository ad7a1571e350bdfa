-- What an entry more leaves of a book.
use Rattle.std.proofs.Common.{◌≡◌, ℕ, ◌+◌, ◌*◌, ◌^◌, ◌<◌, ◌≤◌, suc, List, [], ◌∷◌, ◌++◌, length, refl, sym, ◌∙◌, ap, subst, arith}
use Rattle.std.specs.Prelude.{Bool, true, false, Option, None, Some, map, reverse, nat_eq, if◌then◌else◌, vec_capacity}
use Rattle.std.specs.List.{AllByRecursion}
use Rattle.std.specs.Option.{option_map}
use Rattle.std.proofs.Math.Path.{fun_ext}
use Rattle.std.proofs.lemmas.List.{map-append, get_or_append_left, reverse-append}
use Rattle.std.proofs.Math.Seq.{get_or-append_seam}
use Rattle.rising_list.specs.Rising.{find, inserted, removed, RisesFrom}
use Rattle.rising_list.proofs.RisingLemmas.{find-inserted, find-removed, inserted_length}
use Rattle.session_runs.specs.Standing.{Block, answered, Entry as SessionEntry, State as SessionState}
use Rattle.machine_tables.specs.Tables.{put_ask}
use Rattle.machine_world.specs.Cells.{Book}
use Rattle.session_book.specs.declared.entry.Note.{Note}
use Rattle.session_book.specs.declared.entry.Note.TheVariants as note
use Rattle.session_book.specs.declared.entry.Flight.{Flight}
use Rattle.session_book.specs.declared.book.SessionBook.{SessionBook}
use Rattle.session_book.specs.Entries.{entry_with, history_of}
use Rattle.session_book.specs.Kept.{flight_of, in_flight_by, event_at, IsKnown, IsKept, Keeps}
use Rattle.session_book.proofs.Sorting.{indexed_more}

-- ---- the history

pub history_noted : (old new : SessionBook) (one : Note) → new.entries.items ≡ old.entries.items ++ one ∷ [] → new.answers ≡ old.answers → history_of new ≡ history_of old ++ entry_with old.answers.items one ∷ []
history_noted old new one e same =
    ap (λ a. map (entry_with a) new.entries.items) (ap (λ a. a.items) same)
    ∙ ap (map (entry_with old.answers.items)) e
    ∙ map-append (entry_with old.answers.items) old.entries.items (one ∷ [])

-- ---- good order

known_push : (P : Note → Type 0) (xs : List Note) (one : Note) → AllByRecursion P xs → P one → AllByRecursion P (xs ++ one ∷ [])
known_push P [] one all p = (p, tt)
known_push P (x ∷ xs) one all p = (all.0, known_push P xs one all.1 p)

-- facts about an entry more, with the answers as they were
pub record NotesOne (old new : SessionBook) (one : Note) : Type 0 where
  pub entries : new.entries.items ≡ old.entries.items ++ one ∷ []
  pub capacity : vec_capacity new.entries ≡ vec_capacity old.entries
  pub answers : new.answers ≡ old.answers
  pub indexed : new.indexed ≡ old.indexed
  pub in_flight : new.in_flight.bound ≡ old.in_flight.bound
  pub trace : vec_capacity new.trace ≡ vec_capacity old.trace

pub keeps_noted : (old new : SessionBook) (one : Note) → IsKept old → NotesOne old new one → IsKnown (length old.answers.items) one → Keeps old new
keeps_noted old new one kept n known = record {
  kept = record {
    known =
        subst (λ a. AllByRecursion (IsKnown (length a.items)) new.entries.items) (sym n.answers)
        (subst (λ xs. AllByRecursion (IsKnown (length old.answers.items)) xs) (sym n.entries) (known_push (IsKnown (length old.answers.items)) old.entries.items one kept.known known));
    counted = ap (λ a. length a.items) n.answers ∙ kept.counted ∙ sym (ap (λ i. length i.entries) n.indexed);
    few = subst (λ i. i.bound < 2 ^ 32) (sym n.indexed) kept.few;
    indexed = λ event at. (
      λ h. ap (λ a. event_at a.items at) n.answers ∙ (kept.indexed event at).0 (sym (ap (λ i. find event i.entries) n.indexed) ∙ h),
      λ h. ap (λ i. find event i.entries) n.indexed ∙ (kept.indexed event at).1 (sym (ap (λ a. event_at a.items at) n.answers) ∙ h),
    );
  };
  room = λ events questions r. record {
    entries = subst (λ k. 2 * events + 2 ≤ k) (sym n.capacity) r.entries;
    trace = subst (λ k. events ≤ k) (sym n.trace) r.trace;
    answers = subst (λ a. questions ≤ vec_capacity a) (sym n.answers) r.answers;
    indexed = ap (λ i. i.bound) n.indexed ∙ r.indexed;
    in_flight = n.in_flight ∙ r.in_flight;
  };
}

-- ---- asks in flight

mapped_if : (b : Bool) (x y : Option Flight) → option_map flight_of (if b then x else y) ≡ (if b then option_map flight_of x else option_map flight_of y)
mapped_if true x y = refl
mapped_if false x y = refl

pub flies_more : (event : ℕ) (flight : Flight) (flights : List (ℕ × Flight)) → find event flights ≡ None → in_flight_by (inserted event flight flights) ≡ put_ask event (Some (flight_of flight)) (in_flight_by flights)
flies_more event flight flights free =
    fun_ext (λ (other : ℕ). ap (option_map flight_of) (find-inserted event other flight flights free) ∙ mapped_if (nat_eq event other) (Some flight) (find other flights))

pub flies_less : (event : ℕ) (flights : List (ℕ × Flight)) → RisesFrom 0 flights → in_flight_by (removed event flights) ≡ put_ask event None (in_flight_by flights)
flies_less event flights rises =
    fun_ext (λ (other : ℕ). ap (option_map flight_of) (find-removed 0 event other flights rises) ∙ mapped_if (nat_eq event other) None (find other flights))

-- ---- the book, part by part

abbrev book_with : (ℕ → Option (ℕ × Block)) → List ℕ → List (ℕ × List ℕ) → SessionState → Book
book_with in_flight trace answers state = record { in_flight = in_flight; trace = trace; answers = answers; state = state }

pub same_book : (f g : ℕ → Option (ℕ × Block)) (t u : List ℕ) (a b : List (ℕ × List ℕ)) (s r : SessionState) → f ≡ g → t ≡ u → a ≡ b → s ≡ r → book_with f t a s ≡ book_with g u b r
same_book f g t u a b s r ef et ea es =
    ap (λ x. book_with x t a s) ef ∙ ap (λ x. book_with g x a s) et ∙ ap (λ x. book_with g u x s) ea ∙ ap (λ x. book_with g u b x) es

-- ---- an answer more

known_more : (answers : List (ℕ × List ℕ)) (one : ℕ × List ℕ) (note : Note) → IsKnown (length answers) note → entry_with (answers ++ one ∷ []) note ≡ entry_with answers note
known_more answers one note.Opened known = refl
known_more answers one (note.Ran pass name) known = refl
known_more answers one (note.Asked pass name) known = refl
known_more answers one (note.Delivered pass place) known = refl
known_more answers one (note.Answered pass at) known =
    ap (λ (a : ℕ × List ℕ). answered pass a.0 a.1) (get_or_append_left answers (one ∷ []) (0, []) at known)
known_more answers one (note.Failed pass event fault) known = refl
known_more answers one (note.Starved pass event) known = refl

all_known_more : (answers : List (ℕ × List ℕ)) (one : ℕ × List ℕ) (notes : List Note) → AllByRecursion (IsKnown (length answers)) notes → map (entry_with (answers ++ one ∷ [])) notes ≡ map (entry_with answers) notes
all_known_more answers one [] known = refl
all_known_more answers one (x ∷ xs) known =
    ap (λ e. e ∷ map (entry_with (answers ++ one ∷ [])) xs) (known_more answers one x known.0)
    ∙ ap (λ es. entry_with answers x ∷ es) (all_known_more answers one xs known.1)

lifted : (count more : ℕ) (note : Note) → count ≤ more → IsKnown count note → IsKnown more note
lifted count more note.Opened le known = tt
lifted count more (note.Ran pass name) le known = tt
lifted count more (note.Asked pass name) le known = tt
lifted count more (note.Delivered pass place) le known = tt
lifted count more (note.Answered pass at) le known = omega (arith, le, known)
lifted count more (note.Failed pass event fault) le known = tt
lifted count more (note.Starved pass event) le known = tt

all_lifted : (count more : ℕ) (notes : List Note) → count ≤ more → AllByRecursion (IsKnown count) notes → AllByRecursion (IsKnown more) notes
all_lifted count more [] le known = tt
all_lifted count more (x ∷ xs) le known = (lifted count more x le known.0, all_lifted count more xs le known.1)

-- facts about an answer more and its entry
pub record NotesAnswer (old new : SessionBook) (pass event : ℕ) (bytes : List ℕ) : Type 0 where
  pub entries : new.entries.items ≡ old.entries.items ++ note.Answered pass (length old.answers.items) ∷ []
  pub capacity : vec_capacity new.entries ≡ vec_capacity old.entries
  pub answers : new.answers.items ≡ old.answers.items ++ (event, bytes) ∷ []
  pub room : vec_capacity new.answers ≡ vec_capacity old.answers
  pub indexed : new.indexed.entries ≡ inserted event (length old.answers.items) old.indexed.entries
  pub bound : new.indexed.bound ≡ old.indexed.bound
  pub in_flight : new.in_flight.bound ≡ old.in_flight.bound
  pub trace : vec_capacity new.trace ≡ vec_capacity old.trace

pub history_answered : (old new : SessionBook) (pass event : ℕ) (bytes : List ℕ) → IsKept old → NotesAnswer old new pass event bytes → history_of new ≡ history_of old ++ answered pass event bytes ∷ []
history_answered old new pass event bytes kept n =
    ap (λ a. map (entry_with a) new.entries.items) n.answers
    ∙ ap (map (entry_with (old.answers.items ++ (event, bytes) ∷ []))) n.entries
    ∙ map-append (entry_with (old.answers.items ++ (event, bytes) ∷ [])) old.entries.items (note.Answered pass (length old.answers.items) ∷ [])
    ∙ ap (λ (es : List SessionEntry). es ++ entry_with (old.answers.items ++ (event, bytes) ∷ []) (note.Answered pass (length old.answers.items)) ∷ []) (all_known_more old.answers.items (event, bytes) old.entries.items kept.known)
    ∙ ap (λ (a : ℕ × List ℕ). history_of old ++ answered pass a.0 a.1 ∷ []) (get_or-append_seam old.answers.items (event, bytes) [] (0, []))

length_push : (xs : List (ℕ × List ℕ)) (one : ℕ × List ℕ) → length (xs ++ one ∷ []) ≡ suc (length xs)
length_push [] one = refl
length_push (x ∷ xs) one = ap suc (length_push xs one)

pub keeps_answered : (old new : SessionBook) (pass event : ℕ) (bytes : List ℕ) → IsKept old → find event old.indexed.entries ≡ None → NotesAnswer old new pass event bytes → Keeps old new
keeps_answered old new pass event bytes kept free n =
    let longer : length new.answers.items ≡ suc (length old.answers.items) = ap (λ a. length a) n.answers ∙ length_push old.answers.items (event, bytes) in
    record {
      kept = record {
        known =
            subst (λ xs. AllByRecursion (IsKnown (length new.answers.items)) xs) (sym n.entries)
            (known_push (IsKnown (length new.answers.items)) old.entries.items (note.Answered pass (length old.answers.items)) (all_lifted (length old.answers.items) (length new.answers.items) old.entries.items (omega (arith, longer)) kept.known) (omega (arith, longer)));
        counted = longer ∙ ap suc kept.counted ∙ sym (ap (λ i. length i) n.indexed ∙ inserted_length event (length old.answers.items) old.indexed.entries);
        few = subst (λ k. k < 2 ^ 32) (sym n.bound) kept.few;
        indexed = λ other at.
            let more = indexed_more old.answers.items old.indexed.entries event bytes kept.indexed free other at in (
              λ h. ap (λ a. event_at a at) n.answers ∙ more.0 (sym (ap (λ i. find other i) n.indexed) ∙ h),
              λ h. ap (λ i. find other i) n.indexed ∙ more.1 (sym (ap (λ a. event_at a at) n.answers) ∙ h),
            );
      };
      room = λ events questions r. record {
        entries = subst (λ k. 2 * events + 2 ≤ k) (sym n.capacity) r.entries;
        trace = subst (λ k. events ≤ k) (sym n.trace) r.trace;
        answers = subst (λ k. questions ≤ k) (sym n.room) r.answers;
        indexed = n.bound ∙ r.indexed;
        in_flight = n.in_flight ∙ r.in_flight;
      };
    }

pub back_push : (xs : List (ℕ × List ℕ)) (one : ℕ × List ℕ) → reverse (xs ++ one ∷ []) ≡ one ∷ reverse xs
back_push xs one = reverse-append xs (one ∷ [])

-- ---- how much there is

length_map : (f : Note → SessionEntry) (xs : List Note) → length (map f xs) ≡ length xs
length_map f [] = refl
length_map f (x ∷ xs) = ap suc (length_map f xs)

pub history_length : (book : SessionBook) → length (history_of book) ≡ length book.entries.items
history_length book = length_map (entry_with book.answers.items) book.entries.items

pub no_flight : (event : ℕ) (flights : List (ℕ × Flight)) → in_flight_by flights event ≡ None → find event flights ≡ None
no_flight event flights e = nothing (find event flights) e
  where
    nothing : (o : Option Flight) → option_map flight_of o ≡ None → o ≡ None
    nothing None e = refl
    nothing (Some f) e = absurd (cc)
