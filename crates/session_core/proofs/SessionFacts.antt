-- What a session is to its core, and its entries.
use Rattle.std.proofs.Common.{◌≡◌, ℕ, suc, ◌+◌, ◌*◌, ◌≤◌, List, [], ◌∷◌, ◌++◌, length, refl, sym, ◌∙◌, ap, subst, arith}
use Rattle.std.specs.Prelude.{Option, None, Some, map, slice_get, Result, Ok, Err, IfOk, OnOk, OnErr}
use Rattle.std.specs.List.{AllByRecursion}
use Rattle.std.specs.Option.{option_map}
use Rattle.std.proofs.lemmas.Option.{slice_get-map}
use Rattle.std.proofs.lemmas.List.{length-map}
use Rattle.phrase_tree.specs.Numbering.{event_count, IsSized}
use Rattle.bench_trait.specs.declared.artefacts.Artefact.{Artefact}
use Rattle.bench_trait.specs.declared.ask.Ask.{Ask}
use Rattle.bench_trait.specs.declared.bench.BenchFault.{BenchFault}
use Rattle.bench_trait.specs.declared.bench.MeasureError.{MeasureError}
use Rattle.bench_trait.specs.declared.bench.MeasureError.TheVariants as want
use Rattle.bench_trait.specs.Bench.{MatchMeasured}
use Rattle.bench_trait.specs.Asking.{question}
use Rattle.avm_code.specs.declared.instr.BlockName.{BlockName}
use Rattle.avm_code.specs.declared.instr.BlockName.TheVariants.{Root, Of}
use Rattle.machine_world.specs.Cells.{block_of}
use Rattle.session_model.specs.Session.{Session, session_questions}
use Rattle.session_runs.specs.Standing.{Block, root, of, Move as SessionMove, run, ask, deliver, Entry as SessionEntry, opened, played, answered, failed, starved, State, is_open, is_done, has_failed, has_starved, Standing, opening as opening_standing, where_open, next}
use Rattle.session_runs.specs.History.{further, standing_after, IsResult, AreResults, IsLegal}
use Rattle.session_runs.proofs.EntryLaws.{no_standing}
use Rattle.session_book.specs.declared.entry.Entry.{Entry}
use Rattle.session_book.specs.declared.entry.Entry.TheVariants as entry
use Rattle.session_book.specs.declared.entry.Note.{Note}
use Rattle.session_book.specs.declared.entry.Note.TheVariants as note
use Rattle.session_book.specs.declared.entry.Move.{Move}
use Rattle.session_book.specs.declared.entry.Move.TheVariants.{Run, Ask as Asks, Deliver}
use Rattle.session_book.specs.declared.book.SessionBook.{SessionBook}
use Rattle.session_book.specs.Entries.{move_of, entry_of, entry_with, history_of}
use Rattle.session_core.specs.declared.opened.Opened.{Opened}
use Rattle.session_core.specs.declared.steps.Core.{Core}
use Rattle.session_core.specs.Core.{history_in, IsCore, IsCoreAt, IsCoreAgain}
use Rattle.session_core.specs.Steps.{Adds}
use Rattle.session_core.specs.declared.played.Played.{Played}
use Rattle.session_core.specs.Reading.{Tells, result_entry, TellsOf, TellsAfter}
use Rattle.session_core.specs.Touching.{IsMessageOf}
use Rattle.phrase_tree.specs.declared.memory.NoMemory.{NoMemory}
use Rattle.session_core.specs.Session.{Seen, IsItem, with_entry, kept_entry, behind, items_of, session_in, keys_in, places_in, history, StandsAt, IsSession}
use Rattle.session_runs.specs.MoveOrder.{possible_moves}
use Rattle.session_runs.specs.Room.{HasRoom}
use Rattle.session_core.proofs.MoveCounts.{moves_few}
use Rattle.session_core.proofs.PlayingFacts.{one_standing}

-- ---- an entry is known by the entry of a history that it is

abbrev back_block : Block → BlockName
back_block root = Root
back_block (of n) = Of n

abbrev back_move : SessionMove → Move
back_move (run block) = Run (back_block block)
back_move (ask block) = Asks (back_block block)
back_move (deliver place) = Deliver place

abbrev pub back : SessionEntry → Entry
back opened = entry.Opened
back (played pass step) = entry.Played pass (back_move step)
back (answered pass event answer) = entry.Answered pass event answer
back (failed pass event fault) = entry.Failed pass event fault
back (starved pass event) = entry.Starved pass event

block_again : (name : BlockName) → back_block (block_of name) ≡ name
block_again Root = refl
block_again (Of n) = refl

move_again : (step : Move) → back_move (move_of step) ≡ step
move_again (Run name) = ap Run (block_again name)
move_again (Asks name) = ap Asks (block_again name)
move_again (Deliver place) = refl

pub entry_again : (one : Entry) → back (entry_of one) ≡ one
entry_again entry.Opened = refl
entry_again (entry.Played pass step) = ap (entry.Played pass) (move_again step)
entry_again (entry.Answered pass event answer) = refl
entry_again (entry.Failed pass event fault) = refl
entry_again (entry.Starved pass event) = refl

kept_again : (answers : List (ℕ × List ℕ)) (one : Note) → back (entry_with answers one) ≡ kept_entry answers one
kept_again answers note.Opened = refl
kept_again answers (note.Ran pass name) = ap (λ n. entry.Played pass (Run n)) (block_again name)
kept_again answers (note.Asked pass name) = ap (λ n. entry.Played pass (Asks n)) (block_again name)
kept_again answers (note.Delivered pass place) = refl
kept_again answers (note.Answered pass at) = refl
kept_again answers (note.Failed pass event fault) = refl
kept_again answers (note.Starved pass event) = refl

all_again : (answers : List (ℕ × List ℕ)) (notes : List Note) → map back (map (entry_with answers) notes) ≡ map (kept_entry answers) notes
all_again answers [] = refl
all_again answers (one ∷ notes) =
    ap (λ e. e ∷ map back (map (entry_with answers) notes)) (kept_again answers one) ∙ ap (λ es. kept_entry answers one ∷ es) (all_again answers notes)

-- ---- the history that contracts see

kept_is : (answers : List (ℕ × List ℕ)) (one : Note) → entry_of (kept_entry answers one) ≡ entry_with answers one
kept_is answers note.Opened = refl
kept_is answers (note.Ran pass name) = refl
kept_is answers (note.Asked pass name) = refl
kept_is answers (note.Delivered pass place) = refl
kept_is answers (note.Answered pass at) = refl
kept_is answers (note.Failed pass event fault) = refl
kept_is answers (note.Starved pass event) = refl

all_kept : (answers : List (ℕ × List ℕ)) (notes : List Note) → map entry_of (map (kept_entry answers) notes) ≡ map (entry_with answers) notes
all_kept answers [] = refl
all_kept answers (one ∷ notes) =
    ap (λ e. e ∷ map entry_of (map (kept_entry answers) notes)) (kept_is answers one) ∙ ap (λ es. entry_with answers one ∷ es) (all_kept answers notes)

-- a history that has a standing begins with its opening
begins : (session : Session) (keys : List (List ℕ × List ℕ)) (standing : Standing) (answers : List (ℕ × List ℕ)) (notes : List Note) → standing_after session keys (map (entry_with answers) notes) ≡ Some standing → opened ∷ map entry_of (behind (map (kept_entry answers) notes)) ≡ map (entry_with answers) notes
begins session keys standing answers [] e = no_standing _ standing e
begins session keys standing answers (note.Opened ∷ notes) e = ap (λ es. opened ∷ es) (all_kept answers notes)
begins session keys standing answers (note.Ran pass name ∷ notes) e = no_standing _ standing e
begins session keys standing answers (note.Asked pass name ∷ notes) e = no_standing _ standing e
begins session keys standing answers (note.Delivered pass place ∷ notes) e = no_standing _ standing e
begins session keys standing answers (note.Answered pass at ∷ notes) e = no_standing _ standing e
begins session keys standing answers (note.Failed pass event fault ∷ notes) e = no_standing _ standing e
begins session keys standing answers (note.Starved pass event ∷ notes) e = no_standing _ standing e

-- what contracts see of a session of this book
abbrev pub seen_by : {O : Type 0} → O → SessionBook → Seen O
seen_by opening book = record { opening = opening; items = items_of book }

pub history_is : (session : Session) (keys : List (List ℕ × List ℕ)) (standing : Standing) (book : SessionBook) → standing_after session keys (history_of book) ≡ Some standing → opened ∷ map entry_of (items_of book) ≡ history_of book
history_is session keys standing book e = begins session keys standing book.answers.items book.entries.items e

-- ---- the entries behind the opening

first_again : (items : List Entry) (es : List SessionEntry) → opened ∷ map entry_of items ≡ es → map back es ≡ entry.Opened ∷ items
first_again items es e = ap (map back) (sym e) ∙ ap (λ xs. entry.Opened ∷ xs) (all items)
  where
    all : (xs : List Entry) → map back (map entry_of xs) ≡ xs
    all [] = refl
    all (x ∷ xs) = ap (λ y. y ∷ map back (map entry_of xs)) (entry_again x) ∙ ap (λ ys. x ∷ ys) (all xs)

pub listed : (session : Session) (keys : List (List ℕ × List ℕ)) (standing : Standing) (book : SessionBook) → standing_after session keys (history_of book) ≡ Some standing → map back (history_of book) ≡ entry.Opened ∷ items_of book
listed session keys standing book e = first_again (items_of book) (history_of book) (history_is session keys standing book e)

all_items : (book : SessionBook) → items_of book ≡ behind (map back (history_of book))
all_items book = ap behind (sym (all_again book.answers.items book.entries.items))

map_more : (xs : List SessionEntry) (x : SessionEntry) → map back (xs ++ x ∷ []) ≡ map back xs ++ back x ∷ []
map_more [] x = refl
map_more (y ∷ ys) x = ap (λ zs. back y ∷ zs) (map_more ys x)

-- a history with an entry more has the item more
pub item_more : (session : Session) (keys : List (List ℕ × List ℕ)) (standing : Standing) (one : Entry) (old new : SessionBook) → standing_after session keys (history_of old) ≡ Some standing → Adds (entry_of one) old new → items_of new ≡ items_of old ++ one ∷ []
item_more session keys standing one old new e adds =
    all_items new ∙ ap (λ es. behind (map back es)) adds ∙ ap behind (map_more (history_of old) (entry_of one)) ∙ ap (λ es. behind (es ++ back (entry_of one) ∷ [])) (listed session keys standing old e) ∙ ap (λ x. items_of old ++ x ∷ []) (entry_again one)

-- a book of the opening alone has no items
pub no_items : (book : SessionBook) → history_of book ≡ opened ∷ [] → items_of book ≡ []
no_items book e = all_items book ∙ ap (λ es. behind (map back es)) e

-- none of them is an opening
opened_no : (Q : Type 0) (state : State) (t : Standing) → where_open state None ≡ Some t → Q
opened_no Q is_open t e = no_standing Q t e
opened_no Q (is_done value) t e = no_standing Q t e
opened_no Q (has_failed event fault) t e = no_standing Q t e
opened_no Q (has_starved event) t e = no_standing Q t e

one_item : (session : Session) (keys : List (List ℕ × List ℕ)) (s t : Standing) (items : List Entry) (x : Option Standing) (y : Entry) → next session keys s (entry_of y) ≡ x → further session keys x (map entry_of items) ≡ Some t → ((u : Standing) → further session keys (Some u) (map entry_of items) ≡ Some t → AllByRecursion IsItem items) → AllByRecursion IsItem (y ∷ items)
one_item session keys s t items None y f g k = no_standing _ t g
one_item session keys s t items (Some u) entry.Opened f g k = opened_no _ s.state u f
one_item session keys s t items (Some u) (entry.Played pass step) f g k = (tt, k u g)
one_item session keys s t items (Some u) (entry.Answered pass event answer) f g k = (tt, k u g)
one_item session keys s t items (Some u) (entry.Failed pass event fault) f g k = (tt, k u g)
one_item session keys s t items (Some u) (entry.Starved pass event) f g k = (tt, k u g)

all_items_are : (session : Session) (keys : List (List ℕ × List ℕ)) (s t : Standing) (items : List Entry) → further session keys (Some s) (map entry_of items) ≡ Some t → AllByRecursion IsItem items
all_items_are session keys s t [] e = tt
all_items_are session keys s t (one ∷ items) e =
    one_item session keys s t items (next session keys s (entry_of one)) one refl e (λ u g. all_items_are session keys u t items g)

-- the entry at an index
pub item_at : (session : Session) (keys : List (List ℕ × List ℕ)) (standing : Standing) (book : SessionBook) (found : Option Entry) (index : ℕ) → standing_after session keys (history_of book) ≡ Some standing → option_map entry_of found ≡ slice_get (history_of book) index → found ≡ slice_get (entry.Opened ∷ items_of book) index
item_at session keys standing book found index e f =
    sym (found_again found) ∙ ap (option_map back) f ∙ sym (slice_get-map back (history_of book) index) ∙ ap (λ es. slice_get es index) (listed session keys standing book e)
  where
    found_again : (o : Option Entry) → option_map back (option_map entry_of o) ≡ o
    found_again None = refl
    found_again (Some x) = ap Some (entry_again x)

-- ---- a session that stands like this has a core that does

module _ (B : Type 0) (gives : B → List Artefact → Ask → List ℕ → Type 0) (fails : B → List Artefact → Ask → BenchFault → Type 0) (starves : B → List Artefact → Ask → Type 0) where
  -- what holds of every session
  abbrev pub IsOf : Opened B → Core → Type 0
  IsOf opening core =
      IsSession (λ ask answer. gives opening.bench.now opening.artefacts.now ask answer) (λ ask fault. fails opening.bench.now opening.artefacts.now ask fault) (λ ask. starves opening.bench.now opening.artefacts.now ask) opening core

  history_so : (opening : Opened B) (core : Core) → IsOf opening core → history (seen_by opening core.book) ≡ history_in core
  history_so opening core i = history_is (session_in opening) (keys_in opening) i.is.0 core.book i.is.1.played.played.stands

  core_at : (opening : Opened B) (core : Core) (standing : Standing) → IsOf opening core → StandsAt (seen_by opening core.book) standing → IsCoreAt (session_in opening) (keys_in opening) (places_in opening) standing core
  core_at opening core standing i e =
      subst (λ s. IsCoreAt (session_in opening) (keys_in opening) (places_in opening) s core) (one_standing (session_in opening) (keys_in opening) (history_in core) i.is.0 standing i.is.1.played.played.stands (ap (standing_after (session_in opening) (keys_in opening)) (sym (history_so opening core i)) ∙ e)) i.is.1

  pub core_of : (opening : Opened B) (core : Core) (seen : Seen (Opened B)) (standing : Standing) → IsOf opening core → seen_by opening core.book ≡ seen → StandsAt seen standing → IsCoreAt (session_in seen.opening) (keys_in seen.opening) (places_in seen.opening) standing core
  core_of opening core seen standing i e stands = subst At e (λ st. core_at opening core standing i st) stands
    where
      At : Seen (Opened B) → Type 0
      At s = StandsAt s standing → IsCoreAt (session_in s.opening) (keys_in s.opening) (places_in s.opening) standing core

  -- and it has one of some standing
  pub core_is : (opening : Opened B) (core : Core) (seen : Seen (Opened B)) → IsOf opening core → seen_by opening core.book ≡ seen → IsCore (session_in seen.opening) (keys_in seen.opening) (places_in seen.opening) core
  core_is opening core seen i e = subst At e i.is
    where
      At : Seen (Opened B) → Type 0
      At s = IsCore (session_in s.opening) (keys_in s.opening) (places_in s.opening) core

  -- its history is legal
  pub legal_so : (opening : Opened B) (core : Core) (seen : Seen (Opened B)) → IsOf opening core → seen_by opening core.book ≡ seen → (standing : Standing) × IsLegal (λ ask answer. gives seen.opening.bench.now seen.opening.artefacts.now ask answer) (λ ask fault. fails seen.opening.bench.now seen.opening.artefacts.now ask fault) (λ ask. starves seen.opening.bench.now seen.opening.artefacts.now ask) (session_in seen.opening) (keys_in seen.opening) (history seen) standing
  legal_so opening core seen i e = subst At e (i.is.0, legal)
    where
      At : Seen (Opened B) → Type 0
      At s =
          (standing : Standing) × IsLegal (λ ask answer. gives s.opening.bench.now s.opening.artefacts.now ask answer) (λ ask fault. fails s.opening.bench.now s.opening.artefacts.now ask fault) (λ ask. starves s.opening.bench.now s.opening.artefacts.now ask) (session_in s.opening) (keys_in s.opening) (history s) standing

      legal : IsLegal (λ ask answer. gives opening.bench.now opening.artefacts.now ask answer) (λ ask fault. fails opening.bench.now opening.artefacts.now ask fault) (λ ask. starves opening.bench.now opening.artefacts.now ask) (session_in opening) (keys_in opening) (history (seen_by opening core.book)) i.is.0
      legal = record {
        stands = ap (standing_after (session_in opening) (keys_in opening)) (history_so opening core i) ∙ i.is.1.played.played.stands;
        results = subst (AreResults (λ ask answer. gives opening.bench.now opening.artefacts.now ask answer) (λ ask fault. fails opening.bench.now opening.artefacts.now ask fault) (λ ask. starves opening.bench.now opening.artefacts.now ask) (session_questions (session_in opening))) (sym (history_so opening core i)) i.results;
      }

  -- its entries
  pub count_so : (opening : Opened B) (core : Core) (seen : Seen (Opened B)) → IsOf opening core → seen_by opening core.book ≡ seen → length (history_in core) ≡ length seen.items + 1
  count_so opening core seen i e =
      let counted : length (history_in core) ≡ suc (length (items_of core.book)) = sym (length-map (history_in core) back) ∙ ap (λ es. length es) (listed (session_in opening) (keys_in opening) i.is.0 core.book i.is.1.played.played.stands) in
      let same : length (items_of core.book) ≡ length seen.items = ap (λ (s : Seen (Opened B)). length s.items) e in
      omega (arith, counted, same)

  pub few_so : (opening : Opened B) (core : Core) → IsOf opening core → ((session : Session) (keys : List (List ℕ × List ℕ)) (entries : List SessionEntry) (standing : Standing) → standing_after session keys entries ≡ Some standing → length entries ≤ 2 * event_count session.phrase + 2) → length (history_in core) ≤ 4098
  few_so opening core i law =
      let most : length (history_in core) ≤ 2 * event_count (session_in opening).phrase + 2 = law (session_in opening) (keys_in opening) (history_in core) i.is.0 i.is.1.played.played.stands in
      let sized : event_count (session_in opening).phrase ≤ 2048 = i.sized.events in
      omega (arith, most, sized)

  pub bound_so : (opening : Opened B) (core : Core) (seen : Seen (Opened B)) → IsOf opening core → seen_by opening core.book ≡ seen → ((session : Session) (keys : List (List ℕ × List ℕ)) (entries : List SessionEntry) (standing : Standing) → standing_after session keys entries ≡ Some standing → length entries ≤ 2 * event_count session.phrase + 2) → length seen.items + 1 ≤ 2 * event_count (session_in seen.opening).phrase + 2
  bound_so opening core seen i e law = subst At e small
    where
      At : Seen (Opened B) → Type 0
      At s = length s.items + 1 ≤ 2 * event_count (session_in s.opening).phrase + 2

      small : length (items_of core.book) + 1 ≤ 2 * event_count (session_in opening).phrase + 2
      small =
          let most : length (history_in core) ≤ 2 * event_count (session_in opening).phrase + 2 = law (session_in opening) (keys_in opening) (history_in core) i.is.0 i.is.1.played.played.stands in
          let counted : length (history_in core) ≡ length (items_of core.book) + 1 = count_so opening core (seen_by opening core.book) i refl in
          omega (arith, most, counted)

  pub items_so : (opening : Opened B) (core : Core) (seen : Seen (Opened B)) → IsOf opening core → seen_by opening core.book ≡ seen → AllByRecursion IsItem seen.items
  items_so opening core seen i e =
      subst (λ (s : Seen (Opened B)). AllByRecursion IsItem s.items) e (all_items_are (session_in opening) (keys_in opening) (opening_standing (session_in opening)) i.is.0 (items_of core.book) (ap (standing_after (session_in opening) (keys_in opening)) (history_so opening core i) ∙ i.is.1.played.played.stands))

  -- its possible moves
  pub moves_so : (opening : Opened B) (core : Core) (count : ℕ) → IsOf opening core → ((session : Session) (keys : List (List ℕ × List ℕ)) (places : List (List ℕ)) (standing : Standing) → IsCoreAt session keys places standing core → count ≡ length (possible_moves places standing)) → ((session : Session) (keys : List (List ℕ × List ℕ)) (entries : List SessionEntry) (standing : Standing) → standing_after session keys entries ≡ Some standing → HasRoom session standing) → count ≤ 4097
  moves_so opening core count i counts law =
      let session : Session = session_in opening in
      let same : count ≡ length (possible_moves (places_in opening) i.is.0) = counts session (keys_in opening) (places_in opening) i.is.0 i.is.1 in
      let few : length (possible_moves (places_in opening) i.is.0) ≤ 2 * event_count session.phrase + 1 = moves_few session (places_in opening) i.is.0 i.is.1.made.apart (law session (keys_in opening) (history_in core) i.is.0 i.is.1.played.played.stands) in
      let sized : event_count session.phrase ≤ 2048 = i.sized.events in
      omega (arith, same, few, sized)

  pub entry_so : (opening : Opened B) (core : Core) (seen : Seen (Opened B)) (found : Option Entry) (index : ℕ) → IsOf opening core → seen_by opening core.book ≡ seen → option_map entry_of found ≡ slice_get (history_in core) index → found ≡ slice_get (entry.Opened ∷ seen.items) index
  entry_so opening core seen found index i e f =
      item_at (session_in opening) (keys_in opening) i.is.0 core.book found index i.is.1.played.played.stands f ∙ ap (λ (s : Seen (Opened B)). slice_get (entry.Opened ∷ s.items) index) e

  -- ---- what comes next

  -- results with one more are results
  results_more : (Gives : Ask → List ℕ → Type 0) (Fails : Ask → BenchFault → Type 0) (Starves : Ask → Type 0) (asks : List Ask) (entries : List SessionEntry) (one : SessionEntry) → AreResults Gives Fails Starves asks entries → IsResult Gives Fails Starves asks one → AreResults Gives Fails Starves asks (entries ++ one ∷ [])
  results_more Gives Fails Starves asks [] one h r = (r, tt)
  results_more Gives Fails Starves asks (x ∷ entries) one h r = (h.0, results_more Gives Fails Starves asks entries one h.1 r)

  -- an entry is no result, or one of the bench for its question
  abbrev pub IsResultOf : Opened B → SessionEntry → Type 0
  IsResultOf opening one =
      IsResult (λ ask answer. gives opening.bench.now opening.artefacts.now ask answer) (λ ask fault. fails opening.bench.now opening.artefacts.now ask fault) (λ ask. starves opening.bench.now opening.artefacts.now ask) (session_questions (session_in opening)) one

  -- a session after one entry more
  pub session_more : (opening : Opened B) (one : SessionEntry) (old new : Core) → IsOf opening old → IsCore (session_in opening) (keys_in opening) (places_in opening) new → Adds one old.book new.book → IsResultOf opening one → IsOf opening new
  session_more opening one old new i is adds r = record {
    is = is;
    results = subst (AreResults (λ ask answer. gives opening.bench.now opening.artefacts.now ask answer) (λ ask fault. fails opening.bench.now opening.artefacts.now ask fault) (λ ask. starves opening.bench.now opening.artefacts.now ask) (session_questions (session_in opening))) (sym adds) (results_more (λ ask answer. gives opening.bench.now opening.artefacts.now ask answer) (λ ask fault. fails opening.bench.now opening.artefacts.now ask fault) (λ ask. starves opening.bench.now opening.artefacts.now ask) (session_questions (session_in opening)) (history_in old) one i.results r);
    sized = i.sized;
  }

  -- what is seen of it then
  pub seen_more : (opening : Opened B) (one : Entry) (old new : Core) (seen : Seen (Opened B)) → IsOf opening old → seen_by opening old.book ≡ seen → Adds (entry_of one) old.book new.book → seen_by opening new.book ≡ with_entry one seen
  seen_more opening one old new seen i e adds =
      ap of_items (item_more (session_in opening) (keys_in opening) i.is.0 one old.book new.book i.is.1.played.played.stands adds) ∙ ap (λ (s : Seen (Opened B)). with_entry one s) e
    where
      of_items : List Entry → Seen (Opened B)
      of_items items = record { opening = opening; items = items }

  -- the result that a bench gave
  pub result_is : (opening : Opened B) (seen : Seen (Opened B)) (book : SessionBook) (pass event : ℕ) (measured : Result (List ℕ) MeasureError) → seen_by opening book ≡ seen → (asked : Ask) × (question (session_in seen.opening).phrase (session_in seen.opening).root (session_in seen.opening).nonce event ≡ Some asked) × MatchMeasured measured (gives seen.opening.bench.now seen.opening.artefacts.now asked) (fails seen.opening.bench.now seen.opening.artefacts.now asked) (starves seen.opening.bench.now seen.opening.artefacts.now asked) → IsResultOf opening (entry_of (result_entry pass event measured))
  result_is opening seen book pass event measured e h = subst At e (by measured) h
    where
      At : Seen (Opened B) → Type 0
      At s =
          ((asked : Ask) × (question (session_in s.opening).phrase (session_in s.opening).root (session_in s.opening).nonce event ≡ Some asked) × MatchMeasured measured (gives s.opening.bench.now s.opening.artefacts.now asked) (fails s.opening.bench.now s.opening.artefacts.now asked) (starves s.opening.bench.now s.opening.artefacts.now asked)) → IsResultOf opening (entry_of (result_entry pass event measured))

      by : (m : Result (List ℕ) MeasureError) → ((asked : Ask) × (question (session_in opening).phrase (session_in opening).root (session_in opening).nonce event ≡ Some asked) × MatchMeasured m (gives opening.bench.now opening.artefacts.now asked) (fails opening.bench.now opening.artefacts.now asked) (starves opening.bench.now opening.artefacts.now asked)) → IsResultOf opening (entry_of (result_entry pass event m))
      by (Ok answer) k = k
      by (Err (want.Fault fault)) k = k
      by (Err want.NoMemory) k = k

  -- ---- a step of the core, whatever it answers

  pub after_step : {T E : Type 0} (opening : Opened B) (old new : Core) (one : Entry) (answer : Result T E) → IsOf opening old → OnOk answer (Adds (entry_of one) old.book new.book) → OnErr answer (new ≡ old) → IsCoreAgain (keys_in opening) old new → IsResultOf opening (entry_of one) → IsOf opening new
  after_step opening old new one (Ok x) i adds same again r =
      session_more opening (entry_of one) old new i (again (session_in opening) (places_in opening) i.is) adds r
  after_step opening old new one (Err e) i adds same again r = subst (λ c. IsOf opening c) (sym same) i

  pub seen_step : {T E : Type 0} (opening : Opened B) (old new : Core) (seen : Seen (Opened B)) (one : Entry) (answer : Result T E) → IsOf opening old → seen_by opening old.book ≡ seen → OnOk answer (Adds (entry_of one) old.book new.book) → OnOk answer (seen_by opening new.book ≡ with_entry one seen)
  seen_step opening old new seen one (Ok x) i e adds = seen_more opening one old new seen i e adds
  seen_step opening old new seen one (Err x) i e adds = tt

  -- what a move tells its pass
  pub tells_step : (E : Type 0) (opening : Opened B) (old new : Core) (seen : Seen (Opened B)) (pass : ℕ) (step : Move) (answer : Result Played E) → IsOf opening old → seen_by opening old.book ≡ seen → IsOf opening new → IfOk answer (λ played. TellsAfter (keys_in opening) pass step old new played) → IfOk answer (λ played. (before after : Standing) → StandsAt seen before → StandsAt (seen_by opening new.book) after → TellsOf (session_in seen.opening) pass step before after played)
  tells_step E opening old new seen pass step answer i e j tells = subst At e (by answer tells)
    where
      At : Seen (Opened B) → Type 0
      At s =
          IfOk answer (λ played. (before after : Standing) → StandsAt s before → StandsAt (seen_by opening new.book) after → TellsOf (session_in s.opening) pass step before after played)

      by : (a : Result Played E) → IfOk a (λ played. TellsAfter (keys_in opening) pass step old new played) → IfOk a (λ played. (before after : Standing) → StandsAt (seen_by opening old.book) before → StandsAt (seen_by opening new.book) after → TellsOf (session_in opening) pass step before after played)
      by (Ok told) t =
          λ before after stood stands. t (session_in opening) (places_in opening) before after i.is (ap (standing_after (session_in opening) (keys_in opening)) (sym (history_so opening old i)) ∙ stood) (ap (standing_after (session_in opening) (keys_in opening)) (sym (history_so opening new j)) ∙ stands)
      by (Err x) t = tt

  -- the message of a move
  pub message_so : (opening : Opened B) (core : Core) (seen : Seen (Opened B)) (step : Move) (answer : Result (Option (List ℕ)) NoMemory) → IsOf opening core → seen_by opening core.book ≡ seen → IfOk answer (λ message. Tells core (λ session places standing. IsMessageOf places standing step message)) → IfOk answer (λ message. (standing : Standing) → StandsAt seen standing → IsMessageOf (places_in seen.opening) standing step message)
  message_so opening core seen step (Ok message) i e tells =
      λ standing stands. tells (session_in seen.opening) (keys_in seen.opening) (places_in seen.opening) standing (core_of opening core seen standing i e stands)
  message_so opening core seen step (Err wanted) i e tells = tt

  -- ---- a session just opened

  pub opened_so : (opening : Opened B) (core : Core) → IsCore (session_in opening) (keys_in opening) (places_in opening) core → history_in core ≡ opened ∷ [] → IsSized (session_in opening).phrase → IsOf opening core
  opened_so opening core is e sized = record {
    is = is;
    results = subst (AreResults (λ ask answer. gives opening.bench.now opening.artefacts.now ask answer) (λ ask fault. fails opening.bench.now opening.artefacts.now ask fault) (λ ask. starves opening.bench.now opening.artefacts.now ask) (session_questions (session_in opening))) (sym e) (tt, tt);
    sized = sized;
  }
