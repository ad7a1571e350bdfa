-- A block runs on: what its step is to the tables, and what the agenda is to be told.
use Rattle.std.proofs.Common.{◌≡◌, ◌<◌, ◌≤◌, ℕ, zero, suc, Bool, true, false, List, [], ◌∷◌, ◌++◌, Option, None, Some, ◌||◌, if◌then◌else◌, length, vec_capacity, nat_eq, refl, sym, ap, ◌∙◌, subst, arith}
use Rattle.std.specs.Prelude.{slice_get}
use Rattle.std.specs.Option.{option_map}
use Rattle.std.specs.Cmp.Lexicographic.{pointwise}
use Rattle.std.proofs.lemmas.List.{length_push}
use Rattle.std.proofs.lemmas.Bool.{eq-eqb}
use Rattle.std.proofs.lemmas.Slice.Eq.{bytes_eq-Decides}
use Rattle.evidence_types.specs.Evidence.{Evidence}
use Rattle.session_model.specs.Session.{Session}
use Rattle.session_model.specs.Value.{Makings}
use Rattle.session_runs.specs.Moves.{run as run_step, silent as no_event}
use Rattle.session_runs.specs.Standing.{Block as Name, of, run, Entry, played, State, is_open, Standing, makings}
use Rattle.avm_code.specs.declared.instr.BlockName.{BlockName}
use Rattle.avm_code.specs.declared.instr.BlockName.TheVariants.{Root, Of}
use Rattle.avm_code.specs.declared.instr.Instr.{Instr}
use Rattle.avm_code.specs.declared.instr.Instr.TheVariants.{Copy, Usm, Kim, Sign, Hash, Null, Split, Swap, JoinSeq, Send, Recv, Fork, JoinPar, End}
use Rattle.avm_code.specs.declared.program.Block.{Block}
use Rattle.avm_code.specs.Order.{place_called}
use Rattle.machine_tables.specs.Row.{Local, Setting}
use Rattle.machine_tables.specs.Tables.{BlockState, running, over, Tables, block_name, act_with, after_step, after_machine, after_end, step_in, play_tables, tables_while, step_tables}
use Rattle.machine_tables.specs.Allowed.{MayRun}
use Rattle.machine_world.specs.declared.world.World.{World}
use Rattle.machine_world.specs.declared.moved.Moved.{Moved}
use Rattle.machine_world.specs.declared.moved.Moved.TheVariants.{Waits, Silent, Happened, Sent, Forked, Ended}
use Rattle.machine_world.specs.Seen.{IsPlace}
use Rattle.machine_world.specs.Cells.{Book, block_of, tables_of, book_after, makings_of}
use Rattle.machine_world.specs.Answers.{IsStarted}
use Rattle.session_tables.specs.Touched.{named, touched, touched_by, touched_in, touched_at, any_waits, sends_to, sends_in, sends_at, waits_after}
use Rattle.session_agenda.specs.declared.moves.PlaceUpdate.{PlaceUpdate}
use Rattle.session_agenda.specs.Placed.{Follows}
use Rattle.session_agenda.specs.Told.{sent_to, sent_in, sent_at, touched_place, TellsPlace}
use Rattle.session_book.specs.declared.book.SessionBook.{SessionBook}
use Rattle.session_book.specs.Entries.{history_of}
use Rattle.session_book.specs.Kept.{book_of, CanNote}
use Rattle.session_core.specs.declared.steps.Core.{Core}
use Rattle.session_core.specs.Core.{program_in, tables_in, IsMadeFor, IsCoreAt}
use Rattle.machine_world.specs.Does.{IsPlain, Does, IfMoves}
use Rattle.session_core.specs.Did.{DidNext, Did}
use Rattle.session_core.specs.Steps.{HasTaken, IsLate, IsBehind, told_second, told_names, place_told, IsStartedIfOver}
use Rattle.session_core.proofs.Facts.{named-is, book-same, core-ending, follows-open}

-- ---- the step of the tables

module _ (session : Session) (keys : List (List ℕ × List ℕ)) (places : List (List ℕ)) (standing : Standing) (core : Core) (c : IsCoreAt session keys places standing core) (opened : standing.state ≡ is_open) where
  pub may-run : (name : Name) → MayRun (program_in session) (makings session keys) (tables_in core) name
      → (book : Book) × MayRun core.world.program (makings_of keys core.nonce) (tables_of core.world book) name
  may-run name may = (
    book_of core.world.store.values core.book,
    subst (λ (p : List Block). MayRun p (makings_of keys core.nonce) (tables_in core) name) (sym c.played.program)
        (subst (λ (n : List ℕ). MayRun (program_in session) (makings_of keys n) (tables_in core) name) (sym c.made.nonce) may),
  )

  -- what a step of the world's program on its nonce is, is one of the session
  pub seen-as : (values : List Evidence) (entry : Entry) (later : Option Tables) → step_tables core.world.program (makings_of keys core.nonce) (tables_of core.world (book_of values core.book)) entry ≡ later
      → step_tables (program_in session) (makings session keys) (tables_in core) entry ≡ later
  seen-as values entry later step =
      subst (λ (p : List Block). step_tables p (makings session keys) (tables_in core) entry ≡ later) c.played.program
      (subst (λ (n : List ℕ). step_tables core.world.program (makings_of keys n) (tables_in core) entry ≡ later) c.made.nonce
      (subst (λ (b : Book). step_tables core.world.program (makings_of keys core.nonce) (tables_of core.world b) entry ≡ later)
      (book-same values core.world.store.values core.book (core-ending session keys places standing core c opened)) step))

  pub late-from : (entry : Entry) (new : Core) → HasTaken session keys places (tables_in core) entry new.world new.book → IsMadeFor session places new → new.agenda ≡ core.agenda
      → (then_stands : Standing) × IsLate session keys places then_stands (tables_in core) entry new
  late-from entry new taken made same = (
    taken.standing,
    record {
      history = history_of core.book;
      held = c.played.played.holds;
      taken = taken.taken;
      played = taken.played;
      made = made;
      follows = subst (λ agenda. Follows agenda (tables_in core) places) (sym same) (follows-open session keys places standing core c opened);
    },
  )

-- ---- the room for what a block did

abbrev trace_in : Option Tables → List ℕ
trace_in None = []
trace_in (Some tables) = tables.trace

abbrev IsSomeTables : Option Tables → Type 0
IsSomeTables None = ⊥
IsSomeTables (Some tables) = Unit {0}

pub push_room : (trace : List ℕ) (event room : ℕ) (later : List ℕ) → trace ++ event ∷ [] ≡ later → length later ≤ room → length trace < room
push_room trace event room later is fits =
    let n = length_push trace event in let m = ap length is in omega (arith, n, m, fits)

pub note-room : (world : World) (values : List Evidence) (name : BlockName) (moved : Moved) (book : SessionBook) (later : Tables) → option_map (tables_of world) (book_after values name moved (book_of values book)) ≡ Some later → length later.trace ≤ vec_capacity book.trace → CanNote moved book
note-room world values name Waits book later is fits = subst IsSomeTables (sym is) tt
note-room world values name Silent book later is fits = tt
note-room world values name (Happened event) book later is fits = push_room book.trace.items event (vec_capacity book.trace) later.trace (ap trace_in is) fits
note-room world values name (Sent event place id) book later is fits = push_room book.trace.items event (vec_capacity book.trace) later.trace (ap trace_in is) fits
note-room world values name (Forked event) book later is fits = push_room book.trace.items event (vec_capacity book.trace) later.trace (ap trace_in is) fits
note-room world values name (Ended id) book later is fits = tt

-- ---- what is told

as_did : (places : List (List ℕ)) (cell : BlockState) (moved : Moved) (does : Does places moved cell) → DidNext places moved does.instr → Did places moved cell
as_did places cell moved does did =
    record { for_request = does.for_request; local = does.local; instr = does.instr; rest = does.rest; runs = does.runs; next = does.next; does = did }

pub did-of : (places : List (List ℕ)) (cell : BlockState) (values : List Evidence) (name : BlockName) (moved : Moved) (book after : Book) → book_after values name moved book ≡ Some after → IfMoves moved (Does places moved cell) → Did places moved cell
did-of places cell values name Waits book after is does = cc
did-of places cell values name Silent book after is does = as_did places cell Silent does does.does
did-of places cell values name (Happened event) book after is does = as_did places cell (Happened event) does does.does
did-of places cell values name (Sent event place id) book after is does = as_did places cell (Sent event place id) does does.does
did-of places cell values name (Forked number) book after is does = as_did places cell (Forked number) does does.does
did-of places cell values name (Ended id) book after is does = as_did places cell (Ended id) does does.does

second_is : (first : BlockName) (second : Option BlockName) (name : Name) (names : List Name) → block_of first ≡ name → told_second second ≡ names → (let l : List Name = name ∷ names in l) ≡ told_names first second
second_is first second name names is others =
    ap (λ (n : Name). n ∷ names) (sym is ∙ sym (named-is first)) ∙ ap (λ (l : List Name). named first ∷ l) (sym others)

touched_here : (program : List Block) (name : Name) (cell : BlockState) (places : List (List ℕ)) (moved : Moved) (does : Did places moved cell) → touched_at program name cell ≡ touched_by program name does.instr
touched_here program name cell places moved does =
    ap (touched_at program name) does.runs ∙ ap (touched_in program name) does.next

pub names-told : (program : List Block) (before : Tables) (pass : ℕ) (name : BlockName) (second : Option BlockName) (places : List (List ℕ)) (moved : Moved) (does : Did places moved (before.blocks (block_of name))) → told_second second ≡ touched_by program (block_of name) does.instr
    → touched program before (played pass (run (block_of name))) ≡ told_names name second
names-told program before pass name second places moved does others =
    second_is name second (block_of name) (touched_at program (block_of name) (before.blocks (block_of name))) refl
    (others ∙ sym (touched_here program (block_of name) (before.blocks (block_of name)) places moved does))

own_sends : (instr : Instr) → IsPlain instr → sent_to instr ≡ None
own_sends (Copy i) own = refl
own_sends (Usm i asp) own = refl
own_sends (Kim i target asp) own = refl
own_sends (Sign i) own = refl
own_sends (Hash i) own = refl
own_sends (Null i) own = refl
own_sends (Split i split) own = refl
own_sends Swap own = refl
own_sends (JoinSeq i) own = refl
own_sends (Send i asked) own = elim own [ ]
own_sends (Recv j i) own = refl
own_sends (Fork i split) own = elim own [ ]
own_sends (JoinPar j i) own = refl
own_sends End own = elim own [ ]

sent_here : (cell : BlockState) (places : List (List ℕ)) (moved : Moved) (does : Did places moved cell) → sent_at cell ≡ sent_to does.instr
sent_here cell places moved does = ap sent_at does.runs ∙ ap sent_in does.next

sends_here : (asked : List ℕ) (cell : BlockState) (places : List (List ℕ)) (moved : Moved) (does : Did places moved cell) → sends_at asked cell ≡ sends_to asked does.instr
sends_here asked cell places moved does = ap (sends_at asked) does.runs ∙ ap (sends_in asked) does.next

same_bytes : (a b : List ℕ) → pointwise nat_eq a b ≡ true → a ≡ b
same_bytes a b is = (bytes_eq-Decides a b).0 is

pub index_get : (names : List (List ℕ)) (key : List ℕ) (index : ℕ) → IsPlace names key index → slice_get names index ≡ Some key
index_get [] key index at = elim at [ ]
index_get (name ∷ names) key zero at = ap (λ (k : List ℕ). Some k) (same_bytes name key at)
index_get (name ∷ names) key (suc index) at = index_get names key index at.1

pub place-told : (places : List (List ℕ)) (before new : Tables) (pass : ℕ) (name : BlockName) (moved : Moved) (does : Did places moved (before.blocks (block_of name)))
    → ((asked : List ℕ) → any_waits (new.requests asked) ≡ waits_after before (played pass (run (block_of name))) asked)
    → TellsPlace places new (touched_place before (played pass (run (block_of name)))) (place_told moved)
place-told places before new pass name moved does waits = subst (λ (p : Option (List ℕ)). TellsPlace places new p (place_told moved)) (sym (sent_here (before.blocks (block_of name)) places moved does)) (told moved does)
  where
    told : (m : Moved) (d : Did places m (before.blocks (block_of name))) → TellsPlace places new (sent_to d.instr) (place_told m)
    told Waits d = elim d.does [ ]
    told Silent d = subst (λ (p : Option (List ℕ)). TellsPlace places new p None) (sym (own_sends d.instr d.does)) tt
    told (Happened event) d = subst (λ (p : Option (List ℕ)). TellsPlace places new p None) (sym (own_sends d.instr d.does)) tt
    told (Forked number) d = subst (λ (i : Instr). TellsPlace places new (sent_to i) None) (sym d.does.1) tt
    told (Ended id) d = subst (λ (i : Instr). TellsPlace places new (sent_to i) None) (sym d.does) tt
    told (Sent event place id) d =
        let asked = d.does.0 in
        subst (λ (i : Instr). TellsPlace places new (sent_to i) (place_told (Sent event place id))) (sym d.does.1) (
          index_get places asked place d.does.2,
          sym (waits asked
              ∙ ap (λ (b : Bool). b || any_waits (before.requests asked)) (sends_here asked (before.blocks (block_of name)) places (Sent event place id) d ∙ ap (sends_to asked) d.does.1 ∙ (bytes_eq-Decides asked asked).1 refl)),
        )

-- ---- a block that ended is started

nat-self : (n : ℕ) → nat_eq n n ≡ true
nat-self n = eq-eqb n n refl

ended_is : (n : ℕ) (remote : Bool) (result : Evidence) (tables : Tables) → IsStarted ((after_end (of n) remote result tables).blocks (of n))
ended_is n true result tables = subst (λ (b : Bool). IsStarted (if b then over result else tables.blocks (of n))) (sym same) tt
  where
    same : nat_eq n n ≡ true
    same = nat-self n
ended_is n false result tables = subst (λ (b : Bool). IsStarted (if b then over result else tables.blocks (of n))) (sym same) tt
  where
    same : nat_eq n n ≡ true
    same = nat-self n

abbrev StartedIn : ℕ → Option Tables → Type 0
StartedIn n None = Unit {0}
StartedIn n (Some tables) = IsStarted (tables.blocks (of n))

pub ended-started : (program : List Block) (from : Makings) (pass n : ℕ) (before later : Tables) (remote : Bool) (local : Local) (rest : List Instr) → before.state ≡ is_open → before.blocks (of n) ≡ running remote local → local.rest ≡ End ∷ rest
    → step_tables program from before (played pass (run (of n))) ≡ Some later
    → IsStarted (later.blocks (of n))
ended-started program from pass n before later remote local rest opened runs code step =
    let setting : Setting = record { place = place_called program (block_name (of n)); from = from } in
    let whole = play_tables program from pass before (run (of n)) in
    let one = ap (λ (s : State). tables_while s whole) opened in
    let two = ap (step_in program from pass run_step (of n) before) runs in
    let three = ap (λ (l : List Instr). after_step program pass (of n) remote before (act_with setting before run_step local l)) code in
    subst (StartedIn n) (sym (one ∙ two ∙ three) ∙ step) (ended_is n remote local.evidence (after_machine (of n) remote no_event local before))

pub over-started : (program : List Block) (from : Makings) (pass : ℕ) (places : List (List ℕ)) (before : Tables) (world : World) (after : Book) (name : BlockName) (moved : Moved) → Did places moved (before.blocks (block_of name)) → before.state ≡ is_open
    → step_tables program from before (played pass (run (block_of name))) ≡ Some (tables_of world after)
    → IsStartedIfOver name moved world
over-started program from pass places before world after name Waits did opened step = tt
over-started program from pass places before world after name Silent did opened step = tt
over-started program from pass places before world after name (Happened event) did opened step = tt
over-started program from pass places before world after name (Sent event place id) did opened step = tt
over-started program from pass places before world after name (Forked event) did opened step = tt
over-started program from pass places before world after Root (Ended id) did opened step = tt
over-started program from pass places before world after (Of n) (Ended id) did opened step =
    ended-started program from pass n before (tables_of world after) did.for_request did.local did.rest opened did.runs (did.next ∙ ap (λ (i : Instr). i ∷ did.rest) did.does) step

-- ---- what a mapped book is

pub record Mapped (world : World) (found : Option Book) (later : Tables) : Type 0 where
  pub after : Book
  pub is : found ≡ Some after
  pub same : tables_of world after ≡ later

pub map-back : (world : World) (found : Option Book) (later : Tables) → option_map (tables_of world) found ≡ Some later → Mapped world found later
map-back world None later e = cc
map-back world (Some after) later e = record { after = after; is = refl; same = cc }

-- ---- the whole

module _ (session : Session) (keys : List (List ℕ × List ℕ)) (places : List (List ℕ)) (standing : Standing) (core : Core) (c : IsCoreAt session keys places standing core) (opened : standing.state ≡ is_open) where
  pub behind-run : (pass : ℕ) (name : BlockName) (moved : Moved) (second : Option BlockName) (new : Core) → Did core.world.places.items moved ((tables_in core).blocks (block_of name))
      → HasTaken session keys places (tables_in core) (played pass (run (block_of name))) new.world new.book → IsMadeFor session places new → new.agenda ≡ core.agenda → new.world.program ≡ core.world.program
      → ((at : List (List ℕ)) (instr : Instr) → DidNext at moved instr → told_second second ≡ touched_by new.world.program (block_of name) instr)
      → ((asked : List ℕ) → any_waits ((tables_in new).requests asked) ≡ waits_after (tables_in core) (played pass (run (block_of name))) asked)
      → IsBehind session keys places name second (place_told moved) new
  behind-run pass name moved second new did taken made same program seconds waits =
      let entry = played pass (run (block_of name)) in
      let late = late-from session keys places standing core c opened entry new taken made same in
      record {
        standing = late.0;
        before = tables_in core;
        entry = entry;
        late = late.1;
        names = names-told (program_in session) (tables_in core) pass name second core.world.places.items moved did
            (seconds core.world.places.items did.instr did.does ∙ ap (λ (p : List Block). touched_by p (block_of name) did.instr) (program ∙ c.played.program));
        where_waits = subst (λ (p : List (List ℕ)). TellsPlace p (tables_in new) (touched_place (tables_in core) entry) (place_told moved)) c.played.names
            (place-told core.world.places.items (tables_in core) (tables_in new) pass name moved did waits);
      }

-- what is told of a place is what was found
pub behind-told : (session : Session) (keys : List (List ℕ × List ℕ)) (places : List (List ℕ)) (first : BlockName) (second : Option BlockName) (place found : Option PlaceUpdate) (core : Core) → place ≡ found → IsBehind session keys places first second place core → IsBehind session keys places first second found core
behind-told session keys places first second place found core is b = subst (λ (p : Option PlaceUpdate). IsBehind session keys places first second p core) is b

pub index-below : (names : List (List ℕ)) (key : List ℕ) (index : ℕ) → IsPlace names key index → index < length names
index-below [] key index at = elim at [ ]
index-below (name ∷ names) key zero at = omega arith
index-below (name ∷ names) key (suc index) at = let h = index-below names key index at.1 in omega (arith, h)
