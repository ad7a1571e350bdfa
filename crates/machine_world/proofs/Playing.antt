-- What the tests know of the worlds that they run.
use Rattle.std.proofs.Common.{◌≡◌, ◌≤◌, ℕ, Bool, true, false, IsTrue, Result, Ok, Err, IfOk, List, [], ◌∷◌, Option, Some, None, length, refl, sym, ap, ◌∙◌, subst, arith, length-append}
use Rattle.std.specs.Option.{option_map}
use Rattle.std.specs.List.{AllByRecursion}
use Rattle.phrase_tree.specs.declared.measurement.Asp.{Asp}
use Rattle.phrase_tree.specs.Term.{Term, leaf, usm as usm_leaf, at, par}
use Rattle.phrase_tree.specs.Numbering.{IsSized}
use Rattle.phrase_tree.specs.Events.{events_of}
use Rattle.evidence_types.specs.Evidence.{Evidence, empty, nonce, usm, par_pair}
use Rattle.evidence_types.specs.Bytes.{encoding, FitsBundle}
use Rattle.session_model.specs.Value.{Makings}
use Rattle.session_runs.specs.Moves.{happens}
use Rattle.session_runs.specs.Standing.{Block as Name, root, of, Entry, played, answered, run, deliver, is_open}
use Rattle.avm_code.specs.declared.program.Block.{Block}
use Rattle.avm_code.specs.declared.instr.Instr.TheVariants.{Usm, JoinPar, End}
use Rattle.avm_compile.specs.Program.{program_of}
use Rattle.avm_core.specs.Programs.{IsKeyed}
use Rattle.machine_tables.specs.Row.{Local}
use Rattle.machine_tables.specs.Tables.{Tables, BlockState, not_started, running, over, Change, nothing, posts, forks, takes, joins, lifts, ends, Acted, step_tables, opening_tables}
use Rattle.machine_tables.specs.Allowed.{acted_by, MayRun, MayDeliver, MayAnswer}
use Rattle.machine_world.specs.declared.world.World.{World}
use Rattle.machine_world.specs.Cells.{Book, opening_book, tables_of}
use Rattle.machine_world.specs.Seen.{IsPlace}
use Rattle.machine_world.specs.Answers.{IsStarted}
use Rattle.machine_world.specs.Playable.{asks_listed}

-- a world of this program stands for these tables, with some book
pub record Shows (program : List Block) (world : World) (tables : Tables) : Type 0 where
  pub same : world.program ≡ program
  pub book : Book
  pub is : tables_of world book ≡ tables

-- the tables after an entry
abbrev pub or_else : Tables → Option Tables → Tables
or_else tables None = tables
or_else tables (Some next) = next

abbrev pub after : List Block → Makings → Entry → Tables → Tables
after program from entry tables = or_else tables (step_tables program from tables entry)

-- the same with the block's ask in flight, whichever is asked about
abbrev pub asked_by : Name → Tables → Tables
asked_by name tables = record tables { in_flight = λ n. Some (0, name) }

from_map : (program : List Block) (world : World) (tables : Tables) (book : Option Book) → world.program ≡ program → option_map (tables_of world) book ≡ Some tables → Shows program world tables
from_map program world tables None same e = none_some e
  where
    none_some : {P : Type 0} → None ≡ Some tables → P
    none_some e = cc
from_map program world tables (Some book) same e = record { same = same; book = book; is = ap (or_else tables) e }

pub went : (program : List Block) (old new : World) (from : Makings) (entry : Entry) (before next : Tables) (shows : Shows program old before) (book : Option Book) → new.program ≡ old.program → step_tables old.program from (tables_of old shows.book) entry ≡ option_map (tables_of new) book → step_tables program from before entry ≡ Some next → Shows program new next
went program old new from entry before next shows book kept moves goes =
    from_map program new next book (kept ∙ shows.same)
    (sym moves ∙ ap (λ (p : List Block). step_tables p from (tables_of old shows.book) entry) shows.same ∙ ap (λ (t : Tables). step_tables program from t entry) shows.is ∙ goes)

-- the session is still, by the book, where the tables say so
pub open_book : (program : List Block) (world : World) (tables : Tables) (shows : Shows program world tables) → tables.state ≡ is_open → shows.book.state ≡ is_open
open_book program world tables shows still = ap (λ (t : Tables). t.state) shows.is ∙ still

-- after a block ran
pub ran : (program : List Block) (old new : World) (from : Makings) (name : Name) (books : Book → Option Book) (before : Tables) → Shows program old before → new.program ≡ old.program → ((book : Book) (pass : ℕ) → book.state ≡ is_open → step_tables old.program from (tables_of old book) (played pass (run name)) ≡ option_map (tables_of new) (books book)) → before.state ≡ is_open → step_tables program from before (played 0 (run name)) ≡ Some (after program from (played 0 (run name)) before) → Shows program new (after program from (played 0 (run name)) before)
ran program old new from name books before shows kept moves still goes =
    went program old new from (played 0 (run name)) before (after program from (played 0 (run name)) before) shows (books shows.book) kept
    (moves shows.book 0 (open_book program old before shows still)) goes

-- after the delivery of a request
delivered_book : (world : World) (book : Book) (number : Option ℕ) → option_map (λ n. tables_of world book) number ≡ option_map (tables_of world) (option_map (λ n. book) number)
delivered_book world book None = refl
delivered_book world book (Some n) = refl

pub delivered : (program : List Block) (old new : World) (from : Makings) (place : List ℕ) (number : Option ℕ) (before : Tables) → Shows program old before → new.program ≡ old.program → ((book : Book) → book.state ≡ is_open → step_tables old.program from (tables_of old book) (played 0 (deliver place)) ≡ option_map (λ n. tables_of new book) number) → before.state ≡ is_open → step_tables program from before (played 0 (deliver place)) ≡ Some (after program from (played 0 (deliver place)) before) → Shows program new (after program from (played 0 (deliver place)) before)
delivered program old new from place number before shows kept delivers still goes =
    went program old new from (played 0 (deliver place)) before (after program from (played 0 (deliver place)) before) shows (option_map (λ n. shows.book) number) kept
    (delivers shows.book (open_book program old before shows still) ∙ delivered_book new shows.book number) goes

-- after the answer of an event
abbrev pub after_answer : List Block → Makings → ℕ → List ℕ → Name → Tables → Tables
after_answer program from event bytes name tables = after program from (answered 0 event bytes) (asked_by name tables)

abbrev asks : (program : List Block) (world : World) (tables : Tables) (name : Name) → Shows program world tables → Shows program world (asked_by name tables)
asks program world tables name shows = record {
  same = shows.same;
  book = record shows.book { in_flight = λ n. Some (0, name) };
  is = ap (asked_by name) shows.is;
}

pub got : (program : List Block) (old new : World) (from : Makings) (event : ℕ) (bytes : List ℕ) (name : Name) (books : Book → Book) (before : Tables) → Shows program old before → new.program ≡ old.program → ((book : Book) → book.state ≡ is_open → book.in_flight event ≡ Some (0, name) → step_tables old.program from (tables_of old book) (answered 0 event bytes) ≡ Some (tables_of new (books book))) → before.state ≡ is_open → step_tables program from (asked_by name before) (answered 0 event bytes) ≡ Some (after_answer program from event bytes name before) → Shows program new (after_answer program from event bytes name before)
got program old new from event bytes name books before shows kept answers still goes =
    let asking = asks program old before name shows in
    went program old new from (answered 0 event bytes) (asked_by name before) (after_answer program from event bytes name before) asking (Some (books asking.book)) kept
    (answers asking.book (open_book program old (asked_by name before) asking still) refl) goes

-- what a step leaves as evidence, and what it changes
abbrev pub left_by : Acted → Evidence
left_by None = empty
left_by (Some step) = step.2.evidence

abbrev pub held_by : BlockState → Local
held_by not_started = record { rest = []; evidence = empty; stack = [] }
held_by (running remote local) = local
held_by (over result) = record { rest = []; evidence = empty; stack = [] }

abbrev pub step_by : List Block → Makings → Tables → Name → Acted
step_by program from tables name = acted_by program from tables name (held_by (tables.blocks name))

-- the arm that a step starts isn't started
abbrev pub FreshBy : Tables → Change → Type 0
FreshBy tables nothing = Unit {0}
FreshBy tables (posts place n evidence) = Unit {0}
FreshBy tables (forks n evidence) = tables.blocks (of n) ≡ not_started
FreshBy tables (takes n) = Unit {0}
FreshBy tables (joins n) = Unit {0}
FreshBy tables (lifts n) = Unit {0}
FreshBy tables (ends result) = Unit {0}

abbrev pub IsFresh : Tables → Acted → Type 0
IsFresh tables None = Unit {0}
IsFresh tables (Some step) = FreshBy tables step.1

acts : (program : List Block) (from : Makings) (tables : Tables) (name : Name) (remote : Bool) (local : Local) (acted : Acted) → tables.blocks name ≡ running remote local → acted_by program from tables name local ≡ acted → step_by program from tables name ≡ acted
acts program from tables name remote local acted runs is =
    ap (λ (state : BlockState). acted_by program from tables name (held_by state)) runs ∙ is

pub may_run : (program : List Block) (from : Makings) (tables : Tables) (name : Name) → FitsBundle (left_by (step_by program from tables name)) → IsFresh tables (step_by program from tables name) → MayRun program from tables name
may_run program from tables name fits fresh = record {
  fits = λ remote local effect change next runs is. subst FitsBundle (ap left_by (acts program from tables name remote local (Some (effect, change, next)) runs is)) fits;
  fresh = λ remote local number before next runs is. subst (IsFresh tables) (acts program from tables name remote local (Some (happens number, forks number before, next)) runs is) fresh;
}

pub runs_on : (program : List Block) (world : World) (from : Makings) (tables : Tables) (name : Name) → Shows program world tables → MayRun program from tables name → (book : Book) × MayRun world.program from (tables_of world book) name
runs_on program world from tables name shows may =
    (shows.book, subst (λ (p : List Block). MayRun p from (tables_of world shows.book) name) (sym shows.same) (subst (λ (t : Tables). MayRun program from t name) (sym shows.is) may))

pub may_answer : (program : List Block) (world : World) (tables : Tables) (event : ℕ) (bytes : List ℕ) (name : Name) → Shows program world tables → MayAnswer tables event bytes name → MayAnswer (tables_of world opening_book) event bytes name
may_answer program world tables event bytes name shows may = record {
  for_request = may.for_request;
  local = may.local;
  instr = may.instr;
  rest = may.rest;
  runs = ap (λ (t : Tables). t.blocks name) shows.is ∙ may.runs;
  next = may.next;
  measures = may.measures;
  fits = may.fits;
}

pub may_deliver : (program : List Block) (world : World) (tables : Tables) (place : List ℕ) → Shows program world tables → MayDeliver tables place → MayDeliver (tables_of world opening_book) place
may_deliver program world tables place shows may = λ request rest waits.
    ap (λ (t : Tables). t.blocks (of request.0)) shows.is ∙ may request rest (sym (ap (λ (t : Tables). t.requests place) shows.is) ∙ waits)

-- short values
pub nonce_fits : (bytes : List ℕ) → length bytes ≤ 100 → FitsBundle (nonce bytes)
nonce_fits bytes few = record { small = omega (arith, few); shallow = omega arith }

pub measured_fits : (event : ℕ) (answer bytes : List ℕ) → length answer ≤ 100 → length bytes ≤ 100 → FitsBundle (usm event answer (nonce bytes))
measured_fits event answer bytes short few =
    record { small = omega (arith, short, few, length-append answer (1 ∷ bytes)); shallow = omega arith }

pub empty_fits : FitsBundle empty
empty_fits = record { small = omega arith; shallow = omega arith }

pub alone_fits : (event : ℕ) (answer : List ℕ) → length answer ≤ 100 → FitsBundle (usm event answer empty)
alone_fits event answer short = record { small = omega (arith, short, length-append answer (0 ∷ [])); shallow = omega arith }

pub arms_fit : (event other : ℕ) (answer more bytes : List ℕ) → length answer ≤ 100 → length more ≤ 100 → length bytes ≤ 100 → FitsBundle (par_pair (usm event answer (nonce bytes)) (usm other more empty))
arms_fit event other answer more bytes short brief few = record {
  small = omega (arith, short, brief, few, length-append (encoding (usm event answer (nonce bytes))) (encoding (usm other more empty)), length-append answer (1 ∷ bytes), length-append more (0 ∷ []));
  shallow = omega arith;
}

-- a world just opened, for the phrase as it is written
pub start : (phrase written : Term) (place : List ℕ) (world : World) (before : Evidence) → world.program ≡ program_of phrase place → tables_of world opening_book ≡ opening_tables (program_of phrase place) before → phrase ≡ written → Shows (program_of written place) world (opening_tables (program_of written place) before)
start phrase written place world before program opens is = record {
  same = program ∙ ap (λ (t : Term). program_of t place) is;
  book = opening_book;
  is = opens ∙ ap (λ (t : Term). opening_tables (program_of t place) before) is;
}

pub if_ok : {A E : Type 0} (r : Result A E) (P Q : A → Type 0) → ((a : A) → P a → Q a) → IfOk r P → IfOk r Q
if_ok (Ok a) P Q f p = f a p
if_ok (Err e) P Q f p = tt

-- a block that the tables have started is started in the world
pub is_started : (program : List Block) (world : World) (tables : Tables) (name : Name) → Shows program world tables → IsStarted (tables.blocks name) → IsStarted ((tables_of world opening_book).blocks name)
is_started program world tables name shows started =
    subst IsStarted (sym (ap (λ (t : Tables). t.blocks name) shows.is)) started

pub same_places : (new old : World) → new.places ≡ old.places → new.places.items ≡ old.places.items
same_places new old same = ap (λ places. places.items) same

-- `USM a`
abbrev pub alone : Asp → Term
alone asp = leaf (usm_leaf asp)

pub sized_alone : (asp : Asp) → IsSized (alone asp)
sized_alone asp = record { events = omega arith; nesting = omega arith }

pub keyed_alone : (asp : Asp) (place : List ℕ) (keys : List (List ℕ × List ℕ)) → AllByRecursion (IsKeyed keys) (program_of (alone asp) place)
keyed_alone asp place keys = ((tt, (tt, tt)), tt)

pub asks_alone : (asp : Asp) (place : List ℕ) (places : List (List ℕ)) → AllByRecursion (λ one. IsTrue (asks_listed places one.kind)) (events_of (alone asp) place 0)
asks_alone asp place places = (refl, tt)

abbrev pub alone_0 : Asp → List ℕ → List ℕ → Tables
alone_0 asp place bytes = opening_tables (program_of (alone asp) place) (nonce bytes)

pub alone_waits : (asp : Asp) (place bytes answer : List ℕ) → length answer ≤ 100 → length bytes ≤ 100 → MayAnswer (alone_0 asp place bytes) 0 answer root
alone_waits asp place bytes answer short few = record {
  for_request = false;
  local = record { rest = Usm 0 asp ∷ End ∷ []; evidence = nonce bytes; stack = [] };
  instr = Usm 0 asp;
  rest = End ∷ [];
  runs = refl;
  next = refl;
  measures = refl;
  fits = measured_fits 0 answer bytes short few;
}

abbrev pub alone_1 : Asp → List ℕ → List ℕ → List ℕ → Makings → Tables
alone_1 asp place bytes answer from = after_answer (program_of (alone asp) place) from 0 answer root (alone_0 asp place bytes)

pub alone_goes : (asp : Asp) (place bytes answer : List ℕ) (from : Makings) → step_tables (program_of (alone asp) place) from (asked_by root (alone_0 asp place bytes)) (answered 0 0 answer) ≡ Some (alone_1 asp place bytes answer from)
alone_goes asp place bytes answer from = refl

pub alone_ends : (asp : Asp) (place bytes answer : List ℕ) (from other : Makings) → length answer ≤ 100 → length bytes ≤ 100 → MayRun (program_of (alone asp) place) other (alone_1 asp place bytes answer from) root
alone_ends asp place bytes answer from other short few =
    may_run (program_of (alone asp) place) other (alone_1 asp place bytes answer from) root (measured_fits 0 answer bytes short few) tt

-- `USM a +~- USM b`
abbrev pub arms : Asp → Asp → Term
arms a b = par (record { left = true; right = false }) (leaf (usm_leaf a)) (leaf (usm_leaf b))

pub sized_arms : (a b : Asp) → IsSized (arms a b)
sized_arms a b = record { events = omega arith; nesting = omega arith }

pub keyed_arms : (a b : Asp) (place : List ℕ) (keys : List (List ℕ × List ℕ)) → AllByRecursion (IsKeyed keys) (program_of (arms a b) place)
keyed_arms a b place keys = ((tt, (tt, (tt, (tt, tt)))), ((tt, (tt, tt)), tt))

pub asks_arms : (a b : Asp) (place : List ℕ) (places : List (List ℕ)) → AllByRecursion (λ one. IsTrue (asks_listed places one.kind)) (events_of (arms a b) place 0)
asks_arms a b place places = (refl, (refl, (refl, (refl, tt))))

-- what the tests give: the measurements, the place, the nonce and the answers
pub record Given : Type 0 where
  pub a : Asp
  pub b : Asp
  pub place : List ℕ
  pub bytes : List ℕ
  pub left : List ℕ
  pub right : List ℕ
  pub from : Makings

pub record IsShort (given : Given) : Type 0 where
  pub bytes : length given.bytes ≤ 100
  pub left : length given.left ≤ 100
  pub right : length given.right ≤ 100

abbrev pub arms_of : Given → List Block
arms_of g = program_of (arms g.a g.b) g.place

abbrev pub arms_0 : Given → Tables
arms_0 g = opening_tables (arms_of g) (nonce g.bytes)

abbrev pub arms_1 : Given → Tables
arms_1 g = after (arms_of g) g.from (played 0 (run root)) (arms_0 g)

abbrev pub arms_2 : Given → Tables
arms_2 g = after_answer (arms_of g) g.from 1 g.left root (arms_1 g)

abbrev pub arms_3 : Given → Tables
arms_3 g = after_answer (arms_of g) g.from 2 g.right (of 0) (arms_2 g)

abbrev pub arms_4 : Given → Tables
arms_4 g = after (arms_of g) g.from (played 0 (run (of 0))) (arms_3 g)

abbrev pub arms_5 : Given → Tables
arms_5 g = after (arms_of g) g.from (played 0 (run root)) (arms_4 g)

pub arms_may_0 : (g : Given) → IsShort g → MayRun (arms_of g) g.from (arms_0 g) root
arms_may_0 g short = may_run (arms_of g) g.from (arms_0 g) root (nonce_fits g.bytes short.bytes) refl

pub arms_may_1 : (g : Given) → IsShort g → MayAnswer (arms_1 g) 1 g.left root
arms_may_1 g short = record {
  for_request = false;
  local = record { rest = Usm 1 g.a ∷ JoinPar 3 0 ∷ End ∷ []; evidence = nonce g.bytes; stack = [] };
  instr = Usm 1 g.a;
  rest = JoinPar 3 0 ∷ End ∷ [];
  runs = refl;
  next = refl;
  measures = refl;
  fits = measured_fits 1 g.left g.bytes short.left short.bytes;
}

pub arms_may_2 : (g : Given) → IsShort g → MayAnswer (arms_2 g) 2 g.right (of 0)
arms_may_2 g short = record {
  for_request = false;
  local = record { rest = Usm 2 g.b ∷ End ∷ []; evidence = empty; stack = [] };
  instr = Usm 2 g.b;
  rest = End ∷ [];
  runs = refl;
  next = refl;
  measures = refl;
  fits = alone_fits 2 g.right short.right;
}

pub arms_may_3 : (g : Given) → IsShort g → MayRun (arms_of g) g.from (arms_3 g) (of 0)
arms_may_3 g short = may_run (arms_of g) g.from (arms_3 g) (of 0) (alone_fits 2 g.right short.right) tt

pub arms_may_4 : (g : Given) → IsShort g → MayRun (arms_of g) g.from (arms_4 g) root
arms_may_4 g short =
    may_run (arms_of g) g.from (arms_4 g) root (arms_fit 1 2 g.left g.right g.bytes short.left short.right short.bytes) tt

pub arms_may_5 : (g : Given) → IsShort g → MayRun (arms_of g) g.from (arms_5 g) root
arms_may_5 g short =
    may_run (arms_of g) g.from (arms_5 g) root (arms_fit 1 2 g.left g.right g.bytes short.left short.right short.bytes) tt

-- `@q [USM a]`, between bank and q
abbrev pub bank_text : List ℕ
bank_text = 98 ∷ 97 ∷ 110 ∷ 107 ∷ []

abbrev pub q_text : List ℕ
q_text = 113 ∷ []

abbrev pub asked : List ℕ → Asp → Term
asked q asp = at q (leaf (usm_leaf asp))

pub sized_asked : (q : List ℕ) (asp : Asp) → IsSized (asked q asp)
sized_asked q asp = record { events = omega arith; nesting = omega arith }

pub keyed_asked : (q : List ℕ) (asp : Asp) (place : List ℕ) (keys : List (List ℕ × List ℕ)) → AllByRecursion (IsKeyed keys) (program_of (asked q asp) place)
keyed_asked q asp place keys = ((tt, (tt, (tt, tt))), ((tt, (tt, tt)), tt))

abbrev pub AsksOf : List (List ℕ) → List ℕ → Asp → List ℕ → Type 0
AsksOf places q asp place = AllByRecursion (λ one. IsTrue (asks_listed places one.kind)) (events_of (asked q asp) place 0)

pub asks_asked : (places : List (List ℕ)) (bank q place : List ℕ) (asp : Asp) → bank ≡ bank_text → q ≡ q_text → places ≡ bank ∷ q ∷ [] → AsksOf places q asp place
asks_asked places bank q place asp bank_is q_is places_is =
    subst (λ (x : List (List ℕ)). AsksOf x q asp place) (sym places_is)
    (subst (λ (x : List ℕ). AsksOf (x ∷ q ∷ []) q asp place) (sym bank_is) (subst (λ (x : List ℕ). AsksOf (bank_text ∷ x ∷ []) x asp place) (sym q_is) (refl, (refl, (refl, tt)))))

pub q_is_second : (places : List (List ℕ)) (bank q : List ℕ) → bank ≡ bank_text → q ≡ q_text → places ≡ bank ∷ q ∷ [] → IsPlace places q_text 1
q_is_second places bank q bank_is q_is places_is =
    subst (λ (x : List (List ℕ)). IsPlace x q_text 1) (sym places_is)
    (subst (λ (x : List ℕ). IsPlace (x ∷ q ∷ []) q_text 1) (sym bank_is) (subst (λ (x : List ℕ). IsPlace (bank_text ∷ x ∷ []) q_text 1) (sym q_is) (refl, refl)))

abbrev pub asked_of : Given → List Block
asked_of g = program_of (asked q_text g.a) g.place

abbrev pub asked_0 : Given → Tables
asked_0 g = opening_tables (asked_of g) (nonce g.bytes)

abbrev pub asked_1 : Given → Tables
asked_1 g = after (asked_of g) g.from (played 0 (run root)) (asked_0 g)

abbrev pub asked_2 : Given → Tables
asked_2 g = after (asked_of g) g.from (played 0 (deliver q_text)) (asked_1 g)

abbrev pub asked_3 : Given → Tables
asked_3 g = after_answer (asked_of g) g.from 1 g.left (of 0) (asked_2 g)

abbrev pub asked_4 : Given → Tables
asked_4 g = after (asked_of g) g.from (played 0 (run (of 0))) (asked_3 g)

abbrev pub asked_5 : Given → Tables
asked_5 g = after (asked_of g) g.from (played 0 (run root)) (asked_4 g)

pub asked_may_0 : (g : Given) → IsShort g → MayRun (asked_of g) g.from (asked_0 g) root
asked_may_0 g short = may_run (asked_of g) g.from (asked_0 g) root (nonce_fits g.bytes short.bytes) tt

abbrev first_state : Tables → List (ℕ × Evidence) → BlockState
first_state tables [] = not_started
first_state tables (request ∷ rest) = tables.blocks (of request.0)

pub asked_may_1 : (g : Given) → MayDeliver (asked_1 g) q_text
asked_may_1 g = λ request rest waits. ap (first_state (asked_1 g)) (sym waits)

pub asked_may_2 : (g : Given) → IsShort g → MayAnswer (asked_2 g) 1 g.left (of 0)
asked_may_2 g short = record {
  for_request = true;
  local = record { rest = Usm 1 g.a ∷ End ∷ []; evidence = nonce g.bytes; stack = [] };
  instr = Usm 1 g.a;
  rest = End ∷ [];
  runs = refl;
  next = refl;
  measures = refl;
  fits = measured_fits 1 g.left g.bytes short.left short.bytes;
}

pub asked_may_3 : (g : Given) → IsShort g → MayRun (asked_of g) g.from (asked_3 g) (of 0)
asked_may_3 g short =
    may_run (asked_of g) g.from (asked_3 g) (of 0) (measured_fits 1 g.left g.bytes short.left short.bytes) tt

pub asked_may_4 : (g : Given) → IsShort g → MayRun (asked_of g) g.from (asked_4 g) root
asked_may_4 g short =
    may_run (asked_of g) g.from (asked_4 g) root (measured_fits 1 g.left g.bytes short.left short.bytes) tt

pub asked_may_5 : (g : Given) → IsShort g → MayRun (asked_of g) g.from (asked_5 g) root
asked_may_5 g short =
    may_run (asked_of g) g.from (asked_5 g) root (measured_fits 1 g.left g.bytes short.left short.bytes) tt
