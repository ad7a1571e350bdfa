-- What a move of a core sends or needs is read off its block's next instruction.
use Rattle.std.proofs.Common.{◌≡◌, ℕ, ◌<◌, ◌+◌, Bool, true, false, List, [], ◌∷◌, length, refl, sym, ◌∙◌, ap, subst, arith}
use Rattle.std.specs.Prelude.{Option, None, Some, Contains, ◌↔◌, Result, Ok, Err, IfOk, slice_get}
use Rattle.std.proofs.lemmas.Option.{slice_get_within}
use Rattle.phrase_tree.specs.declared.memory.NoMemory.{NoMemory}
use Rattle.std.specs.Option.{option_map}
use Rattle.evidence_types.specs.Evidence.{Evidence}
use Rattle.evidence_types.specs.Bytes.{bundle}
use Rattle.evidence_store.specs.Kept.{value_at}
use Rattle.session_model.specs.Session.{Session}
use Rattle.session_model.specs.Value.{Makings}
use Rattle.session_runs.specs.Moves.{Step, run as run_step}
use Rattle.session_runs.specs.Standing.{Block, root, of, Move as SessionMove, run, ask, deliver, Entry, played, State, is_open, is_done, has_failed, has_starved, Standing, makings, next, front}
use Rattle.session_runs.specs.History.{standing_after}
use Rattle.session_runs.specs.MoveOrder.{move_by, moves_where, possible_moves}
use Rattle.session_runs.specs.Progress.{CanCome, IsAtOneOf}
use Rattle.session_runs.specs.Touches.{Touch as SessionTouch, touches_nothing, needs_request, touching, touch_front, touched_while, touch_in, sent_in, touch_of, sent_by}
use Rattle.avm_code.specs.declared.instr.BlockName.{BlockName}
use Rattle.avm_code.specs.declared.instr.BlockName.TheVariants.{Root, Of}
use Rattle.avm_code.specs.declared.instr.Instr.{Instr}
use Rattle.avm_code.specs.declared.instr.Instr.TheVariants.{Copy, Usm, Kim, Sign, Hash, Null, Split, Swap, JoinSeq, Send, Recv, Fork, JoinPar, End}
use Rattle.avm_code.specs.declared.program.Block.{Block as CodeBlock}
use Rattle.avm_compile.specs.Program.{program_of}
use Rattle.machine_tables.specs.Row.{Local}
use Rattle.machine_tables.specs.Tables.{BlockState, not_started, running, over, Tables, next_in, next_at, next_of}
use Rattle.machine_world.specs.declared.moved.Touched.{Touched}
use Rattle.machine_world.specs.declared.moved.Touched.TheVariants as touched
use Rattle.machine_world.specs.Seen.{IsPlace}
use Rattle.machine_world.specs.Cells.{block_of}
use Rattle.machine_world.specs.Answers.{first_number}
use Rattle.machine_world.specs.Touched.{touched_by, touched_at_end, IsTouched, TouchesNext, TouchesAt}
use Rattle.session_tables.specs.Shown.{IsShown}
use Rattle.session_tables.specs.Played.{IsPlayed, CanTake}
use Rattle.session_tables.specs.Touched.{any_waits}
use Rattle.session_tables.specs.TouchedAt.{touched_at}
use Rattle.session_core.proofs.ReadingFacts.{place_at_index}
use Rattle.session_core.specs.declared.played.Touch.{Touch}
use Rattle.session_core.specs.declared.played.Touch.TheVariants as touch
use Rattle.session_core.specs.declared.steps.Core.{Core}
use Rattle.session_core.specs.Core.{program_in, history_in, tables_in, IsCoreAt}
use Rattle.session_core.specs.Touching.{touch_as, touch_by, sent_id, SendsNothing, IsMessage}

-- ---- a session with a possible move is open

none_possible : {A : Type 0} (m : A) → Contains {X = A} [] m → ⊥
none_possible m h = absurd (omega (arith, h.1))

open_where : (places : List (List ℕ)) (standing : Standing) (state : State) (m : SessionMove) → Contains (moves_where places standing state) m → state ≡ is_open
open_where places standing is_open m h = refl
open_where places standing (is_done value) m h = absurd (none_possible m h)
open_where places standing (has_failed event fault) m h = absurd (none_possible m h)
open_where places standing (has_starved event) m h = absurd (none_possible m h)

-- ---- asks and deliveries send nothing

ask_nothing : (state : State) → touch_in (touched_while state (touching touches_nothing)) ≡ touches_nothing
ask_nothing is_open = refl
ask_nothing (is_done value) = refl
ask_nothing (has_failed event fault) = refl
ask_nothing (has_starved event) = refl

pub ask_touches : (standing : Standing) (block : Block) → touch_of standing (ask block) ≡ touches_nothing
ask_touches standing block = ask_nothing standing.state

ask_silent : (state : State) → IsMessage (touch_in (touched_while state (touching touches_nothing))) (sent_in (touched_while state (touching touches_nothing))) None
ask_silent is_open = record { is = refl; none = (λ e. tt, λ h. refl) }
ask_silent (is_done value) = record { is = refl; none = (λ e. tt, λ h. refl) }
ask_silent (has_failed event fault) = record { is = refl; none = (λ e. tt, λ h. refl) }
ask_silent (has_starved event) = record { is = refl; none = (λ e. tt, λ h. refl) }

pub ask_message : (standing : Standing) (block : Block) → IsMessage (touch_of standing (ask block)) (sent_by standing (ask block)) None
ask_message standing block = ask_silent standing.state

front_silent : (state : State) (on : Option ℕ) → IsMessage (touch_in (touched_while state (touch_front on))) (sent_in (touched_while state (touch_front on))) None
front_silent is_open None = record { is = refl; none = (λ e. tt, λ h. refl) }
front_silent is_open (Some n) = record { is = refl; none = (λ e. tt, λ h. refl) }
front_silent (is_done value) on = record { is = refl; none = (λ e. tt, λ h. refl) }
front_silent (has_failed event fault) on = record { is = refl; none = (λ e. tt, λ h. refl) }
front_silent (has_starved event) on = record { is = refl; none = (λ e. tt, λ h. refl) }

pub delivery_message : (standing : Standing) (place : List ℕ) → IsMessage (touch_of standing (deliver place)) (sent_by standing (deliver place)) None
delivery_message standing place = front_silent standing.state (front standing.requests place)

-- ---- a block that runs

pub record RunsNext (cell : BlockState) : Type 0 where
  pub remote : Bool
  pub local : Local
  pub instr : Instr
  pub rest : List Instr
  pub runs : cell ≡ running remote local
  pub ahead : local.rest ≡ instr ∷ rest

some_none : {A B : Type 0} {x : A} → ◌≡◌ {A = Option A} (Some x) None → B
some_none e = absurd (cc)

no_next : {A B : Type 0} (x : A) → ◌≡◌ {A = Option A} None (Some x) → B
no_next x e = absurd (cc)

runs_in : (tables : Tables) (remote : Bool) (local : Local) (rest : List Instr) (x : Step × Option ℕ) → local.rest ≡ rest → next_in tables rest ≡ Some x → RunsNext (running remote local)
runs_in tables remote local [] x e h = no_next x h
runs_in tables remote local (instr ∷ rest) x e h = record { remote = remote; local = local; instr = instr; rest = rest; runs = refl; ahead = e }

runs_next : (tables : Tables) (cell : BlockState) (x : Step × Option ℕ) → next_at tables cell ≡ Some x → RunsNext cell
runs_next tables not_started x h = no_next x h
runs_next tables (running remote local) x h = runs_in tables remote local local.rest x refl h
runs_next tables (over result) x h = no_next x h

touches_next : (values : List Evidence) (name : BlockName) (cell : BlockState) (found : Touched) (r : RunsNext cell) → TouchesAt values name cell found → IsTouched values name r.remote r.local r.instr found
touches_next values name cell found r h =
    subst (λ (rest : List Instr). TouchesNext values name r.remote r.local rest found) r.ahead (subst (λ (c : BlockState). TouchesAt values name c found) r.runs h)

-- the id of what is sent is one of the store
known_by : (name : BlockName) (remote : Bool) (id : ℕ) (instr : Instr) (count sent : ℕ) → id < count → sent_id (touched_by name remote id instr) ≡ Some sent → sent < count
known_by name remote id (Send number asked) count sent h e =
    let same : id ≡ sent = cc in
    subst (λ n. n < count) same h
known_by Root remote id End count sent h e = no_next sent e
known_by (Of number) true id End count sent h e =
    let same : id ≡ sent = cc in
    subst (λ n. n < count) same h
known_by (Of number) false id End count sent h e = no_next sent e
known_by name remote id (Copy i) count sent h e = no_next sent e
known_by name remote id (Usm i asp) count sent h e = no_next sent e
known_by name remote id (Kim i target asp) count sent h e = no_next sent e
known_by name remote id (Sign i) count sent h e = no_next sent e
known_by name remote id (Hash i) count sent h e = no_next sent e
known_by name remote id (Null i) count sent h e = no_next sent e
known_by name remote id (Split i split) count sent h e = no_next sent e
known_by name remote id Swap count sent h e = no_next sent e
known_by name remote id (JoinSeq i) count sent h e = no_next sent e
known_by name remote id (Recv j i) count sent h e = no_next sent e
known_by name remote id (Fork i split) count sent h e = no_next sent e
known_by name remote id (JoinPar j i) count sent h e = no_next sent e

known_next : (values : List Evidence) (name : BlockName) (remote : Bool) (local : Local) (rest : List Instr) (found : Touched) (sent : ℕ) → TouchesNext values name remote local rest found → sent_id found ≡ Some sent → sent < length values
known_next values name remote local [] found sent h e = no_next sent (sym (ap sent_id h) ∙ e)
known_next values name remote local (instr ∷ rest) found sent h e = known_by name remote h.id instr (length values) sent h.known (sym (ap sent_id h.is) ∙ e)

pub known_at : (values : List Evidence) (name : BlockName) (cell : BlockState) (found : Touched) (sent : ℕ) → TouchesAt values name cell found → sent_id found ≡ Some sent → sent < length values
known_at values name not_started found sent h e = no_next sent (sym (ap sent_id h) ∙ e)
known_at values name (running remote local) found sent h e = known_next values name remote local local.rest found sent h e
known_at values name (over result) found sent h e = no_next sent (sym (ap sent_id h) ∙ e)

-- ---- what it touches is what the definition says

touch_same : (name : BlockName) (remote : Bool) (id : ℕ) (instr : Instr) (local : Local) → touch_as (touch_by (touched_by name remote id instr)) ≡ (touched_at (block_of name) remote instr local).touch
touch_same name remote id (Send number asked) local = refl
touch_same Root remote id End local = refl
touch_same (Of number) true id End local = refl
touch_same (Of number) false id End local = refl
touch_same name remote id (Copy i) local = refl
touch_same name remote id (Usm i asp) local = refl
touch_same name remote id (Kim i target asp) local = refl
touch_same name remote id (Sign i) local = refl
touch_same name remote id (Hash i) local = refl
touch_same name remote id (Null i) local = refl
touch_same name remote id (Split i split) local = refl
touch_same name remote id Swap local = refl
touch_same name remote id (JoinSeq i) local = refl
touch_same name remote id (Recv j i) local = refl
touch_same name remote id (Fork i split) local = refl
touch_same name remote id (JoinPar j i) local = refl

-- the value of an id, where there is one
abbrev pub sent_value : List Evidence → Option ℕ → Option Evidence
sent_value values sent = option_map (value_at values) sent

sent_same : (values : List Evidence) (name : BlockName) (remote : Bool) (id : ℕ) (instr : Instr) (local : Local) → value_at values id ≡ local.evidence → sent_value values (sent_id (touched_by name remote id instr)) ≡ (touched_at (block_of name) remote instr local).sent
sent_same values name remote id (Send number asked) local h = ap some h
  where
    some : Evidence → Option Evidence
    some e = Some e
sent_same values Root remote id End local h = refl
sent_same values (Of number) true id End local h = ap some h
  where
    some : Evidence → Option Evidence
    some e = Some e
sent_same values (Of number) false id End local h = refl
sent_same values name remote id (Copy i) local h = refl
sent_same values name remote id (Usm i asp) local h = refl
sent_same values name remote id (Kim i target asp) local h = refl
sent_same values name remote id (Sign i) local h = refl
sent_same values name remote id (Hash i) local h = refl
sent_same values name remote id (Null i) local h = refl
sent_same values name remote id (Split i split) local h = refl
sent_same values name remote id Swap local h = refl
sent_same values name remote id (JoinSeq i) local h = refl
sent_same values name remote id (Recv j i) local h = refl
sent_same values name remote id (Fork i split) local h = refl
sent_same values name remote id (JoinPar j i) local h = refl

-- ---- a possible move of a core

-- what the laws of steps, of played sessions and of touches say, as far as they are needed here
abbrev pub Listed : Type 0
Listed =
    (session : Session) (keys : List (List ℕ × List ℕ)) (history : List Entry) (standing : Standing) (tables : Tables) (places : List (List ℕ)) (pass : ℕ) (move : SessionMove) → IsPlayed session keys history standing tables → Contains (possible_moves places standing) move ↔ (CanTake (program_of session.phrase session.root) (makings session keys) tables (played pass move) × IsAtOneOf places move)

abbrev pub Nexts : Type 0
Nexts =
    (program : List CodeBlock) (from : Makings) (tables : Tables) (pass : ℕ) (name : Block) (step : Step) → tables.state ≡ is_open → CanTake program from tables (played pass (move_by step name)) → (event : Option ℕ) × (next_of tables name ≡ Some (step, event))

abbrev pub Comes : Type 0
Comes =
    (session : Session) (keys : List (List ℕ × List ℕ)) (history : List Entry) (standing : Standing) (tables : Tables) (entry : Entry) → IsPlayed session keys history standing tables → CanCome session keys standing entry ↔ CanTake (program_of session.phrase session.root) (makings session keys) tables entry

abbrev pub Runs : Type 0
Runs =
    (session : Session) (keys : List (List ℕ × List ℕ)) (history : List Entry) (standing after : Standing) (tables : Tables) (pass : ℕ) (name : Block) (for_request : Bool) (local : Local) (instr : Instr) (rest : List Instr) → standing_after session keys history ≡ Some standing → IsShown tables standing → next session keys standing (played pass (run name)) ≡ Some after → tables.blocks name ≡ running for_request local → local.rest ≡ instr ∷ rest → (touch_of standing (run name) ≡ (touched_at name for_request instr local).touch) × (sent_by standing (run name) ≡ (touched_at name for_request instr local).sent)

-- a possible run is that of a block whose next instruction touches what it does
pub record RunTouches (standing : Standing) (name : BlockName) (cell : BlockState) : Type 0 where
  pub run_next : RunsNext cell
  pub touched_so : touch_of standing (run (block_of name)) ≡ (touched_at (block_of name) run_next.remote run_next.instr run_next.local).touch
  pub sent_so : sent_by standing (run (block_of name)) ≡ (touched_at (block_of name) run_next.remote run_next.instr run_next.local).sent

open_tables : (session : Session) (keys : List (List ℕ × List ℕ)) (places : List (List ℕ)) (standing : Standing) (core : Core) (m : SessionMove) → IsCoreAt session keys places standing core → Contains (possible_moves places standing) m → (tables_in core).state ≡ is_open
open_tables session keys places standing core m i h =
    i.played.played.shown.state ∙ open_where places standing standing.state m h

run_touches : (session : Session) (keys : List (List ℕ × List ℕ)) (places : List (List ℕ)) (standing : Standing) (core : Core) (name : BlockName) → Listed → Nexts → Comes → Runs → IsCoreAt session keys places standing core → Contains (possible_moves places standing) (run (block_of name)) → RunTouches standing name ((tables_in core).blocks (block_of name))
run_touches session keys places standing core name listed nexts comes runs i h = record {
  run_next = r;
  touched_so = both.0;
  sent_so = both.1;
}
  where
    can : CanTake (program_of session.phrase session.root) (makings session keys) (tables_in core) (played 0 (run (block_of name)))
    can = ((listed session keys (history_in core) standing (tables_in core) places 0 (run (block_of name)) i.played.played).0 h).0

    ahead : (event : Option ℕ) × (next_of (tables_in core) (block_of name) ≡ Some (run_step, event))
    ahead = nexts (program_of session.phrase session.root) (makings session keys) (tables_in core) 0 (block_of name) run_step (open_tables session keys places standing core (run (block_of name)) i h) can

    r : RunsNext ((tables_in core).blocks (block_of name))
    r = runs_next (tables_in core) ((tables_in core).blocks (block_of name)) (run_step, ahead.0) ahead.1

    come : CanCome session keys standing (played 0 (run (block_of name)))
    come = (comes session keys (history_in core) standing (tables_in core) (played 0 (run (block_of name))) i.played.played).1 can

    both : (touch_of standing (run (block_of name)) ≡ (touched_at (block_of name) r.remote r.instr r.local).touch) × (sent_by standing (run (block_of name)) ≡ (touched_at (block_of name) r.remote r.instr r.local).sent)
    both = runs session keys (history_in core) standing come.then_stands (tables_in core) 0 (block_of name) r.remote r.local r.instr r.rest i.played.played.stands i.played.played.shown come.possible r.runs r.ahead

pub run_touch : (session : Session) (keys : List (List ℕ × List ℕ)) (places : List (List ℕ)) (standing : Standing) (core : Core) (name : BlockName) (found : Touched) → Listed → Nexts → Comes → Runs → IsCoreAt session keys places standing core → TouchesAt core.world.store.values name ((tables_in core).blocks (block_of name)) found → Contains (possible_moves places standing) (run (block_of name)) → touch_as (touch_by found) ≡ touch_of standing (run (block_of name))
run_touch session keys places standing core name found listed nexts comes runs i t h =
    let w = run_touches session keys places standing core name listed nexts comes runs i h in
    let is = touches_next core.world.store.values name ((tables_in core).blocks (block_of name)) found w.run_next t in
    ap (λ (f : Touched). touch_as (touch_by f)) is.is ∙ touch_same name w.run_next.remote is.id w.run_next.instr w.run_next.local ∙ sym w.touched_so

silent_at : (name : Block) (remote : Bool) (instr : Instr) (local : Local) → (option_map bundle (touched_at name remote instr local).sent ≡ None) ↔ SendsNothing (touched_at name remote instr local).touch
silent_at name remote (Send number asked) local = (λ e. some_none e, λ h. absurd h)
silent_at root remote End local = (λ e. tt, λ h. refl)
silent_at (of number) true End local = (λ e. some_none e, λ h. absurd h)
silent_at (of number) false End local = (λ e. tt, λ h. refl)
silent_at name remote (Copy i) local = (λ e. tt, λ h. refl)
silent_at name remote (Usm i asp) local = (λ e. tt, λ h. refl)
silent_at name remote (Kim i target asp) local = (λ e. tt, λ h. refl)
silent_at name remote (Sign i) local = (λ e. tt, λ h. refl)
silent_at name remote (Hash i) local = (λ e. tt, λ h. refl)
silent_at name remote (Null i) local = (λ e. tt, λ h. refl)
silent_at name remote (Split i split) local = (λ e. tt, λ h. refl)
silent_at name remote Swap local = (λ e. tt, λ h. refl)
silent_at name remote (JoinSeq i) local = (λ e. tt, λ h. refl)
silent_at name remote (Recv j i) local = (λ e. tt, λ h. refl)
silent_at name remote (Fork i split) local = (λ e. tt, λ h. refl)
silent_at name remote (JoinPar j i) local = (λ e. tt, λ h. refl)

is_message : (touch : SessionTouch) (sent held : Option Evidence) (message : Option (List ℕ)) → message ≡ option_map bundle held → held ≡ sent → (option_map bundle sent ≡ None) ↔ SendsNothing touch → IsMessage touch sent message
is_message touch sent held message e same silent =
    let is : message ≡ option_map bundle sent = e ∙ ap (option_map bundle) same in
    record { is = is; none = (λ h. silent.0 (sym is ∙ h), λ h. is ∙ silent.1 h) }

pub run_message : (session : Session) (keys : List (List ℕ × List ℕ)) (places : List (List ℕ)) (standing : Standing) (core : Core) (name : BlockName) (found : Touched) (sent : Option ℕ) (message : Option (List ℕ)) → Listed → Nexts → Comes → Runs → IsCoreAt session keys places standing core → TouchesAt core.world.store.values name ((tables_in core).blocks (block_of name)) found → sent_id found ≡ sent → message ≡ option_map bundle (sent_value core.world.store.values sent) → Contains (possible_moves places standing) (run (block_of name)) → IsMessage (touch_of standing (run (block_of name))) (sent_by standing (run (block_of name))) message
run_message session keys places standing core name found sent message listed nexts comes runs i t s e h =
    let w = run_touches session keys places standing core name listed nexts comes runs i h in
    let is = touches_next core.world.store.values name ((tables_in core).blocks (block_of name)) found w.run_next t in
    let at = touched_at (block_of name) w.run_next.remote w.run_next.instr w.run_next.local in
    let held : sent_value core.world.store.values sent ≡ at.sent = ap (sent_value core.world.store.values) (sym s) ∙ ap (λ (f : Touched). sent_value core.world.store.values (sent_id f)) is.is ∙ sent_same core.world.store.values name w.run_next.remote is.id w.run_next.instr w.run_next.local is.holds in
    let at_it : IsMessage at.touch at.sent message = is_message at.touch at.sent (sent_value core.world.store.values sent) message e held (silent_at (block_of name) w.run_next.remote w.run_next.instr w.run_next.local) in
    subst (λ (x : SessionTouch). IsMessage x (sent_by standing (run (block_of name))) message) (sym w.touched_so) (subst (λ (x : Option Evidence). IsMessage at.touch x message) (sym w.sent_so) at_it)

-- the message of an answer, if it is one
pub if_message : (answer : Result (Option (List ℕ)) NoMemory) (one : Option (List ℕ)) (P : Option (List ℕ) → Type 0) → IfOk answer (λ message. message ≡ one) → ((message : Option (List ℕ)) → message ≡ one → P message) → IfOk answer P
if_message (Ok message) one P e f = f message e
if_message (Err wanted) one P e f = tt

-- ---- a possible delivery

abbrev pub Delivers : Type 0
Delivers =
    (program : List CodeBlock) (from : Makings) (tables : Tables) (pass : ℕ) (place : List ℕ) → tables.state ≡ is_open → CanTake program from tables (played pass (deliver place)) ↔ (any_waits (tables.requests place) ≡ true)

abbrev pub Needs : Type 0
Needs =
    (standing : Standing) (tables : Tables) (place : List ℕ) (request : ℕ × Evidence) (rest : List (ℕ × Evidence)) → standing.state ≡ is_open → IsShown tables standing → tables.requests place ≡ request ∷ rest → (touch_of standing (deliver place) ≡ needs_request request.0) × (sent_by standing (deliver place) ≡ None)

first_needs : (list : List (ℕ × Evidence)) → any_waits list ≡ true → (request : ℕ × Evidence) × ((rest : List (ℕ × Evidence)) × (list ≡ request ∷ rest))
first_needs [] e = absurd (cc)
first_needs (request ∷ rest) e = (request, (rest, refl))

-- the number of the request that it needs
pub delivery_needs : (session : Session) (keys : List (List ℕ × List ℕ)) (places : List (List ℕ)) (standing : Standing) (core : Core) (place : List ℕ) → Listed → Delivers → Needs → IsCoreAt session keys places standing core → Contains (possible_moves places standing) (deliver place) → (number : ℕ) × ((first_number ((tables_in core).requests place) ≡ Some number) × (touch_of standing (deliver place) ≡ needs_request number))
delivery_needs session keys places standing core place listed delivers needs i h =
    let can = ((listed session keys (history_in core) standing (tables_in core) places 0 (deliver place) i.played.played).0 h).0 in
    let waits = (delivers (program_of session.phrase session.root) (makings session keys) (tables_in core) 0 place (open_tables session keys places standing core (deliver place) i h)).0 can in
    let w = first_needs ((tables_in core).requests place) waits in
    (w.0.0, (ap first_number w.1.1, (needs standing (tables_in core) place w.0 w.1.0 (open_where places standing standing.state (deliver place) h) i.played.played.shown w.1.1).0))

-- and its place is one of those given
pub delivery_place : (session : Session) (keys : List (List ℕ × List ℕ)) (places : List (List ℕ)) (standing : Standing) (core : Core) (place : List ℕ) → Listed → IsCoreAt session keys places standing core → Contains (possible_moves places standing) (deliver place) → Contains places place
delivery_place session keys places standing core place listed i h =
    ((listed session keys (history_in core) standing (tables_in core) places 0 (deliver place) i.played.played).0 h).1

-- the index of a place is below their number
pub place_within : (places : List (List ℕ)) (place : List ℕ) (index : ℕ) → IsPlace places place index → index < length places
place_within places place index at = slice_get_within places index place (place_at_index places place index at)
