-- A block asks, or gets its answer: what the steps are to the tables, and what the agenda is to be told.
use Rattle.std.proofs.Common.{◌≡◌, ◌<◌, ◌≤◌, ℕ, Bool, true, List, [], ◌∷◌, Option, None, Some, if◌then◌else◌, length, refl, sym, ap, ◌∙◌, subst, arith}
use Rattle.std.proofs.lemmas.Bool.{eq-eqb}
use Rattle.bench_trait.specs.declared.ask.Ask.{Ask}
use Rattle.session_model.specs.Session.{Session}
use Rattle.session_runs.specs.Moves.{ask as ask_step}
use Rattle.session_runs.specs.Standing.{Block, ask, deliver, Entry, played, is_open, is_in_flight, Standing}
use Rattle.session_runs.specs.History.{standing_after}
use Rattle.avm_code.specs.declared.instr.BlockName.{BlockName}
use Rattle.avm_code.specs.declared.instr.BlockName.TheVariants.{Of}
use Rattle.avm_code.specs.declared.program.Block.{Block as CodeBlock}
use Rattle.avm_code.specs.Order.{place_called}
use Rattle.machine_tables.specs.Tables.{Tables, block_name, next_of, put_ask}
use Rattle.machine_tables.specs.Allowed.{MayAnswer}
use Rattle.machine_world.specs.declared.world.World.{World}
use Rattle.machine_world.specs.Cells.{Book, block_of, tables_of, opening_book}
use Rattle.machine_world.specs.Seen.{IsPlace}
use Rattle.machine_world.specs.Answers.{ask_at, ask_of, first_number}
use Rattle.session_tables.specs.Questions.{AsksNext}
use Rattle.session_tables.specs.Takes.{IsAskedBy}
use Rattle.session_tables.specs.Touched.{touched, any_waits}
use Rattle.session_agenda.specs.Told.{touched_place, TellsPlace}
use Rattle.session_core.specs.declared.steps.Core.{Core}
use Rattle.session_core.specs.Core.{program_in, history_in, tables_in, IsMadeFor, IsCoreAt}
use Rattle.session_core.specs.Steps.{HasTaken, IsBehind, told_names}
use Rattle.session_core.proofs.Facts.{named-is}
use Rattle.session_core.proofs.Going.{late-from, index_get}
use Rattle.session_core.proofs.Asking.{Finds, finds, asks-event}
use Rattle.session_core.proofs.Results.{first-told}

pub record Asking (session : Session) (core : Core) (name : BlockName) : Type 0 where
  pub event : ℕ
  pub next : next_of (tables_in core) (block_of name) ≡ Some (ask_step, Some event)
  pub finds : Finds session event (ask_of core.world.program core.nonce (tables_of core.world opening_book) (block_of name))

put_self : (n : ℕ) (asked : Option (ℕ × Block)) (before : ℕ → Option (ℕ × Block)) → put_ask n asked before n ≡ asked
put_self n asked before = ap (λ (b : Bool). if b then asked else before n) (eq-eqb n n refl)

some_standing : (a b : Standing) → (let o : Option Standing = Some a in o) ≡ Some b → a ≡ b
some_standing a b e = cc

module _ (session : Session) (keys : List (List ℕ × List ℕ)) (places : List (List ℕ)) (standing : Standing) (core : Core) (c : IsCoreAt session keys places standing core) (opened : standing.state ≡ is_open) where
  -- what is found for the event of the block's step is the session's own question
  pub own-question : (name : BlockName) (event : ℕ) → next_of (tables_in core) (block_of name) ≡ Some (ask_step, Some event)
      → ((event : ℕ) → next_of (tables_in core) (block_of name) ≡ Some (ask_step, Some event) → AsksNext session (place_called (program_in session) (block_name (block_of name))) event ((tables_in core).blocks (block_of name)))
      → Finds session event (ask_of core.world.program core.nonce (tables_of core.world opening_book) (block_of name))
  own-question name event next own =
      subst (λ (p : List CodeBlock). Finds session event (ask_at core.nonce (place_called p (block_name (block_of name))) ((tables_in core).blocks (block_of name)))) (sym c.played.program)
      (finds session core.nonce (place_called (program_in session) (block_name (block_of name))) event ((tables_in core).blocks (block_of name)) c.made.nonce (own event next))

  pub asking : (name : BlockName) → (event : Option ℕ) × (next_of (tables_in core) (block_of name) ≡ Some (ask_step, event))
      → ((event : ℕ) → next_of (tables_in core) (block_of name) ≡ Some (ask_step, Some event) → AsksNext session (place_called (program_in session) (block_name (block_of name))) event ((tables_in core).blocks (block_of name)))
      → Asking session core name
  asking name next own =
      let one = asks-event (tables_in core) (block_of name) next.0 next.1 in
      record {
        event = one.0;
        next = one.1;
        finds = own-question name one.0 one.1 own;
      }

  pub behind-quiet : (entry : Entry) (first : BlockName) (new : Core) → HasTaken session keys places (tables_in core) entry new.world new.book → IsMadeFor session places new → new.agenda ≡ core.agenda
      → touched (program_in session) (tables_in core) entry ≡ told_names first None → touched_place (tables_in core) entry ≡ None
      → IsBehind session keys places first None None new
  behind-quiet entry first new taken made same names none =
      let late = late-from session keys places standing core c opened entry new taken made same in
      record {
        standing = late.0;
        before = tables_in core;
        entry = entry;
        late = late.1;
        names = names;
        where_waits = subst (λ (p : Option (List ℕ)). TellsPlace places (tables_in new) p None) (sym none) tt;
      }

  pub behind-ask : (pass : ℕ) (name : BlockName) (new : Core) → HasTaken session keys places (tables_in core) (played pass (ask (block_of name))) new.world new.book → IsMadeFor session places new → new.agenda ≡ core.agenda
      → IsBehind session keys places name None None new
  behind-ask pass name new taken made same =
      behind-quiet (played pass (ask (block_of name))) name new taken made same (ap (λ (n : Block). let l : List Block = n ∷ [] in l) (sym (named-is name))) refl

  pub behind-delivery : (pass : ℕ) (place : List ℕ) (number index : ℕ) (waits : Bool) (new : Core) → HasTaken session keys places (tables_in core) (played pass (deliver place)) new.world new.book → IsMadeFor session places new → new.agenda ≡ core.agenda
      → first_number ((tables_in core).requests place) ≡ Some number → IsPlace core.world.places.items place index → waits ≡ any_waits ((tables_in new).requests place)
      → IsBehind session keys places (Of number) None (Some (record { place = index; waits = waits })) new
  behind-delivery pass place number index waits new taken made same first at now =
      let late = late-from session keys places standing core c opened (played pass (deliver place)) new taken made same in
      record {
        standing = late.0;
        before = tables_in core;
        entry = played pass (deliver place);
        late = late.1;
        names = first-told ((tables_in core).requests place) number first;
        where_waits = (index_get places place index (subst (λ (p : List (List ℕ)). IsPlace p place index) c.played.names at), now);
      }

  pub asked-now : (pass event : ℕ) (name : BlockName) (asked : Ask) (history : List Entry) (after : Standing) (later : Tables) → later.in_flight ≡ put_ask asked.event (Some (pass, block_of name)) (tables_in core).in_flight
      → standing_after session keys history ≡ Some after
      → (IsAskedBy pass (later.in_flight asked.event) → is_in_flight after.in_flight pass asked.event ≡ true)
      → (other : Standing) → standing_after session keys history ≡ Some other → is_in_flight other.in_flight pass asked.event ≡ true
  asked-now pass event name asked history after later flies stands law other is =
      subst (λ (s : Standing). is_in_flight s.in_flight pass asked.event ≡ true) (some_standing after other (sym stands ∙ is))
      (law (record { name = block_of name; there = ap (λ (f : ℕ → Option (ℕ × Block)). f asked.event) flies ∙ put_self asked.event (Some (pass, block_of name)) (tables_in core).in_flight }))

none-asked : (pass : ℕ) (asked : Option (ℕ × Block)) → asked ≡ None → IsAskedBy pass asked → ⊥
none-asked pass asked none by = none_some (sym none ∙ by.there)
  where
    none_some : (let o : Option (ℕ × Block) = None in o) ≡ Some (pass, by.name) → ⊥
    none_some e = cc

-- an event that isn't in flight in the tables isn't after the history
pub was-free : (session : Session) (keys : List (List ℕ × List ℕ)) (places : List (List ℕ)) (standing : Standing) (core : Core) → IsCoreAt session keys places standing core → (pass event : ℕ) (before : Standing) → standing_after session keys (history_in core) ≡ Some before
    → (tables_in core).in_flight event ≡ None
    → (is_in_flight standing.in_flight pass event ≡ true → IsAskedBy pass ((tables_in core).in_flight event))
    → is_in_flight before.in_flight pass event ≡ true → ⊥
was-free session keys places standing core c pass event before stood free law flies =
    none-asked pass ((tables_in core).in_flight event) free (law (subst (λ (s : Standing). is_in_flight s.in_flight pass event ≡ true) (some_standing before standing (sym stood ∙ c.played.played.stands)) flies))

-- one answer more than before
pub less_room : (answers : List (ℕ × List ℕ)) (answer : ℕ × List ℕ) (room : ℕ) (later : List (ℕ × List ℕ)) → answer ∷ answers ≡ later → length later ≤ room → length answers < room
less_room answers answer room later is fits = let m = ap length is in omega (arith, m, fits)

-- what a block may get an answer for doesn't hang on the book
pub may-answer : (world : World) (one other : Book) (event : ℕ) (bytes : List ℕ) (name : Block) → MayAnswer (tables_of world one) event bytes name → MayAnswer (tables_of world other) event bytes name
may-answer world one other event bytes name m = record {
  for_request = m.for_request;
  local = m.local;
  instr = m.instr;
  rest = m.rest;
  runs = m.runs;
  next = m.next;
  measures = m.measures;
  fits = m.fits;
}
