-- Facts of a core: how it stands, and what a step leaves.
use Rattle.std.proofs.Common.{◌≡◌, ◌+◌, ◌*◌, ◌≤◌, ℕ, List, [], ◌∷◌, ◌++◌, Option, Some, length, refl, sym, ap, ◌∙◌, subst, arith}
use Rattle.std.proofs.lemmas.List.{length_push}
use Rattle.phrase_tree.specs.Numbering.{event_count}
use Rattle.evidence_types.specs.Evidence.{Evidence}
use Rattle.session_model.specs.Session.{Session, session_questions}
use Rattle.session_runs.specs.Standing.{Entry, State, is_open, is_done, has_failed, has_starved, where_open, entered, Standing, makings}
use Rattle.session_runs.specs.Progress.{CanCome}
use Rattle.avm_code.specs.declared.instr.BlockName.{BlockName}
use Rattle.avm_code.specs.declared.instr.BlockName.TheVariants.{Root, Of}
use Rattle.machine_tables.specs.Tables.{Tables, step_tables}
use Rattle.machine_world.specs.declared.world.World.{World}
use Rattle.machine_world.specs.Cells.{Book, block_of}
use Rattle.session_tables.specs.Played.{IsPlayed, IsPlayedOn}
use Rattle.session_tables.specs.Touched.{named}
use Rattle.session_agenda.specs.declared.agenda.Agenda.{Agenda}
use Rattle.session_agenda.specs.Kept.{IsKept}
use Rattle.session_agenda.specs.Placed.{Follows}
use Rattle.session_book.specs.declared.book.SessionBook.{SessionBook}
use Rattle.session_book.specs.declared.entry.Ending.{Ending}
use Rattle.session_book.specs.declared.entry.Ending.TheVariants as ending
use Rattle.session_book.specs.declared.entry.State.TheVariants as word
use Rattle.session_book.specs.Entries.{history_of}
use Rattle.session_book.specs.Kept.{state_of, word_of, book_of, in_flight_by, answers_of}
use Rattle.session_core.specs.declared.steps.Core.{Core}
use Rattle.session_core.specs.Core.{program_in, tables_at, tables_in, FollowsWhile, IsMadeFor, IsCoreAt}
use Rattle.session_core.specs.Steps.{IsLeft, HasTaken, CanNoteAll}

-- ---- names

pub named-is : (name : BlockName) → named name ≡ block_of name
named-is Root = refl
named-is (Of number) = refl

-- ---- states

open_where : (state : State) (next : Option Standing) (standing : Standing) → where_open state next ≡ Some standing → state ≡ is_open
open_where is_open next standing e = refl
open_where (is_done value) next standing e = cc
open_where (has_failed event fault) next standing e = cc
open_where (has_starved event) next standing e = cc

-- only an open session takes an entry
pub open-of : (session : Session) (keys : List (List ℕ × List ℕ)) (standing : Standing) (entry : Entry) → CanCome session keys standing entry → standing.state ≡ is_open
open-of session keys standing entry can =
    open_where standing.state (entered (makings session keys) session.root standing entry) can.then_stands can.possible

pub ending-open : (values : List Evidence) (e : Ending) → state_of values e ≡ is_open → e ≡ ending.Open
ending-open values ending.Open h = refl
ending-open values (ending.Done id) h = cc
ending-open values (ending.Failed event fault) h = cc
ending-open values (ending.Starved event) h = cc

pub open-word : (e : Ending) → word_of e ≡ word.Open → e ≡ ending.Open
open-word ending.Open h = refl
open-word (ending.Done id) h = cc
open-word (ending.Failed event fault) h = cc
open-word (ending.Starved event) h = cc

pub open-done : word.Done ≡ word.Open → ⊥
open-done e = cc

pub open-failed : word.Failed ≡ word.Open → ⊥
open-failed e = cc

pub open-starved : word.Starved ≡ word.Open → ⊥
open-starved e = cc

-- while a session is open, what its book is doesn't hang on the store
pub book-same : (values other : List Evidence) (book : SessionBook) → book.ending ≡ ending.Open → book_of values book ≡ book_of other book
book-same values other book e =
    ap (λ (s : State). let b : Book = record { in_flight = in_flight_by book.in_flight.entries; trace = book.trace.items; answers = answers_of book; state = s } in b) (ap (state_of values) e ∙ sym (ap (state_of other) e))

-- where it isn't open, nothing is asked of the agenda
pub closed-follows : (values : List Evidence) (e : Ending) (agenda : Agenda) (tables : Tables) (places : List (List ℕ)) → (word_of e ≡ word.Open → ⊥) → FollowsWhile (state_of values e) agenda tables places
closed-follows values ending.Open agenda tables places h = absurd (h refl)
closed-follows values (ending.Done id) agenda tables places h = tt
closed-follows values (ending.Failed event fault) agenda tables places h = tt
closed-follows values (ending.Starved event) agenda tables places h = tt

-- ---- a core

module _ (session : Session) (keys : List (List ℕ × List ℕ)) (places : List (List ℕ)) (standing : Standing) (core : Core) (c : IsCoreAt session keys places standing core) where
  pub tables-open : standing.state ≡ is_open → (tables_in core).state ≡ is_open
  tables-open opened = c.played.played.shown.state ∙ opened

  pub core-ending : standing.state ≡ is_open → core.book.ending ≡ ending.Open
  core-ending opened = ending-open core.world.store.values core.book.ending (tables-open opened)

  pub standing-by : core.book.ending ≡ ending.Open → standing.state ≡ is_open
  standing-by is = sym c.played.played.shown.state ∙ ap (state_of core.world.store.values) is

  pub follows-open : standing.state ≡ is_open → Follows core.agenda (tables_in core) places
  follows-open opened = subst (λ (s : State). FollowsWhile s core.agenda (tables_in core) places) opened c.follows

  pub takes : (entry : Entry) (world : World) (book : SessionBook) → step_tables (program_in session) (makings session keys) (tables_in core) entry ≡ Some (tables_at world book) → IsLeft keys entry core world book
      → IsPlayedOn session keys (history_of core.book) standing entry (tables_at world book)
      → HasTaken session keys places (tables_in core) entry world book
  takes entry world book taken left on = record {
    standing = on.then_stands;
    taken = taken;
    played = record {
      knows = left.knows;
      room = left.room;
      program = left.program ∙ c.played.program;
      names = left.places ∙ c.played.names;
      kept = left.keeps.kept;
      roomy = left.keeps.room (event_count session.phrase) (length (session_questions session)) c.played.roomy;
      played = subst (λ (h : List Entry). IsPlayed session keys h on.then_stands (tables_at world book)) (sym left.adds) on.played;
    };
  }

  pub has-room : (entry : Entry) (later : Tables) (flying : ℕ) → length (history_of core.book ++ entry ∷ []) ≤ 2 * event_count session.phrase + 2 → length later.trace + flying ≤ event_count session.phrase → length later.answers ≤ length (session_questions session)
      → CanNoteAll core.book later
  has-room entry later flying entries events answers = record {
    entries = let n = length_push (history_of core.book) entry in let r = c.played.roomy.entries in omega (arith, n, r, entries);
    trace = let r = c.played.roomy.trace in omega (arith, r, events);
    answers = let r = c.played.roomy.answers in omega (arith, r, answers);
  }

-- what stays from the opening on stays where the nonce and the agenda do
pub made-kept : (session : Session) (places : List (List ℕ)) (old new : Core) → new.nonce ≡ old.nonce → new.agenda ≡ old.agenda → IsMadeFor session places old → IsMadeFor session places new
made-kept session places old new nonce agenda m = record {
  nonce = nonce ∙ m.nonce;
  apart = m.apart;
  asks = m.asks;
  kept = subst IsKept (sym agenda) m.kept;
  blocks = ap (λ (a : Agenda). a.blocks.bound) agenda ∙ m.blocks;
  events = ap (λ (a : Agenda). a.events.bound) agenda ∙ m.events;
  deliveries = ap (λ (a : Agenda). a.places.bound) agenda ∙ m.deliveries;
}
