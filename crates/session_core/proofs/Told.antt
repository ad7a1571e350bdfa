-- How an agenda comes to follow the tables again.
use Rattle.std.proofs.Common.{◌≡◌, ◌+◌, ◌<◌, ℕ, List, [], ◌∷◌, Option, None, Some, IfSome, length, refl, sym, ap, ◌∙◌, subst, arith}
use Rattle.std.specs.List.{AllByRecursion}
use Rattle.std.proofs.lemmas.Option.{slice_get_within}
use Rattle.evidence_types.specs.Evidence.{nonce}
use Rattle.session_model.specs.Session.{Session}
use Rattle.session_runs.specs.Moves.{Step, run, ask}
use Rattle.session_runs.specs.Standing.{Block, of, State, is_open, opening}
use Rattle.avm_code.specs.declared.instr.BlockName.{BlockName}
use Rattle.avm_code.specs.declared.instr.BlockName.TheVariants.{Root, Of}
use Rattle.machine_tables.specs.Tables.{Tables, Next, opening_tables}
use Rattle.session_tables.specs.Touched.{named}
use Rattle.session_agenda.specs.declared.agenda.Agenda.{Agenda}
use Rattle.session_agenda.specs.declared.moves.Task.{Task}
use Rattle.session_agenda.specs.declared.moves.Task.TheVariants.{Runs, Asks}
use Rattle.session_agenda.specs.declared.moves.Update.{Update}
use Rattle.session_agenda.specs.declared.moves.PlaceUpdate.{PlaceUpdate}
use Rattle.session_agenda.specs.Kept.{IsKept, IsBelow, HasRoomFor, SameBounds, rank_by, next_of_task}
use Rattle.session_agenda.specs.Placed.{Follows}
use Rattle.session_agenda.specs.Told.{TellsPlace}
use Rattle.session_agenda.specs.Updated.{Says, HasRoomToMark}
use Rattle.session_book.specs.declared.entry.Ending.TheVariants as ending
use Rattle.session_book.specs.declared.entry.State.TheVariants as word
use Rattle.session_book.specs.Kept.{state_of, word_of}
use Rattle.session_core.specs.declared.steps.Core.{Core}
use Rattle.session_core.specs.Core.{program_in, tables_in, FollowsWhile, IsCore}
use Rattle.session_core.specs.Steps.{IsOpened, IsBehind}
use Rattle.session_core.proofs.Facts.{closed-follows}

-- ---- room

rank_below : (e bound : ℕ) (name : BlockName) → bound ≡ e + 1 → ((number : ℕ) → named name ≡ of number → number < e) → rank_by name < bound
rank_below e bound Root is below = omega (arith, is)
rank_below e bound (Of number) is below = let h = below number refl in omega (arith, is, h)

event_below : (e bound : ℕ) (event : Option ℕ) → bound ≡ e → ((n : ℕ) → event ≡ Some n → n < e) → IsBelow bound event
event_below e bound None is below = tt
event_below e bound (Some n) is below = let h = below n refl in omega (arith, is, h)

module _ (e : ℕ) (agenda : Agenda) (next : Block → Next) (blocks : agenda.blocks.bound ≡ e + 1) (events : agenda.events.bound ≡ e) (numbers : (number : ℕ) (step : Step) (event : Option ℕ) → next (of number) ≡ Some (step, event) → number < e) (below : (block : Block) (step : Step) (event : ℕ) → next block ≡ Some (step, Some event) → event < e) where
  room_task : (name : BlockName) (task : Option Task) → next (named name) ≡ next_of_task task → IfSome task (HasRoomFor agenda name)
  room_task name None says = tt
  room_task name (Some (Runs event)) says = record {
    rank = rank_below e agenda.blocks.bound name blocks (λ number is. numbers number run event (subst (λ (b : Block). next b ≡ Some (run, event)) is says));
    event = event_below e agenda.events.bound event events (λ n is. below (named name) run n (says ∙ ap (λ (o : Option ℕ). Some (run, o)) is));
  }
  room_task name (Some (Asks event)) says = record {
    rank = rank_below e agenda.blocks.bound name blocks (λ number is. numbers number ask (Some event) (subst (λ (b : Block). next b ≡ Some (ask, Some event)) is says));
    event = let h = below (named name) ask event says in omega (arith, events, h);
  }

  pub room_all : (updates : List Update) → AllByRecursion (Says next) updates → AllByRecursion (HasRoomToMark agenda) updates
  room_all [] says = tt
  room_all (update ∷ rest) says = (room_task update.name update.task says.0, room_all rest says.1)

pub place_below : (places : List (List ℕ)) (tables : Tables) (touched : Option (List ℕ)) (place : Option PlaceUpdate) (bound : ℕ) → bound ≡ length places → TellsPlace places tables touched place → IfSome place (λ update. update.place < bound)
place_below places tables None None bound is tells = tt
place_below places tables None (Some update) bound is tells = elim tells [ ]
place_below places tables (Some at) None bound is tells = elim tells [ ]
place_below places tables (Some at) (Some update) bound is tells =
    let h = slice_get_within places update.place at tells.0 in omega (arith, is, h)

-- ---- the core after it was told

module _ (session : Session) (keys : List (List ℕ × List ℕ)) (places : List (List ℕ)) (first : BlockName) (second : Option BlockName) (place : Option PlaceUpdate) (core : Core) (b : IsBehind session keys places first second place core) where
  -- how the session stands is what the book says
  stands_by : state_of core.world.store.values core.book.ending ≡ b.standing.state
  stands_by = b.late.played.played.shown.state

  pub standing-open : core.book.ending ≡ ending.Open → b.standing.state ≡ is_open
  standing-open is = sym stands_by ∙ ap (state_of core.world.store.values) is

  pub new-open : core.book.ending ≡ ending.Open → (tables_in core).state ≡ is_open
  new-open is = ap (state_of core.world.store.values) is

  pub told-core : (after : Agenda) → core.book.ending ≡ ending.Open → Follows after (tables_in core) places → IsKept after → SameBounds core.agenda after
      → IsCore session keys places (record core { agenda = after })
  told-core after is follows kept bounds = (
    b.standing,
    record {
      played = b.late.played;
      made = record {
        nonce = b.late.made.nonce;
        apart = b.late.made.apart;
        asks = b.late.made.asks;
        kept = kept;
        blocks = bounds.blocks ∙ b.late.made.blocks;
        events = bounds.events ∙ b.late.made.events;
        deliveries = bounds.places ∙ b.late.made.deliveries;
      };
      follows = subst (λ (s : State). FollowsWhile s after (tables_in core) places) (sym (standing-open is)) follows;
    },
  )

  pub closed-core : (word_of core.book.ending ≡ word.Open → ⊥) → IsCore session keys places core
  closed-core closed = (
    b.standing,
    record {
      played = b.late.played;
      made = b.late.made;
      follows = subst (λ (s : State). FollowsWhile s core.agenda (tables_in core) places) stands_by (closed-follows core.world.store.values core.book.ending core.agenda (tables_in core) places closed);
    },
  )

-- a core just opened, whose agenda was told of the root
pub opened-told : (session : Session) (keys : List (List ℕ × List ℕ)) (places : List (List ℕ)) (core : Core) (o : IsOpened session keys places core) (after : Agenda) → Follows after (opening_tables (program_in session) (nonce session.nonce)) places → IsKept after → SameBounds core.agenda after
    → IsCore session keys places (record core { agenda = after })
opened-told session keys places core o after follows kept bounds = (
  opening session,
  record {
    played = o.played;
    made = record {
      nonce = o.made.nonce;
      apart = o.made.apart;
      asks = o.made.asks;
      kept = kept;
      blocks = bounds.blocks ∙ o.made.blocks;
      events = bounds.events ∙ o.made.events;
      deliveries = bounds.places ∙ o.made.deliveries;
    };
    follows = subst (λ (t : Tables). Follows after t places) (sym o.opens) follows;
  },
)
