use Rattle.std.proofs.Common.{ℕ, List, Some, refl, sym, ap, ◌∙◌, subst}
use Rattle.std.specs.Prelude.{is_some}
use Rattle.std.specs.Option.{option_map}
use Rattle.session_runs.specs.Standing.{deliver, played, makings}
use Rattle.machine_world.specs.Seen.{IsPlace}
use Rattle.machine_world.specs.Cells.{Book, tables_of, makings_of}
use Rattle.session_book.specs.Entries.{history_of}
use Rattle.session_book.specs.Kept.{book_of, state_of}
use Rattle.session_core.specs.declared.steps.Core.{Core}
use Rattle.session_core.specs.Core.{program_in, tables_in}
use Rattle.session_core.proofs.Facts.{open-of, core-ending, standing-by, tables-open, made-kept}
use Rattle.session_core.proofs.Going.{seen-as, index-below}
use Rattle.session_core.proofs.Results.{none-waits, waits-told}
use Rattle.session_core.proofs.Lifting.{behind-delivery}
use Rattle.session_core.proofs.steps.Core.hand_over.Goals as goal

pub deliver-requires-clause-world : goal.deliver-requires-clause-world
deliver-requires-clause-world c = (c.requires.can.0, c.requires.can.1.is.played.knows)

pub deliver-requires-clause-room : goal.deliver-requires-clause-room
deliver-requires-clause-room c = c.requires.can.1.is.played.room

pub deliver-requires-clause-may_deliver : goal.deliver-requires-clause-may_deliver
deliver-requires-clause-may_deliver c =
    let core = c.args.self.now in
    let r = c.requires.can.1 in
    (c.args.place, c.requires.place, c.allowed_law.ensures.delivers r.session c.requires.can.0 (history_of core.book) r.standing (tables_in core) c.args.place r.is.played.played)

pub unreachable-requires : goal.unreachable-requires
unreachable-requires c =
    let core = c.args.self.now in
    let keys = c.requires.can.0 in
    let r = c.requires.can.1 in
    let entry = played c.args.pass (deliver c.args.place) in
    let opened = open-of r.session keys r.standing entry r.possible in
    let tables = tables-open r.session keys r.places r.standing core r.is opened in
    let can = (c.played_law.ensures.can r.session keys (history_of core.book) r.standing (tables_in core) entry r.is.played.played).0 r.possible in
    none-waits ((tables_in core).requests c.args.place)
    (sym (c.deliver.ensures.number c.args.place c.requires.place) ∙ c.in-None.is)
    ((c.steps_law.ensures.delivers (program_in r.session) (makings r.session keys) (tables_in core) c.args.pass c.args.place tables).0 can)

pub deliver-requires-in-Some-clause-kept : goal.deliver-requires-in-Some-clause-kept
deliver-requires-in-Some-clause-kept c = c.requires.can.1.is.played.kept

pub deliver-requires-in-Some-clause-room : goal.deliver-requires-in-Some-clause-room
deliver-requires-in-Some-clause-room c =
    let core = c.args.self.now in
    let keys = c.requires.can.0 in
    let r = c.requires.can.1 in
    let entry = played c.args.pass (deliver c.args.place) in
    let can = (c.played_law.ensures.can r.session keys (history_of core.book) r.standing (tables_in core) entry r.is.played.played).0 r.possible in
    (c.room_law.ensures r.session keys r.places r.standing entry core can.later r.is tt can.taken).entries

pub front-requires-clause-world : goal.front-requires-clause-world
front-requires-clause-world c = (c.requires.can.0, c.deliver.ensures.world c.requires.can.0 c.requires.can.1.is.played.knows)

pub front-requires-clause-place : goal.front-requires-clause-place
front-requires-clause-place c =
    index-below c.deliver.new.self.places.items c.args.place c.args.index
    (subst (λ (p : List (List ℕ)). IsPlace p c.args.place c.args.index) (sym (ap (λ p. p.items) c.deliver.ensures.places)) c.requires.place)

pub returns-clause-behind : goal.returns-clause-behind
returns-clause-behind c = λ session keys places at.
    let core = c.args.self.now in
    let r = c.requires.can.1 in
    let place = c.args.place in
    let entry = played c.args.pass (deliver place) in
    let ending = core-ending r.session c.requires.can.0 r.places r.standing core r.is (open-of r.session c.requires.can.0 r.standing entry r.possible) in
    let is = at.1 in
    let opened = standing-by session keys places at.0 core is ending in
    let world = c.deliver.new.self in
    let values = world.store.values in
    let book = book_of values core.book in
    let new : Core = record { world = world; agenda = core.agenda; book = c.deliver-in-Some.new.self; nonce = core.nonce } in
    let names = ap (λ p. p.items) c.deliver.ensures.places in
    let there = subst (λ (p : List (List ℕ)). IsPlace p place c.args.index) (sym names) c.requires.place in
    let step = seen-as session keys places at.0 core is opened values entry (option_map (λ number. tables_of world book) c.deliver.result)
    (c.deliver.ensures.delivers book (makings_of keys core.nonce) c.args.pass place (ap (state_of values) ending) c.requires.place)
    ∙ ap (option_map (λ number. tables_of world book)) c.in-Some.is
    ∙ ap (λ (b : Book). Some (tables_of world b)) (sym (c.deliver-in-Some.ensures.book values)) in
    let taken = c.taking_law.ensures session keys places at.0 entry core world c.deliver-in-Some.new.self is tt step (record {
      knows = c.deliver.ensures.world keys is.played.knows;
      room = c.deliver.ensures.room;
      program = c.deliver.ensures.program;
      places = names;
      adds = c.deliver-in-Some.ensures.history;
      keeps = c.deliver-in-Some.ensures.keeps;
    }) in
    behind-delivery session keys places at.0 core is opened c.args.pass place c.in-Some.number c.args.index c.is_some.result new taken (made-kept session places core new refl refl is.made) refl
    (sym (c.deliver.ensures.number place c.requires.place) ∙ c.in-Some.is) c.requires.place
    (c.is_some.ensures ∙ ap is_some (c.front.ensures place there) ∙ waits-told ((tables_in new).requests place))
