use Rattle.std.proofs.Common.{Some, refl, sym, ap, ◌∙◌, subst}
use Rattle.session_runs.specs.Standing.{State, starved, makings}
use Rattle.machine_world.specs.Cells.{Book, tables_of}
use Rattle.session_book.specs.Entries.{history_of}
use Rattle.session_core.specs.Core.{program_in, tables_at, tables_in, FollowsWhile}
use Rattle.session_core.proofs.Facts.{open-of, tables-open, made-kept}
use Rattle.session_core.proofs.steps.Core.starve.Goals as goal

pub starve-requires-clause-kept : goal.starve-requires-clause-kept
starve-requires-clause-kept c = c.requires.1.is.played.kept

pub starve-requires-clause-room : goal.starve-requires-clause-room
starve-requires-clause-room c =
    let core = c.args.self.now in
    let keys = c.requires.0 in
    let r = c.requires.1 in
    let entry = starved c.args.pass c.args.event in
    let can = (c.played_law.ensures.can r.session keys (history_of core.book) r.standing (tables_in core) entry r.is.played.played).0 r.possible in
    (c.room_law.ensures r.session keys r.places r.standing entry core can.later r.is tt can.taken).entries

pub returns-clause-core : goal.returns-clause-core
returns-clause-core c = λ keys session places at.
    let core = c.args.self.now in
    let r = c.requires.1 in
    let entry = starved c.args.pass c.args.event in
    let opened = open-of r.session c.requires.0 r.standing entry r.possible in
    let tables = tables-open r.session c.requires.0 r.places r.standing core r.is opened in
    let can = (c.played_law.ensures.can r.session c.requires.0 (history_of core.book) r.standing (tables_in core) entry r.is.played.played).0 r.possible in
    let asked = (c.results_law.ensures.starves (program_in r.session) (makings r.session c.requires.0) (tables_in core) c.args.pass c.args.event tables).0 can in
    let booked = c.starve.ensures.book core.world.store.values in
    let step = c.results_law.ensures.after_want (program_in session) (makings session keys) (tables_in core) c.args.pass c.args.event tables asked ∙ ap (λ (b : Book). Some (tables_of core.world b)) (sym booked) in
    let is = at.1 in
    let taken = c.taking_law.ensures session keys places at.0 entry core core.world c.starve.new.self is tt step (record {
      knows = is.played.knows;
      room = is.played.room;
      program = refl;
      places = refl;
      adds = c.starve.ensures.history;
      keeps = c.starve.ensures.keeps;
    }) in (
      taken.standing,
      record {
        played = taken.played;
        made = made-kept session places core (record core { book = c.starve.new.self }) refl refl is.made;
        follows = subst (λ (s : State). FollowsWhile s core.agenda (tables_at core.world c.starve.new.self) places) (sym (ap (λ (b : Book). b.state) booked) ∙ taken.played.played.shown.state) tt;
      },
    )
