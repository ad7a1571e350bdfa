use Rattle.std.proofs.Common.{Some, refl, sym, ap, ◌∙◌, subst}
use Rattle.session_runs.specs.Standing.{State, failed, makings}
use Rattle.machine_world.specs.Cells.{Book, tables_of}
use Rattle.session_book.specs.Entries.{history_of}
use Rattle.session_core.specs.Core.{program_in, tables_at, tables_in, FollowsWhile}
use Rattle.session_core.proofs.Facts.{open-of, tables-open, made-kept}
use Rattle.session_core.proofs.steps.Core.fail.Goals as goal

pub fail-requires-clause-kept : goal.fail-requires-clause-kept
fail-requires-clause-kept c = c.requires.1.is.played.kept

pub fail-requires-clause-room : goal.fail-requires-clause-room
fail-requires-clause-room c =
    let core = c.args.self.now in
    let keys = c.requires.0 in
    let r = c.requires.1 in
    let entry = failed c.args.pass c.args.event c.args.fault in
    let can = (c.played_law.ensures.can r.session keys (history_of core.book) r.standing (tables_in core) entry r.is.played.played).0 r.possible in
    (c.room_law.ensures r.session keys r.places r.standing entry core can.later r.is tt can.taken).entries

pub returns-clause-core : goal.returns-clause-core
returns-clause-core c = λ keys session places at.
    let core = c.args.self.now in
    let r = c.requires.1 in
    let entry = failed c.args.pass c.args.event c.args.fault in
    let opened = open-of r.session c.requires.0 r.standing entry r.possible in
    let tables = tables-open r.session c.requires.0 r.places r.standing core r.is opened in
    let can = (c.played_law.ensures.can r.session c.requires.0 (history_of core.book) r.standing (tables_in core) entry r.is.played.played).0 r.possible in
    let asked = (c.results_law.ensures.fails (program_in r.session) (makings r.session c.requires.0) (tables_in core) c.args.pass c.args.event c.args.fault tables).0 can in
    let booked = c.fail.ensures.book core.world.store.values in
    let step = c.results_law.ensures.after_fault (program_in session) (makings session keys) (tables_in core) c.args.pass c.args.event c.args.fault tables asked ∙ ap (λ (b : Book). Some (tables_of core.world b)) (sym booked) in
    let is = at.1 in
    let taken = c.taking_law.ensures session keys places at.0 entry core core.world c.fail.new.self is tt step (record {
      knows = is.played.knows;
      room = is.played.room;
      program = refl;
      places = refl;
      adds = c.fail.ensures.history;
      keeps = c.fail.ensures.keeps;
    }) in (
      taken.standing,
      record {
        played = taken.played;
        made = made-kept session places core (record core { book = c.fail.new.self }) refl refl is.made;
        follows = subst (λ (s : State). FollowsWhile s core.agenda (tables_at core.world c.fail.new.self) places) (sym (ap (λ (b : Book). b.state) booked) ∙ taken.played.played.shown.state) tt;
      },
    )
