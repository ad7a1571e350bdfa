use Rattle.std.proofs.Common.{sym, ◌∙◌, refl, subst}
use Rattle.std.specs.Prelude.{true, false}
use Rattle.session_core.specs.Core.{history_in}
use Rattle.session_core.specs.Reading.{HasStopped}
use Rattle.session_core.proofs.Facts.{open-word, standing-by}
use Rattle.session_core.proofs.ReadingFacts.{state_is}
use Rattle.session_core.proofs.PlayingFacts.{done_by, failed_by, starved_by, none_flies, is_taken, is_dropped}
use Rattle.session_core.proofs.steps.Core.record.Goals as goal

pub take-requires : goal.take-requires
take-requires c =
    let r = c.requires in
    let core = c.args.self.now in
    record {
      session = r.session;
      keys = r.keys;
      places = r.places;
      standing = r.standing;
      is = r.is;
      opened = standing-by r.session r.keys r.places r.standing core r.is (open-word core.book.ending (sym c.state.ensures ∙ c.in-Open.is));
      flies = r.flies;
    }

pub returns-in-Open-clause-ended : goal.returns-in-Open-clause-ended
returns-in-Open-clause-ended c session keys places standing i =
    let core = c.args.self.now in
    is_taken false standing.state refl (standing-by session keys places standing core i (open-word core.book.ending (sym c.state.ensures ∙ c.in-Open.is)))

pub unreachable-requires : goal.unreachable-requires
unreachable-requires c =
    let r = c.requires in
    let core = c.args.self.now in
    let done = done_by core.world.store.values core.book.ending (sym c.state.ensures ∙ c.in-Done.is) in
    let all = c.done_law.ensures r.session r.keys (history_in core) r.standing done.0 r.is.played.played.stands (sym (state_is r.session r.keys r.places r.standing core r.is) ∙ done.1) in
    none_flies r.standing.in_flight c.args.pass c.args.event all.in_flight r.flies

pub returns-in-Failed-clause-ended : goal.returns-in-Failed-clause-ended
returns-in-Failed-clause-ended c session keys places standing i =
    let core = c.args.self.now in
    is_dropped true standing.state refl (subst HasStopped (state_is session keys places standing core i) (failed_by core.world.store.values core.book.ending (sym c.state.ensures ∙ c.in-Failed.is)))

pub returns-in-Starved-clause-ended : goal.returns-in-Starved-clause-ended
returns-in-Starved-clause-ended c session keys places standing i =
    let core = c.args.self.now in
    is_dropped true standing.state refl (subst HasStopped (state_is session keys places standing core i) (starved_by core.world.store.values core.book.ending (sym c.state.ensures ∙ c.in-Starved.is)))
