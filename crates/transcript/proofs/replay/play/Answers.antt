use Rattle.std.proofs.Common.{refl, sym, subst}
use Rattle.session_runs.specs.Standing.{played}
use Rattle.session_book.specs.declared.entry.Entry.TheVariants as entry
use Rattle.session_book.specs.Entries.{move_of}
use Rattle.session_core.specs.Session.{with_entry, session_in, keys_in, places_in, history, StandsAt}
use Rattle.transcript.specs.Audit.{Takes}
use Rattle.transcript.proofs.ReplayLemmas.{not_listed, room_for, takes_move}
use Rattle.transcript.proofs.replay.play.Goals as goal

pub keep-requires : goal.keep-requires
keep-requires g c =
    let old = c.args.session.now in
    let one = entry.Played c.args.pass c.args.step in
    let s = c.legal.ensures in
    let t = c.legal-in-Ok.ensures in
    room_for (session_in old.opening) (keys_in old.opening) (history (with_entry one old)) s.0 t.0 c.args.pass c.args.step c.args.flights.now.items c.in-Ok.played
    c.requires.mirrors.size
    (subst (λ seen. StandsAt seen t.0) c.in-Ok.ensures.ok t.1.stands)
    (c.in-Ok.ensures.tells s.0 t.0 s.1.stands t.1.stands)

pub returns-in-Ok : goal.returns-in-Ok
returns-in-Ok g c =
    let old = c.args.session.now in
    let one = entry.Played c.args.pass c.args.step in
    let s = c.legal.ensures in
    let t = c.legal-in-Ok.ensures in
    subst (λ seen. Takes (played c.args.pass (move_of c.args.step)) c.keep.new.flights.items old seen) (sym c.in-Ok.ensures.ok)
    (takes_move old c.args.pass c.args.flights.now.items c.requires.mirrors s.0 s.1.stands c.args.step c.in-Ok.played c.keep.new.flights.items
    (λ block later onward. c.ask_law.ensures (session_in old.opening) (keys_in old.opening) (history old) s.0 c.args.pass block later s.1.stands onward)
    (λ later stands. c.in-Ok.ensures.tells s.0 later s.1.stands (subst (λ seen. StandsAt seen later) (sym c.in-Ok.ensures.ok) stands))
    (room_for (session_in old.opening) (keys_in old.opening) (history (with_entry one old)) s.0 t.0 c.args.pass c.args.step c.args.flights.now.items c.in-Ok.played
    c.requires.mirrors.size
    (subst (λ seen. StandsAt seen t.0) c.in-Ok.ensures.ok t.1.stands)
    (c.in-Ok.ensures.tells s.0 t.0 s.1.stands t.1.stands))
    c.keep.ensures)

pub returns-in-Err : goal.returns-in-Err
returns-in-Err g c = λ standing stands.
    let old = c.args.session.now in
    not_listed (session_in old.opening) (keys_in old.opening) (places_in old.opening) (history old) standing c.args.pass (move_of c.args.step)
    c.requires.over.only stands
    (c.listing_law.ensures.listed (session_in old.opening) (keys_in old.opening) (places_in old.opening) (history old) standing c.args.pass (move_of c.args.step) stands)
    ((c.in-Err.ensures.refused standing stands).0 refl)
