use Rattle.std.proofs.Common.{List, ◌∷◌, refl, sym, ◌∙◌, ap, subst, arith}
use Rattle.phrase_tree.specs.Numbering.{event_count}
use Rattle.place_check.specs.declared.entry.PlaceEntry.{PlaceEntry}
use Rattle.session_core.specs.Session.{session_in}
use Rattle.session_walk.specs.Sessions.{walked_in}
use Rattle.session_walk.specs.Turns.{IsTurnOf}
use Rattle.session_walk.proofs.TurnLemmas.{runs_fed, runs_open, entry_count}
use Rattle.session_walk.proofs.turns.play_to_the_end.Goals as goal

pub loop-session-init : goal.loop-session-init
loop-session-init g c = (refl, λ fed those over more turn. turn)

pub go_on_first-requires-clause-over : goal.go_on_first-requires-clause-over
go_on_first-requires-clause-over g c =
    let same = c.loop-session.invariant.0 in
    record { book = ap (λ o. o.artefacts.now) same ∙ c.requires.over.book; measurer = ap (λ o. o.bench.now) same ∙ c.requires.over.measurer }

pub go_on_first-requires-clause-still : goal.go_on_first-requires-clause-still
go_on_first-requires-clause-still g c =
    runs_open (walked_in c.loop-session.session).standing.state (sym c.is_going.ensures ∙ c.loop-session-test.true)

pub go_on_first-requires-clause-turn : goal.go_on_first-requires-clause-turn
go_on_first-requires-clause-turn g c =
    let book = c.args.artefacts.now in
    let bench = c.args.bench.now in
    let t = c.requires.turn in
    let session = c.loop-session.session in
    let inv = c.loop-session.invariant in
    let fed = runs_fed (walked_in session).standing.state (sym c.is_going.ensures ∙ c.loop-session-test.true) in (
      t.0,
      t.1,
      t.2,
      subst (λ (p : List PlaceEntry). IsTurnOf (g.B.Bench.gives bench book) (g.B.Bench.fails bench book) (g.B.Bench.starves bench book) p t.0 t.1 (walked_in session ∷ t.2)) (sym (ap (λ o. o.places.now) inv.0)) (inv.1 fed t.0 t.1 t.2 t.3),
    )

pub loop-session-preserved : goal.loop-session-preserved
loop-session-preserved g c =
    let book = c.args.artefacts.now in
    let bench = c.args.bench.now in
    let session = c.loop-session.session in
    let new = c.go_on_first.new.session in
    let inv = c.loop-session.invariant in
    let same = ap (λ o. o.places.now) inv.0 in
    let was_fed = runs_fed (walked_in session).standing.state (sym c.is_going.ensures ∙ c.loop-session-test.true) in (
      c.go_on_first.ensures.opening ∙ inv.0,
      λ fed those over more turn.
          subst (λ (p : List PlaceEntry). IsTurnOf (g.B.Bench.gives bench book) (g.B.Bench.fails bench book) (g.B.Bench.starves bench book) p those over (walked_in new ∷ more)) same
          (c.go_on_first.ensures.turn fed those over more
          (subst (λ (p : List PlaceEntry). IsTurnOf (g.B.Bench.gives bench book) (g.B.Bench.fails bench book) (g.B.Bench.starves bench book) p those over (walked_in session ∷ more)) (sym same) (inv.1 was_fed those over more turn))),
    )

pub loop-session-smaller : goal.loop-session-smaller
loop-session-smaller g c =
    let few = c.has_few_entries.ensures.few in
    let as_long = ap (λ o. event_count (session_in o).phrase) c.go_on_first.ensures.opening in
    omega (arith, few, as_long, c.go_on_first.ensures.grows, entry_count c.go_on_first.new.session)

pub returns-clause-ended : goal.returns-clause-ended
returns-clause-ended g c = sym c.is_going.ensures ∙ c.loop-session-test.false

pub returns-clause-fed : goal.returns-clause-fed
returns-clause-fed g c = sym c.is_starved.ensures ∙ c.if-is_starved.false

pub returns-clause-turn : goal.returns-clause-turn
returns-clause-turn g c = c.loop-session.invariant.1 (sym c.is_starved.ensures ∙ c.if-is_starved.false)
