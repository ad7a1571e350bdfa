use Rattle.std.proofs.Common.{◌≡◌, ◌∙◌, sym, subst, refl, length, get_or, arith}
use Rattle.std.specs.Prelude.{Some, slice_get, slice_set}
use Rattle.std.proofs.lemmas.Option.{slice_get_read}
use Rattle.session_desk.specs.Opening.{AreSeatedFrom}
use Rattle.session_desk.proofs.OpeningFacts.{begins_whole, begins_less, seat_there, pass_there, within, dealt, none_dealt}
use Rattle.session_desk.proofs.opening.deal.Goals as goal

pub loop-seat-init : goal.loop-seat-init
loop-seat-init g c = (begins_whole c.args.seats.items, none_dealt c.args.passes.now.items c.args.seats.items c.requires.count)

pub index_mut-pass-requires : goal.index_mut-pass-requires
index_mut-pass-requires g c =
    let kept = c.loop-seat.invariant in
    let inside = within c.args.passes.now.items c.args.seats.items c.loop-seat.seats.items c.pop.new.self.items c.in-Some.seat kept.0 c.in-Some.ensures.items c.loop-seat.passes.items kept.1 c.requires.count in
    omega (arith, inside, c.len-at.ensures, c.pop.new.self.ok.0, c.loop-seat.passes.ok.0)

pub sit-requires : goal.sit-requires
sit-requires g c =
    let kept = c.loop-seat.invariant in
    let inside = within c.args.passes.now.items c.args.seats.items c.loop-seat.seats.items c.pop.new.self.items c.in-Some.seat kept.0 c.in-Some.ensures.items c.loop-seat.passes.items kept.1 c.requires.count in
    let at = c.len-at.ensures ∙ c.pop.new.self.ok.0 in
    let here = slice_get_read c.loop-seat.passes.items (length c.loop-seat.passes.items) (length c.pop.new.self.items) c.index_mut-pass.result.now refl inside (subst (λ n. c.index_mut-pass.result.now ≡ get_or c.loop-seat.passes.items n c.index_mut-pass.result.now) at c.index_mut-pass.ensures.value) in
    c.requires.seats (length c.pop.new.self.items) c.index_mut-pass.result.now c.in-Some.seat
    (pass_there c.args.passes.now.items c.args.seats.items c.loop-seat.seats.items c.pop.new.self.items c.in-Some.seat kept.0 c.in-Some.ensures.items c.loop-seat.passes.items kept.1 c.index_mut-pass.result.now here)
    (seat_there c.args.passes.now.items c.args.seats.items c.loop-seat.seats.items c.pop.new.self.items c.in-Some.seat kept.0 c.in-Some.ensures.items)

pub loop-seat-preserved : goal.loop-seat-preserved
loop-seat-preserved g c =
    let kept = c.loop-seat.invariant in
    let inside = within c.args.passes.now.items c.args.seats.items c.loop-seat.seats.items c.pop.new.self.items c.in-Some.seat kept.0 c.in-Some.ensures.items c.loop-seat.passes.items kept.1 c.requires.count in
    let at = c.len-at.ensures ∙ c.pop.new.self.ok.0 in
    let here = slice_get_read c.loop-seat.passes.items (length c.loop-seat.passes.items) (length c.pop.new.self.items) c.index_mut-pass.result.now refl inside (subst (λ n. c.index_mut-pass.result.now ≡ get_or c.loop-seat.passes.items n c.index_mut-pass.result.now) at c.index_mut-pass.ensures.value) in (
      begins_less c.args.passes.now.items c.args.seats.items c.loop-seat.seats.items c.pop.new.self.items c.in-Some.seat kept.0 c.in-Some.ensures.items,
      subst (λ n. AreSeatedFrom (length c.pop.new.self.items) c.args.passes.now.items c.args.seats.items (slice_set c.loop-seat.passes.items n c.sit.new.self)) (sym at)
          (dealt c.args.passes.now.items c.args.seats.items c.loop-seat.seats.items c.pop.new.self.items c.in-Some.seat kept.0 c.in-Some.ensures.items c.loop-seat.passes.items kept.1 c.index_mut-pass.result.now c.sit.new.self here c.in-Ok.ensures),
    )

pub returns : goal.returns
returns g c =
    let none : length c.loop-seat.seats.items ≡ 0 = omega (arith, c.in_default.ensures.cases.0, c.loop-seat.seats.ok.0) in
    subst (λ n. AreSeatedFrom n c.args.passes.now.items c.args.seats.items c.loop-seat.passes.items) none c.loop-seat.invariant.1
