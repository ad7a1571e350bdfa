-- The session can be run, and is that of its index.
use Rattle.std.proofs.Common.{◌%◌, ap, ◌∙◌, arith}
use Rattle.phrase_tree.specs.Term.{term}
use Rattle.place_check.specs.Places.{is_place}
use Rattle.load_maker.specs.Places.{made_places}
use Rattle.load_maker.proofs.PlaceLemmas.{each_is_place}
use Rattle.load_maker.proofs.SessionLemmas.{can_run, never_refused, session_made}
use Rattle.load_maker.proofs.sessions.made_session.Goals as goal

pub check-requires-clause-sized : goal.check-requires-clause-sized
check-requires-clause-sized c =
    let can = can_run c.args.places.now c.place_name-root.result (term c.in_ok-phrase.phrase) (c.args.index % 8) c.args.draws.now c.requires c.place_name-root.ensures (omega arith) c.in_ok-phrase.ensures.0 in
    can.2

pub check-requires-clause-rooted : goal.check-requires-clause-rooted
check-requires-clause-rooted c =
    ap (λ list. is_place list c.place_name-root.result) c.requires
    ∙ ap (λ name. is_place made_places name) c.place_name-root.ensures
    ∙ each_is_place (c.args.index % 8) (omega arith)

pub unreachable-requires : goal.unreachable-requires
unreachable-requires c =
    let can = can_run c.args.places.now c.place_name-root.result (term c.in_ok-phrase.phrase) (c.args.index % 8) c.args.draws.now c.requires c.place_name-root.ensures (omega arith) c.in_ok-phrase.ensures.0 in
    never_refused c.args.places.now (record { root = c.place_name-root.result; nonce = c.made_nonce-nonce.result; phrase = term c.in_ok-phrase.phrase }) c.check.result c.in-Err.field-0 c.check.ensures c.in-Err.is can.0 can.1

pub returns : goal.returns
returns c =
    let made = session_made c.args.number c.args.index c.args.draws.now c.four_arms.new.draws c.place_name-root.result c.made_nonce-nonce.result (term c.in_ok-phrase.phrase) c.place_name-root.ensures c.made_nonce-nonce.ensures c.in_ok-phrase.ensures.0 c.in_ok-phrase.ensures.1 in
    (c.in-Ok.ensures.0 ∙ made.0, made.1)
