use Rattle.std.proofs.Common.{is_some}
use Rattle.phrase_tree.specs.Term.{term}
use Rattle.seal_hmac.specs.Keys.{key_of}
use Rattle.place_check.specs.Places.{keys_of}
use Rattle.checked_sessions.proofs.laws.blocks_have_keys.Goals as goal

pub returns : goal.returns
returns c =
    let keys = keys_of c.args.places.now in
    c.blocks_are_where_events_are.ensures (term c.args.checked.now.phrase) c.args.checked.now.root (λ place. is_some (key_of keys place)) c.checked_session_has_keys.ensures
