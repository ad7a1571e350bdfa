-- Each field is that of the place.
use Rattle.load_maker.proofs.PlaceLemmas.{entry_made}
use Rattle.load_maker.proofs.places.place_entry.Goals as goal

pub returns : goal.returns
returns c =
    entry_made c.args.number c.place_name-name.result c.in_ok-key.key c.in_ok-asks.asks c.in_ok-sees.sees c.in_ok-offers.offers c.place_name-name.ensures c.in_ok-key.ensures c.in_ok-asks.ensures c.in_ok-sees.ensures c.in_ok-offers.ensures
